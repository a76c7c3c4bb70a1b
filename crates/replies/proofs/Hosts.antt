-- Whatever a host puts into a reply by the rules of host_rules, a client's link gives back: about the programs' own writers and link, over whole streams.
use Prim.Native.Nat.{ℕ}
use mathlib.Core.Path.{◌≡◌, refl, sym, ap, subst, ◌∙◌}
use mathlib.Core.Bool.{true}
use mathlib.Core.List.{List, [], ◌∷◌, ◌++◌, map, map-append, append_assoc}
use lib.Dec.{ltb, leb}
use lib.ListN.{length}
use borrow.Author.Tests.{ltb-false, le-leb}
use Rattle.serial_rules.specs.Escape.{escaped}
use Rattle.serial_rules.specs.Call.{string_limit, serial}
use Rattle.serial_rules.specs.Reply as rules
use Rattle.serial_rules.specs.Link as link
use Rattle.serial_rules.specs.Session.{Input, raw, Told, report, tells, link_after, inside, between}
use Rattle.serial_rules.proofs.Escape.{escaped_append}
use Rattle.serial_rules.proofs.Ends.{Ends}
use Rattle.serial_rules.proofs.Replies.{reply_whole, reply_none, reply_back, written_then_read}
use Rattle.host_rules.specs.Actions as host
use Rattle.host_rules.specs.Actions.{sent_raw, sent_ok, sent_number}
use Rattle.host_rules.specs.Streams.{Item, replying, loading, item_raw, raw_of, sendable, all_sendable, may_act, stands, closes, reply_in, ActionHeard, Heard}
use Rattle.host_rules.proofs.Actions.{action_heard}
use Rattle.host_rules.proofs.Streams.{reply_some, host_heard}
use Rattle.fields.specs.Promise.{Written}
use Rattle.fields.specs.Promise.{number}
use Rattle.fields.proofs.Wrote.{wrote, wrote_is, checks}
use Rattle.kind.specs.Kinds.{kind_for}
use Rattle.kind.specs.declared.CallKind.{CallKind}
use Rattle.link.specs.declared.Link.{Link}
use Rattle.link.specs.declared.Started.{Started}
use Rattle.link.specs.View.{view_of, begun_of, fresh, BeginDone}
use Rattle.action_parts.specs.declared.Sent.{Sent}
use Rattle.action_parts.specs.Parts.{sent_for}
use Rattle.action_writer.specs.Promise.{ActionWritten}
use Rattle.reply.specs.declared.Reply.{Reply}
use Rattle.reply.specs.Promise.{reply_for}
use Rattle.reply_writer.specs.Promise.{ReplyWritten}
use Rattle.replies.specs.Sessions.{Sessions}
use Rattle.replies.specs.Sessions as session
use Rattle.replies.specs.Sends.{Sends, Slices}
use Rattle.replies.specs.Sends as sent
use Rattle.replies.proofs.Sessions.{as_ruled, loop_session}
use Rattle.replies.proofs.Trips.{passed, fresh_view}

-- an action that was written is one that the rules take
taken : (a : host.Sent) (b t : List ℕ) (room : ℕ) → sent_number a b t room ≡ 0 → (leb (length t) string_limit ≡ true) × (sent_ok a b t ≡ true)
unfolding sent_number
taken a b t room e =
    let x = checks (ltb string_limit (length t)) (sent_ok a b t) (ltb room (length (sent_raw a b t))) e in
    (le-leb _ _ (ltb-false string_limit (length t) x.0), x.1)

-- data bytes one by one, of the reply or of a load
module _ (item : ℕ → Item) (is-raw : (b : ℕ) → item_raw (item b) ≡ escaped (b ∷ [])) (is-sendable : (b : ℕ) → sendable (item b) ≡ true) where
  bytes_raw : (bytes : List ℕ) (is : List Item) → raw_of (map item bytes ++ is) ≡ escaped bytes ++ raw_of is
  unfolding raw_of escaped
  bytes_raw [] is = refl
  bytes_raw (b ∷ bytes) is =
      rw (is-raw b)
      (ap (λ (l : List ℕ). escaped (b ∷ []) ++ l) (bytes_raw bytes is)
      ∙ sym (append_assoc (escaped (b ∷ [])) (escaped bytes) (raw_of is))
      ∙ ap (λ (l : List ℕ). l ++ raw_of is) (sym (escaped_append (b ∷ []) bytes)))

  bytes_sendable : (bytes : List ℕ) (is : List Item) → all_sendable is ≡ true → all_sendable (map item bytes ++ is) ≡ true
  unfolding all_sendable
  bytes_sendable [] is h = h
  bytes_sendable (b ∷ bytes) is h = rw (is-sendable b) (bytes_sendable bytes is h)

-- what was sent are the raw bytes of the items, and each action is one that the rules take
sends_raw : {is : List Item} {raws : List ℕ} → Sends is raws → raws ≡ raw_of is
unfolding raw_of
sends_raw sent.stop = refl
sends_raw (sent.acts {left = left} {raw = raws} {r = r} action b t d e s) =
    ap (λ (l : List ℕ). l ++ raws) (wrote_is d e) ∙ ap (λ (l : List ℕ). sent_raw (sent_for action) b t ++ l) (sends_raw s)
sends_raw (sent.loads {left = left} {raw = raws} {r = r} {is = is} bytes d e s) =
    ap (λ (l : List ℕ). l ++ raws) (wrote_is d e) ∙ ap (λ (l : List ℕ). escaped bytes ++ l) (sends_raw s) ∙ sym (bytes_raw loading (λ b. refl) (λ b. refl) bytes is)
sends_raw (sent.cuts {is = is} bytes s) = ap (λ (l : List ℕ). escaped bytes ++ l) (sends_raw s) ∙ sym (bytes_raw replying (λ b. refl) (λ b. refl) bytes is)

sends_sendable : {is : List Item} {raws : List ℕ} → Sends is raws → all_sendable is ≡ true
unfolding all_sendable
sends_sendable sent.stop = refl
sends_sendable (sent.acts {out = out} action b t d e s) =
    let k = taken (sent_for action) b t (length out) (sym d.answer ∙ e) in
    rw (k.0, k.1) (sends_sendable s)
sends_sendable (sent.loads {is = is} bytes d e s) = bytes_sendable loading (λ b. refl) (λ b. refl) bytes is (sends_sendable s)
sends_sendable (sent.cuts {is = is} bytes s) = bytes_sendable replying (λ b. refl) (λ b. refl) bytes is (sends_sendable s)

-- One action, as the writer left it, read at any place between the parts of a stream.
pub action_read : {l q : Link} {reply own reply-end own-end left : List ℕ} {r : Written} {told : List Told} (o : List link.Transfer) (f : link.Frame) (action : Sent) (b t out : List ℕ) (i : List Input)
    → ActionWritten action b t out r left → number r ≡ 0 → may_act o (sent_for action) ≡ true → view_of l reply own ≡ link.live (inside o) f
    → Sessions l reply own (map raw (wrote r left) ++ i) told q reply-end own-end → ActionHeard o f (sent_for action) b t i told (view_of q reply-end own-end)
action_read {left = left} {r = r} o f action b t out i d e may at s =
    let k = taken (sent_for action) b t (length out) (sym d.answer ∙ e) in
    let h = action_heard o f (sent_for action) b t k.0 k.1 may i in
    let u = as_ruled s in
    record {
      told_is =
          u.told_is
          ∙ ap (λ (v : link.Link). tells v (map raw (wrote r left) ++ i)) at
          ∙ ap (λ (w : List ℕ). tells (link.live (inside o) f) (map raw w ++ i)) (wrote_is d e)
          ∙ h.told_is;
      left =
          u.left
          ∙ ap (λ (v : link.Link). link_after v (map raw (wrote r left) ++ i)) at
          ∙ ap (λ (w : List ℕ). link_after (link.live (inside o) f) (map raw w ++ i)) (wrote_is d e)
          ∙ h.left;
    }

-- A host wrote a reply of a call's kind, cut it, and sent it with actions and load data in it by the rules; the client's link, begun with its call, reads all of
-- it. It waits; the cuts, joined, are what `write_reply` left (w); all that was sent is heard, and the reply means what the host gave.
pub record Served (k : rules.Kind) (g : rules.Given) (is : List Item) (w : List ℕ) (begun : link.Begun) (told : List Told) (end : link.Link) : Type 0 where
  pub waits : begun ≡ link.begun
  pub cut : escaped (reply_in is) ≡ w
  pub heard : Heard is told end
  pub meaning : rules.reply_read k (reply_in is) ≡ g

pub served : {left lent own lent-end own-end raws : List ℕ} {r : Written} {o : Started} {q : Link} {told : List Told} (kind kind' : CallKind) (reply : Reply) (b t out : List ℕ) (is : List Item)
    → ReplyWritten serial kind reply b t out r left → number r ≡ 0 → kind_for kind ≡ kind_for kind' → BeginDone fresh kind' o
    → Sends is raws → reply_in is ≡ rules.reply_bytes (reply_for reply) b t → stands [] is ≡ true → closes is ≡ true
    → Sessions o.link lent own (map raw raws) told q lent-end own-end
    → Served (kind_for kind') (rules.given (reply_for reply) b t) is (wrote r left) (begun_of o.answer) told (view_of q lent-end own-end)
unfolding rules.reply_encoding
served {left = left} {lent = lent} {own = own} {raws = raws} {r = r} kind kind' reply b t out is d e same begin s whole st c session =
    let k = kind_for kind' in
    let p = passed serial (kind_for kind) (reply_for reply) b t (length out) (sym d.answer ∙ e) in
    let ok = subst (λ (x : rules.Kind). rules.reply_ok x (reply_for reply) b t ≡ true) same p.1 in
    let some : rules.longest (rules.shape_of k) ≡ 0 → ⊥ = λ z. reply_some is c (whole ∙ reply_none k (reply_for reply) b t ok z) in
    let ends = subst (Ends (rules.shape_of k) 0) (sym whole) (reply_whole k (reply_for reply) b t ok p.0 some) in
    let h = host_heard k is st c (sends_sendable s) ends in
    let a = written_then_read k (reply_for reply) b t [] ok p.0 in
    let from = ap (λ (v : link.Link). link.begin v k) (fresh_view lent own) in
    let waiting = from ∙ a.waits some in
    let at = begin.next lent own ∙ ap (λ (x : link.Start). x.next) waiting in
    let v = link.live between (link.frame (link.waiting k) []) in
    let u = as_ruled session in
    let told_is = u.told_is ∙ ap (λ (x : link.Link). tells x (map raw raws)) at ∙ ap (λ (l : List ℕ). tells v (map raw l)) (sends_raw s) in
    let end_is = u.left ∙ ap (λ (x : link.Link). link_after x (map raw raws)) at ∙ ap (λ (l : List ℕ). link_after v (map raw l)) (sends_raw s) in
    record {
      waits = begin.answer lent own ∙ ap (λ (x : link.Start). x.answer) waiting;
      cut = ap escaped whole ∙ sym (wrote_is d e);
      heard = rw (sym told_is, sym end_is) at h;
      meaning = ap (rules.reply_read k) whole ∙ reply_back k (reply_for reply) b t ok;
    }

-- sessions joined, and slices that the loop reads: the same holds of them
pub joined : {l m q : Link} {reply own reply-left own-left reply-end own-end : List ℕ} {s u : List Input} {told more : List Told}
    → Sessions l reply own s told m reply-left own-left → Sessions m reply-left own-left u more q reply-end own-end → Sessions l reply own (s ++ u) (told ++ more) q reply-end own-end
joined session.stop w = w
joined (session.took d t) w = session.took d (joined t w)
joined (session.began d t) w = session.began d (joined t w)

pub slices_session : {l q : Link} {reply own reply-end own-end raws : List ℕ} {reports : List link.Report} → Slices l reply own raws reports q reply-end own-end
    → Sessions l reply own (map raw raws) (map report reports) q reply-end own-end
slices_session sent.stop = session.stop
slices_session {l} {q} {reply} {own} {reply-end} {own-end} (sent.ran {raw = x} {others = y} {reports = s} {told = t} d w) =
    subst (λ (i : List Input). Sessions l reply own i (map report (s ++ t)) q reply-end own-end) (sym (map-append raw x y))
    (subst (λ (m : List Told). Sessions l reply own (map raw x ++ map raw y) m q reply-end own-end) (sym (map-append report s t)) (joined (loop_session d) (slices_session w)))

pub served_in_slices : {left lent own lent-end own-end raws : List ℕ} {r : Written} {o : Started} {q : Link} {reports : List link.Report} (kind kind' : CallKind) (reply : Reply) (b t out : List ℕ) (is : List Item)
    → ReplyWritten serial kind reply b t out r left → number r ≡ 0 → kind_for kind ≡ kind_for kind' → BeginDone fresh kind' o
    → Sends is raws → reply_in is ≡ rules.reply_bytes (reply_for reply) b t → stands [] is ≡ true → closes is ≡ true
    → Slices o.link lent own raws reports q lent-end own-end
    → Served (kind_for kind') (rules.given (reply_for reply) b t) is (wrote r left) (begun_of o.answer) (map report reports) (view_of q lent-end own-end)
served_in_slices kind kind' reply b t out is d e same begin s whole st c slices = served kind kind' reply b t out is d e same begin s whole st c (slices_session slices)
