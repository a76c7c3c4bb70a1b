-- Round trips of the program's own reply writer and link, for every kind of call.
use Prim.Native.Nat.{ℕ, ◌≤◌}
use mathlib.Core.Path.{◌≡◌, refl, sym, ap, subst, ◌∙◌}
use mathlib.Core.Bool.{true}
use mathlib.Core.List.{List, [], ◌∷◌, ◌++◌, map}
use borrow.Author.Tests.{ltb-false, le-ltb}
use lib.Dec.{ltb}
use lib.ListN.{length}
use Rattle.serial_rules.specs.Nest.{nest_of}
use Rattle.serial_rules.specs.Escape.{escaped}
use Rattle.serial_rules.specs.Call.{string_limit, Carrier, serial, carried}
use Rattle.serial_rules.specs.Reply as rules
use Rattle.serial_rules.specs.Link as link
use Rattle.serial_rules.specs.Session.{Input, raw, Told, report, tells, link_after, fill, behind}
use Rattle.serial_rules.proofs.Replies.{written_then_read}
use Rattle.serial_rules.proofs.Normal.{ReplyRewritten, read_then_written}
use Rattle.serial_rules.proofs.Finishing.{Sound, after_sound, wait_in, reply_ends}
use Rattle.fields.specs.Promise.{Written}
use Rattle.fields.specs.Promise.{number}
use Rattle.fields.proofs.Wrote.{wrote, wrote_is, checks}
use Rattle.kind.specs.Kinds.{kind_for}
use Rattle.kind.specs.declared.CallKind.{CallKind}
use Rattle.link.specs.declared.Link.{Link}
use Rattle.link.specs.declared.Stepped.{Stepped}
use Rattle.link.specs.declared.Started.{Started}
use Rattle.link.specs.View.{usable_of, view_of, begun_of, fresh, StepDone, BeginDone}
use Rattle.answers.specs.Reports.{report_of}
use Rattle.reply.specs.declared.Reply.{Reply}
use Rattle.reply.specs.Promise.{Given}
use Rattle.reply.specs.Promise.{reply_for, given_in, ReadDone}
use Rattle.reply.proofs.Laws.{given_is}
use Rattle.reply_writer.specs.Promise.{ReplyWritten}
use Rattle.replies.specs.Sessions.{Sessions}
use Rattle.replies.proofs.Sessions.{as_ruled}

-- the answer 0 says that every check was passed, and the other way round where there is room
pub passed : (c : Carrier) (k : rules.Kind) (r : rules.Reply) (b t : List ℕ) (room : ℕ) → rules.reply_number c k r b t room ≡ 0 → (length t ≤ string_limit) × (rules.reply_ok k r b t ≡ true)
unfolding rules.reply_number
passed c k r b t room e =
    let x = checks (ltb string_limit (length t)) (rules.reply_ok k r b t) (ltb room (length (rules.reply_encoding c r b t))) e in
    (ltb-false string_limit (length t) x.0, x.1)

accepted : (c : Carrier) (k : rules.Kind) (r : rules.Reply) (b t : List ℕ) (room : ℕ) → length t ≤ string_limit → rules.reply_ok k r b t ≡ true
    → length (rules.reply_encoding c r b t) ≤ room → rules.reply_number c k r b t room ≡ 0
unfolding rules.reply_number
accepted c k r b t room short ok h = simp (le-ltb _ _ short, ok, le-ltb _ _ h)

pub fresh_view : (lent own : List ℕ) → view_of fresh lent own ≡ link.fresh
unfolding usable_of nest_of
fresh_view lent own = refl

-- What a client's link makes of the bytes w that a host wrote for its call, whatever inputs i follow: need-more until the last byte, which
-- finishes the reply with the bytes s; where the reply has no byte, the call is complete when begun. And s means that reply.
pub record ReplyToCall (k : rules.Kind) (g : rules.Given) (s w : List ℕ) (begun : link.Begun) (i : List Input) (told : List Told) : Type 0 where
  pub complete : rules.longest (rules.shape_of k) ≡ 0 → (begun ≡ link.complete) × (w ≡ [])
  pub waits : (rules.longest (rules.shape_of k) ≡ 0 → ⊥) → begun ≡ link.begun
  pub told_is : (rules.longest (rules.shape_of k) ≡ 0 → ⊥) → told ≡ fill (report link.need_more) (behind (map raw w)) ++ (report (link.reply s) ∷ tells link.fresh i)
  pub meaning : rules.reply_read k s ≡ g

-- Writing then reading, for a link begun with the call's kind.
pub written_read : (kind kind' : CallKind) (reply : Reply) (b t out : List ℕ) {left lent own lent-end own-end : List ℕ} {r : Written} {o : Started} {q : Link} (i : List Input) {told : List Told}
    → ReplyWritten serial kind reply b t out r left → number r ≡ 0 → kind_for kind ≡ kind_for kind' → BeginDone fresh kind' o
    → Sessions o.link lent own (map raw (wrote r left) ++ i) told q lent-end own-end
    → ReplyToCall (kind_for kind') (rules.given (reply_for reply) b t) (rules.reply_bytes (reply_for reply) b t) (wrote r left) (begun_of o.answer) i told
unfolding escaped rules.reply_encoding
written_read kind kind' reply b t out {left = left} {lent = lent} {own = own} {r = r} i d e same begin session =
    let p = passed serial (kind_for kind) (reply_for reply) b t (length out) (sym d.answer ∙ e) in
    let w = wrote_is d e in
    let k = kind_for kind' in
    let a = written_then_read k (reply_for reply) b t i (subst (λ (x : rules.Kind). rules.reply_ok x (reply_for reply) b t ≡ true) same p.1) p.0 in
    let from = ap (λ (v : link.Link). link.begin v k) (fresh_view lent own) in
    let said = begin.answer lent own ∙ ap (λ (x : link.Start). x.answer) from in
    let at = begin.next lent own ∙ ap (λ (x : link.Start). x.next) from in
    let u = as_ruled session in
    record {
      complete = λ z. (said ∙ ap (λ (x : link.Start). x.answer) (a.complete z).0, w ∙ ap escaped (a.complete z).1);
      waits = λ z. said ∙ ap (λ (x : link.Start). x.answer) (a.waits z);
      told_is = λ z. u.told_is ∙ ap (λ (v : link.Link). tells v (map raw (wrote r left) ++ i)) (at ∙ ap (λ (x : link.Start). x.next) (a.waits z)) ∙ rw w (a.told z);
      meaning = a.meaning;
    }

-- A reply read from the bytes s by its kind is written in its normal bytes, on either carrier.
pub rewrites : (c : Carrier) (kind : CallKind) (g : Given) {s out after : List ℕ} {r : Written} → ReplyRewritten (kind_for kind) s → ReadDone kind s g
    → ReplyWritten c kind g.said (given_in g s).block (given_in g s).text out r after → length (carried c (rules.normal_of (kind_for kind) s)) ≤ length out
    → (number r ≡ 0) × (wrote r after ≡ carried c (rules.normal_of (kind_for kind) s))
unfolding rules.reply_encoding
rewrites c kind g {s = s} {out = out} {r = r} z fields d room =
    let k = kind_for kind in
    let is = given_is fields in
    let bytes : rules.reply_bytes (given_in g s).reply (given_in g s).block (given_in g s).text ≡ rules.normal_of k s =
    ap (λ (y : rules.Given). rules.reply_bytes y.reply y.block y.text) is ∙ z.bytes in
    let ok : rules.reply_ok k (given_in g s).reply (given_in g s).block (given_in g s).text ≡ true =
    ap (λ (y : rules.Given). rules.reply_ok k y.reply y.block y.text) is ∙ z.fits in
    let short : length (given_in g s).text ≤ 255 = subst (λ (y : rules.Given). length y.text ≤ 255) (sym is) z.short in
    let zero : number r ≡ 0 =
    d.answer ∙ accepted c k (given_in g s).reply (given_in g s).block (given_in g s).text (length out) short ok (subst (λ (l : List ℕ). length (carried c l) ≤ length out) (sym bytes) room) in
    (zero, wrote_is d zero ∙ ap (carried c) bytes)

-- Reading then writing. A reply that the link finished, at any place of any session, with its fields read by the kind of the call that
-- waited: the writer accepts it wherever there is room for it, and writes those bytes in their normal form, actions left out.
pub read_written : {lent own lent-end own-end lent-left own-left s out after : List ℕ} {i : List Input} {told : List Told} {q : Link} {x : ℕ} {o : Stepped} {r : Written}
    (kind : CallKind) (g : Given) → Sessions fresh lent own i told q lent-end own-end → wait_in (view_of q lent-end own-end) ≡ link.waiting (kind_for kind)
    → StepDone q lent-end own-end x o lent-left own-left → report_of o.answer lent-left own-left ≡ link.reply s → ReadDone kind s g
    → ReplyWritten serial kind g.said (given_in g s).block (given_in g s).text out r after → length (escaped (rules.normal_of (kind_for kind) s)) ≤ length out
    → (number r ≡ 0) × (wrote r after ≡ escaped (rules.normal_of (kind_for kind) s))
read_written {lent = lent} {own = own} {lent-end = lent-end} {own-end = own-end} {s = s} {out = out} {i = i} {q = q} {x = x} {r = r} kind g session waits step said fields d room =
    let k = kind_for kind in
    let v = view_of q lent-end own-end in
    let u = as_ruled session in
    let from = u.left ∙ ap (λ (w : link.Link). link_after w i) (fresh_view lent own) in
    let sound = subst (λ (w : link.Link). Sound w) (sym from) (after_sound link.fresh i tt) in
    let f = reply_ends v x k s sound waits (sym step.answer ∙ said) in
    rewrites serial kind g (read_then_written k s f.ends f.some) fields d room
