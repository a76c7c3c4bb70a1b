-- A host's stream that keeps the rules, as a client's link reads it.
use Prim.Native.Nat.{ℕ, suc}
use mathlib.Core.Path.{◌≡◌, refl, sym, ap, ◌∙◌}
use mathlib.Core.Bool.{Bool, true, false, cond, not, ◌&&◌, ◌||◌, true≢false}
use mathlib.Core.List.{List, [], ◌∷◌, ◌++◌, map, map-append, append_assoc}
use native.Mathlib.Omega.{arith}
use lib.Dec.{eqb, leb}
use lib.ListN.{length}
use borrow.Author.Tests.{eq-eqb}
use Rattle.serial_rules.specs.Call.{string_limit}
use Rattle.serial_rules.specs.Body.{more, done}
use Rattle.serial_rules.specs.Reply.{Kind, Shape, shape_of, shape_turn}
use Rattle.serial_rules.specs.Link as link
use Rattle.serial_rules.specs.Link.{Transfer, load, save, Report, need_more, character, reply, loaded, Token, datum, acted, failed, Frame, frame, idle_frame, waiting, halted, holds, Met, met, reply_turned, meets, live, link_at, fresh}
use Rattle.serial_rules.specs.Session.{Input, raw, Told, report, tells, link_after, Sign, token, says, stands_after, open_after, open_in, good, all_good, inputs_of, inputs, signs_of, fill, behind, spread, inside, between}
use Rattle.serial_rules.proofs.Trip.{and_both, or_false}
use Rattle.serial_rules.proofs.Session.{layers_told}
use Rattle.serial_rules.proofs.Parts.{length_snoc}
use Rattle.serial_rules.proofs.Ends.{Ends, last, next}
use Rattle.serial_rules.proofs.Actions.{parts_said, parts_left}
use Rattle.host_rules.specs.Actions.{Sent, failing, restarting, escape_state, event, address, control, ending, sent_ok, part_of}
use Rattle.host_rules.specs.Streams.{Item, replying, loading, acting, part_for, item_raw, raw_of, sendable, all_sendable, may_act, may_stand, stands, closes, reply_in, telling, sent_in, ends_call, fails_in, behind_error, reply_told, hears, sort_of, told_in, Heard}
use Rattle.host_rules.proofs.Actions.{sent_raw_lem, sent_good, sent_sign, sent_meets}

-- a reply byte that is the last, and one that is not
ends_last : {shape : Shape} {n b : ℕ} → Ends shape n (b ∷ []) → shape_turn shape n b ≡ done
ends_last (last n b d) = d
ends_last (next _ _ _ _ w) = elim w [ ]

ends_next : {shape : Shape} {n b : ℕ} {s : List ℕ} → Ends shape n (b ∷ s) → (s ≡ [] → ⊥) → (shape_turn shape n b ≡ more) × Ends shape (suc n) s
ends_next (last n b d) z = absurd (z refl)
ends_next (next n b s m w) z = (m, w)

-- Before a part of a stream: the call waits for the rest of its reply s; or it is over.
data Ready : Frame → Bool → List ℕ → List ℕ → Type 0 where
  waits : (k : Kind) (n : ℕ) (got rest s : List ℕ) → n ≡ length got → s ≡ got ++ rest → Ends (shape_of k) n rest → Ready (frame (waiting k) got) true rest s
  over : (rest s : List ℕ) → Ready idle_frame false rest s

last_met : {f : Frame} {w : Bool} {b : ℕ} {s : List ℕ} → Ready f w (b ∷ []) s → meets f (datum b) ≡ met (reply_told w s b []) (holds idle_frame)
unfolding meets
last_met (waits k n got (b ∷ []) s e i d) =
    ap (reply_turned k got b) (ap (λ (m : ℕ). shape_turn (shape_of k) m b) (sym e) ∙ ends_last d) ∙ ap (λ (l : List ℕ). met (reply l) (holds idle_frame)) (sym i)
last_met (over rest s) = refl

next_met : {f : Frame} {w : Bool} {b : ℕ} {rest s : List ℕ} (j : Item) (is : List Item) → Ready f w (b ∷ rest) s → (rest ≡ [] → ⊥)
    → (g : Frame) × (meets f (datum b) ≡ met (reply_told w s b (j ∷ is)) (holds g)) × Ready g w rest s
unfolding meets
next_met j is (waits k n got (b ∷ rest) s e i d) z =
    let q = ends_next d z in (
      frame (waiting k) (got ++ (b ∷ [])),
      ap (reply_turned k got b) (ap (λ (m : ℕ). shape_turn (shape_of k) m b) (sym e) ∙ q.0),
      waits k (suc n) (got ++ (b ∷ [])) rest s (ap suc e ∙ sym (length_snoc got b)) (i ∙ sym (append_assoc got (b ∷ []) rest)) q.1,
    )
next_met j is (over (b ∷ rest) s) z = (idle_frame, refl, over rest s)

-- a stream ends with a byte of its reply
pub reply_some : (is : List Item) → closes is ≡ true → reply_in is ≡ [] → ⊥
unfolding closes reply_in
reply_some [] c e = true≢false (sym c)
reply_some (replying b ∷ is) c e = let z : ◌≡◌ {A = ℕ} 0 1 = cc in omega arith
reply_some (loading b ∷ []) c e = true≢false (sym c)
reply_some (loading b ∷ j ∷ is) c e = reply_some (j ∷ is) c e
reply_some (acting a b t ∷ []) c e = true≢false (sym c)
reply_some (acting a b t ∷ j ∷ is) c e = reply_some (j ∷ is) c e

-- what is told on the items, and what it leaves
record Hears (f : Frame) (w : Bool) (s : List ℕ) (o : List Transfer) (is : List Item) : Type 0 where
  told : says (holds f) (signs_of o (map part_for is)) ≡ hears w s o is
  left : stands_after (holds f) (signs_of o (map part_for is)) ≡ holds idle_frame

-- the same with one item before them, whose sign is the token t
module _ (f : Frame) {g : Frame} {w : Bool} {s : List ℕ} {o : List Transfer} {is : List Item} {sign : Sign} {t : Token} {r : Report} (e : sign ≡ token t) (q : meets f t ≡ met r (holds g))
    (h : Hears g w s o is) where
  step_told : says (holds f) (sign ∷ signs_of o (map part_for is)) ≡ report r ∷ hears w s o is
  unfolding says
  step_told =
      let l = signs_of o (map part_for is) in
      ap (λ (x : Sign). says (holds f) (x ∷ l)) e ∙ ap (λ (m : Met). report m.report ∷ says m.next l) q ∙ ap (λ (u : List Told). report r ∷ u) h.told

  step_left : stands_after (holds f) (sign ∷ signs_of o (map part_for is)) ≡ holds idle_frame
  unfolding stands_after
  step_left =
      let l = signs_of o (map part_for is) in
      ap (λ (x : Sign). stands_after (holds f) (x ∷ l)) e ∙ ap (λ (m : Met). stands_after m.next l) q ∙ h.left

acted_met : (f : Frame) (r : Report) → meets f (acted r) ≡ met r (holds f)
unfolding meets
acted_met f r = refl

-- an action leaves the call ready for the same bytes, or ends it
acted_ready : {f : Frame} {w : Bool} {rest s : List ℕ} (a : Sent) → Ready f w rest s → Ready (cond (ends_call a) idle_frame f) (not (ends_call a) && w) rest s
acted_ready {rest = rest} {s = s} (failing n) r = over rest s
acted_ready {rest = rest} {s = s} restarting r = over rest s
acted_ready (escape_state on) r = r
acted_ready (event y x a) r = r
acted_ready (address t b3 b2 b1 b0) r = r
acted_ready control r = r
acted_ready ending r = r

nothing_heard : (w : Bool) (s : List ℕ) → Hears idle_frame w s [] []
unfolding says stands_after signs_of hears
nothing_heard w s = record { told = refl; left = refl }

items_heard : (f : Frame) (w : Bool) (s : List ℕ) (o : List Transfer) (is : List Item) → stands o is ≡ true → closes is ≡ true → all_sendable is ≡ true → Ready f w (reply_in is) s
    → Hears f w s o is
unfolding stands closes all_sendable reply_in signs_of hears
items_heard f w s o [] st c ok r = absurd (true≢false (sym c))
items_heard f w s [] (replying b ∷ []) st c ok r =
    let q = last_met r in
    let h = nothing_heard w s in
    record { told = step_told f refl q h; left = step_left f refl q h }
items_heard f w s [] (replying b ∷ j ∷ is) st c ok r =
    let n = next_met j is r (reply_some (j ∷ is) c) in
    let h = items_heard n.0 w s [] (j ∷ is) st c ok n.2 in
    record { told = step_told f refl n.1 h; left = step_left f refl n.1 h }
items_heard f w s (x ∷ o) (replying b ∷ is) st c ok r = absurd (true≢false (sym st))
items_heard f w s o (loading b ∷ []) st c ok r = absurd (true≢false (sym c))
items_heard f w s [] (loading b ∷ j ∷ is) st c ok r = absurd (true≢false (sym st))
items_heard f w s (load ∷ o) (loading b ∷ j ∷ is) st c ok r =
    let q = acted_met f (loaded b) in
    let h = items_heard f w s (load ∷ o) (j ∷ is) st c ok r in
    record { told = step_told f refl q h; left = step_left f refl q h }
items_heard f w s (save ∷ o) (loading b ∷ j ∷ is) st c ok r = absurd (true≢false (sym st))
items_heard f w s o (acting a b t ∷ []) st c ok r = absurd (true≢false (sym c))
items_heard f w s o (acting a b t ∷ j ∷ is) st c ok r =
    let m = open_after o (part_of a b t) in
    let p = and_both (may_act o a) (stands m (j ∷ is)) st in
    let k = and_both (leb (length t) string_limit && sent_ok a b t) (all_sendable (j ∷ is)) ok in
    let g = and_both (leb (length t) string_limit) (sent_ok a b t) k.0 in
    let e = sent_sign o a b t g.1 p.0 in
    let q = sent_meets o f a b t in
    let h = items_heard (cond (ends_call a) idle_frame f) (not (ends_call a) && w) s m (j ∷ is) p.1 c k.1 (acted_ready a r) in
    record { told = step_told f e q h; left = step_left f e q h }

-- the raw bytes of items are those of their parts
item_raw_lem : (i : Item) → sendable i ≡ true → map raw (item_raw i) ≡ inputs_of (part_for i)
item_raw_lem (replying b) k = refl
item_raw_lem (loading b) k = refl
item_raw_lem (acting a b t) k = sent_raw_lem a b t (and_both (leb (length t) string_limit) (sent_ok a b t) k).1

items_raw : (is : List Item) → all_sendable is ≡ true → map raw (raw_of is) ≡ inputs (map part_for is)
unfolding raw_of all_sendable inputs
items_raw [] ok = refl
items_raw (i ∷ is) ok =
    let k = and_both (sendable i) (all_sendable is) ok in
    map-append raw (item_raw i) (raw_of is)
    ∙ ap (λ (l : List Input). l ++ map raw (raw_of is)) (item_raw_lem i k.0)
    ∙ ap (λ (l : List Input). inputs_of (part_for i) ++ l) (items_raw is k.1)

-- the parts of such a stream are good, and none is open behind it
item_good : (o : List Transfer) (i : Item) → may_stand o i ≡ true → sendable i ≡ true → good o (part_for i) ≡ true
item_good [] (replying b) m k = refl
item_good (x ∷ o) (replying b) m k = absurd (true≢false (sym m))
item_good [] (loading b) m k = absurd (true≢false (sym m))
item_good (x ∷ o) (loading b) m k = m
item_good o (acting a b t) m k = let g = and_both (leb (length t) string_limit) (sent_ok a b t) k in sent_good o a b t g.0 g.1 m

items_good : (o : List Transfer) (is : List Item) → stands o is ≡ true → all_sendable is ≡ true → all_good o (map part_for is) ≡ true
unfolding stands all_sendable all_good
items_good o [] st ok = refl
items_good o (i ∷ is) st ok =
    let p = and_both (may_stand o i) (stands (open_after o (part_for i)) is) st in
    let k = and_both (sendable i) (all_sendable is) ok in
    rw (item_good o i p.0 k.0) (items_good (open_after o (part_for i)) is p.1 k.1)

items_closed : (o : List Transfer) (is : List Item) → stands o is ≡ true → closes is ≡ true → open_in o (map part_for is) ≡ []
unfolding stands closes open_in
items_closed o [] st c = absurd (true≢false (sym c))
items_closed [] (replying b ∷ []) st c = refl
items_closed (x ∷ o) (replying b ∷ []) st c = absurd (true≢false (sym st))
items_closed o (loading b ∷ []) st c = absurd (true≢false (sym c))
items_closed o (acting a b t ∷ []) st c = absurd (true≢false (sym c))
items_closed o (i ∷ j ∷ is) st c = let p = and_both (may_stand o i) (stands (open_after o (part_for i)) (j ∷ is)) st in items_closed (open_after o (part_for i)) (j ∷ is) p.1 c

-- need-more is of another sort than what is looked for
fill_sort : (n : ℕ) (s : List Input) (l : List Told) → eqb 0 n ≡ false → told_in n (fill (report need_more) s ++ l) ≡ told_in n l
unfolding told_in
fill_sort n [] l z = refl
fill_sort n (i ∷ s) l z = rw z (fill_sort n s l z)

sort_next : (n : ℕ) (r : Report) (l m : List Told) → told_in n l ≡ told_in n m → told_in n (report r ∷ l) ≡ told_in n (report r ∷ m)
unfolding told_in
sort_next n r l m e = ap (λ (x : List Report). cond (eqb (sort_of r) n) (r ∷ x) x) e

one_sort : (n : ℕ) (i : Item) (is : List Item) (r : Report) (l : List Told) → eqb 0 n ≡ false → told_in n (spread (map part_for is) l) ≡ told_in n l
    → told_in n (spread (map part_for (i ∷ is)) (report r ∷ l)) ≡ told_in n (report r ∷ l)
unfolding spread
one_sort n i is r l z e =
    let k = spread (map part_for is) l in
    fill_sort n (behind (inputs_of (part_for i))) (report r ∷ k) z ∙ sort_next n r k l e

spread_sort : (n : ℕ) (w : Bool) (s : List ℕ) (o : List Transfer) (is : List Item) → eqb 0 n ≡ false → told_in n (spread (map part_for is) (hears w s o is)) ≡ told_in n (hears w s o is)
unfolding spread hears
spread_sort n w s o [] z = refl
spread_sort n w s o (replying b ∷ is) z = one_sort n (replying b) is (reply_told w s b is) (hears w s o is) z (spread_sort n w s o is z)
spread_sort n w s o (loading b ∷ is) z = one_sort n (loading b) is (loaded b) (hears w s o is) z (spread_sort n w s o is z)
spread_sort n w s o (acting a b t ∷ is) z =
    let v = not (ends_call a) && w in
    let m = open_after o (part_of a b t) in
    one_sort n (acting a b t) is (telling o a b t) (hears v s m is) z (spread_sort n v s m is z)

-- the sort of each report
failure_sort : (n : ℕ) (t : List ℕ) → sort_of (link.failure n t) ≡ 1
failure_sort n (x ∷ t) = refl
failure_sort n [] = go (eqb n 0)
  where
    go : (k : Bool) → sort_of (cond k link.restart (link.error n [])) ≡ 1
    go true = refl
    go false = refl

telling_sort : (o : List Transfer) (a : Sent) (b t : List ℕ) → may_act o a ≡ true → sort_of (telling o a b t) ≡ 1
telling_sort o (failing n) b t m = failure_sort n t
telling_sort o restarting b t m = refl
telling_sort o (escape_state on) b t m = refl
telling_sort o (event y x a) b t m = refl
telling_sort o (address g b3 b2 b1 b0) b t m = refl
telling_sort o control b t m = refl
telling_sort [] ending b t m = absurd (true≢false (sym m))
telling_sort (g ∷ o) ending b t m = refl

-- what is told of one sort and not of another
sort_told : (n : ℕ) (r : Report) (l : List Told) → sort_of r ≡ n → told_in n (report r ∷ l) ≡ r ∷ told_in n l
unfolding told_in
sort_told n r l e = rw (e, eqb_same n)
  where
    eqb_same : (n : ℕ) → eqb n n ≡ true
    eqb_same n = eq-eqb n n refl

sort_passed : (n m : ℕ) (r : Report) (l : List Told) → sort_of r ≡ m → eqb m n ≡ false → told_in n (report r ∷ l) ≡ told_in n l
unfolding told_in
sort_passed n m r l e z = rw (e, z)

reply_sort : (w : Bool) (s : List ℕ) (b : ℕ) (is : List Item) (l : List Told) → told_in 1 (report (reply_told w s b is) ∷ l) ≡ told_in 1 l
unfolding told_in
reply_sort false s b is l = refl
reply_sort true s b [] l = refl
reply_sort true s b (i ∷ is) l = refl

-- "the same actions and load data"
acts_told : (w : Bool) (s : List ℕ) (o : List Transfer) (is : List Item) → stands o is ≡ true → told_in 1 (hears w s o is) ≡ sent_in o is
unfolding hears sent_in stands told_in
acts_told w s o [] st = refl
acts_told w s o (replying b ∷ is) st =
    reply_sort w s b is (hears w s o is) ∙ acts_told w s o is (and_both (may_stand o (replying b)) (stands o is) st).1
acts_told w s o (loading b ∷ is) st = ap (λ (l : List Report). loaded b ∷ l) (acts_told w s o is (and_both (may_stand o (loading b)) (stands o is) st).1)
acts_told w s o (acting a b t ∷ is) st =
    let m = open_after o (part_of a b t) in
    let p = and_both (may_act o a) (stands m is) st in
    let v = not (ends_call a) && w in
    sort_told 1 (telling o a b t) (hears v s m is) (telling_sort o a b t p.0) ∙ ap (λ (l : List Report). telling o a b t ∷ l) (acts_told v s m is p.1)

-- behind an error or restart: characters
characters_told : (s : List ℕ) (o : List Transfer) (is : List Item) → stands o is ≡ true → told_in 2 (hears false s o is) ≡ map character (reply_in is)
unfolding hears stands told_in reply_in
characters_told s o [] st = refl
characters_told s o (replying b ∷ is) st = ap (λ (l : List Report). character b ∷ l) (characters_told s o is (and_both (may_stand o (replying b)) (stands o is) st).1)
characters_told s o (loading b ∷ is) st = characters_told s o is (and_both (may_stand o (loading b)) (stands o is) st).1
characters_told s o (acting a b t ∷ is) st =
    let m = open_after o (part_of a b t) in
    let p = and_both (may_act o a) (stands m is) st in
    sort_passed 2 1 (telling o a b t) (hears (not (ends_call a) && false) s m is) (telling_sort o a b t p.0) refl
    ∙ ap (λ (v : Bool). told_in 2 (hears v s m is)) (and_none (ends_call a))
    ∙ characters_told s m is p.1
  where
    and_none : (k : Bool) → (not k && false) ≡ false
    and_none true = refl
    and_none false = refl

-- "unless one was an error or restart, the same reply"
reply_told_lem : (s : List ℕ) (o : List Transfer) (is : List Item) → stands o is ≡ true → closes is ≡ true → fails_in is ≡ false → told_in 2 (hears true s o is) ≡ reply s ∷ []
unfolding hears stands closes told_in fails_in
reply_told_lem s o [] st c z = absurd (true≢false (sym c))
reply_told_lem s o (replying b ∷ []) st c z = refl
reply_told_lem s o (replying b ∷ j ∷ is) st c z = reply_told_lem s o (j ∷ is) (and_both (may_stand o (replying b)) (stands o (j ∷ is)) st).1 c z
reply_told_lem s o (loading b ∷ []) st c z = absurd (true≢false (sym c))
reply_told_lem s o (loading b ∷ j ∷ is) st c z = reply_told_lem s o (j ∷ is) (and_both (may_stand o (loading b)) (stands o (j ∷ is)) st).1 c z
reply_told_lem s o (acting a b t ∷ []) st c z = absurd (true≢false (sym c))
reply_told_lem s o (acting a b t ∷ j ∷ is) st c z =
    let m = open_after o (part_of a b t) in
    let p = and_both (may_act o a) (stands m (j ∷ is)) st in
    let e = or_false (ends_call a) (fails_in (j ∷ is)) z in
    sort_passed 2 1 (telling o a b t) (hears (not (ends_call a) && true) s m (j ∷ is)) (telling_sort o a b t p.0) refl
    ∙ ap (λ (v : Bool). told_in 2 (hears (not v && true) s m (j ∷ is))) e.0
    ∙ reply_told_lem s m (j ∷ is) p.1 c e.1

failed_told : (s : List ℕ) (o : List Transfer) (is : List Item) → stands o is ≡ true → closes is ≡ true → fails_in is ≡ true → told_in 2 (hears true s o is) ≡ map character (behind_error is)
unfolding hears stands closes told_in fails_in behind_error
failed_told s o [] st c z = absurd (true≢false (sym c))
failed_told s o (replying b ∷ []) st c z = absurd (true≢false (sym z))
failed_told s o (replying b ∷ j ∷ is) st c z = failed_told s o (j ∷ is) (and_both (may_stand o (replying b)) (stands o (j ∷ is)) st).1 c z
failed_told s o (loading b ∷ []) st c z = absurd (true≢false (sym c))
failed_told s o (loading b ∷ j ∷ is) st c z = failed_told s o (j ∷ is) (and_both (may_stand o (loading b)) (stands o (j ∷ is)) st).1 c z
failed_told s o (acting a b t ∷ []) st c z = absurd (true≢false (sym c))
failed_told s o (acting a b t ∷ j ∷ is) st c z =
    let m = open_after o (part_of a b t) in
    let p = and_both (may_act o a) (stands m (j ∷ is)) st in
    sort_passed 2 1 (telling o a b t) (hears (not (ends_call a) && true) s m (j ∷ is)) (telling_sort o a b t p.0) refl
    ∙ go (ends_call a) z (characters_told s m (j ∷ is) p.1) (λ f. failed_told s m (j ∷ is) p.1 c f)
  where
    go : (k : Bool) → (k || fails_in (j ∷ is)) ≡ true → told_in 2 (hears false s (open_after o (part_of a b t)) (j ∷ is)) ≡ map character (reply_in (j ∷ is))
        → (fails_in (j ∷ is) ≡ true → told_in 2 (hears true s (open_after o (part_of a b t)) (j ∷ is)) ≡ map character (behind_error (j ∷ is)))
        → told_in 2 (hears (not k && true) s (open_after o (part_of a b t)) (j ∷ is)) ≡ map character (cond k (reply_in (j ∷ is)) (behind_error (j ∷ is)))
    go true f behind-it on = behind-it
    go false f behind-it on = on f

-- The theorem: whatever a host puts into a reply by these rules, the link of a client gives back.
pub host_heard : (k : Kind) (is : List Item) → stands [] is ≡ true → closes is ≡ true → all_sendable is ≡ true → Ends (shape_of k) 0 (reply_in is)
    → Heard is (tells (live between (frame (waiting k) [])) (map raw (raw_of is))) (link_after (live between (frame (waiting k) [])) (map raw (raw_of is)))
host_heard k is st c ok d =
    let f = frame (waiting k) [] in
    let s = reply_in is in
    let ps = map part_for is in
    let g = items_good [] is st ok in
    let h = items_heard f true s [] is st c ok (waits k 0 [] s s refl refl d) in
    let on : stands_after (holds f) (signs_of [] ps) ≡ halted → ⊥ = λ e. let u = sym h.left ∙ e in let z : ◌≡◌ {A = ℕ} 0 1 = cc in omega arith in
    let bytes = items_raw is ok in
    let told : tells (live between f) (map raw (raw_of is)) ≡ spread ps (hears true s [] is) = ap (tells (live between f)) bytes ∙ layers_told between (holds f) (inputs ps) ∙ parts_said [] (holds f) ps g on ∙ ap (spread ps) h.told in
    let of : (n : ℕ) → eqb 0 n ≡ false → told_in n (tells (live between f) (map raw (raw_of is))) ≡ told_in n (hears true s [] is) = λ n z. ap (told_in n) told ∙ spread_sort n true s [] is z in
    record {
      told_is = told;
      given = of 1 refl ∙ acts_told true s [] is st;
      replied = λ z. of 2 refl ∙ reply_told_lem s [] is st c z;
      failed = λ z. of 2 refl ∙ failed_told s [] is st c z;
      left = ap (link_after (live between f)) bytes ∙ parts_left [] (holds f) ps g ∙ ap (λ (o : List Transfer). link_at (inside o) (stands_after (holds f) (signs_of [] ps))) (items_closed [] is st c) ∙ ap (link_at between) h.left;
    }
