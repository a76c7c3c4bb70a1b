-- Actions against the stepwise link: a data byte or mark at a time, then each way that an action goes.
use Prim.Native.Nat.{ℕ, suc, ◌+◌, ◌<◌, ◌≤◌}
use native.Mathlib.Numerals.{add-one}
use native.Mathlib.Omega.{arith}
use mathlib.Core.Path.{◌≡◌, refl, sym, ap, ◌∙◌}
use mathlib.Core.Bool.{Bool, true, false, cond}
use mathlib.Core.List.{List, [], ◌∷◌, ◌++◌, append_assoc}
use lib.Dec.{eqb, ltb}
use lib.ListN.{length, get_or, take, drop, length-take, length-drop, drop_of_length-le}
use lib.Seq.{drop-cons}
use borrow.Author.Tests.{lt-ltb, le-ltb, ltb-true, ltb-false}
use Rattle.escape.specs.Units as units
use Rattle.escape.specs.Units.{unit_at}
use Rattle.serial_rules.specs.Escape.{escape}
use Rattle.serial_rules.specs.Body.{Turn, more, done, refused}
use Rattle.serial_rules.specs.Fields.{at}
use Rattle.serial_rules.specs.Reply.{shape_turn}
use Rattle.serial_rules.specs.Link as rules
use Rattle.serial_rules.specs.Session.{inside}
use Rattle.serial_rules.specs.Record.{Outcome, ran_out, closed, Recorded, recording, give, recorded, passes, news}
use Rattle.link.specs.Parts.{seen_step}
use Rattle.action_bytes.specs.Walk as walk
use Rattle.action_bytes.specs.Walk.{Went, on, halt, onward, behind, Body, Act, Own, after_own}

-- One raw byte.
none_left : (s : List ℕ) (i : ℕ) (l : rules.Link) → length s ≡ i → recorded i l (drop i s) ≡ recording [] (length s) ran_out
unfolding recorded
none_left s i l h =
    let le : length s ≤ i = omega arith in
    rw (drop_of_length-le s le) (ap (λ (n : ℕ). recording [] n ran_out) (sym h))

turn_at : (s : List ℕ) (i : ℕ) (l : rules.Link) → i < length s → recorded i l (drop i s) ≡ behind s (i + 1) (rules.step l (get_or s i 0))
unfolding recorded
turn_at s i l h = rw (add-one, drop-cons s i 0)

module _ (f : rules.Frame) (o : List rules.Transfer) (d : rules.Doing) (b : ℕ) where
  plain_step : eqb b escape ≡ false → rules.step (rules.live (rules.layer false d o) f) b ≡ seen_step f (rules.data_seen o d b)
  unfolding rules.step rules.look
  plain_step e = simp e

  pending_step : eqb b escape ≡ true
      → rules.step (rules.live (rules.layer false d o) f) b ≡ rules.gives rules.need_more (rules.live (rules.layer true d o) f)
  unfolding rules.step rules.look rules.meets
  pending_step e = simp e

  doubled_step : eqb b escape ≡ true → rules.step (rules.live (rules.layer true d o) f) b ≡ seen_step f (rules.data_seen o d escape)
  unfolding rules.step rules.look
  doubled_step e = simp e

  mark_step : eqb b escape ≡ false → rules.step (rules.live (rules.layer true d o) f) b ≡ seen_step f (rules.mark_seen o d b)
  unfolding rules.step rules.look
  mark_step e = simp e

-- What a data byte or mark gives, and what the bytes behind it do.
abbrev pub on_unit : List ℕ → rules.Frame → List rules.Transfer → rules.Doing → units.Unit → Recorded
on_unit s f o d units.gone = recording [] (length s) ran_out
on_unit s f o d (units.datum b n) = behind s n (seen_step f (rules.data_seen o d b))
on_unit s f o d (units.mark m n) = behind s n (seen_step f (rules.mark_seen o d m))

pub recorded_unit : (s : List ℕ) (i : ℕ) (f : rules.Frame) (o : List rules.Transfer) (d : rules.Doing) → i ≤ length s
    → recorded i (rules.live (rules.layer false d o) f) (drop i s) ≡ on_unit s f o d (unit_at s i)
unfolding unit_at passes
recorded_unit s i f o d h = here (ltb i (length s)) refl
  where
    l : rules.Link
    l = rules.live (rules.layer false d o) f

    x : rules.Link
    x = rules.live (rules.layer true d o) f

    second : (t : Bool) → eqb (get_or s (i + 1) 0) escape ≡ t → i + 1 < length s
        → recorded (i + 1) x (drop (i + 1) s) ≡ on_unit s f o d (cond t (units.datum escape (i + 1 + 1)) (units.mark (get_or s (i + 1) 0) (i + 1 + 1)))
    second true e k = turn_at s (i + 1) x k ∙ ap (behind s (i + 1 + 1)) (doubled_step f o d (get_or s (i + 1) 0) e)
    second false e k = turn_at s (i + 1) x k ∙ ap (behind s (i + 1 + 1)) (mark_step f o d (get_or s (i + 1) 0) e)

    next : (t : Bool) → ltb (i + 1) (length s) ≡ t → i < length s
        → recorded (i + 1) x (drop (i + 1) s)
        ≡ on_unit s f o d (cond t (cond (eqb (get_or s (i + 1) 0) escape) (units.datum escape (i + 1 + 1)) (units.mark (get_or s (i + 1) 0) (i + 1 + 1))) units.gone)
    next true e k = second (eqb (get_or s (i + 1) 0) escape) refl (ltb-true (i + 1) (length s) e)
    next false e k = let g = ltb-false (i + 1) (length s) e in none_left s (i + 1) x (omega arith)

    escaped : recorded (i + 1) x (drop (i + 1) s) ≡ behind s (i + 1) (rules.gives rules.need_more x)
    escaped = refl

    first : (t : Bool) → eqb (get_or s i 0) escape ≡ t → i < length s
        → recorded i l (drop i s)
        ≡ on_unit s f o d (cond t (cond (ltb (i + 1) (length s)) (cond (eqb (get_or s (i + 1) 0) escape) (units.datum escape (i + 1 + 1)) (units.mark (get_or s (i + 1) 0) (i + 1 + 1))) units.gone) (units.datum (get_or s i 0) (i + 1)))
    first true e k = turn_at s i l k ∙ ap (behind s (i + 1)) (pending_step f o d (get_or s i 0) e) ∙ sym escaped ∙ next (ltb (i + 1) (length s)) refl k
    first false e k = turn_at s i l k ∙ ap (behind s (i + 1)) (plain_step f o d (get_or s i 0) e)

    here : (t : Bool) → ltb i (length s) ≡ t
        → recorded i l (drop i s)
        ≡ on_unit s f o d (cond t (cond (eqb (get_or s i 0) escape) (cond (ltb (i + 1) (length s)) (cond (eqb (get_or s (i + 1) 0) escape) (units.datum escape (i + 1 + 1)) (units.mark (get_or s (i + 1) 0) (i + 1 + 1))) units.gone) (units.datum (get_or s i 0) (i + 1))) units.gone)
    here true e = first (eqb (get_or s i 0) escape) refl (ltb-true i (length s) e)
    here false e = let g = ltb-false i (length s) e in none_left s i l (omega arith)

-- reports given one after the other
pub give_give : (g h : List rules.Report) (x : Recorded) → give g (give h x) ≡ give (g ++ h) x
give_give g h x = ap (λ (l : List rules.Report). recording l x.used x.outcome) (sym (append_assoc g h x.reports))

pub give_onward : (s : List ℕ) (g h : List rules.Report) (l : rules.Link) (v : Went) → give g (onward s h l v) ≡ onward s (g ++ h) l v
give_onward s g h l (on n) = give_give g h _
give_onward s g h l (halt n u) = refl

-- an action's own bytes
module _ (s : List ℕ) (a : rules.Action) (i : ℕ) (h : List ℕ) (le : i ≤ length s) where
  pub own_gone : unit_at s i ≡ units.gone → Own s a i h (walk.Owned.halt (length s) ran_out)
  own_gone u = record { says = λ f o. recorded_unit s i f o (rules.own a h) le ∙ ap (on_unit s f o (rules.own a h)) u }

  pub own_mark : {m n : ℕ} → unit_at s i ≡ units.mark m n → Own s a i h (walk.Owned.halt n (closed (rules.refusal 5)))
  unfolding passes rules.meets
  own_mark u = record { says = λ f o. recorded_unit s i f o (rules.own a h) le ∙ ap (on_unit s f o (rules.own a h)) u }

  own_data : {b n : ℕ} {t : Turn} → unit_at s i ≡ units.datum b n → shape_turn (rules.own_shape a) (length h) b ≡ t
      → (f : rules.Frame) (o : List rules.Transfer)
      → recorded i (rules.live (rules.layer false (rules.own a h) o) f) (drop i s) ≡ behind s n (seen_step f (rules.own_byte o a h b t))
  own_data {b} {n} u e f o =
      recorded_unit s i f o (rules.own a h) le ∙ ap (on_unit s f o (rules.own a h)) u ∙ ap (λ (t : Turn). behind s n (seen_step f (rules.own_byte o a h b t))) e

  pub own_more : {b n : ℕ} {v : walk.Owned} → unit_at s i ≡ units.datum b n → shape_turn (rules.own_shape a) (length h) b ≡ more
      → Own s a n (h ++ (b ∷ [])) v → Own s a i h v
  unfolding passes rules.meets
  own_more u e k = record { says = λ f o. own_data u e f o ∙ k.says f o }

  pub own_done : {b n : ℕ} → unit_at s i ≡ units.datum b n → shape_turn (rules.own_shape a) (length h) b ≡ done → Own s a i h (walk.whole h b n)
  own_done u e = record { says = λ f o. own_data u e f o }

  pub own_refused : {b n x : ℕ} → unit_at s i ≡ units.datum b n → shape_turn (rules.own_shape a) (length h) b ≡ refused x
      → Own s a i h (walk.Owned.halt n (closed (rules.refusal x)))
  unfolding passes rules.meets
  own_refused u e = record { says = λ f o. own_data u e f o }

-- The first of bytes that stand at a place.
pub first_at : (s : List ℕ) (i b : ℕ) (l : List ℕ) → b ∷ l ≡ take (suc (length l)) (drop i s)
    → (i < length s) × (get_or s i 0 ≡ b) × (l ≡ take (length l) (drop (i + 1) s))
first_at s i b l e =
    let n : suc (length l) ≡ length (take (suc (length l)) (drop i s)) = ap length e in
    let m = length-take (suc (length l)) (drop i s) in
    let k = length-drop i s in
    let h : i < length s = omega arith in
    let w : b ∷ l ≡ get_or s i 0 ∷ take (length l) (drop (i + 1) s) = e ∙ rw (drop-cons s i 0 h, add-one) refl in
    (h, sym (ap first w), ap rest w)
  where
    first : List ℕ → ℕ
    first [] = 0
    first (x ∷ y) = x

    rest : List ℕ → List ℕ
    rest [] = []
    rest (x ∷ y) = y

-- an action, n the place behind its mark
module _ (s : List ℕ) (d n : ℕ) where
  pub act_unknown : Act s d n rules.unknown [] (halt n (closed (rules.refusal 4)))
  unfolding passes rules.meets
  act_unknown = record { says = λ f o e. refl }

  pub act_state : (x : Bool) → Act s d n (rules.state x) (rules.escape_state x ∷ []) (on n)
  unfolding passes rules.meets
  act_state x = record { says = λ f o e. refl }

  pub act_end : d ≡ 0 → Act s d n rules.end [] (halt n (closed (rules.refusal 5)))
  unfolding passes rules.meets
  act_end z = record { says = λ f o e. go f o (e ∙ z) }
    where
      go : (f : rules.Frame) (o : List rules.Transfer) → length o ≡ 0
          → behind s n (seen_step f (rules.mark_outside o rules.end)) ≡ recording [] n (closed (rules.refusal 5))
      go f [] e = refl
      go f (t ∷ o) e = absurd (omega arith)

  pub act_fifth : (t : rules.Transfer) → 4 ≤ d → Act s d n (rules.starts (rules.place (rules.opening t))) [] (halt n (closed (rules.refusal 13)))
  unfolding passes rules.meets
  act_fifth t l = record { says = λ f o e. let q : ltb (length o) 4 ≡ false = le-ltb (length o) 4 (omega arith) in simp q }

  -- an action that may start goes on with its own bytes
  starts : {a : rules.Action} {v : walk.Owned} → ((o : List rules.Transfer) → length o ≡ d → rules.may_start a o ≡ true) → Own s a n [] v
      → (f : rules.Frame) (o : List rules.Transfer) → length o ≡ d
      → behind s n (seen_step f (rules.mark_outside o (rules.starts a))) ≡ after_own s f o a v
  unfolding passes rules.meets
  starts {a} may q f o e = rw (may o e) (q.says f o)

  pub act_halted : {a : rules.Action} {k : ℕ} {u : Outcome} → ((o : List rules.Transfer) → length o ≡ d → rules.may_start a o ≡ true)
      → Own s a n [] (walk.Owned.halt k u)
      → Act s d n (rules.starts a) [] (halt k u)
  act_halted may q = record { says = starts may q }

  pub act_error : {h : List ℕ} {b k : ℕ} → passes (rules.failure_of h) ≡ false → Own s rules.failing n [] (walk.whole h b k)
      → Act s d n (rules.starts rules.failing) [] (halt k (closed (rules.failure_of h)))
  unfolding rules.meets
  act_error p q = record { says = λ f o e. starts (λ o _. refl) q f o e ∙ rw p refl }

  -- an action that leaves every transfer as it is
  pub act_told : {a : rules.Action} {h : List ℕ} {b k : ℕ} (r : rules.Report)
      → ((o : List rules.Transfer) → (rules.may_start a o ≡ true) × (rules.opened a o ≡ o))
      → rules.finish a h b ≡ rules.acted r → passes r ≡ true → news r ≡ r ∷ [] → Own s a n [] (walk.whole h b k)
      → Act s d n (rules.starts a) (r ∷ []) (on k)
  unfolding rules.meets
  act_told {a} {h} {b} {k} r keeps e p w q = record { says = λ f o l. starts (λ o _. (keeps o).0) q f o l ∙ rw (e, (keeps o).1, p, w) refl }

  -- one that opens a transfer, and the transfer's body
  pub act_opens : {h : List ℕ} {b k : ℕ} {g : List rules.Report} {v : Went} (t : rules.Transfer) → d < 4
      → Own s (rules.place (rules.opening t)) n [] (walk.whole h b k) → Body s t (suc d) k g v
      → Act s d n (rules.starts (rules.place (rules.opening t))) (rules.address (rules.opening t) (at h 0) (at h 1) (at h 2) b ∷ g) v
  unfolding passes rules.meets
  act_opens {h} {b} {g = g} {v} t l q y = record {
    says = λ f o z.
        let r = rules.address (rules.opening t) (at h 0) (at h 1) (at h 2) b in
        starts (λ o z. lt-ltb (length o) 4 (omega arith)) q f o z
        ∙ ap (give (r ∷ [])) (y.says f o (ap suc z))
        ∙ give_onward s (r ∷ []) g (rules.live (inside o) f) v;
  }
