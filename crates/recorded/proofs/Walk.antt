-- The whole reply against the stepwise link: each way that it goes at a data byte or mark outside every transfer.
use Prim.Native.Nat.{ℕ, suc, ◌+◌, ◌≤◌}
use native.Mathlib.Nat.{add-zero}
use native.Mathlib.Omega.{arith}
use mathlib.Core.Path.{◌≡◌, refl, sym, ap, subst, ◌∙◌}
use mathlib.Core.List.{List, [], ◌∷◌, ◌++◌, append_assoc, append-nil}
use lib.ListN.{length, take, drop}
use Rattle.escape.specs.Units as units
use Rattle.escape.specs.Units.{unit_at}
use Rattle.escape.proofs.Units.{unit_data}
use Rattle.serial_rules.specs.Body.{Turn, more, done, refused}
use Rattle.serial_rules.specs.Reply.{Kind, shape_of, shape_turn}
use Rattle.serial_rules.specs.Link as rules
use Rattle.serial_rules.specs.Session.{inside}
use Rattle.serial_rules.specs.Record.{Outcome, ran_out, closed, Recorded, recording, give, recorded, passes}
use Rattle.serial_rules.proofs.Parts.{length_snoc}
use Rattle.turns.specs.Plain.{none, one, Plains}
use Rattle.turns.proofs.Plain.{no_escape}
use Rattle.shapes.specs.Ahead.{ahead_of}
use Rattle.shapes.proofs.Ahead.{ahead_more}
use Rattle.action_bytes.specs.Walk.{Went, on, halt, onward, behind, Act}
use Rattle.action_bytes.proofs.Walk.{on_unit, recorded_unit, first_at}
use Rattle.recorded.specs.Parts.{Whole}

module _ (s : List ℕ) (k : Kind) (i : ℕ) (got : List ℕ) (le : i ≤ length s) where
  abbrev f : rules.Frame
  f = rules.frame (rules.waiting k) got

  pub top_gone : unit_at s i ≡ units.gone → Whole s k i got (recording [] (length s) ran_out)
  top_gone u = record { says = recorded_unit s i f [] rules.none le ∙ ap (on_unit s f [] rules.none) u }

  top_data : {b n : ℕ} {t : Turn} → unit_at s i ≡ units.datum b n → shape_turn (shape_of k) (length got) b ≡ t
      → recorded i (rules.live (inside []) f) (drop i s) ≡ behind s n (rules.gives (rules.reply_turned k got b t).report (rules.link_at (inside []) (rules.reply_turned k got b t).next))
  unfolding rules.meets
  top_data {b} {n} u e =
      recorded_unit s i f [] rules.none le
      ∙ ap (on_unit s f [] rules.none) u
      ∙ ap (λ (t : Turn). behind s n (rules.gives (rules.reply_turned k got b t).report (rules.link_at (inside []) (rules.reply_turned k got b t).next))) e

  pub top_more : {b n : ℕ} {r : Recorded} → unit_at s i ≡ units.datum b n → shape_turn (shape_of k) (length got) b ≡ more → Whole s k n (got ++ (b ∷ [])) r
      → Whole s k i got r
  unfolding passes
  top_more u e w = record { says = top_data u e ∙ w.says }

  pub top_done : {b n : ℕ} → unit_at s i ≡ units.datum b n → shape_turn (shape_of k) (length got) b ≡ done
      → Whole s k i got (recording [] n (closed (rules.reply (got ++ (b ∷ [])))))
  unfolding passes
  top_done u e = record { says = top_data u e }

  pub top_refused : {b n x : ℕ} → unit_at s i ≡ units.datum b n → shape_turn (shape_of k) (length got) b ≡ refused x
      → Whole s k i got (recording [] n (closed (rules.refusal x)))
  unfolding passes
  top_refused u e = record { says = top_data u e }

  top_act : {m n : ℕ} {g : List rules.Report} {v : Went} → unit_at s i ≡ units.mark m n → Act s 0 n (rules.meaning_of m) g v
      → recorded i (rules.live (inside []) f) (drop i s) ≡ onward s g (rules.live (inside []) f) v
  top_act u a = recorded_unit s i f [] rules.none le ∙ ap (on_unit s f [] rules.none) u ∙ a.says f [] refl

  pub top_on : {m n j : ℕ} {g : List rules.Report} {r : Recorded} → unit_at s i ≡ units.mark m n → Act s 0 n (rules.meaning_of m) g (on j)
      → Whole s k j got r → Whole s k i got (give g r)
  top_on {g = g} u a w = record { says = top_act u a ∙ ap (give g) w.says }

  pub top_halt : {m n j : ℕ} {g : List rules.Report} {x : Outcome} → unit_at s i ≡ units.mark m n → Act s 0 n (rules.meaning_of m) g (halt j x)
      → Whole s k i got (recording g j x)
  top_halt u a = record { says = top_act u a }

-- plain bytes in the middle of the reply
pub top_run : (s : List ℕ) (k : Kind) (n i : ℕ) (l : List ℕ) (got : List ℕ) {r : Recorded} → l ≡ take (length l) (drop i s) → Plains l → (j : ℕ)
    → length got ≡ n + j
    → j + length l ≤ ahead_of (shape_of k) n → Whole s k (i + length l) (got ++ l) r → Whole s k i got r
top_run s k n i [] got {r} e none j h fits w =
    let same : got ++ [] ≡ got = append-nil got in
    subst (λ (m : ℕ). Whole s k m got r) (add-zero i) (subst (λ (x : List ℕ). Whole s k (i + 0) x r) same w)
top_run s k n i (b ∷ l) got {r} e (one p ps) j h fits w =
    let q = first_at s i b l e in
    let place : i + suc (length l) ≡ i + 1 + length l = omega arith in
    let whole : got ++ (b ∷ l) ≡ (got ++ (b ∷ [])) ++ l = sym (append_assoc got (b ∷ []) l) in
    let turn : shape_turn (shape_of k) (length got) b ≡ more = rw h (ahead_more (shape_of k) n j b (omega arith) p) in
    top_more s k i got (omega (arith, q.0)) (unit_data s i b q.0 q.1 (no_escape b p)) turn
    (top_run s k n (i + 1) l (got ++ (b ∷ [])) q.2 ps (suc j) (omega (arith, length_snoc got b)) (omega arith)
    (subst (λ (m : ℕ). Whole s k m ((got ++ (b ∷ [])) ++ l) r) place (subst (λ (x : List ℕ). Whole s k (i + suc (length l)) x r) whole w)))
