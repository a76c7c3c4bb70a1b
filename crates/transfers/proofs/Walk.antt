-- The bodies of transfers against the stepwise link: each way that one goes at a data byte or mark.
use Prim.Native.Nat.{ℕ, suc, ◌+◌, ◌≤◌}
use native.Mathlib.Nat.{add-zero}
use native.Mathlib.Omega.{arith}
use mathlib.Core.Path.{◌≡◌, ap, subst, ◌∙◌}
use mathlib.Core.List.{List, [], ◌∷◌, ◌++◌, map}
use lib.Dec.{eqb}
use lib.ListN.{length, take, drop}
use borrow.Author.Tests.{not-true}
use Rattle.escape.specs.Units as units
use Rattle.escape.specs.Units.{unit_at}
use Rattle.escape.proofs.Units.{unit_data}
use Rattle.serial_rules.specs.Escape.{escape}
use Rattle.serial_rules.specs.Link as rules
use Rattle.serial_rules.specs.Session.{inside}
use Rattle.serial_rules.specs.Record.{Outcome, ran_out, closed, give, passes}
use Rattle.turns.specs.Plain.{is_data, All, none, one}
use Rattle.link.specs.Parts.{seen_step}
use Rattle.action_bytes.specs.Walk.{Went, on, halt, behind, Body, Act}
use Rattle.action_bytes.proofs.Walk.{on_unit, recorded_unit, give_onward, first_at}

module _ (s : List ℕ) (d i : ℕ) (le : i ≤ length s) where
  pub body_gone : (t : rules.Transfer) → unit_at s i ≡ units.gone → Body s t d i [] (halt (length s) ran_out)
  body_gone t u = record { says = λ f o e. recorded_unit s i f (t ∷ o) rules.none le ∙ ap (on_unit s f (t ∷ o) rules.none) u }

  pub body_saved : {b n : ℕ} → unit_at s i ≡ units.datum b n → Body s rules.save d i [] (halt n (closed (rules.refusal 9)))
  unfolding passes rules.meets
  body_saved u = record { says = λ f o e. recorded_unit s i f (rules.save ∷ o) rules.none le ∙ ap (on_unit s f (rules.save ∷ o) rules.none) u }

  pub body_data : {b n : ℕ} {g : List rules.Report} {v : Went} → unit_at s i ≡ units.datum b n → Body s rules.load d n g v
      → Body s rules.load d i (rules.loaded b ∷ g) v
  unfolding passes rules.meets
  body_data {b} {n} {g} {v} u k = record {
    says = λ f o e.
        recorded_unit s i f (rules.load ∷ o) rules.none le
        ∙ ap (on_unit s f (rules.load ∷ o) rules.none) u
        ∙ ap (give (rules.loaded b ∷ [])) (k.says f o e)
        ∙ give_onward s (rules.loaded b ∷ []) g (rules.live (inside o) f) v;
  }

  pub body_end : {m n : ℕ} (t : rules.Transfer) → unit_at s i ≡ units.mark m n → rules.meaning_of m ≡ rules.end → Body s t d i (rules.ended t ∷ []) (on n)
  unfolding passes rules.meets
  body_end {m} {n} t u w = record {
    says = λ f o e.
        recorded_unit s i f (t ∷ o) rules.none le
        ∙ ap (on_unit s f (t ∷ o) rules.none) u
        ∙ ap (λ (x : rules.Meaning). behind s n (seen_step f (rules.mark_outside (t ∷ o) x))) w;
  }

  pub body_act : {m n k : ℕ} {g h : List rules.Report} {v : Went} (t : rules.Transfer) → unit_at s i ≡ units.mark m n
      → Act s d n (rules.meaning_of m) g (on k) → Body s t d k h v
      → Body s t d i (g ++ h) v
  body_act {g = g} {h} {v} t u a b = record {
    says = λ f o e.
        recorded_unit s i f (t ∷ o) rules.none le
        ∙ ap (on_unit s f (t ∷ o) rules.none) u
        ∙ a.says f (t ∷ o) e
        ∙ ap (give g) (b.says f o e)
        ∙ give_onward s g h (rules.live (inside o) f) v;
  }

  pub body_halt : {m n k : ℕ} {g : List rules.Report} {u : Outcome} (t : rules.Transfer) → unit_at s i ≡ units.mark m n
      → Act s d n (rules.meaning_of m) g (halt k u)
      → Body s t d i g (halt k u)
  body_halt t u a = record { says = λ f o e. recorded_unit s i f (t ∷ o) rules.none le ∙ ap (on_unit s f (t ∷ o) rules.none) u ∙ a.says f (t ∷ o) e }

-- a run of load data
pub body_run : (s : List ℕ) (d i : ℕ) (l : List ℕ) {g : List rules.Report} {v : Went} → l ≡ take (length l) (drop i s) → All is_data l
    → Body s rules.load d (i + length l) g v
    → Body s rules.load d i (map rules.loaded l ++ g) v
body_run s d i [] {g} {v} e none k = subst (λ (n : ℕ). Body s rules.load d n g v) (add-zero i) k
body_run s d i (b ∷ l) {g} {v} e (one p ps) k =
    let q = first_at s i b l e in
    let same : i + suc (length l) ≡ i + 1 + length l = omega arith in
    body_data s d i (omega (arith, q.0)) (unit_data s i b q.0 q.1 (not-true (eqb b escape) p))
    (body_run s d (i + 1) l q.2 ps (subst (λ (n : ℕ). Body s rules.load d n g v) same k))
