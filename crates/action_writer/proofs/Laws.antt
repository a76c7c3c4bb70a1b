-- The writer's answers by their tests.
use Prim.Native.Nat.{ℕ, ◌<◌}
use mathlib.Core.Path.{◌≡◌, refl, sym, ap, subst, ◌∙◌}
use mathlib.Core.Bool.{Bool, true, false, not}
use mathlib.Core.List.{List, ◌∷◌}
use Rattle.std.specs.Prelude.{Err}
use lib.Dec.{ltb}
use lib.ListN.{length}
use borrow.Author.Tests.{lt-ltb, not-true, not-false}
use Rattle.serial_rules.specs.Escape.{escape, escaped}
use Rattle.host_rules.specs.Actions as rules
use Rattle.host_rules.specs.Actions.{sent_raw, sent_ok, sent_number}
use Rattle.refusal.specs.declared.Refusal.TheVariants.{TooLong, BadField}
use Rattle.fields.specs.Promise.{Written, WriterDone, Encoded}
use Rattle.calls.specs.Rows.{length_byte}
use Rattle.action_parts.specs.declared.Parts.{Parts}
use Rattle.action_parts.specs.declared.Sent.{Sent}
use Rattle.action_writer.specs.Promise.{ActionWritten}
use Rattle.action_parts.specs.Parts.{sent_for, parts_of, parts_own, parts_fit}
use Rattle.action_parts.proofs.Laws.{parts_fit_lem, parts_raw_lem}

module _ (a : rules.Sent) (b t out : List ℕ) where
  abbrev Answer : Written → List ℕ → Type 0
  Answer w left = WriterDone (sent_number a b t (length out)) (sent_raw a b t) out w left

  pub too_long : ltb 255 (length t) ≡ true → Answer (Err TooLong) out
  unfolding sent_number
  too_long h = simp h (record { answer = refl; written = refl; bytes = refl })

  module _ {k : ℕ} {p : Parts} {ok : Bool} (short : ltb 255 (length t) ≡ false) (n : k ≡ length_byte (length b)) (d : p ≡ parts_of a k) (e : ok ≡ parts_fit p b t) where
    judged : ok ≡ sent_ok a b t
    judged = rw (d, parts_fit_lem a k b t) at e

    pub bad_field : not ok ≡ true → Answer (Err BadField) out
    unfolding sent_number
    bad_field h = let o = sym judged ∙ not-true ok h in simp (short, o) (record { answer = refl; written = refl; bytes = refl })

    pub wrote : {left : List ℕ} {w : Written} → not ok ≡ false → Encoded (escape ∷ p.mark ∷ escaped (parts_own p b t)) out w left → Answer w left
    unfolding sent_number
    wrote {left = left} {w = w} h e =
        let o = sym judged ∙ not-false ok h in
        let whole = ap (λ (q : Parts). escape ∷ q.mark ∷ escaped (parts_own q b t)) (d ∙ ap (parts_of a) n) ∙ parts_raw_lem a b t o in
        simp (short, o) (subst (λ (l : List ℕ). Encoded l out w left) whole e)

-- a text that is too long, by its length
pub text_too_long : (a : Sent) (b t out : List ℕ) → 255 < length t → ActionWritten a b t out (Err TooLong) out
text_too_long a b t out h = too_long (sent_for a) b t out (lt-ltb 255 (length t) h)

-- what the writer needs
pub ruleset answers = (too_long, bad_field)
