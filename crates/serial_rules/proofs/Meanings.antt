-- What a mark is, by its class.
use Prim.Native.Nat.{ℕ}
use mathlib.Core.Path.{◌≡◌}
use borrow.Author.Tests.{ne_eqb}
use Rattle.serial_rules.specs.Marks.{bit, inward_class, error_mark, escape_mark, event_mark, address_mark, block_mark, end_mark, execute_mark, load_mark, save_mark}
use Rattle.serial_rules.specs.Link.{load, save, Target, setting, executing, opening, failing, signal, place, control, Meaning, unknown, end, starts, meaning_of}
use Rattle.serial_rules.specs.Session.{target_mark}

module _ (m : ℕ) where
  pub error_means : inward_class m ≡ error_mark → meaning_of m ≡ starts failing
  unfolding meaning_of
  error_means h = simp h

  pub state_means : inward_class m ≡ escape_mark → meaning_of m ≡ Meaning.state (bit m 1)
  unfolding meaning_of
  state_means h = simp h

  pub event_means : inward_class m ≡ event_mark → meaning_of m ≡ starts signal
  unfolding meaning_of
  event_means h = simp h

  pub block_means : inward_class m ≡ block_mark → meaning_of m ≡ starts (control m)
  unfolding meaning_of
  block_means h = simp h

  pub end_means : inward_class m ≡ end_mark → meaning_of m ≡ end
  unfolding meaning_of
  end_means h = simp h

  pub target_means : (t : Target) → inward_class m ≡ target_mark t → meaning_of m ≡ starts (place t)
  unfolding meaning_of
  target_means setting h = simp h
  target_means executing h = simp h
  target_means (opening load) h = simp h
  target_means (opening save) h = simp h

  -- none of the classes
  pub unknown_means : (inward_class m ≡ error_mark → ⊥) → (inward_class m ≡ escape_mark → ⊥) → (inward_class m ≡ event_mark → ⊥) → (inward_class m ≡ address_mark → ⊥)
      → (inward_class m ≡ block_mark → ⊥) → (inward_class m ≡ end_mark → ⊥) → (inward_class m ≡ execute_mark → ⊥) → (inward_class m ≡ load_mark → ⊥)
      → (inward_class m ≡ save_mark → ⊥) → meaning_of m ≡ unknown
  unfolding meaning_of
  unknown_means n1 n2 n3 n4 n5 n6 n7 n8 n9 = rw (
    ne_eqb (inward_class m) error_mark n1,
    ne_eqb (inward_class m) escape_mark n2,
    ne_eqb (inward_class m) event_mark n3,
    ne_eqb (inward_class m) address_mark n4,
    ne_eqb (inward_class m) block_mark n5,
    ne_eqb (inward_class m) end_mark n6,
    ne_eqb (inward_class m) execute_mark n7,
    ne_eqb (inward_class m) load_mark n8,
    ne_eqb (inward_class m) save_mark n9,
  )
