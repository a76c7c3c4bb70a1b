-- What an action and the body of a transfer mean to the stepwise link, at every depth, whatever waits and whatever transfers lie below: where it goes,
-- and what it gives on the way.
use Rattle.std.specs.Prelude.{ℕ, suc, ◌≡◌, false, List, [], ◌∷◌, length, drop}
use Rattle.serial_rules.specs.Link as rules
use Rattle.serial_rules.specs.Session.{inside}
use Rattle.serial_rules.specs.Record.{Outcome, Recorded, recording, give, reported, recorded}
use Rattle.link.specs.Parts.{seen_step}

-- reading goes on at a place, or it ended there
pub data Went : Type 0 where
  on : ℕ → Went
  halt : ℕ → Outcome → Went

-- what the link gives, where it has given g
abbrev pub onward : List ℕ → List rules.Report → rules.Link → Went → Recorded
onward s g l (on n) = give g (recorded n l (drop n s))
onward s g l (halt n u) = recording g n u

-- one step of the link, at its last raw byte, before the place n
abbrev pub behind : List ℕ → ℕ → rules.Step → Recorded
behind s n x = reported x.report n (recorded n x.next (drop n s))

-- the body of an open transfer from the place i, where d are open with it
pub record Body (s : List ℕ) (t : rules.Transfer) (d i : ℕ) (g : List rules.Report) (v : Went) : Type 0 where
  pub says : (f : rules.Frame) (o : List rules.Transfer) → suc (length o) ≡ d
      → recorded i (rules.live (inside (t ∷ o)) f) (drop i s) ≡ onward s g (rules.live (inside o) f) v

-- an action, n the place behind its mark, where d transfers are open
pub record Act (s : List ℕ) (d n : ℕ) (w : rules.Meaning) (g : List rules.Report) (v : Went) : Type 0 where
  pub says : (f : rules.Frame) (o : List rules.Transfer) → length o ≡ d
      → behind s n (seen_step f (rules.mark_outside o w)) ≡ onward s g (rules.live (inside o) f) v

-- an action's own bytes: all of them, the last one apart, or it ended among them
pub data Owned : Type 0 where
  whole : List ℕ → ℕ → ℕ → Owned
  halt : ℕ → Outcome → Owned

abbrev pub after_own : List ℕ → rules.Frame → List rules.Transfer → rules.Action → Owned → Recorded
after_own s f o a (whole h b n) = behind s n (seen_step f (rules.seen (rules.finish a h b) (rules.layer false rules.none (rules.opened a o))))
after_own s f o a (halt n u) = recording [] n u

pub record Own (s : List ℕ) (a : rules.Action) (i : ℕ) (h : List ℕ) (v : Owned) : Type 0 where
  pub says : (f : rules.Frame) (o : List rules.Transfer) → recorded i (rules.live (rules.layer false (rules.own a h) o) f) (drop i s) ≡ after_own s f o a v
