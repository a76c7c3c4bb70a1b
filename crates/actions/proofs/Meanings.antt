-- What a mark means, by the program's class of it.
use Prim.Native.Nat.{ℕ}
use mathlib.Core.Path.{◌≡◌, refl}
use mathlib.Core.Bool.{Bool, true, false, cond}
use lib.Dec.{eqb}
use Rattle.serial_rules.specs.Marks.{bit, inward_class, error_mark, escape_mark, event_mark, address_mark, block_mark, end_mark, execute_mark, load_mark, save_mark}
use Rattle.serial_rules.specs.Link as rules
use Rattle.marks.specs.declared.Class.{Class}
use Rattle.marks.specs.declared.Class.TheVariants as class
use Rattle.marks.specs.Classes.{inward_as}

abbrev pub meaning_at : Class → ℕ → rules.Meaning
meaning_at class.NotCarried m = rules.unknown
meaning_at class.Request m = rules.unknown
meaning_at class.Error m = rules.starts rules.failing
meaning_at class.State m = rules.state (bit m 1)
meaning_at class.Event m = rules.starts rules.signal
meaning_at class.Address m = rules.starts (rules.place rules.setting)
meaning_at class.Block m = rules.starts (rules.control m)
meaning_at class.End m = rules.end
meaning_at class.Execute m = rules.starts (rules.place rules.executing)
meaning_at class.Load m = rules.starts (rules.place (rules.opening rules.load))
meaning_at class.Save m = rules.starts (rules.place (rules.opening rules.save))

pub meaning_by_class : (m : ℕ) → rules.meaning_of m ≡ meaning_at (inward_as (inward_class m)) m
unfolding rules.meaning_of
meaning_by_class m =
    let n = inward_class m in
    go (eqb n error_mark) (eqb n escape_mark) (eqb n event_mark) (eqb n address_mark) (eqb n block_mark) (eqb n end_mark) (eqb n execute_mark) (eqb n load_mark) (eqb n save_mark)
  where
    go : (a b c d e f g h i : Bool)
        → cond a (rules.starts rules.failing) (cond b (rules.state (bit m 1)) (cond c (rules.starts rules.signal) (cond d (rules.starts (rules.place rules.setting))
        (cond e (rules.starts (rules.control m)) (cond f rules.end (cond g (rules.starts (rules.place rules.executing))
        (cond h (rules.starts (rules.place (rules.opening rules.load))) (cond i (rules.starts (rules.place (rules.opening rules.save))) rules.unknown))))))))
        ≡ meaning_at (cond a class.Error (cond b class.State (cond c class.Event (cond d class.Address (cond e class.Block (cond f class.End (cond g class.Execute
        (cond h class.Load (cond i class.Save class.NotCarried))))))))) m
    go true b c d e f g h i = refl
    go false true c d e f g h i = refl
    go false false true d e f g h i = refl
    go false false false true e f g h i = refl
    go false false false false true f g h i = refl
    go false false false false false true g h i = refl
    go false false false false false false true h i = refl
    go false false false false false false false true i = refl
    go false false false false false false false false true = refl
    go false false false false false false false false false = refl
