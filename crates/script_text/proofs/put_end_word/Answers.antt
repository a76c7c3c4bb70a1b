-- The four bytes are copied.
use native.Mathlib.Omega.{arith}
use borrow.Rule.Slice.PartMut.{same_len_mid}
use Prim.Native.Nat.{◌+◌, ◌-◌}
use lib.ListN.{take, drop}
use lib.Seq.{drop-drop}
use mathlib.Core.List.{append_assoc}
use mathlib.Core.Path.{◌≡◌, refl, sym}
use Rattle.script_lines.specs.Fields.{end_word}
use Rattle.script_text.specs.Write.{put}
use Rattle.script_text.proofs.put_end_word.Goals as goal

pub returns : goal.returns
unfolding put
returns c =
    let at = c.args.at in
    let out = c.args.out.now in
    let e : at + 4 - at ≡ 4 = omega arith in
    record {
      next = refl;
      long = same_len_mid _ _ _ _ c.copy_from_slice.ensures.len;
      room = c.requires;
      text = rw (e, c.copy_from_slice.ensures.after, drop-drop 4 at out) (sym (append_assoc (take at out) end_word (drop (at + 4) out)));
    }
