-- The raw bytes are as many as the data bytes and the escape bytes among them; the room is tested for both before the first byte is written.
use mathlib.Core.Path.{sym, ◌∙◌}
use native.Mathlib.Omega.{arith}
use Rattle.serial_rules.proofs.Escape.{escaped_length, escaped_least}
use Rattle.escape.proofs.Laws.{put_as}
use Rattle.fields.proofs.Laws.{all_plain, encoded_done, encoded_none}
use Rattle.fields.proofs.write_data.Goals as goal

pub returns-then-spare-more : goal.returns-then-spare-more
returns-then-spare-more c = encoded_none (omega (arith, escaped_length c.args.bytes.now, c.count_escapes-more.ensures))

pub returns-then-more-eq0 : goal.returns-then-more-eq0
returns-then-more-eq0 c =
    let bytes = c.args.bytes.now in
    encoded_done (put_as (sym (all_plain bytes (sym c.count_escapes-more.ensures ∙ c.if-more-eq0.true))) c.put_plain.ensures)

pub put_pieces-requires : goal.put_pieces-requires
put_pieces-requires c = omega (arith, escaped_length c.args.bytes.now, c.count_escapes-more.ensures)

pub returns-in_default : goal.returns-in_default
returns-in_default c = encoded_none (omega (arith, escaped_least c.args.bytes.now))
