-- Plain raw bytes of a body, stored at once: the reader after n of them, and the steps that they stand for.
use Rattle.std.specs.Prelude.{ℕ, ◌+◌, ◌≤◌, ◌<◌, List, length, take, replicate}
use Rattle.serial_rules.specs.Reader as rules
use Rattle.request_reader.specs.declared.Reader.{Reader}
use Rattle.request_reader.specs.View.{body_room}
use Rattle.request_reader.specs.Read.{Read}

abbrev pub passed_from : Reader → ℕ → Reader
passed_from r n = record { carrier = r.carrier; phase = r.phase; escape = r.escape; style = r.style; code = r.code; count = r.count + n }

pub record PassDone (reader : Reader) (lent raw : List ℕ) (n : ℕ) (left : List ℕ) : Type 0 where
  pub within : n ≤ length raw
  pub below : 0 < n → reader.count + n ≤ body_room
  pub steps : Read reader lent (take n raw) (replicate n rules.need_more) (passed_from reader n) left
