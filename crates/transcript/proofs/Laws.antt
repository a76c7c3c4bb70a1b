-- The results of at most 4,096 records always fit, so every record is played, and the text of those results is the script's.
use Prim.Native.Nat.{ℕ, ◌*◌, ◌≤◌}
use mathlib.Core.Path.{◌≡◌, ap, ◌∙◌}
use mathlib.Core.List.{List, ◌++◌}
use native.Mathlib.Omega.{arith}
use borrow.Author.Tests.{le-leb}
use lib.Dec.{leb}
use lib.ListN.{length, drop, length-append}
use Rattle.chip.specs.declared.Chip.{Chip}
use Rattle.chip.specs.Record.{view}
use Rattle.script.specs.declared.Played.{Played}
use Rattle.script.specs.Script.{records, final_answer, results_of, fits as results_fit, played_of, PlayDone}
use Rattle.script.proofs.Laws.{played_min, results_length}
use Rattle.script_lines.specs.Text.{text_of}
use Rattle.script_text.specs.Text.{fits as text-fits, TextDone}
use Rattle.script_lines.proofs.Lines.{text_front}
use Rattle.transcript.specs.Transcript.{text_for, TranscriptDone}

module _ (chip : Chip) (script before : List ℕ) (p : Played) (results : List ℕ) (room : length before ≡ 12288) (d : PlayDone chip script 4096 before p results) where
  few : length (records 4096 script) ≤ 4096
  few = omega (arith, played_min 4096 script)

  all : played_of 4096 script before ≡ records 4096 script
  unfolding results_fit
  all = rw (le-leb (3 * length (records 4096 script)) (length before) (let f = few in omega arith))

  played : p.played ≡ length (records 4096 script)
  played = d.count ∙ ap length all

  answer : p.answer ≡ final_answer 4096 script
  unfolding results_fit
  answer = d.answer ∙ rw (le-leb (3 * length (records 4096 script)) (length before) (let f = few in omega arith))

  stored : results ≡ results_of (view chip) (records 4096 script) ++ drop (3 * length (records 4096 script)) before
  stored = rw all at d.results

  whole : 3 * p.played ≤ length results
  whole =
      rw (stored, length-append (results_of (view chip) (records 4096 script)) (drop (3 * length (records 4096 script)) before), results_length (view chip) (records 4096 script), played)
      (omega arith)

  same_text : text_of results p.played p.answer ≡ text_for chip script
  unfolding text_for
  same_text =
      rw (stored, played, answer)
      (text_front (length (records 4096 script)) (final_answer 4096 script) (results_of (view chip) (records 4096 script)) (drop (3 * length (records 4096 script)) before)
      (results_length (view chip) (records 4096 script)))

  same_test : (out : List ℕ) → text-fits results p.played p.answer out ≡ leb (length (text_for chip script)) (length out)
  unfolding text-fits
  same_test out = rw (le-leb (3 * p.played) (length results) whole, same_text)

  pub joined : (out left : List ℕ) (r : ℕ) → TextDone results p.played p.answer out r left → TranscriptDone chip script out r left
  joined out left r t =
      record {
        length_is = rw (same_test out, same_text) at t.length_is;
        text = rw (same_test out, same_text) at t.text;
        enough = λ h. rw same_text at (t.enough (let f = few in rw played f) whole h);
        within = t.within;
        taken = t.taken;
      }
