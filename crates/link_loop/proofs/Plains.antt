-- Plain raw bytes in the middle of a reply: each is a step that needs more, so that all of them are a chain of steps.
use Prim.Native.Nat.{ℕ, suc, ◌+◌, ◌≤◌, ◌<◌}
use native.Mathlib.Nat.{add-zero}
use native.Mathlib.Numerals.{add-one}
use native.Mathlib.Omega.{arith}
use mathlib.Core.Path.{◌≡◌, refl, sym, ap, ◌∙◌}
use mathlib.Core.Bool.{Bool, true, false}
use mathlib.Core.List.{List, [], ◌∷◌}
use lib.ListN.{length, set, replicate, length-set}
use lib.Seq.{sets}
use borrow.Author.Tests.{lt-ltb}
use Rattle.serial_rules.specs.Escape.{data_byte, piece_of}
use Rattle.serial_rules.specs.Body.{Turn, more, done, refused}
use Rattle.serial_rules.specs.Reply.{Kind, shape_of, shape_turn, longest}
use Rattle.serial_rules.specs.Link as rules
use Rattle.serial_rules.specs.Record.{passes}
use Rattle.turns.specs.Plain.{plain, Plains, none, one}
use Rattle.turns.proofs.Plain.{no_escape}
use Rattle.kind.specs.Kinds.{kind_for}
use Rattle.shapes.specs.Ahead.{ahead_of}
use Rattle.kind.specs.declared.CallKind.{CallKind}
use Rattle.shapes.proofs.Ahead.{ahead_more, ahead_fits}
use Rattle.link.specs.declared.Link.{Link}
use Rattle.answers.specs.declared.Answer.TheVariants as variant
use Rattle.link.specs.declared.Stepped.{Stepped}
use Rattle.link.specs.View.{usable_of, view_of, StepDone}
use Rattle.answers.specs.Reports.{report_of}
use Rattle.link_loop.specs.Run.{Runs, stop, took}
use Rattle.link_loop.specs.Parts.{mid_reply}
use Rattle.link_step.proofs.Steps.{reply_more, data_outside, at_data}

-- a plain byte is data in itself
data_in_itself : (b : ℕ) → plain b ≡ true → piece_of false b ≡ data_byte b
data_in_itself b h = rw (no_escape b h)

-- a link in the middle of a reply
pub mid_usable : (k : CallKind) (g : ℕ) → g < longest (shape_of (kind_for k)) → usable_of (mid_reply k g) ≡ true
unfolding usable_of
mid_usable k g h = simp (lt-ltb g (longest (shape_of (kind_for k))) h)

-- one byte, the i-th behind the first n
mid_step : (k : CallKind) (n i g b : ℕ) (reply own : List ℕ) → g ≡ n + i → i < ahead_of (shape_of (kind_for k)) n → g < longest (shape_of (kind_for k)) → g < length reply
    → plain b ≡ true → StepDone (mid_reply k g) reply own b (record { answer = variant.More; link = mid_reply k (suc g) }) (set reply g b) own
mid_step k n i g b reply own e h below room p =
    let turn = ahead_more (shape_of (kind_for k)) n i b h p in
    let same : mid_reply k (g + 1) ≡ mid_reply k (suc g) = rw (add-one g) in
    at_data (mid_reply k g) reply own b (mid_usable k g below) (data_in_itself b p)
    (data_outside (mid_reply k g) reply own b refl (reply_more (mid_reply k g) reply b refl refl room (rw e turn) (rw same)))

pub mid_steps : (k : CallKind) (n : ℕ) (xs : List ℕ) (i g : ℕ) (reply own : List ℕ) → Plains xs → g ≡ n + i → n < longest (shape_of (kind_for k))
    → i + length xs ≤ ahead_of (shape_of (kind_for k)) n → g + length xs ≤ length reply
    → Runs (mid_reply k g) reply own xs (replicate (length xs) rules.need_more) (mid_reply k (g + length xs)) (sets reply g xs) own
mid_steps k n [] i g reply own none e below h room = rw (add-zero g) stop
mid_steps k n (x ∷ xs) i g reply own (one p ps) e below h room =
    let fits = ahead_fits (shape_of (kind_for k)) n below in
    let same : suc g + length xs ≡ g + suc (length xs) = omega arith in
    took (mid_step k n i g x reply own e (omega arith) (omega arith) (omega arith) p)
    (rw same at (mid_steps k n xs (suc i) (suc g) (set reply g x) own ps (omega arith) below (omega arith) (simp length-set (omega arith))))

-- A step that the loop passes over leaves a usable link: only a refusal stops one.
halts : (f : rules.Frame) (t : rules.Token) (y : rules.Layer) → rules.link_at y (rules.meets f t).next ≡ rules.stopped → passes (rules.meets f t).report ≡ false
unfolding rules.meets passes
halts f rules.underway y e = cc
halts f (rules.datum b) y e = waited f.wait e
  where
    turned : (k : Kind) (s : List ℕ) (u : Turn) → rules.link_at y (rules.reply_turned k s b u).next ≡ rules.stopped → passes (rules.reply_turned k s b u).report ≡ false
    turned k s more e = cc
    turned k s done e = cc
    turned k s (refused n) e = refl

    waited : (w : rules.Wait) → rules.link_at y (rules.datum_met f w b).next ≡ rules.stopped → passes (rules.datum_met f w b).report ≡ false
    waited rules.idle e = cc
    waited (rules.waiting k) e = turned k f.got (shape_turn (shape_of k) (length f.got) b) e
halts f (rules.acted r) y e = cc
halts f (rules.failed r) y e = cc
halts f (rules.bad n) y e = refl

stops : (l : rules.Link) (x : ℕ) → (rules.step l x).next ≡ rules.stopped → passes (rules.step l x).report ≡ false
unfolding rules.step passes
stops rules.stopped x e = refl
stops (rules.live y f) x e = halts f (rules.look y x).token (rules.look y x).next e

pub still_usable : {l : Link} {reply own reply-left own-left : List ℕ} {x : ℕ} {o : Stepped} → StepDone l reply own x o reply-left own-left → passes (report_of o.answer reply-left own-left) ≡ true
    → usable_of o.link ≡ true
still_usable {l} {reply} {own} {reply-left} {own-left} {x} {o} d p = go (usable_of o.link) refl
  where
    go : (t : Bool) → usable_of o.link ≡ t → t ≡ true
    go true e = refl
    go false e =
        let at : view_of o.link reply-left own-left ≡ rules.stopped = rw e in
        let no = stops (view_of l reply own) x (sym d.next ∙ at) in
        sym no ∙ (ap passes (sym d.answer) ∙ p)
