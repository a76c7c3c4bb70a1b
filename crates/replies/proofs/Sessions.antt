-- What the program's link tells on a session is what the rules' link tells: so the theorems on actions and errors speak of it.
use Prim.Native.Nat.{ℕ}
use mathlib.Core.Path.{◌≡◌, refl, sym, ap, ap₂, subst, ◌∙◌}
use mathlib.Core.Bool.{true}
use mathlib.Core.List.{List, [], ◌∷◌, ◌++◌, map}
use lib.ListN.{take}
use Rattle.serial_rules.specs.Link as rules
use Rattle.serial_rules.specs.Session.{Input, raw, Told, report, answer, tells, link_after, signs, layer_after, says, movers, woven, Part, error, open_in, all_good, good, inputs, inputs_of, signs_of, fill, behind, spread, without_actions, inside, between, Within, stack_in}
use Rattle.serial_rules.specs.Nest.{nest_of}
use Rattle.serial_rules.proofs.Session.{layers_told, layers_after, weave}
use Rattle.serial_rules.proofs.Actions.{actions_pass, error_ends_call}
use Rattle.serial_rules.proofs.Depth.{fresh_within, reply_outside}
use Rattle.link.specs.declared.Link.{Link}
use Rattle.answers.specs.declared.Answer.{Answer}
use Rattle.answers.specs.declared.Answer.TheVariants as variant
use Rattle.link.specs.declared.Stepped.{Stepped}
use Rattle.link.specs.View.{usable_of, view_of, fresh, StepDone}
use Rattle.answers.specs.Reports.{report_of}
use Rattle.link_loop.specs.Run.{Runs}
use Rattle.replies.specs.Sessions.{Sessions, stop, took, began}

pub record AsRuled (l : Link) (reply own : List ℕ) (s : List Input) (told : List Told) (q : Link) (reply-end own-end : List ℕ) : Type 0 where
  pub told_is : told ≡ tells (view_of l reply own) s
  pub left : view_of q reply-end own-end ≡ link_after (view_of l reply own) s

pub as_ruled : {l q : Link} {reply own reply-end own-end : List ℕ} {s : List Input} {told : List Told} → Sessions l reply own s told q reply-end own-end
    → AsRuled l reply own s told q reply-end own-end
unfolding tells link_after
as_ruled stop = record { told_is = refl; left = refl }
as_ruled (took {s = s} d t) =
    let a = as_ruled t in
    record {
      told_is = ap₂ (λ (x : rules.Report) (w : List Told). report x ∷ w) d.answer (a.told_is ∙ ap (λ (v : rules.Link). tells v s) d.next);
      left = a.left ∙ ap (λ (v : rules.Link). link_after v s) d.next;
    }
as_ruled (began {reply = reply} {own = own} {s = s} d t) =
    let a = as_ruled t in
    record {
      told_is = ap₂ (λ (x : rules.Begun) (w : List Told). answer x ∷ w) (d.answer reply own) (a.told_is ∙ ap (λ (v : rules.Link). tells v s) (d.next reply own));
      left = a.left ∙ ap (λ (v : rules.Link). link_after v s) (d.next reply own);
    }

-- what the loop of crate link does is a session
pub loop_session : {l q : Link} {reply own reply-end own-end raws : List ℕ} {reports : List rules.Report} → Runs l reply own raws reports q reply-end own-end
    → Sessions l reply own (map raw raws) (map report reports) q reply-end own-end
loop_session Runs.stop = stop
loop_session (Runs.took d t) = took d (loop_session t)

-- Whatever the inputs, also with a call begun inside an action or an escape pair: as long as no byte is refused, the link tells what it
-- tells on the inputs that can move the reply, with each action reported in its place.
pub any_input : {l q : Link} {reply own reply-end own-end : List ℕ} {s : List Input} {told : List Told} (lay : rules.Layer) (f : rules.Frame)
    → view_of l reply own ≡ rules.live lay f → Sessions l reply own s told q reply-end own-end → (view_of q reply-end own-end ≡ rules.stopped → ⊥)
    → told ≡ woven (signs lay s) (says (rules.holds f) (movers (signs lay s)))
any_input {s = s} lay f at t h =
    let a = as_ruled t in
    let end = a.left ∙ ap (λ (v : rules.Link). link_after v s) at ∙ layers_after lay (rules.holds f) s in
    a.told_is
    ∙ ap (λ (v : rules.Link). tells v s) at
    ∙ layers_told lay (rules.holds f) s
    ∙ weave (rules.holds f) (signs lay s) (λ e. h (end ∙ ap (rules.link_at (layer_after lay s)) e))

-- A stream with actions and transfers anywhere between its data bytes, errors and begun calls, and the same stream without them and without load data,
-- each given to the program's link where it holds the same and no transfer is open: the second is told w, the first w with the report of each action and
-- load byte in its place, both spread over the raw bytes of their parts; and the links are left the same, but for the transfers that are still open. As long
-- as no byte is refused.
pub record Pass (f : rules.Frame) (ps : List Part) (told plain : List Told) (end plain_end : rules.Link) : Type 0 where
  pub told_is : told ≡ spread ps (woven (signs_of [] ps) (says (rules.holds f) (signs_of [] (without_actions [] ps))))
  pub plain_is : plain ≡ spread (without_actions [] ps) (says (rules.holds f) (signs_of [] (without_actions [] ps)))
  pub stands : rules.Standing
  pub end_is : end ≡ rules.link_at (inside (open_in [] ps)) stands
  pub plain_end_is : plain_end ≡ rules.link_at between stands

pub actions_move_nothing : {l q l' q' : Link} {reply own reply-end own-end reply' own' reply-end' own-end' : List ℕ} {told plain : List Told} (f : rules.Frame) (ps : List Part)
    → view_of l reply own ≡ rules.live between f → view_of l' reply' own' ≡ rules.live between f → all_good [] ps ≡ true
    → Sessions l reply own (inputs ps) told q reply-end own-end → Sessions l' reply' own' (inputs (without_actions [] ps)) plain q' reply-end' own-end'
    → (view_of q' reply-end' own-end' ≡ rules.stopped → ⊥) → Pass f ps told plain (view_of q reply-end own-end) (view_of q' reply-end' own-end')
actions_move_nothing f ps at at' g t t' h =
    let a = as_ruled t in
    let b = as_ruled t' in
    let end = b.left ∙ ap (λ (v : rules.Link). link_after v (inputs (without_actions [] ps))) at' in
    let p = actions_pass f ps g (λ e. h (end ∙ e)) in
    record {
      told_is = a.told_is ∙ ap (λ (v : rules.Link). tells v (inputs ps)) at ∙ p.told;
      plain_is = b.told_is ∙ ap (λ (v : rules.Link). tells v (inputs (without_actions [] ps))) at' ∙ p.plain;
      stands = p.left.0;
      end_is = a.left ∙ ap (λ (v : rules.Link). link_after v (inputs ps)) at ∙ p.left.1;
      plain_end_is = end ∙ p.left.2;
    }

-- An error or restart in a stream, whatever transfers are open: what was told before it stands; then it is told at its last byte, and the link goes on as a
-- fresh one, so that no byte behind it is taken for the reply of the call that waited or for load data.
pub error_ends : {l q : Link} {reply own reply-end own-end : List ℕ} {told : List Told} (f : rules.Frame) (ps : List Part) (n : ℕ) (t : List ℕ) (qs : List Part)
    → view_of l reply own ≡ rules.live between f → all_good [] ps ≡ true → good [] (error n t) ≡ true → (link_after (rules.live between f) (inputs ps) ≡ rules.stopped → ⊥)
    → Sessions l reply own (inputs (ps ++ (error n t ∷ qs))) told q reply-end own-end
    → (told ≡ tells (rules.live between f) (inputs ps) ++ (fill (report rules.need_more) (behind (inputs_of (error n t))) ++ (report (rules.failure n t) ∷ tells rules.fresh (inputs qs))))
    × (view_of q reply-end own-end ≡ link_after rules.fresh (inputs qs))
error_ends f ps n t qs at g k h w =
    let a = as_ruled w in
    let i = inputs (ps ++ (error n t ∷ qs)) in
    let e = error_ends_call f ps n t qs g k h in
    (a.told_is ∙ ap (λ (v : rules.Link). tells v i) at ∙ e.told, a.left ∙ ap (λ (v : rules.Link). link_after v i) at ∙ e.left)

-- From a fresh link, whatever the inputs: at most four transfers are open, no more than three while the address of a load or save is read, and a control block
-- has fewer bytes than its mark says.
pub limits_kept : {q : Link} {reply own reply-end own-end : List ℕ} {s : List Input} {told : List Told} → Sessions fresh reply own s told q reply-end own-end
    → Within (view_of q reply-end own-end)
unfolding usable_of nest_of
limits_kept {s = s} t = subst Within (sym (as_ruled t).left) (fresh_within s)

-- A reply is reported only where no transfer is open.
pub reply_alone : {l : Link} {reply own reply-left own-left : List ℕ} {x n : ℕ} {o : Stepped} → StepDone l reply own x o reply-left own-left → o.answer ≡ variant.Reply n
    → stack_in (view_of l reply own) ≡ []
reply_alone {l} {reply} {own} {reply-left} {own-left} {x} {n} d e =
    reply_outside (view_of l reply own) x (take n reply-left) (sym d.answer ∙ ap (λ (a : Answer). report_of a reply-left own-left) e)
