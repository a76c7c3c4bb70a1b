-- Actions move no reply byte: the signs of a stream of parts, with its actions left out and their reports put back.
use Prim.Native.Nat.{ℕ}
use mathlib.Core.Path.{◌≡◌, refl, sym, ap, ◌∙◌}
use mathlib.Core.Bool.{true, false}
use lib.Dec.{eqb}
use Rattle.serial_rules.specs.Marks.{inward_class, end_mark}
use mathlib.Core.List.{List, [], ◌∷◌, ◌++◌, append_assoc}
use native.Mathlib.Omega.{arith}
use Rattle.serial_rules.specs.Link.{Transfer, load, save, place, opened, closes, need_more, underway, Frame, idle_frame, Standing, halted, holds, meets, Link, stopped, live, link_at, fresh, failure}
use Rattle.serial_rules.specs.Session.{Input, Told, report, told_by, next_by, tells, link_after, Sign, token, signs, layer_after, said_by, stands_by, says, stands_after, movers, woven, Part, byte, begun, state, event, address, block, ending, error, open_after, open_in, good, all_good, inputs_of, inputs, sign_of, signs_of, fill, behind, spread, without_actions, inside, between, ActionsPass, ErrorEnds}
use Rattle.serial_rules.proofs.Trip.{and_both}
use Rattle.serial_rules.proofs.Session.{layers_told, layers_after, halted_stays, movers_move, weave}
use Rattle.serial_rules.proofs.Parts.{part_signs, part_after}

-- need-more leaves the reply as it is
pub underway_said : (f : Frame) (s : List Input) (l : List Sign) → says (holds f) (fill (token underway) s ++ l) ≡ fill (report need_more) s ++ says (holds f) l
unfolding says meets
underway_said f [] l = refl
underway_said f (i ∷ s) l = ap (λ (w : List Told). report need_more ∷ w) (underway_said f s l)

underway_stands : (S : Standing) (s : List Input) (l : List Sign) → stands_after S (fill (token underway) s ++ l) ≡ stands_after S l
unfolding stands_after meets
underway_stands S [] l = refl
underway_stands halted (i ∷ s) l = underway_stands halted s l
underway_stands (holds f) (i ∷ s) l = underway_stands (holds f) s l

-- the parts of a stream, each as one sign
pub parts_said : (o : List Transfer) (S : Standing) (ps : List Part) → all_good o ps ≡ true → (stands_after S (signs_of o ps) ≡ halted → ⊥)
    → says S (signs (inside o) (inputs ps)) ≡ spread ps (says S (signs_of o ps))
unfolding all_good inputs signs signs_of says spread stands_after
parts_said o S [] g h = refl
parts_said o halted (p ∷ ps) g h = absurd (h (halted_stays (signs_of (open_after o p) ps)))
parts_said o (holds f) (p ∷ ps) g h =
    let n = open_after o p in
    let k = and_both (good o p) (all_good n ps) g in
    let q = behind (inputs_of p) in
    ap (says (holds f)) (part_signs o p (inputs ps) k.0)
    ∙ underway_said f q (sign_of o p ∷ signs (inside n) (inputs ps))
    ∙ ap (λ (w : List Told). fill (report need_more) q ++ (said_by (holds f) (sign_of o p) ∷ w)) (parts_said n (stands_by (holds f) (sign_of o p)) ps k.1 h)

parts_stand : (o : List Transfer) (S : Standing) (ps : List Part) → all_good o ps ≡ true → stands_after S (signs (inside o) (inputs ps)) ≡ stands_after S (signs_of o ps)
unfolding all_good inputs signs signs_of stands_after
parts_stand o S [] g = refl
parts_stand o S (p ∷ ps) g =
    let n = open_after o p in
    let k = and_both (good o p) (all_good n ps) g in
    ap (stands_after S) (part_signs o p (inputs ps) k.0)
    ∙ underway_stands S (behind (inputs_of p)) (sign_of o p ∷ signs (inside n) (inputs ps))
    ∙ parts_stand n (stands_by S (sign_of o p)) ps k.1

parts_between : (o : List Transfer) (ps : List Part) → all_good o ps ≡ true → layer_after (inside o) (inputs ps) ≡ inside (open_in o ps)
unfolding all_good inputs layer_after open_in
parts_between o [] g = refl
parts_between o (p ∷ ps) g = let k = and_both (good o p) (all_good (open_after o p) ps) g in part_after o p (inputs ps) k.0 ∙ parts_between (open_after o p) ps k.1

pub parts_left : (o : List Transfer) (S : Standing) (ps : List Part) → all_good o ps ≡ true
    → link_after (link_at (inside o) S) (inputs ps) ≡ link_at (inside (open_in o ps)) (stands_after S (signs_of o ps))
parts_left o S ps g = layers_after (inside o) S (inputs ps) ∙ rw (parts_between o ps g, parts_stand o S ps g) refl

-- what is left of good parts is good outside every transfer, opens none, and its signs are the movers
plain_good : (o : List Transfer) (ps : List Part) → all_good o ps ≡ true → all_good [] (without_actions o ps) ≡ true
unfolding all_good without_actions
plain_good o [] g = refl
plain_good [] (byte b ∷ ps) g = plain_good [] ps g
plain_good (t ∷ o) (byte b ∷ ps) g = plain_good (t ∷ o) ps (and_both (good (t ∷ o) (byte b)) (all_good (t ∷ o) ps) g).1
plain_good o (begun k ∷ ps) g = plain_good o ps g
plain_good o (state m ∷ ps) g = plain_good o ps (and_both (good o (state m)) (all_good o ps) g).1
plain_good o (event m y x a ∷ ps) g = plain_good o ps (and_both (good o (event m y x a)) (all_good o ps) g).1
plain_good o (address t m b3 b2 b1 b0 ∷ ps) g = plain_good (opened (place t) o) ps (and_both (good o (address t m b3 b2 b1 b0)) (all_good (opened (place t) o) ps) g).1
plain_good o (block b s ∷ ps) g = plain_good o ps (and_both (good o (block b s)) (all_good o ps) g).1
plain_good o (ending m ∷ ps) g = plain_good (closes o).next.stack ps (and_both (good o (ending m)) (all_good (closes o).next.stack ps) g).1
plain_good o (error n t ∷ ps) g = let k = and_both (good o (error n t)) (all_good [] ps) g in rw k.0 (plain_good [] ps k.1)

plain_closed : (o : List Transfer) (ps : List Part) → open_in [] (without_actions o ps) ≡ []
unfolding open_in without_actions
plain_closed o [] = refl
plain_closed [] (byte b ∷ ps) = plain_closed [] ps
plain_closed (t ∷ o) (byte b ∷ ps) = plain_closed (t ∷ o) ps
plain_closed o (begun k ∷ ps) = plain_closed o ps
plain_closed o (state m ∷ ps) = plain_closed o ps
plain_closed o (event m y x a ∷ ps) = plain_closed o ps
plain_closed o (address t m b3 b2 b1 b0 ∷ ps) = plain_closed (opened (place t) o) ps
plain_closed o (block b s ∷ ps) = plain_closed o ps
plain_closed o (ending m ∷ ps) = plain_closed (closes o).next.stack ps
plain_closed o (error n t ∷ ps) = plain_closed [] ps

plain_signs : (o : List Transfer) (ps : List Part) → all_good o ps ≡ true → movers (signs_of o ps) ≡ signs_of [] (without_actions o ps)
unfolding all_good movers signs_of without_actions
plain_signs o [] g = refl
plain_signs [] (byte b ∷ ps) g = ap (λ (l : List Sign). sign_of [] (byte b) ∷ l) (plain_signs [] ps g)
plain_signs (load ∷ o) (byte b ∷ ps) g = plain_signs (load ∷ o) ps g
plain_signs (save ∷ o) (byte b ∷ ps) g = let z : ◌≡◌ {A = ℕ} 0 1 = cc in absurd (omega arith)
plain_signs o (begun k ∷ ps) g = ap (λ (l : List Sign). sign_of [] (begun k) ∷ l) (plain_signs o ps g)
plain_signs o (state m ∷ ps) g = plain_signs o ps (and_both (good o (state m)) (all_good o ps) g).1
plain_signs o (event m y x a ∷ ps) g = plain_signs o ps (and_both (good o (event m y x a)) (all_good o ps) g).1
plain_signs o (address t m b3 b2 b1 b0 ∷ ps) g = plain_signs (opened (place t) o) ps (and_both (good o (address t m b3 b2 b1 b0)) (all_good (opened (place t) o) ps) g).1
plain_signs o (block b s ∷ ps) g = plain_signs o ps (and_both (good o (block b s)) (all_good o ps) g).1
plain_signs [] (ending m ∷ ps) g = let e : false ≡ true = (and_both (eqb (inward_class m) end_mark) false (and_both (good [] (ending m)) (all_good [] ps) g).0).1 in let z : ◌≡◌ {A = ℕ} 0 1 = cc in absurd (omega arith)
plain_signs (t ∷ o) (ending m ∷ ps) g = plain_signs o ps (and_both (good (t ∷ o) (ending m)) (all_good o ps) g).1
plain_signs o (error n t ∷ ps) g = ap (λ (l : List Sign). sign_of [] (error n t) ∷ l) (plain_signs [] ps (and_both (good o (error n t)) (all_good [] ps) g).1)

pub actions_pass : (f : Frame) (ps : List Part) → all_good [] ps ≡ true → (link_after (live between f) (inputs (without_actions [] ps)) ≡ stopped → ⊥) → ActionsPass f ps
actions_pass f ps g h =
    let plain = without_actions [] ps in
    let q = plain_good [] ps g in
    let end = stands_after (holds f) (signs_of [] plain) in
    let same : stands_after (holds f) (signs_of [] ps) ≡ end = movers_move (holds f) (signs_of [] ps) ∙ ap (stands_after (holds f)) (plain_signs [] ps g) in
    let bare : link_after (live between f) (inputs plain) ≡ link_at between end = parts_left [] (holds f) plain q ∙ ap (λ (o : List Transfer). link_at (inside o) end) (plain_closed [] ps) in
    let up : end ≡ halted → ⊥ = λ e. h (bare ∙ ap (link_at between) e) in
    let on : stands_after (holds f) (signs_of [] ps) ≡ halted → ⊥ = λ e. up (sym same ∙ e) in
    record {
      told =
          layers_told between (holds f) (inputs ps)
          ∙ parts_said [] (holds f) ps g on
          ∙ ap (spread ps) (weave (holds f) (signs_of [] ps) on ∙ ap (λ (l : List Sign). woven (signs_of [] ps) (says (holds f) l)) (plain_signs [] ps g));
      plain = layers_told between (holds f) (inputs plain) ∙ parts_said [] (holds f) plain q up;
      left = (end, parts_left [] (holds f) ps g ∙ ap (link_at (inside (open_in [] ps))) same, bare);
    }

-- joined streams
pub tells_append : (l : Link) (s t : List Input) → tells l (s ++ t) ≡ tells l s ++ tells (link_after l s) t
unfolding tells link_after
tells_append l [] t = refl
tells_append l (i ∷ s) t = ap (λ (w : List Told). told_by l i ∷ w) (tells_append (next_by l i) s t)

pub left_append : (l : Link) (s t : List Input) → link_after l (s ++ t) ≡ link_after (link_after l s) t
unfolding link_after
left_append l [] t = refl
left_append l (i ∷ s) t = left_append (next_by l i) s t

inputs_append : (ps qs : List Part) → inputs (ps ++ qs) ≡ inputs ps ++ inputs qs
unfolding inputs
inputs_append [] qs = refl
inputs_append (p ∷ ps) qs = ap (λ (l : List Input). inputs_of p ++ l) (inputs_append ps qs) ∙ sym (append_assoc (inputs_of p) (inputs ps) (inputs qs))

-- an error, whatever waits and whatever is open
error_told : (o : List Transfer) (f : Frame) (n : ℕ) (t : List ℕ) (i : List Input) → good o (error n t) ≡ true
    → tells (live (inside o) f) (inputs_of (error n t) ++ i) ≡ fill (report need_more) (behind (inputs_of (error n t))) ++ (report (failure n t) ∷ tells fresh i)
unfolding says meets
error_told o f n t i g =
    let q = behind (inputs_of (error n t)) in
    layers_told (inside o) (holds f) (inputs_of (error n t) ++ i)
    ∙ ap (says (holds f)) (part_signs o (error n t) i g)
    ∙ underway_said f q (sign_of o (error n t) ∷ signs between i)
    ∙ ap (λ (w : List Told). fill (report need_more) q ++ (report (failure n t) ∷ w)) (sym (layers_told between (holds idle_frame) i))

error_left : (o : List Transfer) (f : Frame) (n : ℕ) (t : List ℕ) (i : List Input) → good o (error n t) ≡ true → link_after (live (inside o) f) (inputs_of (error n t) ++ i) ≡ link_after fresh i
unfolding stands_after meets
error_left o f n t i g =
    layers_after (inside o) (holds f) (inputs_of (error n t) ++ i)
    ∙ rw (part_after o (error n t) i g, part_signs o (error n t) i g, underway_stands (holds f) (behind (inputs_of (error n t))) (sign_of o (error n t) ∷ signs between i)) (sym (layers_after between (holds idle_frame) i))

-- on good parts a link that is not stopped is between two of them
parts_live : (f : Frame) (ps : List Part) → all_good [] ps ≡ true → (link_after (live between f) (inputs ps) ≡ stopped → ⊥)
    → (e : Frame) × (link_after (live between f) (inputs ps) ≡ live (inside (open_in [] ps)) e)
parts_live f ps g h = go (stands_after (holds f) (signs_of [] ps)) refl
  where
    go : (S : Standing) → stands_after (holds f) (signs_of [] ps) ≡ S → (e : Frame) × (link_after (live between f) (inputs ps) ≡ live (inside (open_in [] ps)) e)
    go halted e = absurd (h (parts_left [] (holds f) ps g ∙ ap (link_at (inside (open_in [] ps))) e))
    go (holds x) e = (x, parts_left [] (holds f) ps g ∙ ap (link_at (inside (open_in [] ps))) e)

pub error_ends_call : (f : Frame) (ps : List Part) (n : ℕ) (t : List ℕ) (qs : List Part) → all_good [] ps ≡ true → good [] (error n t) ≡ true
    → (link_after (live between f) (inputs ps) ≡ stopped → ⊥) → ErrorEnds f ps n t qs
unfolding inputs
error_ends_call f ps n t qs k g h =
    let i = inputs ps in
    let j = inputs_of (error n t) ++ inputs qs in
    let o = open_in [] ps in
    let e = parts_live f ps k h in
    record {
      told =
          ap (tells (live between f)) (inputs_append ps (error n t ∷ qs))
          ∙ tells_append (live between f) i j
          ∙ ap (λ (l : Link). tells (live between f) i ++ tells l j) e.1
          ∙ ap (λ (w : List Told). tells (live between f) i ++ w) (error_told o e.0 n t (inputs qs) g);
      left =
          ap (link_after (live between f)) (inputs_append ps (error n t ∷ qs))
          ∙ left_append (live between f) i j
          ∙ ap (λ (l : Link). link_after l j) e.1
          ∙ error_left o e.0 n t (inputs qs) g;
    }
