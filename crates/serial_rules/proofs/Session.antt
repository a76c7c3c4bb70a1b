-- What a raw byte is to the reply does not depend on what waits. So the link on any inputs is the reply alone on their signs, and the
-- signs that leave the reply at its place can be left out and their reports put back.
use mathlib.Core.Path.{◌≡◌, refl, ap}
use mathlib.Core.List.{List, [], ◌∷◌}
use Rattle.serial_rules.specs.Link.{need_more, refusal, Layer, underway, datum, acted, failed, bad, look, Standing, halted, holds, meets, link_at, step, denied, enters, begin}
use Rattle.serial_rules.specs.Session.{Input, raw, call, Told, report, answer, tells, link_after, Sign, token, began, signs, layer_after, stands_by, says, stands_after, movers, woven}

pub layers_told : (l : Layer) (S : Standing) (s : List Input) → tells (link_at l S) s ≡ says S (signs l s)
unfolding tells says signs step begin
layers_told l halted [] = refl
layers_told l (holds f) [] = refl
layers_told l halted (raw x ∷ s) = ap (λ (w : List Told). report (refusal 7) ∷ w) (layers_told (look l x).next halted s)
layers_told l halted (call k ∷ s) = ap (λ (w : List Told). answer (denied 7) ∷ w) (layers_told l halted s)
layers_told l (holds f) (raw x ∷ s) =
    let m = meets f (look l x).token in
    ap (λ (w : List Told). report m.report ∷ w) (layers_told (look l x).next m.next s)
layers_told l (holds f) (call k ∷ s) = ap (λ (w : List Told). answer (enters f k).answer ∷ w) (layers_told l (holds (enters f k).next) s)

pub layers_after : (l : Layer) (S : Standing) (s : List Input) → link_after (link_at l S) s ≡ link_at (layer_after l s) (stands_after S (signs l s))
unfolding link_after layer_after stands_after signs step begin
layers_after l halted [] = refl
layers_after l (holds f) [] = refl
layers_after l halted (raw x ∷ s) = layers_after (look l x).next halted s
layers_after l halted (call k ∷ s) = layers_after l halted s
layers_after l (holds f) (raw x ∷ s) = layers_after (look l x).next (meets f (look l x).token).next s
layers_after l (holds f) (call k ∷ s) = layers_after l (holds (enters f k).next) s

-- once a byte is refused nothing changes
pub halted_stays : (l : List Sign) → stands_after halted l ≡ halted
unfolding stands_after
halted_stays [] = refl
halted_stays (s ∷ l) = halted_stays l

-- the movers alone move the reply
pub movers_move : (S : Standing) (l : List Sign) → stands_after S l ≡ stands_after S (movers l)
unfolding stands_after movers meets
movers_move S [] = refl
movers_move halted (token underway ∷ l) = movers_move halted l
movers_move (holds f) (token underway ∷ l) = movers_move (holds f) l
movers_move halted (token (acted r) ∷ l) = movers_move halted l
movers_move (holds f) (token (acted r) ∷ l) = movers_move (holds f) l
movers_move S (token (datum b) ∷ l) = movers_move (stands_by S (token (datum b))) l
movers_move S (token (failed r) ∷ l) = movers_move (stands_by S (token (failed r))) l
movers_move S (token (bad n) ∷ l) = movers_move (stands_by S (token (bad n))) l
movers_move S (began k ∷ l) = movers_move (stands_by S (began k)) l

-- what is said of the movers is said in the whole, and each action is reported in its place
pub weave : (S : Standing) (l : List Sign) → (stands_after S l ≡ halted → ⊥) → says S l ≡ woven l (says S (movers l))
unfolding says woven movers stands_after meets
weave S [] h = refl
weave halted (s ∷ l) h = absurd (h (halted_stays l))
weave (holds f) (token underway ∷ l) h = ap (λ (w : List Told). report need_more ∷ w) (weave (holds f) l h)
weave (holds f) (token (acted r) ∷ l) h = ap (λ (w : List Told). report r ∷ w) (weave (holds f) l h)
weave (holds f) (token (datum b) ∷ l) h =
    let m = meets f (datum b) in
    ap (λ (w : List Told). report m.report ∷ w) (weave m.next l h)
weave (holds f) (token (failed r) ∷ l) h =
    let m = meets f (failed r) in
    ap (λ (w : List Told). report m.report ∷ w) (weave m.next l h)
weave (holds f) (token (bad n) ∷ l) h =
    let m = meets f (bad n) in
    ap (λ (w : List Told). report m.report ∷ w) (weave m.next l h)
weave (holds f) (began k ∷ l) h = ap (λ (w : List Told). answer (enters f k).answer ∷ w) (weave (holds (enters f k).next) l h)
