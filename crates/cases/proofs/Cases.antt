-- Every case of the table comes out as it is written down: each part of the table by the theorem of the crate that it is from.
use mathlib.Core.Path.{◌≡◌, refl, ap, ap₂, ◌∙◌}
use mathlib.Core.List.{List, [], ◌∷◌, ◌++◌, map}
use Rattle.chip_rules.specs.Cases as chip
use Rattle.chip_rules.proofs.Cases as chip-proofs
use Rattle.serial_rules.specs.Cases as serial
use Rattle.serial_rules.proofs.Cases as serial-proofs
use Rattle.cases.specs.Table.{Case, chip_case, request_case, reply_case, worked, table}

-- the cases of one crate, worked before or after they are joined
part : {K : Type 0} (f : K → K) (c : K → Case) → ((k : K) → worked (c k) ≡ c (f k)) → (l : List K) → map worked (map c l) ≡ map c (map f l)
part f c h [] = refl
part f c h (k ∷ l) = ap₂ (λ (x : Case) (z : List Case). x ∷ z) (h k) (part f c h l)

map_append : (l m : List Case) → map worked (l ++ m) ≡ map worked l ++ map worked m
map_append [] m = refl
map_append (k ∷ l) m = ap (λ (z : List Case). worked k ∷ z) (map_append l m)

chip_worked : (k : chip.Case) → worked (chip_case k) ≡ chip_case (chip.worked k)
unfolding worked
chip_worked k = refl

request_worked : (k : serial.Case) → worked (request_case k) ≡ request_case (serial.worked k)
unfolding worked
request_worked k = refl

reply_worked_lem : (k : serial.ReplyCase) → worked (reply_case k) ≡ reply_case (serial.reply_worked k)
unfolding worked
reply_worked_lem k = refl

pub every_case : map worked table ≡ table
unfolding table
every_case =
    let requests = map request_case serial.cases in
    let replies = map reply_case serial.reply_cases in
    map_append (map chip_case chip.cases) (requests ++ replies)
    ∙ ap₂ (λ (x y : List Case). x ++ y)
    (part chip.worked chip_case chip_worked chip.cases ∙ ap (map chip_case) chip-proofs.every_case)
    (map_append requests replies
    ∙ ap₂ (λ (x y : List Case). x ++ y)
    (part serial.worked request_case request_worked serial.cases ∙ ap (map request_case) serial-proofs.every_case)
    (part serial.reply_worked reply_case reply_worked_lem serial.reply_cases ∙ ap (map reply_case) serial-proofs.every_reply))
