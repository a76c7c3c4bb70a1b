-- Plain raw bytes in the middle of a field: each is a step that needs more, so that all of them are a chain of steps.
use Prim.Native.Nat.{ℕ, suc, ◌+◌, ◌≤◌, ◌<◌}
use native.Mathlib.Nat.{add-zero}
use native.Mathlib.Numerals.{add-one}
use native.Mathlib.Omega.{arith}
use mathlib.Core.Path.{◌≡◌, refl, sym, ap, subst, ◌∙◌}
use mathlib.Core.Bool.{Bool, true, false}
use mathlib.Core.List.{List, [], ◌∷◌, ◌++◌, append_assoc, append-nil}
use Rattle.std.specs.Prelude.{Ok}
use lib.ListN.{length, get_or, take, drop, set, replicate, length-append, length-drop, length-set}
use lib.Seq.{length-take-le, get_or-take, sets}
use borrow.Author.Tests.{lt-ltb}
use Rattle.serial_rules.specs.Escape.{data_byte}
use Rattle.serial_rules.specs.Call.{Carrier, serial, parallel}
use Rattle.serial_rules.specs.Body.{more, body_turn, longest_body}
use Rattle.serial_rules.specs.Reader as rules
use Rattle.serial_rules.proofs.Lent.{take_next}
use Rattle.turns.specs.Plain.{plain, Plains, none, one, PlainDone}
use Rattle.turns.proofs.Plain.{no_escape, done_plains, done_most, part_sets}
use Rattle.request_reader.specs.declared.Phase.{Phase}
use Rattle.request_reader.specs.declared.Phase.TheVariants.{Inside}
use Rattle.request_reader.specs.declared.Reader.{Reader}
use Rattle.request_reader.specs.declared.Answer.TheVariants.{More}
use Rattle.request_reader.specs.declared.Stepped.{Stepped}
use Rattle.request_reader.specs.View.{body_room, inside_limits, limits_in, keeps_limits, view_of, StepDone}
use Rattle.carrier.specs.Carriers.{carrier_of}
use Rattle.middles.specs.Ahead.{ahead_in}
use Rattle.middles.proofs.Middle.{AheadDone, ahead_holds}
use Rattle.request_reader.specs.Read.{Read, stop, took}
use Rattle.request_loop.specs.Pass.{passed_from, PassDone}
use Rattle.request_reader.proofs.Limits.{longest_fits}
use Rattle.request_reader.proofs.Steps.{inside_style, inside_count, inside_data, data_goes, at_inside}
use Rattle.request_reader.proofs.Settled.{step_refuses}

-- a plain byte is data in itself, on either carrier
data_in_itself : (c : Carrier) (b : ℕ) → plain b ≡ true → rules.piece_inside c false b ≡ data_byte b
data_in_itself serial b h = rw (no_escape b h)
data_in_itself parallel b h = refl

plains_more : {l : List ℕ} (b : ℕ) → Plains l → plain b ≡ true → Plains (l ++ (b ∷ []))
plains_more b none p = one p none
plains_more b (one q ps) p = one q (plains_more b ps p)

-- a reader in the middle of a body
abbrev mid : Reader → ℕ → Reader
mid r g = record { carrier = r.carrier; phase = Inside; escape = false; style = r.style; code = r.code; count = g }

module _ (r : Reader) (ok : inside_limits r ≡ true) where
  mid_limits : (g : ℕ) → g < longest_body r.code → inside_limits (mid r g) ≡ true
  unfolding inside_limits
  mid_limits g h = simp (inside_style r ok, lt-ltb g (longest_body r.code) h)

  mid_step : (g b : ℕ) (lent : List ℕ) → g + 1 < longest_body r.code → g < length lent → body_turn r.code (take g lent) b ≡ more → plain b ≡ true
      → StepDone (mid r g) lent b (record { answer = More; reader = mid r (suc g) }) (set lent g b)
  mid_step g b lent fits room turn p =
      let w = mid_limits g (omega arith) in
      let same : mid r (g + 1) ≡ mid r (suc g) = rw (add-one g) in
      at_inside (mid r g) lent b (Ok (record { answer = More; reader = mid r (suc g) })) (rw w)
      (inside_data (mid r g) lent (Ok (record { answer = More; reader = mid r (suc g) })) (data_in_itself (carrier_of r.carrier) b p) (data_goes (mid r g) lent b w room fits turn (rw same))) refl

  -- behind the bytes s of the body the plain bytes ys have come, and xs come
  mid_steps : (s ys xs : List ℕ) (n g : ℕ) (lent : List ℕ) → AheadDone r.code s n → length s < longest_body r.code → take g lent ≡ s ++ ys → g ≡ length s + length ys
      → Plains ys → Plains xs → length ys + length xs ≤ n → g + length xs ≤ length lent
      → Read (mid r g) lent xs (replicate (length xs) rules.need_more) (mid r (g + length xs)) (sets lent g xs)
  mid_steps s ys [] n g lent a below now at ps none h room = rw (add-zero g) stop
  mid_steps s ys (x ∷ xs) n g lent a below now at ps (one p qs) h room =
      let fits = a.fits below in
      let same : suc g + length xs ≡ g + suc (length xs) = omega arith in
      let turn : body_turn r.code (take g lent) x ≡ more = rw now (a.needs ys x ps p (omega arith)) in
      let k = length-append ys (x ∷ []) in
      let next : take (suc g) (set lent g x) ≡ s ++ (ys ++ (x ∷ [])) = rw (← add-one g, take_next lent g x (omega arith), now, append_assoc) in
      took (mid_step g x lent (omega arith) (omega arith) turn p)
      (rw same at (mid_steps s (ys ++ (x ∷ [])) xs n (suc g) (set lent g x) a below next (omega arith) (plains_more x ps p) qs (omega arith) (simp length-set (omega arith))))

-- nothing passed over
pub passes_none : (r : Reader) (lent raw : List ℕ) → PassDone r lent raw 0 lent
passes_none r lent raw =
    let same : passed_from r 0 ≡ r = rw (add-zero r.count) in
    record { within = omega arith; below = λ h. absurd (omega arith); steps = rw same stop }

-- a reader inside a request, within its limits and with no escape seen, is one in the middle of a body
module _ (r : Reader) (inside : r.phase ≡ Inside) (ok : inside_limits r ≡ true) (shut : r.escape ≡ false) where
  -- one plain byte
  pub plain_step : (lent : List ℕ) (b most : ℕ) → AheadDone r.code (take r.count lent) most → 0 < most → length lent ≡ body_room → plain b ≡ true
      → StepDone r lent b (record { answer = More; reader = passed_from r 1 }) (set lent r.count b)
  plain_step lent b most a some whole p =
      let top = longest_fits r.code in
      let count = inside_count r ok in
      let s : length (take r.count lent) ≡ r.count = length-take-le r.count lent (omega arith) in
      let fits = a.fits (omega arith) in
      let turn : body_turn r.code (take r.count lent) b ≡ more = rw append-nil at (a.needs [] b none p (omega arith)) in
      let here : r ≡ mid r r.count = rw (inside, shut) in
      let there : passed_from r 1 ≡ mid r (suc r.count) = rw (inside, shut, add-one r.count) in
      subst (λ (q : Reader). StepDone q lent b (record { answer = More; reader = passed_from r 1 }) (set lent r.count b)) (sym here)
      (rw there (mid_step r ok r.count b lent (omega arith) (omega arith) turn p))

  pub passes_plain : {raw left : List ℕ} {n : ℕ} (lent : List ℕ) (most size : ℕ) → AheadDone r.code (take r.count lent) most → size ≡ most → length lent ≡ body_room
      → PlainDone raw (take size (drop r.count lent)) n left → PassDone r lent raw n (take r.count lent ++ (left ++ drop size (drop r.count lent)))
  passes_plain {raw} {left} {n} lent most size a is whole d =
      let top = longest_fits r.code in
      let count = inside_count r ok in
      let s : length (take r.count lent) ≡ r.count = length-take-le r.count lent (omega arith) in
      let fits = a.fits (omega arith) in
      let part : length (take size (drop r.count lent)) ≡ size = length-take-le size (drop r.count lent) (simp length-drop (omega arith)) in
      let got = done_most d in
      let m : length (take n raw) ≡ n = length-take-le n raw got.1 in
      let here : r ≡ mid r r.count = rw (inside, shut) in
      let there : passed_from r n ≡ mid r (r.count + n) = rw (inside, shut) in
      record {
        within = got.1;
        below = λ _. omega arith;
        steps =
            subst (λ (q : Reader). Read q lent (take n raw) (replicate n rules.need_more) (passed_from r n) (take r.count lent ++ (left ++ drop size (drop r.count lent)))) (sym here)
            (rw (there, part_sets lent r.count size (omega arith) d)
            (rw m at (mid_steps r ok (take r.count lent) [] (take n raw) most r.count lent a (omega arith) (sym (append-nil (take r.count lent))) (omega arith) none (done_plains d) (omega arith) (omega arith))));
      }

-- what the body's bytes ahead are, of the bytes lent
pub ahead_of : (r : Reader) (lent : List ℕ) {n : ℕ} → inside_limits r ≡ true → length lent ≡ body_room → get_or lent 1 0 < 256 → n ≡ ahead_in r.code (take r.count lent)
    → AheadDone r.code (take r.count lent) n
ahead_of r lent ok whole byte e =
    let top = longest_fits r.code in
    let count = inside_count r ok in
    let s : length (take r.count lent) ≡ r.count = length-take-le r.count lent (omega arith) in
    rw e (ahead_holds r.code (take r.count lent) (λ two. omega (arith, get_or-take r.count lent 1 0 (omega arith))))

pub end_fits : (r : Reader) (lent : List ℕ) (most : ℕ) → inside_limits r ≡ true → length lent ≡ body_room → AheadDone r.code (take r.count lent) most → r.count + most ≤ body_room
end_fits r lent most ok whole a =
    let top = longest_fits r.code in
    let count = inside_count r ok in
    let s : length (take r.count lent) ≡ r.count = length-take-le r.count lent (omega arith) in
    omega (arith, a.fits (omega arith))

-- the limits of a reader inside a request
pub inside_keeps : (r : Reader) → r.phase ≡ Inside → keeps_limits r ≡ true → inside_limits r ≡ true
inside_keeps r inside keeps = sym (ap (λ (p : Phase). limits_in p r) inside) ∙ keeps

-- A step that needs more leaves a reader within its limits: only a refusal stops one.
pub still_keeps : {r : Reader} {lent left : List ℕ} {x : ℕ} {o : Stepped} → StepDone r lent x o left → o.answer ≡ More → keeps_limits o.reader ≡ true
still_keeps {r} {lent} {left} {x} {o} d e = go (keeps_limits o.reader) refl
  where
    go : (t : Bool) → keeps_limits o.reader ≡ t → t ≡ true
    go true w = refl
    go false w =
        let at : view_of o.reader left ≡ rules.stopped = rw w in
        let n = step_refuses (carrier_of r.carrier) (view_of r lent) x (sym d.next ∙ at) in
        let z : ◌≡◌ {A = ℕ} 0 1 = cc (e, n.1) in
        absurd (omega arith)
