-- The bytes of an action are those of its part in a client's stream; an action that the writer takes is good wherever the open transfers allow it; and
-- what its part is to the reply.
use Prim.Native.Nat.{ℕ}
use mathlib.Core.Path.{◌≡◌, refl, sym, ap, ◌∙◌}
use mathlib.Core.Bool.{true, false, cond, not, ◌&&◌, true≢false}
use mathlib.Core.List.{List, [], ◌∷◌, ◌++◌, map, append-nil}
use lib.Dec.{eqb, leb, ltb}
use lib.ListN.{length}
use Rattle.serial_rules.specs.Escape.{escaped}
use Rattle.serial_rules.specs.Marks.{inward_class}
use Rattle.serial_rules.specs.Call.{string_limit}
use Rattle.serial_rules.specs.Link.{Transfer, setting, executing, opening, load, save, need_more, acted, failed, closes, Frame, idle_frame, holds, Met, met, meets, Link, live, link_at}
use Rattle.serial_rules.specs.Session.{Input, raw, Told, report, tells, link_after, Sign, token, signs, says, stands_after, has_zero, open_after, open_in, good, all_good, inputs_of, inputs, sign_of, signs_of, fill, behind, inside}
use Rattle.serial_rules.proofs.Trip.{and_both}
use Rattle.serial_rules.proofs.Session.{layers_told}
use Rattle.serial_rules.proofs.Parts.{part_signs}
use Rattle.serial_rules.proofs.Actions.{underway_said, parts_left, left_append}
use Rattle.host_rules.specs.Actions.{Sent, failing, restarting, escape_state, event, address, control, ending, block_fits, sent_raw, sent_ok, part_of}
use Rattle.host_rules.specs.Streams.{may_act, closing, telling, ends_call, link_behind, ActionHeard}

pub sent_raw_lem : (a : Sent) (b t : List ℕ) → sent_ok a b t ≡ true → map raw (sent_raw a b t) ≡ inputs_of (part_of a b t)
unfolding sent_raw sent_ok escaped
sent_raw_lem (failing n) b t h = refl
sent_raw_lem restarting b t h = refl
sent_raw_lem (escape_state on) b t h = refl
sent_raw_lem (event y x a) b t h = refl
sent_raw_lem (address g b3 b2 b1 b0) b t h = refl
sent_raw_lem control [] t h = absurd (true≢false (sym h))
sent_raw_lem control (x ∷ s) t h = refl
sent_raw_lem ending b t h = refl

pub sent_good : (o : List Transfer) (a : Sent) (b t : List ℕ) → leb (length t) string_limit ≡ true → sent_ok a b t ≡ true → may_act o a ≡ true → good o (part_of a b t) ≡ true
unfolding sent_ok has_zero inward_class
sent_good o (failing n) b t l h m =
    let k = and_both (eqb (length b) 0) (not (has_zero t)) h in
    rw (l, k.1) refl
sent_good o restarting b t l h m = refl
sent_good o (escape_state true) b t l h m = refl
sent_good o (escape_state false) b t l h m = refl
sent_good o (event y x a) b t l h m = refl
sent_good o (address setting b3 b2 b1 b0) b t l h m = m
sent_good o (address executing b3 b2 b1 b0) b t l h m = m
sent_good o (address (opening load) b3 b2 b1 b0) b t l h m = m
sent_good o (address (opening save) b3 b2 b1 b0) b t l h m = m
sent_good o control [] t l h m = absurd (true≢false (sym h))
sent_good o control (x ∷ s) t l h m =
    let k = and_both (block_fits control (length (x ∷ s))) (eqb (length t) 0 && not (has_zero t)) h in
    (and_both (not (eqb (length (x ∷ s)) 0)) (ltb (length (x ∷ s)) 0x80) k.0).1
sent_good o ending b t l h m = m

pub sent_sign : (o : List Transfer) (a : Sent) (b t : List ℕ) → sent_ok a b t ≡ true → may_act o a ≡ true
    → sign_of o (part_of a b t) ≡ token (cond (ends_call a) (failed (telling o a b t)) (acted (telling o a b t)))
unfolding sent_ok
sent_sign o (failing n) b t h m = refl
sent_sign o restarting b t h m = refl
sent_sign o (escape_state true) b t h m = refl
sent_sign o (escape_state false) b t h m = refl
sent_sign o (event y x a) b t h m = refl
sent_sign o (address g b3 b2 b1 b0) b t h m = refl
sent_sign o control [] t h m = absurd (true≢false (sym h))
sent_sign o control (x ∷ s) t h m = refl
sent_sign [] ending b t h m = absurd (true≢false (sym m))
sent_sign (g ∷ o) ending b t h m = refl

-- an end is told as the link tells it, with none open too
pub end_told : (o : List Transfer) (f : Frame) → (meets f (closes o).token).report ≡ closing o
unfolding meets
end_told [] f = refl
end_told (g ∷ o) f = refl

-- what an action does to what waits
pub sent_meets : (o : List Transfer) (f : Frame) (a : Sent) (b t : List ℕ)
    → meets f (cond (ends_call a) (failed (telling o a b t)) (acted (telling o a b t))) ≡ met (telling o a b t) (holds (cond (ends_call a) idle_frame f))
unfolding meets
sent_meets o f (failing n) b t = refl
sent_meets o f restarting b t = refl
sent_meets o f (escape_state on) b t = refl
sent_meets o f (event y x a) b t = refl
sent_meets o f (address g b3 b2 b1 b0) b t = refl
sent_meets o f control b t = refl
sent_meets o f ending b t = refl

-- One action, written by the rules and read by a client's link.
module _ (o : List Transfer) (f : Frame) (a : Sent) (b t : List ℕ) (l : leb (length t) string_limit ≡ true) (h : sent_ok a b t ≡ true) (m : may_act o a ≡ true) where
  one_good : all_good o (part_of a b t ∷ []) ≡ true
  unfolding all_good
  one_good = rw (sent_good o a b t l h m) refl

  one_left : link_after (live (inside o) f) (inputs_of (part_of a b t)) ≡ link_behind o f a b t
  unfolding inputs open_in signs_of stands_after
  one_left =
      let p = part_of a b t in
      let n = open_after o p in
      ap (link_after (live (inside o) f)) (sym (append-nil (inputs_of p)))
      ∙ parts_left o (holds f) (p ∷ []) one_good
      ∙ ap (λ (s : Sign). link_at (inside n) (stands_after (holds f) (s ∷ []))) (sent_sign o a b t h m)
      ∙ ap (λ (e : Met). link_at (inside n) e.next) (sent_meets o f a b t)

  pub action_heard : (i : List Input)
      → ActionHeard o f a b t i (tells (live (inside o) f) (map raw (sent_raw a b t) ++ i)) (link_after (live (inside o) f) (map raw (sent_raw a b t) ++ i))
  unfolding says
  action_heard i =
      let p = part_of a b t in
      let q = behind (inputs_of p) in
      let n = open_after o p in
      let step : says (holds f) (sign_of o p ∷ signs (inside n) i) ≡ report (telling o a b t) ∷ tells (link_behind o f a b t) i =
      ap (λ (s : Sign). says (holds f) (s ∷ signs (inside n) i)) (sent_sign o a b t h m)
      ∙ ap (λ (e : Met). report e.report ∷ says e.next (signs (inside n) i)) (sent_meets o f a b t)
      ∙ ap (λ (w : List Told). report (telling o a b t) ∷ w) (sym (layers_told (inside n) (holds (cond (ends_call a) idle_frame f)) i)) in
      record {
        told_is =
            ap (λ (s : List Input). tells (live (inside o) f) (s ++ i)) (sent_raw_lem a b t h)
            ∙ layers_told (inside o) (holds f) (inputs_of p ++ i)
            ∙ ap (says (holds f)) (part_signs o p i (sent_good o a b t l h m))
            ∙ underway_said f q (sign_of o p ∷ signs (inside n) i)
            ∙ ap (λ (w : List Told). fill (report need_more) q ++ w) step
            ∙ ap (λ (s : List Input). fill (report need_more) (behind s) ++ (report (telling o a b t) ∷ tells (link_behind o f a b t) i)) (sym (sent_raw_lem a b t h));
        left =
            ap (λ (s : List Input). link_after (live (inside o) f) (s ++ i)) (sent_raw_lem a b t h)
            ∙ left_append (live (inside o) f) (inputs_of p) i
            ∙ ap (λ (v : Link). link_after v i) one_left;
      }
