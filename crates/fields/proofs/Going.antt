-- A write that goes on: the raw bytes that are written so far and those of the rest are the whole.
use Prim.Native.Nat.{ℕ, ◌+◌, ◌-◌, ◌≤◌}
use native.Mathlib.Omega.{arith}
use mathlib.Core.Path.{◌≡◌, refl, sym, ap, ◌∙◌}
use mathlib.Core.List.{List, [], ◌++◌, append_assoc, append-nil}
use lib.ListN.{length, take, drop, length-append}
use Rattle.escape.specs.Put.{Put}
use Rattle.escape.proofs.Laws.{put_none, put_length, put_as, put_tail, tail_room}

pub record Going (whole rest out mid : List ℕ) (at : ℕ) : Type 0 where
  pub done : List ℕ
  pub joins : done ++ rest ≡ whole
  pub put : Put done out mid at

-- before the first byte, and behind a first part
pub going_none : (whole out : List ℕ) → Going whole whole out out 0
going_none whole out = record { done = []; joins = refl; put = put_none }

pub going_behind : {first rest out mid : List ℕ} {at : ℕ} → Put first out mid at → Going (first ++ rest) rest out mid at
going_behind {first} p = record { done = first; joins = refl; put = p }

module _ {whole rest out mid : List ℕ} {at : ℕ} (g : Going whole rest out mid at) where
  pub going_length : length mid ≡ length out
  going_length = put_length g.put

  pub going_at : at ≤ length mid
  going_at = omega (arith, going_length, g.put.room)

  -- the next part, which is written into the tail
  pub going_room : (next behind : List ℕ) → rest ≡ next ++ behind → length whole ≤ length out → length next ≤ length (take (length mid - at) (drop at mid))
  going_room next behind e h =
      let n = ap length g.joins in
      let m = ap length e in
      tail_room next g.put (omega (arith, simp length-append at n, simp length-append at m))

  pub going_more : (next behind : List ℕ) → rest ≡ next ++ behind → {back : List ℕ} {n : ℕ} → Put next (take (length mid - at) (drop at mid)) back n
      → Going whole behind out (take at mid ++ (back ++ drop (length mid - at) (drop at mid))) (at + n)
  going_more next behind e p = record {
    done = g.done ++ next;
    joins = append_assoc g.done next behind ∙ ap (λ (l : List ℕ). g.done ++ l) (sym e) ∙ g.joins;
    put = put_tail g.put p;
  }

  pub going_all : rest ≡ [] → Put whole out mid at
  going_all e = put_as (sym (append-nil g.done) ∙ ap (λ (l : List ℕ). g.done ++ l) (sym e) ∙ g.joins) g.put

  -- all the rest at last
  pub going_rest : length whole ≤ length out → length rest ≤ length (take (length mid - at) (drop at mid))
  going_rest h = going_room rest [] (sym (append-nil rest)) h

  pub going_done : {back : List ℕ} {n : ℕ} → Put rest (take (length mid - at) (drop at mid)) back n
      → Put whole out (take at mid ++ (back ++ drop (length mid - at) (drop at mid))) (at + n)
  going_done p = put_as g.joins (put_tail g.put p)
