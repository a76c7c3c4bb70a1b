-- Where a part of the bytes of a request or of a reply stands.
use Rattle.std.specs.Prelude.{ℕ, ◌+◌, ◌≤◌, min, ◌≡◌, List, length, take, drop}

-- The part stands in the bytes s behind the first `before` of them, or at their end where they are fewer: `start` is its place and n its length.
pub record PartAt (s : List ℕ) (before : ℕ) (part : List ℕ) (start n : ℕ) : Type 0 where
  pub start_is : start ≡ min before (length s)
  pub length_is : n ≡ length part
  pub bytes_are : take n (drop start s) ≡ part
  pub inside : start + n ≤ length s
