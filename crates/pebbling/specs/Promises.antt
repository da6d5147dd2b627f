-- What the functions on numbers promise: the definition that their result equals, and the bounds by which their callers' sums fit. Assumes nothing.
use Rattle.std.specs.Prelude.{◌≡◌, ℕ, suc, ◌+◌, ◌^◌, ◌≤◌, ◌<◌, length}
use Rattle.pebbling.specs.Len.{len}
use Rattle.pebbling.specs.OptimalLeft.{g}
use Rattle.pebbling.specs.Recursion.{done, held, schedule as hashes_of}
use Rattle.pebbling.specs.SideBySide.{side_held_count}

pub record Power (k p : ℕ) : Type 0 where
  pub is : p ≡ 2 ^ k
  pub pos : 0 < p
  pub small : p ≤ 2097152

pub record Bits (x n : ℕ) : Type 0 where
  pub is : n ≡ len x
  pub small : n ≤ 32

-- round r and c rounds left, that one included
pub record Left (k r c : ℕ) : Type 0 where
  pub whole : r + c ≡ 2 ^ suc k

pub record Curve (k n r : ℕ) : Type 0 where
  pub is : r ≡ g k n
  pub small : r ≤ 67108864

-- the hashes done before round r of P_k
pub record Done (t : ℕ → ℕ → ℕ) (k r h : ℕ) : Type 0 where
  pub is : h ≡ done t k r
  pub small : h < 2 ^ k

-- how many values P_k holds after h hashes
pub record Holds (k h n : ℕ) : Type 0 where
  pub is : n ≡ length (held k h 0)
  pub some : 0 < n
  pub small : n ≤ k + 1

-- the children of P_k in their round n, with `more` values counted before; there are few enough of all of them
pub record Aside (s k n more : ℕ) : Type 0 where
  pub schedule : s ≤ 3
  pub small : k ≤ 20
  pub from : 0 < n
  pub before : n < 2 ^ k
  pub few : more + side_held_count (hashes_of s) k n ≤ 41
