-- A round on slots: so many values are read from the front of one list of bytes, and what the round makes of them is written to the front of another.
-- Assumes nothing.
use Rattle.std.specs.Prelude.{◌≡◌, List, ℕ, suc, ◌+◌, ◌*◌, ◌^◌, ◌≤◌, ◌<◌, T, length, drop}
use Rattle.lists.specs.Values.{values}
use Rattle.oneway.specs.declared.Chain.{Chain}
use Rattle.oneway.specs.Step.{known, width, step}
use Rattle.pebbling.specs.Recursion.{schedule as hashes_of, positions, work, round}

-- a values of w bytes become b values by g, with hs hashes; the bytes behind the b values stay
pub record Moves (w a b hs : ℕ) (g : List (List ℕ) → List (List ℕ)) (old new : List ℕ) (read written hashes : ℕ) (new' : List ℕ) : Type 0 where
  pub reads : read ≡ w * a
  pub writes : written ≡ w * b
  pub works : hashes ≡ hs
  pub holds : values w b new' ≡ g (values w a old)
  pub stays : drop (w * b) new' ≡ drop (w * b) new

-- what P_k's round r asks, its children with it: there is such a round, and the slots are long enough
pub record Advancing (chain : Chain) (s k r : ℕ) (old new : List ℕ) : Type 0 where
  pub known : T (known chain.function)
  pub schedule : s ≤ 3
  pub small : k ≤ 20
  pub from : 0 < r
  pub before : r < 2 ^ suc k
  pub enough : width chain * length (positions (hashes_of s) k r 0) ≤ length old
  pub room : width chain * length (positions (hashes_of s) k (suc r) 0) ≤ length new

-- what it does
abbrev pub Advanced : Chain → ℕ → ℕ → ℕ → List ℕ → List ℕ → ℕ → ℕ → ℕ → List ℕ → Type 0
Advanced chain s k r =
    Moves (width chain) (length (positions (hashes_of s) k r 0)) (length (positions (hashes_of s) k (suc r) 0)) (work (hashes_of s) k r)
    (round (hashes_of s) (step chain) k r)

-- two reads, two writes and two counts of hashes whose sums fit a machine word and a u32
pub record Fits (read read' written written' hashes hashes' : ℕ) : Type 0 where
  pub reads : read + read' < 18446744073709551616
  pub writes : written + written' < 18446744073709551616
  pub works : hashes + hashes' < 4294967296
