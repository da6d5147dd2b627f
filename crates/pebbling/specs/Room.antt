-- How many values are held under rushing, speed-2 and optimal: len c with c rounds left, once P_k has put out, and k + 1 before. It rests on one
-- fact of these schedules: a pebbler c rounds before it puts out has 2^(len c) hashes to go, itself put out counted as one. Assumes nothing.
use Rattle.std.specs.Prelude.{◌≡◌, ◌⊎◌, ℕ, zero, suc, ◌+◌, ◌-◌, ◌*◌, ◌^◌, ◌≤◌, ◌<◌, length}
use Rattle.std.proofs.Common.{inl, inr, arith, length-append, pow_pos, pow_mono}
use Rattle.std.proofs.Math.Nat.{le_dest}
use Rattle.pebbling.specs.Len.{len, len_le, lt_len, lt_or_le, len_zero, len_pos}
use Rattle.pebbling.specs.Recursion.{total, done, held, positions, rushing, speed2, optimal}
use Rattle.pebbling.specs.SideBySide.{side_positions, positions_children, side_positions_zero, side_positions_both, side_positions_late}
use Rattle.pebbling.specs.OnePebbler.{held_length}
use Rattle.pebbling.specs.OptimalLeft.{left_room}
use Rattle.pebbling.specs.HashesDone.{rushing_early, rushing_last, speed2_none, speed2_done, optimal_none, optimal_done}

-- a family under which 2^k - h, for the h hashes that P_k has done c rounds before its round 2^k, is 2^(len c) at least
abbrev pub Roomy : (ℕ → ℕ → ℕ) → Type 0
Roomy t = (k r c : ℕ) → r + c ≡ 2 ^ k → 0 < r → 2 ^ len c + done t k r ≤ 2 ^ k

module _ (t : ℕ → ℕ → ℕ) (roomy : Roomy t) where
  held_room : (k r c base : ℕ) → r + c ≡ 2 ^ k → 0 < r → length (held k (done t k r) base) + len c ≤ k + 1
  held_room k r c base e p =
      let a = roomy k r c e p in
      let b = lt_len (2 ^ k - done t k r) (len c) (omega arith) in
      omega (arith, pow_pos (len c), held_length k (done t k r) base (omega (arith, pow_pos (len c))), len_le c k (omega arith))

  side_room : (k n c base : ℕ) → n + c ≡ 2 ^ k → 0 < n → length (side_positions t k n base) ≤ len c
  side_room zero n c base e p = rw (side_positions_zero t n base) (omega arith)
  side_room (suc k) n c base e p = go (λ n c base e p. side_room k n c base e p) (lt_or_le (2 ^ k) n)
    where
      go : ((n c base : ℕ) → n + c ≡ 2 ^ k → 0 < n → length (side_positions t k n base) ≤ len c)
          → (2 ^ k < n) ⊎ (n ≤ 2 ^ k) → length (side_positions t (suc k) n base) ≤ len c
      go ih (inl h) = rw (side_positions_late t k n base h) (ih (n - 2 ^ k) c base (omega arith) (omega arith))
      go ih (inr h) =
          let d = le_dest h in
          rw (side_positions_both t k n base h, length-append)
          (omega (arith, ih n d.0 (base + 2 ^ k) d.1 p, held_room k n d.0 base d.1 p, lt_len c k (omega arith)))

  -- what all hold together once P_k has put out its y_0
  pub positions_room : (k r c base : ℕ) → r + c ≡ 2 ^ suc k → 2 ^ k < r → length (positions t k r base) ≤ len c
  positions_room k r c base e h = rw (positions_children t k r base h) (side_room k (r - 2 ^ k) c base (omega arith) (omega arith))

-- ---- the three schedules that are roomy

free : (k c : ℕ) → c < 2 ^ k → 2 ^ len c ≤ 2 ^ k
free k c h = pow_mono (len_le c k h)

roomy_zero : (t : ℕ → ℕ → ℕ) (r c : ℕ) → r + c ≡ 2 ^ 0 → 0 < r → 2 ^ len c + done t 0 r ≤ 2 ^ 0
unfolding done total
roomy_zero t r c e p =
    let q : r - 1 ≡ 0 = omega arith in
    let d : c ≡ 0 = omega arith in
    rw (q, d, len_zero) (omega arith)

pub rushing_roomy : Roomy rushing
unfolding done
rushing_roomy k r zero e p = rw len_zero (omega (arith, rushing_last k (r - 1) (omega arith)))
rushing_roomy k r (suc c) e p = omega (arith, rushing_early k (r - 1) (omega arith), free k (suc c) (omega arith))

twice_room : (c : ℕ) → 2 ^ len c ≤ 2 * c - 1 + 1
twice_room zero = rw len_zero (omega arith)
twice_room (suc c) = omega (arith, len_pos (suc c) (omega arith))

pub speed2_roomy : Roomy speed2
unfolding done
speed2_roomy zero r c e p = roomy_zero speed2 r c e p
speed2_roomy (suc k) r c e p = go (lt_or_le (2 ^ k) c)
  where
    go : (2 ^ k < c) ⊎ (c ≤ 2 ^ k) → 2 ^ len c + total (speed2 (suc k)) (r - 1) ≤ 2 ^ suc k
    go (inl h) = omega (arith, speed2_none k (r - 1) (omega arith), free (suc k) c (omega arith))
    go (inr h) = omega (arith, speed2_done k (r - 1) c (omega arith) h, twice_room c)

pub optimal_roomy : Roomy optimal
unfolding done
optimal_roomy zero r c e p = roomy_zero optimal r c e p
optimal_roomy (suc k) r c e p = go (lt_or_le (2 ^ k) c)
  where
    go : (2 ^ k < c) ⊎ (c ≤ 2 ^ k) → 2 ^ len c + total (optimal (suc k)) (r - 1) ≤ 2 ^ suc k
    go (inl h) = omega (arith, optimal_none k (r - 1) (omega arith), free (suc k) c (omega arith))
    go (inr h) = omega (arith, optimal_done k (r - 1) c (omega arith) h, left_room k c h)
