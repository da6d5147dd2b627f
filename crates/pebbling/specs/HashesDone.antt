-- How many hashes P_k has done before a round, in closed form, under each schedule; and that under each of them it has done 2^k - 1, so that its
-- y_0 is there in round 2^k. Assumes nothing.
use Rattle.std.specs.Prelude.{◌≡◌, ◌⊎◌}
use Rattle.std.proofs.Math.Path.{refl, ap}
use Rattle.std.proofs.Common.{inl, inr, eq-or-lt_of_le, le_refl, lt-ltb, le-ltb, eq-eqb, ne_eqb}
use Prim.Native.Nat.{ℕ, zero, suc, ◌+◌, ◌-◌, ◌*◌, ◌^◌, ◌≤◌, ◌<◌}
use Rattle.std.proofs.Math.Decide.{le_ind}
use native.Mathlib.Omega.{arith}
use Rattle.std.proofs.Math.Pow.{pow_pos}
use Rattle.pebbling.specs.Recursion.{total, rushing, speed1, speed2, optimal, schedule, done}
use Rattle.pebbling.specs.OptimalLeft.{left, busy, left_suc, left_all, left_zero}

-- a family of schedules under which the preparing rounds of each P_k do 2^k - 1 hashes in all
abbrev pub Fair : (ℕ → ℕ → ℕ) → Type 0
Fair t = (k : ℕ) → total (t k) (2 ^ k - 1) ≡ 2 ^ k - 1

-- ---- rushing

pub rushing_early : (k n : ℕ) → n < 2 ^ k - 1 → total (rushing k) n ≡ 0
unfolding total rushing
rushing_early k zero h = refl
rushing_early k (suc n) h = rw (rushing_early k n (omega arith), ne_eqb (suc n) (2 ^ k - 1) (omega arith)) (omega arith)

pub rushing_last : (k n : ℕ) → n ≡ 2 ^ k - 1 → total (rushing k) n ≡ n
unfolding total rushing
rushing_last k zero h = refl
rushing_last k (suc n) h = rw (rushing_early k n (omega arith), eq-eqb (suc n) (2 ^ k - 1) h) (omega arith)

-- ---- speed-1

pub speed1_done : (k n : ℕ) → total (speed1 k) n ≡ n
unfolding total speed1
speed1_done k zero = refl
speed1_done k (suc n) = rw (speed1_done k n) (omega arith)

-- ---- speed-2 and optimal: nothing in the first half; then `rest c` is still to do, c rounds before round 2^k

module _ (t rest : ℕ → ℕ) (h : ℕ) (idle : (r : ℕ) → r < h → t r ≡ 0) (step : (c r : ℕ) → r + suc c ≡ 2 * h → suc c ≤ h → rest (suc c) ≡ rest c + t r) where
  idle_total : (n : ℕ) → n < h → total t n ≡ 0
  unfolding total
  idle_total zero b = refl
  idle_total (suc n) b = omega (arith, idle_total n (omega arith), idle (suc n) b)

  done_rest : (n c : ℕ) → suc n + c ≡ 2 * h → c ≤ h → total t n + rest c ≡ rest h
  unfolding total
  done_rest zero c e b = let q : c ≡ h = omega arith in omega (arith, ap rest q)
  done_rest (suc n) c e b = go (λ p. done_rest n (suc c) (omega arith) p) (eq-or-lt_of_le b)
    where
      go : (c < h → total t n + rest (suc c) ≡ rest h) → (c ≡ h) ⊎ (c < h) → total t n + t (suc n) + rest c ≡ rest h
      go ih (inl q) = omega (arith, ap rest q, idle_total n (omega arith), idle (suc n) (omega arith))
      go ih (inr p) = omega (arith, ih p, step c (suc n) (omega arith) p)

under_one : (k : ℕ) → 2 ^ (suc k - 1) ≡ 2 ^ k
under_one k = ap (λ (x : ℕ). 2 ^ x) (omega arith)

speed2_idle : (k r : ℕ) → r < 2 ^ k → speed2 (suc k) r ≡ 0
unfolding speed2
speed2_idle k r h = rw (under_one k, lt-ltb r (2 ^ k) h) refl

speed2_step : (k c r : ℕ) → r + suc c ≡ 2 * 2 ^ k → suc c ≤ 2 ^ k → 2 * suc c - 1 ≡ 2 * c - 1 + speed2 (suc k) r
unfolding speed2
speed2_step k zero r e b = rw (under_one k, le-ltb r (2 ^ k) (omega arith), le-ltb r (2 ^ suc k - 1) (omega arith)) refl
speed2_step k (suc c) r e b = rw (under_one k, le-ltb r (2 ^ k) (omega arith), lt-ltb r (2 ^ suc k - 1) (omega arith)) (omega arith)

pub optimal_idle : (k r : ℕ) → r < 2 ^ k → optimal (suc k) r ≡ 0
unfolding optimal
optimal_idle k r h = rw (under_one k, lt-ltb r (2 ^ k) h) refl

pub optimal_busy : (k r : ℕ) → 2 ^ k ≤ r → optimal (suc k) r ≡ busy (suc k) r
unfolding optimal busy
optimal_busy k r h = rw (under_one k, le-ltb r (2 ^ k) h) refl

optimal_step : (k c r : ℕ) → r + suc c ≡ 2 * 2 ^ k → suc c ≤ 2 ^ k → left (suc k) (suc c) ≡ left (suc k) c + optimal (suc k) r
optimal_step k c r e h = omega (arith, left_suc k c r (omega arith) h, optimal_busy k r (omega arith))

-- in the first half no hash is done, and in the second all but the rest
pub speed2_none : (k n : ℕ) → n < 2 ^ k → total (speed2 (suc k)) n ≡ 0
speed2_none k = idle_total (speed2 (suc k)) (λ (c : ℕ). 2 * c - 1) (2 ^ k) (speed2_idle k) (speed2_step k)

pub speed2_done : (k n c : ℕ) → suc n + c ≡ 2 ^ suc k → c ≤ 2 ^ k → total (speed2 (suc k)) n + (2 * c - 1) + 1 ≡ 2 ^ suc k
speed2_done k n c e b =
    omega (arith, pow_pos k, done_rest (speed2 (suc k)) (λ (c : ℕ). 2 * c - 1) (2 ^ k) (speed2_idle k) (speed2_step k) n c (omega arith) b)

pub optimal_none : (k n : ℕ) → n < 2 ^ k → total (optimal (suc k)) n ≡ 0
optimal_none k = idle_total (optimal (suc k)) (left (suc k)) (2 ^ k) (optimal_idle k) (optimal_step k)

pub optimal_done : (k n c : ℕ) → suc n + c ≡ 2 ^ suc k → c ≤ 2 ^ k → total (optimal (suc k)) n + left (suc k) c + 1 ≡ 2 ^ suc k
optimal_done k n c e b =
    omega (arith, left_all k, done_rest (optimal (suc k)) (left (suc k)) (2 ^ k) (optimal_idle k) (optimal_step k) n c (omega arith) b)

-- ---- every schedule

-- the preparing rounds of every schedule add up to 2^k - 1 hashes
pub fair : (s : ℕ) → s ≤ 3 → Fair (schedule s)
unfolding schedule total
fair zero h k = rushing_last k (2 ^ k - 1) refl
fair (suc zero) h k = speed1_done k (2 ^ k - 1)
fair (suc (suc zero)) h zero = refl
fair (suc (suc zero)) h (suc k) = omega (arith, pow_pos k, speed2_done k (2 ^ suc k - 1) 0 (omega (arith, pow_pos k)) (omega arith))
fair (suc (suc (suc zero))) h zero = refl
fair (suc (suc (suc zero))) h (suc k) =
    omega (arith, pow_pos k, left_zero k, optimal_done k (2 ^ suc k - 1) 0 (omega (arith, pow_pos k)) (omega arith))
fair (suc (suc (suc (suc s)))) h k = absurd (omega arith)

-- ---- hashes done, for any k and before any round

pub done_rushing : (k r : ℕ) → r < 2 ^ k → done rushing k r ≡ 0
unfolding done
done_rushing zero r h = let e : r - 1 ≡ 0 = omega arith in rw e (rushing_last 0 0 refl)
done_rushing (suc k) r h = rushing_early (suc k) (r - 1) (omega (arith, pow_pos k))

pub done_speed1 : (k r : ℕ) → done speed1 k r ≡ r - 1
unfolding done
done_speed1 k r = speed1_done k (r - 1)

module _ (k r : ℕ) (0<k : 0 < k) (0<r : 0 < r) where
  pub done_speed2_early : r ≤ 2 ^ (k - 1) → done speed2 k r ≡ 0
  unfolding done
  done_speed2_early h = go k 0<k h
    where
      go : (k : ℕ) → 0 < k → r ≤ 2 ^ (k - 1) → total (speed2 k) (r - 1) ≡ 0
      go zero p h = absurd (omega arith)
      go (suc k) p h = speed2_none k (r - 1) (omega (arith, under_one k))

  pub done_speed2_late : 2 ^ (k - 1) ≤ r → r < 2 ^ k → done speed2 k r + 2 ^ k ≡ 2 * r
  unfolding done
  done_speed2_late l h = go k 0<k l h
    where
      go : (k : ℕ) → 0 < k → 2 ^ (k - 1) ≤ r → r < 2 ^ k → total (speed2 k) (r - 1) + 2 ^ k ≡ 2 * r
      go zero p l h = absurd (omega arith)
      go (suc k) p l h = omega (arith, under_one k, speed2_done k (r - 1) (2 ^ suc k - r) (omega arith) (omega (arith, under_one k)))

  pub done_optimal_early : r ≤ 2 ^ (k - 1) → done optimal k r ≡ 0
  unfolding done
  done_optimal_early h = go k 0<k h
    where
      go : (k : ℕ) → 0 < k → r ≤ 2 ^ (k - 1) → total (optimal k) (r - 1) ≡ 0
      go zero p h = absurd (omega arith)
      go (suc k) p h = optimal_none k (r - 1) (omega (arith, under_one k))

  pub done_optimal_late : (c : ℕ) → r + c ≡ 2 ^ k → c ≤ 2 ^ (k - 1) → done optimal k r + left k c + 1 ≡ 2 ^ k
  unfolding done
  done_optimal_late c e h = go k 0<k e h
    where
      go : (k : ℕ) → 0 < k → r + c ≡ 2 ^ k → c ≤ 2 ^ (k - 1) → total (optimal k) (r - 1) + left k c + 1 ≡ 2 ^ k
      go zero p e h = absurd (omega arith)
      go (suc k) p e h = optimal_done k (r - 1) c (omega arith) (omega (arith, under_one k))

-- ---- any fair family

pub total_mono : (f : ℕ → ℕ) (n m : ℕ) → n ≤ m → total f n ≤ total f m
unfolding total
total_mono f n m h = le_ind (λ (m : ℕ). total f n ≤ total f m) (le_refl (total f n)) (λ m l ih. omega arith) m h

module _ (t : ℕ → ℕ → ℕ) where
  pub done_first : (k : ℕ) → done t k 1 ≡ 0
  unfolding done total
  done_first k = refl

  pub done_suc : (k r : ℕ) → 0 < r → done t k (suc r) ≡ done t k r + t k r
  unfolding done total
  done_suc k zero p = omega arith
  done_suc k (suc r) p = let e : suc (suc r) - 1 ≡ suc r = omega arith in let d : suc r - 1 ≡ r = omega arith in rw (e, d) refl

  module _ (t_fair : Fair t) where
    pub done_all : (k r : ℕ) → r ≡ 2 ^ k → done t k r ≡ 2 ^ k - 1
    unfolding done
    done_all k r e = rw e (t_fair k)

    -- up to round 2^k fewer than 2^k hashes are done
    pub done_lt : (k r : ℕ) → r ≤ 2 ^ k → done t k r < 2 ^ k
    unfolding done
    done_lt k r h = omega (arith, total_mono (t k) (r - 1) (2 ^ k - 1) (omega arith), t_fair k, pow_pos k)

    -- and so it is with the round's own
    pub done_fits : (k r : ℕ) → 0 < r → r < 2 ^ k → done t k r + t k r < 2 ^ k
    done_fits k r p h = omega (arith, done_suc k r p, done_lt k (suc r) h)
