-- The optimal schedule's work in a paying round, from the rounds left alone, and its bound: half of k, rounded up. The pebblers' shares make one
-- number, since each ends where the next begins. Assumes nothing.
use Rattle.std.specs.Prelude.{◌≡◌, refl, cond, ◌⊎◌, ℕ, zero, suc, ◌+◌, ◌-◌, ◌*◌, ◌/◌, ◌%◌, ◌^◌, ◌≤◌, ◌<◌, ltb}
use Rattle.std.proofs.Common.{sym, ap, ◌∙◌, inl, inr, eq-or-lt_of_le, arith, lt-ltb, le-ltb}
use Rattle.std.proofs.Math.Nat.{le_dest}
use Rattle.pebbling.specs.Len.{exp_lt, lt_or_le, len, len_law, len_le, lt_len, len_lt, len_unique, len_pos, len_pow}
use Rattle.pebbling.specs.Recursion.{work, optimal}
use Rattle.pebbling.specs.SideBySide.{side_work, work_out, work_children, side_work_both, side_work_last, side_work_late}
use Rattle.pebbling.specs.OptimalLeft.{parity, busy, busy_in, busy_at}
use Rattle.pebbling.specs.HashesDone.{optimal_idle, optimal_busy}

-- what a number of length l above c comes to: half of l + 1, with the parity of c
abbrev part : ℕ → ℕ → ℕ
part l c = (l + (l + c) % 2 + 1) / 2

-- the hashes of the round with c rounds left, by what c lacks to the power of two above it
unfoldable pub hashes_at : ℕ → ℕ
hashes_at c = cond (ltb (2 * (2 ^ len c - c)) (2 ^ len c)) (part (len (2 ^ len c - c)) c) 0

at_power : (j c : ℕ) → c ≡ 2 ^ j → hashes_at c ≡ 0
unfolding hashes_at
at_power j c e =
    let f : len c ≡ suc j = ap len e ∙ len_pow j in
    rw (f, le-ltb (2 * (2 ^ suc j - c)) (2 ^ suc j) (omega arith)) refl

at_other : (j c z : ℕ) → 2 ^ j < c → c + z ≡ 2 ^ suc j → 0 < z → hashes_at c ≡ part (len z) c
unfolding hashes_at
at_other j c z h e p =
    let f : len c ≡ suc j = len_unique c (suc j) (record { below = omega arith; least = omega arith }) in
    let d : 2 ^ suc j - c ≡ z = omega arith in
    rw (f, d, lt-ltb (2 * z) (2 ^ suc j) (omega arith)) refl

-- two parts, one behind the other, make one
add_parts : (k l c : ℕ) → l ≤ k → part l c + ((k + c) % 2 + (k - l)) / 2 ≡ part k c
add_parts k l c h = go (parity (l + c)) (parity (k + c))
  where
    go : ((l + c) % 2 ≡ 0) ⊎ ((l + c) % 2 ≡ 1) → ((k + c) % 2 ≡ 0) ⊎ ((k + c) % 2 ≡ 1) → part l c + ((k + c) % 2 + (k - l)) / 2 ≡ part k c
    go (inl a) (inl b) = omega arith
    go (inl a) (inr b) = omega arith
    go (inr a) (inl b) = omega arith
    go (inr a) (inr b) = omega arith

part_shift : (k l c : ℕ) → part l (2 ^ suc k + c) ≡ part l c
part_shift k l c = omega arith

-- a preparing round of P_k, beside the others: one binary digit more at the front of c
prepare : (k n c : ℕ) → n + c ≡ 2 ^ k → 0 < n → 0 < c → hashes_at c + optimal k n ≡ hashes_at (2 ^ k + c)
prepare zero n c e p q = omega arith
prepare (suc k) n c e p q = go (lt_or_le n (2 ^ k))
  where
    whole : hashes_at (2 ^ suc k + c) ≡ part (len n) c
    whole = at_other (suc k) (2 ^ suc k + c) n (omega arith) (omega arith) p ∙ part_shift k (len n) c

    late : 2 ^ k ≤ n → (j : ℕ) × (1 + j ≡ len c) → hashes_at c + busy (suc k) n ≡ part (suc k) c
    late h j = by (eq-or-lt_of_le (len_lt c j.0 (omega arith)))
      where
        f : len c ≡ suc j.0
        f = omega arith

        by : (2 ^ j.0 ≡ c) ⊎ (2 ^ j.0 < c) → hashes_at c + busy (suc k) n ≡ part (suc k) c
        by (inl d) =
            omega (arith, at_power j.0 c (sym d), busy_at k c n e (rw f (omega arith)) (len_le c (suc k) (omega arith)))
        by (inr d) =
            let z : ℕ = 2 ^ suc j.0 - c in
            let b = rw f at (len_law c).below in
            omega (
              arith,
              at_other j.0 c z d (omega arith) (omega arith),
              busy_in k c z n e (rw f (omega arith)) (omega arith) (rw f (omega arith)) (len_le c (suc k) (omega arith)),
              add_parts (suc k) (len z) c (len_le z (suc k) (omega arith)),
            )

    go : (n < 2 ^ k) ⊎ (2 ^ k ≤ n) → hashes_at c + optimal (suc k) n ≡ hashes_at (2 ^ suc k + c)
    go (inl h) = omega (arith, whole, optimal_idle k n h, at_other k c n (omega arith) (omega arith) p)
    go (inr h) =
        let f : len n ≡ suc k = len_unique n (suc k) (record { below = omega arith; least = omega arith }) in
        omega (arith, late h (le_dest (lt_len c 0 q)), optimal_busy k n h, rw f at whole)

-- the work of the children of P_k with c rounds left
side_work_lem : (k n c : ℕ) → n + c ≡ 2 ^ k → 0 < n → 0 < c → side_work optimal k n ≡ hashes_at c
side_work_lem zero n c e p q = omega arith
side_work_lem (suc k) n c e p q = go (λ n c e p q. side_work_lem k n c e p q) (lt_or_le (2 ^ k) n)
  where
    go : ((n c : ℕ) → n + c ≡ 2 ^ k → 0 < n → 0 < c → side_work optimal k n ≡ hashes_at c)
        → (2 ^ k < n) ⊎ (n ≤ 2 ^ k) → side_work optimal (suc k) n ≡ hashes_at c
    go ih (inl h) = side_work_late optimal k n h ∙ ih (n - 2 ^ k) c (omega arith) (omega arith) q
    go ih (inr h) = by (eq-or-lt_of_le h)
      where
        by : (n ≡ 2 ^ k) ⊎ (n < 2 ^ k) → side_work optimal (suc k) n ≡ hashes_at c
        by (inl l) = omega (arith, side_work_last optimal k n l, at_power k c (omega arith))
        by (inr l) =
            let d : 2 ^ k + (2 ^ k - n) ≡ c = omega arith in
            omega (
              arith,
              ap hashes_at d,
              side_work_both optimal k n l,
              ih n (2 ^ k - n) (omega arith) p (omega arith),
              prepare k n (2 ^ k - n) (omega arith) p (omega arith),
            )

hashes_le : (k c : ℕ) → 0 < c → c < 2 ^ k → hashes_at c ≤ (k + 1) / 2
unfolding hashes_at
hashes_le k c q h = go (lt_or_le (2 * (2 ^ len c - c)) (2 ^ len c))
  where
    z : ℕ
    z = 2 ^ len c - c

    go : (2 * z < 2 ^ len c) ⊎ (2 ^ len c ≤ 2 * z) → hashes_at c ≤ (k + 1) / 2
    go (inl b) = rw (lt-ltb (2 * z) (2 ^ len c) b) (omega (arith, len_le c k h, exp_lt (len z) (len c) (omega (arith, len_pos z (omega (arith, len_law c))))))
    go (inr b) = rw (le-ltb (2 * z) (2 ^ len c) b) (omega arith)

-- the work of a paying round, and its bound
pub work_optimal : (k r c : ℕ) → r + c ≡ 2 ^ suc k → 2 ^ k < r → 0 < c → work optimal k r ≡ hashes_at c
work_optimal k r c e h q = work_children optimal k r h ∙ side_work_lem k (r - 2 ^ k) c (omega arith) (omega arith) q

pub work_half : (k r : ℕ) → 2 ^ k ≤ r → r < 2 ^ suc k → work optimal k r ≤ (k + 1) / 2
work_half k r h b = go (eq-or-lt_of_le h)
  where
    go : (2 ^ k ≡ r) ⊎ (2 ^ k < r) → work optimal k r ≤ (k + 1) / 2
    go (inl e) = omega (arith, work_out optimal k r (sym e))
    go (inr l) =
        let c : ℕ = 2 ^ suc k - r in
        omega (arith, work_optimal k r c (omega arith) l (omega arith), hashes_le k c (omega arith) (omega arith))
