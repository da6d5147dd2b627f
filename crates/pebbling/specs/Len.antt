-- The bit length of a number, len 0 being 0: counted by halving, and pinned down by its law, that 2^(len n) is the least power of two above n.
-- Assumes nothing.
use Rattle.std.specs.Prelude.{◌≡◌, refl, ℕ, zero, suc, ◌+◌, ◌-◌, ◌*◌, ◌/◌, ◌^◌, ◌≤◌, ◌<◌, ◌⊎◌}
use Rattle.std.proofs.Common.{inl, inr, eq-or-lt_of_le, le_antisymm, lt_of_not-le, arith, pow_pos, pow_mono}
use Rattle.std.proofs.Math.Decide.{dec_le}

-- how often n can be halved before it is 0, counted up to f times; n times is enough
unfoldable pub len_in : ℕ → ℕ → ℕ
len_in zero n = zero
len_in (suc f) zero = zero
len_in (suc f) (suc n) = suc (len_in f (suc n / 2))

unfoldable pub len : ℕ → ℕ
len n = len_in n n

-- 2^m is the least power of two above n
pub record IsLen (n m : ℕ) : Type 0 where
  pub below : n < 2 ^ m
  pub least : 2 ^ m ≤ 2 * n + 1

-- ---- the law

grow : (n m : ℕ) → 0 < n → IsLen (n / 2) m → IsLen n (suc m)
grow n zero p h = record { below = omega arith; least = omega arith }
grow n (suc m) p h = record { below = omega arith; least = omega arith }

len_in_law : (f n : ℕ) → n ≤ f → IsLen n (len_in f n)
unfolding len_in
len_in_law zero zero h = record { below = omega arith; least = omega arith }
len_in_law zero (suc n) h = omega arith
len_in_law (suc f) zero h = record { below = omega arith; least = omega arith }
len_in_law (suc f) (suc n) h = grow (suc n) (len_in f (suc n / 2)) (omega arith) (len_in_law f (suc n / 2) (omega arith))

pub len_law : (n : ℕ) → IsLen n (len n)
unfolding len
len_law n = len_in_law n n (omega arith)

-- ---- numbers

pub lt_or_le : (n m : ℕ) → (n < m) ⊎ (m ≤ n)
lt_or_le n m = go (dec_le m n)
  where
    go : Dec (m ≤ n) → (n < m) ⊎ (m ≤ n)
    go (yes p) = inr p
    go (no p) = inl (omega arith)

pub two_halves : (k : ℕ) → 0 < k → 2 ^ k ≡ 2 * 2 ^ (k - 1)
two_halves zero h = omega arith
two_halves (suc k) h = let e : suc k - 1 ≡ k = omega arith in rw e (omega arith)

-- whoever has a number below it but above 0 is not 2^0
pub not-zero : (k r : ℕ) → 0 < r → r < 2 ^ k → 0 < k
not-zero zero r p h = omega arith
not-zero (suc k) r p h = omega arith

pub exp_lt : (i j : ℕ) → 2 ^ i < 2 ^ j → i < j
exp_lt i j h = lt_of_not-le (λ (g : j ≤ i). omega (arith, pow_mono g))

-- ---- lengths and powers of two

-- what is below 2^j has at most j digits
shorter : (n m j : ℕ) → IsLen n m → n < 2 ^ j → m ≤ j
shorter n m j l h = omega (arith, lt_of_not-le (λ (g : suc j ≤ m). omega (arith, pow_mono g)))

pub len_le : (n j : ℕ) → n < 2 ^ j → len n ≤ j
len_le n j h = shorter n (len n) j (len_law n) h

pub lt_len : (n j : ℕ) → 2 ^ j ≤ n → j < len n
lt_len n j h = lt_of_not-le (λ (g : len n ≤ j). omega (arith, len_law n, pow_mono g))

pub len_lt : (n j : ℕ) → j < len n → 2 ^ j ≤ n
len_lt n j h = omega (arith, len_law n, pow_mono h)

pub len_unique : (n m : ℕ) → IsLen n m → len n ≡ m
len_unique n m l = le_antisymm (len_le n m l.below) (shorter n m (len n) l (len_law n).below)

-- the law by one sharper, where n is not 0 and 2^m therefore even
even : (n m : ℕ) → 0 < n → IsLen n m → 2 ^ m ≤ 2 * n
even n zero p l = omega arith
even n (suc m) p l = omega arith

pub len_pos : (n : ℕ) → 0 < n → 2 ^ len n ≤ 2 * n
len_pos n p = even n (len n) p (len_law n)

-- ---- lengths that are known

pub len_twice : (n : ℕ) → 0 < n → len (2 * n) ≡ suc (len n)
len_twice n p =
    let l = len_law n in
    let e = len_pos n p in
    len_unique (2 * n) (suc (len n)) (record { below = omega arith; least = omega arith })

pub len_zero : len 0 ≡ 0
unfolding len len_in
len_zero = refl

pub len_pow : (j : ℕ) → len (2 ^ j) ≡ suc j
len_pow j = len_unique (2 ^ j) (suc j) (record { below = omega (arith, pow_pos j); least = omega arith })

-- from n to n + 1 the length stays, or n + 1 is the power of two above n
pub len_suc : (n : ℕ) → (len (suc n) ≡ len n) ⊎ ((suc n ≡ 2 ^ len n) × (len (suc n) ≡ suc (len n)))
len_suc n = go (eq-or-lt_of_le (len_law n).below)
  where
    go : (suc n ≡ 2 ^ len n) ⊎ (suc n < 2 ^ len n) → (len (suc n) ≡ len n) ⊎ ((suc n ≡ 2 ^ len n) × (len (suc n) ≡ suc (len n)))
    go (inl e) = inr (e, rw e (len_pow (len n)))
    go (inr h) = let l = len_law n in inl (len_unique (suc n) (len n) (record { below = h; least = omega arith }))
