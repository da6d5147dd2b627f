-- How many of its 2^k - 1 hashes an optimal P_k has still to do, c rounds before it puts out its y_0, in closed form: `left k c`.
--
-- Let z be what c lacks to the power of two above it, c + z = 2^(len c). In the round that is c from the end the schedule's remainder is 2z, or 0 where c
-- is a power of two. So its hashes are half of s, s being k - len z, or k + 1 at a power of two, and rounded up where k + c is odd (`busy_in`, `busy_at`).
-- Twice what is left is the sum of these s, but for the rounding. The curve g k rises by k - len n from n to n + 1 (`g_suc`); from one power of two to the
-- next c grows and z falls, so the sum is a constant less g k z there. That constant is g (k + 2) (2 ^ len c) - 2: the sum is then 0 at c = 0, and grows by
-- k + 1 at each power of two (`step_in`, `step-at`). As for the rounding, a sum that is odd is followed by a step that is odd (`step_odd_in`,
-- `step_odd_at`), so that the two halves are rounded as their sum is (`halves`). Sums stand on both sides, and no difference is cut off at 0.
-- Assumes nothing.
use Rattle.std.specs.Prelude.{◌≡◌, refl, [], ◌∷◌, map, ◌⊎◌, ℕ, zero, suc, ◌+◌, ◌-◌, ◌*◌, ◌/◌, ◌%◌, ◌^◌, ◌≤◌, ◌<◌}
use Rattle.std.proofs.Common.{sym, ap, ◌∙◌, inl, inr, eq-zero-or-pos, eq-or-lt_of_le, le_refl, mod-eq_of_lt, arith, pow_pos, pow_mono, pow-add}
use Rattle.std.proofs.Math.Nat.{pow-succ', le_dest, add-sub_cancel_left, add-mul-mod_self_left, mod_self}
use Rattle.std.proofs.Math.Decide.{le_ind}
use Rattle.std.proofs.Math.Pow.{pow-lt}
use Rattle.pebbling.specs.Len.{exp_lt, len, len_in, len_law, len_le, lt_len, len_unique, len_pos, len_twice, len_zero, len_pow, len_suc}

-- ---- the curve g, and what is left

unfoldable pub g : ℕ → ℕ → ℕ
g k n = n * (k - len n) + 2 ^ len n

-- twice what is left, but for the parity that the rounding up adds
unfoldable pub twice_left : ℕ → ℕ → ℕ
twice_left k c = g (k + 2) (2 ^ len c) - g k (2 ^ len c - c) - 2

unfoldable pub left : ℕ → ℕ → ℕ
left k c = ((k + c) % 2 + twice_left k c) / 2

-- for k = 4: before rounds 8 to 16, whose hashes are 2, 2, 1, 1, 2, 2, 2, 3 and 0
pub left_of_four : map (left 4) (8 ∷ 7 ∷ 6 ∷ 5 ∷ 4 ∷ 3 ∷ 2 ∷ 1 ∷ 0 ∷ []) ≡ 15 ∷ 13 ∷ 11 ∷ 10 ∷ 9 ∷ 7 ∷ 5 ∷ 3 ∷ 0 ∷ []
unfolding left twice_left g len len_in
left_of_four = refl

-- the value of g where the length of n is l and k is l + m
g_at : (l m n : ℕ) → len n ≡ l → g (l + m) n ≡ n * m + 2 ^ l
unfolding g
g_at l m n e = rw (e, add-sub_cancel_left)

-- g at a power of two
pub g_pow : (k j m : ℕ) → suc j + m ≡ k → g k (2 ^ j) ≡ 2 ^ j * (m + 2)
g_pow k j m e = rw (← e) (g_at (suc j) m (2 ^ j) (len_pow j) ∙ omega arith)

-- g from n to n + 1: the lengths agree, or n + 1 is a power of two
pub g_suc : (k n : ℕ) → suc n < 2 ^ k → g k (suc n) ≡ g k n + (k - len n)
unfolding g
g_suc k n h = go (len_suc n)
  where
    go : (len (suc n) ≡ len n) ⊎ ((suc n ≡ 2 ^ len n) × (len (suc n) ≡ suc (len n)))
        → suc n * (k - len (suc n)) + 2 ^ len (suc n) ≡ n * (k - len n) + 2 ^ len n + (k - len n)
    go (inl e) = rw e (omega arith)
    go (inr e) =
        let d : suc (len n) ≤ k = exp_lt (len n) k (rw e.0 at h) in
        let f : k - len n ≡ suc (k - suc (len n)) = omega arith in
        rw (e.1, f) (omega (arith, e.0, ap (λ (x : ℕ). x * (k - suc (len n))) e.0))

g_mono : (k n m : ℕ) → n ≤ m → m < 2 ^ k → g k n ≤ g k m
g_mono k n m h = le_ind (λ (m : ℕ). m < 2 ^ k → g k n ≤ g k m) (λ l. le_refl (g k n)) (λ m l ih b. omega (arith, ih (omega arith), g_suc k m b)) m h

g_wide : (k n : ℕ) → len n ≤ k → g (k + 2) n ≡ g k n + 2 * n
unfolding g
g_wide k n h = let e : k + 2 - len n ≡ k - len n + 2 = omega arith in rw e (omega arith)

-- twice_left as a sum, for c that lacks z to the power of two above it
twice_law : (k c z : ℕ) → c + z ≡ 2 ^ len c → 0 < z → z < 2 ^ k → len c ≤ k → twice_left k c + g k z + 2 ≡ g (k + 2) (2 ^ len c)
unfolding twice_left
twice_law k c z e p h l =
    let f : 2 ^ len c - c ≡ z = omega arith in
    let up = g_mono (k + 2) z (2 ^ len c) (omega arith) (pow-lt (omega arith)) in
    rw f (omega (arith, g_wide k z (len_le z k h)))

-- ---- twice_left from c to c + 1

-- where c + 1 is no power of two
step_in : (k c z : ℕ) → c + suc z ≡ 2 ^ len c → 0 < z → suc z < 2 ^ k → len c ≤ k → (len (suc c) ≡ len c) × (twice_left k (suc c) ≡ twice_left k c + (k - len z))
step_in k c z e p h l =
    let f : len (suc c) ≡ len c = len_unique (suc c) (len c) (record { below = omega arith; least = omega (arith, len_law c) }) in
    let a = twice_law k c (suc z) e (omega arith) h l in
    let b = rw f at (twice_law k (suc c) z (rw f (omega arith)) p (omega arith) (rw f l)) in
    (f, omega (arith, g_suc k z h))

-- where it is one
step-at : (k c m : ℕ) → suc c ≡ 2 ^ len c → suc (len c) + m ≡ k → (len (suc c) ≡ suc (len c)) × (twice_left k (suc c) ≡ twice_left k c + (k + 1))
step-at k c m e l =
    let f : len (suc c) ≡ suc (len c) = ap len e ∙ len_pow (len c) in
    let q : suc c < 2 ^ k = omega (arith, pow-lt {i = len c} {j = k} (omega arith)) in
    let a : twice_left k c + g k (2 ^ 0) + 2 ≡ g (k + 2) (2 ^ len c) = twice_law k c 1 (omega arith) (omega arith) (omega arith) (omega arith) in
    let b : twice_left k (suc c) + g k (2 ^ len c) + 2 ≡ g (k + 2) (2 ^ suc (len c)) =
    rw f at (twice_law k (suc c) (2 ^ len c) (rw f (omega arith)) (pow_pos (len c)) (omega arith) (rw f (omega arith))) in
    let g1 : g k (2 ^ len c) ≡ 2 ^ len c * (m + 2) = g_pow k (len c) m l in
    let g2 : g (k + 2) (2 ^ len c) ≡ 2 ^ len c * (m + 4) = g_pow (k + 2) (len c) (m + 2) (omega arith) ∙ omega arith in
    let g3 : g (k + 2) (2 ^ suc (len c)) ≡ 2 ^ len c * (2 * m + 6) = g_pow (k + 2) (suc (len c)) (m + 1) (omega arith) ∙ rw (pow-succ' 2 (len c)) (omega arith) in
    let g4 : g k (2 ^ 0) ≡ len c + m + 2 = g_pow k 0 (len c + m) (omega arith) ∙ omega arith in
    (f, omega arith)

-- ---- parities

pub parity : (n : ℕ) → (n % 2 ≡ 0) ⊎ (n % 2 ≡ 1)
parity n = go (eq-zero-or-pos (n % 2))
  where
    go : (n % 2 ≡ 0) ⊎ (0 < n % 2) → (n % 2 ≡ 0) ⊎ (n % 2 ≡ 1)
    go (inl e) = inl e
    go (inr p) = inr (omega arith)

mul_parity : (a b : ℕ) → ((a * b) % 2 ≡ 0) ⊎ ((a % 2 ≡ 1) × (b % 2 ≡ 1))
mul_parity a b = go (parity a) (parity b)
  where
    go : (a % 2 ≡ 0) ⊎ (a % 2 ≡ 1) → (b % 2 ≡ 0) ⊎ (b % 2 ≡ 1) → ((a * b) % 2 ≡ 0) ⊎ ((a % 2 ≡ 1) × (b % 2 ≡ 1))
    go (inl e) q = let f : a ≡ 2 * (a / 2) = omega arith in inl (omega (arith, ap (λ (x : ℕ). x * b) f))
    go (inr p) (inl e) = let f : b ≡ 2 * (b / 2) = omega arith in inl (omega (arith, ap (λ (x : ℕ). a * x) f))
    go (inr p) (inr q) = inr (p, q)

pow_even : (n : ℕ) → 0 < n → (h : ℕ) × (2 ^ len n ≡ 2 * h)
pow_even n p = go (le_dest (lt_len n 0 p))
  where
    go : (d : ℕ) × (1 + d ≡ len n) → (h : ℕ) × (2 ^ len n ≡ 2 * h)
    go d = (2 ^ d.0, ap (λ (x : ℕ). 2 ^ x) (sym d.1) ∙ pow-add 2 1 d.0)

-- twice_left is odd only where both z and its step are
odd : (k c z : ℕ) → 0 < c → c + z ≡ 2 ^ len c → 0 < z → z < 2 ^ k → len c ≤ k → (twice_left k c % 2 ≡ 0) ⊎ ((z % 2 ≡ 1) × ((k - len z) % 2 ≡ 1))
unfolding g
odd k c z q e p h l = go (mul_parity z (k - len z))
  where
    even : (z * (k - len z)) % 2 ≡ 0 → twice_left k c % 2 ≡ 0
    even o =
        let m = le_dest l in
        let t = twice_law k c z e p h l in
        let u = g_pow (k + 2) (len c) (m.0 + 1) (omega arith) in
        let a = pow_even c q in
        let b = pow_even z p in
        omega (arith, ap (λ (x : ℕ). x * (m.0 + 3)) a.1)

    go : ((z * (k - len z)) % 2 ≡ 0) ⊎ ((z % 2 ≡ 1) × ((k - len z) % 2 ≡ 1)) → (twice_left k c % 2 ≡ 0) ⊎ ((z % 2 ≡ 1) × ((k - len z) % 2 ≡ 1))
    go (inl o) = inl (even o)
    go (inr o) = inr o

halves : (k c d s : ℕ) → (d % 2 ≡ 0) ⊎ (s % 2 ≡ 1) → ((k + suc c) % 2 + (d + s)) / 2 ≡ ((k + c) % 2 + d) / 2 + ((k + suc c) % 2 + s) / 2
halves k c d s (inl e) = omega arith
halves k c d s (inr e) = omega arith

-- ---- the schedule, by the rounds c to the one that puts out y_0

-- the remainder in its formula
twice_round : (k c z r : ℕ) → r + c ≡ 2 ^ k → c + z ≡ 2 ^ len c → len c ≤ k → 2 * r % 2 ^ len c ≡ 2 * z % 2 ^ len c
twice_round k c z r e f l = go (le_dest l)
  where
    go : (m : ℕ) × (len c + m ≡ k) → 2 * r % 2 ^ len c ≡ 2 * z % 2 ^ len c
    go m =
        let q = le_dest (pow_pos m.0) in
        let a : 2 ^ k ≡ 2 ^ len c * (1 + q.0) = ap (λ (x : ℕ). 2 ^ x) (sym m.1) ∙ pow-add 2 (len c) m.0 ∙ ap (λ (x : ℕ). 2 ^ len c * x) (sym q.1) in
        let b : 2 * r ≡ 2 * z + 2 ^ len c * (2 * q.0) = omega arith in
        rw b (add-mul-mod_self_left (2 * z) (2 ^ len c) (2 * q.0))

-- its hashes in a round of the second half
unfoldable pub busy : ℕ → ℕ → ℕ
busy k r = ((k + r) % 2 + (k + 1) - len (2 * r % 2 ^ len (2 ^ k - r))) / 2

same_parity : (k c r : ℕ) → r + c ≡ 2 ^ suc k → (suc k + r) % 2 ≡ (suc k + c) % 2
same_parity k c r e = omega arith

-- the same by c: where c is no power of two, and where it is
pub busy_in : (k c z r : ℕ) → r + c ≡ 2 ^ suc k → c + z ≡ 2 ^ len c → 0 < z → 2 * z < 2 ^ len c → len c ≤ suc k → busy (suc k) r ≡ ((suc k + c) % 2 + (suc k - len z)) / 2
unfolding busy
busy_in k c z r e f p h l =
    let a : 2 ^ suc k - r ≡ c = omega arith in
    let b : len (2 * r % 2 ^ len c) ≡ suc (len z) = ap len (twice_round (suc k) c z r e f l ∙ mod-eq_of_lt h) ∙ len_twice z p in
    rw (a, b, same_parity k c r e) (ap (λ (x : ℕ). x / 2) (omega (arith, len_le z (len c) (omega arith))))

pub busy_at : (k c r : ℕ) → r + c ≡ 2 ^ suc k → 2 * c ≡ 2 ^ len c → len c ≤ suc k → busy (suc k) r ≡ ((suc k + c) % 2 + (suc k + 1)) / 2
unfolding busy
busy_at k c r e f l =
    let a : 2 ^ suc k - r ≡ c = omega arith in
    let b : len (2 * r % 2 ^ len c) ≡ 0 = ap len (twice_round (suc k) c c r e (omega arith) l ∙ rw f (mod_self (2 ^ len c))) ∙ len_zero in
    rw (a, b, same_parity k c r e) (ap (λ (x : ℕ). x / 2) (omega arith))

-- ---- left, round by round

-- an odd number but 1 is no power of two, and has the length of the number below it
odd_len : (z : ℕ) → 0 < z → suc z % 2 ≡ 1 → len (suc z) ≡ len z
odd_len z p o = go (len_suc z)
  where
    go : (len (suc z) ≡ len z) ⊎ ((suc z ≡ 2 ^ len z) × (len (suc z) ≡ suc (len z))) → len (suc z) ≡ len z
    go (inl e) = e
    go (inr e) = let h = pow_even z p in omega arith

step_odd_in : (k c z : ℕ) → c + suc z ≡ 2 ^ len c → 0 < z → suc z < 2 ^ k → len c ≤ k → (twice_left k c % 2 ≡ 0) ⊎ ((k - len z) % 2 ≡ 1)
step_odd_in k zero z e p h l = absurd (omega (arith, ap (λ (x : ℕ). 2 ^ x) len_zero))
step_odd_in k (suc c) z e p h l = go (odd k (suc c) (suc z) (omega arith) e (omega arith) h l)
  where
    go : (twice_left k (suc c) % 2 ≡ 0) ⊎ ((suc z % 2 ≡ 1) × ((k - len (suc z)) % 2 ≡ 1)) → (twice_left k (suc c) % 2 ≡ 0) ⊎ ((k - len z) % 2 ≡ 1)
    go (inl o) = inl o
    go (inr o) = inr (rw (odd_len z p o.0) at o.1)

twice_left_zero : (k : ℕ) → 0 < k → twice_left k 0 ≡ 0
twice_left_zero k p =
    let m = le_dest p in
    let a : twice_left k 0 + g k (2 ^ 0) + 2 ≡ g (k + 2) (2 ^ 0) =
    rw len_zero at (twice_law k 0 1 (rw len_zero refl) (omega arith) (pow-lt {i = 0} {j = k} p) (rw len_zero (omega arith))) in
    omega (arith, g_pow k 0 m.0 m.1, g_pow (k + 2) 0 (m.0 + 2) (omega arith))

step_odd_at : (k c : ℕ) → suc c ≡ 2 ^ len c → len c < k → (twice_left k c % 2 ≡ 0) ⊎ ((k + 1) % 2 ≡ 1)
step_odd_at k zero e l = inl (omega (arith, twice_left_zero k (omega arith)))
step_odd_at k (suc c) e l = go (odd k (suc c) 1 (omega arith) (omega arith) (omega arith) (pow-lt {i = 0} {j = k} (omega arith)) (omega arith))
  where
    go : (twice_left k (suc c) % 2 ≡ 0) ⊎ ((1 % 2 ≡ 1) × ((k - len 1) % 2 ≡ 1)) → (twice_left k (suc c) % 2 ≡ 0) ⊎ ((k + 1) % 2 ≡ 1)
    go (inl o) = inl o
    go (inr o) = inr (omega (arith, rw (len_pow 0) at o.1))

-- one round more, by the schedule's hashes of that round
pub left_suc : (k c r : ℕ) → r + suc c ≡ 2 ^ suc k → suc c ≤ 2 ^ k → left (suc k) (suc c) ≡ left (suc k) c + busy (suc k) r
unfolding left
left_suc k c r e h = go (eq-or-lt_of_le (len_law c).below)
  where
    l : len c ≤ k
    l = len_le c k h

    inside : suc c < 2 ^ len c → (z : ℕ) × (suc c + z ≡ 2 ^ len c) → ((suc k + suc c) % 2 + twice_left (suc k) (suc c)) / 2 ≡ ((suc k + c) % 2 + twice_left (suc k) c) / 2 + busy (suc k) r
    inside b z =
        let w : suc z.0 < 2 ^ suc k = omega (arith, pow_mono l) in
        let s = step_in (suc k) c z.0 (omega arith) (omega arith) w (omega (arith, l)) in
        let t = busy_in k (suc c) z.0 r e (rw s.0 z.1) (omega arith) (rw s.0 (omega (arith, len_law c))) (rw s.0 (omega (arith, l))) in
        rw (t, s.1) (halves (suc k) c (twice_left (suc k) c) (suc k - len z.0) (step_odd_in (suc k) c z.0 (omega arith) (omega arith) w (omega (arith, l))))

    at : suc c ≡ 2 ^ len c → (m : ℕ) × (len c + m ≡ k) → ((suc k + suc c) % 2 + twice_left (suc k) (suc c)) / 2 ≡ ((suc k + c) % 2 + twice_left (suc k) c) / 2 + busy (suc k) r
    at b m =
        let s = step-at (suc k) c m.0 b (omega arith) in
        let t = busy_at k (suc c) r e (rw s.0 (omega arith)) (rw s.0 (omega (arith, l))) in
        rw (t, s.1) (halves (suc k) c (twice_left (suc k) c) (suc k + 1) (step_odd_at (suc k) c b (omega (arith, l))))

    go : (suc c ≡ 2 ^ len c) ⊎ (suc c < 2 ^ len c) → ((suc k + suc c) % 2 + twice_left (suc k) (suc c)) / 2 ≡ ((suc k + c) % 2 + twice_left (suc k) c) / 2 + busy (suc k) r
    go (inl b) = at b (le_dest l)
    go (inr b) = inside b (le_dest (len_law c).below)

-- c = 2^k: every hash is left
pub left_all : (k : ℕ) → left (suc k) (2 ^ k) + 1 ≡ 2 ^ suc k
unfolding left
left_all k =
    let f : len (2 ^ k) ≡ suc k = len_pow k in
    let a : twice_left (suc k) (2 ^ k) + g (suc k) (2 ^ k) + 2 ≡ g (suc k + 2) (2 ^ suc k) =
    rw f at (twice_law (suc k) (2 ^ k) (2 ^ k) (rw f (omega arith)) (pow_pos k) (omega (arith, pow_pos k)) (rw f (omega arith))) in
    omega (arith, pow_pos k, g_pow (suc k) k 0 (omega arith), g_pow (suc k + 2) (suc k) 1 (omega arith))

-- c = 0: none is
pub left_zero : (k : ℕ) → left (suc k) 0 ≡ 0
unfolding left
left_zero k = rw (twice_left_zero (suc k) (omega arith)) (omega arith)

-- ---- left is large enough, and its terms do not cross

-- 2^(len c) of the 2^k - h are left at least, which is what the room of a card rests on
left_room_at : (k c z j m : ℕ) → len c ≡ suc j → j + m ≡ k → c + z ≡ 2 * 2 ^ j → 0 < z → z ≤ 2 ^ j → 2 * 2 ^ j ≤ left (suc k) c + 1
unfolding left
left_room_at k c z j m f e d p h =
    let a : twice_left (suc k) c + g (suc k) z + 2 ≡ g (suc k + 2) (2 ^ suc j) =
    rw f at (twice_law (suc k) c z (rw f (omega arith)) p (omega (arith, pow-lt {i = j} {j = suc k} (omega arith))) (rw f (omega arith))) in
    let b : g (suc k + 2) (2 ^ suc j) ≡ 2 ^ j * (2 * m + 6) = g_pow (suc k + 2) (suc j) (m + 1) (omega arith) ∙ rw (pow-succ' 2 j) (omega arith) in
    omega (arith, g_pow (suc k) j m (omega arith), g_mono (suc k) z (2 ^ j) h (pow-lt (omega arith)))

pub left_room : (k c : ℕ) → c ≤ 2 ^ k → 2 ^ len c ≤ left (suc k) c + 1
left_room k zero h = rw (len_zero, left_zero k) (omega arith)
left_room k (suc c) h = go (le_dest (lt_len (suc c) 0 (omega arith)))
  where
    go : (j : ℕ) × (1 + j ≡ len (suc c)) → 2 ^ len (suc c) ≤ left (suc k) (suc c) + 1
    go j =
        let f : len (suc c) ≡ suc j.0 = omega arith in
        let a = rw f at (len_pos (suc c) (omega arith)) in
        let b = rw f at (len_law (suc c)).below in
        let m = le_dest (exp_lt j.0 (suc k) (omega arith)) in
        rw f (omega (arith, left_room_at k (suc c) (2 * 2 ^ j.0 - suc c) j.0 m.0 f (omega arith) (omega arith) (omega arith) (omega arith)))

-- no difference of the closed form is cut off at 0
pub left-fits : (k c : ℕ) → c ≤ 2 ^ k → g (suc k) (2 ^ len c - c) + 2 ≤ g (suc k + 2) (2 ^ len c)
left-fits k c h =
    let l : len c ≤ suc k = len_le c (suc k) (omega (arith, pow_pos k)) in
    let b = len_law c in
    let z : ℕ = 2 ^ len c - c in
    let m : z < 2 ^ suc k = below k c h in
    omega (arith, twice_law (suc k) c z (omega arith) (omega arith) m l)
  where
    below : (k c : ℕ) → c ≤ 2 ^ k → 2 ^ len c - c < 2 ^ suc k
    below k zero h = rw len_zero (omega (arith, pow_pos k))
    below k (suc c) h = omega (arith, len_pos (suc c) (omega arith))
