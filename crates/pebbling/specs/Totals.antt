-- Sums of hashes, for any family of schedules whose T_k add up to 2^k - 1: W_k is the work of the last 2^k - 1 rounds, and a whole run of P_k does
-- k * 2^(k-1) hashes. Assumes nothing.
use Rattle.std.specs.Prelude.{◌≡◌, ◌⊎◌}
use Rattle.std.proofs.Math.Path.{refl, sym, ap}
use Rattle.std.proofs.Common.{◌∙◌, inl, inr, eq-or-lt_of_le, le_refl, add-zero, add-suc, arith}
use mathlib.Core.List.{List, ◌∷◌, ◌++◌, zip_with}
use Prim.Native.Nat.{ℕ, zero, suc, ◌+◌, ◌-◌, ◌*◌, ◌^◌, ◌≤◌, ◌<◌}
use Rattle.std.proofs.Math.Nat.{pow-succ', le_step}
use Rattle.std.proofs.Math.Pow.{pow_pos}
use Rattle.pebbling.specs.Len.{lt_or_le}
use Rattle.pebbling.specs.Recursion.{total, row, sum, T, W, work}
use Rattle.pebbling.specs.SideBySide.{side_work, work_prepare, work_out, work_children, side_work_zero, side_work_split, side_work_gone, side_work_both, side_work_last, side_work_late}
use Rattle.pebbling.specs.HashesDone.{Fair, done_fits}

-- ---- sums

total_same : (f g : ℕ → ℕ) (m : ℕ) → ((n : ℕ) → n < m → f (suc n) ≡ g (suc n)) → total f m ≡ total g m
unfolding total
total_same f g zero e = refl
total_same f g (suc m) e = omega (arith, total_same f g m (λ n h. e n (le_step h)), e m (le_refl (suc m)))

total-add : (f g : ℕ → ℕ) (m : ℕ) → total (λ n. f n + g n) m ≡ total f m + total g m
unfolding total
total-add f g zero = refl
total-add f g (suc m) = omega (arith, total-add f g m)

total_split : (f : ℕ → ℕ) (a b : ℕ) → total f (a + b) ≡ total f a + total (λ n. f (a + n)) b
unfolding total
total_split f a zero = rw (add-zero a) (omega arith)
total_split f a (suc b) = rw add-suc (omega (arith, total_split f a b, ap f (add-suc a b)))

total_none : (f : ℕ → ℕ) (m : ℕ) → ((n : ℕ) → n < m → f (suc n) ≡ 0) → total f m ≡ 0
unfolding total
total_none f zero e = refl
total_none f (suc m) e = omega (arith, total_none f m (λ n h. e n (le_step h)), e m (le_refl (suc m)))

total_pred : (f : ℕ → ℕ) (m : ℕ) → 0 < m → total f m ≡ total f (m - 1) + f m
unfolding total
total_pred f zero h = omega arith
total_pred f (suc m) h = let e : suc m - 1 ≡ m = omega arith in rw e refl

-- ---- rows

sum_row : (f : ℕ → ℕ) (a n : ℕ) → sum (row f (suc a) n) + total f a ≡ total f (a + n)
unfolding row total
sum_row f a zero = rw (add-zero a) (omega arith)
sum_row f a (suc n) = rw (add-suc a n) (omega (arith, sum_row f (suc a) n, ap (total f) (suc_left a n)))
  where
    suc_left : (a n : ℕ) → suc a + n ≡ suc (a + n)
    suc_left a n = omega arith

pub sum_total : (f : ℕ → ℕ) (n : ℕ) → sum (row f 1 n) ≡ total f n
unfolding total
sum_total f n = let e : 0 + n ≡ n = omega arith in omega (arith, rw e at (sum_row f 0 n))

row_same : (f g : ℕ → ℕ) (a b n : ℕ) → ((i : ℕ) → i < n → f (a + i) ≡ g (b + i)) → row f a n ≡ row g b n
unfolding row
row_same f g a b zero e = refl
row_same f g a b (suc n) e =
    let first : f a ≡ g b = rw (add-zero a, add-zero b) at (e 0 (omega arith)) in
    rw (first, row_same f g (suc a) (suc b) n (λ i h. later i h)) refl
  where
    later : (i : ℕ) → i < n → f (suc a + i) ≡ g (suc b + i)
    later i h =
        let p : suc a + i ≡ a + suc i = omega arith in
        let q : suc b + i ≡ b + suc i = omega arith in
        rw (p, q) (e (suc i) (omega arith))

pub row_append : (f : ℕ → ℕ) (from a b : ℕ) → row f from (a + b) ≡ row f from a ++ row f (from + a) b
unfolding row
row_append f from zero b = let e : 0 + b ≡ b = omega arith in rw (e, add-zero from) refl
row_append f from (suc a) b =
    let e : suc a + b ≡ suc (a + b) = omega arith in
    let d : from + suc a ≡ suc from + a = omega arith in
    rw (e, d) (ap (λ (s : List ℕ). f from ∷ s) (row_append f (suc from) a b))

row_zip : (f g : ℕ → ℕ) (a n : ℕ) → zip_with ◌+◌ (row f a n) (row g a n) ≡ row (λ i. f i + g i) a n
unfolding row zip_with
row_zip f g a zero = refl
row_zip f g a (suc n) = rw (row_zip f g (suc a) n) refl

module _ (t : ℕ → ℕ → ℕ) where
  -- ---- W_k

  W_side : (k : ℕ) → W t k ≡ row (side_work t k) 1 (2 ^ k - 1)
  unfolding W T row
  W_side zero = refl
  W_side (suc k) =
      let n : ℕ = 2 ^ k - 1 in
      let e : 2 ^ suc k - 1 ≡ n + suc n = omega (arith, pow_pos k) in
      let first : row (λ i. t k i + side_work t k i) 1 n ≡ row (side_work t (suc k)) 1 n =
      row_same (λ (i : ℕ). t k i + side_work t k i) (side_work t (suc k)) 1 1 n (λ i h. omega (arith, side_work_both t k (1 + i) (omega arith))) in
      let middle : side_work t (suc k) (1 + n) ≡ 0 = side_work_last t k (1 + n) (omega (arith, pow_pos k)) in
      let last : row (side_work t k) 1 n ≡ row (side_work t (suc k)) (suc (1 + n)) n = row_same (side_work t k) (side_work t (suc k)) 1 (suc (1 + n)) n (λ i h. late i) in
      rw (e, row_append (side_work t (suc k)) 1 n (suc n), W_side k, row_zip, first, middle, last) refl
    where
      late : (i : ℕ) → side_work t k (1 + i) ≡ side_work t (suc k) (suc (1 + (2 ^ k - 1)) + i)
      late i =
          let m : ℕ = suc (1 + (2 ^ k - 1)) + i in
          let d : m - 2 ^ k ≡ 1 + i = omega (arith, pow_pos k) in
          sym (rw d at (side_work_late t k m (omega (arith, pow_pos k))))

  -- W_k is the work of the rounds 2^k + 1 to 2^(k+1) - 1
  pub W_work : (k : ℕ) → W t k ≡ row (work t k) (2 ^ k + 1) (2 ^ k - 1)
  W_work k = W_side k ∙ row_same (side_work t k) (work t k) 1 (2 ^ k + 1) (2 ^ k - 1) (λ i h. late i)
    where
      late : (i : ℕ) → side_work t k (1 + i) ≡ work t k (2 ^ k + 1 + i)
      late i = let d : 2 ^ k + 1 + i - 2 ^ k ≡ 1 + i = omega arith in sym (rw d at (work_children t k (2 ^ k + 1 + i) (omega arith)))

  -- ---- whole runs

  module _ (t_fair : Fair t) where
    prepared : (k : ℕ) → total (work t k) (2 ^ k - 1) ≡ 2 ^ k - 1
    prepared k = total_same (work t k) (t k) (2 ^ k - 1) (λ n h. work_prepare t k (suc n) (omega arith)) ∙ t_fair k

    run : (k : ℕ) → total (work t k) (2 ^ suc k - 1) ≡ 2 ^ k - 1 + total (side_work t k) (2 ^ k - 1)
    run k =
        let e : 2 ^ suc k - 1 ≡ 2 ^ k + (2 ^ k - 1) = omega (arith, pow_pos k) in
        rw e (omega (
          arith,
          prepared k,
          work_out t k (2 ^ k) refl,
          total_split (work t k) (2 ^ k) (2 ^ k - 1),
          total_pred (work t k) (2 ^ k) (pow_pos k),
          total_same (λ (n : ℕ). work t k (2 ^ k + n)) (side_work t k) (2 ^ k - 1) (λ n h. late n),
        ))
      where
        late : (n : ℕ) → work t k (2 ^ k + suc n) ≡ side_work t k (suc n)
        late n = let d : 2 ^ k + suc n - 2 ^ k ≡ suc n = omega arith in rw d at (work_children t k (2 ^ k + suc n) (omega arith))

    sides : (k m : ℕ) → total (side_work t (suc k)) m ≡ total (side_work t k) m + total (work t k) m
    sides k m =
        total_same (side_work t (suc k)) (λ (n : ℕ). side_work t k n + work t k n) m (λ n h. side_work_split t k (suc n)) ∙ total-add (side_work t k) (work t k) m

    ended : (k : ℕ) → total (side_work t k) (2 ^ suc k - 1) ≡ total (side_work t k) (2 ^ k - 1)
    ended k =
        let e : 2 ^ suc k - 1 ≡ 2 ^ k - 1 + 2 ^ k = omega (arith, pow_pos k) in
        rw e (omega (
          arith,
          total_split (side_work t k) (2 ^ k - 1) (2 ^ k),
          total_none (λ (n : ℕ). side_work t k (2 ^ k - 1 + n)) (2 ^ k) (λ n h. side_work_gone t k (2 ^ k - 1 + suc n) (omega arith)),
        ))

    -- the children of P_k do (k - 2) * 2^(k-1) + 1 hashes in all
    side_total : (k : ℕ) → 2 * total (side_work t k) (2 ^ k - 1) + 2 * 2 ^ k ≡ k * 2 ^ k + 2
    unfolding total
    side_total zero = refl
    side_total (suc k) =
        omega (arith, pow_pos k, side_total k, sides k (2 ^ suc k - 1), ended k, run k, ap (λ (x : ℕ). suc k * x) (pow-succ' 2 k))

    -- of the last 2^k - 1 rounds, twice over: W_k adds up to (k - 2) * 2^(k-1) + 1
    pub W_total : (k : ℕ) → 2 * sum (W t k) + 2 * 2 ^ k ≡ k * 2 ^ k + 2
    W_total k = rw (W_side k, sum_total (side_work t k) (2 ^ k - 1)) (side_total k)

    -- of all 2^(k+1) - 1 rounds, twice over
    pub run_total : (k : ℕ) → 2 * total (work t k) (2 ^ suc k - 1) ≡ k * 2 ^ k
    run_total k = omega (arith, pow_pos k, run k, side_total k)

    -- one round does fewer than 2^k hashes
    pub work_lt : (k r : ℕ) → 0 < r → work t k r < 2 ^ k
    work_lt k r p = go k r p (lt_or_le (2 ^ k) r)
      where
        itself : (k r : ℕ) → 0 < r → r ≤ 2 ^ k → work t k r < 2 ^ k
        itself k r p h = by (eq-or-lt_of_le h)
          where
            by : (r ≡ 2 ^ k) ⊎ (r < 2 ^ k) → work t k r < 2 ^ k
            by (inl e) = omega (arith, work_out t k r e, pow_pos k)
            by (inr l) = omega (arith, work_prepare t k r l, done_fits t t_fair k r p l)

        side : (k n : ℕ) → 0 < n → side_work t k n < 2 ^ k
        side zero n p = omega (arith, side_work_zero t n)
        side (suc k) n p = over (side k n p) (λ m q. side k m q) (lt_or_le (2 ^ k) n)
          where
            over : side_work t k n < 2 ^ k → ((m : ℕ) → 0 < m → side_work t k m < 2 ^ k) → (2 ^ k < n) ⊎ (n ≤ 2 ^ k) → side_work t (suc k) n < 2 ^ suc k
            over a ih (inl h) = omega (arith, side_work_late t k n h, ih (n - 2 ^ k) (omega arith))
            over a ih (inr h) = omega (arith, side_work_split t k n, itself k n p h)

        go : (k r : ℕ) → 0 < r → (2 ^ k < r) ⊎ (r ≤ 2 ^ k) → work t k r < 2 ^ k
        go k r p (inl h) = omega (arith, work_children t k r h, side k (r - 2 ^ k) (omega arith))
        go k r p (inr h) = itself k r p h
