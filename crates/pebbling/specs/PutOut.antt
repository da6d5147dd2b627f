-- What is put out: nothing in a preparing round, and x_(c-1) in a paying round with c rounds left. It is the first of the positions held.
-- Assumes nothing.
use Rattle.std.specs.Prelude.{◌≡◌, ◌⊎◌, ℕ, zero, suc, ◌+◌, ◌-◌, ◌^◌, ◌≤◌, ◌<◌, length, take}
use Rattle.std.proofs.Math.Path.{refl}
use Rattle.std.proofs.Common.{sym, ap, ◌∙◌, inl, inr, eq-or-lt_of_le, arith, lt-ltb, le-ltb}
use mathlib.Core.List.{List, [], ◌∷◌, ◌++◌, flat_map}
use Rattle.pebbling.specs.Len.{lt_or_le}
use Rattle.pebbling.specs.Recursion.{done, place, held, preparing, puts_out, put_out, positions}
use Rattle.pebbling.specs.SideBySide.{side, pebbler, running_itself, running_children, flat_map_append, side_both, side_last, side_late, side_positions, positions_itself, positions_children, side_positions_both, side_positions_last, side_positions_late}
use Rattle.pebbling.specs.OnePebbler.{places, held_all}
use Rattle.pebbling.specs.HashesDone.{Fair, done_all}

-- ---- one pebbler

none : (k r base : ℕ) → r < 2 ^ k → puts_out (pebbler k r base) ≡ []
unfolding puts_out preparing
none k r base h = rw (lt-ltb r (2 ^ k) h) refl

-- y_0 is at the top of its 2^k positions
last : (k r base : ℕ) → r ≡ 2 ^ k → puts_out (pebbler k r base) ≡ (base + (2 ^ k - 1)) ∷ []
unfolding puts_out preparing place
last k r base e = rw (le-ltb r (2 ^ k) (omega arith)) refl

-- ---- all of them

pub put_out_none : (k r base : ℕ) → r < 2 ^ k → put_out k r base ≡ []
unfolding put_out flat_map
put_out_none k r base h = rw (running_itself k r base (omega arith), none k r base h) refl

side_put_out : (k n c base : ℕ) → n + suc c ≡ 2 ^ k → 0 < n → flat_map puts_out (side k n base) ≡ (base + c) ∷ []
unfolding flat_map
side_put_out zero n c base e p = absurd (omega arith)
side_put_out (suc k) n c base e p = go (λ n c base e p. side_put_out k n c base e p) (lt_or_le (2 ^ k) n)
  where
    go : ((n c base : ℕ) → n + suc c ≡ 2 ^ k → 0 < n → flat_map puts_out (side k n base) ≡ (base + c) ∷ [])
        → (2 ^ k < n) ⊎ (n ≤ 2 ^ k) → flat_map puts_out (side (suc k) n base) ≡ (base + c) ∷ []
    go ih (inl h) = rw (side_late k n base h) (ih (n - 2 ^ k) c base (omega arith) (omega arith))
    go ih (inr h) = by (eq-or-lt_of_le h)
      where
        by : (n ≡ 2 ^ k) ⊎ (n < 2 ^ k) → flat_map puts_out (side (suc k) n base) ≡ (base + c) ∷ []
        by (inl q) = let d : 2 ^ k - 1 ≡ c = omega arith in rw (side_last k n base q, last k n base q, d) refl
        by (inr q) =
            let d : base + 2 ^ k + (2 ^ k - n - 1) ≡ base + c = omega arith in
            rw (side_both k n base h, flat_map_append, none k n base q, ih n (2 ^ k - n - 1) (base + 2 ^ k) (omega arith) p, d) refl

-- a paying round puts out one position
pub put_out_one : (k r c base : ℕ) → r + suc c ≡ 2 ^ suc k → 2 ^ k ≤ r → put_out k r base ≡ (base + c) ∷ []
unfolding put_out flat_map
put_out_one k r c base e h = go (eq-or-lt_of_le h)
  where
    go : (2 ^ k ≡ r) ⊎ (2 ^ k < r) → put_out k r base ≡ (base + c) ∷ []
    go (inl q) = let d : 2 ^ k - 1 ≡ c = omega arith in rw (running_itself k r base (omega arith), last k r base (sym q), d) refl
    go (inr q) = rw (running_children k r base q) (side_put_out k (r - 2 ^ k) c base (omega arith) (omega arith))

-- ---- the first position held is the one put out

first_append : (s r : List ℕ) (y : ℕ) → take 1 s ≡ y ∷ [] → take 1 (s ++ r) ≡ y ∷ []
first_append [] r y e = absurd (omega (arith, ap length e))
first_append (x ∷ s) r y e = e

module _ (t : ℕ → ℕ → ℕ) (t_fair : Fair t) where
  held_first : (k r base : ℕ) → r ≡ 2 ^ k → take 1 (held k (done t k r) base) ≡ (base + (2 ^ k - 1)) ∷ []
  unfolding places place
  held_first k r base e = rw (done_all t t_fair k r e, held_all k base) refl

  side_first : (k n c base : ℕ) → n + suc c ≡ 2 ^ k → 0 < n → take 1 (side_positions t k n base) ≡ (base + c) ∷ []
  side_first zero n c base e p = absurd (omega arith)
  side_first (suc k) n c base e p = go (λ n c base e p. side_first k n c base e p) (lt_or_le (2 ^ k) n)
    where
      go : ((n c base : ℕ) → n + suc c ≡ 2 ^ k → 0 < n → take 1 (side_positions t k n base) ≡ (base + c) ∷ [])
          → (2 ^ k < n) ⊎ (n ≤ 2 ^ k) → take 1 (side_positions t (suc k) n base) ≡ (base + c) ∷ []
      go ih (inl h) = rw (side_positions_late t k n base h) (ih (n - 2 ^ k) c base (omega arith) (omega arith))
      go ih (inr h) = by (eq-or-lt_of_le h)
        where
          by : (n ≡ 2 ^ k) ⊎ (n < 2 ^ k) → take 1 (side_positions t (suc k) n base) ≡ (base + c) ∷ []
          by (inl q) = let d : 2 ^ k - 1 ≡ c = omega arith in rw (side_positions_last t k n base q, held_first k n base q, d) refl
          by (inr q) =
              let d : base + 2 ^ k + (2 ^ k - n - 1) ≡ base + c = omega arith in
              rw (side_positions_both t k n base h)
              (first_append (side_positions t k n (base + 2 ^ k)) (held k (done t k n) base) (base + c)
              (ih n (2 ^ k - n - 1) (base + 2 ^ k) (omega arith) p ∙ ap (λ (x : ℕ). x ∷ []) d))

  pub positions_first : (k r c base : ℕ) → r + suc c ≡ 2 ^ suc k → 2 ^ k ≤ r → take 1 (positions t k r base) ≡ (base + c) ∷ []
  positions_first k r c base e h = go (eq-or-lt_of_le h)
    where
      go : (2 ^ k ≡ r) ⊎ (2 ^ k < r) → take 1 (positions t k r base) ≡ (base + c) ∷ []
      go (inl q) = let d : 2 ^ k - 1 ≡ c = omega arith in rw (positions_itself t k r base (omega arith), held_first k r base (sym q), d) refl
      go (inr q) = rw (positions_children t k r base q) (side_first k (r - 2 ^ k) c base (omega arith) (omega arith))
