-- The positions held fall strictly, and are positions of the card. Assumes nothing.
use Rattle.std.specs.Prelude.{◌≡◌, ◌⊎◌, List, [], ◌∷◌, ◌++◌, ℕ, zero, suc, ◌+◌, ◌-◌, ◌^◌, ◌≤◌, ◌<◌}
use Rattle.std.proofs.Common.{inl, inr, le_trans, arith, lt-ltb, le-ltb, pow_pos}
use Rattle.pebbling.specs.Len.{lt_or_le}
use Rattle.pebbling.specs.Recursion.{done, held, positions}
use Rattle.pebbling.specs.SideBySide.{side_positions, positions_itself, positions_children, side_positions_zero, side_positions_both, side_positions_late}
use Rattle.pebbling.specs.HashesDone.{Fair, done_lt}

-- each number is below the one before it, the first below `top`, and none is below `low`
abbrev pub Falling : ℕ → ℕ → List ℕ → Type 0
Falling top low [] = low ≤ top
Falling top low (x ∷ s) = (x < top) × Falling x low s

falling_append : (a b c : ℕ) (s r : List ℕ) → Falling a b s → Falling b c r → Falling a c (s ++ r)
falling_append a b c [] r h g = raise a b c r h g
  where
    raise : (a b c : ℕ) (r : List ℕ) → b ≤ a → Falling b c r → Falling a c r
    raise a b c [] h g = le_trans g h
    raise a b c (x ∷ r) h g = (le_trans g.0 h, g.1)
falling_append a b c (x ∷ s) r h g = (h.0, falling_append x b c s r h.1 g)

held_falls : (k h base : ℕ) → h < 2 ^ k → Falling (base + 2 ^ k) base (held k h base)
unfolding held
held_falls zero h base b = (omega arith, omega arith)
held_falls (suc k) zero base b = (omega (arith, pow_pos k), omega arith)
held_falls (suc k) (suc h) base b = go (λ c. held_falls k (suc h - 2 ^ k) (base + 2 ^ k) c) (lt_or_le (suc h) (2 ^ k))
  where
    go : (suc h - 2 ^ k < 2 ^ k → Falling (base + 2 ^ k + 2 ^ k) (base + 2 ^ k) (held k (suc h - 2 ^ k) (base + 2 ^ k)))
        → (suc h < 2 ^ k) ⊎ (2 ^ k ≤ suc h) → Falling (base + 2 ^ suc k) base (held (suc k) (suc h) base)
    go ih (inl l) = rw (lt-ltb (suc h) (2 ^ k) l) (omega arith, (omega arith, omega arith))
    go ih (inr l) =
        let e : base + 2 ^ suc k ≡ base + 2 ^ k + 2 ^ k = omega arith in
        rw (le-ltb (suc h) (2 ^ k) l, e)
        (falling_append (base + 2 ^ k + 2 ^ k) (base + 2 ^ k) base (held k (suc h - 2 ^ k) (base + 2 ^ k)) (base ∷ []) (ih (omega arith)) (omega (arith, pow_pos k), omega arith))

module _ (t : ℕ → ℕ → ℕ) (t_fair : Fair t) where
  side_falls : (k n base : ℕ) → Falling (base + 2 ^ k) base (side_positions t k n base)
  side_falls zero n base = rw (side_positions_zero t n base) (omega arith)
  side_falls (suc k) n base = go (λ n base. side_falls k n base) (lt_or_le (2 ^ k) n)
    where
      e : base + 2 ^ suc k ≡ base + 2 ^ k + 2 ^ k
      e = omega arith

      wider : (s : List ℕ) → Falling (base + 2 ^ k) base s → Falling (base + 2 ^ k + 2 ^ k) base s
      wider s h = falling_append (base + 2 ^ k + 2 ^ k) (base + 2 ^ k) base [] s (omega arith) h

      go : ((n base : ℕ) → Falling (base + 2 ^ k) base (side_positions t k n base))
          → (2 ^ k < n) ⊎ (n ≤ 2 ^ k) → Falling (base + 2 ^ suc k) base (side_positions t (suc k) n base)
      go ih (inl h) = rw (side_positions_late t k n base h, e) (wider (side_positions t k (n - 2 ^ k) base) (ih (n - 2 ^ k) base))
      go ih (inr h) =
          rw (side_positions_both t k n base h, e)
          (falling_append (base + 2 ^ k + 2 ^ k) (base + 2 ^ k) base (side_positions t k n (base + 2 ^ k)) (held k (done t k n) base)
          (ih n (base + 2 ^ k)) (held_falls k (done t k n) base (done_lt t t_fair k n h)))

  pub positions_fall : (k r base : ℕ) → Falling (base + 2 ^ k) base (positions t k r base)
  positions_fall k r base = go (lt_or_le (2 ^ k) r)
    where
      go : (2 ^ k < r) ⊎ (r ≤ 2 ^ k) → Falling (base + 2 ^ k) base (positions t k r base)
      go (inl h) = rw (positions_children t k r base h) (side_falls k (r - 2 ^ k) base)
      go (inr h) = rw (positions_itself t k r base h) (held_falls k (done t k r) base (done_lt t t_fair k r h))
