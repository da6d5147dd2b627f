-- How many values are held under speed-1: no more than 2k - 2, or k + 1 where that is more. With c rounds left the pebblers that run are those of
-- the binary digits of c, and the bound is shown with the digits one by one. Assumes nothing.
use Rattle.std.specs.Prelude.{◌≡◌, refl, ◌⊎◌, ℕ, zero, suc, ◌+◌, ◌-◌, ◌*◌, ◌^◌, ◌≤◌, ◌<◌, max, length}
use Rattle.std.proofs.Common.{ap, ◌∙◌, inl, inr, eq-or-lt_of_le, arith, length-append}
use Rattle.pebbling.specs.Len.{lt_or_le, len, len_law, len_le, len_pow, len_unique}
use Rattle.pebbling.specs.Recursion.{done, held, positions, speed1}
use Rattle.pebbling.specs.SideBySide.{side_positions, positions_children, side_positions_both, side_positions_last, side_positions_late}
use Rattle.pebbling.specs.OnePebbler.{held_length}
use Rattle.pebbling.specs.HashesDone.{speed1_done}

held_count_lem : (k r c base : ℕ) → r + c ≡ 2 ^ k → 0 < r → length (held k (done speed1 k r) base) ≡ k + 2 - len (suc c)
unfolding done
held_count_lem k r c base e p =
    let d : 2 ^ k - (r - 1) ≡ suc c = omega arith in
    rw (speed1_done k (r - 1)) (rw d at (held_length k (r - 1) base (omega arith)))

-- either every digit of c is 1, and each of its pebblers holds one value, or at most 2 * len c - 2 are held
abbrev Few : ℕ → ℕ → Type 0
Few held c = ((suc c ≡ 2 ^ len c) × (held ≡ len c)) ⊎ (held + 2 ≤ 2 * len c)

-- one digit more at the front of c: P_k besides the others, which hold x
add_own : (k x c : ℕ) → 0 < c → c < 2 ^ k → Few x c → Few (x + (k + 2 - len (suc c))) (2 ^ k + c)
add_own k x c p h few = rw f (go few)
  where
    f : len (2 ^ k + c) ≡ suc k
    f = len_unique (2 ^ k + c) (suc k) (record { below = omega arith; least = omega arith })

    ones : (suc c ≡ 2 ^ len c) → (len c ≡ k) ⊎ (len c < k)
        → ((suc (2 ^ k + c) ≡ 2 ^ suc k) × (len c + (k + 2 - suc (len c)) ≡ suc k)) ⊎ (len c + (k + 2 - suc (len c)) + 2 ≤ 2 * suc k)
    ones e (inl g) = inl (omega (arith, ap (λ (y : ℕ). 2 ^ y) g), omega arith)
    ones e (inr g) = inr (omega arith)

    go : Few x c → ((suc (2 ^ k + c) ≡ 2 ^ suc k) × (x + (k + 2 - len (suc c)) ≡ suc k)) ⊎ (x + (k + 2 - len (suc c)) + 2 ≤ 2 * suc k)
    go (inl e) = rw (ap len e.0 ∙ len_pow (len c), e.1) (ones e.0 (eq-or-lt_of_le (len_le c k h)))
    go (inr g) = inr (omega (arith, len_le c k h, len_le c (len (suc c)) (omega (arith, len_law (suc c)))))

one_held : (k c : ℕ) → c ≡ 2 ^ k → Few (k + 2 - len 1) c
one_held zero c e = rw (e, len_pow 0) (inl (refl, refl))
one_held (suc k) c e = inr (omega (arith, ap len e ∙ len_pow (suc k), len_pow 0))

side_held : (k n c base : ℕ) → n + c ≡ 2 ^ k → 0 < n → 0 < c → Few (length (side_positions speed1 k n base)) c
side_held zero n c base e p q = absurd (omega arith)
side_held (suc k) n c base e p q = go (λ n c base e p q. side_held k n c base e p q) (lt_or_le (2 ^ k) n)
  where
    go : ((n c base : ℕ) → n + c ≡ 2 ^ k → 0 < n → 0 < c → Few (length (side_positions speed1 k n base)) c)
        → (2 ^ k < n) ⊎ (n ≤ 2 ^ k) → Few (length (side_positions speed1 (suc k) n base)) c
    go ih (inl l) = rw (side_positions_late speed1 k n base l) (ih (n - 2 ^ k) c base (omega arith) (omega arith) q)
    go ih (inr l) = by (eq-or-lt_of_le l)
      where
        by : (n ≡ 2 ^ k) ⊎ (n < 2 ^ k) → Few (length (side_positions speed1 (suc k) n base)) c
        by (inl g) = rw (side_positions_last speed1 k n base g, held_count_lem k n 0 base (omega arith) p) (one_held k c (omega arith))
        by (inr g) =
            let d : 2 ^ k + (2 ^ k - n) ≡ c = omega arith in
            rw (side_positions_both speed1 k n base l, length-append, held_count_lem k n (2 ^ k - n) base (omega arith) p)
            (rw d at (add_own k (length (side_positions speed1 k n (base + 2 ^ k))) (2 ^ k - n) (omega arith) (omega arith) (ih n (2 ^ k - n) (base + 2 ^ k) (omega arith) p (omega arith))))

-- what all hold together
pub positions_room_speed1 : (k r c base : ℕ) → r + c ≡ 2 ^ suc k → 2 ^ k < r → 0 < c → length (positions speed1 k r base) ≤ max (k + 1) (2 * k - 2)
positions_room_speed1 k r c base e h q = rw (positions_children speed1 k r base h) (go (side_held k (r - 2 ^ k) c base (omega arith) (omega arith) q))
  where
    go : Few (length (side_positions speed1 k (r - 2 ^ k) base)) c → length (side_positions speed1 k (r - 2 ^ k) base) ≤ max (k + 1) (2 * k - 2)
    go (inl g) = omega (arith, len_le c k (omega arith))
    go (inr g) = omega (arith, len_le c k (omega arith))
