-- All that a card puts out in its whole run, in order: the positions 2^k - 1 down to 0, and the chain's values there. Assumes nothing.
use Rattle.std.specs.Prelude.{◌≡◌}
use Rattle.std.proofs.Math.Path.{refl}
use Rattle.std.proofs.Common.{◌∙◌, arith}
use mathlib.Core.List.{List, [], ◌∷◌, map, flat_map}
use Prim.Native.Nat.{ℕ, zero, suc, ◌+◌, ◌-◌, ◌^◌, ◌≤◌, ◌<◌}
use Rattle.std.proofs.Math.Pow.{pow_pos}
use Rattle.pebbling.specs.Recursion.{row, put_out, tick, before, chain}
use Rattle.pebbling.specs.SideBySide.{flat_map_append}
use Rattle.pebbling.specs.Turns.{tick_none}
use Rattle.pebbling.specs.HashesDone.{Fair}
use Rattle.pebbling.specs.PutOut.{put_out_none, put_out_one}
use Rattle.pebbling.specs.ChainRound.{tick_chain}
use Rattle.pebbling.specs.Totals.{row_append}

-- n - 1 down to 0
unfoldable pub countdown : ℕ → List ℕ
countdown zero = []
countdown (suc n) = n ∷ countdown n

-- what g gives in each of the rounds 1 to 2^(k+1) - 1 of a card, one after another
unfoldable pub over_rounds : {A : Type 0} → (ℕ → List A) → ℕ → List A
over_rounds g k = flat_map g (row (λ (r : ℕ). r) 1 (2 ^ suc k - 1))

module _ {A : Type 0} (g : ℕ → List A) where
  nothing : (a n : ℕ) → ((r : ℕ) → r < a + n → g r ≡ []) → flat_map g (row (λ (r : ℕ). r) a n) ≡ []
  unfolding row flat_map
  nothing a zero e = refl
  nothing a (suc n) e = rw (e a (omega arith), nothing (suc a) n (λ r h. e r (omega arith))) refl

  counted : (h : ℕ → A) (a n : ℕ) → ((r c : ℕ) → r + suc c ≡ a + n → a ≤ r → g r ≡ h c ∷ []) → flat_map g (row (λ (r : ℕ). r) a n) ≡ map h (countdown n)
  unfolding row flat_map countdown
  counted h a zero e = refl
  counted h a (suc n) e = rw (e a n (omega arith) (omega arith), counted h (suc a) n (λ r c p q. e r c (omega arith) (omega arith))) refl

  over_rounds_lem : (h : ℕ → A) (k : ℕ) → ((r : ℕ) → r < 2 ^ k → g r ≡ []) → ((r c : ℕ) → r + suc c ≡ 2 ^ suc k → 2 ^ k ≤ r → g r ≡ h c ∷ [])
      → over_rounds g k ≡ map h (countdown (2 ^ k))
  unfolding over_rounds
  over_rounds_lem h k quiet paying =
      let e : 2 ^ suc k - 1 ≡ (2 ^ k - 1) + 2 ^ k = omega (arith, pow_pos k) in
      let d : 1 + (2 ^ k - 1) ≡ 2 ^ k = omega (arith, pow_pos k) in
      rw (e, row_append (λ (r : ℕ). r) 1 (2 ^ k - 1) (2 ^ k), d, flat_map_append)
      (rw (nothing 1 (2 ^ k - 1) (λ r h. quiet r (omega arith)), counted h (2 ^ k) (2 ^ k) (λ r c p q. paying r c (omega arith) q)) refl)

map_same : (s : List ℕ) → map (λ (x : ℕ). x) s ≡ s
map_same [] = refl
map_same (x ∷ s) = rw (map_same s) refl

-- the positions
pub put_out_all : (k : ℕ) → over_rounds (λ (r : ℕ). put_out k r 0) k ≡ countdown (2 ^ k)
put_out_all k =
    over_rounds_lem (λ (r : ℕ). put_out k r 0) (λ (c : ℕ). c) k (λ r h. put_out_none k r 0 h)
    (λ r c e h. let z : 0 + c ≡ c = omega arith in put_out_one k r c 0 e h ∙ rw z refl)
    ∙ map_same (countdown (2 ^ k))

-- the values
pub tick_all : (t : ℕ → ℕ → ℕ) → Fair t → {A : Type 0} (f : A → A) (seed : A) (k : ℕ)
    → over_rounds (λ (r : ℕ). tick t k r (before t f k seed r)) k ≡ map (chain f seed) (countdown (2 ^ k))
tick_all t t_fair f seed k =
    over_rounds_lem (λ (r : ℕ). tick t k r (before t f k seed r)) (chain f seed) k (λ r h. tick_none t k r (before t f k seed r) h) (λ r c e h. tick_chain t t_fair f seed k r c e h)
