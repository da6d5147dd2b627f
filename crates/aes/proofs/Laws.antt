-- Laws of the rounds: small products in the field, and the rounds one by one. Assumes nothing.
use mathlib.Core.Path.{◌≡◌, refl, ap₂}
use mathlib.Core.List.{List}
use Prim.Native.Nat.{ℕ, zero, suc, ◌+◌, ◌≤◌}
use native.Mathlib.Nat.{zero-mul, one-mul}
use native.Mathlib.Omega.{arith}
use lib.Bits.{xor_zero_r}
use Rattle.aes.specs.Aes.{◌⊕◌, ◌•◌, xtimes, sub_bytes, shift_rows, mix_columns, add_round_key, rounds}

-- a product with 2 is one with x, and a product with 3 is that and the byte
pub twice : (b : ℕ) → 2 • b ≡ xtimes b
unfolding ◌•◌ xtimes
twice b = simp (zero-mul, one-mul, xor_zero_r)

pub thrice : (b : ℕ) → 3 • b ≡ b ⊕ xtimes b
unfolding ◌•◌ xtimes
thrice b = simp (zero-mul, one-mul, xor_zero_r)

-- one round more
pub rounds_next : (k : ℕ → List (List ℕ)) (s t r : List (List ℕ)) (n : ℕ)
    → t ≡ rounds k s n
    → r ≡ add_round_key (mix_columns (shift_rows (sub_bytes t))) (k (n + 1))
    → r ≡ rounds k s (n + 1)
unfolding rounds
rounds_next k s t r n e f =
    let p : n + 1 ≡ suc n = omega arith in
    let g : r ≡ add_round_key (mix_columns (shift_rows (sub_bytes t))) (k (suc n)) = rw p at f in
    rw (p, ← e) g

-- the rounds ask only for the keys that they add
pub rounds_same : (k k' : ℕ → List (List ℕ)) (s : List (List ℕ)) (n : ℕ) → ((j : ℕ) → j ≤ n → k j ≡ k' j) → rounds k s n ≡ rounds k' s n
unfolding rounds
rounds_same k k' s zero h = refl
rounds_same k k' s (suc n) h =
    ap₂ (λ (t u : List (List ℕ)). add_round_key (mix_columns (shift_rows (sub_bytes t))) u)
    (rounds_same k k' s n (λ j l. h j (omega arith)))
    (h (suc n) (omega arith))
