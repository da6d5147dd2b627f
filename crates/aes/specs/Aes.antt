-- AES-128 encryption of one block, section by section as FIPS 197 (its update of 2023) has it, over lists of natural numbers.
-- A byte is a number below 256; its bits are the coefficients of a polynomial. A word is the list of its four bytes, and a state is
-- the list of its four columns, each of them a word. Assumes nothing.
use Rattle.std.specs.Prelude.{cond, List, [], ◌∷◌, ◌++◌, ℕ, zero, suc, ◌+◌, ◌-◌, ◌*◌, ◌/◌, ◌%◌, ◌^◌, eqb, get_or}
use Rattle.std.specs.Int.Bits.{bit_xor}

-- f 0, f 1, .., f (n - 1)
abbrev pub tabulate {ℓ} : {A : Type ℓ} → ℕ → (ℕ → A) → List A
tabulate zero f = []
tabulate (suc n) f = f 0 ∷ tabulate n (λ i. f (suc i))

-- ---- 3.4, the state

-- the state that has f r c in row r and column c
abbrev pub state : (ℕ → ℕ → ℕ) → List (List ℕ)
state f = tabulate 4 (λ c. tabulate 4 (λ r. f r c))

-- s[r,c]
abbrev pub at : List (List ℕ) → ℕ → ℕ → ℕ
at s r c = get_or (get_or s c []) r 0

-- sixteen bytes as a state, s[r,c] = in[r + 4c]; or as four words
abbrev pub columns : List ℕ → List (List ℕ)
columns input = state (λ r c. get_or input (r + 4 * c) 0)

-- a state as sixteen bytes, out[r + 4c] = s[r,c]
abbrev pub bytes : List (List ℕ) → List ℕ
bytes s = tabulate 16 (λ i. at s (i % 4) (i / 4))

-- ---- 4, the field

-- 4.1: the sum
infixl 65 ◌⊕◌
abbrev pub ◌⊕◌ : ℕ → ℕ → ℕ
a ⊕ b = bit_xor a b

-- 4.2: the product with x. The bit that moves out is x^8, and that is x^4 + x^3 + x + 1, the byte 0x1b
unfoldable pub xtimes : ℕ → ℕ
xtimes b = 0x1b * (b / 128) ⊕ b * 2 % 256

-- 4.2: the product of b and c, if b has n bits
abbrev pub product_of : ℕ → ℕ → ℕ → ℕ
product_of zero b c = 0
product_of (suc n) b c = b % 2 * c ⊕ xtimes (product_of n (b / 2) c)

-- 4.2: the product
infixl 70 ◌•◌
unfoldable pub ◌•◌ : ℕ → ℕ → ℕ
b • c = product_of 8 b c

-- b to the power e, if e has n bits
unfoldable pub power_of : ℕ → ℕ → ℕ → ℕ
power_of zero b e = 1
power_of (suc n) b e = cond (eqb (e % 2) 0) 1 b • power_of n (b • b) (e / 2)

-- 4.4: the inverse of b, which is b to the power 254; 0 for 0
unfoldable pub inverse : ℕ → ℕ
inverse b = power_of 8 b 254

-- ---- 5.1.1, SubBytes

-- bit i of b
abbrev pub bit : ℕ → ℕ → ℕ
bit b i = b / 2 ^ i % 2

-- the number whose n bits are f 0, f 1, .., f (n - 1)
abbrev pub of_bits : ℕ → (ℕ → ℕ) → ℕ
of_bits zero f = 0
of_bits (suc n) f = of_bits n f + f n * 2 ^ n

-- the affine map, first its bit i; 0x63 is the page's c
abbrev pub affine_bit : ℕ → ℕ → ℕ
affine_bit b i = (bit b i + bit b ((i + 4) % 8) + bit b ((i + 5) % 8) + bit b ((i + 6) % 8) + bit b ((i + 7) % 8) + bit 0x63 i) % 2

unfoldable pub affine : ℕ → ℕ
affine b = of_bits 8 (affine_bit b)

unfoldable pub s_box : ℕ → ℕ
s_box b = affine (inverse b)

unfoldable pub sub_bytes : List (List ℕ) → List (List ℕ)
sub_bytes s = state (λ r c. s_box (at s r c))

-- ---- 5.1.2, ShiftRows

unfoldable pub shift_rows : List (List ℕ) → List (List ℕ)
shift_rows s = state (λ r c. at s r ((c + r) % 4))

-- ---- 5.1.3, MixColumns

-- one column
unfoldable pub mix_column : List ℕ → List ℕ
mix_column s =
    let s₀ = get_or s 0 0 in
    let s₁ = get_or s 1 0 in
    let s₂ = get_or s 2 0 in
    let s₃ = get_or s 3 0 in
    (2 • s₀ ⊕ 3 • s₁ ⊕ s₂ ⊕ s₃) ∷ (s₀ ⊕ 2 • s₁ ⊕ 3 • s₂ ⊕ s₃) ∷ (s₀ ⊕ s₁ ⊕ 2 • s₂ ⊕ 3 • s₃) ∷ (3 • s₀ ⊕ s₁ ⊕ s₂ ⊕ 2 • s₃) ∷ []

unfoldable pub mix_columns : List (List ℕ) → List (List ℕ)
mix_columns s = tabulate 4 (λ c. mix_column (get_or s c []))

-- ---- 5.1.4, AddRoundKey

-- k is four words of the expanded key
unfoldable pub add_round_key : List (List ℕ) → List (List ℕ) → List (List ℕ)
add_round_key s k = state (λ r c. at s r c ⊕ at k r c)

-- ---- 5.2, KeyExpansion

unfoldable pub rot_word : List ℕ → List ℕ
rot_word a = tabulate 4 (λ i. get_or a ((i + 1) % 4) 0)

unfoldable pub sub_word : List ℕ → List ℕ
sub_word a = tabulate 4 (λ i. s_box (get_or a i 0))

unfoldable pub xor_words : List ℕ → List ℕ → List ℕ
xor_words a b = tabulate 4 (λ i. get_or a i 0 ⊕ get_or b i 0)

-- table 5: x to the power j - 1, and three zeros
unfoldable pub rcon : ℕ → List ℕ
rcon j = power_of 4 2 (j - 1) ∷ 0 ∷ 0 ∷ 0 ∷ []

-- what is added to w[i - 4] to make w[i]; last is w[i - 1]
unfoldable pub temp : ℕ → List ℕ → List ℕ
temp i last = cond (eqb (i % 4) 0) (xor_words (sub_word (rot_word last)) (rcon (i / 4))) last

-- w[0] to w[n + 3]: the four words of the key, and n words more
unfoldable pub expand : List ℕ → ℕ → List (List ℕ)
expand key zero = columns key
expand key (suc n) =
    let w = expand key n in
    w ++ (xor_words (get_or w n []) (temp (n + 4) (get_or w (n + 3) [])) ∷ [])

-- w[0] to w[43]
unfoldable pub key_expansion : List ℕ → List (List ℕ)
key_expansion key = expand key 40

-- the words that a round adds, w[4 * round] to w[4 * round + 3]
unfoldable pub round_key : List (List ℕ) → ℕ → List (List ℕ)
round_key w round = tabulate 4 (λ c. get_or w (4 * round + c) [])

-- ---- 5.1, Cipher

-- the state after rounds 1 to n, all with MixColumns; k j is the key of round j
unfoldable pub rounds : (ℕ → List (List ℕ)) → List (List ℕ) → ℕ → List (List ℕ)
rounds k s zero = s
rounds k s (suc n) = add_round_key (mix_columns (shift_rows (sub_bytes (rounds k s n)))) (k (suc n))

-- the initial AddRoundKey, nine rounds, and a last one without MixColumns
unfoldable pub cipher : List ℕ → List ℕ → List ℕ
cipher key input =
    let k = round_key (key_expansion key) in
    bytes (add_round_key (shift_rows (sub_bytes (rounds k (add_round_key (columns input) (k 0)) 9))) (k 10))
