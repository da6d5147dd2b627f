-- The block function of MD5 over lists of natural numbers, in the order of RFC 1321, section 3.4.
-- A word is a number below 2 ^ 32, a block the list of its 64 bytes, a state the list of the words A, B, C, D.
-- Steps are counted from 0 to 63; the RFC counts them from 1. Assumes nothing.
use Rattle.std.specs.Prelude.{ℕ, zero, suc, ◌+◌, ◌-◌, ◌*◌, ◌/◌, ◌%◌, ◌^◌, cond, List, [], ◌∷◌, bit_and, bit_or, bit_xor, nat_lt, slice_index, slice_index_or}

-- not(X), bit by bit
abbrev pub not : ℕ → ℕ
not x = 2 ^ 32 - 1 - x

-- F(X,Y,Z) = XY v not(X) Z
abbrev pub F : ℕ → ℕ → ℕ → ℕ
F x y z = bit_or (bit_and x y) (bit_and (not x) z)

-- G(X,Y,Z) = XZ v Y not(Z)
abbrev pub G : ℕ → ℕ → ℕ → ℕ
G x y z = bit_or (bit_and x z) (bit_and y (not z))

-- H(X,Y,Z) = X xor Y xor Z
abbrev pub H : ℕ → ℕ → ℕ → ℕ
H x y z = bit_xor (bit_xor x y) z

-- I(X,Y,Z) = Y xor (X v not(Z))
abbrev pub I : ℕ → ℕ → ℕ → ℕ
I x y z = bit_xor y (bit_or x (not z))

-- what stands for the round of step i: sixteen steps a round
abbrev pub by_round : ℕ → ℕ → ℕ → ℕ → ℕ → ℕ
by_round i p q r s = cond (nat_lt i 16) p (cond (nat_lt i 32) q (cond (nat_lt i 48) r s))

unfoldable pub mix : ℕ → ℕ → ℕ → ℕ → ℕ
mix i b c d = by_round i (F b c d) (G b c d) (H b c d) (I b c d)

-- the column k of the RFC's lists [abcd k s i], a line for each round
unfoldable pub word_number : ℕ → ℕ
word_number i =
    slice_index_or
    (0 ∷ 1 ∷ 2 ∷ 3 ∷ 4 ∷ 5 ∷ 6 ∷ 7 ∷ 8 ∷ 9 ∷ 10 ∷ 11 ∷ 12 ∷ 13 ∷ 14 ∷ 15
    ∷ 1 ∷ 6 ∷ 11 ∷ 0 ∷ 5 ∷ 10 ∷ 15 ∷ 4 ∷ 9 ∷ 14 ∷ 3 ∷ 8 ∷ 13 ∷ 2 ∷ 7 ∷ 12
    ∷ 5 ∷ 8 ∷ 11 ∷ 14 ∷ 1 ∷ 4 ∷ 7 ∷ 10 ∷ 13 ∷ 0 ∷ 3 ∷ 6 ∷ 9 ∷ 12 ∷ 15 ∷ 2
    ∷ 0 ∷ 7 ∷ 14 ∷ 5 ∷ 12 ∷ 3 ∷ 10 ∷ 1 ∷ 8 ∷ 15 ∷ 6 ∷ 13 ∷ 4 ∷ 11 ∷ 2 ∷ 9 ∷ [])
    i
    0

-- the column s: four numbers a round, over and over
unfoldable pub rotation : ℕ → ℕ
rotation i =
    by_round i
    (slice_index (7 ∷ 12 ∷ 17 ∷ 22 ∷ []) (i % 4))
    (slice_index (5 ∷ 9 ∷ 14 ∷ 20 ∷ []) (i % 4))
    (slice_index (4 ∷ 11 ∷ 16 ∷ 23 ∷ []) (i % 4))
    (slice_index (6 ∷ 10 ∷ 15 ∷ 21 ∷ []) (i % 4))

abbrev pub factorial : ℕ → ℕ
factorial zero = 1
factorial (suc n) = suc n * factorial n

-- the size of a sum of n terms x - x^3/3! + x^5/5! - .., of which t is the next, of degree d: those that count with the sign of the
-- next one are added up in same, the others in other
abbrev pub alternating : ℕ → ℕ → ℕ → ℕ → ℕ → ℕ → ℕ
alternating x zero d t same other = (same - other) + (other - same)
alternating x (suc n) d t same other = alternating x n (d + 2) (t * (x * x) / ((d + 1) * (d + 2))) other (same + t)

-- the integer part of 4294967296 times abs(sin(x)), by the first n terms of its series, n up to 121. All is multiplied by 241!, so that
-- no quotient rounds. Why 120 terms are enough: proofs/Sine.antt
unfoldable pub sine : ℕ → ℕ → ℕ
sine n x = 2 ^ 32 * alternating x n 1 (x * factorial 241) 0 0 / factorial 241

-- T[i + 1]
unfoldable pub additive : ℕ → ℕ
additive i = sine 120 (i + 1)

-- X <<< s, for s from 1 to 31
unfoldable pub rotate_left : ℕ → ℕ → ℕ
rotate_left x s = bit_or (x * 2 ^ s % 2 ^ 32) (x / 2 ^ (32 - s))

-- a = b + ((a + F(b,c,d) + X[k] + T[i]) <<< s); the next step calls d, a, b, c by the names a, b, c, d
unfoldable pub step : List ℕ → List ℕ → ℕ → List ℕ
step x s i =
    let a = slice_index_or s 0 0 in
    let b = slice_index_or s 1 0 in
    let c = slice_index_or s 2 0 in
    let d = slice_index_or s 3 0 in
    let sum = (a + mix i b c d + slice_index x (word_number i) + additive i) % 2 ^ 32 in
    d ∷ (b + rotate_left sum (rotation i)) % 2 ^ 32 ∷ b ∷ c ∷ []

-- n steps, from step i on
unfoldable pub steps_from : List ℕ → List ℕ → ℕ → ℕ → List ℕ
steps_from x s i zero = s
steps_from x s i (suc n) = steps_from x (step x s i) (i + 1) n

-- word j of a block: four bytes, the low one first (section 2)
unfoldable pub word_at : List ℕ → ℕ → ℕ
word_at m j = slice_index m (4 * j) + 0x100 * slice_index m (4 * j + 1) + 0x1_0000 * slice_index m (4 * j + 2) + 0x100_0000 * slice_index m (4 * j + 3)

-- n words of a block, from word j on
unfoldable pub words_from : List ℕ → ℕ → ℕ → List ℕ
words_from m j zero = []
words_from m j (suc n) = word_at m j ∷ words_from m (j + 1) n

abbrev pub words : List ℕ → List ℕ
words m = words_from m 0 16

-- A = A + AA, and so for B, C and D
unfoldable pub added : List ℕ → List ℕ → List ℕ
added s t =
    (slice_index s 0 + slice_index t 0) % 2 ^ 32
    ∷ (slice_index s 1 + slice_index t 1) % 2 ^ 32
    ∷ (slice_index s 2 + slice_index t 2) % 2 ^ 32
    ∷ (slice_index s 3 + slice_index t 3) % 2 ^ 32
    ∷ []

-- the state after a block, from the state before it
unfoldable pub block_of : List ℕ → List ℕ → List ℕ
block_of s m = added s (steps_from (words m) s 0 64)
