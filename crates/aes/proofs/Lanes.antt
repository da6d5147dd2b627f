-- Laws of the lanes. A sum, a mask, a product with x and a turn go lane by lane, since the bit operations work on blocks of digits apart;
-- so what the code does to one number is what the definitions do to four bytes. Assumes nothing.
use mathlib.Core.Path.{◌≡◌, refl, sym, ap, ap₂, ◌∙◌}
use mathlib.Core.List.{List, [], ◌∷◌}
use Prim.Native.Nat.{ℕ, zero, suc, ◌+◌, ◌*◌, ◌/◌, ◌%◌, ◌^◌, ◌<◌}
use native.Mathlib.Nat.{le_of_suc-le-suc, not-suc-le-zero, mod-eq_of_lt}
use native.Mathlib.Omega.{arith}
use lib.Arith.{bin_ind}
use lib.Bits.{bit_and, bit_or, bit_xor, differ, xor_step, xor_shr, xor_mod, xor_comm, xor_lt, xor_block, and_block, and_mask, and_high, or_shifted}
use lib.Pow.{low}
use lib.ListN.{get_or}
use Rattle.aes.specs.Aes.{◌⊕◌, xtimes, mix_column}
use Rattle.std.specs.Int.{w32, rotate_right, from_le_bytes, to_le_bytes}
use Rattle.std.proofs.lemmas.Nat.{or_comm}
use Rattle.aes.specs.Lanes.{word, Lanes, double}
use Rattle.aes.proofs.Laws.{twice, thrice}

-- ---- sums in another order

-- what holds of both digits holds of a digit
digit : (P : ℕ → Type 0) → P 0 → P 1 → (x : ℕ) → x < 2 → P x
digit P p q zero h = p
digit P p q (suc zero) h = q
digit P p q (suc (suc x)) h = absurd (not-suc-le-zero (le_of_suc-le-suc (le_of_suc-le-suc h)))

digit_assoc : (x y z : ℕ) → x < 2 → y < 2 → z < 2 → differ (x ⊕ y) z ≡ differ x (y ⊕ z)
digit_assoc x y z h k l =
    digit (λ (x : ℕ). differ (x ⊕ y) z ≡ differ x (y ⊕ z))
    (digit (λ (y : ℕ). differ (0 ⊕ y) z ≡ differ 0 (y ⊕ z)) refl (digit (λ (z : ℕ). differ (0 ⊕ 1) z ≡ differ 0 (1 ⊕ z)) refl refl z l) y k)
    (digit (λ (y : ℕ). differ (1 ⊕ y) z ≡ differ 1 (y ⊕ z)) refl (digit (λ (z : ℕ). differ (1 ⊕ 1) z ≡ differ 1 (1 ⊕ z)) refl refl z l) y k)
    x h

xor_assoc : (a b c : ℕ) → a ⊕ b ⊕ c ≡ a ⊕ (b ⊕ c)
xor_assoc =
    bin_ind (λ (a : ℕ). (b c : ℕ) → a ⊕ b ⊕ c ≡ a ⊕ (b ⊕ c)) (λ b c. refl)
    (λ a ih b c.
    xor_step (a ⊕ b) c
    ∙ ap₂ (λ (x y : ℕ). (x ⊕ c / 2) * 2 + differ y (c % 2)) (xor_shr a b 1) (xor_mod a b 1)
    ∙ ap₂ (λ (x y : ℕ). x * 2 + y) (ih (b / 2) (c / 2)) (digit_assoc (a % 2) (b % 2) (c % 2) (omega arith) (omega arith) (omega arith))
    ∙ sym (ap₂ (λ (x y : ℕ). (a / 2 ⊕ x) * 2 + differ (a % 2) y) (xor_shr b c 1) (xor_mod b c 1))
    ∙ sym (xor_step a (b ⊕ c)))

-- the last of four to the front
front : (a b c d : ℕ) → a ⊕ b ⊕ c ⊕ d ≡ d ⊕ a ⊕ b ⊕ c
front a b c d = xor_comm (a ⊕ b ⊕ c) d ∙ sym (xor_assoc d (a ⊕ b) c) ∙ ap (λ (x : ℕ). x ⊕ c) (sym (xor_assoc d a b))

-- ---- bit operations lane by lane

module _ (op : ℕ → ℕ → ℕ)
    (block : (k a b r s : ℕ) → r < 2 ^ k → s < 2 ^ k → op (a * 2 ^ k + r) (b * 2 ^ k + s) ≡ op a b * 2 ^ k + op r s) where
  each : {w a b c d w' a' b' c' d' : ℕ} → Lanes w a b c d → Lanes w' a' b' c' d' → op w w' ≡ word (op a a') (op b b') (op c c') (op d d')
  each {w} {a} {b} {c} {d} {w'} {a'} {b'} {c'} {d'} l m =
      ap₂ op l.is m.is
      ∙ block 8 ((d * 256 + c) * 256 + b) ((d' * 256 + c') * 256 + b') a a' l.a_byte m.a_byte
      ∙ ap (λ (x : ℕ). x * 256 + op a a')
      (block 8 (d * 256 + c) (d' * 256 + c') b b' l.b_byte m.b_byte
      ∙ ap (λ (x : ℕ). x * 256 + op b b') (block 8 d d' c c' l.c_byte m.c_byte))

pub xor_lanes : {w a b c d w' a' b' c' d' : ℕ} → Lanes w a b c d → Lanes w' a' b' c' d' → Lanes (w ⊕ w') (a ⊕ a') (b ⊕ b') (c ⊕ c') (d ⊕ d')
xor_lanes l m =
    record {
      is = each bit_xor xor_block l m;
      a_byte = xor_lt 8 _ _ l.a_byte m.a_byte;
      b_byte = xor_lt 8 _ _ l.b_byte m.b_byte;
      c_byte = xor_lt 8 _ _ l.c_byte m.c_byte;
      d_byte = xor_lt 8 _ _ l.d_byte m.d_byte;
    }

-- a number with the same byte in each lane
mask : (m : ℕ) → m < 256 → Lanes (word m m m m) m m m m
mask m h = record { is = refl; a_byte = h; b_byte = h; c_byte = h; d_byte = h }

-- the high bit of a byte, its other bits, and these in a product with 2
high : (a : ℕ) → a < 256 → bit_and a 128 ≡ a / 128 * 128
high a h = let e : a / 128 % 2 * 128 ≡ a / 128 * 128 = omega arith in and_high a 1 7 ∙ e

others : (a : ℕ) → bit_and a 127 ≡ a % 128
others a = and_mask a 7

moved : (a : ℕ) → a * 2 % 256 ≡ a % 128 * 2
moved a = omega arith

-- the two terms of the product with x, in each lane
highs : {w a b c d : ℕ} → Lanes w a b c d → Lanes (0x1b * (bit_and w 0x80808080 / 128)) (0x1b * (a / 128)) (0x1b * (b / 128)) (0x1b * (c / 128)) (0x1b * (d / 128))
highs {w} {a} {b} {c} {d} l =
    let e : bit_and w 0x80808080 ≡ word (a / 128 * 128) (b / 128 * 128) (c / 128 * 128) (d / 128 * 128) =
    each bit_and and_block l (mask 0x80 (omega arith)) ∙ rw (high a l.a_byte, high b l.b_byte, high c l.c_byte, high d l.d_byte) in
    record { is = omega arith; a_byte = omega arith; b_byte = omega arith; c_byte = omega arith; d_byte = omega arith }

lows : {w a b c d : ℕ} → Lanes w a b c d → Lanes (bit_and w 0x7f7f7f7f * 2 % 2 ^ 32) (a * 2 % 256) (b * 2 % 256) (c * 2 % 256) (d * 2 % 256)
lows {w} {a} {b} {c} {d} l =
    let e : bit_and w 0x7f7f7f7f ≡ word (a % 128) (b % 128) (c % 128) (d % 128) =
    each bit_and and_block l (mask 0x7f (omega arith)) ∙ rw (others a, others b, others c, others d) in
    let f : bit_and w 0x7f7f7f7f * 2 % 2 ^ 32 ≡ word (a % 128 * 2) (b % 128 * 2) (c % 128 * 2) (d % 128 * 2) = mod-eq_of_lt (omega arith) ∙ omega arith in
    record {
      is = rw (moved a, moved b, moved c, moved d) f;
      a_byte = omega arith;
      b_byte = omega arith;
      c_byte = omega arith;
      d_byte = omega arith;
    }

pub double_lanes : {w a b c d : ℕ} → Lanes w a b c d → Lanes (double w) (xtimes a) (xtimes b) (xtimes c) (xtimes d)
unfolding double xtimes
double_lanes l = xor_lanes (highs l) (lows l)

-- ---- lanes that move

abbrev turn : ℕ → ℕ
turn w = rotate_right w32 w 8

pub turn_lanes : {w a b c d : ℕ} → Lanes w a b c d → Lanes (rotate_right w32 w 8) b c d a
turn_lanes {w} {a} {b} {c} {d} l =
    let e : w * 2 ^ 24 % 2 ^ 32 ≡ a * 2 ^ 24 = omega (arith, l) in
    let f : w / 2 ^ 8 ≡ (d * 256 + c) * 256 + b = omega (arith, l) in
    let g : bit_or (a * 2 ^ 24) (w / 2 ^ 8) ≡ a * 2 ^ 24 + w / 2 ^ 8 = or_shifted a 24 (w / 2 ^ 8) (omega (arith, l)) in
    record {
      is = or_comm (w / 2 ^ 8) (w * 2 ^ 24 % 2 ^ 32) ∙ ap (λ (x : ℕ). bit_or x (w / 2 ^ 8)) e ∙ g ∙ omega arith;
      a_byte = l.b_byte;
      b_byte = l.c_byte;
      c_byte = l.d_byte;
      d_byte = l.a_byte;
    }

-- ---- a word as a number, and back

pub packed : (s : List ℕ) → ((i : ℕ) → get_or s i 0 < 256) → Lanes (from_le_bytes w32 s) (get_or s 0 0) (get_or s 1 0) (get_or s 2 0) (get_or s 3 0)
packed s h = record { is = omega arith; a_byte = h 0; b_byte = h 1; c_byte = h 2; d_byte = h 3 }

pub lanes_are : {w a b c d : ℕ} → Lanes w a b c d → to_le_bytes w32 w ≡ a ∷ b ∷ c ∷ d ∷ []
lanes_are {w} {a} {b} {c} {d} l =
    let e : w / 0x100 ≡ (d * 256 + c) * 256 + b = omega arith in
    let f : w / 0x10000 ≡ d * 256 + c = omega arith in
    let g : w / 0x1000000 ≡ d = omega arith in
    rw (e, f, g, l.is, low ((d * 256 + c) * 256 + b) 8 l.a_byte, low (d * 256 + c) 8 l.b_byte, low d 8 l.c_byte, mod-eq_of_lt l.d_byte)

-- ---- a column mixed

-- row r has the definition's terms, the r terms of the rows before it last; each comes to the front
pub mixed : (s : List ℕ) {w : ℕ} → Lanes w (get_or s 0 0) (get_or s 1 0) (get_or s 2 0) (get_or s 3 0)
    → to_le_bytes w32 (double w ⊕ (turn w ⊕ turn (double w)) ⊕ turn (turn w) ⊕ turn (turn (turn w))) ≡ mix_column s
unfolding mix_column
mixed s l =
    let s₀ = get_or s 0 0 in
    let s₁ = get_or s 1 0 in
    let s₂ = get_or s 2 0 in
    let s₃ = get_or s 3 0 in
    let d = double_lanes l in
    let t = turn_lanes l in
    let u = turn_lanes t in
    lanes_are (xor_lanes (xor_lanes (xor_lanes d (xor_lanes t (turn_lanes d))) u) (turn_lanes u))
    ∙ simp (twice, thrice)
    (rw (
      front (xtimes s₁) (s₂ ⊕ xtimes s₂) s₃ s₀,
      front (xtimes s₂) (s₃ ⊕ xtimes s₃) s₀ s₁,
      front s₁ (xtimes s₂) (s₃ ⊕ xtimes s₃) s₀,
      front (xtimes s₃) (s₀ ⊕ xtimes s₀) s₁ s₂,
      front s₂ (xtimes s₃) (s₀ ⊕ xtimes s₀) s₁,
      front s₁ s₂ (xtimes s₃) (s₀ ⊕ xtimes s₀),
    ))
