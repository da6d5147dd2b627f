-- The cipher's result is sixteen bytes. Of the block nothing is asked: the last round begins with the S-box, whose entries are bytes
-- for any number. Of the key its sixteen entries must be bytes: the last round key is made of them and is added behind the S-box.
-- Assumes nothing.
use Rattle.std.specs.Prelude.{◌≡◌, refl, Bool, true, false, cond, List, [], ◌∷◌, ◌++◌, ℕ, zero, suc, ◌+◌, ◌-◌, ◌*◌, ◌/◌, ◌%◌, ◌^◌, ◌≤◌, ◌<◌, eqb, length, get_or}
use Rattle.std.proofs.Common.{mod-lt, le_of_suc-le-suc, mul-le-mul_right, pow-suc, arith}
use Rattle.std.proofs.lemmas.Nat.{xor_lt}
use Rattle.aes.specs.Aes.{tabulate, state, at, columns, ◌⊕◌, xtimes, product_of, ◌•◌, power_of, inverse, of_bits, affine_bit, affine, s_box, sub_bytes, shift_rows, add_round_key, rot_word, sub_word, xor_words, rcon, temp, expand, key_expansion, round_key, rounds, cipher}

pub cipher_length : (key input : List ℕ) → length (cipher key input) ≡ 16
unfolding cipher
cipher_length key input = refl

-- ---- lists

module _ {A : Type 0} (P : A → Type 0) (d : A) (h : P d) where
  -- what holds of each entry, and of what stands behind the end, holds at every index
  tabulate_all : (n : ℕ) (f : ℕ → A) → ((i : ℕ) → i < n → P (f i)) → (i : ℕ) → P (get_or (tabulate n f) i d)
  tabulate_all zero f p i = h
  tabulate_all (suc n) f p zero = p 0 (omega arith)
  tabulate_all (suc n) f p (suc i) = tabulate_all n (λ j. f (suc j)) (λ j l. p (suc j) (omega arith)) i

  snoc_all : (l : List A) (x : A) → ((i : ℕ) → P (get_or l i d)) → P x → (i : ℕ) → P (get_or (l ++ (x ∷ [])) i d)
  snoc_all [] x p q zero = q
  snoc_all [] x p q (suc i) = h
  snoc_all (y ∷ l) x p q zero = p zero
  snoc_all (y ∷ l) x p q (suc i) = snoc_all l x (λ j. p (suc j)) q i

-- each entry is a byte
abbrev Bytes : List ℕ → Type 0
Bytes a = (i : ℕ) → get_or a i 0 < 256

tabulate_bytes : (n : ℕ) (f : ℕ → ℕ) → ((i : ℕ) → f i < 256) → Bytes (tabulate n f)
tabulate_bytes n f p = tabulate_all (λ (b : ℕ). b < 256) 0 (omega arith) n f (λ i l. p i)

state_bytes : (f : ℕ → ℕ → ℕ) → ((r c : ℕ) → r < 4 → c < 4 → f r c < 256) → (r c : ℕ) → at (state f) r c < 256
state_bytes f p r c =
    tabulate_all Bytes [] (λ i. omega arith) 4 (λ c. tabulate 4 (λ r. f r c))
    (λ c m. tabulate_all (λ (b : ℕ). b < 256) 0 (omega arith) 4 (λ r. f r c) (λ r l. p r c l m)) c r

-- ---- the field

xtimes_byte : (b : ℕ) → b < 256 → xtimes b < 256
unfolding xtimes
xtimes_byte b h = xor_lt 8 (0x1b * (b / 128)) (b * 2 % 256) (omega arith) (omega arith)

product_byte : (n b c : ℕ) → c < 256 → product_of n b c < 256
product_byte zero b c h = omega arith
product_byte (suc n) b c h =
    let p : b % 2 * c ≤ 1 * c = mul-le-mul_right c (omega arith) in
    xor_lt 8 (b % 2 * c) (xtimes (product_of n (b / 2) c)) (omega arith) (xtimes_byte _ (product_byte n (b / 2) c h))

power_byte : (n b e : ℕ) → power_of n b e < 256
unfolding ◌•◌ power_of
power_byte zero b e = omega arith
power_byte (suc n) b e = product_byte 8 (cond (eqb (e % 2) 0) 1 b) _ (power_byte n (b • b) (e / 2))

of_bits_lt : (n : ℕ) (f : ℕ → ℕ) → ((i : ℕ) → f i < 2) → of_bits n f < 2 ^ n
of_bits_lt zero f p = omega arith
of_bits_lt (suc n) f p =
    let q : f n * 2 ^ n ≤ 1 * 2 ^ n = mul-le-mul_right (2 ^ n) (le_of_suc-le-suc (p n)) in
    rw (pow-suc 2 n) (omega (arith, of_bits_lt n f p))

s_box_byte : (b : ℕ) → s_box b < 256
unfolding s_box affine
s_box_byte b = of_bits_lt 8 (affine_bit (inverse b)) (λ i. mod-lt _ (omega arith))

-- ---- the key expansion

xor_words_bytes : (a b : List ℕ) → Bytes a → Bytes b → Bytes (xor_words a b)
unfolding xor_words
xor_words_bytes a b p q = tabulate_bytes 4 _ (λ i. xor_lt 8 (get_or a i 0) (get_or b i 0) (p i) (q i))

sub_word_bytes : (a : List ℕ) → Bytes (sub_word a)
unfolding sub_word
sub_word_bytes a = tabulate_bytes 4 _ (λ i. s_box_byte (get_or a i 0))

rcon_bytes : (j : ℕ) → Bytes (rcon j)
unfolding rcon
rcon_bytes j zero = power_byte 4 2 (j - 1)
rcon_bytes j (suc zero) = omega arith
rcon_bytes j (suc (suc zero)) = omega arith
rcon_bytes j (suc (suc (suc zero))) = omega arith
rcon_bytes j (suc (suc (suc (suc i)))) = omega arith

cond_bytes : (t : Bool) (a b : List ℕ) → Bytes a → Bytes b → Bytes (cond t a b)
cond_bytes true a b p q = p
cond_bytes false a b p q = q

temp_bytes : (i : ℕ) (last : List ℕ) → Bytes last → Bytes (temp i last)
unfolding temp
temp_bytes i last p =
    cond_bytes (eqb (i % 4) 0) _ last
    (xor_words_bytes (sub_word (rot_word last)) (rcon (i / 4)) (sub_word_bytes (rot_word last)) (rcon_bytes (i / 4)))
    p

expand_bytes : (key : List ℕ) → ((i : ℕ) → i < 16 → get_or key i 0 < 256) → (n i : ℕ) → Bytes (get_or (expand key n) i [])
unfolding expand
expand_bytes key p zero = λ c r. state_bytes (λ r c. get_or key (r + 4 * c) 0) (λ r c l m. p (r + 4 * c) (omega arith)) r c
expand_bytes key p (suc n) =
    let w = expand key n in
    let q = expand_bytes key p n in
    snoc_all Bytes [] (λ i. omega arith) w _
    q
    (xor_words_bytes (get_or w n []) (temp (n + 4) (get_or w (n + 3) [])) (q n) (temp_bytes (n + 4) (get_or w (n + 3) []) (q (n + 3))))

-- ---- the cipher

sub_bytes_bytes : (s : List (List ℕ)) (r c : ℕ) → at (sub_bytes s) r c < 256
unfolding sub_bytes
sub_bytes_bytes s = state_bytes (λ r c. s_box (at s r c)) (λ r c l m. s_box_byte (at s r c))

shift_rows_bytes : (s : List (List ℕ)) → ((r c : ℕ) → at s r c < 256) → (r c : ℕ) → at (shift_rows s) r c < 256
unfolding shift_rows
shift_rows_bytes s p = state_bytes (λ r c. at s r ((c + r) % 4)) (λ r c l m. p r ((c + r) % 4))

add_round_key_bytes : (s k : List (List ℕ)) → ((r c : ℕ) → at s r c < 256) → ((r c : ℕ) → at k r c < 256) → (r c : ℕ) → at (add_round_key s k) r c < 256
unfolding add_round_key
add_round_key_bytes s k p q = state_bytes (λ r c. at s r c ⊕ at k r c) (λ r c l m. xor_lt 8 (at s r c) (at k r c) (p r c) (q r c))

round_key_bytes : (w : List (List ℕ)) (round : ℕ) → ((r i : ℕ) → at w r i < 256) → (r c : ℕ) → at (round_key w round) r c < 256
unfolding round_key
round_key_bytes w round p r c =
    tabulate_all Bytes [] (λ i. omega arith) 4 (λ c. get_or w (4 * round + c) []) (λ c l r. p r (4 * round + c)) c r

pub cipher_bytes : (key input : List ℕ) → ((i : ℕ) → i < 16 → get_or key i 0 < 256) → (i : ℕ) → get_or (cipher key input) i 0 < 256
unfolding cipher key_expansion
cipher_bytes key input p =
    let k = round_key (key_expansion key) in
    let s = sub_bytes (rounds k (add_round_key (columns input) (k 0)) 9) in
    let q = round_key_bytes (key_expansion key) 10 (λ r i. expand_bytes key p 40 i r) in
    let t = add_round_key_bytes (shift_rows s) (k 10) (shift_rows_bytes s (sub_bytes_bytes _)) q in
    tabulate_bytes 16 _ (λ i. t (i % 4) (i / 4))
