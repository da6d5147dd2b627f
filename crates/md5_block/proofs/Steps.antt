-- Laws of the steps: the code's step is the definition's, and runs of steps join. Assumes nothing.
use Rattle.std.proofs.Common.{◌≡◌, ℕ, zero, suc, ◌+◌, ◌*◌, ◌%◌, ◌^◌, ◌<◌, Bool, ◌&&◌, eqb, ltb, List, [], ◌∷◌, get_or, sym, ap, ◌∙◌, add_assoc, arith, eqb→eq, ltb→lt, refl, mod-eq_of_lt, ◌-◌}
use Rattle.std.specs.Int.{w32, rotate_left as turn}
use native.Mathlib.Nat.{mod-add-mod}
use Rattle.tables.specs.Tabled.{Tabled, tabled, below, and_left, and_right}
use Rattle.md5_block.specs.declared.TheConstants.{ADD, ROT}
use Rattle.md5_block.specs.Md5.{by_round, mix, word_number, sine, additive, rotation, rotate_left, step, steps_from, words, added, block_of}

-- the strides by which the code finds the message word
abbrev pub stride : ℕ → ℕ
stride i = by_round i i ((5 * i + 1) % 16) ((3 * i + 5) % 16) (7 * i % 16)

strides : ℕ → Bool
strides i = eqb (stride i) (word_number i)

pub stride_is : (i : ℕ) → i < 64 → stride i ≡ word_number i
unfolding strides word_number
stride_is i h = eqb→eq (stride i) (word_number i) (below strides 64 tt i h)

turns : ℕ → Bool
turns i = ltb 0 (rotation i) && ltb (rotation i) 32

-- each step rotates by 1 to 31
pub rotation_range : (i : ℕ) → i < 64 → (0 < rotation i) × (rotation i < 32)
unfolding rotation turns
rotation_range i h =
    let t = below turns 64 tt i h in (
      ltb→lt 0 (rotation i) (and_left (ltb 0 (rotation i)) (ltb (rotation i) 32) t),
      ltb→lt (rotation i) 32 (and_right (ltb 0 (rotation i)) (ltb (rotation i) 32) t),
    )

-- sums that wrap one by one have wrapped once
wrap_once : (a b c d : ℕ) → (((a + b) % 2 ^ 32 + c) % 2 ^ 32 + d) % 2 ^ 32 ≡ (a + b + c + d) % 2 ^ 32
wrap_once a b c d = simp (mod-add-mod, add_assoc)

-- the library's rotation, which takes remainders that change nothing where it turns by 1 to 31
turned : (x n : ℕ) → (0 < n) × (n < 32) → turn w32 x n ≡ rotate_left x n
unfolding rotate_left
turned x n h =
    let p : n % 32 ≡ n = mod-eq_of_lt h.1 in
    let q : (32 - n) % 32 ≡ 32 - n = mod-eq_of_lt (omega arith) in
    rw (p, q) refl

-- the tables are those of the definition, as the checker computes at each entry
adds : Tabled 64 additive ADD
unfolding sine additive
adds = tabled tt

turns_by : Tabled 64 rotation ROT
unfolding rotation
turns_by = tabled tt

-- the code's step, a sum at a time, is the definition's
pub step_is : (x s : List ℕ) (i : ℕ) → i < 64
    → {f k r : ℕ}
    → f ≡ mix i (get_or s 1 0) (get_or s 2 0) (get_or s 3 0)
    → k ≡ word_number i
    → r ≡ turn w32 ((((get_or s 0 0 + f) % 2 ^ 32 + get_or x k 0) % 2 ^ 32 + get_or ADD i 0) % 2 ^ 32) (get_or ROT i 0)
    → get_or s 3 0 ∷ (get_or s 1 0 + r) % 2 ^ 32 ∷ get_or s 1 0 ∷ get_or s 2 0 ∷ [] ≡ step x s i
unfolding step
step_is x s i h {f} {k} {r} e₁ e₂ e₃ =
    rw (e₃, e₁, e₂, adds.at i h, turns_by.at i h, wrap_once, turned _ _ (rotation_range i h)) refl

-- m steps and n more
pub steps_add : (x s : List ℕ) (i m n : ℕ) → steps_from x s i (m + n) ≡ steps_from x (steps_from x s i m) (i + m) n
unfolding steps_from
steps_add x s i zero n =
    let e : zero + n ≡ n = omega arith in
    let f : i ≡ i + zero = omega arith in
    ap (steps_from x s i) e ∙ ap (λ (j : ℕ). steps_from x s j n) f
steps_add x s i (suc m) n =
    let e : suc m + n ≡ suc (m + n) = omega arith in
    let f : i + 1 + m ≡ i + suc m = omega arith in
    ap (steps_from x s i) e
    ∙ steps_add x (step x s i) (i + 1) m n
    ∙ ap (λ (j : ℕ). steps_from x (steps_from x (step x s i) (i + 1) m) j n) f

-- a run that goes on where another stopped
goes_on : (x s : List ℕ) (i m n : ℕ) {t : List ℕ} → t ≡ steps_from x s i m → steps_from x t (i + m) n ≡ steps_from x s i (m + n)
goes_on x s i m n e = ap (λ (l : List ℕ). steps_from x l (i + m) n) e ∙ sym (steps_add x s i m n)

-- four runs of m steps, one behind the other: at m = 1 and 4
pub four_runs : (x s : List ℕ) (i m : ℕ) {s₁ s₂ s₃ r : List ℕ}
    → s₁ ≡ steps_from x s i m
    → s₂ ≡ steps_from x s₁ (i + m) m
    → s₃ ≡ steps_from x s₂ (i + 2 * m) m
    → r ≡ steps_from x s₃ (i + 3 * m) m
    → r ≡ steps_from x s i (4 * m)
four_runs x s i m {s₁} {s₂} {s₃} {r} e₁ e₂ e₃ e₄ =
    let p : i + 3 * m ≡ i + 2 * m + m = omega arith in
    let q : i + 2 * m ≡ i + m + m = omega arith in
    let n : m + (m + (m + m)) ≡ 4 * m = omega arith in
    e₄
    ∙ ap (λ (j : ℕ). steps_from x s₃ j m) p
    ∙ goes_on x s₂ (i + 2 * m) m m e₃
    ∙ ap (λ (j : ℕ). steps_from x s₂ j (m + m)) q
    ∙ goes_on x s₁ (i + m) m (m + m) e₂
    ∙ goes_on x s i m (m + (m + m)) e₁
    ∙ ap (steps_from x s i) n

-- the rounds before number `round` and that one, which begins with step i
pub one_round_more : (x s : List ℕ) (round : ℕ) {t r : List ℕ} {i : ℕ}
    → t ≡ steps_from x s 0 (16 * round)
    → r ≡ steps_from x t i 16
    → i ≡ 16 * round
    → r ≡ steps_from x s 0 (16 * (round + 1))
one_round_more x s round {t} {r} {i} e f q =
    let p : i ≡ 0 + 16 * round = omega arith in
    let n : 16 * round + 16 ≡ 16 * (round + 1) = omega arith in
    f ∙ ap (λ (j : ℕ). steps_from x t j 16) p ∙ goes_on x s 0 (16 * round) 16 e ∙ ap (steps_from x s 0) n

-- the registers added to the state that came in
pub block_is : (s m t : List ℕ) {x : List ℕ}
    → x ≡ words m
    → t ≡ steps_from x s 0 64
    → added s t ≡ block_of s m
unfolding block_of
block_is s m t e f = ap (added s) (f ∙ ap (λ (y : List ℕ). steps_from y s 0 64) e)
