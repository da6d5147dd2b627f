-- Laws of the message words: a list with word j at place j, for each j below 16, is the block's words. Assumes nothing.
use Rattle.std.proofs.Common.{◌≡◌, ℕ, zero, suc, ◌+◌, ◌<◌, List, length, get_or, sym, refl, ap, ◌∙◌, subst, arith, ext_get_or}
use Rattle.std.specs.Fn.{Called}
use Rattle.std.specs.Array.{IsFromFnResultFrom}
use denote.Param.Members.{Mut}
use Rattle.md5_block.specs.Md5.{word_at, words_from, words}

words_length : (m : List ℕ) (j n : ℕ) → length (words_from m j n) ≡ n
unfolding words_from
words_length m j zero = refl
words_length m j (suc n) = ap suc (words_length m (j + 1) n)

words_at : (m : List ℕ) (j n k : ℕ) → k < n → get_or (words_from m j n) k 0 ≡ word_at m (j + k)
unfolding words_from
words_at m j zero k h = absurd (omega arith)
words_at m j (suc n) zero h = let e : j ≡ j + zero = omega arith in ap (word_at m) e
words_at m j (suc n) (suc k) h =
    let e : j + 1 + k ≡ j + suc k = omega arith in
    words_at m (j + 1) n k (omega arith) ∙ ap (word_at m) e

pub all_words : (m x : List ℕ) → length x ≡ 16 → ((k : ℕ) → k < 16 → get_or x k 0 ≡ word_at m k) → x ≡ words m
all_words m x l f =
    ext_get_or 0 x (words m) (l ∙ sym (words_length m 0 16))
    (λ k h. let h' : k < 16 = omega arith in
    let e : 0 + k ≡ k = omega arith in
    f k h' ∙ ap (word_at m) (sym e) ∙ sym (words_at m 0 16 k h'))

-- what `array::from_fn` made, where each call gives h of its index and leaves the closure as it was
pub made_by : {F B : Type 0} (g : Mut F (ℕ × Unit {0}) B) (f : F) (h : ℕ → B) → ((k : ℕ) (y : B) (q : F) → Called g f (k, tt) y q → (y ≡ h k) × (q ≡ f))
    → (ys : List B) (i n : ℕ) → IsFromFnResultFrom g f ys i n → (k j : ℕ) (d : B) → k < n → i + k ≡ j → get_or ys j d ≡ h j
made_by g f h calls ys i zero m k j d l e = absurd (omega arith)
made_by g f h calls ys i (suc n) (q, y, at, c, m) zero j d l e =
    let z : i ≡ j = omega arith in
    rw (← z) (at.1 d ∙ (calls i y q c).0)
made_by {F} g f h calls ys i (suc n) (q, y, at, c, m) (suc k) j d l e =
    made_by g f h calls ys (i + 1) n (subst (λ (q : F). IsFromFnResultFrom g q ys (i + 1) n) (calls i y q c).1 m) k j d (omega arith) (omega arith)
