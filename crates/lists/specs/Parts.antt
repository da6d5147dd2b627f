-- Parts of a list that are lent and come back: `&s[a..]`, `&mut s[a..]` and `&mut s[a..e]` as takes and drops of the list. Assumes nothing.
use Rattle.std.specs.Prelude.{◌≡◌, refl, List, ◌++◌, ℕ, ◌+◌, ◌-◌, ◌≤◌, length, take, drop}
use Rattle.std.proofs.Common.{sym, ap, ◌∙◌, append-nil, arith, length-take, length-drop, length-append, drop_of_length-le, take_all, drop-drop, drop_at}
use borrow.Rule.Slice.PartMut.{put_mid}

-- ---- what is lent

-- `&s[a..]` is the list behind its first a entries
pub part_tail : (a : ℕ) (s : List ℕ) → take (length s - a) (drop a s) ≡ drop a s
part_tail a s = take_all (length s - a) (drop a s) (simp length-drop (omega arith))

pub part_length : (a e : ℕ) (s : List ℕ) → a ≤ e → e ≤ length s → length (take (e - a) (drop a s)) ≡ e - a
part_length a e s h l = simp (length-take, length-drop) (omega arith)

-- ---- the whole list, once the part came back as y

-- of `&mut s[a..]`
pub put_tail : (a : ℕ) (s y : List ℕ) → a ≤ length s → put_mid a (length s - a) s y ≡ take a s ++ y
put_tail a s y h =
    ap (λ (r : List ℕ). take a s ++ (y ++ r)) (drop_of_length-le (drop a s) {i = length s - a} (simp length-drop (omega arith)))
    ∙ ap (λ (r : List ℕ). take a s ++ r) (append-nil y)

-- of `&mut s[a..e]`
pub put_part : (a e : ℕ) (s y : List ℕ) → a ≤ e → put_mid a (e - a) s y ≡ take a s ++ (y ++ drop e s)
put_part a e s y h =
    let q : a + (e - a) ≡ e = omega arith in
    ap (λ (r : List ℕ). take a s ++ (y ++ r)) (drop-drop (e - a) a s ∙ ap (λ (n : ℕ). drop n s) q)

pub put_length : (a e : ℕ) (s y : List ℕ) → a ≤ e → e ≤ length s → length y ≡ e - a → length (take a s ++ (y ++ drop e s)) ≡ length s
put_length a e s y h l m = simp (length-append, length-take, length-drop) (omega arith)

-- ---- what stands in it then

-- from a on, and further behind
pub drop_put : (a : ℕ) (s y : List ℕ) → a ≤ length s → drop a (take a s ++ y) ≡ y
drop_put a s y h = drop_at (take a s) y a (simp length-take (omega arith))

pub drop_past : (a n : ℕ) (s y : List ℕ) → a ≤ length s → drop (a + n) (take a s ++ y) ≡ drop n y
drop_past a n s y h = sym (drop-drop n a (take a s ++ y)) ∙ ap (drop n) (drop_put a s y h)

pub drop_over : (n : ℕ) (y r : List ℕ) → drop (length y + n) (y ++ r) ≡ drop n r
drop_over n y r = sym (drop-drop n (length y) (y ++ r)) ∙ ap (drop n) (drop_at y r (length y) refl)
