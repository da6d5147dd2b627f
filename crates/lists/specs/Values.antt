-- Values of w bytes each, standing one behind another from the front of a list: what is read of the list's first w * n bytes as n values.
-- Assumes nothing.
use Rattle.std.specs.Prelude.{◌≡◌, refl, List, [], ◌∷◌, ◌++◌, ℕ, zero, suc, ◌+◌, ◌*◌, ◌≤◌, ◌<◌, length, take, drop}
use Rattle.std.proofs.Common.{sym, ap, ◌∙◌, arith, drop-drop, take-take, take_at, drop_at, take-add}
use Rattle.std.proofs.lemmas.List.{take-append-le}
use Rattle.std.proofs.Math.Seq.{take-nil}

-- ---- definitions

-- the first n values of a list
unfoldable pub values : ℕ → ℕ → List ℕ → List (List ℕ)
values w zero bytes = []
values w (suc n) bytes = take w bytes ∷ values w n (drop w bytes)

-- the bytes of values, one value behind another
unfoldable pub joined : List (List ℕ) → List ℕ
joined [] = []
joined (v ∷ vs) = v ++ joined vs

-- a change of the first entry alone
unfoldable pub on_first : {A : Type 0} → (A → A) → List A → List A
on_first f [] = []
on_first f (y ∷ ys) = f y ∷ ys

-- ---- how many, and in two parts

pub values_length : (w n : ℕ) (bytes : List ℕ) → length (values w n bytes) ≡ n
unfolding values
values_length w zero bytes = refl
values_length w (suc n) bytes = ap suc (values_length w n (drop w bytes))

-- m + n values are m and the n behind them
pub values_add : (w m n : ℕ) (bytes : List ℕ) → values w (m + n) bytes ≡ values w m bytes ++ values w n (drop (w * m) bytes)
unfolding values
values_add w zero n bytes =
    let e : 0 + n ≡ n = omega arith in
    let z : w * 0 ≡ 0 = omega arith in
    rw (e, z) refl
values_add w (suc m) n bytes =
    let e : suc m + n ≡ suc (m + n) = omega arith in
    let d : w + w * m ≡ w * suc m = omega arith in
    rw (e, values_add w m n (drop w bytes), drop-drop, d) refl

pub values_take_first : (w m n : ℕ) (bytes : List ℕ) → take m (values w (m + n) bytes) ≡ values w m bytes
values_take_first w m n bytes =
    ap (take m) (values_add w m n bytes) ∙ take_at (values w m bytes) (values w n (drop (w * m) bytes)) m (values_length w m bytes)

pub values_drop_first : (w m n : ℕ) (bytes : List ℕ) → drop m (values w (m + n) bytes) ≡ values w n (drop (w * m) bytes)
values_drop_first w m n bytes =
    ap (drop m) (values_add w m n bytes) ∙ drop_at (values w m bytes) (values w n (drop (w * m) bytes)) m (values_length w m bytes)

-- ---- only the first w * n bytes count

pub drop-take : (m n : ℕ) (l : List ℕ) → drop m (take (m + n) l) ≡ take n (drop m l)
drop-take zero n l = let e : 0 + n ≡ n = omega arith in rw e refl
drop-take (suc m) n [] = let e : suc m + n ≡ suc (m + n) = omega arith in rw e (sym (take-nil n))
drop-take (suc m) n (x ∷ l) = let e : suc m + n ≡ suc (m + n) = omega arith in rw e (drop-take m n l)

behind_first : (w n : ℕ) (l : List ℕ) → drop w (take (w * suc n) l) ≡ take (w * n) (drop w l)
behind_first w n l = let e : w * suc n ≡ w + w * n = omega arith in rw e (drop-take w (w * n) l)

pub values_same : (w n : ℕ) (a b : List ℕ) → take (w * n) a ≡ take (w * n) b → values w n a ≡ values w n b
unfolding values
values_same w zero a b e = refl
values_same w (suc n) a b e =
    let h : take w a ≡ take w b =
    sym (take-take w (w * suc n) a (omega arith)) ∙ ap (take w) e ∙ take-take w (w * suc n) b (omega arith) in
    let t : take (w * n) (drop w a) ≡ take (w * n) (drop w b) = sym (behind_first w n a) ∙ ap (drop w) e ∙ behind_first w n b in
    rw (h, values_same w n (drop w a) (drop w b) t) refl

pub values_front : (w n : ℕ) (a rest : List ℕ) → w * n ≤ length a → values w n (a ++ rest) ≡ values w n a
values_front w n a rest h = values_same w n (a ++ rest) a (take-append-le (w * n) a rest h)

pub values_take : (w n m : ℕ) (a : List ℕ) → w * n ≤ m → values w n (take m a) ≡ values w n a
values_take w n m a h = values_same w n (take m a) a (take-take (w * n) m a h)

-- ---- the first value

-- a value in front of others
pub values_cons : (w n : ℕ) (y rest : List ℕ) → length y ≡ w → values w (suc n) (y ++ rest) ≡ y ∷ values w n rest
unfolding values
values_cons w n y rest l = rw (take_at y rest w l, drop_at y rest w l) refl

-- the first value changed in place
pub values_first : (w n : ℕ) (f : List ℕ → List ℕ) (y bytes : List ℕ) → 0 < n → length y ≡ w → y ≡ f (take w bytes)
    → values w n (y ++ drop w bytes) ≡ on_first f (values w n bytes)
unfolding values on_first
values_first w zero f y bytes p l e = absurd (omega arith)
values_first w (suc n) f y bytes p l e = rw (take_at y (drop w bytes) w l, drop_at y (drop w bytes) w l, e) refl

-- ---- cut and joined again

pub joined_values : (w n : ℕ) (bytes : List ℕ) → joined (values w n bytes) ≡ take (w * n) bytes
unfolding joined values
joined_values w zero bytes = let e : w * 0 ≡ 0 = omega arith in rw e refl
joined_values w (suc n) bytes =
    let e : w * suc n ≡ w + w * n = omega arith in
    rw (e, take-add w (w * n) bytes, joined_values w n (drop w bytes)) refl
