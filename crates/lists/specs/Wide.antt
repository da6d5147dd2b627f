-- Values that each have w bytes: of parts and sums of such lists, of what is cut from bytes, and of what is joined and cut again. Assumes nothing.
use Rattle.std.specs.Prelude.{◌≡◌, length, take, drop}
use Rattle.std.proofs.Math.Path.{refl}
use Rattle.std.proofs.Common.{◌∙◌, length-take-le}
use mathlib.Core.List.{List, [], ◌∷◌, ◌++◌, map, append_assoc}
use Prim.Native.Nat.{ℕ, zero, suc, ◌*◌, ◌≤◌}
use native.Mathlib.Omega.{arith}
use Rattle.std.proofs.Math.ListN.{length-append, length-drop}
use Rattle.std.proofs.Math.Seq.{take_at, drop_at}
use Rattle.lists.specs.Values.{values, joined}

-- each value has w bytes
pub data Wide (w : ℕ) : List (List ℕ) → Type 0 where
  none : Wide w []
  more : {v : List ℕ} {vs : List (List ℕ)} → length v ≡ w → Wide w vs → Wide w (v ∷ vs)

module _ (w : ℕ) where
  -- ---- parts and sums

  pub wide_append : (us vs : List (List ℕ)) → Wide w us → Wide w vs → Wide w (us ++ vs)
  wide_append [] vs none b = b
  wide_append (u ∷ us) vs (more l a) b = more l (wide_append us vs a b)

  pub wide_take : (n : ℕ) (vs : List (List ℕ)) → Wide w vs → Wide w (take n vs)
  wide_take zero vs a = none
  wide_take (suc n) [] a = none
  wide_take (suc n) (v ∷ vs) (more l a) = more l (wide_take n vs a)

  pub wide_drop : (n : ℕ) (vs : List (List ℕ)) → Wide w vs → Wide w (drop n vs)
  wide_drop zero vs a = a
  wide_drop (suc n) [] a = none
  wide_drop (suc n) (v ∷ vs) (more l a) = wide_drop n vs a

  pub wide_map : {A : Type 0} (g : A → List ℕ) → ((x : A) → length (g x) ≡ w) → (s : List A) → Wide w (map g s)
  wide_map g e [] = none
  wide_map g e (x ∷ s) = more (e x) (wide_map g e s)

  -- ---- cut and joined

  -- what is cut from bytes that are long enough
  pub wide_values : (n : ℕ) (bytes : List ℕ) → w * n ≤ length bytes → Wide w (values w n bytes)
  unfolding values
  wide_values zero bytes h = none
  wide_values (suc n) bytes h =
      more (length-take-le w bytes (omega arith)) (wide_values n (drop w bytes) (simp length-drop (omega arith)))

  -- joined, they take w bytes each, and are cut out again
  pub joined_wide : (vs : List (List ℕ)) → Wide w vs → length (joined vs) ≡ w * length vs
  unfolding joined
  joined_wide [] none = omega arith
  joined_wide (v ∷ vs) (more l a) = length-append v (joined vs) ∙ omega (arith, joined_wide vs a)

  pub joined_cut : (vs : List (List ℕ)) (rest : List ℕ) → Wide w vs → values w (length vs) (joined vs ++ rest) ≡ vs
  unfolding joined values
  joined_cut [] rest none = refl
  joined_cut (v ∷ vs) rest (more l a) =
      rw (append_assoc, take_at v (joined vs ++ rest) w l, drop_at v (joined vs ++ rest) w l, joined_cut vs rest a) refl
