-- What is not 0, 1 or 2 has the last name. Assumes nothing.
use mathlib.Core.Path.{◌≡◌, refl}
use Prim.Native.Nat.{ℕ, zero, suc}
use Rattle.printing.specs.Names.{bytes, name_of}

pub last_name : (s : ℕ) → (s ≡ 0 → ⊥) → (s ≡ 1 → ⊥) → (s ≡ 2 → ⊥) → bytes "optimal" ≡ name_of s
unfolding name_of
last_name zero a b c = absurd (a refl)
last_name (suc zero) a b c = absurd (b refl)
last_name (suc (suc zero)) a b c = absurd (c refl)
last_name (suc (suc (suc s))) a b c = refl
