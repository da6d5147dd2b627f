-- The schedules' names, and a quoted text as bytes. Assumes nothing.
use Rattle.std.specs.Prelude.{List, [], ◌∷◌, ℕ, zero, suc}
use Prim.Native.Char.{code}
use Prim.Native.String.{String, [] as none, ◌∷◌ as ◌then◌}

-- the bytes of a quoted text
unfoldable pub bytes : String → List ℕ
bytes none = []
bytes (c then cs) = code c ∷ bytes cs

unfoldable pub name_of : ℕ → List ℕ
name_of zero = bytes "rushing"
name_of (suc zero) = bytes "speed-1"
name_of (suc (suc zero)) = bytes "speed-2"
name_of (suc (suc (suc s))) = bytes "optimal"
