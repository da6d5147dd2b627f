-- The search of an offer: the fewest steps, from 1 to a limit, that lead from a value to the one held. Assumes nothing.
use Rattle.std.specs.Prelude.{Bool, cond, List, ℕ, zero, suc}
use Rattle.lists.specs.Same.{same}
use Rattle.pebbling.specs.Recursion.{chain}
use Rattle.std.specs.Prelude.{None, Option, Some}

-- what was found, and otherwise what comes after
abbrev pub or_else : Option ℕ → Option ℕ → Option ℕ
or_else (Some g) next = Some g
or_else None next = next

-- the first g from 1 to n with p g: one from 1 to n - 1, and otherwise n itself
unfoldable pub least : ℕ → (ℕ → Bool) → Option ℕ
least zero p = None
least (suc n) p = or_else (least n p) (cond (p (suc n)) (Some (suc n)) None)

-- the fewest steps of f, from 1 to the limit, that lead from the value to the one held
unfoldable pub fewest : (List ℕ → List ℕ) → ℕ → List ℕ → List ℕ → Option ℕ
fewest f limit held value = least limit (λ g. same (chain f value g) held)
