-- What a walk along the chain asks for, and what it leaves in the slots. Assumes nothing.
use Rattle.std.specs.Prelude.{◌≡◌, List, [], ◌∷◌, map, ℕ, ◌*◌, ◌≤◌, T, length}
use Rattle.lists.specs.Values.{joined}
use Rattle.lists.specs.Writing.{over}
use Rattle.oneway.specs.Step.{known, width, step}
use Rattle.oneway.specs.declared.Chain.{Chain}
use Rattle.pebbling.specs.Falling.{Falling}
use Rattle.pebbling.specs.Recursion.{chain}

-- the values of the chain at some positions
abbrev pub elements : Chain → List ℕ → List ℕ → List (List ℕ)
elements c seed positions = map (chain (step c) seed) positions

-- positions that fall, and room for their values
pub record Fillable (c : Chain) (seed positions slots : List ℕ) : Type 0 where
  pub known : T (known c.function)
  pub seeded : length seed ≡ width c
  pub top : ℕ
  pub falls : Falling top 0 positions
  pub room : width c * length positions ≤ length slots

-- the position of the first, which is the highest, and 0 where there is none
unfoldable pub highest : List ℕ → ℕ
highest [] = 0
highest (position ∷ lower) = position

-- the values at the positions from the first slot on, and the hashes: one for each step from the seed to the highest position
pub record Refilled (c : Chain) (seed positions slots : List ℕ) (hashes : ℕ) (slots' : List ℕ) : Type 0 where
  pub leaves : slots' ≡ over (joined (elements c seed positions)) slots
  pub counts : hashes ≡ highest positions
