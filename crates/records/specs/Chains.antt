-- The elements of a chain. Assumes nothing.
use Rattle.std.specs.Prelude.{◌≡◌, refl, List, ℕ, zero, suc, ◌+◌, length}
use Rattle.std.proofs.Common.{ap, arith}
use Rattle.oneway.specs.declared.Chain.{Chain}
use Rattle.oneway.specs.Step.{width, step}
use Rattle.oneway.specs.Laws.{step_length}
use Rattle.pebbling.specs.Recursion.{chain}
use Rattle.pebbling.specs.OnBytes.{element_wide}

-- m steps and n more
pub chain_add : (f : List ℕ → List ℕ) (x : List ℕ) (m n : ℕ) → chain f x (m + n) ≡ chain f (chain f x m) n
unfolding chain
chain_add f x m zero = let e : m + 0 ≡ m = omega arith in rw e refl
chain_add f x m (suc n) = let e : m + suc n ≡ suc (m + n) = omega arith in rw e (ap f (chain_add f x m n))

-- each element of a chain has the chain's width
pub chain_length : (c : Chain) (seed : List ℕ) → length seed ≡ width c → (n : ℕ) → length (chain (step c) seed n) ≡ width c
chain_length c seed e = element_wide (width c) (step c) (step_length c) seed e
