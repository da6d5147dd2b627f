-- Which pebblers run, read off the number c of rounds left: after round 2^k, P_i runs exactly where bit i of c is set, and is then in its
-- round 2^(i+1) - (c mod 2^(i+1)). A child of a set bit stands behind those of the bits below it, over the lower half of their positions.
-- Assumes nothing.
use Rattle.std.specs.Prelude.{◌≡◌, cond, List, [], ◌∷◌, ◌++◌, ℕ, zero, suc, ◌+◌, ◌-◌, ◌*◌, ◌^◌, ◌≤◌, ◌<◌, ltb}
use Rattle.std.proofs.Common.{ap, ◌∙◌, ⊎_elim, arith, lt-ltb, le-ltb}
use Rattle.std.proofs.Math.Nat.{pow-succ'}
use Rattle.pebbling.specs.Len.{lt_or_le}
use Rattle.pebbling.specs.Recursion.{Pebbler, running}
use Rattle.pebbling.specs.SideBySide.{pebbler, side, running_children, side_gone, side_both, side_late}

-- the pebblers at the set bits of c below bit k, the lowest bit first
unfoldable pub at_bits : ℕ → ℕ → ℕ → List Pebbler
at_bits zero c base = []
at_bits (suc i) c base =
    let above = at_bits i (c - 2 ^ i) (base + 2 ^ i) in
    let skip = at_bits i c base in
    cond (ltb c (2 ^ i)) skip (above ++ (pebbler i (2 ^ suc i - c) base ∷ []))

pub side_bits : (k n c base : ℕ) → 0 < n → n + c ≡ 2 ^ k → side k n base ≡ at_bits k c base
unfolding at_bits
side_bits zero n c base p e = side_gone zero n base (omega arith)
side_bits (suc k) n c base p e =
    let two : 2 ^ suc k ≡ 2 * 2 ^ k = pow-succ' 2 k in
    ⊎_elim
    (λ (l : c < 2 ^ k).
    rw (lt-ltb c (2 ^ k) l) (side_late k n base (omega arith) ∙ side_bits k (n - 2 ^ k) c base (omega arith) (omega arith)))
    (λ (g : 2 ^ k ≤ c).
    let r : n ≡ 2 ^ suc k - c = omega arith in
    rw (le-ltb c (2 ^ k) g)
    (side_both k n base (omega arith)
    ∙ ap (λ (ps : List Pebbler). ps ++ (pebbler k n base ∷ [])) (side_bits k n (c - 2 ^ k) (base + 2 ^ k) p (omega arith))
    ∙ ap (λ (m : ℕ). at_bits k (c - 2 ^ k) (base + 2 ^ k) ++ (pebbler k m base ∷ [])) r))
    (lt_or_le c (2 ^ k))

-- after its round 2^k, a card with c rounds left runs the pebblers at the set bits of c
pub running_bits : (k r c : ℕ) → 2 ^ k < r → r + c ≡ 2 ^ suc k → running k r 0 ≡ at_bits k c 0
running_bits k r c h e =
    let two : 2 ^ suc k ≡ 2 * 2 ^ k = pow-succ' 2 k in
    running_children k r 0 h ∙ side_bits k (r - 2 ^ k) c 0 (omega arith) (omega arith)
