-- `slots::hash` meets its contract. The loop's invariant: as many hashes as turns are done on the values, which stand from `newest` on, and nothing behind
-- them is touched. `open` makes the room and f is applied in place, which together is one hash. Assumes nothing.
use mathlib.Core.Path.{◌≡◌, refl, ◌∙◌}
use Prim.Native.Nat.{◌+◌, ◌-◌, ◌≤◌}
use native.Mathlib.Omega.{arith}
use lib.ListN.{length}
use Rattle.lists.specs.Parts.{part_length}
use Rattle.slots.specs.Hashing.{Hashing}
use Rattle.slots.proofs.Growing.{hash_none, hash_all, hash_opens, hash_lent, hash_next}
use Rattle.slots.proofs.hash.Goals as goal
use Rattle.slots.proofs.hash.Goals.{After-width-w, After-open-to}

-- the contract's width is the local one
asked : (c : After-width-w) → let a = c.args in Hashing c.width-w.result a.k a.h a.n a.at a.new.now
asked c = rw c.width-w.ensures c.requires.hashing

-- the part that f is applied to
lent : (c : After-open-to) → c.open-to.result + c.width-w.result ≤ length c.open-to.new.new
lent c =
    let a : Hashing c.width-w.result c.args.k c.args.h c.args.n c.args.at c.args.new.now = rw c.width-w.ensures c.requires.hashing in
    hash_lent a c.loop.invariant.1 (omega (arith, c.loop-test.true)) c.open-to.ensures c.open-to.auto.new

pub loop-init : goal.loop-init
loop-init c = (refl, hash_none (asked (goal.at.loop-init c).After-width-w))

pub open-to-requires : goal.open-to-requires
open-to-requires c =
    hash_opens (asked (goal.at.open-to-requires c).After-width-w) c.loop.invariant.1 (omega (arith, c.loop-test.true))

pub overflow_add-end : goal.overflow_add-end
overflow_add-end c =
    omega (arith, lent (goal.at.overflow_add-end c).After-open-to, c.open-to.auto.new, c.loop.invariant.1.sized, c.well_formed)

pub slice_bounds-apply-end : goal.slice_bounds-apply-end
slice_bounds-apply-end c = lent (goal.at.slice_bounds-apply-end c).After-open-to

pub apply-requires : goal.apply-requires
apply-requires c =
    let w = c.width-w.result in
    let e = part_length c.open-to.result (c.open-to.result + w) c.open-to.new.new (omega arith) (lent (goal.at.apply-requires c).After-open-to) in
    record { known_function = c.requires.known_function; whole_value = e ∙ omega (arith, c.width-w.ensures) }

pub loop-preserved : goal.loop-preserved
loop-preserved c =
    let to = c.open-to.result in
    let w = c.width-w.result in
    let opened = c.open-to.new.new in
    let u : to + w - to ≡ w = omega arith in (
      omega arith,
      hash_next (asked (goal.at.loop-preserved c).After-width-w) c.loop.invariant.1 (omega (arith, c.loop-test.true)) c.open-to.ensures c.open-to.auto.new
          (c.apply.auto.value ∙ part_length to (to + w) opened (omega arith) (lent (goal.at.loop-preserved c).After-open-to) ∙ u) c.apply.ensures,
    )

pub returns : goal.returns
returns c =
    rw (← c.width-w.ensures) (hash_all (asked (goal.at.returns c).After-width-w) c.loop.invariant.1 (omega (arith, c.loop-test.false)))
