-- `slots::Pebbler::children` meets its contract. The highest bit of the rounds left names the highest child that runs; in its round 2^j it puts out alone, and
-- before that it prepares behind the children of the upper half, which move first. The level falls at each call. Assumes nothing.
use Prim.Native.Nat.{ℕ, ◌-◌, ◌*◌, ◌≤◌}
use native.Mathlib.Omega.{arith}
use Rattle.slots.proofs.SideBySide.{Splitting, bits_some, ended_fits, splitting, last_asks, last_moves, upper_asks, upper_fits, lower_asks, both_fit, both_move}
use Rattle.slots.proofs.Pebbler.+children.Goals as goal
use Rattle.slots.proofs.Pebbler.+children.Goals.{After-power}

-- what the code has worked out before its test
ended : (t : ℕ) (c : After-power t)
    → (2 * c.power-half.result ≤ c.power.result) × (c.power.result - 2 * c.power-half.result ≤ c.args.round.0)
ended t c = ended_fits c.requires.advancing c.requires.round_nonzero c.bits-j.ensures c.power-half.ensures c.power.ensures

split : (t : ℕ) (c : After-power t)
    → Splitting c.args.self.chain c.args.self.schedule c.args.self.k c.args.round.0 c.args.left.0 (c.bits-j.result - 1) c.power-half.result
    (c.args.round.0 - (c.power.result - 2 * c.power-half.result)) c.args.old.now c.args.new.now
split t c = splitting c.requires.advancing c.requires.round_nonzero c.bits-j.ensures c.power-half.ensures c.power.ensures

pub overflow_sub-j : goal.overflow_sub-j
overflow_sub-j t c = (bits_some c.requires.advancing c.requires.round_nonzero c.bits-j.ensures).0

pub power-half-requires : goal.power-half-requires
power-half-requires t c = (bits_some c.requires.advancing c.requires.round_nonzero c.bits-j.ensures).1

pub overflow_sub-ended : goal.overflow_sub-ended
overflow_sub-ended t c = (ended t (goal.at.overflow_sub-ended t c).After-power).0

pub overflow_sub-n : goal.overflow_sub-n
overflow_sub-n t c = (ended t (goal.at.overflow_sub-n t c).After-power).1

pub put_out-requires : goal.put_out-requires
put_out-requires t c = last_asks (split t (goal.at.put_out-requires t c).After-power) c.if-c-half.true

pub returns-then-c-half : goal.returns-then-c-half
returns-then-c-half t c = last_moves (split t (goal.at.returns-then-c-half t c).After-power) c.if-c-half.true c.put_out.ensures

pub overflow_sub-rest : goal.overflow_sub-rest
overflow_sub-rest t c = (split t (goal.at.overflow_sub-rest t c).After-power).least

pub children-upper-requires : goal.children-upper-requires
children-upper-requires t c =
    let s = split t (goal.at.children-upper-requires t c).After-power in
    (omega (arith, s.under, c.decreases), upper_asks s c.if-c-half.false)

pub slice_bounds-prepare-count : goal.slice_bounds-prepare-count
slice_bounds-prepare-count t c =
    (upper_fits (split t (goal.at.slice_bounds-prepare-count t c).After-power) c.if-c-half.false c.children-upper.ensures c.children-upper.auto.new).0

pub slice_bounds-prepare-start : goal.slice_bounds-prepare-start
slice_bounds-prepare-start t c =
    (upper_fits (split t (goal.at.slice_bounds-prepare-start t c).After-power) c.if-c-half.false c.children-upper.ensures c.children-upper.auto.new).0

pub slice_bounds-prepare-count-2 : goal.slice_bounds-prepare-count-2
slice_bounds-prepare-count-2 t c =
    (upper_fits (split t (goal.at.slice_bounds-prepare-count-2 t c).After-power) c.if-c-half.false c.children-upper.ensures c.children-upper.auto.new).1

pub slice_bounds-prepare-start-2 : goal.slice_bounds-prepare-start-2
slice_bounds-prepare-start-2 t c =
    (upper_fits (split t (goal.at.slice_bounds-prepare-start-2 t c).After-power) c.if-c-half.false c.children-upper.ensures c.children-upper.auto.new).1

pub prepare-lower-requires : goal.prepare-lower-requires
prepare-lower-requires t c =
    let a = lower_asks (split t (goal.at.prepare-lower-requires t c).After-power) c.if-c-half.false c.children-upper.ensures c.children-upper.auto.new in
    record { advancing = a.0; round_bound = a.1 }

pub add-requires : goal.add-requires
add-requires t c =
    let s = split t (goal.at.add-requires t c).After-power in
    let f = both_fit s c.if-c-half.false c.children-upper.ensures c.children-upper.auto.new c.prepare-lower.ensures in
    record {
      reads = omega (arith, f.0, c.well_formed);
      writes = omega (arith, f.1, c.well_formed);
      works = omega (arith, f.2, c.power-half.ensures.is, c.power-half.ensures.small);
    }

pub returns : goal.returns
returns t c =
    let s = split t (goal.at.returns t c).After-power in
    both_move s c.if-c-half.false c.children-upper.ensures c.children-upper.auto.new c.prepare-lower.ensures c.add.ensures
