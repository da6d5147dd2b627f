-- `slots::Pebbler::prepare` meets its contract. The values are copied behind just the room that the round's hashes fill, and the hashes bring them to the front;
-- without a hash the copy is all. Assumes nothing.
use mathlib.Core.Path.{sym}
use native.Mathlib.Omega.{arith}
use lib.ListN.{length-take, length-drop}
use lib.Pow.{pow_mono}
use lib.Seq.{length-take-le}
use Rattle.slots.proofs.OwnRound.{Preparing, prepare_fits, prepare_enough, idle_room, idle_moves, prepare_grows, prepare_room, prepare_asks, prepare_moves}
use Rattle.slots.proofs.Pebbler.prepare.Goals as goal
use Rattle.slots.proofs.Pebbler.prepare.Goals.{After-held_count_after}

-- what the code has worked out before its first test
counted : (c : After-held_count_after)
    →
    Preparing c.args.self.chain c.args.self.schedule c.args.self.k c.args.round.0 c.args.old.now c.args.new.now c.width-w.result
    c.hashes_done-h.result c.hashes_in-n.result c.held_count_after.result
counted c =
    let c = c in
    record {
      asked = c.requires.advancing;
      early = c.requires.round_bound;
      wide = c.width-w.ensures;
      past = c.hashes_done-h.ensures;
      does = c.hashes_in-n.ensures;
      holds = c.held_count_after.ensures;
    }

pub overflow_mul-read : goal.overflow_mul-read
overflow_mul-read c = omega (arith, prepare_enough (counted (goal.at.overflow_mul-read c).After-held_count_after), c.well_formed)

pub slice_bounds-copy-end : goal.slice_bounds-copy-end
slice_bounds-copy-end c = sym (length-take-le _ _ (prepare_enough (counted (goal.at.slice_bounds-copy-end c).After-held_count_after)))

pub copy-requires : goal.copy-requires
copy-requires c =
    let z = idle_room (counted (goal.at.copy-requires c).After-held_count_after) c.if-n-eq0.true in
    simp length-take (omega arith)

pub returns-then-n-eq0 : goal.returns-then-n-eq0
returns-then-n-eq0 c =
    idle_moves (counted (goal.at.returns-then-n-eq0 c).After-held_count_after) c.if-n-eq0.true c.copy.ensures

pub overflow_add-h : goal.overflow_add-h
overflow_add-h c =
    omega (arith, prepare_fits (counted (goal.at.overflow_add-h c).After-held_count_after), pow_mono {i = c.args.self.k} {j = 20} c.requires.advancing.small)

pub held_count_after-requires-2 : goal.held_count_after-requires-2
held_count_after-requires-2 c = (c.requires.advancing.small, prepare_fits (counted (goal.at.held_count_after-requires-2 c).After-held_count_after))

pub overflow_mul-written : goal.overflow_mul-written
overflow_mul-written c = omega (arith, prepare_room (counted (goal.at.overflow_mul-written c).After-held_count_after) c.held_count_after-2.ensures, c.well_formed)

pub overflow_sub-at : goal.overflow_sub-at
overflow_sub-at c = prepare_grows (counted (goal.at.overflow_sub-at c).After-held_count_after) c.held_count_after-2.ensures

pub slice_bounds-copy-end-2 : goal.slice_bounds-copy-end-2
slice_bounds-copy-end-2 c = sym (length-take-le _ _ (prepare_enough (counted (goal.at.slice_bounds-copy-end-2 c).After-held_count_after)))

pub slice_bounds-copy-count : goal.slice_bounds-copy-count
slice_bounds-copy-count c =
    let p = counted (goal.at.slice_bounds-copy-count c).After-held_count_after in
    omega (arith, prepare_grows p c.held_count_after-2.ensures, prepare_room p c.held_count_after-2.ensures)

pub slice_bounds-copy-start : goal.slice_bounds-copy-start
slice_bounds-copy-start c =
    let p = counted (goal.at.slice_bounds-copy-start c).After-held_count_after in
    omega (arith, prepare_grows p c.held_count_after-2.ensures, prepare_room p c.held_count_after-2.ensures)

pub copy-requires-2 : goal.copy-requires-2
copy-requires-2 c =
    let p = counted (goal.at.copy-requires-2 c).After-held_count_after in
    simp (length-take, length-drop) (omega (arith, prepare_grows p c.held_count_after-2.ensures, prepare_room p c.held_count_after-2.ensures))

pub hash-applied-requires : goal.hash-applied-requires
hash-applied-requires c =
    record {
      known_function = c.requires.advancing.known;
      hashing = prepare_asks (counted (goal.at.hash-applied-requires c).After-held_count_after) c.held_count_after-2.ensures c.copy-2.new.to c.copy-2.auto.to;
    }

pub returns : goal.returns
returns c =
    prepare_moves (counted (goal.at.returns c).After-held_count_after) c.held_count_after-2.ensures c.copy-2.new.to c.copy-2.ensures c.hash-applied.ensures
