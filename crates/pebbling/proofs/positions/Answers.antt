-- `positions` meets its contract. Each way out is a case of the definition, which the tests on the way there pick (PositionLaws); how many
-- there are, the list and the hashes are what `position_list::list_all` promises, aside and then in the list. Assumes nothing.
use mathlib.Core.Path.{refl, sym}
use native.Mathlib.Omega.{arith}
use lib.Seq.{length-take-le}
use Rattle.pebbling.proofs.PositionLaws.{refused_k, refused_schedule, refused_zero, refused_late, listed_none, round_asked, aside_asked, few, refused_length, listed_all}
use Prim.Native.Nat.{◌≤◌}
use Rattle.pebbling.proofs.positions.Goals as goal
use Rattle.pebbling.proofs.positions.Goals.{After-list_all-listed}

-- there is room aside for the positions listed
few_listed : (c : After-list_all-listed) → c.list_all-listed.result.end ≤ 38
few_listed c =
    few _ _ _ c.args.list.now c.if-k-gt20.false c.if-schedule-gt3.false c.if-round-eq0.false _ c.power-end.ensures c.if-end-round.false c.if-round-end.false _ _ _ _ refl c.list_all-listed.ensures

pub returns-then-k-gt20 : goal.returns-then-k-gt20
returns-then-k-gt20 c = refused_k _ _ _ _ c.if-k-gt20.true

pub returns-then-schedule-gt3 : goal.returns-then-schedule-gt3
returns-then-schedule-gt3 c = refused_schedule _ _ _ _ c.if-k-gt20.false c.if-schedule-gt3.true

pub returns-then-round-eq0 : goal.returns-then-round-eq0
returns-then-round-eq0 c =
    refused_zero _ _ _ _ c.if-k-gt20.false c.if-schedule-gt3.false c.if-round-eq0.true

pub returns-then-end-round : goal.returns-then-end-round
returns-then-end-round c =
    refused_late _ _ _ _ c.if-k-gt20.false c.if-schedule-gt3.false c.if-round-eq0.false _ c.power-end.ensures c.if-end-round.true

pub returns-then-round-end : goal.returns-then-round-end
returns-then-round-end c =
    listed_none _ _ _ _ c.if-k-gt20.false c.if-schedule-gt3.false c.if-round-eq0.false _ c.power-end.ensures c.if-end-round.false c.if-round-end.true

pub list_all-listed-requires : goal.list_all-listed-requires
list_all-listed-requires c =
    let list = c.args.list.now in
    let a = round_asked _ _ _ list c.if-k-gt20.false c.if-schedule-gt3.false c.if-round-eq0.false _ c.power-end.ensures c.if-end-round.false c.if-round-end.false in
    let b = aside_asked _ _ _ list c.if-k-gt20.false c.if-schedule-gt3.false c.if-round-eq0.false _ c.power-end.ensures c.if-end-round.false c.if-round-end.false in
    (c.if-schedule-gt3.false, c.if-k-gt20.false, a.0, a.1, b.0, b.1)

pub returns-then-list-entries : goal.returns-then-list-entries
returns-then-list-entries c =
    refused_length _ _ _ _ c.if-k-gt20.false c.if-schedule-gt3.false c.if-round-eq0.false _ c.power-end.ensures c.if-end-round.false c.if-round-end.false _ _ _ _ refl c.list_all-listed.ensures c.if-list-entries.true

pub slice_bounds-aside-end : goal.slice_bounds-aside-end
slice_bounds-aside-end c =
    omega (arith, few_listed (goal.at.slice_bounds-aside-end c).After-list_all-listed, c.list_all-listed.auto.list)

pub slice_bounds-copy-end : goal.slice_bounds-copy-end
slice_bounds-copy-end c =
    sym (length-take-le _ _ (omega (arith, few_listed (goal.at.slice_bounds-copy-end c).After-list_all-listed, c.list_all-listed.auto.list)))

pub overflow_cast-count : goal.overflow_cast-count
overflow_cast-count c =
    omega (arith, few_listed (goal.at.overflow_cast-count c).After-list_all-listed)

pub returns : goal.returns
returns c =
    let list = c.args.list.now in
    listed_all _ _ _ list c.if-k-gt20.false c.if-schedule-gt3.false c.if-round-eq0.false _ c.power-end.ensures c.if-end-round.false c.if-round-end.false _ _ _ _ refl c.list_all-listed.ensures c.if-list-entries.false _ c.copy.ensures
