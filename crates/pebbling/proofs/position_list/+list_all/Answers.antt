-- `position_list::list_all` meets its contract. Past round 2^k the pebbler is two of the next lower level: the upper one's positions are written first, and the
-- lower one's where those end, which ListLaws makes one run of stores, and their hashes are added. The level falls at each call. Assumes nothing.
use mathlib.Core.Path.{◌≡◌}
use Prim.Native.Nat.{ℕ, suc, ◌-◌}
use native.Mathlib.Omega.{arith}
use Rattle.pebbling.proofs.ListLaws.{level, own_asks, own_says, lower_round, upper_round, lower_asks, lower_says, lower_works, first_asks, second_asks, both_say, both_work, works_small}
use Rattle.pebbling.specs.Recursion.{schedule}
use Rattle.pebbling.proofs.position_list.+list_all.Goals as goal
use Rattle.pebbling.proofs.position_list.+list_all.Goals.{Else-r-whole}

-- past the first test there is a lower level
lower : {t : ℕ} (c : Else-r-whole t) → suc (c.args.k - 1) ≡ c.args.k
lower c = level _ _ _ c.power-whole.ensures c.if-r-whole.false c.requires.3

pub list_own-end-requires : goal.list_own-end-requires
list_own-end-requires t c =
    own_asks (schedule c.args.schedule) _ _ _ _ _ c.power-whole.ensures c.if-r-whole.true c.hashes_done-h.ensures c.args.list.now _ c.requires.1 c.requires.4 c.requires.5

pub returns-then-r-whole : goal.returns-then-r-whole
returns-then-r-whole t c =
    (own_says (schedule c.args.schedule) _ _ _ _ _ c.power-whole.ensures c.if-r-whole.true c.hashes_done-h.ensures _ _ _ _ c.list_own-end.ensures, c.own_hashes-hashes.ensures)

pub list_all-requires : goal.list_all-requires
list_all-requires t c =
    let up = lower (goal.at.list_all-requires t c).Else-r-whole in
    let l = lower_round (schedule c.args.schedule) _ _ c.args.base _ _ _ up c.power-whole.ensures c.power-half.ensures c.if-r-whole.false c.requires.1 c.requires.3 in
    let r = lower_asks (schedule c.args.schedule) _ _ c.args.base _ _ _ up c.power-whole.ensures c.power-half.ensures c.if-r-whole.false c.if-half-n.true c.args.list.now c.args.at c.requires.4 c.requires.5 in
    (omega (arith, up), (c.requires.0, l.0, l.1, l.2, r.0, r.1))

pub returns-then-half-n : goal.returns-then-half-n
returns-then-half-n t c =
    let up = lower (goal.at.returns-then-half-n t c).Else-r-whole in (
      lower_says (schedule c.args.schedule) _ _ c.args.base _ _ _ up c.power-whole.ensures c.power-half.ensures c.if-r-whole.false c.if-half-n.true _ _ _ _ c.list_all.ensures.0,
      lower_works (schedule c.args.schedule) _ _ c.args.base _ _ _ up c.power-whole.ensures c.power-half.ensures c.if-r-whole.false c.if-half-n.true _ c.list_all.ensures.1,
    )

pub list_all-upper-requires : goal.list_all-upper-requires
list_all-upper-requires t c =
    let up = lower (goal.at.list_all-upper-requires t c).Else-r-whole in
    let u = upper_round (schedule c.args.schedule) _ _ c.args.base _ _ _ up c.power-whole.ensures c.power-half.ensures c.if-r-whole.false c.if-half-n.false in
    let r = first_asks (schedule c.args.schedule) _ _ c.args.base _ _ _ up c.power-whole.ensures c.power-half.ensures c.if-r-whole.false c.args.list.now c.args.at c.requires.4 c.requires.5 in
    (omega (arith, up), (c.requires.0, (lower_round (schedule c.args.schedule) _ _ c.args.base _ _ _ up c.power-whole.ensures c.power-half.ensures c.if-r-whole.false c.requires.1 c.requires.3).0, u.0, u.1, r.0, r.1))

pub list_all-lower-requires : goal.list_all-lower-requires
list_all-lower-requires t c =
    let up = lower (goal.at.list_all-lower-requires t c).Else-r-whole in
    let l = lower_round (schedule c.args.schedule) _ _ c.args.base _ _ _ up c.power-whole.ensures c.power-half.ensures c.if-r-whole.false c.requires.1 c.requires.3 in
    let r = second_asks (schedule c.args.schedule) _ _ c.args.base _ _ _ up c.power-whole.ensures c.power-half.ensures c.if-r-whole.false c.args.list.now c.args.at c.requires.4 c.requires.5 _ _ c.list_all-upper.ensures.0 in
    (omega (arith, up), (c.requires.0, l.0, l.1, l.2, r.0, r.1))

pub overflow_add-hashes : goal.overflow_add-hashes
overflow_add-hashes t c =
    let up = lower (goal.at.overflow_add-hashes t c).Else-r-whole in
    let l = lower_round (schedule c.args.schedule) _ _ c.args.base _ _ _ up c.power-whole.ensures c.power-half.ensures c.if-r-whole.false c.requires.1 c.requires.3 in
    let u = works_small _ _ _ _ c.requires.0 l.0 (omega (arith, l.1)) c.list_all-upper.ensures.1 in
    let v = works_small _ _ _ _ c.requires.0 l.0 l.1 c.list_all-lower.ensures.1 in
    omega (arith, u, v)

pub returns : goal.returns
returns t c =
    let up = lower (goal.at.returns t c).Else-r-whole in (
      both_say (schedule c.args.schedule) _ _ c.args.base _ _ _ up c.power-whole.ensures c.power-half.ensures c.if-r-whole.false c.args.list.now c.args.at c.requires.4 c.requires.5 _ _ c.list_all-upper.ensures.0 _ _ c.list_all-lower.ensures.0,
      both_work (schedule c.args.schedule) _ _ c.args.base _ _ _ up c.power-whole.ensures c.power-half.ensures c.if-r-whole.false _ _ c.list_all-upper.ensures.1 c.list_all-lower.ensures.1,
    )
