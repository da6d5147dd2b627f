-- `hashes::hashes_done` meets its contract: before round 2^k every schedule has done 2^k - 1 hashes, and before that each has its closed form. Assumes nothing.
use Prim.Native.Nat.{◌^◌, ◌≤◌, ◌<◌}
use Rattle.pebbling.proofs.HashLaws.{done_at_end, done_0, done_1, done_2, done_3, three, before_end}
use Rattle.pebbling.specs.Len.{not-zero}
use Rattle.pebbling.proofs.hashes.hashes_done.Goals as goal
use Rattle.pebbling.proofs.hashes.hashes_done.Goals.{Else-r-whole}

-- past the first test the round is a preparing one, and so k is not 0
asked : (c : Else-r-whole) → (0 < c.args.k) × (c.args.k ≤ 20) × (0 < c.args.round.0) × (c.args.round.0 < 2 ^ c.args.k)
asked c =
    let l = before_end _ _ _ c.requires.3 c.power-whole.ensures c.if-r-whole.false in
    (not-zero _ _ c.requires.2 l, c.requires.1, c.requires.2, l)

pub returns-then-r-whole : goal.returns-then-r-whole
returns-then-r-whole c = done_at_end _ _ _ _ c.requires.0 c.power-whole.ensures c.if-r-whole.true

pub returns-in-0 : goal.returns-in-0
returns-in-0 c = done_0 _ _ _ (asked (goal.at.returns-in-0 c).Else-r-whole).3 c.in-0.is

pub returns-in-1 : goal.returns-in-1
returns-in-1 c = done_1 _ _ _ (asked (goal.at.returns-in-1 c).Else-r-whole).2 (asked (goal.at.returns-in-1 c).Else-r-whole).3 c.in-1.is

pub returns-in-2 : goal.returns-in-2
returns-in-2 c = done_2 _ _ _ _ c.in-2.is c.speed2_done.ensures

pub returns-in_default : goal.returns-in_default
returns-in_default c = let m = c.in_default.in_default-own.rest in done_3 _ _ _ _ (three _ c.requires.0 m.0.0.1 m.0.1 m.1) c.optimal_done.ensures
