-- `hashes::hashes_in` meets its contract: each number has its schedule, and what is not 0, 1 or 2 is 3. Assumes nothing.
use mathlib.Core.Path.{◌∙◌}
use Rattle.pebbling.proofs.HashLaws.{schedule_0, schedule_1, schedule_2, schedule_3, three}
use Rattle.pebbling.proofs.hashes.hashes_in.Goals as goal

pub returns-in-0 : goal.returns-in-0
returns-in-0 c = c.rushing_in.ensures ∙ schedule_0 _ _ _ c.in-0.is

pub returns-in-1 : goal.returns-in-1
returns-in-1 c = schedule_1 _ _ _ c.in-1.is

pub returns-in-2 : goal.returns-in-2
returns-in-2 c = c.speed2_in.ensures ∙ schedule_2 _ _ _ c.in-2.is

pub returns-in_default : goal.returns-in_default
returns-in_default c = let m = c.in_default.in_default-own.rest in c.optimal_in.ensures ∙ schedule_3 _ _ _ (three _ c.requires.0 m.0.0.1 m.0.1 m.1)
