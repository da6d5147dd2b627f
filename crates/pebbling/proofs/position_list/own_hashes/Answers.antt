-- `position_list::own_hashes` meets its contract: up to round 2^k P_k alone runs, and in round 2^k it does not hash. Assumes nothing.
use Rattle.pebbling.specs.Recursion.{schedule}
use Rattle.pebbling.proofs.HashLaws.{before_end}
use Rattle.pebbling.proofs.ListLaws.{own_works_out, own_works}
use Rattle.pebbling.proofs.position_list.own_hashes.Goals as goal

pub returns-then-r-power : goal.returns-then-r-power
returns-then-r-power c = own_works_out (schedule c.args.schedule) _ _ _ c.power.ensures c.if-r-power.true

pub returns : goal.returns
returns c =
    own_works (schedule c.args.schedule) _ _ _ (before_end _ _ _ c.requires.3 c.power.ensures c.if-r-power.false) c.hashes_in.ensures
