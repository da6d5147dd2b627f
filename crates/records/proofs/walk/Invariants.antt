-- `records::walk` meets its contract. The loop's invariant: after as many steps as are counted the value is the chain's element. Assumes nothing.
use Rattle.records.proofs.Laws.{Walking}
use Rattle.records.proofs.walk.Given as goal

abbrev pub invariant-loop : goal.invariant-loop
invariant-loop l = Walking l.chain l.initial.value l.value l.counter
