-- `post::steps::search` meets its contract. The loop's invariant: of those looked at none fits. Assumes nothing.
use Rattle.post.proofs.StepLaws.{Searching}
use Rattle.post.proofs.steps.search.Given as goal

abbrev pub invariant-loop-g : goal.invariant-loop-g
invariant-loop-g l = Searching l.chain l.held l.initial.value l.g l.value
