-- `listing::decides` meets its contract: eleven bytes decide, and fewer where LF is among them. Assumes nothing.
use mathlib.Core.Path.{sym, ◌∙◌}
use native.Mathlib.Omega.{arith}
use borrow.Author.Tests.{le-leb}
use Rattle.listing.specs.Lines.{decides_at_eleven}
use Rattle.listing.proofs.ReadLaws.{decides_few, any_ended}
use Rattle.listing.proofs.decides.Goals as goal

pub returns-then-input-ge-ENOUGH : goal.returns-then-input-ge-ENOUGH
returns-then-input-ge-ENOUGH c = le-leb 11 _ (omega arith) ∙ sym (decides_at_eleven _ (omega arith))

pub returns-else-input-ge-ENOUGH : goal.returns-else-input-ge-ENOUGH
returns-else-input-ge-ENOUGH c = c.contains.ensures.value ∙ any_ended c.args.input.now ∙ sym (decides_few _ (omega arith))
