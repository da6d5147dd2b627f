-- `records::same` meets its contract. Assumes nothing.
use Rattle.std.proofs.Common.{◌∙◌}
use Rattle.lists.specs.Same.{same_bytes}
use Rattle.records.proofs.same.Goals as goal

pub returns : goal.returns
returns c = c.eq.ensures ∙ same_bytes c.args.a.now c.args.b.now
