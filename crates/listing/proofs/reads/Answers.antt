-- `listing::reads` meets its contract, by what stands behind the line. Assumes nothing.
use mathlib.Core.Path.{sym}
use native.Mathlib.Omega.{arith}
use Rattle.std.specs.Prelude.{Some, None}
use Rattle.std.proofs.lemmas.Bool.Decides.{Decides-eqb}
use Rattle.std.proofs.lemmas.Slice.Eq.{strip_prefix_is}
use Rattle.listing.proofs.ReadLaws.{reads_other, reads_all, reads_on}
use Rattle.listing.proofs.reads.Goals as goal

pub returns-in-None : goal.returns-in-None
returns-in-None c =
    sym (reads_other c.args.line.now c.args.input.now (strip_prefix_is Decides-eqb c.args.input.now c.args.line.now None c.in-None.ensures.cases))

pub returns-in-Some-empty : goal.returns-in-Some-empty
returns-in-Some-empty c =
    let rest = c.in-Some-empty.field-0 in
    sym (reads_all c.args.line.now c.args.input.now rest.now (strip_prefix_is Decides-eqb c.args.input.now c.args.line.now (Some rest) c.in-Some-empty.ensures.cases) (omega arith))

pub returns-in-Some-len1-up : goal.returns-in-Some-len1-up
returns-in-Some-len1-up c =
    let rest = c.in-Some-len1-up.field-0 in
    sym (reads_on c.args.line.now c.args.input.now rest.now (strip_prefix_is Decides-eqb c.args.input.now c.args.line.now (Some rest) c.in-Some-len1-up.ensures.cases) (omega arith))
