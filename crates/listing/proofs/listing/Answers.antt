-- `listing::listing` meets its contract. The loops' invariants: none of the lines tried so far is the input's, and nothing is written.
-- Assumes nothing.
use mathlib.Core.Path.{refl, sym, ◌∙◌}
use native.Mathlib.Omega.{arith}
use Rattle.printing.specs.Names.{bytes}
use Rattle.listing.specs.Listing.{listed}
use Rattle.listing.proofs.RunLaws.{tried, found, refused}
use Rattle.listing.proofs.listing.Goals as goal

pub loop-schedule-init : goal.loop-schedule-init
unfolding listed
loop-schedule-init c = (refl, refl)

pub returns-then-asks : goal.returns-then-asks
returns-then-asks c =
    found _ _ _ c.loop-k.invariant.1 c.loop-k-test.true (omega arith) (omega arith) (sym c.if-asks.true ∙ c.asks.ensures)
    c.args.text.now _ _ c.told-text (rw (c.loop-k.invariant.0, c.loop-schedule.invariant.0) at c.put_listing.ensures)

pub loop-k-preserved : goal.loop-k-preserved
loop-k-preserved c =
    (c.loop-k.invariant.0, tried _ _ _ c.loop-k.invariant.1 c.loop-k-test.true (omega arith) (sym c.if-asks.false ∙ c.asks.ensures))

pub returns : goal.returns
unfolding bytes
returns c =
    refused _ c.loop-schedule.schedule c.loop-schedule.invariant.1 (omega arith) c.args.text.now _ _ c.told-text (rw c.loop-schedule.invariant.0 at c.put.ensures)
