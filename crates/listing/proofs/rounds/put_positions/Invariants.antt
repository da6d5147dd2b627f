-- `listing::rounds::put_positions` meets its contract. The loop's invariant: what is still to be written makes the text that was promised.
-- Assumes nothing.
use mathlib.Core.Path.{◌≡◌}
use Rattle.listing.proofs.LineLaws.{Left}
use Rattle.listing.proofs.rounds.put_positions.Given as goal

abbrev pub invariant-loop-position : goal.invariant-loop-position
invariant-loop-position l =
    Left l.others l.last l.initial.page.at l.initial.page.text.now l.position-index l.page.at l.page.text.now × (l.page.text.ghost_name ≡ l.initial.page.text.ghost_name)
