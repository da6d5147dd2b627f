-- `card::start_ticks` meets its contract: behind its own tests it is a rebuild. Assumes nothing.
use Rattle.std.proofs.Common.{sym, ◌∙◌}
use Rattle.levels.specs.Levels.{allowed_range, level_is_the_least}
use Rattle.card.proofs.StartLaws.{ticks_rebuilt}
use Rattle.card.proofs.start_ticks.Goals as goal

pub level-k-requires : goal.level-k-requires
level-k-requires c = allowed_range _ (sym c.allowed.ensures ∙ c.if-not-allowed.false)

pub first_round-first-requires : goal.first_round-first-requires
first_round-first-requires c =
    let range = allowed_range c.args.ticks (sym c.allowed.ensures ∙ c.if-not-allowed.false) in
    (c.level-k.ensures.1, range.0, rw c.level-k.ensures.0 (level_is_the_least c.args.ticks range.1).enough)

pub returns : goal.returns
returns c =
    ticks_rebuilt _ _ _ _ _ (sym c.known.ensures ∙ c.if-not-known.false) c.if-schedule-gt3.false (sym c.allowed.ensures ∙ c.if-not-allowed.false) _ _ _ _ c.level-k.ensures.0 c.first_round-first.ensures c.rebuild.ensures
