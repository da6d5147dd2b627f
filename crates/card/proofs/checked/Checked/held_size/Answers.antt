-- `card::checked::Checked::held_size` meets its contract: the count says how many are held, and after the last round none is.
-- Assumes nothing.
use Rattle.std.proofs.Common.{arith}
use Rattle.card.proofs.ReadLaws.{held_none, held_small, held_fits, held_counted}
use Rattle.card.proofs.checked.Checked.held_size.Goals as goal

pub returns-then-round-power : goal.returns-then-round-power
returns-then-round-power c =
    (held_none c.args.self.head _ c.args.self.numbered.schedule c.power.ensures c.if-round-power.true, omega arith)

pub overflow_mul-result : goal.overflow_mul-result
overflow_mul-result c = omega (arith, held_small c.args.self.head _ c.width.ensures _ c.held_count.ensures.1)

pub returns : goal.returns
returns c =
    let head = c.args.self.head in
    let e = held_counted head _ c.width.ensures c.args.self.numbered.schedule c.requires.1 _ c.held_count.ensures.0 in
    (e, omega (arith, e, held_fits head _ c.width.ensures c.args.self.numbered.schedule c.requires.1))
