-- `card::checked::Checked::slots_size` meets its contract. Assumes nothing.
use Rattle.std.proofs.Common.{arith}
use Rattle.card.proofs.ReadLaws.{slots_bytes, slots_fit}
use Rattle.card.proofs.checked.Checked.slots_size.Goals as goal

pub overflow_mul-result : goal.overflow_mul-result
overflow_mul-result c = omega (arith, slots_fit c.args.self.head _ c.width.ensures _ c.slot_count.ensures)

pub returns : goal.returns
returns c =
    (slots_bytes c.args.self.head _ c.width.ensures _ c.slot_count.ensures, slots_fit c.args.self.head _ c.width.ensures _ c.slot_count.ensures)
