-- `card::layout::head_bytes` meets its contract: each number fits its byte. Assumes nothing.
use Rattle.std.proofs.Common.{arith}
use Rattle.oneway.specs.Laws.{known_byte}
use Rattle.card.proofs.layout.head_bytes.Goals as goal

pub overflow_cast-result : goal.overflow_cast-result
overflow_cast-result c = omega (arith, known_byte c.args.checked.head.function c.args.checked.numbered.known)
