-- `aes::mix_column` meets its contract: each lane of the result is a row of the definition, its terms in another order. Assumes nothing.
use borrow.Author.Rules.{rules}
use Rattle.aes.proofs.Lanes.{packed, mixed}
use Rattle.aes.proofs.mix_column.Goals as goal

pub returns : goal.returns
returns c =
    rw (
      c.to_le_bytes.ensures,
      c.rotate_right-w3.ensures,
      c.rotate_right-w2.ensures,
      c.rotate_right-d1.ensures,
      c.rotate_right-w1.ensures,
      c.doubled-d.ensures,
      c.from_le_bytes-w.ensures,
    )
    (mixed c.args.s (packed c.args.s (search rules)))
