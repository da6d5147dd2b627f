-- `oneway::low_byte_first` meets its contract: each word's bytes are copied to their place. Assumes nothing.
use native.Mathlib.Omega.{arith}
use Rattle.oneway.proofs.Laws.{words_bytes}
use Rattle.oneway.proofs.low_byte_first.Goals as goal

pub returns : goal.returns
returns c =
    rw (
      c.copy_from_slice.ensures.after,
      c.copy_from_slice-2.ensures.after,
      c.copy_from_slice-3.ensures.after,
      c.copy_from_slice-4.ensures.after,
      c.to_le_bytes.ensures,
      c.to_le_bytes-2.ensures,
      c.to_le_bytes-3.ensures,
      c.to_le_bytes-4.ensures,
    )
    (words_bytes c.args.s (omega arith))
