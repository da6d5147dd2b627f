-- `printing::digit` meets its contract, by its two cases. Assumes nothing.
use borrow.Author.Tests.{lt-ltb, le-ltb}
use native.Mathlib.Omega.{arith}
use Rattle.printing.specs.Hex.{digit_of}
use Rattle.printing.proofs.digit.Goals as goal

pub returns-then-n-lt10 : goal.returns-then-n-lt10
unfolding digit_of
returns-then-n-lt10 c = simp (lt-ltb _ _ c.if-n-lt10.true)

pub returns-else-n-lt10 : goal.returns-else-n-lt10
unfolding digit_of
returns-else-n-lt10 c = simp (le-ltb _ _ c.if-n-lt10.false) (omega arith)
