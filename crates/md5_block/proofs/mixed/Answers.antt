-- `md5_block::mixed` meets its contract: the tests on the step's number are those of the definition. Assumes nothing.
use Rattle.std.proofs.Common.{le-ltb, lt-ltb}
use Rattle.md5_block.specs.Md5.{mix}
use Rattle.md5_block.proofs.mixed.Goals as goal

pub returns-then-i-lt16 : goal.returns-then-i-lt16
unfolding mix
returns-then-i-lt16 c = simp (lt-ltb _ _ c.if-i-lt16.true)

pub returns-then-i-lt32 : goal.returns-then-i-lt32
unfolding mix
returns-then-i-lt32 c = simp (le-ltb _ _ c.if-i-lt16.false, lt-ltb _ _ c.if-i-lt32.true)

pub returns-then-i-lt48 : goal.returns-then-i-lt48
unfolding mix
returns-then-i-lt48 c = simp (le-ltb _ _ c.if-i-lt16.false, le-ltb _ _ c.if-i-lt32.false, lt-ltb _ _ c.if-i-lt48.true)

pub returns : goal.returns
unfolding mix
returns c = simp (le-ltb _ _ c.if-i-lt16.false, le-ltb _ _ c.if-i-lt32.false, le-ltb _ _ c.if-i-lt48.false)
