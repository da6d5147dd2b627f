-- `md5_block::word_number` meets its contract: the strides give the RFC's column, by a test over all steps. Assumes nothing.
use Rattle.std.proofs.Common.{rules, le-ltb, lt-ltb}
use Rattle.md5_block.proofs.Steps.{stride_is}
use Rattle.md5_block.proofs.word_number.Goals as goal

pub returns-then-i-lt16 : goal.returns-then-i-lt16
returns-then-i-lt16 c = (simp (lt-ltb _ _ c.if-i-lt16.true) at (stride_is c.args.i (search rules)), search rules)

pub returns-then-i-lt32 : goal.returns-then-i-lt32
returns-then-i-lt32 c = (simp (le-ltb _ _ c.if-i-lt16.false, lt-ltb _ _ c.if-i-lt32.true) at (stride_is c.args.i (search rules)), search rules)

pub returns-then-i-lt48 : goal.returns-then-i-lt48
returns-then-i-lt48 c =
    (simp (le-ltb _ _ c.if-i-lt16.false, le-ltb _ _ c.if-i-lt32.false, lt-ltb _ _ c.if-i-lt48.true) at (stride_is c.args.i (search rules)), search rules)

pub returns : goal.returns
returns c =
    (simp (le-ltb _ _ c.if-i-lt16.false, le-ltb _ _ c.if-i-lt32.false, le-ltb _ _ c.if-i-lt48.false) at (stride_is c.args.i (search rules)), search rules)
