-- `md5_block::split` meets its contract: the call at each index gives its word. Assumes nothing.
use Rattle.std.proofs.Common.{arith, rules}
use Rattle.md5_block.specs.Md5.{word_at}
use Rattle.md5_block.proofs.Words.{made_by, all_words}
use Rattle.md5_block.proofs.split.Goals as goal

pub returns : goal.returns
returns c =
    let m = c.from_fn.ensures.items in
    all_words c.args.bytes.now _ m.long (λ k h. made_by _ _ (word_at c.args.bytes.now) (λ j y q d. search rules) _ 0 16 m.each k k 0 h (omega arith))
