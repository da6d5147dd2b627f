-- `aes::xor_words` meets its contract: the lanes of the sum are the sums of the lanes. Assumes nothing.
use borrow.Author.Rules.{rules}
use Rattle.aes.specs.Aes.{xor_words}
use Rattle.aes.proofs.Lanes.{xor_lanes, packed, lanes_are}
use Rattle.aes.proofs.xor_words.Goals as goal

pub returns : goal.returns
unfolding xor_words
returns c =
    rw (c.to_le_bytes.ensures, c.from_le_bytes.ensures, c.from_le_bytes-2.ensures)
    (lanes_are (xor_lanes (packed c.args.a (search rules)) (packed c.args.b (search rules))))
