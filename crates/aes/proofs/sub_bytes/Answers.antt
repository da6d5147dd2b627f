-- `aes::sub_bytes` meets its contract: each call gives a column of the definition. Assumes nothing.
use Rattle.aes.specs.Aes.{sub_word, sub_bytes}
use Rattle.aes.proofs.sub_bytes.Goals as goal

pub returns : goal.returns
unfolding sub_word sub_bytes
returns c =
    rw (c.sub_word.ensures, c.sub_word-2.ensures, c.sub_word-3.ensures, c.sub_word-4.ensures)
