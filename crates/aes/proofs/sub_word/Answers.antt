-- `aes::sub_word` meets its contract: each call gives the S-box of its byte. Assumes nothing.
use Rattle.aes.specs.Aes.{sub_word}
use Rattle.aes.proofs.sub_word.Goals as goal

pub returns : goal.returns
unfolding sub_word
returns c =
    rw (c.sub_byte.ensures, c.sub_byte-2.ensures, c.sub_byte-3.ensures, c.sub_byte-4.ensures)
