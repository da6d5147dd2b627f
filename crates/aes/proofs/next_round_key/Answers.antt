-- `aes::next_round_key` meets its contract: the code makes the definition's words in its order, and their bytes are the words again.
-- Assumes nothing.
use Rattle.aes.specs.Aes.{rot_word, xor_words}
use Rattle.aes.specs.Schedule.{next_round_key}
use Rattle.aes.proofs.next_round_key.Goals as goal

pub returns : goal.returns
unfolding next_round_key rot_word xor_words
returns c =
    rw (c.bytes.ensures, c.xor_words-w3.ensures, c.xor_words-w2.ensures, c.xor_words-w1.ensures, c.xor_words-w0.ensures, c.xor_words-temp.ensures, c.sub_word-t.ensures, c.columns-w.ensures)
