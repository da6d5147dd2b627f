-- `aes::add_round_key` meets its contract: each call gives a column of the sum. Assumes nothing.
use Rattle.aes.specs.Aes.{add_round_key, xor_words}
use Rattle.aes.proofs.add_round_key.Goals as goal

pub returns : goal.returns
unfolding add_round_key xor_words
returns c =
    rw (c.xor_words.ensures, c.xor_words-2.ensures, c.xor_words-3.ensures, c.xor_words-4.ensures, c.columns-k.ensures)
