-- `aes::one_round` meets its contract: each call is the step of its name. Assumes nothing.
use Rattle.aes.proofs.one_round.Goals as goal

pub returns : goal.returns
returns c =
    rw (c.add_round_key.ensures, c.mix_columns.ensures, c.shift_rows.ensures, c.sub_bytes.ensures)
