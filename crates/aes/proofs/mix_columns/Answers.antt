-- `aes::mix_columns` meets its contract: each call gives a column of the definition. Assumes nothing.
use Rattle.aes.specs.Aes.{mix_columns}
use Rattle.aes.proofs.mix_columns.Goals as goal

pub returns : goal.returns
unfolding mix_columns
returns c =
    rw (c.mix_column.ensures, c.mix_column-2.ensures, c.mix_column-3.ensures, c.mix_column-4.ensures)
