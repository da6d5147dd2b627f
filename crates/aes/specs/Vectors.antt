-- FIPS 197, appendix C.1: a whole encryption with its key expansion, as the checker computes it from the definitions.
-- Assumes nothing.
use Rattle.std.specs.Prelude.{◌≡◌, refl, List, [], ◌∷◌, ℕ}
use Rattle.aes.specs.Aes.{xtimes, ◌•◌, power_of, inverse, affine, s_box, sub_bytes, shift_rows, mix_column, mix_columns, add_round_key, rot_word, sub_word, xor_words, rcon, temp, expand, key_expansion, round_key, rounds, cipher}

key : List ℕ
key = 0x00 ∷ 0x01 ∷ 0x02 ∷ 0x03 ∷ 0x04 ∷ 0x05 ∷ 0x06 ∷ 0x07 ∷ 0x08 ∷ 0x09 ∷ 0x0a ∷ 0x0b ∷ 0x0c ∷ 0x0d ∷ 0x0e ∷ 0x0f ∷ []

plaintext : List ℕ
plaintext = 0x00 ∷ 0x11 ∷ 0x22 ∷ 0x33 ∷ 0x44 ∷ 0x55 ∷ 0x66 ∷ 0x77 ∷ 0x88 ∷ 0x99 ∷ 0xaa ∷ 0xbb ∷ 0xcc ∷ 0xdd ∷ 0xee ∷ 0xff ∷ []

appendix_C_1 : cipher key plaintext
    ≡ 0x69 ∷ 0xc4 ∷ 0xe0 ∷ 0xd8 ∷ 0x6a ∷ 0x7b ∷ 0x04 ∷ 0x30 ∷ 0xd8 ∷ 0xcd ∷ 0xb7 ∷ 0x80 ∷ 0x70 ∷ 0xb4 ∷ 0xc5 ∷ 0x5a ∷ []
unfolding key plaintext xtimes ◌•◌ power_of inverse affine s_box sub_bytes shift_rows mix_column mix_columns add_round_key rot_word sub_word xor_words rcon temp expand key_expansion round_key rounds cipher
appendix_C_1 = refl
