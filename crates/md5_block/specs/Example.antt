-- The digest of the empty message (RFC 1321, section A.5), computed from the definitions: one block of the byte 0x80 and zeros.
-- The whole test suite is run on the code by the program `vectors`. Assumes nothing.
use Rattle.std.specs.Prelude.{◌≡◌, ℕ, List, [], ◌∷◌, replicate, refl}
use Rattle.md5_block.specs.Md5.{mix, word_number, rotation, sine, additive, rotate_left, step, steps_from, word_at, words_from, added, block_of}

-- the state before the first block (section 3.3)
abbrev initial : List ℕ
initial = 0x6745_2301 ∷ 0xefcd_ab89 ∷ 0x98ba_dcfe ∷ 0x1032_5476 ∷ []

-- d41d8cd98f00b204e9800998ecf8427e, in words
empty_message : block_of initial (0x80 ∷ replicate 63 0) ≡ 0xd98c_1dd4 ∷ 0x04b2_008f ∷ 0x9809_80e9 ∷ 0x7e42_f8ec ∷ []
unfolding mix word_number rotation sine additive rotate_left step steps_from word_at words_from added block_of
empty_message = refl
