-- Relates the blocks of a file to its entries: if no last block is without a message, the bytes spell a file of entries
-- (`LooseSpells`); otherwise the bytes lack a message (`LacksMessage`).
use Rattle.std.proofs.Common.{◌≡◌, ℕ, List, Option, Some, None, refl, sym, ◌∙◌}
use Rattle.std.specs.Prelude.{option_map}
use Rattle.mh_grammar.specs.Text.{Text}
use Rattle.mh_msgfile.specs.Messages.{blocks, first_number}
use Rattle.mh_msgfile.specs.LooseFiles.{unpaired_block, LooseSpells, LacksMessage}
use Rattle.mh_msgfile.specs.FileBlocks.{HasBlocks}
use Rattle.mh_msgfile.specs.declared.blocks.LooseBlocks.{LooseBlocks}

none_if_no_line : (o : Option (List ℕ)) → None ≡ option_map first_number o → o ≡ None
none_if_no_line None e = refl
none_if_no_line (Some block) e = absurd (cc)

block_of_line : (o : Option (List ℕ)) (line : ℕ) → Some line ≡ option_map first_number o → (block : List ℕ) × (o ≡ Some block) × (line ≡ first_number block)
block_of_line None line e = absurd (cc)
block_of_line (Some block) line e = (block, refl, cc)

pub loose_if_paired : (bytes : Text) (found : LooseBlocks) → HasBlocks bytes found → found.unpaired ≡ None → LooseSpells bytes found.file
loose_if_paired bytes found h none = record { lines = h.lines; are = h.are; paired = none_if_no_line (unpaired_block (blocks h.lines)) (sym none ∙ h.unpaired); entries = h.entries }

pub lacks_message_if_unpaired : (bytes : Text) (found : LooseBlocks) (line : ℕ) → HasBlocks bytes found → found.unpaired ≡ Some line → LacksMessage bytes line
lacks_message_if_unpaired bytes found line h some =
    let (block, unpaired, first) = block_of_line (unpaired_block (blocks h.lines)) line (sym some ∙ h.unpaired) in
    record { lines = h.lines; are = h.are; block = block; unpaired = unpaired; first = first }
