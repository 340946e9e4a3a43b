-- The definition of the blocks of a messages file of which the last block may have no message (Menhir manual, messages
-- files); details are this project's own.
use Rattle.std.specs.Prelude.{◌≡◌, List, option_map}
use Rattle.mh_grammar.specs.Text.{Text}
use Rattle.mh_msgfile.specs.Lines.{AreLines}
use Rattle.mh_msgfile.specs.Messages.{blocks, first_number}
use Rattle.mh_msgfile.specs.LooseFiles.{loose_entries, unpaired_block}
use Rattle.mh_msgfile.specs.declared.blocks.LooseBlocks.{LooseBlocks}

-- The blocks of the bytes: the entries of all blocks with a message, and the first line of the last block if this block
-- has none.
pub record HasBlocks (bytes : Text) (found : LooseBlocks) : Type 0 where
  pub lines : List Text
  pub are : AreLines bytes lines
  pub entries : found.file.entries ≡ loose_entries lines (blocks lines)
  pub unpaired : found.unpaired ≡ option_map first_number (unpaired_block (blocks lines))
