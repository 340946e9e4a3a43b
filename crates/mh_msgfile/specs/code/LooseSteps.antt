-- The contract of the steps that read a messages file without a grammar.
use Rattle.std.specs.Prelude.{◌≡◌, ℕ, List, Option, option_map}
use Rattle.mh_grammar.specs.Text.{Text}
use Rattle.mh_msgfile.specs.Messages.{first_number}
use Rattle.mh_msgfile.specs.LooseFiles.{loose_entries, unpaired_block}
use Rattle.mh_msgfile.specs.declared.loose.LooseEntry.{LooseEntry}

-- The entries are those of these blocks, and the number is that of the first line of the last block, if this block has
-- no message.
pub record ReadsLooseEntries (lines : List Text) (bs : List (List ℕ)) (entries : List LooseEntry) (unpaired : Option ℕ) : Type 0 where
  pub entries_are : entries ≡ loose_entries lines bs
  pub unpaired_is : unpaired ≡ option_map first_number (unpaired_block bs)
