-- The definition of messages files as lines and blocks alone, before their sentence lines are read with the names of a
-- grammar (Menhir manual, messages files); details are this project's own.
use Rattle.std.specs.Prelude.{◌≡◌, ◌<◌, ◌^◌, ℕ, List, [], ◌∷◌, length, map, Option, None, Some, Result, Ok, Err, ⊤}
use Rattle.std.specs.List.{AllByRecursion}
use Rattle.mh_grammar.specs.Text.{Text}
use Rattle.mh_msgfile.specs.Lines.{AreLines, line_at}
use Rattle.mh_msgfile.specs.Messages.{blocks, message_of, first_number}
use Rattle.mh_msgfile.specs.declared.loose.LooseLine.{LooseLine}
use Rattle.mh_msgfile.specs.declared.loose.LooseEntry.{LooseEntry}
use Rattle.mh_msgfile.specs.declared.loose.LooseFile.{LooseFile}
use Rattle.mh_msgfile.specs.declared.loose.LooseFault.{LooseFault}
use Rattle.mh_msgfile.specs.declared.loose.LooseFault.TheVariants as faults

-- The line that has this number, together with the number.
abbrev pub loose_line : List Text → ℕ → LooseLine
loose_line lines number = record { line = number; text = line_at lines number }

-- The entries of these blocks: the blocks at odd positions hold sentence lines, and the block after each is their
-- message.
abbrev pub loose_entries : List Text → List (List ℕ) → List LooseEntry
loose_entries lines [] = []
loose_entries lines (block ∷ []) = []
loose_entries lines (block ∷ message ∷ rest) = record { sentences = map (loose_line lines) block; message = message_of lines message } ∷ loose_entries lines rest

-- The last block, if the number of blocks is odd: this block has no message.
abbrev pub unpaired_block : List (List ℕ) → Option (List ℕ)
unpaired_block [] = None
unpaired_block (block ∷ []) = Some block
unpaired_block (block ∷ message ∷ rest) = unpaired_block rest

-- Each block of sentence lines has a message, and the file has the entries of the bytes.
pub record LooseSpells (bytes : Text) (file : LooseFile) : Type 0 where
  pub lines : List Text
  pub are : AreLines bytes lines
  pub paired : unpaired_block (blocks lines) ≡ None
  pub entries : file.entries ≡ loose_entries lines (blocks lines)

-- The last block of the bytes has no message, and this is the number of its first line.
pub record LacksMessage (bytes : Text) (line : ℕ) : Type 0 where
  pub lines : List Text
  pub are : AreLines bytes lines
  pub block : List ℕ
  pub unpaired : unpaired_block (blocks lines) ≡ Some block
  pub first : line ≡ first_number block

-- Each sentence line has fewer than 2^32 bytes, so that the tokens of its sentence can be counted.
abbrev pub HasShortLines : LooseFile → Type 0
HasShortLines file = AllByRecursion (λ entry. AllByRecursion (λ x. length x.text < 2 ^ 32) entry.sentences) file.entries

-- ---- Results of the code.

-- The result is the file of the bytes, or the first line of the block that has no message.
abbrev pub ReadsLoose : Text → Result LooseFile LooseFault → Type 0
ReadsLoose bytes (Ok file) = LooseSpells bytes file
ReadsLoose bytes (Err (faults.Shape line)) = LacksMessage bytes line
ReadsLoose bytes (Err faults.Memory) = ⊤
