-- Lemmas on messages files that are examined: their blocks exist and are unique, and no such file stops the work.
use Rattle.std.proofs.Common.{◌≡◌, ◌≤◌, List, map, length, Option, refl, sym, ◌∙◌, ap, subst, arith}
use Rattle.std.specs.Prelude.{option_map}
use Rattle.bstr.specs.Text.{lines_of, without_terminator}
use Rattle.mh_grammar.specs.Text.{Text}
use Rattle.mh_msgfile.specs.Messages.{blocks, first_number}
use Rattle.mh_msgfile.specs.LooseFiles.{loose_entries, unpaired_block, HasShortLines}
use Rattle.mh_msgfile.specs.FileBlocks.{HasBlocks}
use Rattle.mh_msgfile.specs.declared.blocks.LooseBlocks.{LooseBlocks}
use Rattle.mh_msgfile.proofs.AreLines.{lines_once, are_lines}
use Rattle.mh_msgfile.proofs.ReadsLooseEntries.{short_entries}
use Rattle.mh_outside.specs.Shelf.{Files}
use Rattle.mh_top_drive.specs.Limits.{file_limit}
use Rattle.mh_top_drive.specs.StageResults.{StageResult, Go, Halt, AfterStage}
use Rattle.mh_top_drive.specs.FileContents.{IsFileContent, IsLoaded}
use Rattle.mh_top_drive.specs.declared.stop.Cause.{Cause}
use Rattle.mh_top_drive.specs.declared.stop.Cause.TheVariants.{Refused}
use Rattle.mh_top_drive.proofs.Then.{IsOne}
use Rattle.mh_top_plans.specs.MessagesFiles.{AreLooseBlocks}
use Rattle.mh_top_plans.proofs.FilesOfMode.{ContentFacts, StopsAllowed, loaded_short}

-- ---- Bytes have exactly one list of blocks.

module _ (bytes : Text) where
  blocks_once : (a b : LooseBlocks) → HasBlocks bytes a → HasBlocks bytes b → a ≡ b
  blocks_once a b p q =
      let lines : p.lines ≡ q.lines = lines_once bytes p.lines p.are ∙ sym (lines_once bytes q.lines q.are) in
      let entries : a.file.entries ≡ b.file.entries = p.entries ∙ ap (λ (l : List Text). loose_entries l (blocks l)) lines ∙ sym q.entries in
      let unpaired : a.unpaired ≡ b.unpaired = p.unpaired ∙ ap (λ (l : List Text). option_map first_number (unpaired_block (blocks l))) lines ∙ sym q.unpaired in
      λ i. record { file = record { entries = entries i }; unpaired = unpaired i }

  abbrev all_lines : List Text
  all_lines = map without_terminator (lines_of bytes)

  blocks_exist : (found : LooseBlocks) × HasBlocks bytes found
  blocks_exist = (
    record { file = record { entries = loose_entries all_lines (blocks all_lines) }; unpaired = option_map first_number (unpaired_block (blocks all_lines)) },
    record { lines = all_lines; are = are_lines bytes; entries = refl; unpaired = refl },
  )

-- ---- The stage that reads the blocks of the named file.

stage_once : (name bytes : Text) → IsOne (AreLooseBlocks name bytes)
stage_once name bytes (Go a) (Go b) p q = ap Go (blocks_once bytes a b p q)
stage_once name bytes (Go a) (Halt cause) p q = absurd q
stage_once name bytes (Halt cause) (Go b) p q = absurd p
stage_once name bytes (Halt cause) (Halt cause') p q = absurd p

stage_right : (Right : Cause → Type 0) → ((line : Text) → Right (Refused line)) → (name bytes : Text) (s : StageResult LooseBlocks) → AreLooseBlocks name bytes s → StopsAllowed Right s
stage_right Right may name bytes (Go found) is = tt
stage_right Right may name bytes (Halt cause) is = absurd is

pub blocks_facts : ContentFacts AreLooseBlocks
blocks_facts = record { unique = stage_once; allowed = stage_right }

pub some_blocks : (name bytes : Text) → (s : StageResult LooseBlocks) × AreLooseBlocks name bytes s
some_blocks name bytes = let found = blocks_exist bytes in (Go found.0, found.1)

-- ---- The lines of a file that was read are short.

pub short_blocks : (files : Option Files) (name : Text) (found : LooseBlocks) → IsFileContent files AreLooseBlocks name (Go found) → HasShortLines found.file
short_blocks files name found is = at is.0 is.1 is.2
  where
    fits : (bytes : Text) → length bytes ≤ file_limit → HasBlocks bytes found → HasShortLines found.file
    fits bytes short has = short_entries has.lines bytes has.are (omega arith) (blocks has.lines) found.file.entries has.entries

    at : (read : StageResult Text) → IsLoaded files name read → AfterStage read (AreLooseBlocks name) (Go found) → HasShortLines found.file
    at (Go bytes) loads has = fits bytes (loaded_short files name bytes loads) has
    at (Halt cause) loads same = absurd (cc)
