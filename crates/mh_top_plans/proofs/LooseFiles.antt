-- Lemmas on messages files whose sentence lines are not read: their entries exist or the last block has no message,
-- both are unique, and a file stops the work only with a refusal.
use Rattle.std.proofs.Common.{◌≡◌, ◌≤◌, ◌⊎◌, ℕ, List, map, length, Option, None, Some, refl, sym, ◌∙◌, ap, subst, inl, inr, arith}
use Rattle.bstr.specs.Text.{lines_of, without_terminator}
use Rattle.mh_grammar.specs.Text.{Text}
use Rattle.mh_msgfile.specs.Messages.{BadShape, blocks, first_number}
use Rattle.mh_msgfile.specs.LooseFiles.{loose_entries, unpaired_block, LooseSpells, LacksMessage, HasShortLines}
use Rattle.mh_msgfile.specs.declared.loose.LooseFile.{LooseFile}
use Rattle.mh_msgfile.proofs.AreLines.{lines_once, are_lines}
use Rattle.mh_msgfile.proofs.ReadsLooseEntries.{short_entries}
use Rattle.mh_check.specs.Texts.{file_line}
use Rattle.mh_outside.specs.Shelf.{Files}
use Rattle.mh_top_drive.specs.StageResults.{StageResult, Go, Halt, AfterStage}
use Rattle.mh_top_drive.specs.FileContents.{IsFileContent, IsLoaded}
use Rattle.mh_top_drive.specs.declared.files.TheConstants.{FILE_LIMIT}
use Rattle.mh_top_drive.specs.declared.stop.Cause.{Cause}
use Rattle.mh_top_drive.specs.declared.stop.Cause.TheVariants.{Refused}
use Rattle.mh_top_drive.proofs.Then.{IsOne}
use Rattle.mh_top_plans.specs.MessagesFiles.{IsLooseFile}
use Rattle.mh_top_plans.proofs.FilesOfMode.{ContentFacts, StopsAllowed, loaded_short}

-- ---- Bytes spell exactly one list of entries, or an entry of them lacks its message.

module _ (bytes : Text) where
  loose_once : (a b : LooseFile) → LooseSpells bytes a → LooseSpells bytes b → a ≡ b
  loose_once a b p q =
      let lines : p.lines ≡ q.lines = lines_once bytes p.lines p.are ∙ sym (lines_once bytes q.lines q.are) in
      let entries : a.entries ≡ b.entries = p.entries ∙ ap (λ (l : List Text). loose_entries l (blocks l)) lines ∙ sym q.entries in
      λ i. record { entries = entries i }

  lacks_once : (m n : ℕ) → LacksMessage bytes m → LacksMessage bytes n → m ≡ n
  lacks_once m n p q =
      let lines : p.lines ≡ q.lines = lines_once bytes p.lines p.are ∙ sym (lines_once bytes q.lines q.are) in
      let both : Some p.block ≡ Some q.block = sym p.unpaired ∙ ap (λ (l : List Text). unpaired_block (blocks l)) lines ∙ q.unpaired in
      let block : p.block ≡ q.block = cc in
      p.first ∙ ap first_number block ∙ sym q.first

  loose_or_lacks : (file : LooseFile) (n : ℕ) → LooseSpells bytes file → LacksMessage bytes n → ⊥
  loose_or_lacks file n p q =
      let lines : p.lines ≡ q.lines = lines_once bytes p.lines p.are ∙ sym (lines_once bytes q.lines q.are) in
      let both : None ≡ Some q.block = sym p.paired ∙ ap (λ (l : List Text). unpaired_block (blocks l)) lines ∙ q.unpaired in cc

  abbrev all_lines : List Text
  all_lines = map without_terminator (lines_of bytes)

  found : (o : Option (List ℕ)) → unpaired_block (blocks all_lines) ≡ o → ((file : LooseFile) × LooseSpells bytes file) ⊎ ((n : ℕ) × LacksMessage bytes n)
  found None is = inl (record { entries = loose_entries all_lines (blocks all_lines) }, record { lines = all_lines; are = are_lines bytes; paired = is; entries = refl })
  found (Some block) is = inr (first_number block, record { lines = all_lines; are = are_lines bytes; block = block; unpaired = is; first = refl })

  loose_exists : ((file : LooseFile) × LooseSpells bytes file) ⊎ ((n : ℕ) × LacksMessage bytes n)
  loose_exists = found (unpaired_block (blocks all_lines)) refl

-- ---- The stage that reads the entries has exactly one result.

stage_once : (name bytes : Text) → IsOne (IsLooseFile name bytes)
stage_once name bytes (Go a) (Go b) p q = ap Go (loose_once bytes a b p q)
stage_once name bytes (Go a) (Halt cause) p q = absurd (loose_or_lacks bytes a q.line p q.lacks)
stage_once name bytes (Halt cause) (Go b) p q = absurd (loose_or_lacks bytes b p.line q p.lacks)
stage_once name bytes (Halt cause) (Halt cause') p q = ap Halt (p.cause_is ∙ ap (λ (n : ℕ). Refused (file_line name (BadShape n))) (lacks_once bytes p.line q.line p.lacks q.lacks) ∙ sym q.cause_is)

stage_right : (Right : Cause → Type 0) → ((line : Text) → Right (Refused line)) → (name bytes : Text) (s : StageResult LooseFile) → IsLooseFile name bytes s → StopsAllowed Right s
stage_right Right may name bytes (Go file) is = tt
stage_right Right may name bytes (Halt cause) is = subst Right (sym is.cause_is) (may (file_line name (BadShape is.line)))

pub loose_facts : ContentFacts IsLooseFile
loose_facts = record { unique = stage_once; allowed = stage_right }

pub some_loose : (name bytes : Text) → (s : StageResult LooseFile) × IsLooseFile name bytes s
some_loose name bytes = elim (loose_exists bytes) [ inl is ↦ (Go is.0, is.1) | inr f ↦ (Halt (Refused (file_line name (BadShape f.0))), record { line = f.0; lacks = f.1; cause_is = refl }) ]

-- ---- The lines of a file that was read are short.

pub short_file : (files : Option Files) (name : Text) (file : LooseFile) → IsFileContent files IsLooseFile name (Go file) → HasShortLines file
short_file files name file is = at is.0 is.1 is.2
  where
    fits : (bytes : Text) → length bytes ≤ FILE_LIMIT → LooseSpells bytes file → HasShortLines file
    fits bytes short spells = short_entries spells.lines bytes spells.are (omega arith) (blocks spells.lines) file.entries spells.entries

    at : (read : StageResult Text) → IsLoaded files name read → AfterStage read (IsLooseFile name) (Go file) → HasShortLines file
    at (Go bytes) loads spells = fits bytes (loaded_short files name bytes loads) spells
    at (Halt cause) loads same = absurd (cc)
