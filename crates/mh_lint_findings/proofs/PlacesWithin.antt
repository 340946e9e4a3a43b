-- A place within files: its file, and the length of the file.
use Rattle.std.proofs.Common.{◌≡◌, ℕ, ◌<◌, ◌≤◌, ◌^◌, List, length, get_or, Some, sym, ap, ◌∙◌}
use Rattle.std.specs.List.{slice_get}
use Rattle.std.proofs.lemmas.List.Elements.{All-contains}
use Rattle.std.proofs.lemmas.Option.{get_or_from_slice_get, slice_get_within, same_Some}
use Rattle.mh_grammar.proofs.Lists.{contains_at}
use Rattle.mh_lint_findings.specs.declared.cursor.Cursor.{Cursor}
use Rattle.mh_lint_findings.specs.declared.findings.GrammarFile.{GrammarFile}
use Rattle.mh_lint_findings.specs.declared.findings.Position.TheVariants.{InFile}
use Rattle.mh_lint_findings.specs.Positions.{IsPositionWithin}
use Rattle.mh_lint_findings.specs.code.Cursors.{AreShort, IsAt, IsAtIn}

-- What is known of the file that was read at the index of a place within files.
pub record IsPlaceKnown (files : List GrammarFile) (file start : ℕ) (g : GrammarFile) : Type 0 where
  pub index : file < length files
  pub at : slice_get files file ≡ Some g
  pub within : start ≤ length g.bytes
  pub short : length g.bytes < 2 ^ 31

pub index_within : (files : List GrammarFile) (file start : ℕ) → IsPositionWithin files (InFile file start) → file < length files
index_within files file start w = slice_get_within files file w.0 w.1

pub place_known : (files : List GrammarFile) (file start : ℕ) (g : GrammarFile) → IsPositionWithin files (InFile file start) → AreShort files → g ≡ get_or files file g → IsPlaceKnown files file start g
place_known files file start g w short at =
    let same : g ≡ w.0 = at ∙ get_or_from_slice_get files file w.0 g w.1 in
    let here : slice_get files file ≡ Some g = rw same w.1 in
    record {
      index = slice_get_within files file w.0 w.1;
      at = here;
      within = rw same w.2;
      short = All-contains (λ (f : GrammarFile). length f.bytes < 2 ^ 31) files g short (contains_at files file g here);
    }

-- A cursor in a file is one in the files, and the other way round.
pub at_in : (files : List GrammarFile) (file : ℕ) (g : GrammarFile) (c : Cursor) → slice_get files file ≡ Some g → c.file ≡ file → IsAt g.bytes c → IsAtIn files c
at_in files file g c at same is = λ f e. (let equal : f ≡ g = same_Some _ _ (sym e ∙ ap (slice_get files) same ∙ at) in rw equal is)

pub in_at : (files : List GrammarFile) (file : ℕ) (g : GrammarFile) (c : Cursor) → slice_get files file ≡ Some g → IsAtIn files c → c.file ≡ file → IsAt g.bytes c
in_at files file g c at is same = is g (ap (slice_get files) same ∙ at)
