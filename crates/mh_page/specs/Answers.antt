-- The answer to a call over what a caller gives: the status, the whole texts on out and err, and what the rooms of the
-- caller hold of these texts (the program run over memory is this project's own).
use Rattle.std.specs.Prelude.{◌≡◌, ℕ, List, [], Some, codes}
use Rattle.std.specs.List.{AllByRecursion}
use Rattle.std.specs.Str.{IsUtf8}
use Rattle.mh_grammar.specs.Text.{Text}
use Rattle.mh_outside.specs.Shelf.{Files, HasDistinctNames}
use Rattle.mh_top_claims.specs.Run.{World, Ran}
use Rattle.mh_page.specs.Given.{Given}
use Rattle.mh_page.specs.Rooms.{Holds}

-- Devices that never fail: these files, the rest of the input, and the texts on out and err.
abbrev pub devices : Files → Text → Text → Text → World
devices files left out err = record {
  files = Some files;
  left = Some left;
  out = Some out;
  err = Some err;
  shelf_faults = 0;
  input_faults = 0;
  out_faults = 0;
  err_faults = 0;
}

-- The devices before a run: the given files and input, and nothing written.
abbrev pub before : Given → World
before g = devices g.files g.input [] []

-- The devices after a run: the files as they were, the rest of the input, and the texts on out and err.
abbrev pub after : Given → Text → Text → Text → World
after g = devices g.files

-- A run of the program on the given words, files and input, which wrote these texts and ended with this status.
pub record IsRun (g : Given) (out err : Text) (status : ℕ) : Type 0 where
  pub left : Text
  pub ran : Ran g.words (before g) (after g left out err) status

-- The line on err if a word is not UTF-8.
abbrev pub bad_words : Text
bad_words = codes "menhir: usage: bad words\n"

-- The line on err if two files have the same name.
abbrev pub two_files_of_one_name : Text
two_files_of_one_name = codes "menhir: usage: two files of one name\n"

-- The words are UTF-8.
abbrev pub AreUtf8 : List Text → Type 0
AreUtf8 = AllByRecursion IsUtf8

-- The texts and the status for what is given. If a word is not UTF-8, or two files have the same name, the status is 2
-- and err has one line; otherwise they are those of a run. (If memory runs out, the status of a run is 6.)
pub data IsAnswer (g : Given) (out err : Text) (status : ℕ) : Type 0 where
  BadWords : (AreUtf8 g.words → ⊥) → status ≡ 2 → out ≡ [] → err ≡ bad_words → IsAnswer g out err status
  TwoFilesOfOneName : AreUtf8 g.words → (HasDistinctNames g.files → ⊥) → status ≡ 2 → out ≡ [] → err ≡ two_files_of_one_name → IsAnswer g out err status
  Done : AreUtf8 g.words → HasDistinctNames g.files → IsRun g out err status → IsAnswer g out err status

-- The rooms for out and err hold the first bytes of the texts of an answer, and the lengths are those of the whole
-- texts.
pub record Answers (g : Given) (out_old out_new : Text) (out_len : ℕ) (err_old err_new : Text) (err_len status : ℕ) : Type 0 where
  pub out : Text
  pub err : Text
  pub is_answer : IsAnswer g out err status
  pub on_out : Holds out out_old out_new out_len
  pub on_err : Holds err err_old err_new err_len
