-- Lemmas on the stage that reads a file for a mode, whatever the file has: the stage has a result, the result is unique
-- if the files are known, and the stage stops the work only for an allowed cause.
use Rattle.std.proofs.Common.{◌≡◌, ◌≤◌, List, [], ◌∷◌, length, Option, None, Some, refl, sym, ◌∙◌, ap, subst}
use Rattle.mh_tables_core.specs.Halting.{HaltingFacts}
use Rattle.mh_outside.specs.Shelf.{Files, FileFound, NoFile, Long, Bytes, file_at, found_file}
use Rattle.mh_grammar.specs.Text.{Text}
use Rattle.mh_top_drive.specs.StageResults.{StageResult, Go, Halt, AfterStage, Then}
use Rattle.mh_top_drive.specs.declared.stop.Cause.{Cause}
use Rattle.mh_top_drive.specs.declared.stop.Cause.TheVariants.{Refused}
use Rattle.mh_top_drive.proofs.Then.{IsOne, then_once}
use Rattle.mh_top_drive.specs.FileContents.{IsFileContent, IsFound, IsLoaded, loaded}
use Rattle.mh_top_drive.specs.Limits.{file_limit}
use Rattle.mh_top_drive.proofs.IsLoaded.{found_fits}
use Rattle.mh_top_drive.proofs.LoadedUnique.{loaded_once}
use Rattle.mh_top_drive.proofs.ReadFilesLoop.{turn_first}
use Rattle.mh_top_drive.specs.code.Prepared.{IsConsistent}
use Rattle.mh_top_drive.specs.Shapes.{Prepared}
use Rattle.mh_top_plans.specs.MessagesFiles.{AreMessages}
use Rattle.mh_top_plans.proofs.IsNextFileOfJob.{IsNextOfMode, turn_of_one}

-- If the stage stops, its cause is one of the allowed ones.
abbrev pub StopsAllowed : {A : Type 0} → (Cause → Type 0) → StageResult A → Type 0
StopsAllowed Right (Go x) = Unit {0}
StopsAllowed Right (Halt cause) = Right cause

-- The facts that the lemmas need of the content of a file: it is unique, and a stop is a refusal.
pub record ContentFacts {A : Type 0} (Stage : Text → Text → StageResult A → Type 0) : Type 1 where
  pub unique : (name bytes : Text) → IsOne (Stage name bytes)
  pub allowed : (Right : Cause → Type 0) → ((line : Text) → Right (Refused line)) → (name bytes : Text) (s : StageResult A) → Stage name bytes s → StopsAllowed Right s

module _ {A : Type 0} (Stage : Text → Text → StageResult A → Type 0) (reading : ContentFacts Stage) where
  pub file_once : (files : Files) (name : Text) → IsOne (IsFileContent (Some files) Stage name)
  file_once files name = then_once (IsLoaded (Some files) name) (Stage name) (loaded_once files name) (reading.unique name)

  -- A file that is missing or too long stops the stage with this cause.
  pub unread_halts : (files : Files) (name : Text) (what : FileFound) (cause : Cause) (s : StageResult A) → IsFound (Some files) name what → loaded name what ≡ Halt cause → IsFileContent (Some files) Stage name s → s ≡ Halt cause
  unread_halts files name what cause s is halt of_file =
      let same : of_file.0 ≡ Halt cause = of_file.1.2 ∙ ap (loaded name) (sym of_file.1.1 ∙ is) ∙ halt in
      subst (λ (f : StageResult Text). AfterStage f (Stage name) s) same of_file.2

  module _ (Right : Cause → Type 0) (may_refuse : (line : Text) → Right (Refused line)) where
    read_right : (name : Text) (what : FileFound) (first : StageResult Text) (s : StageResult A) → first ≡ loaded name what → ((cause : Cause) → loaded name what ≡ Halt cause → Right cause) → AfterStage first (Stage name) s → StopsAllowed Right s
    read_right name what (Go bytes) s is unread on = reading.allowed Right may_refuse name bytes s on
    read_right name what (Halt cause) s is unread on = subst (StopsAllowed Right) (sym on) (unread cause (sym is))

    pub file_right : (files : Option Files) (name : Text) (s : StageResult A) → ((what : FileFound) (cause : Cause) → IsFound files name what → loaded name what ≡ Halt cause → Right cause) → IsFileContent files Stage name s → StopsAllowed Right s
    file_right files name s unread is = read_right name is.1.0 is.0 s is.1.2 (λ cause halt. unread is.1.0 cause is.1.1 halt) is.2

  module _ (some : (name bytes : Text) → length bytes ≤ file_limit → (s : StageResult A) × Stage name bytes s) where
    some_found : (files : Files) (name : Text) (what : FileFound) → found_file files name file_limit ≡ what → (s : StageResult A) × IsFileContent (Some files) Stage name s
    some_found files name NoFile is = (Halt _, (loaded name NoFile, (NoFile, is, refl), refl))
    some_found files name Long is = (Halt _, (loaded name Long, (Long, is, refl), refl))
    some_found files name (Bytes bytes) is = let s = some name bytes (found_fits file_limit (file_at files name) bytes is) in (s.0, (Go bytes, (Bytes bytes, is, refl), s.1))

    pub some_file : (files : Option Files) (name : Text) → (s : StageResult A) × IsFileContent files Stage name s
    some_file None name = (Halt _, (loaded name Long, (Long, tt, refl), refl))
    some_file (Some files) name = some_found files name (found_file files name file_limit) refl

-- The bytes that were read are within the limit.
pub loaded_short : (files : Option Files) (name bytes : Text) → IsLoaded files name (Go bytes) → length bytes ≤ file_limit
loaded_short files name bytes is = at files is.0 is.1 is.2
  where
    at : (fs : Option Files) (what : FileFound) → IsFound fs name what → Go bytes ≡ loaded name what → length bytes ≤ file_limit
    at fs NoFile found_file same = absurd (cc)
    at fs Long found_file same = absurd (cc)
    at None (Bytes read) found_file same = let one : read ≡ bytes = cc in subst (λ (b : Text). length b ≤ file_limit) one found_file
    at (Some told) (Bytes read) found_file same = let one : read ≡ bytes = cc in subst (λ (b : Text). length b ≤ file_limit) one (found_fits file_limit (file_at told name) read found_file)

-- ---- The files of a mode.

-- The prepared grammar, automaton and table belong together, and every run on the table ends.
pub record PreparedFacts (p : Prepared) : Type 0 where
  pub halts : HaltingFacts p.tabled.halting
  pub consistent : IsConsistent p

-- The facts on a stage that reads these files: the stage has a result, which is unique if the files are known; a file
-- that cannot be read stops the work, and the stage stops the work only for an allowed cause.
pub record ReadFacts {A : Type 0} (p : Prepared) (names : List Text) (Has : Option Files → StageResult A → Type 0) : Type 1 where
  pub some : (files : Option Files) → PreparedFacts p → (s : StageResult A) × Has files s
  pub unique : (files : Files) → IsOne (Has (Some files))
  pub unread : (files : Files) (name : Text) (what : FileFound) (cause : Cause) (s : StageResult A) → IsNextOfMode p names (Some files) name → IsFound (Some files) name what → loaded name what ≡ Halt cause → Has (Some files) s → s ≡ Halt cause
  pub allowed : (Right : Cause → Type 0) → ((line : Text) → Right (Refused line)) → (files : Option Files) (s : StageResult A) → ((name : Text) (what : FileFound) (cause : Cause) → IsNextOfMode p names files name → IsFound files name what → loaded name what ≡ Halt cause → Right cause) → Has files s → StopsAllowed Right s

-- The facts are true of a stage that reads one file.
pub one_file : {A : Type 0} (p : Prepared) (file : Text) (Stage : Text → Text → StageResult A → Type 0) → ContentFacts Stage → (PreparedFacts p → (name bytes : Text) → length bytes ≤ file_limit → (s : StageResult A) × Stage name bytes s) → ReadFacts p (file ∷ []) (λ files. IsFileContent files Stage file)
one_file p file Stage reading some = record {
  some = λ files runs. some_file Stage reading (some runs) files file;
  unique = λ files. file_once Stage reading files file;
  unread = λ files name what cause s turn found_file halt is.
      let same = turn_of_one p (Some files) name file turn in
      unread_halts Stage reading files file what cause s (subst (λ (n : Text). IsFound (Some files) n what) (sym same) found_file) (subst (λ (n : Text). loaded n what ≡ Halt cause) (sym same) halt) is;
  allowed = λ Right may files s of_file is. file_right Stage reading Right may files file s (λ what cause found_file halt. of_file file what cause (turn_first files (AreMessages p.grammar p.tabled.halting) file []) found_file halt) is;
}

-- The facts are also true of such a stage with one more stage after it that reads no file.
module _ {A B : Type 0} (p : Prepared) (names : List Text) (Has : Option Files → StageResult A → Type 0) (read : ReadFacts p names Has) (Of : A → StageResult B → Type 0) (once : (x : A) → IsOne (Of x)) (right : (Right : Cause → Type 0) → ((line : Text) → Right (Refused line)) → (x : A) (s : StageResult B) → Of x s → StopsAllowed Right s) (some : (files : Option Files) → PreparedFacts p → (x : A) → Has files (Go x) → (s : StageResult B) × Of x s) where
  some_then : (files : Option Files) → PreparedFacts p → (first : StageResult A) → Has files first → (s : StageResult B) × Then (Has files) Of s
  some_then files runs (Go x) is = let s = some files runs x is in (s.0, (Go x, is, s.1))
  some_then files runs (Halt cause) is = (Halt cause, (Halt cause, is, refl))

  then_right : (Right : Cause → Type 0) → ((line : Text) → Right (Refused line)) → (first : StageResult A) (s : StageResult B) → StopsAllowed Right first → AfterStage first Of s → StopsAllowed Right s
  then_right Right may (Go x) s ok on = right Right may x s on
  then_right Right may (Halt cause) s ok on = subst (StopsAllowed Right) (sym on) ok

  pub read_then : ReadFacts p names (λ files. Then (Has files) Of)
  read_then = record {
    some = λ files runs. let first = read.some files runs in some_then files runs first.0 first.1;
    unique = λ files. then_once (Has (Some files)) Of (read.unique files) once;
    unread = λ files name what cause s turn found_file halt is. let same = read.unread files name what cause is.0 turn found_file halt is.1 in subst (λ (t : StageResult A). AfterStage t Of s) same is.2;
    allowed = λ Right may files s of_file is. then_right Right may is.0 s (read.allowed Right may files is.0 of_file is.1) is.2;
  }
