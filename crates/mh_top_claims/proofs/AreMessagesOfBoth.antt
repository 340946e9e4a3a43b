-- Proves that the stage that reads two messages files has a result, that the result is unique if the files are known,
-- and that the stage stops the work only for an allowed cause.
use Rattle.std.proofs.Common.{◌≡◌, ◌∙◌, ◌⊎◌, ◌++◌, ◌∷◌, ap₂, inl, inr, List, Option, Some, [], sym, subst, refl}
use Rattle.std.specs.List.{All}
use Rattle.std.proofs.lemmas.List.Elements.{All-head}
use Rattle.mh_outside.specs.Shelf.{Files, FileFound}
use Rattle.mh_grammar.specs.Text.{Text}
use Rattle.mh_top_drive.specs.StageResults.{StageResult, Go, Halt, Gives, AfterStage}
use Rattle.mh_top_drive.specs.declared.stop.Cause.{Cause}
use Rattle.mh_top_drive.specs.declared.stop.Cause.TheVariants.{Refused}
use Rattle.mh_top_drive.proofs.Then.{IsOne, then_once}
use Rattle.mh_top_drive.specs.FileContents.{IsFileContent, IsFound, loaded}
use Rattle.mh_top_drive.specs.NextFile.{HasContent}
use Rattle.mh_top_drive.proofs.ReadFilesLoop.{turn_first}
use Rattle.mh_top_drive.specs.Shapes.{Prepared}
use Rattle.mh_top_plans.specs.MessagesFiles.{AreMessagesOfBoth, Messages}
use Rattle.mh_top_plans.proofs.MessagesFileLines.{messages_facts, some_checked}
use Rattle.mh_top_plans.proofs.AreMessagesOfBoth.{Next, Stage, second_turn}
use Rattle.mh_top_plans.proofs.FilesOfMode.{ReadFacts, ContentFacts, PreparedFacts, StopsAllowed, file_once, file_right, some_file, unread_halts}
use Rattle.mh_top_plans.proofs.IsNextFileOfJob.{IsNextOfMode, nil_not_split, one_is}

module _ (p : Prepared) (first second : Text) where
  checked : ContentFacts (Stage p)
  checked = messages_facts p.grammar p.tabled.halting

  some_next : (files : Option Files) → PreparedFacts p → (left : Messages) → (s : StageResult (Messages × Messages)) × Next p files second left s
  some_next files runs left = at (some_file (Stage p) checked (some_checked p.grammar p.tabled.halting runs.halts runs.consistent.table.grammar) files second).0 (some_file (Stage p) checked (some_checked p.grammar p.tabled.halting runs.halts runs.consistent.table.grammar) files second).1
    where
      at : (s : StageResult Messages) → IsFileContent files (Stage p) second s → (t : StageResult (Messages × Messages)) × Next p files second left t
      at (Go right) is = (Go (left, right), (Go right, is, refl))
      at (Halt cause) is = (Halt cause, (Halt cause, is, refl))

  some_both : (files : Option Files) → PreparedFacts p → (s : StageResult (Messages × Messages)) × AreMessagesOfBoth files p first second s
  some_both files runs = at (some_file (Stage p) checked (some_checked p.grammar p.tabled.halting runs.halts runs.consistent.table.grammar) files first).0 (some_file (Stage p) checked (some_checked p.grammar p.tabled.halting runs.halts runs.consistent.table.grammar) files first).1
    where
      at : (s : StageResult Messages) → IsFileContent files (Stage p) first s → (t : StageResult (Messages × Messages)) × AreMessagesOfBoth files p first second t
      at (Go left) is = let next = some_next files runs left in (next.0, (Go left, is, next.1))
      at (Halt cause) is = (Halt cause, (Halt cause, is, refl))

  both_once : (files : Files) → IsOne (AreMessagesOfBoth (Some files) p first second)
  both_once files = then_once (IsFileContent (Some files) (Stage p) first) (Next p (Some files) second) (file_once (Stage p) checked files first) (λ left. then_once (IsFileContent (Some files) (Stage p) second) (λ right. Gives (left, right)) (file_once (Stage p) checked files second) (λ right s r is so. is ∙ sym so))

  next_right : (Right : Cause → Type 0) → ((line : Text) → Right (Refused line)) → (files : Option Files) (left : Messages) (s : StageResult (Messages × Messages)) → ((what : FileFound) (cause : Cause) → IsFound files second what → loaded second what ≡ Halt cause → Right cause) → Next p files second left s → StopsAllowed Right s
  next_right Right may files left s unread is = at is.0 (file_right (Stage p) checked Right may files second is.0 unread is.1) is.2
    where
      at : (t : StageResult Messages) → StopsAllowed Right t → AfterStage t (λ right. Gives (left, right)) s → StopsAllowed Right s
      at (Go right) ok on = subst (StopsAllowed Right) (sym on) tt
      at (Halt cause) ok on = subst (StopsAllowed Right) (sym on) ok

  both_right : (Right : Cause → Type 0) → ((line : Text) → Right (Refused line)) → (files : Option Files) (s : StageResult (Messages × Messages)) → ((name : Text) (what : FileFound) (cause : Cause) → IsNextOfMode p (first ∷ second ∷ []) files name → IsFound files name what → loaded name what ≡ Halt cause → Right cause) → AreMessagesOfBoth files p first second s → StopsAllowed Right s
  both_right Right may files s of_file is = at is.0 is.1 (file_right (Stage p) checked Right may files first is.0 (λ what cause found halt. of_file first what cause (turn_first files (Stage p) first (second ∷ [])) found halt) is.1) is.2
    where
      at : (t : StageResult Messages) → IsFileContent files (Stage p) first t → StopsAllowed Right t → AfterStage t (Next p files second) s → StopsAllowed Right s
      at (Go left) here ok on = next_right Right may files left s (λ what cause found halt. of_file second what cause (second_turn p first second files left here) found halt) on
      at (Halt cause) here ok on = subst (StopsAllowed Right) (sym on) ok

  -- The next file to read is the first, or the second after the first was read.
  later_is : (before after : List Text) (name : Text) → first ∷ second ∷ [] ≡ before ++ name ∷ after → (before ≡ []) × (first ≡ name) ⊎ (before ≡ first ∷ []) × (second ≡ name)
  later_is [] after name is = inl (refl, cc)
  later_is (b ∷ before) after name is =
      let rest : second ∷ [] ≡ before ++ name ∷ after = cc in
      let same : first ≡ b = cc in
      inr (ap₂ (λ (x : Text) (l : List Text). x ∷ l) (sym same) (none_before before after name rest), one_is before after name second rest)
    where
      none_before : (l m : List Text) (n : Text) → second ∷ [] ≡ l ++ n ∷ m → l ≡ []
      none_before [] m n is = refl
      none_before (x ∷ l) m n is = let none : [] ≡ l ++ n ∷ m = cc in absurd (nil_not_split l m n none)

  module _ (files : Files) (what : FileFound) (cause : Cause) (s : StageResult (Messages × Messages)) where
    first_halts : IsFound (Some files) first what → loaded first what ≡ Halt cause → AreMessagesOfBoth (Some files) p first second s → s ≡ Halt cause
    first_halts found halt is = let same = unread_halts (Stage p) checked files first what cause is.0 found halt is.1 in subst (λ (t : StageResult Messages). AfterStage t (Next p (Some files) second) s) same is.2

    second_halts : (left : Messages) → IsFileContent (Some files) (Stage p) first (Go left) → IsFound (Some files) second what → loaded second what ≡ Halt cause → AreMessagesOfBoth (Some files) p first second s → s ≡ Halt cause
    second_halts left here found halt is =
        let same : is.0 ≡ Go left = file_once (Stage p) checked files first is.0 (Go left) is.1 here in
        let next : Next p (Some files) second left s = subst (λ (t : StageResult Messages). AfterStage t (Next p (Some files) second) s) same is.2 in
        let halts = unread_halts (Stage p) checked files second what cause next.0 found halt next.1 in
        subst (λ (t : StageResult Messages). AfterStage t (λ right. Gives (left, right)) s) halts next.2

    both_unread : (name : Text) → IsNextOfMode p (first ∷ second ∷ []) (Some files) name → IsFound (Some files) name what → loaded name what ≡ Halt cause → AreMessagesOfBoth (Some files) p first second s → s ≡ Halt cause
    both_unread name turn found halt is = elim (later_is turn.before turn.after name turn.names_are) [
      | inl (none, same) ↦ first_halts (subst (λ (n : Text). IsFound (Some files) n what) (sym same) found) (subst (λ (n : Text). loaded n what ≡ Halt cause) (sym same) halt) is
      | inr (one, same) ↦ (
          let spelled : All (HasContent (Some files) (Stage p)) (first ∷ []) = subst (All (HasContent (Some files) (Stage p))) one turn.spelled in
          let here = All-head (HasContent (Some files) (Stage p)) first [] spelled in
          second_halts here.0 here.1 (subst (λ (n : Text). IsFound (Some files) n what) (sym same) found) (subst (λ (n : Text). loaded n what ≡ Halt cause) (sym same) halt) is)
    ]

  pub two_files : ReadFacts p (first ∷ second ∷ []) (λ files. AreMessagesOfBoth files p first second)
  two_files = record {
    some = some_both;
    unique = both_once;
    unread = λ files name what cause s turn found halt is. both_unread files what cause s name turn found halt is;
    allowed = both_right;
  }
