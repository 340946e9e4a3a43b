-- Reading two messages files meets the definition of the stage that reads both.
use Rattle.std.proofs.Common.{◌≡◌, ◌∷◌, Option, Err, [], subst, refl, sym}
use Rattle.mh_outside.specs.Shelf.{Files}
use Rattle.mh_grammar.specs.Text.{Text}
use Rattle.mh_top_drive.specs.StageResults.{Go, Gives}
use Rattle.mh_top_drive.specs.code.StageCalls.{FileStageGives}
use Rattle.mh_top_drive.specs.declared.stop.Stop.{Stop}
use Rattle.mh_top_drive.proofs.Then.{names_wider, then_on, then_stops}
use Rattle.mh_top_drive.specs.FileContents.{IsFileContent}
use Rattle.mh_top_drive.proofs.ReadFilesLoop.{turn_first}
use Rattle.mh_top_drive.specs.Shapes.{Prepared}
use Rattle.mh_top_plans.specs.MessagesFiles.{AreMessagesOfBoth, Messages}
use Rattle.mh_top_plans.proofs.AreMessagesOfBoth.{Next, Stage, second_turn}
use Rattle.mh_top_plans.proofs.IsNextFileOfJob.{IsNextOfMode}

module _ (p : Prepared) (first second : Text) (files : Option Files) where
  abbrev Names : Text → Type 0
  Names = IsNextOfMode p (first ∷ second ∷ []) files

  pub first_stops : (stop : Stop) → FileStageGives {A = Messages} (IsFileContent files (Stage p) first) (λ other. other ≡ first) (Err stop) → FileStageGives {A = Messages × Messages} (AreMessagesOfBoth files p first second) Names (Err stop)
  first_stops stop has =
      then_stops (IsFileContent files (Stage p) first) (Next p files second) Names stop
      (names_wider (IsFileContent files (Stage p) first) (λ other. other ≡ first) Names (Err stop) (λ other is. subst Names (sym is) (turn_first files (Stage p) first (second ∷ []))) has)

  pub second_stops : (left : Messages) (stop : Stop) → IsFileContent files (Stage p) first (Go left) → FileStageGives {A = Messages} (IsFileContent files (Stage p) second) (λ other. other ≡ second) (Err stop) → FileStageGives {A = Messages × Messages} (AreMessagesOfBoth files p first second) Names (Err stop)
  second_stops left stop here has =
      then_on (IsFileContent files (Stage p) first) (Next p files second) Names left (Err stop) here
      (then_stops (IsFileContent files (Stage p) second) (λ right. Gives (left, right)) Names stop
      (names_wider (IsFileContent files (Stage p) second) (λ other. other ≡ second) Names (Err stop) (λ other is. subst Names (sym is) (second_turn p first second files left here)) has))

  pub both_read : (left right : Messages) → IsFileContent files (Stage p) first (Go left) → IsFileContent files (Stage p) second (Go right) → AreMessagesOfBoth files p first second (Go (left, right))
  both_read left right here there = (Go left, here, (Go right, there, refl))
