-- Two messages files as stages in sequence, for the mode that compares them.
use Rattle.std.proofs.Common.{◌∷◌, List, Option, []}
use Rattle.mh_outside.specs.Shelf.{Files}
use Rattle.mh_grammar.specs.Text.{Text}
use Rattle.mh_top_drive.specs.StageResults.{StageResult, Go, Gives, Then}
use Rattle.mh_top_drive.specs.FileContents.{IsFileContent}
use Rattle.mh_top_drive.proofs.ReadFilesLoop.{turn_first, turn_later}
use Rattle.mh_top_drive.specs.Shapes.{Prepared}
use Rattle.mh_top_plans.specs.MessagesFiles.{AreMessages, Messages}
use Rattle.mh_top_plans.proofs.IsNextFileOfJob.{IsNextOfMode}

module _ (p : Prepared) where
  -- The stage that gives the messages of a file from its bytes.
  abbrev pub Stage : Text → Text → StageResult Messages → Type 0
  Stage = AreMessages p.grammar p.tabled.halting

  -- The stage that reads the second file and pairs its messages with those of the first.
  abbrev pub Next : Option Files → Text → Messages → StageResult (Messages × Messages) → Type 0
  Next files second left = Then (IsFileContent files Stage second) (λ right. Gives (left, right))

  pub second_turn : (first second : Text) (files : Option Files) (left : Messages) → IsFileContent files Stage first (Go left) → IsNextOfMode p (first ∷ second ∷ []) files second
  second_turn first second files left is = turn_later files Stage first (second ∷ []) second (left, is) (turn_first files Stage second [])
