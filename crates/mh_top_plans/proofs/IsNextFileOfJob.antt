-- Lemmas on the next file to read, for modes with no file or one file.
use Rattle.std.proofs.Common.{◌≡◌, ◌++◌, ◌∷◌, List, Option, None, Some, [], ap}
use Rattle.mh_outside.specs.Shelf.{Files}
use Rattle.mh_grammar.specs.Text.{Text}
use Rattle.mh_top_drive.specs.Shapes.{Prepared}
use Rattle.mh_top_drive.specs.NextFile.{IsNextFile}
use Rattle.mh_top_plans.specs.Files.{optional_file}
use Rattle.mh_top_plans.specs.MessagesFiles.{AreMessages}

abbrev pub IsNextOfMode : Prepared → List Text → Option Files → Text → Type 0
IsNextOfMode p names files name = IsNextFile files (AreMessages p.grammar p.tabled.halting) names name

pub nil_not_split : (before after : List Text) (name : Text) → [] ≡ before ++ name ∷ after → ⊥
nil_not_split [] after name is = cc
nil_not_split (b ∷ before) after name is = cc

pub one_is : (before after : List Text) (name file : Text) → file ∷ [] ≡ before ++ name ∷ after → file ≡ name
one_is [] after name file is = cc
one_is (b ∷ before) after name file is = let none : [] ≡ before ++ name ∷ after = cc in absurd (nil_not_split before after name none)

module _ (p : Prepared) (files : Option Files) (name : Text) where
  pub no_turn : IsNextOfMode p [] files name → ⊥
  no_turn turn = nil_not_split turn.before turn.after name turn.names_are

  pub turn_of_one : (file : Text) → IsNextOfMode p (file ∷ []) files name → file ≡ name
  turn_of_one file turn = one_is turn.before turn.after name file turn.names_are

  pub turn_of_named : (file : Option Text) → IsNextOfMode p (optional_file file) files name → file ≡ Some name
  turn_of_named None turn = absurd (no_turn turn)
  turn_of_named (Some file) turn = ap Some (turn_of_one file turn)
