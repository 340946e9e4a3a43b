-- If the files are known, the bytes of a file are unique.
use Rattle.std.proofs.Common.{Some, sym, ◌∙◌, ap}
use Rattle.mh_outside.specs.Shelf.{Files}
use Rattle.mh_grammar.specs.Text.{Text}
use Rattle.mh_top_drive.specs.StageResults.{Gives}
use Rattle.mh_top_drive.proofs.Then.{IsOne}
use Rattle.mh_top_drive.specs.FileContents.{IsLoaded, loaded}

pub gives_once : {A : Type 0} (x : A) → IsOne (Gives x)
gives_once x s r p q = p ∙ sym q

pub loaded_once : (files : Files) (name : Text) → IsOne (IsLoaded (Some files) name)
loaded_once files name s r p q = p.2 ∙ ap (loaded name) (sym p.1 ∙ q.1) ∙ sym q.2
