-- Grammar files that were read are short enough for their lines and columns to be counted.
use Rattle.std.proofs.Common.{◌≡◌, ◌<◌, ◌^◌, List, [], ◌∷◌, Option, length, sym, subst}
use Rattle.std.proofs.lemmas.List.Elements.{All-cons, All-nil}
use Rattle.mh_grammar.specs.Text.{Text}
use Rattle.mh_lint_findings.specs.code.Cursors.{AreShort}
use Rattle.mh_lint_findings.specs.declared.findings.GrammarFile.{GrammarFile}
use Rattle.mh_outside.specs.Shelf.{Files}
use Rattle.mh_top_check.specs.Examination.{IsGrammarFile}
use Rattle.mh_top_drive.specs.FileContents.{AreFileContents, IsFileContent}
use Rattle.mh_top_drive.specs.StageResults.{AfterStage, Gives, Go, Halt, StageResult, Then}

abbrev IsShort : GrammarFile → Type 0
IsShort f = length f.bytes < 2 ^ 31

file_short : (files : Option Files) (name : Text) (f : GrammarFile) → IsFileContent files IsGrammarFile name (Go f) → IsShort f
file_short files name f is = at is.0 is.2
  where
    at : (read : StageResult Text) → AfterStage read (IsGrammarFile name) (Go f) → IsShort f
    at (Go bytes) spells = subst (λ (b : Text). length b < 2 ^ 31) (sym spells.1) spells.2
    at (Halt cause) same = absurd (cc)

pub files_short : (files : Option Files) (names : List Text) (found : List GrammarFile) → AreFileContents files IsGrammarFile names (Go found) → AreShort found
files_short files [] found is = let same : found ≡ [] = cc in subst AreShort (sym same) (All-nil IsShort)
files_short files (name ∷ names) found is = at (λ xs are. files_short files names xs are) is.0 is.1 is.2
  where
    after : ((xs : List GrammarFile) → AreFileContents files IsGrammarFile names (Go xs) → AreShort xs) → (f : GrammarFile) → IsFileContent files IsGrammarFile name (Go f) → (rest : StageResult (List GrammarFile)) → AreFileContents files IsGrammarFile names rest → AfterStage rest (λ xs. Gives (f ∷ xs)) (Go found) → AreShort found
    after again f spelled (Halt cause) are same = absurd (cc)
    after again f spelled (Go xs) are same = let one : f ∷ xs ≡ found = cc in subst AreShort one (All-cons IsShort f xs (file_short files name f spelled) (again xs are))

    at : ((xs : List GrammarFile) → AreFileContents files IsGrammarFile names (Go xs) → AreShort xs) → (first : StageResult GrammarFile) → IsFileContent files IsGrammarFile name first → AfterStage first (λ x. Then (AreFileContents files IsGrammarFile names) (λ xs. Gives (x ∷ xs))) (Go found) → AreShort found
    at again (Go f) spelled rest = after again f spelled rest.0 rest.1 rest.2
    at again (Halt cause) spelled same = absurd (cc)
