-- Code, types and comments, up to their closing delimiters (a rule of this project).
use Rattle.std.specs.Prelude.{◌≡◌, ℕ, List, drop}
use Rattle.mh_lex.specs.declared.code.Delimiter.{Delimiter}
use Rattle.mh_lex.specs.declared.code.Delimiter.TheVariants.{Comment}
use Rattle.mh_lex.specs.declared.code.CodeStep.TheVariants.{Closes, Passes, Nests, Remark}
use Rattle.mh_lex.specs.CodeSteps.{step}

-- The bytes after an opening, up to its closing delimiter; `rest` are the bytes that follow. A nested level and a
-- comment inside are bodies themselves; code that is not closed has no body.
pub data Body : Delimiter → List ℕ → List ℕ → Type 0 where
  closes : {e : Delimiter} {bytes rest : List ℕ} {n : ℕ} → step e bytes ≡ Closes n → rest ≡ drop n bytes → Body e bytes rest
  passes : {e : Delimiter} {bytes rest : List ℕ} {n : ℕ} → step e bytes ≡ Passes n → Body e (drop n bytes) rest → Body e bytes rest
  nests : {e : Delimiter} {bytes mid rest : List ℕ} → step e bytes ≡ Nests → Body e (drop 1 bytes) mid → Body e mid rest → Body e bytes rest
  remark : {e : Delimiter} {bytes mid rest : List ℕ} → step e bytes ≡ Remark → Body Comment (drop 2 bytes) mid → Body e mid rest → Body e bytes rest
