-- The text of lines grows by one line.
use Rattle.std.proofs.Common.{◌≡◌, ℕ, ◌+◌, ◌<◌, List, [], ◌∷◌, ◌++◌, length, get_or, take, ap, ◌∙◌, refl, sym}
use Rattle.std.proofs.lemmas.Grind.{flat_map-append}
use Rattle.std.proofs.lemmas.List.{append-nil}
use Rattle.mh_grammar.specs.Text.{Text}
use Rattle.mh_grammar.proofs.Lists.{map_step}
use Rattle.mh_lint_findings.specs.declared.findings.Finding.{Finding}
use Rattle.mh_lint_findings.specs.declared.findings.GrammarFile.{GrammarFile}
use Rattle.mh_lint_findings.specs.Lines.{line_of, line_text, lines_of, lines_text}

-- The text of the first i + 1 lines is that of the first i lines, and then the line of the next finding.
pub lines_more : (files : List GrammarFile) (xs : List Finding) (i : ℕ) (x : Finding) (old new : Text) → i < length xs → x ≡ get_or xs i x → old ≡ lines_text files (lines_of (take i xs)) → new ≡ old ++ line_text files (line_of x) → new ≡ lines_text files (lines_of (take (i + 1) xs))
lines_more files xs i x old new l at before is =
    let more : lines_of (take (i + 1) xs) ≡ lines_of (take i xs) ++ line_of x ∷ [] = sym (map_step line_of xs i x x (lines_of (take i xs)) (lines_of (take i xs) ++ line_of x ∷ []) (line_of x) l at refl refl refl) in
    let text : lines_text files (lines_of (take (i + 1) xs)) ≡ lines_text files (lines_of (take i xs)) ++ line_text files (line_of x) =
    ap (lines_text files) more ∙ flat_map-append (line_text files) (lines_of (take i xs)) (line_of x ∷ []) ∙ ap (λ t. lines_text files (lines_of (take i xs)) ++ t) (append-nil (line_text files (line_of x))) in
    is ∙ ap (λ t. t ++ line_text files (line_of x)) before ∙ sym text
