-- The definition of the text of entries whose sentences fail, each with its comment lines (Menhir manual,
-- `--update-errors`); the layout is this project's own.
use Rattle.std.specs.Prelude.{◌≡◌, ℕ, Bool, List, [], ◌∷◌, ◌++◌}
use Rattle.mh_grammar.specs.declared.types.Grammar.{Grammar}
use Rattle.mh_grammar.specs.Text.{Text}
use Rattle.mh_items_kernels.specs.KernelTypes.{Automaton}
use Rattle.mh_tables_core.specs.Table.{TableData}
use Rattle.mh_msgfile.specs.FileTexts.{sentence_text}
use Rattle.mh_report.specs.Comments.{IsCommentBlock}

-- The text is these sentences, as starts and tokens, each followed by its comment lines.
abbrev pub IsTextOfSentences : (expected : Bool) → Grammar → Automaton → TableData → List (ℕ × List ℕ) → Text → Type 0
IsTextOfSentences expected g a t [] text = text ≡ []
IsTextOfSentences expected g a t (x ∷ xs) text = (comments rest : Text) × IsCommentBlock expected g a t x.0 x.1 comments × IsTextOfSentences expected g a t xs rest × (text ≡ (sentence_text g x.0 x.1 ++ 10 ∷ comments) ++ rest)

-- The text is these entries: for each its sentences, an empty line, its message, and an empty line.
abbrev pub AreCommented : (expected : Bool) → Grammar → Automaton → TableData → List (List (ℕ × List ℕ) × Text) → Text → Type 0
AreCommented expected g a t [] text = text ≡ []
AreCommented expected g a t (e ∷ es) text = (first rest : Text) × IsTextOfSentences expected g a t e.0 first × AreCommented expected g a t es rest × (text ≡ (first ++ (10 ∷ e.1 ++ 10 ∷ [])) ++ rest)
