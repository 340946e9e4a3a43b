-- The lines for productions, by flags.
use Rattle.std.specs.Prelude.{◌++◌, ℕ, Bool, true, false, List, [], ◌∷◌, codes, slice_index_or}
use Rattle.mh_grammar.specs.declared.types.Grammar.{Grammar}
use Rattle.mh_grammar_texts.specs.Productions.{production_text}
use Rattle.mh_lint_findings.specs.Lines.{Line, line}
use Rattle.mh_lint_findings.specs.declared.findings.Position.TheVariants.{OfAutomaton}

-- The line for production p, unless its flag is set.
abbrev pub line_unless : Bool → Grammar → ℕ → List Line
line_unless true g p = []
line_unless false g p = line OfAutomaton (codes "never reduced: " ++ production_text g p) ∷ []

abbrev pub unreduced_line : Grammar → List Bool → ℕ → List Line
unreduced_line g flags p = line_unless (slice_index_or flags p false) g p
