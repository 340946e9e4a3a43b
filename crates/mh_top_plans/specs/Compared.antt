-- The output of `--compare-errors`: nothing, or a line on err for each state that the first messages file has a
-- sentence for and the second has not (Menhir manual; the words of the lines are this project's own).
use Rattle.std.specs.Prelude.{ℕ, List, [], ◌∷◌}
use Rattle.mh_update.specs.MissingStates.{missing_lines}
use Rattle.mh_grammar.specs.Text.{Text}
use Rattle.mh_top_plans.specs.declared.at_end.FinalText.{FinalText}
use Rattle.mh_top_plans.specs.declared.at_end.FinalText.TheVariants.{Written, Refusal}

-- The final text for the states that the second file lacks.
abbrev pub comparison_result : Text → Text → List ℕ → FinalText
comparison_result first second [] = Written []
comparison_result first second (state ∷ states) = Refusal (missing_lines first second (state ∷ states))
