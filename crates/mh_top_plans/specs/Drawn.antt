-- The definition of the output of `--random-sentence`: the random sentence of a seed, or a refusal on err if each
-- sentence is longer than the limit. The rule is this project's own.
use Rattle.std.specs.Prelude.{◌≡◌, ◌++◌, ℕ, codes, decimal}
use Rattle.mh_grammar.specs.declared.types.Grammar.{Grammar}
use Rattle.mh_grammar.specs.Names.{start_name}
use Rattle.mh_grammar.specs.Plain.{plain_of}
use Rattle.mh_grammar.specs.Text.{Text}
use Rattle.mh_sample.specs.Sentences.{IsRandomText}
use Rattle.mh_sample.specs.Faults.{AreLonger}
use Rattle.mh_top_plans.specs.declared.at_end.FinalText.{FinalText}
use Rattle.mh_top_plans.specs.declared.at_end.FinalText.TheVariants.{Written, Refusal}

-- The refusal if the first start symbol has no sentence of at most n tokens.
abbrev pub none_within : Grammar → ℕ → Text
none_within g n = codes "menhir: no sentence of " ++ (start_name g 0 ++ (codes " within " ++ (decimal n ++ codes " tokens\n")))

-- The final text is the line of the random sentence, or the refusal if each sentence is too long.
abbrev pub IsDrawn : Grammar → ℕ → ℕ → FinalText → Type 0
IsDrawn g seed n (Written text) = IsRandomText g seed n text
IsDrawn g seed n (Refusal line) = AreLonger (plain_of g) n × (line ≡ none_within g n)
