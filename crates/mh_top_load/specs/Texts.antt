-- The lines on err for words that spell no order, a file that spells no module, and modules that give no grammar (the
-- words are this project's own).
use Rattle.std.specs.Prelude.{ℕ, ◌++◌, codes, decimal}
use Rattle.mh_front.specs.declared.fault.GrammarFault.{GrammarFault}
use Rattle.mh_front.specs.Texts.{grammar_fault_text}
use Rattle.mh_grammar.specs.Text.{Text}
use Rattle.mh_top_drive.specs.Text.{out_of_memory}
use Rattle.mh_opts.specs.declared.order.UsageFault.{UsageFault}
use Rattle.mh_opts.specs.declared.order.UsageFault.TheVariants.{Parse, Number, NoMode, TwoModes, Misplaced, NoGrammar, Memory}

-- The line for a file that spells no module.
abbrev pub syntax_error : Text → ℕ → Text
syntax_error name line = codes "menhir: " ++ (name ++ (codes ":" ++ (decimal line ++ codes ": syntax error\n")))

-- The line for modules that give no grammar.
abbrev pub refusal : GrammarFault → Text
refusal fault = codes "menhir: " ++ (grammar_fault_text fault ++ codes "\n")

abbrev pub bad_words : Text
bad_words = codes "menhir: usage: bad words\n"

abbrev pub bad_number : Text
bad_number = codes "menhir: usage: bad number\n"

abbrev pub no_mode : Text
no_mode = codes "menhir: usage: no mode\n"

abbrev pub two_modes : Text
two_modes = codes "menhir: usage: two modes\n"

abbrev pub misplaced : Text → Text
misplaced option = codes "menhir: usage: misplaced " ++ option ++ codes "\n"

abbrev pub no_grammar : Text
no_grammar = codes "menhir: usage: no grammar\n"

-- The line for a usage fault. The case of lack of memory is never used: no words spell this fault.
abbrev pub usage_line : UsageFault → Text
usage_line Parse = bad_words
usage_line Number = bad_number
usage_line NoMode = no_mode
usage_line TwoModes = two_modes
usage_line (Misplaced option) = misplaced option
usage_line NoGrammar = no_grammar
usage_line Memory = out_of_memory
