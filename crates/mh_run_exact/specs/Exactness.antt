-- Definitions that relate the verdicts on a table to the sentences of its grammar (Knuth 1965).
use Rattle.std.specs.Prelude.{◌<◌, ◌≤◌, ℕ, List, length, take}
use Rattle.mh_grammar.specs.Plain.{PlainGrammar, IsSentence, IsProductive}

-- The first `read` tokens of w are a sentence.
pub record IsPrefixSentence (g : PlainGrammar) (start : ℕ) (w : List ℕ) (read : ℕ) : Type 0 where
  pub within : read ≤ length w
  pub sentence : IsSentence g start (take read w)

-- Each nonterminal derives some word.
abbrev pub AllProductive : PlainGrammar → Type 0
AllProductive g = (n : ℕ) → n < g.nonterminals → IsProductive g n
