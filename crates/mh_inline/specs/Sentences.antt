-- The sentences are not changed by inlining (textbook).
use Rattle.std.specs.Prelude.{◌≡◌, ◌↔◌, ℕ, List, Some, slice_get}
use Rattle.mh_grammar.specs.declared.types.Grammar.{Grammar}
use Rattle.mh_grammar.specs.Plain.{plain_of, IsSentence}
use Rattle.mh_rules.specs.declared.instances.Expanded.{Expanded}
use Rattle.mh_rules.specs.Sentences.{IsInstanceSentence}

-- Each start symbol has the same sentences over the instances and over the grammar.
abbrev pub KeepsSentences : Expanded → Grammar → Type 0
KeepsSentences e g = (start n : ℕ) (w : List ℕ) → slice_get e.starts start ≡ Some n → IsInstanceSentence e n w ↔ IsSentence (plain_of g) start w
