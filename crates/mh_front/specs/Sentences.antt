-- The sentences that all stages together keep.
use Rattle.std.specs.Prelude.{◌≡◌, ◌↔◌, ℕ, Bool, List, Some, Ok, length, slice_get}
use Rattle.mh_grammar.specs.declared.types.Grammar.{Grammar}
use Rattle.mh_grammar.specs.Plain.{plain_of, IsSentence}
use Rattle.mh_rules.specs.declared.modules.Module.{Module}
use Rattle.mh_rules.specs.declared.joined.Joined.{Joined}
use Rattle.mh_join_names.specs.Joining.{Joins}
use Rattle.mh_expand.specs.Sentences.{IsTermSentence}

-- Each start symbol has the same sentences over the terms of the joined rules and over the grammar.
pub record HasSentencesOf (j : Joined) (g : Grammar) : Type 0 where
  pub starts : length g.starts ≡ length j.starts
  pub same : (start rule : ℕ) (w : List ℕ) → slice_get j.starts start ≡ Some rule → IsTermSentence j rule w ↔ IsSentence (plain_of g) start w

-- The grammar has the sentences of the joined rules of the modules.
abbrev pub HasSentencesOfModules : Bool → List Module → Grammar → Type 0
HasSentencesOfModules prelude modules g = (j : Joined) → Joins prelude modules (Ok j) → HasSentencesOf j g
