-- The measure and the invariant of the loop that takes offers from a heap. An offer is a word for a nonterminal, which
-- waits on the heap until it is accepted or dropped.
use Rattle.std.specs.Prelude.{◌+◌, ℕ, List, Option, sum}
use Rattle.std.specs.BinaryHeap.{heap_len}
use Rattle.mh_grammar.specs.Plain.{PlainGrammar}
use Rattle.mh_sample.specs.declared.offers.Waiting.{Waiting}
use Rattle.mh_sample.specs.code.Chains.{AreDerived}

-- The number of offers on the heap and of symbols that still lack a word.
abbrev pub load : Waiting → ℕ
load w = sum w.missing.items + heap_len w.offers

-- If the old words are derived, the new words are derived.
abbrev pub KeepsDerived : PlainGrammar → List (Option (List ℕ)) → List (Option (List ℕ)) → Type 0
KeepsDerived g old new = AreDerived g old → AreDerived g new
