-- Definitions on spots (states with a next token) and on the order of sentences.
use Rattle.std.specs.Prelude.{ℕ, Option, Bool, if◌then◌else◌, nat_eq, ◌&&◌}
use Rattle.mh_tables_core.specs.Table.{TableData}
use Rattle.mh_facts.specs.code.BestFirst.{Label}
use Rattle.mh_facts.specs.code.Orders.{SentenceLe}
use Rattle.mh_facts.specs.code.WordCosts.{weigh}
use Rattle.mh_reach_words.specs.declared.arrivals.StateAndNext.{StateAndNext}

-- The order of sentences by cost, then by start, then lexicographically.
abbrev pub LabelNoLater : TableData → Label → Label → Type 0
LabelNoLater t k l = SentenceLe (weigh t) k l

abbrev pub same_spot : StateAndNext → StateAndNext → Bool
same_spot x y = nat_eq x.state y.state && nat_eq x.next y.next

abbrev pub spot : ℕ → ℕ → StateAndNext
spot s z = record { state = s; next = z }

-- The function f with the value v at k.
abbrev pub with_value_at : {V : Type 0} → (StateAndNext → V) → StateAndNext → V → StateAndNext → V
with_value_at f k v other = if same_spot other k then v else f other

abbrev pub labels_at : (StateAndNext → Option Label) → ℕ → ℕ → Option Label
labels_at labels s z = labels (spot s z)
