-- Lemmas on the order of sentences by cost, start and tokens.
use Rattle.std.proofs.Common.{◌≡◌, ℕ, ◌<◌, ◌≤◌, inl, inr, List, ◌++◌, ap, arith}
use Rattle.std.specs.Prelude.{min}
use Rattle.std.proofs.lemmas.Grind.{common_steps}
use Rattle.std.proofs.lemmas.List.{append-nil}
use Rattle.mh_tables_core.specs.Table.{TableData}
use Rattle.mh_grammar.specs.WordOrder.{LexLe}
use Rattle.mh_tables_core.specs.Failing.{cost_by}
use Rattle.mh_facts.specs.code.BestFirst.{Label, extended_label, LabelOrderLaws}
use Rattle.mh_facts.specs.Costs.{cap}
use Rattle.mh_facts.specs.code.Orders as orders
use Rattle.mh_facts.proofs.OrderLaws.{cost_append, sentence_laws}
use Rattle.mh_facts.specs.code.WordCosts.{WordNoLater, weigh, cost_up_to_cap}
use Rattle.mh_facts.proofs.WordCosts.{weigh_positive, part_of_cost_zero, word_of_cost_zero}
use Rattle.mh_reach_words.specs.code.Arrivals.{LabelNoLater}
use Rattle.mh_reach_words.specs.code.SentenceComparison.{numbers_of}

pub label_laws : (t : TableData) → LabelOrderLaws (WordNoLater t) (LabelNoLater t)
label_laws t = sentence_laws (weigh t) (weigh_positive t)

-- A label that is extended by a word and keeps its cost, below the highest cost, stays the same.
pub same_label : (t : TableData) (l : Label) (v : List ℕ) (level : ℕ) → level < cap → level ≡ cost_up_to_cap t l.word → level ≡ cost_up_to_cap t (extended_label l v).word → extended_label l v ≡ l
same_label t l v level lt e g =
    let sum = cost_append (weigh t) l.word v in
    let none : cost_by (weigh t) v ≡ 0 = part_of_cost_zero (cost_by (weigh t) l.word) (cost_by (weigh t) v) (cost_by (weigh t) (l.word ++ v)) level lt e g sum in
    let word : l.word ++ v ≡ l.word = rw (word_of_cost_zero t v none) (append-nil l.word) in
    ap (λ (w : List ℕ). record { start = l.start; word = w }) word

dear : (level n : ℕ) → cap ≤ level → level ≡ min n cap → cap ≤ n
dear level n ge e = grind (arith, common_steps, ge, e)

-- A label that comes no earlier than a label of the highest cost has the highest cost.
dear_after : (t : TableData) (k l : Label) → cap ≤ cost_by (weigh t) k.word → LabelNoLater t k l → cap ≤ cost_by (weigh t) l.word
dear_after t k l ge (orders.SentenceLe.Cheaper a) = omega arith
dear_after t k l ge (orders.SentenceLe.Over a b) = b
dear_after t k l ge (orders.SentenceLe.Sooner e a) = omega arith
dear_after t k l ge (orders.SentenceLe.Lower e s a) = omega arith

-- Labels of the highest cost are in either order.
pub over_from : (t : TableData) (j k l : Label) (level : ℕ) → cap ≤ level → level ≡ cost_up_to_cap t j.word → level ≡ cost_up_to_cap t k.word → LabelNoLater t j l → LabelNoLater t k l
over_from t j k l level ge e g le = orders.SentenceLe.Over (dear level (cost_by (weigh t) k.word) ge g) (dear_after t j l (dear level (cost_by (weigh t) j.word) ge e) le)

pub both_over : (t : TableData) (k l : Label) (level : ℕ) → cap ≤ level → level ≡ cost_up_to_cap t k.word → level ≡ cost_up_to_cap t l.word → LabelNoLater t k l
both_over t k l level ge e g = orders.SentenceLe.Over (dear level (cost_by (weigh t) k.word) ge e) (dear level (cost_by (weigh t) l.word) ge g)

-- A label of lower cost comes no later.
pub cheaper_at : (t : TableData) (k l : Label) (c d : ℕ) → c ≡ cost_up_to_cap t k.word → d ≡ cost_up_to_cap t l.word → c < d → LabelNoLater t k l
cheaper_at t k l c d e g lt = orders.SentenceLe.Cheaper (grind (arith, common_steps, e, g, lt))

same_cost : (m n level : ℕ) → level < cap → level ≡ min m cap → level ≡ min n cap → m ≡ n
same_cost m n level lt e g = grind (arith, common_steps, lt, e, g)

-- Labels of one cost are ordered by start, then lexicographically.
pub by_numbers : (t : TableData) (k l : Label) (level : ℕ) → level < cap → level ≡ cost_up_to_cap t k.word → level ≡ cost_up_to_cap t l.word → LexLe (numbers_of k) (numbers_of l) → LabelNoLater t k l
by_numbers t k l level lt e g (inl sooner) = orders.SentenceLe.Sooner (same_cost (cost_by (weigh t) k.word) (cost_by (weigh t) l.word) level lt e g) sooner
by_numbers t k l level lt e g (inr same) = orders.SentenceLe.Lower (same_cost (cost_by (weigh t) k.word) (cost_by (weigh t) l.word) level lt e g) same.0 same.1
