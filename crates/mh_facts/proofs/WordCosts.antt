-- Lemmas on the costs of words, where a cost above the cap counts as the cap.
use Rattle.std.proofs.Common.{◌≡◌, ℕ, ◌+◌, ◌<◌, ◌≤◌, List, [], ◌∷◌, ◌++◌, Some, Option, refl, sym, arith, ◌∙◌}
use Rattle.std.specs.Prelude.{min}
use Rattle.std.proofs.lemmas.Grind.{common_steps}
use Rattle.mh_tables_core.specs.Table.{TableData, cost_of_token}
use Rattle.std.specs.List.{AllByRecursion}
use Rattle.mh_tables_core.specs.Failing.{cost_by, cost_of_word}
use Rattle.mh_tables_core.specs.Facts.{Facts as Tabled}
use Rattle.mh_grammar.specs.Costs.{IsCost}
use Rattle.std.proofs.lemmas.List.Elements.{All-get_or}
use Rattle.mh_facts.specs.code.BestFirst.{WordOrderLaws}
use Rattle.mh_facts.specs.code.Orders.{CostLexLe}
use Rattle.mh_facts.specs.Costs.{cap}
use Rattle.mh_facts.specs.code.Orders as orders
use Rattle.mh_facts.proofs.OrderLaws.{cost_append, first_laws}
use Rattle.mh_facts.specs.code.WordCosts.{WordNoLater, cost_up_to_cap, weigh}

pub option_unique : {X : Type 0} (o : Option X) (a b : X) → o ≡ Some a → o ≡ Some b → a ≡ b
option_unique o a b e h = let y : Some a ≡ Some b = sym e ∙ h in cc

-- Each token of a table costs at least 1.
pub token_cost_positive : (t : TableData) (f : Tabled t) (x : ℕ) → x < t.grammar.tokens → 1 ≤ cost_of_token t x
unfolding cost_of_token
token_cost_positive t f x lt = let long = f.ranges.each_cost in (All-get_or (λ (n : ℕ). IsCost n) t.costs x 0 (omega arith) f.ranges.costs).0

pub weigh_known : (t : TableData) (f : Tabled t) (x : ℕ) → x < t.grammar.tokens → weigh t x ≡ cost_of_token t x
weigh_known t f x lt = let le = token_cost_positive t f x lt in grind (arith, common_steps, le)

pub weigh_positive : (t : TableData) (x : ℕ) → 0 < weigh t x
weigh_positive t x = grind (arith, common_steps)

-- The cost of a word of the table's tokens by `weigh` is its cost by the table.
pub weigh_word : (t : TableData) (f : Tabled t) (w : List ℕ) → AllByRecursion (λ z. z < t.grammar.tokens) w → cost_by (weigh t) w ≡ cost_of_word t w
weigh_word t f [] h = refl
weigh_word t f (x ∷ w) h = let e = weigh_known t f x h.0 in let g = weigh_word t f w h.1 in omega (arith, e, g)

pub order_laws : (t : TableData) → WordOrderLaws (WordNoLater t)
order_laws t = first_laws (weigh t) (weigh_positive t)

-- If a sum and its first summand are equal after both are cut at the cap, and below the cap, the second summand is 0.
pub part_of_cost_zero : (a b sum level : ℕ) → level < cap → level ≡ min a cap → level ≡ min sum cap → sum ≡ a + b → b ≡ 0
part_of_cost_zero a b sum level lt e g s = grind (arith, common_steps, lt, e, g, s)

pub word_of_cost_zero : (t : TableData) (w : List ℕ) → cost_by (weigh t) w ≡ 0 → w ≡ []
word_of_cost_zero t [] e = refl
word_of_cost_zero t (x ∷ w) e = absurd (let s = weigh_positive t x in omega arith)

-- The cost, up to the highest cost, of a word that is continued by a token or by a word is the sum of the costs of the
-- parts, up to the highest cost.
pub capped_one : (t : TableData) (f : Tabled t) (u : List ℕ) (x c : ℕ) → x < t.grammar.tokens → c ≡ cost_up_to_cap t u → min (c + cost_of_token t x) cap ≡ cost_up_to_cap t (u ++ x ∷ [])
capped_one t f u x c lt e = rw (cost_append (weigh t) u (x ∷ []), ← (weigh_known t f x lt)) (grind (arith, common_steps, e))

pub capped_both : (t : TableData) (u v : List ℕ) (c d : ℕ) → c ≡ cost_up_to_cap t u → d ≡ cost_up_to_cap t v → min (c + d) cap ≡ cost_up_to_cap t (u ++ v)
capped_both t u v c d e g = rw (cost_append (weigh t) u v) (grind (arith, common_steps, e, g))

pub min_cap : (n : ℕ) → min n cap ≤ cap
min_cap n = grind (arith, common_steps)

pub no_lower : (a b : ℕ) → a ≤ cap → a ≤ min (a + b) cap
no_lower a b le = grind (arith, common_steps, le)

pub no_lower_back : (a b : ℕ) → b ≤ cap → b ≤ min (a + b) cap
no_lower_back a b le = grind (arith, common_steps, le)

-- A word of lower cost, up to the highest cost, comes no later.
pub no_later_if_cheaper : (t : TableData) (u v : List ℕ) (c d : ℕ) → c ≡ cost_up_to_cap t u → d ≡ cost_up_to_cap t v → c < d → WordNoLater t u v
no_later_if_cheaper t u v c d e g lt = orders.CostLexLe.Cheaper (grind (arith, common_steps, e, g, lt))

-- Two words of the highest cost are in either order.
pub no_later_at_cap : (t : TableData) (u v : List ℕ) → cap ≡ cost_up_to_cap t u → cap ≡ cost_up_to_cap t v → WordNoLater t u v
no_later_at_cap t u v e g = orders.CostLexLe.Over (grind (arith, common_steps, e)) (grind (arith, common_steps, g))

-- A sum with a positive part is positive after it was cut to the cap.
pub cost_not_zero : (a b : ℕ) → 1 ≤ b → min (a + b) cap ≡ 0 → ⊥
cost_not_zero a b le e = grind (arith, common_steps, e, le)

-- If a sum is 0 after it was cut to the cap, both parts are 0.
pub both_costs_zero : (a b : ℕ) → min (a + b) cap ≡ 0 → (a ≡ 0) × (b ≡ 0)
both_costs_zero a b e = (grind (arith, common_steps, e), grind (arith, common_steps, e))

pub token_cost_below_cap : (t : TableData) (f : Tabled t) (x : ℕ) → x < t.grammar.tokens → cost_of_token t x ≤ cap
unfolding cost_of_token
token_cost_below_cap t f x lt = let long = f.ranges.each_cost in let c = (All-get_or (λ (n : ℕ). IsCost n) t.costs x 0 (omega arith) f.ranges.costs).1 in omega (arith, c)
