-- Proves that the actuals of the prelude are not too deep.
use Rattle.std.proofs.Common.{◌≤◌, ℕ, Bool, true, false, List, [], ◌∷◌, ◌++◌, arith}
use Rattle.std.specs.Prelude.{codes}
use Rattle.std.specs.List.{All, AllByRecursion}
use Rattle.std.proofs.Math.Nat.{le_trans}
use Rattle.std.proofs.lemmas.List.Elements.{All-from_recursion}
use Rattle.mh_rules.specs.declared.modules.Ref.TheVariants.{Plain}
use Rattle.mh_rules.specs.declared.modules.Actual.{Actual}
use Rattle.mh_rules.specs.declared.modules.Alternative.{Alternative}
use Rattle.mh_rules.specs.declared.modules.Rule.{Rule}
use Rattle.mh_rules.specs.Depth.{actual_depth, IsActualShallow, AreProducersShallow}
use Rattle.mh_rules.proofs.Depth.{depth_within}
use Rattle.mh_grammar.proofs.Lists.{recursion-append}
use Rattle.mh_grammar.specs.Text.{Text}
use Rattle.mh_join_names.specs.Prelude.{call, words, optional, in_order, texts, prelude_rules, separated_items, list_rule, nonempty_list_rule, separated_list_rule, separated_nonempty_list_rule, option_rules, pair_rules, list_rules, other_rules}

shallow_by : (n : ℕ) → n ≤ 1000 → (k : Actual) → actual_depth k ≤ n → IsActualShallow k
shallow_by n few k h = le_trans h few

-- ACTUALS

word_within : (x : Text) → actual_depth (call x []) ≤ 1
word_within x = depth_within 0 (Plain x) [] tt

words_within : (xs : List Text) → AllByRecursion (λ k. actual_depth k ≤ 1) (words xs)
words_within [] = tt
words_within (x ∷ xs) = (word_within x, words_within xs)

call_within : (x : Text) (xs : List Text) → actual_depth (call x (words xs)) ≤ 2
call_within x xs = depth_within 1 (Plain x) (words xs) (words_within xs)

word_shallow : (x : Text) → IsActualShallow (call x [])
word_shallow x = shallow_by 1 (omega arith) (call x []) (word_within x)

call_shallow : (x : Text) (xs : List Text) → IsActualShallow (call x (words xs))
call_shallow x xs = shallow_by 2 (omega arith) (call x (words xs)) (call_within x xs)

words_shallow : (xs : List Text) → AllByRecursion IsActualShallow (words xs)
words_shallow [] = tt
words_shallow (x ∷ xs) = (word_shallow x, words_shallow xs)

-- RULES

abbrev AreLow : List Alternative → Type 0
AreLow = AllByRecursion (λ (a : Alternative). AllByRecursion IsActualShallow a.producers)

abbrev IsLow : Rule → Type 0
IsLow r = AreLow r.alternatives

in_order_low : (inlined : Bool) (name : Text) (fs : List Text) → IsLow (in_order inlined name fs)
in_order_low inlined name fs = (words_shallow fs, tt)

optional_low : (inlined : Bool) (name : Text) → IsLow (optional inlined name)
optional_low inlined name = (tt, (words_shallow (texts ("X" ∷ [])), tt))

x_shallow : IsActualShallow (call (codes "X") [])
x_shallow = word_shallow (codes "X")

list_low : IsLow list_rule
list_low = (tt, ((x_shallow, (call_shallow (codes "list") (texts ("X" ∷ [])), tt)), tt))

nonempty_list_low : IsLow nonempty_list_rule
nonempty_list_low = ((x_shallow, tt), ((x_shallow, (call_shallow (codes "nonempty_list") (texts ("X" ∷ [])), tt)), tt))

items_within : actual_depth separated_items ≤ 2
items_within = call_within (codes "separated_nonempty_list") (texts ("separator" ∷ "X" ∷ []))

separated_list_low : IsLow separated_list_rule
separated_list_low =
    ((shallow_by 3 (omega arith) (call (codes "loption") (separated_items ∷ [])) (depth_within 2 (Plain (codes "loption")) (separated_items ∷ []) (items_within, tt)), tt), tt)

separated_nonempty_list_low : IsLow separated_nonempty_list_rule
separated_nonempty_list_low = ((x_shallow, tt), ((x_shallow, (word_shallow (codes "separator"), (shallow_by 2 (omega arith) separated_items items_within, tt))), tt))

options_low : AllByRecursion IsLow option_rules
options_low = (optional_low false (codes "option"), (optional_low true (codes "ioption"), (optional_low false (codes "boption"), (optional_low false (codes "loption"), tt))))

pairs_low : AllByRecursion IsLow pair_rules
pairs_low = (
  in_order_low true (codes "pair") (texts ("X" ∷ "Y" ∷ [])),
  (
    in_order_low true (codes "separated_pair") (texts ("X" ∷ "sep" ∷ "Y" ∷ [])),
    (
      in_order_low true (codes "preceded") (texts ("opening" ∷ "X" ∷ [])),
      (in_order_low true (codes "terminated") (texts ("X" ∷ "closing" ∷ [])), (in_order_low true (codes "delimited") (texts ("opening" ∷ "X" ∷ "closing" ∷ [])), tt)),
    ),
  ),
)

lists_low : AllByRecursion IsLow list_rules
lists_low = (list_low, (nonempty_list_low, (separated_list_low, (separated_nonempty_list_low, tt))))

others_low : AllByRecursion IsLow other_rules
others_low = (
  in_order_low true (codes "rev") (texts ("XS" ∷ [])),
  (
    in_order_low true (codes "flatten") (texts ("XSS" ∷ [])),
    (in_order_low true (codes "append") (texts ("XS" ∷ "YS" ∷ [])), (in_order_low true (codes "endrule") (texts ("X" ∷ [])), (in_order_low false (codes "midrule") (texts ("X" ∷ [])), tt))),
  ),
)

whole_low : AllByRecursion IsLow (option_rules ++ (pair_rules ++ (list_rules ++ other_rules)))
whole_low = recursion-append IsLow option_rules (pair_rules ++ (list_rules ++ other_rules)) options_low (recursion-append IsLow pair_rules (list_rules ++ other_rules) pairs_low (recursion-append IsLow list_rules other_rules lists_low others_low))

prelude_low : (p : Bool) → AllByRecursion IsLow (prelude_rules p)
unfolding prelude_rules
prelude_low true = whole_low
prelude_low false = tt

alternatives_shallow : (ks : List Alternative) → AreLow ks → AllByRecursion (λ (a : Alternative). All IsActualShallow a.producers) ks
alternatives_shallow [] h = tt
alternatives_shallow (k ∷ ks) h = (All-from_recursion IsActualShallow k.producers h.0, alternatives_shallow ks h.1)

rules_shallow : (rs : List Rule) → AllByRecursion IsLow rs → AllByRecursion AreProducersShallow rs
rules_shallow [] h = tt
rules_shallow (r ∷ rs) h = (All-from_recursion (λ (a : Alternative). All IsActualShallow a.producers) r.alternatives (alternatives_shallow r.alternatives h.0), rules_shallow rs h.1)

pub prelude_shallow : (p : Bool) → All AreProducersShallow (prelude_rules p)
prelude_shallow p = All-from_recursion AreProducersShallow (prelude_rules p) (rules_shallow (prelude_rules p) (prelude_low p))
