-- Proves that the filled tables have the meanings that the files define.
use Rattle.std.proofs.Common.{◌≡◌, ℕ, ◌+◌, Bool, true, false, cond, List, [], ◌∷◌, ◌++◌, Option, Some, None, length, map, refl, sym, ap, subst, ◌∙◌, arith, append_assoc, length-append}
use Rattle.std.specs.Prelude.{option_and_then, slice_get}
use Rattle.std.specs.List.{flat_map, find, position, position_from}
use Rattle.std.specs.Map.{lookup}
use Rattle.std.proofs.lemmas.List.{map-append}
use Rattle.std.proofs.lemmas.Iterator.Adapters.{position_from-zero}
use Rattle.std.specs.HashMap.{get}
use Rattle.mh_grammar.proofs.Lists.{get_after_prefix}
use Rattle.mh_rules.specs.declared.modules.Rule.{Rule}
use Rattle.mh_rules.specs.declared.modules.Module.{Module}
use Rattle.mh_join_names.specs.declared.names.SymbolTables.{SymbolTables}
use Rattle.mh_join_names.specs.Prelude.{prelude_rules}
use Rattle.mh_grammar.specs.Text.{Text}
use Rattle.mh_join_names.specs.Names.{same, files, token_names, token_number, aliased, levels_in, level_of, cost_of, is_elsewhere, start_names, definitions_from, definitions_in, prelude_definitions, outline_of, owner_in, is_rule, same_rule, firsts, rules, rule_number}
use Rattle.mh_join_names.specs.Faults.{kind_of}
use Rattle.mh_join_names.specs.code.DefiningFiles.{elsewhere_by}
use Rattle.mh_join_names.specs.code.Numbering.{outline_by, outlines_in, outlines_of, number_in, IsNumbered}
use Rattle.mh_join_names.specs.code.SymbolTables.{HasMeanings}
use Rattle.mh_join_names.proofs.Lists.{fun_ext}

-- OUTLINES

outline_from : (owner : Text → Option ℕ) (k n : ℕ) (rs : List Rule) → map (λ r. outline_by (owner r.name) r) rs ≡ map outline_of (definitions_from owner k n rs)
outline_from owner k n [] = refl
outline_from owner k n (r ∷ rs) = ap (λ os. outline_by (owner r.name) r ∷ os) (outline_from owner k (n + length r.alternatives) rs)

outline_files : (starts : List Text) (fs : List (ℕ × Module)) → flat_map (outlines_in starts) fs ≡ map outline_of (flat_map (definitions_in starts) fs)
outline_files starts [] = refl
outline_files starts (f ∷ fs) =
    ap (λ os. os ++ flat_map (outlines_in starts) fs) (outline_from (owner_in starts f.0 f.1.rules) f.0 0 f.1.rules)
    ∙ ap (λ os. map outline_of (definitions_in starts f) ++ os) (outline_files starts fs)
    ∙ sym (map-append outline_of (definitions_in starts f) (flat_map (definitions_in starts) fs))

pub outlines_are : (p : Bool) (ms : List Module) → outlines_of (start_names ms) ms (prelude_rules p) ≡ rules p ms
outlines_are p ms =
    ap (firsts same_rule)
    (ap (λ os. os ++ map (outline_by (Some 0)) (prelude_rules p)) (outline_files (start_names ms) (files ms))
    ∙ ap (λ os. map outline_of (flat_map (definitions_in (start_names ms)) (files ms)) ++ os) (outline_from (λ x. Some 0) 0 0 (prelude_rules p))
    ∙ sym (map-append outline_of (flat_map (definitions_in (start_names ms)) (files ms)) (prelude_definitions (prelude_rules p))))

-- POSITIONS

-- The element at the first position that passes a test is the element that `find` returns.
find_from : {A : Type 0} (p : A → Bool) (before xs : List A) → option_and_then (λ i. slice_get (before ++ xs) i) (position_from p (length before) xs) ≡ find p xs
find_from p before [] = refl
find_from {A = A} p before (x ∷ xs) = go (p x) (subst (λ k. option_and_then (λ i. slice_get k i) (position_from p (length before + 1) xs) ≡ find p xs) (append_assoc before (x ∷ []) xs)
    (subst (λ n. option_and_then (λ i. slice_get ((before ++ x ∷ []) ++ xs) i) (position_from p n xs) ≡ find p xs) (let e : length (before ++ x ∷ []) ≡ length before + 1 = omega (arith, length-append before (x ∷ [])) in e) (find_from p (before ++ x ∷ []) xs)))
  where
    go : (b : Bool) → option_and_then (λ i. slice_get (before ++ x ∷ xs) i) (position_from p (length before + 1) xs) ≡ find p xs
        → option_and_then (λ i. slice_get (before ++ x ∷ xs) i) (cond b (Some (length before)) (position_from p (length before + 1) xs)) ≡ cond b (Some x) (find p xs)
    go true h = get_after_prefix before x xs
    go false h = h

pub find_position : {A : Type 0} (p : A → Bool) (xs : List A) → option_and_then (λ i. slice_get xs i) (position p xs) ≡ find p xs
find_position p xs = ap (option_and_then (λ i. slice_get xs i)) (position_from-zero p xs) ∙ find_from p [] xs

-- ALL TABLES

pub has_meanings : (p : Bool) (ms : List Module) (n : SymbolTables) → n.tokens.keys ≡ token_names ms → n.starts.keys ≡ start_names ms → ((a : Text) → get same n.aliases a ≡ aliased ms a)
    → ((x : Text) → get same n.levels x ≡ lookup (same x) (flat_map (levels_in (λ a. get same n.aliases a)) (files ms))) → ((x : Text) → get same n.costs x ≡ cost_of ms x) → ((x : Text) → get same n.kinds x ≡ kind_of ms x)
    → ((k : ℕ) (x : Text) → elsewhere_by (get same n.definers x) k ≡ is_elsewhere ms k x)
    → IsNumbered n.numbering → n.numbering.rules.items ≡ outlines_of n.starts.keys ms (prelude_rules p) → HasMeanings p ms n
has_meanings p ms n tokens starts aliases levels costs kinds elsewhere numbered rules_by = record {
  meanings_are = λ i. record {
    tokens = tokens i;
    starts = starts i;
    aliased = λ a. aliases a i;
    level = λ x. level_is x i;
    cost = λ x. costs x i;
    kind = λ x. kinds x i;
    joined = λ x. joined_is x i;
    numbers = record { token = λ x. token_is x i; rule = λ owner x. rule_is owner x i };
  };
  elsewhere_is = λ i k x. elsewhere k x i;
  rules_are = rules_is;
  numbered = numbered;
}
  where
    rules_is : n.numbering.rules.items ≡ rules p ms
    rules_is = rules_by ∙ ap (λ s. outlines_of s ms (prelude_rules p)) starts ∙ outlines_are p ms

    level_is : (x : Text) → get same n.levels x ≡ level_of ms x
    level_is x = levels x ∙ ap (λ f. lookup (same x) (flat_map (levels_in f) (files ms))) (fun_ext aliases)

    token_is : (x : Text) → position (same x) n.tokens.keys ≡ token_number ms x
    token_is x = ap (position (same x)) tokens

    rule_is : (owner : Option ℕ) (x : Text) → number_in n.numbering owner x ≡ rule_number p ms owner x
    rule_is owner x = numbered.placed owner x ∙ ap (position (is_rule owner x)) rules_is

    joined_is : (x : Text) → option_and_then (λ i. slice_get n.numbering.rules.items i) (get same n.numbering.public x) ≡ find (is_rule None x) (rules p ms)
    joined_is x = ap (option_and_then (λ i. slice_get n.numbering.rules.items i)) (numbered.placed None x) ∙ find_position (is_rule None x) n.numbering.rules.items ∙ ap (find (is_rule None x)) rules_is
