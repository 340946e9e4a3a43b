-- Proves that each word that is settled lowers the number of keys without a word.
use Rattle.std.proofs.Common.{◌≡◌, ℕ, ◌+◌, ◌-◌, ◌<◌, List, [], ◌∷◌, ◌++◌, length, Some, None, Option, Bool, true, false, nat_lt, refl, arith}
use Rattle.std.specs.Prelude.{slice_get, slice_index, ◌^◌, if◌then◌else◌}
use Rattle.std.specs.Option.{option_map, unwrap_or}
use Rattle.std.proofs.lemmas.List.Elements.{All-contains}
use Rattle.mh_grammar.specs.declared.types.Symbol.TheVariants.{N}
use Rattle.mh_grammar.specs.declared.types.Production.{Production}
use Rattle.mh_grammar.specs.Plain.{PlainGrammar, IsInRange, rhs_of}
use Rattle.mh_grammar.proofs.Lists.{contains_at}
use Rattle.mh_tables_core.specs.Table.{TableData}
use Rattle.mh_tables_core.specs.Facts.{Facts}
use Rattle.mh_facts.specs.declared.store.FactKey.{FactKey}
use Rattle.mh_facts.specs.declared.goto_fact.GotoFact.{GotoFact}
use Rattle.mh_facts.specs.code.BestFirst.{key}
use Rattle.mh_facts.proofs.Edges.{known_nonterminal}
use Rattle.mh_facts.proofs.FactKeys.{fact_keys}
use Rattle.mh_facts.proofs.SumBelow.{bit_le, bit_less, narrow, one_if_absent, sum_below, total_le, total_less, wide}
use Rattle.mh_reach_rests.specs.declared.settled.SettledWord.{SettledWord}
use Rattle.mh_reach_rests.specs.declared.settled.SettledWords.{SettledWords}
use Rattle.mh_reach_rests.specs.declared.sought.Sought.{Sought}
use Rattle.mh_reach_rests.specs.declared.sought.Sought.TheVariants as soughts
use Rattle.mh_reach_rests.specs.code.RestLevels.{IsInRangeFor}
use Rattle.mh_reach_rests.specs.code.RestSearch.{goto}
use Rattle.mh_reach_rests.specs.code.SettledWords.{Settles, goto_at, rest_at, settled_at}
use Rattle.mh_reach_rests.proofs.WordsOfSettled.{goto_keys}

unfoldable pub rests_left : List (FactKey × SettledWord) → ℕ
rests_left rests = sum_below wide (λ r. sum_below wide (λ p. sum_below wide (λ d. sum_below narrow (λ a. sum_below narrow (λ z. one_if_absent (rest_at rests (key r p d a z)))))))

unfoldable pub gotos_left : List (GotoFact × SettledWord) → ℕ
gotos_left gotos = sum_below wide (λ s. sum_below narrow (λ n. sum_below narrow (λ a. sum_below narrow (λ x. one_if_absent (goto_at gotos (goto s n a x))))))

-- The number of keys without a word.
abbrev pub unsettled_words : SettledWords → ℕ
unsettled_words settled = rests_left settled.rests + gotos_left settled.gotos

rests_less : (rests : List (FactKey × SettledWord)) (k : FactKey) (e : SettledWord) → rest_at rests k ≡ None → k.from < 2 ^ 32 → k.production < 2 ^ 32 → k.dot < 2 ^ 32 → k.first < 2 ^ 16 → k.next < 2 ^ 16 → rests_left (rests ++ (k, e) ∷ []) < rests_left rests
unfolding rests_left
rests_less rests k e fresh r p d a z =
    total_less wide k.from _ _ (λ r. total_le wide _ _ (λ p. total_le wide _ _ (λ d. total_le narrow _ _ (λ a. total_le narrow _ _ (λ z. bit_le fact_keys rests k e (key r p d a z)))))) r
    (total_less wide k.production _ _ (λ p. total_le wide _ _ (λ d. total_le narrow _ _ (λ a. total_le narrow _ _ (λ z. bit_le fact_keys rests k e (key k.from p d a z))))) p
    (total_less wide k.dot _ _ (λ d. total_le narrow _ _ (λ a. total_le narrow _ _ (λ z. bit_le fact_keys rests k e (key k.from k.production d a z)))) d
    (total_less narrow k.first _ _ (λ a. total_le narrow _ _ (λ z. bit_le fact_keys rests k e (key k.from k.production k.dot a z))) a
    (total_less narrow k.next _ _ (λ z. bit_le fact_keys rests k e (key k.from k.production k.dot k.first z)) z (bit_less fact_keys rests k e fresh)))))

gotos_less : (gotos : List (GotoFact × SettledWord)) (g : GotoFact) (e : SettledWord) → goto_at gotos g ≡ None → g.from < 2 ^ 32 → g.nonterminal < 2 ^ 16 → g.first < 2 ^ 16 → g.next < 2 ^ 16 → gotos_left (gotos ++ (g, e) ∷ []) < gotos_left gotos
unfolding gotos_left
gotos_less gotos g e fresh s n a x =
    total_less wide g.from _ _ (λ s. total_le narrow _ _ (λ n. total_le narrow _ _ (λ a. total_le narrow _ _ (λ x. bit_le goto_keys gotos g e (goto s n a x))))) s
    (total_less narrow g.nonterminal _ _ (λ n. total_le narrow _ _ (λ a. total_le narrow _ _ (λ x. bit_le goto_keys gotos g e (goto g.from n a x)))) n
    (total_less narrow g.first _ _ (λ a. total_le narrow _ _ (λ x. bit_le goto_keys gotos g e (goto g.from g.nonterminal a x))) a
    (total_less narrow g.next _ _ (λ x. bit_le goto_keys gotos g e (goto g.from g.nonterminal g.first x)) x (bit_less goto_keys gotos g e fresh))))

-- Right sides are short.
rhs_short : (g : PlainGrammar) → IsInRange g → (p : ℕ) → length (rhs_of g p) < 2 ^ 32
unfolding rhs_of
rhs_short g r p = by (nat_lt p (length g.starts))
  where
    some : (o : Option Production) → slice_get g.productions (p - length g.starts) ≡ o → length (unwrap_or (option_map (λ (q : Production). q.rhs) o) []) < 2 ^ 32
    some None e = omega arith
    some (Some q) e = All-contains (λ (q : Production). length q.rhs < 2 ^ 32) g.productions q r.short (contains_at g.productions (p - length g.starts) q e)

    by : (b : Bool) → length (if b then N (slice_index g.starts p) ∷ [] else unwrap_or (option_map (λ (q : Production). q.rhs) (slice_get g.productions (p - length g.starts))) []) < 2 ^ 32
    by true = omega arith
    by false = some (slice_get g.productions (p - length g.starts)) refl

pub settles_less : (t : TableData) (f : Facts t) (old new : SettledWords) (k : Sought) (e : SettledWord) (end cost : ℕ) → IsInRangeFor t k end cost → settled_at old k ≡ None → Settles old new k e → unsettled_words new < unsettled_words old
settles_less t f old new (soughts.Rest k) e end cost h fresh s =
    let few = f.ranges.few_states in
    let many = f.ranges.grammar.few in
    let short = rhs_short t.grammar f.ranges.grammar k.production in
    let tokens = f.ranges.grammar.tokens in
    let less = rests_less old.rests k e fresh (let a = h.range.from in omega arith) (let a = h.range.production in omega arith) (let a = h.range.within in omega arith) (let a = h.range.first in omega arith) (let a = h.range.next in omega arith) in
    rw (s.0, s.1) (omega (arith, less))
settles_less t f old new (soughts.Goto g) e end cost h fresh s =
    let few = f.ranges.few_states in
    let tokens = f.ranges.grammar.tokens in
    let nonterminals = f.ranges.grammar.nonterminals in
    let known = known_nonterminal t f g.from g.nonterminal end h.edge in
    let less = gotos_less old.gotos g e fresh (let a = h.from in omega arith) (omega (arith, known, nonterminals)) (let a = h.first in omega arith) (let a = h.next in omega arith) in
    rw (s.0, s.1) (omega (arith, less))
