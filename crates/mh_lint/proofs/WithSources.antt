-- The expanded rules with the sources of levels in place of the levels: they are ready if the rules are.
use Rattle.std.proofs.Common.{◌≡◌, ℕ, ◌+◌, ◌<◌, ◌≤◌, List, [], ◌∷◌, ◌++◌, length, get_or, take, map, arith, sym, ap, subst, ◌∙◌}
use Rattle.std.specs.List.{All, AllByRecursion, enumerate_from}
use Rattle.std.proofs.lemmas.List.{length-map, map-append}
use Rattle.std.proofs.lemmas.List.Elements.{All-from_recursion, recursion_from_All}
use Rattle.std.proofs.lemmas.List.FromFn.{length-enumerate_from}
use Rattle.mh_grammar.specs.Costs.{IsCost}
use Rattle.mh_grammar.specs.Limits.{max_numbered}
use Rattle.mh_grammar.specs.declared.types.TokenInfo.{TokenInfo}
use Rattle.mh_grammar.proofs.Lists.{take_step}
use Rattle.mh_join_names.proofs.Lists.{enumerate-push, length-take_in}
use Rattle.mh_rules.specs.Limits.{max_instances}
use Rattle.mh_rules.specs.Ready.{IsExpandedReady, IsInstanceReady, IsPartBelow}
use Rattle.mh_rules.specs.declared.instances.Expanded.{Expanded}
use Rattle.mh_rules.specs.declared.instances.Instance.{Instance}
use Rattle.mh_rules.specs.declared.instances.InstanceProduction.{InstanceProduction}
use Rattle.mh_lint.specs.LevelSources.{source_instance, source_production, source_token, with_sources}

-- One more token.
pub tokens_step : (xs : List TokenInfo) (i : ℕ) (x y : TokenInfo) (old new : List TokenInfo) → i < length xs → x ≡ get_or xs i x → old ≡ map source_token (enumerate_from 0 (take i xs)) → y ≡ source_token (i, x) → new ≡ old ++ y ∷ [] → new ≡ map source_token (enumerate_from 0 (take (i + 1) xs))
tokens_step xs i x y old new l at before is e =
    let number : 0 + length (take i xs) ≡ i = omega (arith, length-take_in xs i l) in
    e ∙ (λ j. before j ++ is j ∷ []) ∙ sym (ap (λ ys. map source_token (enumerate_from 0 ys)) (take_step xs i x l at) ∙ ap (map source_token) (enumerate-push 0 (take i xs) x) ∙ map-append source_token (enumerate_from 0 (take i xs)) ((0 + length (take i xs), x) ∷ []) ∙ ap (λ k. map source_token (enumerate_from 0 (take i xs)) ++ source_token (k, x) ∷ []) number)

costs_from : (n : ℕ) (xs : List TokenInfo) → AllByRecursion (λ (t : TokenInfo). IsCost t.cost) xs → AllByRecursion (λ (t : TokenInfo). IsCost t.cost) (map source_token (enumerate_from n xs))
costs_from n [] h = tt
costs_from n (x ∷ xs) h = (h.0, costs_from (n + 1) xs h.1)

parts_from : (tokens instances : ℕ) (ps : List InstanceProduction) → AllByRecursion (λ (p : InstanceProduction). All (IsPartBelow tokens instances) p.rhs) ps → AllByRecursion (λ (p : InstanceProduction). All (IsPartBelow tokens instances) p.rhs) (map source_production ps)
parts_from tokens instances [] h = tt
parts_from tokens instances (p ∷ ps) h = (h.0, parts_from tokens instances ps h.1)

instance_ready : (tokens instances : ℕ) (i : Instance) → IsInstanceReady tokens instances i → IsInstanceReady tokens instances (source_instance i)
instance_ready tokens instances i h = record {
  has_some = subst (λ n. 0 < n) (sym (length-map i.productions source_production)) h.has_some;
  parts_below = All-from_recursion (λ (p : InstanceProduction). All (IsPartBelow tokens instances) p.rhs) (map source_production i.productions) (parts_from tokens instances i.productions (recursion_from_All (λ (p : InstanceProduction). All (IsPartBelow tokens instances) p.rhs) i.productions h.parts_below));
}

instances_from : (tokens instances : ℕ) (is : List Instance) → AllByRecursion (IsInstanceReady tokens instances) is → AllByRecursion (IsInstanceReady tokens instances) (map source_instance is)
instances_from tokens instances [] h = tt
instances_from tokens instances (i ∷ is) h = (instance_ready tokens instances i h.0, instances_from tokens instances is h.1)

pub sources_ready : (e : Expanded) → IsExpandedReady e → IsExpandedReady (with_sources e)
sources_ready e h =
    let tokens : length (map source_token (enumerate_from 0 e.tokens)) ≡ length e.tokens = length-map (enumerate_from 0 e.tokens) source_token ∙ length-enumerate_from 0 e.tokens in
    let instances : length (map source_instance e.instances) ≡ length e.instances = length-map e.instances source_instance in
    record {
      few_tokens = subst (λ n. n ≤ max_numbered) (sym tokens) h.few_tokens;
      costs = All-from_recursion (λ (t : TokenInfo). IsCost t.cost) (map source_token (enumerate_from 0 e.tokens)) (costs_from 0 e.tokens (recursion_from_All (λ (t : TokenInfo). IsCost t.cost) e.tokens h.costs));
      few_instances = subst (λ n. n ≤ max_instances) (sym instances) h.few_instances;
      starts_below = subst (λ n. All (λ s. s < n) e.starts) (sym instances) h.starts_below;
      starts_distinct = h.starts_distinct;
      instances_ready = subst (λ n. All (IsInstanceReady n (length (map source_instance e.instances))) (map source_instance e.instances)) (sym tokens)
          (subst (λ n. All (IsInstanceReady (length e.tokens) n) (map source_instance e.instances)) (sym instances)
          (All-from_recursion (IsInstanceReady (length e.tokens) (length e.instances)) (map source_instance e.instances) (instances_from (length e.tokens) (length e.instances) e.instances (recursion_from_All (IsInstanceReady (length e.tokens) (length e.instances)) e.instances h.instances_ready))));
    }
