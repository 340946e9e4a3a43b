-- Proves that the costs of joined tokens are within the limits of costs (`IsCost`).
use Rattle.std.proofs.Common.{ℕ, List, [], ◌∷◌, Option, Some, None, Bool, true, false, cond, flat_map, sym, subst, arith}
use Rattle.std.specs.Prelude.{IfSome, unwrap_or}
use Rattle.std.specs.List.{AllByRecursion}
use Rattle.std.specs.Map.{lookup}
use Rattle.std.proofs.lemmas.List.Elements.{recursion_from_All}
use Rattle.mh_grammar.specs.Costs.{IsCost, HaveCosts}
use Rattle.mh_grammar.proofs.Costs.{have_costs_map}
use Rattle.mh_grammar.proofs.Lists.{recursion-append}
use Rattle.mh_rules.specs.declared.modules.TokenDecl.{TokenDecl}
use Rattle.mh_rules.specs.declared.modules.Module.{Module}
use Rattle.mh_rules.specs.declared.joined.Joined.{Joined}
use Rattle.mh_rules.specs.Ready.{IsTokenReady, IsModuleReady, AreModulesReady}
use Rattle.mh_grammar.specs.Text.{Text}
use Rattle.mh_join_names.specs.Names.{same, given_cost, cost_by, costs, cost_of}
use Rattle.mh_join_names.specs.Faults.{meanings}
use Rattle.mh_join_names.specs.Joining.{token_info, IsJoined}

abbrev IsPriced : Text × ℕ → Type 0
IsPriced e = IsCost e.1

given_priced : (x : Text) (o : Option ℕ) → IfSome o IsCost → AllByRecursion IsPriced (cost_by x o)
given_priced x None h = tt
given_priced x (Some c) h = (h, tt)

tokens_priced : (ts : List TokenDecl) → AllByRecursion IsTokenReady ts → AllByRecursion IsPriced (flat_map given_cost ts)
tokens_priced [] h = tt
tokens_priced (t ∷ ts) h = recursion-append IsPriced (given_cost t) (flat_map given_cost ts) (given_priced t.name t.cost h.0) (tokens_priced ts h.1)

modules_priced : (ms : List Module) → AllByRecursion IsModuleReady ms → AllByRecursion IsPriced (costs ms)
modules_priced [] h = tt
modules_priced (m ∷ ms) h =
    recursion-append IsPriced (flat_map given_cost m.tokens) (costs ms) (tokens_priced m.tokens (recursion_from_All IsTokenReady m.tokens h.0.costs)) (modules_priced ms h.1)

found_priced : (p : Text → Bool) (es : List (Text × ℕ)) → AllByRecursion IsPriced es → IfSome (lookup p es) IsCost
found_priced p [] h = tt
found_priced p (e ∷ es) h = by (p e.0) (found_priced p es h.1)
  where
    by : (b : Bool) → IfSome (lookup p es) IsCost → IfSome (cond b (Some e.1) (lookup p es)) IsCost
    by true f = h.0
    by false f = f

else_one : (o : Option ℕ) → IfSome o IsCost → IsCost (unwrap_or o 1)
else_one None h = (omega arith, omega arith)
else_one (Some c) h = h

pub tokens_costed : (p : Bool) (ms : List Module) (j : Joined) → AreModulesReady ms → IsJoined p ms j → HaveCosts j.tokens
tokens_costed p ms j ready joined =
    let w = meanings p ms in
    let all = modules_priced ms (recursion_from_All IsModuleReady ms ready) in
    subst HaveCosts (sym joined.tokens_are) (have_costs_map (token_info w) (λ x. else_one (cost_of ms x) (found_priced (same x) (costs ms) all)) w.tokens)
