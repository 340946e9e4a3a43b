-- The conditions that the result of each stage of the front end meets for the next stage: modules, joined rules, and
-- instances.
use Rattle.std.specs.Prelude.{◌<◌, ◌≤◌, ◌≢◌, ℕ, List, length, AllPairs, IfSome}
use Rattle.std.specs.List.{All}
use Rattle.mh_grammar.specs.Limits.{max_numbered}
use Rattle.mh_grammar.specs.Costs.{IsCost, HaveCosts}
use Rattle.mh_rules.specs.declared.modules.Rule.{Rule}
use Rattle.mh_rules.specs.declared.modules.TokenDecl.{TokenDecl}
use Rattle.mh_rules.specs.declared.modules.Module.{Module}
use Rattle.mh_rules.specs.Limits.{max_tokens}
use Rattle.mh_rules.specs.declared.joined.Head.{Head}
use Rattle.mh_rules.specs.declared.joined.Head.TheVariants as heads
use Rattle.mh_rules.specs.declared.joined.Applied.{Applied}
use Rattle.mh_rules.specs.declared.joined.Applied.TheFolds.{every-Applied}
use Rattle.mh_rules.specs.declared.joined.JoinedRule.{JoinedRule}
use Rattle.mh_rules.specs.declared.joined.Joined.{Joined}
use Rattle.mh_rules.specs.Limits.{max_instances}
use Rattle.mh_rules.specs.declared.instances.Part.{Part}
use Rattle.mh_rules.specs.declared.instances.Part.TheVariants as parts
use Rattle.mh_rules.specs.declared.instances.InstanceProduction.{InstanceProduction}
use Rattle.mh_rules.specs.declared.instances.Instance.{Instance}
use Rattle.mh_rules.specs.declared.instances.Expanded.{Expanded}
use Rattle.mh_rules.specs.Depth.{IsActualShallow, AreProducersShallow, IsAppliedShallow, AreJoinedShallow}

-- Conditions on modules.

-- The token's cost, if one is given, is within the limits of costs.
abbrev pub IsTokenReady : TokenDecl → Type 0
IsTokenReady t = IfSome t.cost IsCost

-- Each rule has an alternative, each cost is within its limits, and no actual is nested too deeply.
pub record IsModuleReady (m : Module) : Type 0 where
  pub alternatives : All (λ (r : Rule). 0 < length r.alternatives) m.rules
  pub costs : All IsTokenReady m.tokens
  pub shallow : All AreProducersShallow m.rules
  pub on_error_shallow : All (All IsActualShallow) m.on_error

abbrev pub AreModulesReady : List Module → Type 0
AreModulesReady modules = All IsModuleReady modules

-- Conditions on joined rules.

-- The head's number is below the number of formals, tokens or rules.
abbrev pub IsHeadBelow : ℕ → ℕ → ℕ → Head → Type 0
IsHeadBelow formals tokens rules (heads.Formal n) = n < formals
IsHeadBelow formals tokens rules (heads.Token n) = n < tokens
IsHeadBelow formals tokens rules (heads.Rule n) = n < rules

-- Each head in the applied head, at any depth, has a number below its count (`IsHeadBelow`).
abbrev pub IsAppliedBelow : ℕ → ℕ → ℕ → Applied → Type 0
IsAppliedBelow formals tokens rules = every-Applied (λ a. IsHeadBelow formals tokens rules a.head)

-- The rule has an alternative, the heads in it have numbers below their counts, and no producer is nested too deeply.
pub record IsRuleReady (tokens rules : ℕ) (r : JoinedRule) : Type 0 where
  pub has_some : 0 < length r.alternatives
  pub heads_below : All (λ a. All (IsAppliedBelow r.formals tokens rules) a.producers) r.alternatives
  pub shallow : AreJoinedShallow r

-- All numbers are below the counts of what they number, all costs are within their limits, each rule has an
-- alternative, the starts are distinct, there are at most `max_tokens` tokens, and nothing is nested too deeply.
pub record IsJoinedReady (j : Joined) : Type 0 where
  pub few_tokens : length j.tokens ≤ max_tokens
  pub costs : HaveCosts j.tokens
  pub starts_below : All (λ s. s < length j.rules) j.starts
  pub starts_distinct : AllPairs (λ a b. a ≢ b) j.starts
  pub on_error_below : All (λ actuals. All (IsAppliedBelow 0 (length j.tokens) (length j.rules)) actuals) j.on_error
  pub on_error_shallow : All (All IsAppliedShallow) j.on_error
  pub rules_ready : All (IsRuleReady (length j.tokens) (length j.rules)) j.rules

-- Conditions on instances.

abbrev pub IsPartBelow : ℕ → ℕ → Part → Type 0
IsPartBelow tokens instances (parts.Token z) = z < tokens
IsPartBelow tokens instances (parts.Instance n) = n < instances

-- The instance has an alternative, and the parts of its alternatives have numbers below the counts of tokens and
-- instances.
pub record IsInstanceReady (tokens instances : ℕ) (i : Instance) : Type 0 where
  pub has_some : 0 < length i.productions
  pub parts_below : All (λ (p : InstanceProduction). All (IsPartBelow tokens instances) p.rhs) i.productions

-- All numbers are below the counts of what they number, all costs are within their limits, each instance has an
-- alternative, the starts are distinct, and the counts of tokens and instances are within their limits.
pub record IsExpandedReady (e : Expanded) : Type 0 where
  pub few_tokens : length e.tokens ≤ max_numbered
  pub costs : HaveCosts e.tokens
  pub few_instances : length e.instances ≤ max_instances
  pub starts_below : All (λ s. s < length e.instances) e.starts
  pub starts_distinct : AllPairs (λ a b. a ≢ b) e.starts
  pub instances_ready : All (IsInstanceReady (length e.tokens) (length e.instances)) e.instances
