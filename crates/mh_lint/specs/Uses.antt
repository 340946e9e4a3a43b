-- The tokens that some alternative has, and the rules that have an instance (Menhir's warnings on unused tokens and on
-- unreachable symbols).
use Rattle.std.specs.Prelude.{◌≡◌, ℕ}
use Rattle.std.specs.List.{Contains}
use Rattle.mh_rules.specs.declared.joined.Head.TheVariants.{Token}
use Rattle.mh_rules.specs.declared.joined.Applied.{Applied}
use Rattle.mh_rules.specs.declared.joined.JoinedAlternative.{JoinedAlternative}
use Rattle.mh_rules.specs.declared.joined.JoinedRule.{JoinedRule}
use Rattle.mh_rules.specs.declared.joined.Joined.{Joined}
use Rattle.mh_rules.specs.declared.instances.InstanceProduction.{InstanceProduction}
use Rattle.mh_rules.specs.declared.instances.Instance.{Instance}
use Rattle.mh_rules.specs.declared.instances.Expanded.{Expanded}
use Rattle.mh_lint_faults.specs.Terms.{heads}

-- ---- Unused tokens.

-- Some alternative of the joined rules has the token, in rules that nothing reaches, too.
pub record IsTokenUsed (j : Joined) (token : ℕ) : Type 0 where
  pub rule : JoinedRule
  pub alternative : JoinedAlternative
  pub producer : Applied
  pub of_rules : Contains j.rules rule
  pub of_rule : Contains rule.alternatives alternative
  pub of_alternative : Contains alternative.producers producer
  pub head : Contains (heads producer) (Token token)

-- ---- Unreachable rules.

-- The production of an instance comes from the alternative: both have one file and one place in it.
pub record ComesFrom (q : InstanceProduction) (a : JoinedAlternative) : Type 0 where
  pub file : q.file ≡ a.file
  pub place : q.place ≡ a.place

-- Some instance is one of the rule: a production of it comes from an alternative of the rule.
pub record HasInstance (e : Expanded) (r : JoinedRule) : Type 0 where
  pub instance : Instance
  pub production : InstanceProduction
  pub alternative : JoinedAlternative
  pub of_instances : Contains e.instances instance
  pub of_instance : Contains instance.productions production
  pub of_rule : Contains r.alternatives alternative
  pub comes : ComesFrom production alternative
