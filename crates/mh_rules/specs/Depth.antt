-- The depth of actuals, and the limit that bounds recursive calls over them (a rule of this project).
use Rattle.std.specs.Prelude.{◌≤◌, ℕ, suc, max, List, [], ◌∷◌}
use Rattle.std.specs.List.{All}
use Rattle.mh_rules.specs.Limits.{max_actual_depth}
use Rattle.mh_rules.specs.declared.modules.Actual.{Actual}
use Rattle.mh_rules.specs.declared.modules.Actual.TheOpen.{Actual-F}
use Rattle.mh_rules.specs.declared.modules.Actual.TheFolds.{fold-Actual}
use Rattle.mh_rules.specs.declared.modules.Alternative.{Alternative}
use Rattle.mh_rules.specs.declared.modules.Rule.{Rule}
use Rattle.mh_rules.specs.declared.joined.Applied.{Applied}
use Rattle.mh_rules.specs.declared.joined.Applied.TheOpen.{Applied-F}
use Rattle.mh_rules.specs.declared.joined.Applied.TheFolds.{fold-Applied}
use Rattle.mh_rules.specs.declared.joined.JoinedAlternative.{JoinedAlternative}
use Rattle.mh_rules.specs.declared.joined.JoinedRule.{JoinedRule}

-- The greatest number of the list, or 0 if it is empty.
abbrev pub greatest : List ℕ → ℕ
greatest [] = 0
greatest (n ∷ ns) = max n (greatest ns)

-- The depth of actuals of modules.

abbrev pub actual_depth_step : Actual-F ℕ → ℕ
actual_depth_step a = suc (greatest a.args)

-- The depth of an actual: 1 without arguments, or one more than its deepest argument.
abbrev pub actual_depth : Actual → ℕ
actual_depth = fold-Actual ℕ actual_depth_step

abbrev pub IsActualShallow : Actual → Type 0
IsActualShallow a = actual_depth a ≤ max_actual_depth

-- No producer of the rule is too deep.
abbrev pub AreProducersShallow : Rule → Type 0
AreProducersShallow r = All (λ (a : Alternative). All IsActualShallow a.producers) r.alternatives

-- The depth of actuals of joined rules.

abbrev pub applied_depth_step : Applied-F ℕ → ℕ
applied_depth_step a = suc (greatest a.args)

abbrev pub applied_depth : Applied → ℕ
applied_depth = fold-Applied ℕ applied_depth_step

abbrev pub IsAppliedShallow : Applied → Type 0
IsAppliedShallow a = applied_depth a ≤ max_actual_depth

-- No producer of the joined rule is too deep.
abbrev pub AreJoinedShallow : JoinedRule → Type 0
AreJoinedShallow r = All (λ (a : JoinedAlternative). All IsAppliedShallow a.producers) r.alternatives
