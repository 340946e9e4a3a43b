use Rattle.std.proofs.Common.{◌≤◌, ◌<◌, ℕ}
use Rattle.std.specs.List.{Contains}
use Rattle.mh_lint.specs.code.Uses.{HasPlace}
use Rattle.mh_lint.proofs.levels.UsedLevels.has_group.Given as goal

abbrev pub invariant-loop-alternative : goal.invariant-loop-alternative
invariant-loop-alternative l = (n : ℕ) → l.first ≤ n → n < l.alternative → (Contains l.own.keys n → ⊥) → HasPlace l.self.alternatives.keys l.file n → ⊥
