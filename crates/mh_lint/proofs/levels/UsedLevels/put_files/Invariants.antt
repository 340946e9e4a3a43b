use Rattle.std.specs.HashMap.{get}
use Rattle.mh_join_names.specs.Names.{same}
use Rattle.mh_lint.specs.code.LevelUses.{IsPrecNameOf, NoPlace}
use Rattle.mh_lint.proofs.AddsUses.{AddsBelow}
use Rattle.mh_lint.proofs.levels.UsedLevels.put_files.Given as goal

abbrev pub invariant-loop-at : goal.invariant-loop-at
invariant-loop-at l = AddsBelow (IsPrecNameOf (λ a. get same l.aliases a) l.read l.fn.self.alternatives.keys) (λ z. NoPlace) l.at l.fn.self l.self
