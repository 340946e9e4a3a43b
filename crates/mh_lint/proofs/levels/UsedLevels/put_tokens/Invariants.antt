use Rattle.mh_lint.specs.code.LevelUses.{NoPlace}
use Rattle.mh_lint.proofs.AddsUses.{AddsBelow}
use Rattle.mh_lint.proofs.AreUsedLevels.{TokenAt}
use Rattle.mh_lint.proofs.levels.UsedLevels.put_tokens.Given as goal

abbrev pub invariant-loop-token : goal.invariant-loop-token
invariant-loop-token l = AddsBelow (TokenAt l.tokens l.compared) (λ z. NoPlace) l.token l.fn.self l.self
