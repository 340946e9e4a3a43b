use Rattle.std.proofs.Common.{◌≡◌, map, take}
use Rattle.std.specs.List.{enumerate_from}
use Rattle.mh_lint.specs.LevelSources.{source_token}
use Rattle.mh_lint.proofs.sources.source_tokens.Given as goal

abbrev pub invariant-loop-number : goal.invariant-loop-number
invariant-loop-number l = l.sources ≡ map source_token (enumerate_from 0 (take l.number l.tokens))
