use Rattle.std.proofs.Common.{take}
use Rattle.mh_inline.specs.code.ProductionParts.{IsOriginsSize}
use Rattle.mh_inline.proofs.productions.size_of_origins.Given as goal

abbrev pub invariant-loop-origin : goal.invariant-loop-origin
invariant-loop-origin l = IsOriginsSize l.expanded.tokens l.expanded.instances (take l.origin-index l.origins) l.size
