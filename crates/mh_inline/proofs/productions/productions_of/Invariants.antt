use Rattle.std.proofs.Common.{take}
use Rattle.mh_inline.specs.Inlined.{AreProductions}
use Rattle.mh_inline.proofs.productions.productions_of.Given as goal

abbrev pub invariant-loop-origin : goal.invariant-loop-origin
invariant-loop-origin l = AreProductions l.expanded.tokens l.expanded.instances (take l.origin-index l.origins) l.productions.items
