use Rattle.std.proofs.Common.{◌↔◌, take}
use Rattle.std.specs.List.{Contains}
use Rattle.mh_grammar.specs.declared.types.Look.{Look}
use Rattle.mh_items.specs.code.Links.{IsTokenOf}
use Rattle.mh_items.proofs.gathering.set_of.Given as goal

abbrev pub invariant-loop-token : goal.invariant-loop-token
invariant-loop-token _ l = (b : Look) → Contains l.set b ↔ IsTokenOf (take l.token-index l.tokens) b
