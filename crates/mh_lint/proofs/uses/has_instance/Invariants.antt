use Rattle.std.proofs.Common.{take}
use Rattle.std.specs.List.{Any}
use Rattle.mh_rules.specs.declared.joined.JoinedAlternative.{JoinedAlternative}
use Rattle.mh_lint.specs.code.Uses.{HasPlace}
use Rattle.mh_lint.proofs.uses.has_instance.Given as goal

abbrev pub invariant-loop-alternative : goal.invariant-loop-alternative
invariant-loop-alternative l = Any (λ (a : JoinedAlternative). HasPlace l.found.keys a.file a.place) (take l.alternative-index l.alternative-items) → ⊥
