use Rattle.std.proofs.Common.{◌≡◌, take}
use Rattle.mh_inline.specs.Inlined.{last_token}
use Rattle.mh_inline.proofs.productions.last_token_of.Given as goal

abbrev pub invariant-loop-part : goal.invariant-loop-part
invariant-loop-part l = l.last ≡ last_token (take l.part-index l.parts)
