use Rattle.std.proofs.Common.{◌≡◌, take, map}
use Rattle.mh_inline.specs.code.NumbersAndOrigins.{symbol_by}
use Rattle.mh_inline.proofs.nonterminals.symbols.Given as goal

abbrev pub invariant-loop-part : goal.invariant-loop-part
invariant-loop-part l = l.symbols.items ≡ map (symbol_by l.numbers) (take l.part-index l.parts)
