use Rattle.std.proofs.Common.{◌≡◌, take, map, filter}
use Rattle.mh_inline.specs.Kept.{is_kept, nonterminal_of}
use Rattle.mh_inline.proofs.nonterminals.nonterminals_of.Given as goal

abbrev pub invariant-loop-instance : goal.invariant-loop-instance
invariant-loop-instance l = l.nonterminals.items ≡ map nonterminal_of (filter is_kept (take l.instance-index l.instances))
