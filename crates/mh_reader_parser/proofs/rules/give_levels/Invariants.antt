use Rattle.std.proofs.Common.{◌≡◌, ◌++◌, Some, map, take, drop}
use Rattle.mh_reader_parser.specs.Spelling.{with_prec}
use Rattle.mh_reader_parser.proofs.rules.give_levels.Given as goal

abbrev pub invariant-loop-production : goal.invariant-loop-production
invariant-loop-production l = l.productions ≡ map (with_prec (Some l.group)) (take l.production-index l.initial.productions) ++ drop l.production-index l.initial.productions
