use Rattle.std.proofs.Common.{[], take}
use Rattle.mh_lint_faults.specs.code.Producers.{IsWrongProducerOf}
use Rattle.mh_lint_faults.proofs.KeysGained.{Gains}
use Rattle.mh_lint_faults.proofs.WrongProducers.{IsWrongOfRule}
use Rattle.mh_lint_faults.proofs.arity.wrong_producers.Given as goal

abbrev pub invariant-loop-alternative : goal.invariant-loop-alternative
invariant-loop-alternative l = Gains (IsWrongProducerOf l.joined l.printed) l.initial.found.keys l.found.keys (take l.alternative-index l.alternative-items)

abbrev pub invariant-loop-rule : goal.invariant-loop-rule
invariant-loop-rule l = Gains (IsWrongOfRule l.joined l.printed) [] l.found.keys (take l.rule-index l.rule-items)
