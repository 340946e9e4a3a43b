-- The data by which the mode of `--interpret` answers lines.
use Rattle.mh_top_plans.specs.Verdicts.{VerdictContext}
use Rattle.mh_top_modes.specs.declared.judge.Judging.{Judging}

abbrev pub context_of : Judging → VerdictContext
context_of by = record { trees = by.trees; expected = by.expected; grammar = by.grammar.now; table = by.halting.now; messages = by.messages }
