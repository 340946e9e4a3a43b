use Rattle.std.proofs.Common.{◌≤◌}
use Rattle.mh_grammar.specs.code.Worklist.{load}
use Rattle.mh_grammar.proofs.worklist.serve_all.Given as goal

abbrev pub invariant-loop-user : goal.invariant-loop-user
invariant-loop-user l = load l.waiting ≤ load l.fn.waiting
