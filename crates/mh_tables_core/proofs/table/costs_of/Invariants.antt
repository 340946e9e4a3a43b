use Rattle.std.proofs.Common.{◌≡◌, take}
use Rattle.mh_grammar.specs.Costs.{costs_of}
use Rattle.mh_tables_core.proofs.table.costs_of.Given as goal

abbrev pub invariant-loop-token : goal.invariant-loop-token
invariant-loop-token l = l.costs.items ≡ costs_of (take l.token-index l.tokens)
