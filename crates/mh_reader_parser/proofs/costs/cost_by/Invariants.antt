use Rattle.std.proofs.Common.{◌≡◌, ◌≤◌, drop}
use Rattle.mh_grammar.specs.Limits.{max_cost}
use Rattle.mh_reader_parser.specs.Costs.{decimal_value_from}
use Rattle.mh_reader_parser.proofs.costs.cost_by.Given as goal

abbrev pub invariant-loop-digit : goal.invariant-loop-digit
invariant-loop-digit l = record {
  few : l.number ≤ max_cost;
  same : decimal_value_from l.number (drop l.digit-index l.digits) ≡ decimal_value_from 0 l.digits;
}
