use Rattle.std.proofs.Common.{◌+◌, ◌*◌, ap, ◌∙◌}
use Rattle.mh_reader_parser.proofs.CostText.{value_out_of_range}
use Rattle.mh_reader_parser.proofs.costs.cost_by.Goals as goal

pub returns-then-number-gt-MAX_COST : goal.returns-then-number-gt-MAX_COST
returns-then-number-gt-MAX_COST c =
    value_out_of_range c.loop-digit.number (c.loop-digit.number * 10 + c.from.result) c.args.digits.now c.loop-digit.digit-index c.loop-digit-test.true c.loop-digit.invariant.same
    (ap (λ n. c.loop-digit.number * 10 + n) (c.from.ensures ∙ c.saturating_sub.ensures)) c.if-number-gt-MAX_COST.true
