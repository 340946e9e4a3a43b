use Rattle.std.proofs.Common.{ap, sym, ◌∙◌}
use Rattle.std.proofs.lemmas.Result.{IfOk-weaker}
use Rattle.mh_expected.proofs.ExpectedAt.{expected_there}
use Rattle.mh_expected.proofs.checkpoint.expected_at.Goals as goal

pub returns : goal.returns
returns c =
    IfOk-weaker c.tokens_shifted.result _ _
    (λ list h b there. expected_there c.args.table.now c.args.checkpoint.now c.as_slice.result.now list c.requires.table (c.as_slice.ensures.value ∙ c.in_ok-states.ensures.states) c.requires.can_offer h b there) c.tokens_shifted.ensures
