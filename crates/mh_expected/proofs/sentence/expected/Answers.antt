use Rattle.std.proofs.Common.{List, ℕ, subst, sym}
use Rattle.std.proofs.lemmas.Result.{IfOk-weaker}
use Rattle.mh_expected.specs.code.Trials.{AsksOn}
use Rattle.mh_expected.proofs.ExpectedTokens.{all_expected}
use Rattle.mh_expected.proofs.sentence.expected.Goals as goal

pub returns : goal.returns
returns c =
    let asks : AsksOn c.args.table.now c.args.start c.args.sentence.now c.as_slice.result.now = subst (AsksOn c.args.table.now c.args.start c.args.sentence.now) (sym c.as_slice.ensures.value) c.in_ok-states.ensures.asks in
    IfOk-weaker c.tokens_shifted.result _ _ (λ list h. all_expected c.args.table.now c.args.start c.args.sentence.now c.as_slice.result.now list asks h) c.tokens_shifted.ensures
