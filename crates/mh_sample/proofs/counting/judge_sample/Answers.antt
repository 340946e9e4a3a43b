use Rattle.std.proofs.Common.{map, refl}
use Rattle.std.proofs.lemmas.Result.{IfOk-weaker}
use Rattle.mh_run.specs.Verdicts.{ending_for}
use Rattle.mh_msgfile.specs.Sentences.{vocabulary_in}
use Rattle.mh_sample.proofs.Verdicts.{endings_all}
use Rattle.mh_sample.proofs.counting.judge_sample.Goals as goal

pub returns : goal.returns
returns c =
    IfOk-weaker c.judge_sentences.result _ _
    (λ vs all. endings_all c.args.table.now c.args.grammar.now c.args.number c.operators.result 3000 (vocabulary_in c.in_ok-lexicon.lexicon) (map ending_for vs.items) c.in_ok-lexicon.ensures c.operators.ensures refl all) c.judge_sentences.ensures
