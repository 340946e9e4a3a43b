use Rattle.std.proofs.Common.{◌≡◌, ◌++◌, ℕ, List, length, ap, arith, ◌∙◌}
use Rattle.mh_sample.specs.Texts.{sentence_text}
use Rattle.mh_sample.proofs.TextsInParts.{sentence_short}
use Rattle.mh_sample.proofs.counting.judge_sentence.Goals as goal

pub judge_line-requires-clause-short : goal.judge_line-requires-clause-short
judge_line-requires-clause-short c =
    let short = sentence_short c.args.sentence.operators c.args.sentence.number c.requires.sentence.some c.requires.sentence.few in
    let text : c.as_slice.result.now ≡ sentence_text c.args.sentence.operators c.args.sentence.number =
    c.as_slice.ensures.value ∙ c.in_ok-write_sentence.ensures ∙ ap (λ (l : List ℕ). l ++ sentence_text c.args.sentence.operators c.args.sentence.number) c.new-line.ensures.items in
    omega (arith, ap length text, short)
