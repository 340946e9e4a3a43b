use Rattle.std.proofs.Common.{◌++◌, ℕ, List, ap₂, ◌∙◌}
use Rattle.mh_sample.specs.SampleSize.{sample_size}
use Rattle.mh_sample.specs.Texts.{each_from, sentence_line, sentences_text}
use Rattle.mh_sample.proofs.texts.sample_sentences.Goals as goal

pub returns : goal.returns
unfolding sentences_text
returns c =
    c.in_ok-write_sentences.ensures
    ∙ ap₂ (λ (front : List ℕ) (k : ℕ). front ++ each_from (sentence_line k) 0 sample_size) c.new-text.ensures.items c.operators.ensures
