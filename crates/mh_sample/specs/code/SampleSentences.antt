-- The sentences that the code writes.
use Rattle.std.specs.Prelude.{ℕ, ◌<◌}
use Rattle.mh_sample.specs.SampleSize.{sample_size}
use Rattle.mh_sample.specs.declared.texts.SampleSentence.{SampleSentence}

-- The sentence is one of a sample, whose grammar has at least one operator and fewer than 32.
pub record IsInSample (sentence : SampleSentence) : Type 0 where
  pub some : 0 < sentence.operators
  pub few : sentence.operators < 32
  pub within : sentence.number < sample_size
