use Rattle.std.proofs.Common.{◌≡◌, length, vec_len}
use Rattle.mh_sample.specs.code.Chains.{AreAnswers}
use Rattle.mh_sample.proofs.shortest.answers.Given as goal

abbrev pub invariant-loop-word : goal.invariant-loop-word
invariant-loop-word l = record {
  len : vec_len l.answers ≡ length l.yielded;
  each : AreAnswers l.yielded l.productive l.answers.items;
}
