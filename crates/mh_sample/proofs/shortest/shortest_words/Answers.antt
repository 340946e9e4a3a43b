use Rattle.std.proofs.Common.{◌≡◌, ℕ, Some, slice_get, vec_len, arith}
use Rattle.mh_grammar.specs.Plain.{plain_of}
use Rattle.mh_sample.specs.code.Chains.{AreAnswers}
use Rattle.mh_sample.specs.Shortest.{IsShortest}
use Rattle.mh_sample.specs.declared.word.Shortest.{Shortest}
use Rattle.mh_sample.proofs.Improves.{answered, ok_from}
use Rattle.mh_sample.proofs.shortest.shortest_words.Goals as goal

pub returns-clause-each : goal.returns-clause-each
returns-clause-each c =
    let g = plain_of c.args.grammar.now in
    let words = c.in_ok-words.words in
    let flags = c.in_ok-productive.productive.items in
    let each = rw c.as_slice.ensures.value at c.answers.ensures.each in
    ok_from c.answers.result (λ v. vec_len v ≡ vec_len words) (λ v. AreAnswers words.items flags v.items) (λ v. (n : ℕ) (s : Shortest) → slice_get v.items n ≡ Some s → IsShortest g n s)
    (λ v len are. answered g words.items flags c.in_ok-words.ensures.derived c.in_ok-words.ensures.closed c.in_ok-productive.ensures.exact v.items (omega (arith, len, v.ok.0, words.ok.0)) are)
    c.answers.ensures.len each
