use Rattle.mh_grammar.specs.Plain.{plain_of}
use Rattle.mh_sample.proofs.RandomIsSentence.{random_is_sentence}
use Rattle.mh_sample.proofs.random_laws.random_sentence_is_sentence.Goals as goal

pub returns : goal.returns
returns c = λ seed n s. random_is_sentence (plain_of c.args.grammar.now) seed n s
