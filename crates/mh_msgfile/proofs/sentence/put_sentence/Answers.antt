use Rattle.mh_msgfile.specs.code.LineSteps.{name_of}
use Rattle.mh_msgfile.specs.Sentences.{vocabulary_in}
use Rattle.mh_msgfile.proofs.SentenceBounds.{sentence_found, start_refused, token_refused}
use Rattle.mh_msgfile.proofs.sentence.put_sentence.Goals as goal

pub returns-in-Some-clause-sentence : goal.returns-in-Some-clause-sentence
returns-in-Some-clause-sentence c =
    token_refused (vocabulary_in c.args.lexicon.now) (name_of c.args.start) c.args.names.now c.put_tokens.new.tokens.items c.in-Ok.unknown c.in-Some.name c.in-Ok-find_start.start c.unknown_token.result c.in-Ok.ensures.pieces c.in-Some.is c.in-Ok-find_start.ensures c.unknown_token.ensures

pub returns-in-None-clause-sentence : goal.returns-in-None-clause-sentence
returns-in-None-clause-sentence c =
    sentence_found (vocabulary_in c.args.lexicon.now) (name_of c.args.start) c.args.names.now c.put_tokens.new.tokens.items c.in-Ok.unknown c.in-Ok-find_start.start c.in-Ok.ensures.pieces c.in-None.is c.in-Ok-find_start.ensures

pub returns-in-Err-find_start-clause-sentence : goal.returns-in-Err-find_start-clause-sentence
returns-in-Err-find_start-clause-sentence c =
    start_refused (vocabulary_in c.args.lexicon.now) (name_of c.args.start) c.args.names.now c.put_tokens.new.tokens.items c.in-Ok.unknown c.in-Err-find_start.fault c.in-Ok.ensures.pieces c.in-Err-find_start.ensures
