use Rattle.std.proofs.Common.{rules}
use Rattle.mh_msgfile.specs.Sentences.{vocabulary_in}
use Rattle.mh_msgfile.proofs.SentenceBounds.{tokens_by}
use Rattle.mh_msgfile.proofs.sentence.put_tokens.Goals as goal

pub returns-clause-pieces : goal.returns-clause-pieces
returns-clause-pieces c =
    tokens_by (vocabulary_in c.args.lexicon.now) c.args.line.now c.loop-name.rest.now c.loop-name.tokens.items c.loop-name.unknown c.in_default.ensures c.loop-name.invariant.names c.loop-name.invariant.so_far

pub loop-name-preserved : goal.loop-name-preserved
loop-name-preserved c = search rules
