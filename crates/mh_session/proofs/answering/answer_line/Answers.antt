use Rattle.std.proofs.Common.{Err}
use Rattle.mh_msgfile.specs.Sentences.{vocabulary_in}
use Rattle.mh_session_branches.specs.LineForms.{Asks}
use Rattle.mh_session_branches.proofs.IsCommandOf.{command_known}
use Rattle.mh_session.proofs.IsLineAnswered.{line_answered, refusal_answered, reads_of, says_of}
use Rattle.mh_session.proofs.answering.answer_line.Goals as goal

pub serve-text-requires : goal.serve-text-requires
serve-text-requires c =
    command_known c.args.grammar.now c.args.session.now.table c.args.line.now c.in-Ok.command c.requires.same
    (says_of c.args.grammar.now (vocabulary_in c.args.lexicon.now) c.args.line.now (Asks c.in-Ok.command) c.requires.names c.in-Ok.ensures)

pub returns-in-Ok-clause-answered : goal.returns-in-Ok-clause-answered
returns-in-Ok-clause-answered c =
    line_answered c.args.grammar.now c.args.line.now c.args.session.now c.serve-text.new.session (Asks c.in-Ok.command) c.serve-text.result
    (says_of c.args.grammar.now (vocabulary_in c.args.lexicon.now) c.args.line.now (Asks c.in-Ok.command) c.requires.names c.in-Ok.ensures) c.serve-text.ensures.answered

pub returns-in-Err-clause-answered : goal.returns-in-Err-clause-answered
returns-in-Err-clause-answered c =
    refusal_answered c.args.grammar.now c.args.line.now c.args.session.now c.in-Err.fault c.command_refusal-text.result
    (reads_of c.args.grammar.now (vocabulary_in c.args.lexicon.now) c.args.line.now (Err c.in-Err.fault) c.requires.names c.in-Err.ensures) c.command_refusal-text.ensures
