use Rattle.std.proofs.Common.{List, Err, subst}
use Rattle.mh_lex.specs.declared.kinds.Lexeme.{Lexeme}
use Rattle.mh_reader_parser.specs.Faults.{ReportsUnexpectedPlace}
use Rattle.mh_reader_parser.proofs.ParserExact as exact
use Rattle.mh_reader_parser.proofs.ModuleReady.{spelled_ready}
use Rattle.mh_reader_places.proofs.modules.read_module.Goals as goal

pub returns-in-Ok-read_lexemes-clause-ready : goal.returns-in-Ok-read_lexemes-clause-ready
returns-in-Ok-read_lexemes-clause-ready c =
    spelled_ready c.args.bytes.now c.in-Ok-read_lexemes.made (c.in-Ok.lexemes.items, c.in-Ok.ensures.lexemes, rw c.as_slice.ensures.value at c.in-Ok-read_lexemes.ensures.spelled)

pub returns-in-Ok-clause-fault : goal.returns-in-Ok-clause-fault
returns-in-Ok-clause-fault c =
    rw c.with_line.ensures
    (exact.syntax_line_of_fault c.lexemes_are_unique.ensures c.args.bytes.now c.in-Ok.lexemes.items c.in-Err.fault c.in-Ok.ensures.lexemes (subst (λ (ls : List Lexeme). ReportsUnexpectedPlace c.args.bytes.now ls (Err c.in-Err.fault)) c.as_slice.ensures.value c.in-Err.ensures.fault))

pub returns-in-Err-Syntax-clause-fault : goal.returns-in-Err-Syntax-clause-fault
returns-in-Err-Syntax-clause-fault c = exact.syntax_line_if_lexical c.lexemes_are_unique.ensures c.args.bytes.now c.in-Err-Syntax.line _ (cc c.in-Err-Syntax.line-is) (rw c.in-Err-Syntax.field-0-is at c.in-Err-Syntax.ensures.fault)
