use Rattle.std.proofs.Common.{sym, subst}
use Rattle.std.proofs.lemmas.Result.{IfOk-weaker}
use Rattle.mh_rules.specs.declared.modules.Module.{Module}
use Rattle.mh_reader_parser.specs.Spelling.{Spells}
use Rattle.mh_reader_places.proofs.ReportsPlace.{lexed_fault, lexed_without_fault}
use Rattle.mh_reader_places.proofs.reading.read_lexed.Goals as goal

pub returns-in-Ok-clause-spelled : goal.returns-in-Ok-clause-spelled
returns-in-Ok-clause-spelled c =
    IfOk-weaker c.with_places.result _ _ (λ placed same. subst (λ (m : Module). Spells c.args.bytes.now m) (sym same) (c.args.lexemes.now, c.requires.lexes, c.in-Ok.ensures.spelled)) c.with_places.ensures.same

pub returns-in-Ok-clause-fault : goal.returns-in-Ok-clause-fault
returns-in-Ok-clause-fault c = lexed_without_fault c.args.bytes.now c.args.lexemes.now c.with_places.result c.with_places.ensures.fault

pub returns-in-Err-clause-fault : goal.returns-in-Err-clause-fault
returns-in-Err-clause-fault c = lexed_fault c.args.bytes.now c.args.lexemes.now c.in-Err.fault c.in-Err.ensures.fault
