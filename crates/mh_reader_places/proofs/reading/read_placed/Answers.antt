use Rattle.std.proofs.lemmas.Result.{IfOk-weaker}
use Rattle.mh_reader_parser.proofs.ModuleReady.{spelled_ready}
use Rattle.mh_reader_places.proofs.ReportsPlace.{syntax_place_if_lexed, syntax_place_if_lexical}
use Rattle.mh_reader_places.proofs.reading.read_placed.Goals as goal

pub read_lexed-requires-clause-lexes : goal.read_lexed-requires-clause-lexes
read_lexed-requires-clause-lexes c = rw c.as_slice.ensures.value c.in-Ok.ensures.lexemes

pub returns-in-Ok-clause-ready : goal.returns-in-Ok-clause-ready
returns-in-Ok-clause-ready c = IfOk-weaker c.read_lexed.result _ _ (λ placed spelled. spelled_ready c.args.bytes.now placed.module spelled) c.read_lexed.ensures.spelled

pub returns-in-Ok-clause-fault : goal.returns-in-Ok-clause-fault
returns-in-Ok-clause-fault c =
    syntax_place_if_lexed c.lexemes_are_unique.ensures c.args.bytes.now c.in-Ok.lexemes.items c.read_lexed.result c.in-Ok.ensures.lexemes (rw c.as_slice.ensures.value at c.read_lexed.ensures.fault)

pub returns-in-Err-clause-fault : goal.returns-in-Err-clause-fault
returns-in-Err-clause-fault c = syntax_place_if_lexical c.lexemes_are_unique.ensures c.args.bytes.now c.in-Err.fault c.in-Err.ensures.fault
