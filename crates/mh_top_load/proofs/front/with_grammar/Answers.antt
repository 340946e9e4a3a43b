use Rattle.mh_top_load.specs.Modules.{sample_of}
use Rattle.mh_top_load.proofs.StagesToGrammar.{files_stop, front_made, grammar_stops}
use Rattle.mh_top_load.proofs.AreModulesReady.{modules_capital, modules_named, modules_ready}
use Rattle.mh_top_load.proofs.front.with_grammar.Goals as goal

pub returns-in-Err-clause-front : goal.returns-in-Err-clause-front
returns-in-Err-clause-front g c = files_stop (g.F.Shelf.files c.args.shelf.now) c.args.order c.in-Err.stop c.in-Err.ensures.modules

pub grammar_in-requires-clause-ready : goal.grammar_in-requires-clause-ready
grammar_in-requires-clause-ready g c = modules_ready (g.F.Shelf.files c.args.shelf.now) (sample_of c.args.order.job) c.args.order.grammars c.in-Ok.modules.items c.in-Ok.ensures.modules

pub grammar_in-requires-clause-capitals : goal.grammar_in-requires-clause-capitals
grammar_in-requires-clause-capitals g c = modules_capital (g.F.Shelf.files c.args.shelf.now) (sample_of c.args.order.job) c.args.order.grammars c.in-Ok.modules.items c.in-Ok.ensures.modules

pub grammar_in-requires-clause-words : goal.grammar_in-requires-clause-words
grammar_in-requires-clause-words g c = modules_named (g.F.Shelf.files c.args.shelf.now) (sample_of c.args.order.job) c.args.order.grammars c.in-Ok.modules.items c.in-Ok.ensures.modules

pub returns-in-Ok-grammar_in-clause-front : goal.returns-in-Ok-grammar_in-clause-front
returns-in-Ok-grammar_in-clause-front g c = front_made (g.F.Shelf.files c.args.shelf.now) c.args.order c.in-Ok.modules.items c.in-Ok-grammar_in.grammar c.in-Ok.ensures.modules c.in-Ok-grammar_in.ensures.grammar

pub returns-in-Err-grammar_in-clause-front : goal.returns-in-Err-grammar_in-clause-front
returns-in-Err-grammar_in-clause-front g c = grammar_stops (g.F.Shelf.files c.args.shelf.now) c.args.order c.in-Ok.modules.items c.in-Err-grammar_in.stop c.in-Ok.ensures.modules c.in-Err-grammar_in.ensures.grammar
