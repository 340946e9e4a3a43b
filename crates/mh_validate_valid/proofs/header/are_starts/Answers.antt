use Rattle.std.proofs.Common.{rules, tests}
use Rattle.std.proofs.lemmas.Iterator.{YieldsList-from_slice, YieldsList-from_zip, same_from_all}
use Rattle.std.proofs.lemmas.List.{length-map}
use Rattle.mh_grammar.specs.Names.{nonterminal_name}
use Rattle.mh_validate_valid.proofs.YieldsList.{YieldsList-values}
use Rattle.mh_validate_valid.proofs.header.are_starts.Goals as goal

pub returns-then-names-starts : goal.returns-then-names-starts
returns-then-names-starts c = same_from_all c.all.new.self _ _ _ _ c.all.ensures.ran (YieldsList-from_zip (YieldsList-from_slice c.args.names.now cc) (YieldsList-values (nonterminal_name c.args.grammar.now) (YieldsList-from_slice c.args.starts.now cc))) (search (rules, length-map)) (λ x q k. search (rules, tests)) (λ x q k. search (rules, tests))
