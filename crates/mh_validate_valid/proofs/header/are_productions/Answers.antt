use Rattle.std.proofs.Common.{rules, tests}
use Rattle.std.proofs.lemmas.Iterator.{YieldsList-from_slice, YieldsList-from_zip, same_from_all}
use Rattle.std.proofs.lemmas.List.{length-map}
use Rattle.mh_tabfile_form.specs.TableContent.{raw_production}
use Rattle.mh_validate_valid.proofs.YieldsList.{YieldsList-values}
use Rattle.mh_validate_valid.proofs.header.are_productions.Goals as goal

pub returns-then-raws-productions : goal.returns-then-raws-productions
returns-then-raws-productions c = same_from_all c.all.new.self _ _ _ _ c.all.ensures.ran (YieldsList-from_zip (YieldsList-from_slice c.args.raws.now cc) (YieldsList-values (raw_production c.args.grammar.now) (YieldsList-from_slice c.args.productions.now cc))) (search (rules, length-map)) (λ x q k. search (rules, tests)) (λ x q k. search (rules, tests))
