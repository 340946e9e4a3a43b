use Rattle.std.proofs.Common.{rules, tests}
use Rattle.std.proofs.lemmas.Iterator.{YieldsList-from_slice, YieldsList-from_zip, same_from_all}
use Rattle.std.proofs.lemmas.List.{length-map}
use Rattle.mh_grammar.specs.declared.types.TokenInfo.{TokenInfo}
use Rattle.mh_validate_valid.proofs.YieldsList.{YieldsList-values}
use Rattle.mh_validate_valid.proofs.header.are_tokens.Goals as goal

pub returns-then-names-tokens : goal.returns-then-names-tokens
returns-then-names-tokens c = same_from_all c.all.new.self _ _ _ _ c.all.ensures.ran (YieldsList-from_zip (YieldsList-from_slice c.args.names.now cc) (YieldsList-values (λ (t : TokenInfo). t.name) (YieldsList-from_slice c.args.tokens.now cc))) (search (rules, length-map)) (λ x q k. search (rules, tests)) (λ x q k. search (rules, tests))
