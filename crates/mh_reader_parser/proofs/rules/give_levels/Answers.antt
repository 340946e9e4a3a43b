use Rattle.std.proofs.Common.{Some, get_or, set, ap, ◌∙◌, arith}
use Rattle.std.proofs.lemmas.List.{get_or_default}
use Rattle.std.proofs.lemmas.List.Edits.{map_over_more}
use Rattle.mh_reader_parser.specs.Spelling.{with_prec}
use Rattle.mh_reader_parser.proofs.rules.give_levels.Goals as goal

pub loop-production-preserved : goal.loop-production-preserved
loop-production-preserved c =
    let all = c.loop-production.productions in let i = c.loop-production.production-index in let found = get_or all i c.production-item.result in
    ap (set all i) c.in_ok-give_level.ensures ∙
    map_over_more (with_prec (Some c.args.group.now)) c.args.productions.now all i found c.loop-production-test.true c.loop-production.invariant (get_or_default all i c.production-item.result found (omega arith))
