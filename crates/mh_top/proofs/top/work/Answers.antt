use Rattle.std.proofs.Common.{List, ℕ, map, refl, subst}
use Rattle.std.specs.List.{All}
use Rattle.std.specs.String.{string_bytes}
use Rattle.std.specs.declared.alloc.Global.{Global}
use Rattle.mh_opts.specs.declared.jobs.Job.{Job}
use Rattle.mh_top_load.specs.Modules.{names_to_read, sample_of}
use Rattle.mh_top_claims.proofs.WorkBeforeLastLine.{examined, order_stops}
use Rattle.mh_top_drive.proofs.MayWriteAfter.{after_result, after_stop}
use Rattle.mh_top.proofs.top.work.Goals as goal

pub check_grammar-requires-clause-asked : goal.check_grammar-requires-clause-asked
check_grammar-requires-clause-asked g c =
    subst (λ (job : Job). All (g.F.Shelf.MayAsk c.args.shelf.now) (names_to_read (sample_of job) c.in-Ok.order.grammars)) c.in-Check.is (c.requires.asked c.in-Ok.order c.in-Ok.ensures.order).0

pub check_grammar-requires-clause-tables : goal.check_grammar-requires-clause-tables
check_grammar-requires-clause-tables g c = (c.requires.asked c.in-Ok.order c.in-Ok.ensures.order).1

pub work_on_order-requires-clause-grammars : goal.work_on_order-requires-clause-grammars
work_on_order-requires-clause-grammars g c = (c.requires.asked c.in-Ok.order c.in-Ok.ensures.order).0

pub work_on_order-requires-clause-tables : goal.work_on_order-requires-clause-tables
work_on_order-requires-clause-tables g c = (c.requires.asked c.in-Ok.order c.in-Ok.ensures.order).1

pub work_on_order-requires-clause-asked : goal.work_on_order-requires-clause-asked
work_on_order-requires-clause-asked g c = (c.requires.asked c.in-Ok.order c.in-Ok.ensures.order).2

pub returns-in-Check-clause-ran : goal.returns-in-Check-clause-ran
returns-in-Check-clause-ran g c =
    let words : List (List ℕ) = map (string_bytes {Z = Global}) c.args.words.now in
    examined words c.in-Ok.order c.in-Ok.ensures.order c.in-Check.is _ _ refl refl c.check_grammar.result c.check_grammar.ensures.ran c.check_grammar.ensures.counts c.check_grammar.ensures.read

pub returns-in-Check-clause-may_warn_on : goal.returns-in-Check-clause-may_warn_on
returns-in-Check-clause-may_warn_on g c = after_result _ c.check_grammar.result c.requires.may_warn

pub returns-in_default-clause-ran : goal.returns-in_default-clause-ran
returns-in_default-clause-ran g c = c.work_on_order.ensures.ran (map (string_bytes {Z = Global}) c.args.words.now) c.in-Ok.ensures.order

pub returns-in-Err-clause-ran : goal.returns-in-Err-clause-ran
returns-in-Err-clause-ran g c = order_stops (map (string_bytes {Z = Global}) c.args.words.now) _ c.in-Err.stop c.in-Err.ensures.order

pub returns-in-Err-clause-may_warn_on : goal.returns-in-Err-clause-may_warn_on
returns-in-Err-clause-may_warn_on g c = after_stop _ c.in-Err.stop c.requires.may_warn
