use Rattle.std.proofs.Common.{◌≡◌, Some, ap, sym, ◌∙◌}
use Rattle.std.proofs.lemmas.Result.{on_ok_weaker}
use Rattle.mh_grammar.specs.declared.types.Symbol.TheVariants.{N}
use Rattle.mh_tables_core.specs.Table.{edge_of}
use Rattle.mh_tables_core.specs.Run.{top_of}
use Rattle.mh_expected.specs.code.Overlaid.{Overlaid}
use Rattle.mh_expected.proofs.Reduce.{top_goto}
use Rattle.mh_expected.proofs.settle.reduce.Goals as goal

pub returns-clause-ok : goal.returns-clause-ok
returns-clause-ok c =
    let t = c.args.table.now in
    let edge : edge_of t (top_of c.truncate.new.self.stack) (N c.lhs_of.result) ≡ Some c.in-Some.target = ap (λ s. edge_of t s (N c.lhs_of.result)) (sym c.top.ensures) ∙ sym c.goto.ensures ∙ c.in-Some.is in
    on_ok_weaker c.push.result
    (top_goto t c.args.production c.args.stack.now.stack c.requires c.len.result c.length_of.result c.truncate.new.self.stack c.len.ensures c.length_of.ensures (ap (λ (o : Overlaid). o.stack) c.truncate.ensures) c.in-Some.target c.lhs_of.result c.lhs_of.ensures edge c.push.new.self.stack)
    c.push.ensures.pushed
