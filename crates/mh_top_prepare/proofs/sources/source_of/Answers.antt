use Rattle.std.proofs.Common.{◌≡◌, Some, ap, sym, ◌∙◌}
use Rattle.mh_top_prepare.proofs.IsAutomatonSource.{built_numbered, built_source, order_source}
use Rattle.mh_top_prepare.proofs.sources.source_of.Goals as goal

pub returns-in-Some-clause-source : goal.returns-in-Some-clause-source
returns-in-Some-clause-source g c =
    let named : c.args.order.now.tables ≡ Some c.as_slice.result.now = c.in-Some.is ∙ ap Some (sym c.as_slice.ensures) in
    order_source (g.F.Shelf.files c.args.shelf.now) c.args.order.now c.as_slice.result.now c.file_source.result named (c.file_source.ensures.source c.args.order.now.canonical)

pub returns-in-None-clause-source : goal.returns-in-None-clause-source
returns-in-None-clause-source g c = built_source (g.F.Shelf.files c.args.shelf.now) c.args.order.now c.built.result c.in-None.is c.built.ensures

pub returns-in-None-clause-numbered : goal.returns-in-None-clause-numbered
returns-in-None-clause-numbered g c = built_numbered c.args.order.now.canonical c.built.result c.built.ensures

pub file_source-requires : goal.file_source-requires
file_source-requires g c = record { asked = c.requires.asked c.as_slice.result.now (c.in-Some.is ∙ ap Some (sym c.as_slice.ensures)) }
