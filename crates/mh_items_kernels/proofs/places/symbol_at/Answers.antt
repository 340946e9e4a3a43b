use Rattle.std.proofs.Common.{sym, ap, ◌∙◌}
use Rattle.std.specs.List.{slice_get}
use Rattle.mh_grammar.specs.Plain.{plain_of}
use Rattle.mh_items_kernels.proofs.SymbolAtDot.{start_rhs, ordinary_rhs}
use Rattle.mh_items_kernels.proofs.places.symbol_at.Goals as goal

pub returns-then-production-starts : goal.returns-then-production-starts
returns-then-production-starts c =
    let g = plain_of c.args.grammar.now in
    c.start_symbol_at.ensures ∙ ap (λ rhs. slice_get rhs c.args.dot) (sym (start_rhs g c.args.production c.len-starts.result c.index.result.now c.len-starts.ensures c.if-production-starts.true c.index.ensures))

pub returns : goal.returns
returns c =
    let g = plain_of c.args.grammar.now in
    let rhs = ordinary_rhs g c.args.production c.len-starts.result c.index-2.result.now c.len-starts.ensures c.if-production-starts.false c.requires.production c.index-2.ensures in
    c.symbol_in.ensures ∙ ap (λ rhs. slice_get rhs c.args.dot) (c.as_slice.ensures ∙ sym rhs)
