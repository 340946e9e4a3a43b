use Rattle.std.proofs.Common.{◌<◌, suc, length, drop, sym, ap, ◌∙◌, arith}
use Rattle.mh_grammar.specs.Plain.{plain_of, rhs_of}
use Rattle.mh_items_kernels.proofs.SymbolAtDot.{ordinary_rhs, short_start}
use Rattle.mh_items_kernels.proofs.places.symbols_after_dot.Goals as goal

pub returns-then-production-starts : goal.returns-then-production-starts
returns-then-production-starts c =
    let g = plain_of c.args.grammar.now in
    short_start g c.args.production c.args.dot c.len-starts.result c.len-starts.ensures c.if-production-starts.true

pub rest_from-requires : goal.rest_from-requires
rest_from-requires c =
    let g = plain_of c.args.grammar.now in
    let rhs = ordinary_rhs g c.args.production c.len-starts.result c.index.result.now c.len-starts.ensures c.if-production-starts.false c.requires.production c.index.ensures in
    let e = ap length (c.as_slice.ensures ∙ sym rhs) in
    let l : c.args.dot < length (rhs_of g c.args.production) = c.requires.dot in
    omega arith

pub returns : goal.returns
returns c =
    let g = plain_of c.args.grammar.now in
    let rhs = ordinary_rhs g c.args.production c.len-starts.result c.index.result.now c.len-starts.ensures c.if-production-starts.false c.requires.production c.index.ensures in
    c.rest_from.ensures ∙ ap (drop (suc c.args.dot)) (c.as_slice.ensures ∙ sym rhs)
