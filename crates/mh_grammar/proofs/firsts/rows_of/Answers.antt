use Rattle.std.proofs.Common.{◌≡◌, ◌<◌, length, map, arith}
use Rattle.std.proofs.lemmas.List.{map-append, length-map}
use Rattle.mh_grammar.specs.Plain.{plain_of}
use Rattle.mh_grammar.proofs.FirstFlags.{RowsSoFar-push, row_exact}
use Rattle.mh_grammar.proofs.firsts.rows_of.Goals as goal

pub loop-n-preserved : goal.loop-n-preserved
loop-n-preserved c =
    let g = plain_of c.args.grammar.now in
    let row = c.in_ok-row.row in
    let width = g.tokens in
    let flags = c.args.flags.now in
    let at : length (map (λ row. row.items) c.loop-n.rows.items) ≡ c.loop-n.n = rw length-map (omega (arith, c.loop-n.invariant.len, c.loop-n.rows.ok.0)) in
    let below : c.loop-n.n < g.nonterminals = omega (arith, c.len-n-end.ensures) in
    let e = rw c.len-width.ensures at c.in_ok-row.ensures.exact in
    record {
      len = omega (arith, c.in_ok-push.ensures.len, c.loop-n.invariant.len);
      rows = rw (c.in_ok-push.ensures.items, map-append) (RowsSoFar-push g _ row.items c.loop-n.invariant.rows c.in_ok-row.ensures.rising
          (rw at (row_exact g width (g.nonterminals) flags c.loop-n.n row.items c.requires.range.productions below c.requires.exact e)));
    }
