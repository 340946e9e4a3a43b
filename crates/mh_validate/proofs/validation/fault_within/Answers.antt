use Rattle.std.proofs.Common.{◌≡◌, ◌<◌, length, arith}
use Rattle.mh_validate.proofs.Outcomes.{cell_fault, edge_fault, edges_fault, wrong_fault}
use Rattle.mh_validate.proofs.validation.fault_within.Goals as goal

pub returns : goal.returns
returns g c =
    let told = rw c.as_slice.ensures.value at c.count_right-right.ensures in
    let within = told.within in
    let count = c.in-Ok.ensures.count in
    let kernels = c.requires.kernels.count in
    let same : c.count_right-right.result ≡ length c.args.stated.now.rows.now = omega (arith, within, count, c.if-right-stated.false) in
    edges_fault c.args.grammar.now c.args.stated.now.raw.now c.count_right-right.result (length c.args.stated.now.rows.now) same
    (edge_fault c.args.grammar.now c.args.stated.now.raw.now c.requires.header c.requires.states c.args.stated.now.kernels.now c.requires.kernels c.args.stated.now.rows.now c.in-Ok.parts.items c.requires.rows (omega (arith, kernels, c.requires.short)) c.in-Ok.ensures
    (λ u lt. told.each u (omega (arith, lt, c.if-right-stated.false))))

pub returns-then-right-stated : goal.returns-then-right-stated
returns-then-right-stated g c =
    let told = rw c.as_slice.ensures.value at c.count_right-right.ensures in
    let count = c.in-Ok.ensures.count in
    let within = c.requires.rows.within in
    let lt : c.count_right-right.result < length c.in-Ok.parts.items = omega (arith, count, c.if-right-stated.true) in
    wrong_fault c.args.grammar.now c.args.stated.now.raw.now c.in-Ok.parts.items c.count_right-right.result c.index.result.now c.wrong_at.result lt c.index.ensures c.wrong_at.ensures
    (cell_fault c.args.grammar.now c.args.stated.now.raw.now c.requires.header c.requires.states c.args.stated.now.kernels.now c.requires.kernels c.args.stated.now.rows.now c.in-Ok.parts.items c.count_right-right.result (length c.args.stated.now.rows.now) c.if-right-stated.true within
    c.requires.rows.each c.in-Ok.ensures.each told.each (told.wrong lt))
