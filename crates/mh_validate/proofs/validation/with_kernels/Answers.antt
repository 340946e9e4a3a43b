use Rattle.std.proofs.Common.{◌≤◌, length, arith, rules}
use Rattle.mh_validate.proofs.Outcomes.{all_rows}
use Rattle.mh_validate.proofs.validation.with_kernels.Goals as goal

pub with_table-requires : goal.with_table-requires
with_table-requires g c =
    let first = rw c.as_slice.ensures.value at c.in-Ok.ensures in
    let past : length c.args.raw.now.states ≤ length c.in-Ok.rows.items = (let n = c.len.ensures in let m = c.len-2.ensures in let k = c.requires.kernels.count in omega (arith, n, m, k, c.args.kernels.ok.0, c.in-Ok.rows.ok.0, c.if-len.false)) in
    (search rules, (search rules, (c.requires.fits, (c.requires.costs, (c.requires.header, (c.requires.states, (c.requires.small, (rw c.from_vec.ensures c.requires.kernels, rw (c.from_vec.ensures, c.from_vec-2.ensures) (all_rows c.args.grammar.now c.args.raw.now c.args.kernels.items c.in-Ok.rows.items first past)))))))))
