use Rattle.std.proofs.Common.{◌≡◌, ◌<◌, ◌≤◌, length, arith, rules}
use Rattle.mh_validate.proofs.Outcomes.{all_kernels, kernel_fault}
use Rattle.mh_validate.proofs.validation.validation_of.Goals as goal

pub with_kernels-requires : goal.with_kernels-requires
with_kernels-requires g c =
    let past : length c.args.raw.now.states ≤ length c.in-Ok.kernels.items = (let n = c.len-found.ensures in let m = c.len-3.ensures in omega (arith, n, m, c.if-found-len.false, c.in-Ok.kernels.ok.0)) in
    let states : length c.args.grammar.now.starts ≤ length c.args.raw.now.states = (let n = c.len.ensures in let m = c.len-2.ensures in omega (arith, n, m, c.if-len.false)) in
    (search rules, (search rules, (c.requires.fits, (c.requires.input.costs, (c.has_header.ensures.0 c.if-not-has_header.false, (states, (c.requires.input.small, all_kernels c.args.grammar.now c.args.raw.now c.in-Ok.kernels.items c.in-Ok.ensures past)))))))

pub returns-then-found-len : goal.returns-then-found-len
returns-then-found-len g c =
    let here : c.len-found.result ≡ length c.in-Ok.kernels.items = (let n = c.len-found.ensures in omega (arith, n, c.in-Ok.kernels.ok.0)) in
    let short : length c.in-Ok.kernels.items < length c.args.raw.now.states = (let n = c.len-found.ensures in let m = c.len-3.ensures in omega (arith, n, m, c.if-found-len.true, c.in-Ok.kernels.ok.0)) in
    let states : length c.args.grammar.now.starts ≤ length c.args.raw.now.states = (let n = c.len.ensures in let m = c.len-2.ensures in omega (arith, n, m, c.if-len.false)) in
    kernel_fault c.args.grammar.now c.args.raw.now c.in-Ok.kernels.items c.len-found.result (c.has_header.ensures.0 c.if-not-has_header.false) states c.in-Ok.ensures here short
