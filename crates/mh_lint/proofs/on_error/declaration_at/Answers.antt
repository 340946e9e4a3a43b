use Rattle.std.proofs.Common.{◌+◌, ◌<◌, arith, length}
use Rattle.mh_lint.proofs.DeclaredActuals.{number_past}
use Rattle.mh_lint.proofs.on_error.declaration_at.Goals as goal

pub returns-in-None : goal.returns-in-None
returns-in-None c =
    let wide : c.args.before + c.args.rank < 18446744073709551616 → ⊥ = c.in-None.ensures in
    let count = c.len-count.ensures in
    let fits = c.len-count.type_inv in
    number_past (length c.args.joined.now.on_error) (c.args.before + c.args.rank) (omega (arith, wide, count, fits))
