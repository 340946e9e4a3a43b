use Rattle.std.proofs.Common.{◌∙◌, arith}
use Rattle.mh_tabfile_form.proofs.Pieces.{count_bounds}
use Rattle.mh_tabfile_form.proofs.names.Names.len.Goals as goal

pub returns : goal.returns
returns c =
    let count = count_bounds c.self.inside.bytes.items c.self.inside.bounds.items c.self.invariant in
    let here = c.len.ensures ∙ c.self.inside.bounds.ok.0 in
    rw (← c.self.view_is) (omega (arith, count, here))
