use Rattle.std.proofs.Common.{sym, ◌∙◌}
use Rattle.mh_sets.specs.LookEquality.{looks_Decides}
use Rattle.mh_validate_valid.proofs.items.is_end.Goals as goal

pub returns : goal.returns
returns g c =
    let same = looks_Decides c.args.looks.now c.only.result in
    (λ t. same.0 (sym c.eq.ensures ∙ t) ∙ c.only.ensures, λ e. c.eq.ensures ∙ same.1 (e ∙ sym c.only.ensures))
