use Rattle.std.proofs.Common.{Some, sym, ap, ◌∙◌}
use Rattle.std.specs.Prelude.{option_map}
use Rattle.mh_join_names.specs.Joining.{all_of, prec_by, alternative_with}
use Rattle.mh_join_names.specs.code.SymbolTables.{meanings_in}
use Rattle.mh_join_names.proofs.Resolved.{all_somes}
use Rattle.mh_join_parts.proofs.building.joined_alternative.Goals as goal

pub returns : goal.returns
returns c =
    let w = meanings_in c.args.scope.now.names.now in let ks = c.in_ok-joined_actuals.field-0 in
    ap (λ pr. Some (alternative_with c.args.scope.now.file c.args.place pr ks)) c.joined_prec.ensures
    ∙ ap (option_map (alternative_with c.args.scope.now.file c.args.place (prec_by w.aliased w.level c.args.alternative.now.prec))) (sym (all_somes ks) ∙ ap all_of (rw c.as_slice.ensures at c.in_ok-joined_actuals.ensures))
