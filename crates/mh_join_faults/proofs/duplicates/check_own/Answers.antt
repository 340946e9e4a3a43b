use Rattle.std.proofs.Common.{Bool, [], ap, subst}
use Rattle.std.specs.Prelude.{◌||◌}
use Rattle.std.specs.List.{list_any}
use Rattle.mh_grammar.specs.Text.{Text}
use Rattle.mh_join_names.specs.Names.{same}
use Rattle.mh_join_names.specs.Faults.{ReportsFirst, repeats, own_names}
use Rattle.mh_join_names.proofs.Lists.{fun_ext}
use Rattle.mh_join_faults.proofs.duplicates.check_own.Goals as goal

pub returns-in-Ok : goal.returns-in-Ok
returns-in-Ok c =
    subst (λ (g : Text → Bool). ReportsFirst (repeats [] (own_names g c.args.file.now.rules)) c.check_own_rules.result)
    (fun_ext (λ x. ap (λ b. list_any (same x) c.args.names.now.starts.keys || b) ((rw c.as_slice.ensures at c.in-Ok.ensures) x))) (rw c.as_slice-in-Ok.ensures at c.check_own_rules.ensures)
