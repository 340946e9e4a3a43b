use Rattle.std.proofs.Common.{ℕ, Option, subst}
use Rattle.std.specs.List.{flat_map}
use Rattle.mh_grammar.specs.Text.{Text}
use Rattle.mh_join_names.specs.Faults.{ReportsFirst, meant_by, undefined_in_on_error}
use Rattle.mh_join_names.specs.code.SymbolTables.{meanings_in}
use Rattle.mh_join_names.proofs.Lists.{fun_ext}
use Rattle.mh_join_faults.proofs.undefined.check_file_on_error.Goals as goal

pub returns-in-Ok : goal.returns-in-Ok
returns-in-Ok c =
    let w = meanings_in c.args.names.now in
    subst (λ (g : Text → Option ℕ). ReportsFirst (flat_map (undefined_in_on_error (meant_by w c.args.number g)) c.args.file.now.on_error) c.check_on_error.result)
    (fun_ext c.in-Ok.ensures) (rw c.as_slice.ensures at c.check_on_error.ensures)
