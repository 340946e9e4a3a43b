use Rattle.std.specs.List.{flat_map}
use Rattle.mh_rules.specs.declared.modules.TokenDecl.{TokenDecl}
use Rattle.mh_rules.specs.declared.modules.Rule.{Rule}
use Rattle.mh_join_names.specs.declared.kinds.NameKind.TheVariants as kinds
use Rattle.mh_join_names.specs.Faults.{other_kind}
use Rattle.mh_join_names.specs.code.SymbolTables.{meanings_in}
use Rattle.mh_join_names.proofs.ReportsFirst.{first_then}
use Rattle.mh_join_faults.proofs.duplicates.check_kinds.Goals as goal

pub returns-in-Err : goal.returns-in-Err
returns-in-Err c =
    let w = meanings_in c.args.names.now in
    first_then (flat_map (λ (t : TokenDecl). other_kind w kinds.Token t.name) c.args.file.now.tokens) (flat_map (λ (r : Rule). other_kind w kinds.Rule r.name) c.args.file.now.rules) c.in-Err.fault
    (rw c.as_slice.ensures at c.in-Err.ensures)
