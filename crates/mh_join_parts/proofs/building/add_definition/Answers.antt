use Rattle.std.proofs.Common.{ℕ, [], ◌++◌, ◌≡◌, Some, Option, map, sym, subst}
use Rattle.std.specs.Prelude.{OnOk}
use Rattle.std.specs.List.{flat_map, enumerate_from}
use Rattle.mh_grammar.specs.Text.{Text}
use Rattle.mh_join_names.specs.Faults.{meant_by}
use Rattle.mh_join_names.specs.Joining.{alternative_by}
use Rattle.mh_join_parts.specs.code.CanJoin.{unresolved}
use Rattle.mh_join_names.specs.code.SymbolTables.{meanings_in}
use Rattle.mh_join_names.proofs.Lists.{fun_ext}
use Rattle.mh_join_parts.proofs.building.add_definition.Goals as goal

pub add_alternatives-added-requires-clause-resolved : goal.add_alternatives-added-requires-clause-resolved
add_alternatives-added-requires-clause-resolved c =
    let w = meanings_in c.args.names.now in
    rw c.as_slice-alternatives.ensures (subst (λ (g : Text → Option ℕ). flat_map (unresolved (meant_by w c.args.definition.now.file g)) c.args.definition.now.rule.now.alternatives ≡ []) (sym (fun_ext (rw c.as_slice.ensures at c.in_ok-formals.ensures))) c.requires.resolved)

pub returns : goal.returns
returns c =
    let w = meanings_in c.args.names.now in
    subst (λ (g : Text → Option ℕ). OnOk c.add_alternatives-added.result (map Some c.add_alternatives-added.new.joined ≡ map Some c.args.joined.now ++ map (alternative_by w c.args.definition.now.file (meant_by w c.args.definition.now.file g)) (enumerate_from c.args.definition.now.place c.args.definition.now.rule.now.alternatives)))
    (fun_ext (rw c.as_slice.ensures at c.in_ok-formals.ensures)) (rw c.in_ok-make_room.ensures at rw c.as_slice-alternatives.ensures at c.add_alternatives-added.ensures)
