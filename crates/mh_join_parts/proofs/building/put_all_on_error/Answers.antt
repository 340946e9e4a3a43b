use Rattle.std.proofs.Common.{ℕ, [], ◌++◌, ◌≡◌, Some, Option, map, sym, subst, arith, ◌+◌}
use Rattle.std.specs.List.{flat_map}
use Rattle.mh_grammar.specs.Text.{Text}
use Rattle.mh_join_names.specs.Faults.{meant_by, undefined_in_on_error}
use Rattle.mh_join_names.specs.Joining.{all_resolved, on_error_in}
use Rattle.mh_join_parts.specs.code.CanJoin.{unresolved_on_error}
use Rattle.mh_join_names.specs.code.SymbolTables.{meanings_in}
use Rattle.mh_join_names.proofs.Lists.{fun_ext}
use Rattle.mh_join_names.proofs.Resolved.{nil_enum_at, flat_somes_more}
use Rattle.mh_join_parts.proofs.building.put_all_on_error.Goals as goal

pub loop-at-preserved : goal.loop-at-preserved
loop-at-preserved c =
    let w = meanings_in c.args.names.now in let i = c.loop-at.at in let file = c.index-modules-at.result in
    flat_somes_more (on_error_in w) 1 c.args.modules.now i (i + 1) file c.loop-at.joined c.add_on_error.new.joined c.loop-at-test.true c.index-modules-at.is (omega arith) c.loop-at.invariant
    (subst (λ (g : Text → Option ℕ). map Some c.add_on_error.new.joined ≡ map Some c.loop-at.joined ++ map (all_resolved (meant_by w (i + 1) g)) file.on_error)
    (fun_ext c.requires.none) (rw c.as_slice-declared.ensures at c.in_ok-add_on_error.ensures))

pub add_on_error-requires-clause-resolved : goal.add_on_error-requires-clause-resolved
add_on_error-requires-clause-resolved c =
    let w = meanings_in c.args.names.now in let i = c.loop-at.at in let file = c.index-modules-at.result in
    rw c.as_slice-declared.ensures (subst (λ (g : Text → Option ℕ). flat_map (undefined_in_on_error (meant_by w (i + 1) g)) file.on_error ≡ []) (sym (fun_ext c.requires.none))
    (nil_enum_at (unresolved_on_error w) 1 c.args.modules.now i (i + 1) file c.loop-at-test.true c.index-modules-at.is (omega arith) c.requires.resolved))
