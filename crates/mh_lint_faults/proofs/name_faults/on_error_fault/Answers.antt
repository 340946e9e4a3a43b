use Rattle.std.proofs.Common.{◌≡◌, ℕ, [], Bool, Option, ap, ◌∙◌}
use Rattle.std.specs.Prelude.{is_some}
use Rattle.std.proofs.lemmas.Result.{IfOk-weaker}
use Rattle.mh_grammar.specs.Text.{Text}
use Rattle.mh_join_names.specs.Faults.{meant_by, unless}
use Rattle.mh_join_names.specs.Names.{formal_number}
use Rattle.mh_join_names.specs.code.SymbolTables.{formals_in, meanings_in}
use Rattle.mh_join_names.specs.declared.fault.JoinFault.TheVariants as faults
use Rattle.mh_join_names.proofs.Lists.{fun_ext}
use Rattle.mh_lint_faults.proofs.name_faults.on_error_fault.Goals as goal

pub returns : goal.returns
returns c =
    let meant = λ (f : Text → Option ℕ). is_some (meant_by (meanings_in c.args.names.now) c.args.file f c.args.head.now) in
    let none : formals_in c.in_ok-none.none ≡ formal_number [] = fun_ext (λ x. c.in_ok-none.ensures x) in
    IfOk-weaker c.undefined_unless.result _ _
    (λ found is. is ∙ ap (λ (b : Bool). unless b (faults.Undefined c.text_of.result.now)) (c.defines.ensures ∙ ap meant none) ∙ ap (λ (t : Text). unless (meant (formal_number [])) (faults.Undefined t)) c.text_of.ensures)
    c.undefined_unless.ensures
