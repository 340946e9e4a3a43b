use Rattle.std.proofs.lemmas.Result.{IfOk-weaker}
use Rattle.mh_lint_faults.proofs.HasRuleKinds.{rule_kinds}
use Rattle.mh_lint_faults.proofs.ReportsAt.{files_joined, tokens_named}
use Rattle.mh_lint_faults.proofs.front.with_names.Goals as goal

pub with_joined-requires : goal.with_joined-requires
with_joined-requires c = record {
  places = c.requires.places;
  joined = c.in-Ok.ensures.ready;
  tokens = tokens_named c.args.prelude c.args.read.modules.items c.args.names c.in-Ok.joined c.requires.names (rw c.as_slice.ensures.value at c.in-Ok.ensures.joins);
}

pub names_fault-examined-requires-clause-kinds : goal.names_fault-examined-requires-clause-kinds
names_fault-examined-requires-clause-kinds c = rule_kinds c.args.prelude c.args.read.modules.items c.args.names c.requires.names

pub returns-in-Ok-clause-examined : goal.returns-in-Ok-clause-examined
returns-in-Ok-clause-examined c =
    IfOk-weaker c.with_joined.result _ _
    (λ e examined given found reads split. examined given c.args.prelude found (files_joined given c.args.prelude found c.args.read c.args.names c.in-Ok.joined reads split c.requires.names (rw c.as_slice.ensures.value at c.in-Ok.ensures.joins)))
    c.with_joined.ensures.examined

pub returns-in-Err-clause-examined : goal.returns-in-Err-clause-examined
returns-in-Err-clause-examined c =
    IfOk-weaker c.names_fault-examined.result _ _
    (λ e examined given found reads split. examined given c.args.prelude found reads split c.requires.names (rw c.as_slice.ensures.value at c.in-Err.ensures.joins))
    c.names_fault-examined.ensures.examined
