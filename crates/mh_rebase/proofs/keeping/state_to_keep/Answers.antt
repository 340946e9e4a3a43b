use Rattle.std.proofs.Common.{refl, subst, sym}
use Rattle.mh_run.specs.Verdicts.{ending_for}
use Rattle.mh_run.specs.declared.outcome.Verdict.{Verdict}
use Rattle.mh_check.specs.Checks.{IsNoRefusal, Accepts, Overshoots}
use Rattle.mh_rebase.proofs.keeping.state_to_keep.Goals as goal

pub returns-in-Accept : goal.returns-in-Accept
returns-in-Accept c = (refl, subst (λ (v : Verdict). IsNoRefusal (ending_for v)) (sym c.in-Accept.is) (Accepts c.in-Accept.read))

pub returns-in-Overshoot : goal.returns-in-Overshoot
returns-in-Overshoot c = (refl, subst (λ (v : Verdict). IsNoRefusal (ending_for v)) (sym c.in-Overshoot.is) (Overshoots c.in-Overshoot.state))
