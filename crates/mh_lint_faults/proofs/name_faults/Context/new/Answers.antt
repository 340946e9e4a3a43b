use Rattle.std.proofs.Common.{refl}
use Rattle.mh_lint_faults.proofs.IsContext.{context_none}
use Rattle.mh_lint_faults.proofs.name_faults.Context.new.Goals as goal

pub returns : goal.returns
returns c = λ starts m. context_none starts m _ c.in_ok-from_bytes.ensures refl c.in_ok-with_capacity.ensures.empty c.new.ensures.empty c.in_ok-formals_of.ensures c.new-2.ensures.empty
