use Rattle.mh_lint.proofs.SourcesInlined.{has_source, one_source}
use Rattle.mh_lint.proofs.laws.productions_have_sources.Goals as goal

pub returns : goal.returns
returns c = record { some = λ e g o p l. has_source e g o p l; one = λ e p a b h k. one_source e p a b h k }
