use Rattle.mh_lint.proofs.SourcesInlined.{level_given}
use Rattle.mh_lint.proofs.laws.sources_give_levels.Goals as goal

pub returns : goal.returns
returns c = λ e g o p production source at h. level_given e g o p production source at h
