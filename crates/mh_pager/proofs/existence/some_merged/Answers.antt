use Rattle.mh_pager.proofs.SomeMerged.{merged_or_exceeds}
use Rattle.mh_pager.proofs.existence.some_merged.Goals as goal

pub returns : goal.returns
returns c = λ g limit range few. merged_or_exceeds g range limit few
