use Rattle.std.proofs.Common.{refl}
use Rattle.mh_inline_unfold.proofs.FileRanks.{rank_of-nonzero}
use Rattle.mh_inline_unfold.proofs.ranks.rank.Goals as goal

pub returns-then-file-eq0 : goal.returns-then-file-eq0
returns-then-file-eq0 c = rw c.if-file-eq0.true refl

pub returns-else-file-eq0 : goal.returns-else-file-eq0
returns-else-file-eq0 c = rank_of-nonzero c.args.file c.if-file-eq0.false
