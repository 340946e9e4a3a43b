use Rattle.std.proofs.Common.{rules}
use Rattle.mh_items.proofs.links.is_marked.Goals as goal

pub returns : goal.returns
returns c = search rules
