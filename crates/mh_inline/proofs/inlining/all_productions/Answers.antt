use Rattle.mh_inline.proofs.Limits.{all_origins, origins_known}
use Rattle.mh_inline.proofs.inlining.all_productions.Goals as goal

pub productions_of-requires-clause-origins : goal.productions_of-requires-clause-origins
productions_of-requires-clause-origins c = all_origins c.args.expanded.now.instances c.args.origins.now c.requires.origins

pub productions_of-requires-clause-known : goal.productions_of-requires-clause-known
productions_of-requires-clause-known c = rw c.deref.ensures.value (origins_known c.args.expanded.now c.args.sizing.now c.in_ok-known.known.items c.args.origins.now c.requires.ready c.requires.sizing c.requires.sized c.in_ok-known.ensures (all_origins c.args.expanded.now.instances c.args.origins.now c.requires.origins) c.requires.small)

pub returns : goal.returns
returns c = c.productions_of.ensures
