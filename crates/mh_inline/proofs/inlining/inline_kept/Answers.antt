use Rattle.std.proofs.lemmas.Bool.{false≢true}
use Rattle.mh_inline.proofs.Limits.{all_origins, over_origins}
use Rattle.mh_inline.proofs.inlining.inline_kept.Goals as goal

pub size_of_origins-size-requires-clause-origins : goal.size_of_origins-size-requires-clause-origins
size_of_origins-size-requires-clause-origins c = rw c.as_slice.ensures.value (all_origins c.args.expanded.now.instances c.in_ok-origins.origins.items c.in_ok-origins.ensures)

pub returns-then-not-is_small-clause-fault : goal.returns-then-not-is_small-clause-fault
returns-then-not-is_small-clause-fault c =
    let over = over_origins c.args.expanded.now c.in_ok-origins.origins.items c.size_of_origins-size.result c.in_ok-origins.ensures (rw c.as_slice.ensures.value at c.size_of_origins-size.ensures) (λ w. false≢true (c.if-not-is_small.ensures.1 w)) in
    (c.requires.acyclic, c.requires.kept, over.0, over.1, over.2)
