use Rattle.mh_top_prepare.proofs.sources.built.Goals as goal

pub returns-then-canonical : goal.returns-then-canonical
returns-then-canonical c = rw c.if-canonical.true
