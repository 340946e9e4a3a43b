use Rattle.mh_resolve_settle.proofs.row.default_of.Goals as goal

pub returns-in_default-2 : goal.returns-in_default-2
returns-in_default-2 c = λ p d. c.in_default.ensures p d.choice
