use Rattle.mh_tables.proofs.bounds.needed_bound.Goals as goal

pub returns : goal.returns
returns c = λ b most _. most
