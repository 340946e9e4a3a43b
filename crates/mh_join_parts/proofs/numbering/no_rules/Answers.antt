use Rattle.mh_join_parts.proofs.numbering.no_rules.Goals as goal

pub returns : goal.returns
returns c = record { public = c.new.ensures.empty; own = c.new-2.ensures.items; rules = c.new-3.ensures.items }
