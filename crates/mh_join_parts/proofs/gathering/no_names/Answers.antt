use Rattle.mh_join_parts.proofs.gathering.no_names.Goals as goal

pub returns : goal.returns
returns c = record {
  tokens = c.new.ensures;
  starts = c.new-2.ensures;
  aliases = c.new-3.ensures.empty;
  levels = c.new-4.ensures.empty;
  costs = c.new-5.ensures.empty;
  kinds = c.new-6.ensures.empty;
  definers = c.new-7.ensures.empty;
  numbering = c.no_rules.ensures;
}
