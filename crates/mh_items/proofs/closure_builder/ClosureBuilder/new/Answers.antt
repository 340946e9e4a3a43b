use Rattle.mh_items.proofs.closure_builder.ClosureBuilder.new.Goals as goal

pub returns : goal.returns
returns g c = record {
  firsts = c.in_ok-firsts.ensures;
  nothing = rw c.len.ensures at c.in_ok-asked.ensures;
  marks = c.in_ok-empties.ensures.len;
  empties = c.in_ok-empties.ensures.closed;
}
