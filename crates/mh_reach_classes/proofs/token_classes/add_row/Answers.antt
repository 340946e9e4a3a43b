use Rattle.mh_reach_classes.proofs.token_classes.add_row.Goals as goal

pub returns : goal.returns
returns c = record {
  row = c.in_ok-row.row.classes;
  list = c.in_ok-row.row.list;
  is = c.in_ok-row.ensures.row;
  grows = c.in_ok-row.ensures.grows;
  rows = c.in_ok-push.ensures.items;
  lists = c.in_ok-push-2.ensures.items;
}
