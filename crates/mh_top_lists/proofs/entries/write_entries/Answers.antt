use Rattle.std.proofs.Common.{refl, rules, ◌∙◌}
use Rattle.mh_top_lists.proofs.WriteEntriesLoop.{all_written, none_written, row_fit, row_stops, row_written}
use Rattle.mh_top_lists.proofs.entries.write_entries.Goals as goal

pub loop-row-init : goal.loop-row-init
loop-row-init g c = record { written = none_written c.args.prepared.now _; may_write = c.requires.may_write; calm = refl }

pub write_entry-requires : goal.write_entry-requires
write_entry-requires g c = (
  search rules,
  (c.requires.few, (c.requires.consistent, (row_fit c.args.prepared.now c.args.rows.now c.loop-row.row-index c.row-item.result c.loop-row-test.true c.row-item.is c.requires.rows, c.loop-row.invariant.may_write))),
)

pub loop-row-preserved : goal.loop-row-preserved
loop-row-preserved g c = record {
  written = row_written c.args.prepared.now c.args.rows.now c.loop-row.row-index c.row-item.result c.loop-row-test.true c.row-item.is _ _ _ c.loop-row.invariant.written c.in-Ok.ensures.text;
  may_write = c.in-Ok.ensures.may_write_on;
  calm = c.in-Ok.ensures.counts ∙ c.loop-row.invariant.calm;
}

pub returns-in-Err-clause-text : goal.returns-in-Err-clause-text
returns-in-Err-clause-text g c =
    row_stops c.args.prepared.now c.args.rows.now c.loop-row.row-index c.row-item.result c.loop-row-test.true c.row-item.is _ _ _ c.loop-row.invariant.written c.table-facts.ensures.facts c.requires.consistent c.requires.rows c.in-Err.stop c.in-Err.ensures.text

pub returns-clause-text : goal.returns-clause-text
returns-clause-text g c = all_written c.args.prepared.now c.args.rows.now c.loop-row.row-index _ _ c.loop-row-test.false c.loop-row.invariant.written
