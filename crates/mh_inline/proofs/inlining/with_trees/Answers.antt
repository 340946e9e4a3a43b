use Rattle.mh_inline.proofs.Ranges.{in_range, empty_start, productive_starts}
use Rattle.mh_inline.proofs.inlining.with_trees.Goals as goal

pub productive-requires : goal.productive-requires
productive-requires c = in_range c.args.expanded.now c.requires.ready c.requires.kept c.args.grammar c.requires.inlined c.requires.small

pub first_empty-requires : goal.first_empty-requires
first_empty-requires c =
    let r = in_range c.args.expanded.now c.requires.ready c.requires.kept c.args.grammar c.requires.inlined c.requires.small in
    rw (c.as_slice-2.ensures, c.as_slice.ensures.len, c.in_ok-marks.ensures.len) r.starts

pub empty_fault-requires-clause-empty : goal.empty_fault-requires-clause-empty
empty_fault-requires-clause-empty c = empty_start c.args.expanded.now c.requires.ready c.requires.kept c.args.grammar c.requires.inlined c.requires.small c.requires.acyclic c.in_ok-marks.marks.items c.in_ok-marks.ensures.exact c.in-Some.place (rw (c.as_slice-2.ensures, c.as_slice.ensures.value) at c.in-Some.ensures)

pub returns-in-None-clause-grammar : goal.returns-in-None-clause-grammar
returns-in-None-clause-grammar c = record {
  acyclic = c.requires.acyclic;
  kept = c.requires.kept;
  inlined = c.requires.inlined;
  within_limits = c.requires.small;
  productive = productive_starts c.args.expanded.now c.requires.ready c.requires.kept c.args.grammar c.requires.inlined c.requires.small c.requires.acyclic c.in_ok-marks.marks.items c.in_ok-marks.ensures.exact (rw (c.as_slice-2.ensures, c.as_slice.ensures.value) at c.in-None.ensures);
}
