use Rattle.std.proofs.Common.{refl, rules, arith}
use Rattle.mh_msgfile.proofs.SentenceBounds.{sentence_below, start_known}
use Rattle.mh_top_modes.proofs.explaining.explain_line.Goals as goal

pub explain_sentence-requires : goal.explain_sentence-requires
explain_sentence-requires g c = (
  search rules,
  (
    c.requires.few,
    (
      c.requires.consistent,
      record {
        start = start_known c.args.prepared.now.grammar c.args.prepared.now.tabled.halting.grammar c.args.line.now c.in-Ok.sentence c.in-Ok.ensures.sentence c.requires.consistent.table.grammar;
        tokens = sentence_below c.args.prepared.now.grammar c.args.prepared.now.tabled.halting.grammar c.args.line.now c.in-Ok.sentence _ c.in-Ok.ensures.sentence c.requires.consistent.table.grammar refl;
        few = omega (arith, c.in-Ok.ensures.few, c.requires.short);
      },
    ),
  ),
)
