use Rattle.std.proofs.Common.{◌≡◌, map, vec_len}
use Rattle.mh_grammar.specs.Plain.{plain_of}
use Rattle.mh_grammar.proofs.FirstFlags.{RowsSoFar}
use Rattle.mh_grammar.proofs.firsts.rows_of.Given as goal

abbrev pub invariant-loop-n : goal.invariant-loop-n
invariant-loop-n l = record {
  len : vec_len l.rows ≡ l.n;
  rows : RowsSoFar (plain_of l.grammar) (map (λ row. row.items) l.rows.items);
}
