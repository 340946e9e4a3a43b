use Rattle.std.proofs.Common.{◌≡◌, ℕ, [], length, get_or, vec_len}
use Rattle.mh_grammar.specs.Plain.{plain_of}
use Rattle.mh_sample.specs.code.Rows.{IsRow}
use Rattle.mh_sample.proofs.rows.rows_of.Given as goal

abbrev pub invariant-loop-production : goal.invariant-loop-production
invariant-loop-production l = record {
  len : vec_len l.rows ≡ length l.grammar.nonterminals;
  place : l.place ≡ l.production-index;
  rows : (x : ℕ) → IsRow (plain_of l.grammar) l.lengths l.place x (get_or l.rows.items x []);
}
