use Rattle.std.proofs.Common.{◌≡◌, ℕ, List, Some, length, vec_len}
use Rattle.std.specs.List.{slice_get}
use Rattle.mh_grammar.specs.Plain.{plain_of}
use Rattle.mh_items.proofs.AreFirsts.{NumbersSoFar}
use Rattle.mh_items.proofs.gathering.all_productions.Given as goal

abbrev pub invariant-loop-place : goal.invariant-loop-place
invariant-loop-place l = record {
  len : vec_len l.rows ≡ length l.grammar.nonterminals;
  numbers : (n : ℕ) (row : List ℕ) → slice_get l.rows.items n ≡ Some row → NumbersSoFar (plain_of l.grammar) n row l.place;
}
