use Rattle.std.proofs.Common.{◌≡◌, vec_len, length}
use Rattle.mh_grammar.specs.Plain.{plain_of}
use Rattle.mh_sample.proofs.ImproveAll.{PassSoFar}
use Rattle.mh_sample.proofs.improving.improve_all.Given as goal

abbrev pub invariant-loop-place : goal.invariant-loop-place
invariant-loop-place l = record {
  len : vec_len l.words ≡ length l.grammar.nonterminals;
  pass : PassSoFar (plain_of l.grammar) l.fn.words.items l.words.items l.improved l.place;
}
