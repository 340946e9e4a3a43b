use Rattle.std.proofs.Common.{◌≡◌, length, vec_len}
use Rattle.mh_grammar.proofs.worklist.users_of.Given as goal

abbrev pub invariant-loop : goal.invariant-loop
invariant-loop l = vec_len l.users ≡ l.counter

abbrev pub invariant-loop-place : goal.invariant-loop-place
invariant-loop-place l = vec_len l.users ≡ length l.grammar.nonterminals
