use Rattle.std.proofs.Common.{◌≡◌, vec_len}
use Rattle.mh_grammar.proofs.worklist.put_users.Given as goal

abbrev pub invariant-loop-symbol : goal.invariant-loop-symbol
invariant-loop-symbol l = vec_len l.users ≡ vec_len l.fn.users
