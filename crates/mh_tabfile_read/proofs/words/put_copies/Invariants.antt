use Rattle.std.proofs.Common.{◌≡◌, take, map}
use Rattle.mh_tabfile_read.proofs.words.put_copies.Given as goal

abbrev pub invariant-loop-word : goal.invariant-loop-word
invariant-loop-word l = l.names ≡ map (λ w. w.now) (take l.word-index l.words)
