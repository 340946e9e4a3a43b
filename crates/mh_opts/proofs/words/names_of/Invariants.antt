use Rattle.std.proofs.Common.{◌≡◌, map, take}
use Rattle.mh_opts.proofs.words.names_of.Given as goal

abbrev pub invariant-loop-word : goal.invariant-loop-word
invariant-loop-word l = l.names ≡ map (λ w. w.now) (take l.word-index l.words)
