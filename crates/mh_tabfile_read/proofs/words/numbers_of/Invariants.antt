use Rattle.std.proofs.Common.{◌≡◌, drop, map, ◌++◌}
use Rattle.mh_tabfile_read.specs.code.Words.{numbers_of, then_numbers}
use Rattle.mh_tabfile_read.proofs.words.numbers_of.Given as goal

abbrev pub invariant-loop-word : goal.invariant-loop-word
invariant-loop-word l = then_numbers l.numbers (numbers_of (map (λ w. w.now) (drop l.word-index l.words))) ≡ numbers_of (map (λ w. w.now) l.words)
