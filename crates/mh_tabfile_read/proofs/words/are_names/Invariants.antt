use Rattle.std.proofs.Common.{◌≡◌, drop, map}
use Rattle.std.specs.List.{list_all}
use Rattle.mh_tabfile_read.specs.code.Words.{is_name}
use Rattle.mh_tabfile_read.proofs.words.are_names.Given as goal

abbrev pub invariant-loop-word : goal.invariant-loop-word
invariant-loop-word l = list_all is_name (map (λ w. w.now) (drop l.word-index l.words)) ≡ list_all is_name (map (λ w. w.now) l.words)
