use Rattle.std.proofs.Common.{◌≡◌, take, map, ◌∷◌}
use Rattle.mh_tabfile_form.specs.code.Pieces.{joined, ends_from}
use Rattle.mh_tabfile_form.proofs.names.Names.from_words.Given as goal

abbrev pub invariant-loop-word : goal.invariant-loop-word
invariant-loop-word l = (l.bytes.items ≡ joined (map (λ w. w.now) (take l.word-index l.words))) × (l.bounds.items ≡ 0 ∷ ends_from 0 (map (λ w. w.now) (take l.word-index l.words)))
