use Rattle.std.proofs.Common.{◌+◌}
use Rattle.mh_reach_words.specs.code.Comparison.{AreRemainders, weight}
use Rattle.mh_reach_words.specs.code.Words.{spelled, words_of}
use Rattle.mh_reach_words.proofs.comparing.compare.Given as goal

abbrev pub invariant-parts : goal.invariant-parts
invariant-parts l = AreRemainders (words_of l.entries) l.rests (spelled (words_of l.entries) l.fn.left) (spelled (words_of l.entries) l.fn.right)

abbrev pub decreases-parts : goal.decreases-parts
decreases-parts l = weight l.rests.left.items + weight l.rests.right.items
