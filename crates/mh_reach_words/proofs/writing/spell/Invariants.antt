use Rattle.mh_reach_words.specs.code.Comparison.{weight}
use Rattle.mh_reach_words.specs.code.Words.{words_of}
use Rattle.mh_reach_words.specs.code.Writing.{IsWritten}
use Rattle.mh_reach_words.proofs.writing.spell.Given as goal

abbrev pub invariant-parts : goal.invariant-parts
invariant-parts l = IsWritten (words_of l.entries) l.number l.parts.items l.letters.items

abbrev pub decreases-parts : goal.decreases-parts
decreases-parts l = weight l.parts.items
