use Rattle.mh_explain.specs.FirstSentences.{IsFoundWith}
use Rattle.mh_explain.specs.code.Searched.{IsShownBelow}
use Rattle.mh_explain.proofs.first_sentence.first_sentence.Given as goal

abbrev pub invariant-loop-token : goal.invariant-loop-token
invariant-loop-token l = IsFoundWith l.reach l.state (IsShownBelow l.reach l.state l.look l.token) l.best
