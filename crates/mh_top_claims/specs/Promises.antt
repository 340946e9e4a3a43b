-- What the program promises of each run: claims on the status and on the texts that it writes, the headline, and what
-- the modes promise. Each promise follows from the one definition `Ran`.
use Rattle.std.specs.Prelude.{ℕ, List}
use Rattle.mh_grammar.specs.Text.{Text}
use Rattle.mh_top_claims.specs.Claims.{MeetsClaims}
use Rattle.mh_top_claims.specs.CheckedErrors.{ChecksErrorsExactly}
use Rattle.mh_top_claims.specs.CheckedGrammars.{ChecksGrammarExactly}
use Rattle.mh_top_claims.specs.ConflictExplanations.{ExplainsConflictsExactly}
use Rattle.mh_top_claims.specs.ErrorLists.{ListsErrorsExactly}
use Rattle.mh_top_claims.specs.Headline.{ListsErrorsOfTable, TakesSoundFiles, GivesMessages}
use Rattle.mh_top_claims.specs.RebasedFiles.{RebasesSoundly}
use Rattle.mh_top_claims.specs.Run.{World}
use Rattle.mh_top_claims.specs.VerdictClaims.{AcceptIsExact, RejectIsSound, OvershootIsSound, AcceptIsSound, TooDeepIsExact}

pub record Promises (words : List Text) (before now : World) (status : ℕ) : Type 0 where
  -- The status, the texts on out and err, and the input that is left.
  pub claims : MeetsClaims words before now status
  -- The headline, in three promises that speak of success alone. A list of errors has an entry for a state exactly if
  -- some sentence is refused in this state.
  pub errors : ListsErrorsOfTable words before now status
  -- A messages file compiles exactly if each of its sentences is refused at its last token, no two in one state.
  pub takes : TakesSoundFiles words before now status
  -- A line that is refused is answered with the message of its state, if the messages file names the state.
  pub messages : GivesMessages words before now status
  -- Each accepted grammar has a list of errors, or a state in which only sentences of too high a cost fail.
  pub lists : ListsErrorsExactly words before now status
  -- A rebased messages file is sound and complete, and has the old messages of the kept sentences.
  pub rebases : RebasesSoundly words before now status
  -- The explanations of conflicts are complete, each with the first sentence.
  pub explains : ExplainsConflictsExactly words before now status
  -- out says exactly what is wrong with a messages file: nothing if the file is sound and complete.
  pub checks : ChecksErrorsExactly words before now status
  -- out says exactly what is wrong with the grammar files: nothing if the grammar is accepted and has no warning.
  pub grammar : ChecksGrammarExactly words before now status
  -- The answers to sentence lines, compared with the sentences of the grammar.
  pub exact : AcceptIsExact words before.files
  pub rejects : RejectIsSound words before.files
  pub overshoots : OvershootIsSound words before.files
  pub accepts : AcceptIsSound words before.files
  pub too_deep : TooDeepIsExact words before.files
