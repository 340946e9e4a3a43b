use Rattle.std.proofs.Common.{Err, subst}
use Rattle.mh_msgfile.specs.Sentences.{sentence_in, ReadsSentence}
use Rattle.mh_msgfile.specs.declared.sentence.SentenceFault.{SentenceFault}
use Rattle.mh_rebase.specs.Decisions.{LineIsUnreadable, StartIsUnknown, StartIsMissing, TokenIsUnknown}
use Rattle.mh_rebase.proofs.keeping.reason_of_fault.Goals as goal

pub returns-in-Unreadable : goal.returns-in-Unreadable
returns-in-Unreadable c = λ v t before text reads. LineIsUnreadable (subst (λ (fault : SentenceFault). ReadsSentence (sentence_in v text) (Err fault)) c.in-Unreadable.is reads)

pub returns-in-UnknownStart : goal.returns-in-UnknownStart
returns-in-UnknownStart c = λ v t before text reads. StartIsUnknown c.in-UnknownStart.name (subst (λ (fault : SentenceFault). ReadsSentence (sentence_in v text) (Err fault)) c.in-UnknownStart.is reads)

pub returns-in-MissingStart : goal.returns-in-MissingStart
returns-in-MissingStart c = λ v t before text reads. StartIsMissing (subst (λ (fault : SentenceFault). ReadsSentence (sentence_in v text) (Err fault)) c.in-MissingStart.is reads)

pub returns-in-UnknownToken : goal.returns-in-UnknownToken
returns-in-UnknownToken c = λ v t before text reads. TokenIsUnknown c.in-UnknownToken.name (subst (λ (fault : SentenceFault). ReadsSentence (sentence_in v text) (Err fault)) c.in-UnknownToken.is reads)
