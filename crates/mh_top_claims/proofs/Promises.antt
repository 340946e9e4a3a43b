use Rattle.std.proofs.Common.{List, ℕ}
use Rattle.mh_grammar.specs.Text.{Text}
use Rattle.mh_top_claims.specs.Promises.{Promises}
use Rattle.mh_top_claims.specs.Run.{World, Ran}
use Rattle.mh_top_claims.proofs.CheckedErrors.{checks_exactly}
use Rattle.mh_top_claims.proofs.CheckedGrammars.{checks_grammar_exactly}
use Rattle.mh_top_claims.proofs.Claims.{meets_claims}
use Rattle.mh_top_claims.proofs.ConflictExplanations.{explains_exactly}
use Rattle.mh_top_claims.proofs.ErrorLists.{lists_exactly}
use Rattle.mh_top_claims.proofs.Headline.{lists_errors, takes_sound_files, gives_messages}
use Rattle.mh_top_claims.proofs.RebasedFiles.{rebases_soundly}
use Rattle.mh_top_claims.proofs.VerdictClaims.{accepts_exactly, rejects_rightly, overshoots_rightly, all_rightly, deep_exactly}

-- Each run keeps the promises.
pub keeps_promises : (words : List Text) (before now : World) (status : ℕ) → Ran words before now status → Promises words before now status
keeps_promises words before now status ran = record {
  claims = meets_claims words before now status ran;
  errors = lists_errors words before now status ran;
  takes = takes_sound_files words before now status ran;
  messages = gives_messages words before now status ran;
  lists = lists_exactly words before now status ran;
  rebases = rebases_soundly words before now status ran;
  explains = explains_exactly words before now status ran;
  checks = checks_exactly words before now status ran;
  grammar = checks_grammar_exactly words before now status ran;
  exact = accepts_exactly words before.files;
  rejects = rejects_rightly words before.files;
  overshoots = overshoots_rightly words before.files;
  accepts = all_rightly words before.files;
  too_deep = deep_exactly words before.files;
}
