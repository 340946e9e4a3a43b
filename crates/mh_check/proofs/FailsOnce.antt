-- Proves that a sentence fails in at most one state.
use Rattle.std.proofs.Common.{◌≡◌, ℕ, ◌-◌, length}
use Rattle.mh_tables_core.specs.Table.{TableData}
use Rattle.mh_tables_core.specs.Run.{initial, Rejected}
use Rattle.mh_tables_core.proofs.RunEnds.{ending_unique}
use Rattle.mh_msgfile.specs.declared.messages.MsgSentence.{MsgSentence}
use Rattle.mh_check.specs.Checks.{FailsIn}

module _ (t : TableData) where
  pub fails_once : (x : MsgSentence) (s r : ℕ) → FailsIn t x s → FailsIn t x r → s ≡ r
  fails_once x s r a b = let same : Rejected (length x.tokens - 1) s ≡ Rejected (length x.tokens - 1) r = ending_unique t (initial x.start x.tokens) _ _ a.verdict b.verdict in cc
