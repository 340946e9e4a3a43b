use Rattle.std.proofs.Common.{◌<◌, ℕ, Some}
use Rattle.mh_tables_core.specs.Halting.{RunLoops}
use Rattle.mh_tables.proofs.relative_runs.first_token.Given as goal

abbrev pub invariant-tokens : goal.invariant-tokens
invariant-tokens l = (z : ℕ) → z < l.token → RunLoops l.table l.below l.state (Some z) → ⊥
