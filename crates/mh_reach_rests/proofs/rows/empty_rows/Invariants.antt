use Rattle.std.proofs.Common.{◌≡◌, ℕ, length, []}
use Rattle.mh_facts.specs.code.Queues.{row_of}
use Rattle.mh_reach_rests.proofs.rows.empty_rows.Given as goal

abbrev pub invariant-loop : goal.invariant-loop
invariant-loop g l = (length l.rows.items ≡ l.counter) × ((n : ℕ) → row_of l.rows.items n ≡ [])
