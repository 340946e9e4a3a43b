use Rattle.std.proofs.Common.{◌≡◌, ℕ, ◌-◌, ◌+◌, length}
use Rattle.mh_facts.specs.code.Queues.{row_of}
use Rattle.mh_facts.proofs.queue.push.Given as goal

abbrev pub invariant-buckets : goal.invariant-buckets
invariant-buckets g l = (n : ℕ) → row_of l.queue.buckets.items n ≡ row_of l.fn.queue.buckets.items n

abbrev pub decreases-buckets : goal.decreases-buckets
decreases-buckets g l = l.cost + 1 - length l.queue.buckets.items
