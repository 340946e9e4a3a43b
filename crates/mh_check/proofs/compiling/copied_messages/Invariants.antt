use Rattle.std.proofs.Common.{◌≡◌, map, take}
use Rattle.mh_check.proofs.compiling.copied_messages.Given as goal

abbrev pub invariant-loop-entry : goal.invariant-loop-entry
invariant-loop-entry l = l.messages.items ≡ map (λ entry. entry.message) (take l.entry-index l.entries)
