use Rattle.std.proofs.Common.{◌≡◌, ◌++◌, drop}
use Rattle.mh_msgfile.specs.Messages.{message_of}
use Rattle.mh_msgfile.proofs.messages.message_of.Given as goal

abbrev pub invariant-loop-number : goal.invariant-loop-number
invariant-loop-number l = l.message.items ++ message_of l.lines (drop l.number-index l.block) ≡ message_of l.lines l.block
