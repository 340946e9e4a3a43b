use Rattle.std.proofs.Common.{take}
use Rattle.std.specs.List.{Contains}
use Rattle.mh_reader_places.specs.declared.mentions.Mention.{Mention}
use Rattle.mh_lint_faults.specs.code.Producers.{IsProducerMention}
use Rattle.mh_lint_faults.proofs.arity.first_in_file.Given as goal

abbrev pub invariant-loop-mention : goal.invariant-loop-mention
invariant-loop-mention l = (x : Mention) → Contains (take l.mention-index l.mentions) x → IsProducerMention l.found.keys l.file x → ⊥
