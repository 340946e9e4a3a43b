use Rattle.std.proofs.Common.{[]}
use Rattle.mh_lint.specs.code.MentionUses.{Checked, IsInFile}
use Rattle.mh_lint.proofs.IsInFile.{IsWalked}
use Rattle.mh_lint.proofs.warning_walk.put_mention_lines.Given as goal

abbrev pub invariant-loop-mention : goal.invariant-loop-mention
invariant-loop-mention l = (c : Checked) → IsInFile c l.files l.file.number l.file.module.now [] l.fn.uses → IsWalked c l.mention-items l.initial.costs l.mention-index l.costs l.uses l.fn.findings.items l.findings.items
