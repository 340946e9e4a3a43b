use Rattle.mh_report.proofs.OneCommentText.{block_once, entry_once}
use Rattle.mh_report.proofs.laws.entry_is_unique.Goals as goal

pub returns-clause-comments : goal.returns-clause-comments
returns-clause-comments c expected g a = block_once g a c.args.table.now expected

pub returns-clause-entry : goal.returns-clause-entry
returns-clause-entry c expected g a = entry_once g a c.args.table.now expected
