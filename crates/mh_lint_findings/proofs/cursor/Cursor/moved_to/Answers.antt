use Rattle.std.proofs.Common.{◌∙◌}
use Rattle.mh_lint_findings.proofs.IsMoved.{moved, start_is}
use Rattle.mh_lint_findings.proofs.cursor.Cursor.moved_to.Goals as goal

pub returns-clause-at : goal.returns-clause-at
returns-clause-at c = c.after-2.ensures.at ∙ start_is c.args.bytes.now c.between.result.now c.args.self c.after-2.result c.args.start c.requires.here c.between.ensures c.requires.within

pub returns-clause-there : goal.returns-clause-there
returns-clause-there c = moved c.args.bytes.now c.between.result.now c.args.self c.after-2.result c.args.start c.requires.here c.between.ensures c.requires.within c.after-2.ensures.at c.after-2.ensures.line c.after-2.ensures.column c.after-2.ensures.few_lines c.after-2.ensures.few_columns c.after-2.ensures.counted
