use Rattle.mh_lint_messages.proofs.IsFaultless.{faultless_exactly}
use Rattle.mh_lint_messages.proofs.laws.nothing_is_written.Goals as goal

pub returns : goal.returns
returns c = λ bytes name text blocks has is. faultless_exactly c.args.grammar.now c.args.table.now bytes name text blocks has is
