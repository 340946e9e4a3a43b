use Rattle.mh_report.proofs.KnownSuffix.{suffix_agrees}
use Rattle.mh_report.proofs.laws.known_suffix_is_unique.Goals as goal

pub returns : goal.returns
returns c = suffix_agrees c.args.table.now c.table-facts.ensures.facts.facts
