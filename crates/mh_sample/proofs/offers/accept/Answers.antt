use Rattle.std.proofs.Common.{sym}
use Rattle.mh_grammar.specs.Plain.{plain_of}
use Rattle.mh_sample.proofs.offers.accept.Goals as goal

pub returns-after-loop-user-clause-derived : goal.returns-after-loop-user-clause-derived
returns-after-loop-user-clause-derived c = (c.in_ok-improve.ensures.improves (plain_of c.args.grammar.now) c.requires.range c.args.place (sym c.in-Some.ensures.value)).sound

pub returns-else-branch-clause-derived : goal.returns-else-branch-clause-derived
returns-else-branch-clause-derived c = (c.in_ok-improve.ensures.improves (plain_of c.args.grammar.now) c.requires.range c.args.place (sym c.in-Some.ensures.value)).sound
