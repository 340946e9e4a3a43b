use Rattle.mh_grammar.specs.Plain.{plain_of}
use Rattle.mh_grammar.proofs.FirstFlags.{marks_from-nullable}
use Rattle.mh_grammar.proofs.firsts.first.Goals as goal

pub first_flags-requires-clause-nullable : goal.first_flags-requires-clause-nullable
first_flags-requires-clause-nullable c = rw c.as_slice.ensures.value (marks_from-nullable (plain_of c.args.grammar.now) c.in_ok-nullable.nullable.items c.in_ok-nullable.ensures.exact)
