use Rattle.mh_front.proofs.ExpandedOrFault.{expanded_or_fault}
use Rattle.mh_front.proofs.JoinedOrFault.{joined_or_fault}
use Rattle.mh_front.proofs.SomeGrammar.{some_grammar}
use Rattle.mh_front.proofs.SomeInlined.{inlined_or_fault}
use Rattle.mh_front.proofs.laws.some_grammar_or_fault.Goals as goal

pub returns-clause-joined : goal.returns-clause-joined
returns-clause-joined c = joined_or_fault

pub returns-clause-expanded : goal.returns-clause-expanded
returns-clause-expanded c = expanded_or_fault

pub returns-clause-inlined : goal.returns-clause-inlined
returns-clause-inlined c = inlined_or_fault

pub returns-clause-grammar : goal.returns-clause-grammar
returns-clause-grammar c = some_grammar
