use Rattle.std.proofs.Common.{rules}
use Rattle.mh_grammar.specs.Plain.{plain_of}
use Rattle.mh_canon.specs.Limits.{max_states}
use Rattle.mh_canon.proofs.CanonicalIsAutomaton.{IsAutomaton-canonical, canonical_within_limit}
use Rattle.mh_canon.proofs.collection.canonical.Goals as goal

pub collect-requires : goal.collect-requires
collect-requires g c = (search rules, (c.requires.fits, (c.in_ok-kernels.ensures.ok, c.new-edges.ensures.items)))

pub returns-in_ok-into_list-in-Ok-clause-ok : goal.returns-in_ok-into_list-in-Ok-clause-ok
returns-in_ok-into_list-in-Ok-clause-ok g c = rw (c.from_vec.ensures, c.from_vec-in-Ok.ensures, c.in_ok-into_list-in-Ok.ensures) c.in-Ok.ensures.ok

pub returns-in_ok-into_list-in-Ok-clause-exact : goal.returns-in_ok-into_list-in-Ok-clause-exact
returns-in_ok-into_list-in-Ok-clause-exact g c =
    canonical_within_limit (plain_of c.args.grammar.now) (record { kernels = c.collect.new.kernels.set.keys; edges = c.collect.new.edges.items }) c.in-Ok.ensures.ok max_states c.in-Ok.ensures.few

pub returns-in_ok-into_list-in-Ok-clause-automaton : goal.returns-in_ok-into_list-in-Ok-clause-automaton
returns-in_ok-into_list-in-Ok-clause-automaton g c =
    rw (c.from_vec.ensures, c.from_vec-in-Ok.ensures, c.in_ok-into_list-in-Ok.ensures) (IsAutomaton-canonical (plain_of c.args.grammar.now) (record { kernels = c.collect.new.kernels.set.keys; edges = c.collect.new.edges.items }) c.in-Ok.ensures.ok c.in-Ok.ensures.few)
