use Rattle.mh_inline.proofs.UniqueGrammar.{grammar_excludes_fault}
use Rattle.mh_lint.specs.LevelSources.{with_sources}
use Rattle.mh_lint.proofs.SourcesInlined.{grammar_of_sources}
use Rattle.mh_lint.proofs.WithSources.{sources_ready}
use Rattle.mh_lint.proofs.sources.level_sources.Goals as goal

pub inline_rules-requires : goal.inline_rules-requires
inline_rules-requires c = rw c.in_ok-sources.ensures (sources_ready c.args.expanded.now c.requires.ready)

pub only_memory-requires : goal.only_memory-requires
only_memory-requires c =
    let e = c.args.expanded.now in
    let one = grammar_of_sources e c.requires.accepted.0 c.requires.accepted.1 in
    grammar_excludes_fault (with_sources e) one.0 c.in-Err.fault one.1 (rw c.in_ok-sources.ensures at c.in-Err.ensures.fault)
