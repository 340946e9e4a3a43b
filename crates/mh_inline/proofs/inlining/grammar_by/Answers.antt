use Rattle.std.proofs.Common.{◌∙◌}
use Rattle.mh_inline.proofs.Limits.{small_grammar}
use Rattle.mh_inline.proofs.MadeProductions.{starts_same}
use Rattle.mh_inline.proofs.inlining.grammar_by.Goals as goal

pub starts_of-requires : goal.starts_of-requires
starts_of-requires c = rw (c.as_slice.ensures, c.requires.numbers.len) c.requires.ready.starts_below

pub returns-clause-inlined : goal.returns-clause-inlined
returns-clause-inlined c =
    let e = c.args.expanded.now in
    record {
      tokens = c.in_ok-tokens_of.ensures;
      nonterminals = c.from_vec.ensures ∙ rw c.as_slice-2.ensures at c.in_ok-nonterminals.ensures;
      starts = c.from_vec-3.ensures ∙ rw c.as_slice.ensures at c.in_ok-starts.ensures ∙ starts_same e.instances c.args.numbers.now e.starts c.requires.numbers c.requires.ready.starts_below;
      origins = c.args.origins.now;
      ordered = c.requires.origins;
      productions = rw c.from_vec-2.ensures c.in_ok-productions.ensures;
    }

pub returns-clause-small : goal.returns-clause-small
returns-clause-small c = small_grammar c.args.expanded.now.tokens c.args.expanded.now.instances c.args.origins.now _ c.requires.small (rw c.from_vec-2.ensures c.in_ok-productions.ensures)
