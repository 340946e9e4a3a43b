use Rattle.std.proofs.Common.{ap, ◌∙◌}
use Rattle.mh_join_names.specs.code.Numbering.{outlines_of}
use Rattle.mh_join_parts.proofs.HasMeanings.{has_meanings}
use Rattle.mh_join_parts.proofs.gathering.fill.Goals as goal

pub put_tokens-requires : goal.put_tokens-requires
put_tokens-requires c = c.requires.empty.tokens

pub put_starts-requires : goal.put_starts-requires
put_starts-requires c = c.requires.empty.starts

pub put_aliases-requires : goal.put_aliases-requires
put_aliases-requires c = c.requires.empty.aliases

pub put_levels-requires : goal.put_levels-requires
put_levels-requires c = c.requires.empty.levels

pub put_costs-requires : goal.put_costs-requires
put_costs-requires c = c.requires.empty.costs

pub put_kinds-requires : goal.put_kinds-requires
put_kinds-requires c = c.requires.empty.kinds

pub put_definers-requires : goal.put_definers-requires
put_definers-requires c = c.requires.empty.definers

pub put_rules-requires : goal.put_rules-requires
put_rules-requires c = c.requires.empty.numbering

pub returns : goal.returns
returns c = has_meanings c.args.prelude c.args.files.now _ c.in_ok-put_tokens.ensures c.in_ok-put_starts.ensures c.in_ok-put_aliases.ensures c.in_ok-put_levels.ensures c.in_ok-put_costs.ensures c.in_ok-put_kinds.ensures c.in_ok-put_definers.ensures c.in_ok-put_rules.ensures.numbered
    (c.in_ok-put_rules.ensures.rules ∙ ap (outlines_of c.put_starts.new.names.keys c.args.files.now) c.requires.from_prelude)
