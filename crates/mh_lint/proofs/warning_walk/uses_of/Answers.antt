use Rattle.std.proofs.Common.{ap, arith, length, refl, ◌∙◌}
use Rattle.mh_lint.proofs.UsesOf.{first_uses}
use Rattle.mh_lint.proofs.warning_walk.uses_of.Goals as goal

pub level_sources-requires-clause-ready : goal.level_sources-requires-clause-ready
level_sources-requires-clause-ready c = c.requires.ready.expanded

pub level_sources-requires-clause-accepted : goal.level_sources-requires-clause-accepted
level_sources-requires-clause-accepted c = c.requires.ready.grammar

pub used_levels-requires : goal.used_levels-requires
used_levels-requires c = let flags = c.requires.flags.compared.productions_are in let starts = c.len.ensures in omega (arith, flags, starts)

pub used_declarations-requires : goal.used_declarations-requires
used_declarations-requires c = ap length c.as_slice-2.ensures.value ∙ c.requires.flags.on_errors

pub returns : goal.returns
returns c = λ cc zero shown. record {
  stages = shown.stages;
  file_is = zero;
  uses = first_uses cc c.args.files.now c.args.grammar.now c.args.shown.now _ shown (record {
    all = c.in_ok-sources.sources.items;
    flags = c.in_ok-tokens.ensures.len;
    tokens = c.in_ok-tokens.ensures.used cc.stages.found shown.stages.read;
    rules = c.in_ok-rules.ensures;
    sources = c.in_ok-sources.ensures;
    levels = rw (c.as_slice.ensures.value, c.len.ensures) at c.in_ok-levels.ensures;
    declarations = rw c.as_slice-2.ensures.value at c.in_ok-declarations.ensures;
    count = refl;
  });
}
