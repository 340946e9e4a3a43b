use Rattle.std.proofs.Common.{map, get_or, ap, refl, ◌∙◌}
use Rattle.std.proofs.lemmas.List.{take_all}
use Rattle.mh_rules.specs.declared.instances.Part.TheVariants.{Token}
use Rattle.mh_inline.specs.code.NumbersAndOrigins.{symbol_by}
use Rattle.mh_grammar.proofs.Lists.{map_step}
use Rattle.mh_inline.proofs.nonterminals.symbols.Goals as goal

pub symbol-requires : goal.symbol-requires
symbol-requires c = c.requires c.loop-part.part-index (Token 0) c.loop-part-test.true

pub loop-part-preserved : goal.loop-part-preserved
loop-part-preserved c =
    let parts = c.args.parts.now in
    let i = c.loop-part.part-index in
    map_step (symbol_by c.args.numbers.now) parts i (Token 0) (get_or parts i (Token 0)) c.loop-part.symbols.items c.push.new.self.items c.symbol.result c.loop-part-test.true refl c.loop-part.invariant c.symbol.ensures c.in_ok-push.ensures.items

pub returns : goal.returns
returns c = c.loop-part.invariant ∙ ap (map (symbol_by c.args.numbers.now)) (take_all c.loop-part.part-index c.args.parts.now c.loop-part-test.false)
