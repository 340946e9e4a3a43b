use Rattle.std.proofs.Common.{◌∙◌, sym, length, get_or}
use Rattle.std.proofs.lemmas.List.{drop_more}
use Rattle.mh_grammar.specs.declared.types.Symbol.TheVariants.{T}
use Rattle.mh_grammar.proofs.FirstFlags.{symbol_fits, step_sound, SideSoFar-step, SideSoFar-stop}
use Rattle.mh_grammar.proofs.firsts.add_side.Goals as goal

pub add_symbol-grown-requires-clause-symbol : goal.add_symbol-grown-requires-clause-symbol
add_symbol-grown-requires-clause-symbol c =
    let i = c.loop-symbol.symbol-index in
    symbol_fits c.args.width (length c.args.nullable.now) (length c.loop-symbol.flags) (get_or c.args.symbols.now i (T 0)) (c.requires.symbols i (T 0) c.loop-symbol-test.true) (c.loop-symbol.auto.flags ∙ c.requires.flags)

pub returns-then-not-is_marked-clause-sound : goal.returns-then-not-is_marked-clause-sound
returns-then-not-is_marked-clause-sound c =
    let at = drop_more c.args.symbols.now c.loop-symbol.symbol-index (T 0) c.loop-symbol-test.true in
    step_sound _ _ _ _ _ _ _ _ _ _ _ (rw at at c.loop-symbol.invariant) c.add_symbol-grown.ensures.grows c.add_symbol-grown.ensures.sound c.add_symbol-grown.ensures.added

pub returns-then-not-is_marked-clause-added : goal.returns-then-not-is_marked-clause-added
returns-then-not-is_marked-clause-added c same =
    let at = drop_more c.args.symbols.now c.loop-symbol.symbol-index (T 0) c.loop-symbol-test.true in
    SideSoFar-stop _ _ _ _ _ _ _ _ _ _ _ (rw at at c.loop-symbol.invariant) c.add_symbol-grown.ensures.grows c.add_symbol-grown.ensures.sound c.add_symbol-grown.ensures.added (sym c.is_marked.ensures ∙ c.if-not-is_marked.true) same

pub loop-symbol-preserved : goal.loop-symbol-preserved
loop-symbol-preserved c =
    let at = drop_more c.args.symbols.now c.loop-symbol.symbol-index (T 0) c.loop-symbol-test.true in
    SideSoFar-step _ _ _ _ _ _ _ _ _ _ _ (rw at at c.loop-symbol.invariant) c.add_symbol-grown.ensures.grows c.add_symbol-grown.ensures.sound c.add_symbol-grown.ensures.added (sym c.is_marked.ensures ∙ c.if-not-is_marked.false)
