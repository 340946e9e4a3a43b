use Rattle.std.proofs.Common.{sym, ◌∙◌}
use Rattle.std.proofs.lemmas.Bool.{false≢true}
use Rattle.std.proofs.lemmas.List.{drop_more, drop_all}
use Rattle.mh_grammar.specs.declared.types.Symbol.TheVariants.{T}
use Rattle.mh_items.proofs.IsStringFirst.{RestSoFar-step, RestSoFar-stop, RestSoFar-all}
use Rattle.mh_items.proofs.links.rest_of.Goals as goal

pub returns-then-not-add_symbol : goal.returns-then-not-add_symbol
returns-then-not-add_symbol _ c =
    let at = drop_more c.args.symbols.now c.loop-symbol.symbol-index (T 0) c.loop-symbol-test.true in
    RestSoFar-stop _ _ _ _ _ _ (rw at at c.loop-symbol.invariant) c.add_symbol.ensures.first
    (λ g s d. false≢true (sym c.if-not-add_symbol.true ∙ (c.add_symbol.ensures.empty g s).1 d))

pub loop-symbol-preserved : goal.loop-symbol-preserved
loop-symbol-preserved _ c =
    let at = drop_more c.args.symbols.now c.loop-symbol.symbol-index (T 0) c.loop-symbol-test.true in
    RestSoFar-step _ _ _ _ _ _ (rw at at c.loop-symbol.invariant) c.add_symbol.ensures.first
    (λ g s. (c.add_symbol.ensures.empty g s).0 c.if-not-add_symbol.false)

pub returns : goal.returns
returns _ c = RestSoFar-all _ _ _ (rw (drop_all c.loop-symbol.symbol-index c.args.symbols.now c.loop-symbol-test.false) at c.loop-symbol.invariant)
