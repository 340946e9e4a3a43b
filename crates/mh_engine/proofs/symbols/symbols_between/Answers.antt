use Rattle.std.proofs.Common.{slice_index_or, refl, arith}
use Rattle.mh_engine.proofs.StackSymbols.{symbols_begin, state_known, has_symbol, symbols_next, symbols_all}
use Rattle.mh_engine.proofs.symbols.symbols_between.Goals as goal

pub loop-place-init : goal.loop-place-init
loop-place-init c = (omega arith, symbols_begin c.args.table.now c.args.states.now c.new-symbols.result.items c.new-symbols.ensures.items)

pub symbol_to-requires : goal.symbol_to-requires
symbol_to-requires c = state_known c.args.table.now c.args.states.now c.loop-place.place c.loop-place-test.true c.loop-place.invariant.0 (slice_index_or c.args.states.now c.loop-place.place 0) refl c.facts.ensures c.requires

pub unreachable-requires : goal.unreachable-requires
unreachable-requires c =
    has_symbol c.args.table.now c.args.states.now c.loop-place.place c.loop-place-test.true c.loop-place.invariant.0 (slice_index_or c.args.states.now c.loop-place.place 0) refl c.requires c.symbol_to.result c.symbol_to.ensures.symbol c.in-None.is

pub loop-place-preserved : goal.loop-place-preserved
loop-place-preserved c = (
  omega arith,
  symbols_next c.args.table.now c.args.states.now c.loop-place.place c.loop-place-test.true c.loop-place.invariant.0 (slice_index_or c.args.states.now c.loop-place.place 0) refl c.loop-place.symbols.items c.push.new.self.items c.in-Some.symbol c.symbol_to.result c.loop-place.invariant.1
      c.symbol_to.ensures.symbol c.in-Some.is c.in_ok-push-in-Some.ensures.items,
)

pub returns : goal.returns
returns c = symbols_all c.args.table.now c.args.states.now c.loop-place.place c.loop-place.symbols.items c.loop-place.invariant.1 (omega (arith, c.loop-place-test.false))
