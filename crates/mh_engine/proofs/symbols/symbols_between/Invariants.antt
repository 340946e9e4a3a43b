use Rattle.std.proofs.Common.{◌<◌}
use Rattle.mh_engine.proofs.StackSymbols.{AreSymbolsBelow}
use Rattle.mh_engine.proofs.symbols.symbols_between.Given as goal

abbrev pub invariant-loop-place : goal.invariant-loop-place
invariant-loop-place l = (0 < l.place) × AreSymbolsBelow l.table l.states l.place l.symbols.items
