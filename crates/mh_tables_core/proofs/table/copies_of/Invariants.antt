use Rattle.std.proofs.Common.{◌≡◌, take}
use Rattle.mh_tables_core.proofs.table.copies_of.Given as goal

abbrev pub invariant-loop-production : goal.invariant-loop-production
invariant-loop-production l = l.copies.items ≡ take l.production-index l.productions
