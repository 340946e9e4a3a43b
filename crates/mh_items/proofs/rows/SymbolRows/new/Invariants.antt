use Rattle.std.proofs.Common.{◌≡◌, [], vec_len}
use Rattle.std.specs.List.{All}
use Rattle.mh_items.proofs.rows.SymbolRows.new.Given as goal

abbrev pub invariant-loop : goal.invariant-loop
invariant-loop g l = record {
  len : vec_len l.rows ≡ l.counter;
  empty : All (λ row. row ≡ []) l.rows.items;
}
