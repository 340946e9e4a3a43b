use Rattle.std.proofs.Common.{◌≡◌, ◌↔◌, ◌≤◌, drop, length}
use Rattle.mh_tabfile_form.specs.TableContent.{raw_row}
use Rattle.mh_validate_valid.proofs.cells.are_cells.Given as goal

abbrev pub invariant-loop-token : goal.invariant-loop-token
invariant-loop-token l = record {
  within : l.next ≤ length l.raws;
  rest : (drop l.next l.raws ≡ raw_row l.grammar l.token (drop l.token l.cells)) ↔ (l.raws ≡ raw_row l.grammar 0 l.cells);
}
