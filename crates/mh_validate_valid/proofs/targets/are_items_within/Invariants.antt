use Rattle.std.proofs.Common.{◌≡◌, ◌↔◌, drop, length}
use Rattle.std.specs.List.{AllZip}
use Rattle.mh_validate_valid.specs.code.KernelWithin.{IsItemWithin}
use Rattle.mh_validate_valid.proofs.targets.are_items_within.Given as goal

abbrev pub invariant-loop-at : goal.invariant-loop-at
invariant-loop-at g l = record {
  same : length l.inner ≡ length l.outer;
  rest : AllZip IsItemWithin (drop l.at l.inner) (drop l.at l.outer) ↔ AllZip IsItemWithin l.inner l.outer;
}
