use Rattle.std.proofs.Common.{◌≡◌, drop}
use Rattle.std.specs.List.{All}
use Rattle.mh_grammar.specs.Text.{Text}
use Rattle.mh_top_drive.proofs.ReadFilesLoop.{IsSoFar}
use Rattle.mh_top_drive.proofs.files.read_files.Given as goal

abbrev pub invariant-loop-name : goal.invariant-loop-name
invariant-loop-name g l = record {
  so_far : IsSoFar (g.F.Shelf.files l.fn.shelf) (g.S.FileFormat.Spells l.spelling) l.names l.items.items (drop l.name-index l.names);
  still : (other : Text) → g.F.Shelf.MayAsk l.fn.shelf other → g.F.Shelf.MayAsk l.shelf other;
  may : All (g.F.Shelf.MayAsk l.shelf) l.names;
  kept : g.F.Shelf.files l.shelf ≡ g.F.Shelf.files l.fn.shelf;
  calm : g.F.Shelf.faults l.shelf ≡ g.F.Shelf.faults l.fn.shelf;
}
