use Rattle.std.proofs.Common.{arith, ap, ◌∙◌, map, ◌≡◌, length}
use Rattle.mh_tabfile_read.proofs.SplitLines.{parts_some, parts_few, bytes_of_parts}
use Rattle.mh_tabfile_read.proofs.ReadingUnique.{only_reading}
use Rattle.mh_tabfile_read.proofs.reading.read_tables.Goals as goal

pub read_parts-requires-clause-some : goal.read_parts-requires-clause-some
read_parts-requires-clause-some c = parts_some c.args.bytes.now _ (ap bytes_of_parts c.as_slice.ensures.value ∙ c.in-Ok.ensures)

pub read_parts-requires-clause-few : goal.read_parts-requires-clause-few
read_parts-requires-clause-few c = omega (arith, c.requires, parts_few c.args.bytes.now _ (ap bytes_of_parts c.as_slice.ensures.value ∙ c.in-Ok.ensures))

pub returns-clause-only : goal.returns-clause-only
returns-clause-only c = only_reading c.args.bytes.now c.read_parts.result c.read_parts.ensures.reading
