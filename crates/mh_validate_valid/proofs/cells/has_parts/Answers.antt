use Rattle.std.proofs.Common.{rules}
use Rattle.mh_validate_valid.proofs.cells.has_parts.Goals as goal

pub returns-in-Cells-None : goal.returns-in-Cells-None
returns-in-Cells-None c = search rules

pub returns-in-Fallback-None : goal.returns-in-Fallback-None
returns-in-Fallback-None c = search rules
