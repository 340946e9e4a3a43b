use Rattle.mh_lint.proofs.NoWarnings.{no_lines_exactly}
use Rattle.mh_lint.proofs.warning_laws.no_line_is_no_warning.Goals as goal

pub returns : goal.returns
returns c = no_lines_exactly
