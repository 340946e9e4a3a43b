use Rattle.std.proofs.Common.{rules}
use Rattle.mh_pager.proofs.construction.list_all.Goals as goal

pub step_all-requires : goal.step_all-requires
step_all-requires g c = (search rules, (search rules, (c.requires.fits, (c.in_ok-mover.ensures, (c.in_ok-begin.ensures.begun, c.in_ok-begin.ensures.kept)))))
