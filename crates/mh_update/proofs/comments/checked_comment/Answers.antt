use Rattle.std.proofs.Common.{[], rules}
use Rattle.mh_update.proofs.comments.checked_comment.Goals as goal

pub comment_of-requires : goal.comment_of-requires
comment_of-requires g c = (search rules, (c.requires.fits, (c.requires.known, (c.in-Ok._state, c.in-Ok.ensures.fails))))

pub returns-in-Err : goal.returns-in-Err
returns-in-Err g c = c.in-Err.ensures.fails []
