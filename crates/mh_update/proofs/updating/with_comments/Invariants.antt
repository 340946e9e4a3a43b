use Rattle.std.proofs.Common.{◌≡◌, ◌++◌, drop}
use Rattle.mh_update.specs.Updates.{updated, updated_from}
use Rattle.mh_update.proofs.updating.with_comments.Given as goal

abbrev pub invariant-loop-comment : goal.invariant-loop-comment
invariant-loop-comment l = l.text.items ++ updated_from l.written l.lines (drop l.comment-index l.comments) ≡ updated l.lines l.comments
