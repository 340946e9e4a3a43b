use Rattle.std.proofs.Common.{◌≡◌, ◌++◌, drop}
use Rattle.mh_update.specs.Updates.{kept_texts_of}
use Rattle.mh_update.proofs.updating.write_all_own.Given as goal

abbrev pub invariant-loop-line : goal.invariant-loop-line
invariant-loop-line l = l.text.items ++ kept_texts_of (drop l.line-index l.lines) ≡ l.initial.text.items ++ kept_texts_of l.lines
