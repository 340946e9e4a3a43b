use Rattle.std.proofs.Common.{sym}
use Rattle.mh_reach_words.proofs.LongerBook.{empty_group, entry_group}
use Rattle.mh_reach_words.proofs.comparing.group_at.Goals as goal

pub returns-in-None : goal.returns-in-None
returns-in-None c = rw c.in-None.ensures (sym (empty_group c.args.entries.now))

pub returns-in-Some : goal.returns-in-Some
returns-in-Some c =
    let h = c.in-Some.ensures in
    sym (entry_group c.args.entries.now c.args.number h.0 c.in-Some.entry h.1 h.2)
