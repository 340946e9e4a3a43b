use Rattle.std.proofs.Common.{◌+◌, arith, length}
use Rattle.mh_reach_words.specs.declared.numbering.PartialNumbering.{PartialNumbering}
use Rattle.mh_reach_words.proofs.IsNumberedUpTo.{numbered_next}
use Rattle.mh_reach_words.proofs.LongerBook.{words_long}
use Rattle.mh_reach_words.proofs.numbering.give_one.Goals as goal

pub returns : goal.returns
returns c =
    let new : PartialNumbering = record { entries = c.add_new.new.new; numbers = c.insert.new.self } in
    numbered_next c.args.entries.now c.args.ordered.now.group c.args.ordered.now.made.now c.args.place c.args.given.now new c.made_at.result c.made_at.ensures c.requires.prefix_free c.requires.sorted c.requires.given
    (length c.args.entries.now + c.len.result) (let l = c.len.ensures in omega arith) (words_long c.args.entries.now) c.in_ok-insert.ensures.updates.0 c.in_ok-add_new.ensures
