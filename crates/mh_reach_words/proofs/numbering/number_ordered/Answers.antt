use Rattle.mh_reach_words.proofs.NumberAll.{ordered_known, ordered_prefix_free, number_of, is_numbered}
use Rattle.mh_reach_words.proofs.numbering.number_ordered.Goals as goal

pub give-requires-clause-known : goal.give-requires-clause-known
give-requires-clause-known c =
    let o = c.requires.orders in
    ordered_known c.args.entries.now c.args.ordered.now.group c.args.made.now o.distinct c.args.ordered.now.made.now o.same o.sorts c.requires.known

pub give-requires-clause-prefix_free : goal.give-requires-clause-prefix_free
give-requires-clause-prefix_free c =
    let o = c.requires.orders in
    ordered_prefix_free c.args.entries.now c.args.ordered.now.group c.args.made.now o.distinct c.args.ordered.now.made.now o.same o.sorts c.requires.prefix_free

pub give-requires-clause-sorted : goal.give-requires-clause-sorted
give-requires-clause-sorted c = c.requires.orders.sorts.is_sorted

pub numbers_of-requires : goal.numbers_of-requires
numbers_of-requires c =
    let o = c.requires.orders in
    number_of c.args.entries.now c.args.ordered.now.group c.args.made.now o.distinct c.args.ordered.now.made.now o.same o.sorts c.in_ok-given.given c.in_ok-given.ensures

pub returns : goal.returns
returns c =
    let o = c.requires.orders in
    is_numbered c.args.entries.now c.args.ordered.now.group c.args.made.now o.distinct c.args.ordered.now.made.now o.same o.sorts c.in_ok-given.given c.in_ok-given.ensures c.requires.known c.in_ok-numbers.numbers c.requires.sound c.requires.fresh c.in_ok-numbers.ensures
