use Rattle.mh_reach_rests.proofs.WholeSearch.{search_begins}
use Rattle.mh_reach_rests.proofs.settling.fresh.Goals as goal

pub returns : goal.returns
returns c =
    search_begins c.args.table.now c.facts.ensures c.args.classes.now c.requires
    (record { settled = c.no_words.result; words = c.in_ok-words.words; work = c.in_ok-work.work })
    c.in_ok-work.ensures c.no_words.ensures.rests c.no_words.ensures.gotos c.in_ok-words.ensures
