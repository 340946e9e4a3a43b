use Rattle.mh_grammar.proofs.FirstFlags.{AreSoundFlags-set}
use Rattle.mh_grammar.specs.First as first
use Rattle.mh_grammar.proofs.firsts.add_symbol.Goals as goal

pub returns-in-T-clause-sound : goal.returns-in-T-clause-sound
returns-in-T-clause-sound c = λ ps give h.
    rw (c.insert.ensures.set, c.from.ensures)
    (AreSoundFlags-set ps c.args.width c.args.flags.now c.args.lhs c.in-T.token (rw c.in-T.is at c.requires.symbol) (give c.in-T.token (rw c.in-T.is first.First.token)) h)
