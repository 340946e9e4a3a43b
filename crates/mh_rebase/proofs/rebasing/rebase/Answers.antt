use Rattle.mh_rebase.proofs.IsReadAgain.{reread}
use Rattle.mh_rebase.proofs.rebasing.rebase.Goals as goal

pub returns-in-Ok-rebased_by-clause-again : goal.returns-in-Ok-rebased_by-clause-again
returns-in-Ok-rebased_by-clause-again g c = λ has names bytes spells free.
    reread c.args.expected c.args.grammar.now c.args.automaton.now c.args.table.now c.table.ensures.facts.facts c.requires.same has names bytes c.args.file.now spells free c.in-Ok-rebased_by.text.items c.in-Ok-rebased_by.ensures
