use Rattle.std.proofs.Common.{◌∙◌, ap, sym}
use Rattle.mh_grammar.specs.Marked.{all_marked}
use Rattle.mh_grammar.proofs.LeastMarks.{sound-set}
use Rattle.mh_grammar.proofs.marks.mark_left_side.Goals as goal

pub returns-clause-sound : goal.returns-clause-sound
returns-clause-sound c = λ ps k at sound.
    rw c.from-lhs.ensures
    (sound-set c.args.tokens ps c.args.marks.now k c.args.production.now sound at
    (ap (all_marked c.args.tokens c.args.marks.now) (sym c.as_slice.ensures) ∙ sym c.are_marked.ensures ∙ c.if-not-are_marked.false))
