use Rattle.std.proofs.Common.{take}
use Rattle.mh_expand.specs.Terms.{Atom, apply_all}
use Rattle.mh_expand.specs.code.SharedTerms.{terms_of, terms_at}
use Rattle.mh_expand.proofs.BoundedTexts.{IsWriting}
use Rattle.mh_expand.proofs.texts.+write_term.Given as goal

abbrev pub decreases-write_term : goal.decreases-write_term
decreases-write_term l = l.number

abbrev pub invariant-loop-place : goal.invariant-loop-place
invariant-loop-place l =
    IsWriting l.joined l.room l.fn.text.items l.text.items (apply_all (Atom l.node.head) (terms_at (terms_of l.terms.nodes.keys) (take l.place l.node.args)))
