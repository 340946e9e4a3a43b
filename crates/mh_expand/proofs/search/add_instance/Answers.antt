use Rattle.std.proofs.Common.{◌≡◌, ◌<◌, length, arith, inl, inr}
use Rattle.std.proofs.lemmas.List.{length_push}
use Rattle.mh_expand.specs.code.SharedTerms.{terms_of, term_at}
use Rattle.mh_expand.specs.declared.fault.ExpandFault.TheVariants.{Expansion}
use Rattle.mh_expand.specs.Expansion.{IsFault}
use Rattle.mh_expand.proofs.SharedTerms.{slice_get-term_at, terms_of-distinct}
use Rattle.mh_expand.proofs.AreFound.{FindsTerm-old, FindsTerm-new, IsFault-new, IsMemoryOr-weaker}
use Rattle.mh_expand.proofs.search.add_instance.Goals as goal

pub returns-then-at-known-clause-ok : goal.returns-then-at-known-clause-ok
returns-then-at-known-clause-ok c = λ before s.
    let nodes = c.args.terms.now.nodes.keys in
    let ts = terms_of nodes in
    let t = term_at ts c.args.number in
    let old = c.args.found.now.keys in
    let here = slice_get-term_at ts c.args.number c.requires.number in
    elim c.in_ok-at.ensures.grown [
      | inl g ↦ rw g.0 (FindsTerm-old ts (terms_of-distinct nodes c.args.terms.now.nodes_ok) c.args.number t here old s.below c.args.joined.now before s c.requires.fits c.in_ok-at.at (rw g.0 at c.in_ok-at.ensures.at))
      | inr g ↦ absurd (omega (arith, g.1))
    ]

pub returns-then-branch-clause-ok : goal.returns-then-branch-clause-ok
returns-then-branch-clause-ok c = λ before s.
    let nodes = c.args.terms.now.nodes.keys in
    let ts = terms_of nodes in
    let t = term_at ts c.args.number in
    let old = c.args.found.now.keys in
    let here = slice_get-term_at ts c.args.number c.requires.number in
    elim c.in_ok-at.ensures.grown [
      | inl g ↦ absurd (omega (arith, g.1))
      | inr g ↦ (let m = c.in_ok-may_come.ensures.0 c.if-branch.true in
          rw (g.0, g.1) (FindsTerm-new ts (terms_of-distinct nodes c.args.terms.now.nodes_ok) c.args.number t here old s.below c.args.joined.now before s c.requires.fits c.requires.instance g.2 (omega (arith, m.0, c.len-known.ensures.len)) m.1))
    ]

pub returns-else-branch-clause-err : goal.returns-else-branch-clause-err
returns-else-branch-clause-err c = λ before s.
    let nodes = c.args.terms.now.nodes.keys in
    let ts = terms_of nodes in
    let t = term_at ts c.args.number in
    let old = c.args.found.now.keys in
    let here = slice_get-term_at ts c.args.number c.requires.number in
    elim c.in_ok-at.ensures.grown [
      | inl g ↦ absurd (omega (arith, g.1))
      | inr g ↦ (let f = IsFault-new ts (terms_of-distinct nodes c.args.terms.now.nodes_ok) c.args.number t here old s.below c.args.joined.now before s c.requires.fits c.requires.instance g.2 c.requires.few (λ m. let l : length old < 20000 = m.0 in let u = c.in_ok-may_come.ensures.1 (omega (arith, l, c.len-known.ensures.len), m.1) in let v = c.if-branch.false in cc) in
          IsMemoryOr-weaker (λ e. e ≡ Expansion c.args.rule.now) (IsFault c.args.joined.now before t) (λ e q. rw (q, c.requires.rule) f) c.one_too_many.result c.one_too_many.ensures)
    ]

pub returns-then-at-known-clause-few : goal.returns-then-at-known-clause-few
returns-then-at-known-clause-few c = elim c.in_ok-at.ensures.grown [
  | inl g ↦ rw g.0 c.requires.few
  | inr g ↦ absurd (omega (arith, g.1))
]

pub returns-then-branch-clause-few : goal.returns-then-branch-clause-few
returns-then-branch-clause-few c = elim c.in_ok-at.ensures.grown [
  | inl g ↦ rw g.0 c.requires.few
  | inr g ↦ (let m = c.in_ok-may_come.ensures.0 c.if-branch.true in
      rw g.0 (omega (arith, m.0, c.len-known.ensures.len, length_push c.args.found.now.keys c.args.number)))
]
