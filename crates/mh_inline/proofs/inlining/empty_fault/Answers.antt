use Rattle.std.proofs.Common.{ℕ, ◌≡◌, ◌∙◌, subst}
use Rattle.std.proofs.lemmas.Option.{get_or_from_slice_get}
use Rattle.mh_inline.specs.Faults.{IsInstanceNamed}
use Rattle.mh_inline.proofs.inlining.empty_fault.Goals as goal

pub returns-in-Ok : goal.returns-in-Ok
returns-in-Ok c =
    let empty = c.requires.empty in
    let start : ℕ = c.index.result.now in
    let same : start ≡ empty.number = c.index.ensures ∙ get_or_from_slice_get c.args.expanded.now.starts c.args.place empty.number start empty.at in
    let named = subst (λ (n : ℕ). IsInstanceNamed c.args.expanded.now n c.in-Ok.name) same c.in-Ok.ensures in
    (empty.acyclic, empty.kept, empty.grammar, empty.inlined, empty.within_limits, record { number = empty.number; named = named; first = empty.first })
