use Rattle.std.proofs.Common.{length, refl, sym, ◌∙◌, subst}
use Rattle.std.specs.Option.{IfSome}
use Rattle.std.proofs.lemmas.Option.{same_Some, slice_get_read}
use Rattle.mh_rules.specs.declared.instances.Instance.{Instance}
use Rattle.mh_inline.specs.code.MovableProducers.{IsLastUse}
use Rattle.mh_inline.proofs.moving.last_use_of.Goals as goal

pub returns : goal.returns
returns c = λ i at.
    let is = c.args.expanded.now.instances in
    let same = same_Some c.index.result.now i (sym (slice_get_read is (length is) c.args.number c.index.result.now refl c.requires c.index.ensures) ∙ at) in
    subst (λ (x : Instance). IfSome c.last_use.result (IsLastUse is c.args.last.now c.args.place x.productions)) same (rw c.as_slice-productions.ensures at c.last_use.ensures)
