use Rattle.std.proofs.Common.{length, refl}
use Rattle.std.proofs.lemmas.Option.{slice_get_read}
use Rattle.mh_inline_unfold.proofs.AddsToList.{all_listed, all_within}
use Rattle.mh_inline_unfold.proofs.inlined.inlined_in.Goals as goal

pub returns-clause-exact : goal.returns-clause-exact
returns-clause-exact c =
    let is = c.args.expanded.now.instances in
    all_listed is c.args.number c.index.result.now c.list_alternatives.new.list.items (slice_get_read is (length is) c.args.number c.index.result.now refl c.requires c.index.ensures) (rw c.as_slice-productions.ensures at (rw c.new-list.ensures.items at c.in_ok-list_alternatives.ensures))

pub returns-clause-within : goal.returns-clause-within
returns-clause-within c =
    let is = c.args.expanded.now.instances in
    all_within is c.args.number c.list_alternatives.new.list.items (all_listed is c.args.number c.index.result.now c.list_alternatives.new.list.items (slice_get_read is (length is) c.args.number c.index.result.now refl c.requires c.index.ensures) (rw c.as_slice-productions.ensures at (rw c.new-list.ensures.items at c.in_ok-list_alternatives.ensures)))
