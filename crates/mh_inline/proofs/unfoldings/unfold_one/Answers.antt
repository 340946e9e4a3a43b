use Rattle.std.proofs.Common.{◌≡◌, ◌<◌, Some, length, refl, sym, ◌∙◌, subst}
use Rattle.std.proofs.lemmas.Bool.{false≢true}
use Rattle.std.proofs.lemmas.Option.{slice_get_read, get_or_from_slice_get}
use Rattle.mh_inline_unfold.specs.code.Sizes.{IsSmallSize}
use Rattle.mh_inline_unfold.proofs.UniqueUnfoldings.{part_same, each_same, some_ready}
use Rattle.mh_inline_unfold.proofs.InlineProducers.{inline_instance}
use Rattle.mh_inline.proofs.UnfoldedInstances.{size_within_if_small, each_known, each_of_part}
use Rattle.mh_inline.proofs.MovedUnfoldings.{lacks_same}
use Rattle.mh_inline.proofs.unfoldings.unfold_one.Goals as goal

pub index-requires-2 : goal.index-requires-2
index-requires-2 c = (inline_instance c.args.expanded.now.instances c.args.number c.requires.next.inlined).within

pub unfold_with-requires-clause-known : goal.unfold_with-requires-clause-known
unfold_with-requires-clause-known c =
    let next = c.requires.next in
    let is = c.args.expanded.now.instances in
    let l : c.args.number < length is = (inline_instance is c.args.number next.inlined).within in
    let at = slice_get_read is (length is) c.args.number c.index-2.result.now refl l c.index-2.ensures in
    let sized : c.index.result.now ≡ Some next.size = c.index.ensures ∙ get_or_from_slice_get c.args.sizing.now.sizes.items c.args.number (Some next.size) c.index.result.now next.sized in
    let within : IsSmallSize (Some next.size) = subst IsSmallSize sized (c.if-not-is_small.ensures.0 refl) in
    rw c.as_slice-productions.ensures (each_known is (some_ready c.args.expanded.now c.requires.ready) c.args.sizing.now.sizes.items c.args.known.now.items c.args.number c.index-2.result.now at next within.0 within.1)

pub returns-then-not-is_small-clause-unfoldings : goal.returns-then-not-is_small-clause-unfoldings
returns-then-not-is_small-clause-unfoldings c = λ us u small.
    let next = c.requires.next in
    let is = c.args.expanded.now.instances in
    let sized : c.index.result.now ≡ Some next.size = c.index.ensures ∙ get_or_from_slice_get c.args.sizing.now.sizes.items c.args.number (Some next.size) c.index.result.now next.sized in
    let same = part_same is _ next.size_is.unfoldings us next.size_is.unfolds u in
    let within : IsSmallSize (Some next.size) = size_within_if_small next.size_is.unfoldings next.size next.size_is.size (rw same small) in
    absurd (false≢true (c.if-not-is_small.ensures.1 (subst IsSmallSize (sym sized) within)))

pub returns-clause-unfoldings : goal.returns-clause-unfoldings
returns-clause-unfoldings c = λ us u small.
    let next = c.requires.next in
    let is = c.args.expanded.now.instances in
    let l : c.args.number < length is = (inline_instance is c.args.number next.inlined).within in
    let at = slice_get_read is (length is) c.args.number c.index-2.result.now refl l c.index-2.ensures in
    c.from_vec.ensures ∙ each_same is c.index-2.result.now.productions c.in_ok-all.all.items us (rw c.as_slice-productions.ensures at c.in_ok-all.ensures.unfolds) (each_of_part is c.args.number c.index-2.result.now us at next.inlined u)

pub unfold_with-requires-clause-last : goal.unfold_with-requires-clause-last
unfold_with-requires-clause-last c =
    let is = c.args.expanded.now.instances in
    let l : c.args.number < length is = (inline_instance is c.args.number c.requires.next.inlined).within in
    rw c.as_slice-productions.ensures (c.requires.last c.index-2.result.now (slice_get_read is (length is) c.args.number c.index-2.result.now refl l c.index-2.ensures))

pub returns-then-not-is_small-clause-known : goal.returns-then-not-is_small-clause-known
returns-then-not-is_small-clause-known c = lacks_same c.args.last_use c.args.known.now.items
