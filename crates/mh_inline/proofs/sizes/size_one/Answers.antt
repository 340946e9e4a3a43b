use Rattle.std.proofs.Common.{◌≡◌, ◌<◌, length, Some, None, refl, sym, ap, ◌∙◌, arith}
use Rattle.std.proofs.lemmas.Option.{slice_get_read}
use Rattle.mh_inline.proofs.SizeOrder.{AreOrdered-push, uses_unsized_if_unsized, none_of}
use Rattle.mh_inline_unfold.proofs.UniqueUnfoldings.{some_ready}
use Rattle.mh_inline.proofs.sizes.size_one.Goals as goal

pub returns-in_default-clause-same : goal.returns-in_default-clause-same
returns-in_default-clause-same c = λ e. (
  refl,
  uses_unsized_if_unsized c.args.expanded.now.instances c.args.sizing.now.sizes.items c.args.number c.index-2.result.now
      (slice_get_read c.args.expanded.now.instances (length c.args.expanded.now.instances) c.args.number c.index-2.result.now refl c.requires.number c.index-2.ensures)
      (rw (← c.as_slice-productions.ensures, ← c.as_slice.ensures.value) c.in_default.ensures.size),
)

pub returns-clause-sizing : goal.returns-clause-sizing
returns-clause-sizing c =
    let is = c.args.expanded.now.instances in
    let n = c.args.number in
    let sizes = c.args.sizing.now.sizes.items in
    let at = slice_get_read is (length is) n c.index-2.result.now refl c.requires.number c.index-2.ensures in
    let none : c.index.result.now ≡ None = none_of c.index.result.now (sym c.is_some.ensures ∙ c.if-is_some.false) in
    let l : n < length sizes = omega (arith, c.requires.sizing.are_sizes.len, c.requires.number) in
    let free = slice_get_read sizes (length sizes) n c.index.result.now refl l c.index.ensures ∙ ap Some none in
    let side = c.in-Some.ensures in
    rw c.in_ok-push.ensures.items (AreOrdered-push is (some_ready c.args.expanded.now c.requires.ready) sizes c.args.sizing.now.order.items c.requires.sizing n c.index-2.result.now c.in-Some.size at (sym c.is_inline.ensures ∙ c.if-not-is_inline.false) free
    (rw c.as_slice-productions.ensures at side.size)
    (rw (c.as_slice-productions.ensures, c.as_slice.ensures.value) at side.sized))
