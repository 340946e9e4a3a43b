use Rattle.std.proofs.Common.{◌≡◌, ◌<◌, Some, length, refl, arith}
use Rattle.std.specs.List.{slice_get}
use Rattle.std.proofs.lemmas.Option.{slice_get_read}
use Rattle.mh_grammar.specs.Plain.{plain_of}
use Rattle.mh_items_kernels.specs.KernelTypes.{Kernel}
use Rattle.mh_pager.proofs.HaveSameCoreList.{core_paired}
use Rattle.mh_pager.proofs.IsJoin.{JoinedSoFar, JoinedSoFar-more, joined_kernel, joined_exact}
use Rattle.mh_pager.proofs.unions.joined.Goals as goal

pub offset_bounds-theirs-i : goal.offset_bounds-theirs-i
offset_bounds-theirs-i g c =
    let paired = core_paired (plain_of c.args.grammar.now) c.args.left.now c.args.right.now c.requires.left c.requires.right c.requires.core in
    rw c.as_slice-theirs.ensures (omega (arith, paired.0, rw c.as_slice-ours.ensures at c.loop-i-test.true))

pub bounds-theirs-i : goal.bounds-theirs-i
bounds-theirs-i g c =
    let paired = core_paired (plain_of c.args.grammar.now) c.args.left.now c.args.right.now c.requires.left c.requires.right c.requires.core in
    rw c.as_slice-theirs.ensures (omega (arith, paired.0, rw c.as_slice-ours.ensures at c.loop-i-test.true))

pub loop-i-preserved : goal.loop-i-preserved
loop-i-preserved g c =
    let paired = core_paired (plain_of c.args.grammar.now) c.args.left.now c.args.right.now c.requires.left c.requires.right c.requires.core in
    let ours = c.as_slice-ours.result.now in
    let theirs = c.as_slice-theirs.result.now in
    let i = c.loop-i.i in
    let within : i < length theirs = rw c.as_slice-theirs.ensures (omega (arith, paired.0, rw c.as_slice-ours.ensures at c.loop-i-test.true)) in
    let at : slice_get ours i ≡ Some c.index-ours-i.result = slice_get_read ours (length ours) i c.index-ours-i.result refl c.loop-i-test.true c.index-ours-i.is in
    let to : slice_get theirs i ≡ Some c.index-theirs-i.result = slice_get_read theirs (length theirs) i c.index-theirs-i.result refl within c.index-theirs-i.is in
    rw c.in_ok-push.ensures.items (JoinedSoFar-more ours theirs c.loop-i.items.items i c.index-ours-i.result c.index-theirs-i.result c.joined_item.result at to c.joined_item.ensures c.loop-i.invariant)

pub returns-clause-kernel : goal.returns-clause-kernel
returns-clause-kernel g c =
    let left = c.args.left.now in
    let right = c.args.right.now in
    let made : Kernel = record { items = c.loop-i.items.items } in
    let paired = core_paired (plain_of c.args.grammar.now) left right c.requires.left c.requires.right c.requires.core in
    let so_far : JoinedSoFar left.items right.items c.loop-i.items.items c.loop-i.i = rw (c.as_slice-ours.ensures, c.as_slice-theirs.ensures) at c.loop-i.invariant in
    let whole : c.loop-i.i ≡ length left.items = omega (arith, rw c.as_slice-ours.ensures at c.loop-i-test.false, rw c.as_slice-ours.ensures at c.loop-i.auto.i-end) in
    rw c.from_vec.ensures (joined_kernel (plain_of c.args.grammar.now) left right made c.requires.left c.requires.right paired c.loop-i.i whole so_far)

pub returns-clause-exact : goal.returns-clause-exact
returns-clause-exact g c =
    let left = c.args.left.now in
    let right = c.args.right.now in
    let made : Kernel = record { items = c.loop-i.items.items } in
    let paired = core_paired (plain_of c.args.grammar.now) left right c.requires.left c.requires.right c.requires.core in
    let so_far : JoinedSoFar left.items right.items c.loop-i.items.items c.loop-i.i = rw (c.as_slice-ours.ensures, c.as_slice-theirs.ensures) at c.loop-i.invariant in
    let whole : c.loop-i.i ≡ length left.items = omega (arith, rw c.as_slice-ours.ensures at c.loop-i-test.false, rw c.as_slice-ours.ensures at c.loop-i.auto.i-end) in
    rw c.from_vec.ensures (joined_exact (plain_of c.args.grammar.now) left right made c.requires.left c.requires.right paired c.loop-i.i whole so_far)
