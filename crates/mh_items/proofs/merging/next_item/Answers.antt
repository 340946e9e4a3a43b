use Rattle.std.proofs.Common.{◌≡◌, Some, length, refl, arith}
use Rattle.std.specs.List.{slice_get}
use Rattle.std.proofs.lemmas.Option.{slice_get_read}
use Rattle.mh_grammar.specs.Plain.{plain_of}
use Rattle.mh_items_kernels.specs.Kernels.{IsKernelItem}
use Rattle.mh_grammar.proofs.Lists.{recursion_at}
use Rattle.mh_items.proofs.HasLooksOfBoth.{joined_item}
use Rattle.mh_items.proofs.IsUnionSoFar.{IsUnionSoFar-left, IsUnionSoFar-right, IsUnionSoFar-both}
use Rattle.mh_items.proofs.merging.next_item.Goals as goal

pub returns-in-Less-clause-merged : goal.returns-in-Less-clause-merged
returns-in-Less-clause-merged _ c =
    let g = plain_of c.args.grammar.now in
    let left = c.args.left.now in
    let x = c.index-left-i.result in
    let t = rw c.in-Less.is at c.next_side.ensures in
    let at : slice_get left c.args.i ≡ Some x = slice_get_read left (length left) c.args.i x refl t.0 c.index-left-i.is in
    λ items merged. rw c.copied_item.ensures (IsUnionSoFar-left g left c.args.right.now items c.args.i c.args.j c.requires.left c.requires.right merged x at (λ y e. t.1 x y at e))

pub returns-in-Less-clause-more : goal.returns-in-Less-clause-more
returns-in-Less-clause-more _ c = omega arith

pub returns-in-Greater-clause-merged : goal.returns-in-Greater-clause-merged
returns-in-Greater-clause-merged _ c =
    let g = plain_of c.args.grammar.now in
    let right = c.args.right.now in
    let y = c.index-right-j.result in
    let t = rw c.in-Greater.is at c.next_side.ensures in
    let at : slice_get right c.args.j ≡ Some y = slice_get_read right (length right) c.args.j y refl t.0 c.index-right-j.is in
    λ items merged. rw c.copied_item-in-Greater.ensures (IsUnionSoFar-right g c.args.left.now right items c.args.i c.args.j c.requires.left c.requires.right merged y at (λ x e. t.1 x y e at))

pub returns-in-Greater-clause-more : goal.returns-in-Greater-clause-more
returns-in-Greater-clause-more _ c = omega arith

pub returns-in-Equal-clause-merged : goal.returns-in-Equal-clause-merged
returns-in-Equal-clause-merged _ c =
    let g = plain_of c.args.grammar.now in
    let x = c.index-left-i-in-Equal.result in
    let y = c.index-right-j-in-Equal.result in
    let left = c.args.left.now in
    let right = c.args.right.now in
    let t = rw c.in-Equal.is at c.next_side.ensures in
    let at : slice_get left c.args.i ≡ Some x = slice_get_read left (length left) c.args.i x refl t.0 c.index-left-i-in-Equal.is in
    let at' : slice_get right c.args.j ≡ Some y = slice_get_read right (length right) c.args.j y refl t.1 c.index-right-j-in-Equal.is in
    let place = t.2 x y at at' in
    let valid = joined_item g x y c.joined_item.result (recursion_at (IsKernelItem g) left c.requires.left.items c.args.i x at) (recursion_at (IsKernelItem g) right c.requires.right.items c.args.j y at') c.joined_item.ensures in
    λ items merged. IsUnionSoFar-both g left right items c.args.i c.args.j c.requires.left c.requires.right merged x y c.joined_item.result at at' place.0 place.1 valid c.joined_item.ensures

pub returns-in-Equal-clause-more : goal.returns-in-Equal-clause-more
returns-in-Equal-clause-more _ c = omega arith
