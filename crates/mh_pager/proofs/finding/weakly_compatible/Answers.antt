use Rattle.std.proofs.Common.{rules}
use Rattle.mh_pager.proofs.HaveSameCoreList.{AreItemsUnique, rising_is_unique, unique_right, meets_if_compatible, compatible_if_meets}
use Rattle.mh_pager.specs.code.ItemLists.{HaveSameCoreList}
use Rattle.mh_pager.proofs.finding.weakly_compatible.Goals as goal

pub are_compatible-requires : goal.are_compatible-requires
are_compatible-requires g c = (search rules, (c.requires.few, rw (c.as_slice.ensures, c.as_slice-2.ensures) c.requires.core.count))

pub returns : goal.returns
returns g c =
    let k = c.args.left.now in
    let m = c.args.right.now in
    let paired : HaveSameCoreList k.items m.items = (c.requires.core.count, c.requires.core.places) in
    let of_k : AreItemsUnique k = rising_is_unique k c.requires.core.rising in
    let of_m : AreItemsUnique m = unique_right k m paired of_k in
    let is = rw (c.as_slice.ensures, c.as_slice-2.ensures) at c.are_compatible.ensures in
    ((λ t. compatible_if_meets k m paired of_k of_m (is.0 t)), (λ h. is.1 (meets_if_compatible k m paired of_k of_m h)))
