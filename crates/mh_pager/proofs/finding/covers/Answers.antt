use Rattle.std.proofs.Common.{sym, rules}
use Rattle.mh_grammar.specs.Plain.{plain_of}
use Rattle.mh_pager.specs.code.ItemLists.{HaveSameCoreList}
use Rattle.mh_pager.proofs.HaveSameCoreList.{core_paired, rising_is_unique, within_covers, covers_within}
use Rattle.mh_pager.proofs.finding.covers.Goals as goal

pub are_within-requires : goal.are_within-requires
are_within-requires g c =
    let paired = core_paired (plain_of c.args.grammar.now) c.args.state.now c.args.kernel.now c.requires.state c.requires.kernel c.requires.core in
    (search rules, (c.requires.few, rw (c.as_slice.ensures, c.as_slice-2.ensures) (sym paired.0)))

pub returns : goal.returns
returns g c =
    let g = plain_of c.args.grammar.now in
    let k = c.args.state.now in
    let m = c.args.kernel.now in
    let paired : HaveSameCoreList k.items m.items = core_paired g k m c.requires.state c.requires.kernel c.requires.core in
    let of_k = rising_is_unique k c.requires.state.rising in
    let of_m = rising_is_unique m c.requires.kernel.rising in
    let is = rw (c.as_slice.ensures, c.as_slice-2.ensures) at c.are_within.ensures in
    ((λ t. within_covers k m paired of_k of_m (is.0 t)), (λ h. is.1 (covers_within k m paired of_k of_m h)))
