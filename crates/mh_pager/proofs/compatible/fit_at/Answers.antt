use Rattle.std.proofs.Common.{◌≡◌, ℕ, List, Some, length, refl, sym, ◌∙◌}
use Rattle.std.specs.List.{slice_get}
use Rattle.std.proofs.lemmas.Option.{slice_get_read}
use Rattle.mh_items_kernels.specs.KernelTypes.{KernelItem}
use Rattle.mh_pager.specs.code.ItemLists.{MeetsCondition, MeetsConditionAt}
use Rattle.mh_pager.proofs.compatible.fit_at.Goals as goal

pub returns : goal.returns
returns g c =
    let left = c.args.left.now in
    let right = c.args.right.now in
    let i = c.args.i in
    let j = c.args.j in
    let a = c.index-left-i.result in
    let b = c.index-right-i.result in
    let d = c.index-left-j.result in
    let e = c.index-right-j.result in
    let at : slice_get left i ≡ Some a = slice_get_read left (length left) i a refl c.requires.first c.index-left-i.is in
    let at' : slice_get right i ≡ Some b = slice_get_read right (length left) i b c.requires.core c.requires.first c.index-right-i.is in
    let to : slice_get left j ≡ Some d = slice_get_read left (length left) j d refl c.requires.second c.index-left-j.is in
    let to' : slice_get right j ≡ Some e = slice_get_read right (length left) j e c.requires.core c.requires.second c.index-right-j.is in
    let is = c.fit.ensures in
    ((λ t. fits left right i j a b d e at at' to to' (is.0 t)), (λ h. is.1 (h a b d e at at' to to')))
  where
    fits : (left right : List KernelItem) (i j : ℕ) (a b d e : KernelItem) → slice_get left i ≡ Some a → slice_get right i ≡ Some b → slice_get left j ≡ Some d → slice_get right j ≡ Some e → MeetsCondition a.looks b.looks d.looks e.looks → MeetsConditionAt left right i j
    fits left right i j a b d e at at' to to' fit a2 b2 d2 e2 p q r s =
        let one : Some a ≡ Some a2 = sym at ∙ p in
        let two : Some b ≡ Some b2 = sym at' ∙ q in
        let three : Some d ≡ Some d2 = sym to ∙ r in
        let four : Some e ≡ Some e2 = sym to' ∙ s in
        let ea : a ≡ a2 = cc in
        let eb : b ≡ b2 = cc in
        let ed : d ≡ d2 = cc in
        let ee : e ≡ e2 = cc in
        rw (← ea, ← eb, ← ed, ← ee) fit
