-- Proves that the kernel that a file spells for a state is unique.
use Rattle.std.proofs.Common.{◌≡◌, ℕ, List, [], ◌∷◌, map, length, refl, sym, ap, ◌∙◌}
use Rattle.std.specs.List.{AllByRecursion}
use Rattle.mh_grammar.proofs.Lists.{first_same}
use Rattle.mh_grammar.specs.declared.types.Look.{Look}
use Rattle.mh_grammar.specs.declared.types.Look.TheVariants.{Token, End}
use Rattle.mh_grammar.specs.declared.types.Grammar.{Grammar}
use Rattle.mh_grammar.specs.Plain.{plain_of, IsLookBelow}
use Rattle.mh_items_kernels.specs.KernelTypes.{KernelItem}
use Rattle.mh_items_kernels.specs.KernelTypes.{Kernel}
use Rattle.mh_items_kernels.specs.Kernels.{IsKernelItem}
use Rattle.mh_tabfile_form.specs.declared.types.RawItem.{RawItem}
use Rattle.mh_tabfile_form.specs.declared.types.RawTable.{RawTable}
use Rattle.mh_validate_valid.specs.Valid.{HasKernel, AreTokenNamesDistinct}
use Rattle.mh_resolve_cells.specs.Names.{look_name}
use Rattle.mh_tabfile_form.specs.TableContent.{raw_item}

pub same_look : (g : Grammar) → AreTokenNamesDistinct g → (l m : Look) → IsLookBelow (length g.tokens) l → IsLookBelow (length g.tokens) m → look_name g l ≡ look_name g m → l ≡ m
same_look g n (Token y) (Token z) h k e = ap Token (n.distinct y z h k e)
same_look g n (Token y) End h k e = absurd (n.no_end y h e)
same_look g n End (Token z) h k e = absurd (n.no_end z k (sym e))
same_look g n End End h k e = refl

-- Equal nonempty lists have equal tails.
pub tail_equal : {X : Type 0} (x y : X) (xs ys : List X) → x ∷ xs ≡ y ∷ ys → xs ≡ ys
tail_equal x y xs ys e = cc

pub nil_not_cons : {X : Type 0} (x : X) (xs : List X) → [] ≡ x ∷ xs → ⊥
nil_not_cons x xs e = cc

same_looks : (g : Grammar) → AreTokenNamesDistinct g → (ls ms : List Look) → AllByRecursion (IsLookBelow (length g.tokens)) ls → AllByRecursion (IsLookBelow (length g.tokens)) ms → map (look_name g) ls ≡ map (look_name g) ms → ls ≡ ms
same_looks g n [] [] h k e = refl
same_looks g n [] (m ∷ ms) h k e = absurd (nil_not_cons (look_name g m) (map (look_name g) ms) e)
same_looks g n (l ∷ ls) [] h k e = absurd (nil_not_cons (look_name g l) (map (look_name g) ls) (sym e))
same_looks g n (l ∷ ls) (m ∷ ms) (h, hs) (k, ks) e =
    ap (λ x. x ∷ ls) (same_look g n l m h k (first_same (look_name g l) (look_name g m) (map (look_name g) ls) (map (look_name g) ms) e))
    ∙ ap (λ xs. m ∷ xs) (same_looks g n ls ms hs ks (tail_equal (look_name g l) (look_name g m) (map (look_name g) ls) (map (look_name g) ms) e))

pub same_item : (g : Grammar) → AreTokenNamesDistinct g → (i j : KernelItem) → IsKernelItem (plain_of g) i → IsKernelItem (plain_of g) j → raw_item g i ≡ raw_item g j → i ≡ j
same_item g n i j h k e =
    let p : i.production ≡ j.production = ap (λ (r : RawItem). r.production) e in
    let d : i.dot ≡ j.dot = ap (λ (r : RawItem). r.dot) e in
    let l : i.looks ≡ j.looks = same_looks g n i.looks j.looks h.looks k.looks (ap (λ (r : RawItem). r.looks) e) in
    ap (λ x. record i { production = x }) p ∙ ap (λ x. record i { production = j.production; dot = x }) d ∙ ap (λ x. record j { looks = x }) l

pub same_items : (g : Grammar) → AreTokenNamesDistinct g → (is js : List KernelItem) → AllByRecursion (IsKernelItem (plain_of g)) is → AllByRecursion (IsKernelItem (plain_of g)) js → map (raw_item g) is ≡ map (raw_item g) js → is ≡ js
same_items g n [] [] h k e = refl
same_items g n [] (j ∷ js) h k e = absurd (nil_not_cons (raw_item g j) (map (raw_item g) js) e)
same_items g n (i ∷ is) [] h k e = absurd (nil_not_cons (raw_item g i) (map (raw_item g) is) (sym e))
same_items g n (i ∷ is) (j ∷ js) (h, hs) (k, ks) e =
    ap (λ x. x ∷ is) (same_item g n i j h k (first_same (raw_item g i) (raw_item g j) (map (raw_item g) is) (map (raw_item g) js) e))
    ∙ ap (λ xs. j ∷ xs) (same_items g n is js hs ks (tail_equal (raw_item g i) (raw_item g j) (map (raw_item g) is) (map (raw_item g) js) e))

pub kernel_unique : (g : Grammar) → AreTokenNamesDistinct g → (raw : RawTable) (s : ℕ) (k l : Kernel) → HasKernel g raw s k → HasKernel g raw s l → k ≡ l
kernel_unique g n raw s k l h i =
    let same : k.items ≡ l.items = same_items g n k.items l.items h.kernel.kernel.items i.kernel.kernel.items (sym h.spelled ∙ i.spelled) in
    ap (λ x. record k { items = x }) same
