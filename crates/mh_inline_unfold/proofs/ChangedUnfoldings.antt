-- Lemmas on loops that change each unfolding of a list, or append a changed copy of each.
use Rattle.std.proofs.Common.{◌≡◌, ◌<◌, ◌+◌, ◌++◌, ◌∷◌, [], ℕ, List, length, get_or, set, map, take, drop, refl, sym, ap, ◌∙◌, append_assoc, arith}
use Rattle.std.proofs.lemmas.List.{append-nil, get_or_default, map-append, take_at, take_more}
use Rattle.std.proofs.lemmas.List.Edits.{map_over_more}
use Rattle.mh_rules.specs.declared.joined.Prec.TheVariants.{Absent}
use Rattle.mh_inline_unfold.specs.declared.unfolding.Unfolding.{Unfolding}
use Rattle.mh_inline_unfold.specs.Unfoldings.{choices, joined, with_own_prec}
use Rattle.mh_inline_unfold.proofs.Monoid.{choices-one_right}

-- If the elements before index i have been changed, then after a change at index i those before index i + 1 have been
-- changed.
pub each_more : (f : Unfolding → Unfolding) (xs ys : List Unfolding) (i : ℕ) (d : Unfolding) → i < length ys → i < length xs → ys ≡ map f (take i xs) ++ drop i xs → set ys i (f (get_or ys i d)) ≡ map f (take (i + 1) xs) ++ drop (i + 1) xs
each_more f xs ys i d inside lt is = map_over_more f xs ys i (get_or ys i d) lt is (get_or_default ys i d (get_or ys i d) inside)

-- The same for a loop that appends the changed elements to another list.
pub append_step : (f : Unfolding → Unfolding) (xs : List Unfolding) (i : ℕ) (x : Unfolding) (start old new : List Unfolding) → i < length xs → x ≡ get_or xs i x → old ≡ start ++ map f (take i xs) → new ≡ old ++ f x ∷ [] → new ≡ start ++ map f (take (i + 1) xs)
append_step f xs i x start old new lt at e same =
    let more = take_more xs i x lt ∙ ap (λ y. take i xs ++ y ∷ []) (sym at) in
    same ∙ ap (λ l. l ++ f x ∷ []) e ∙ append_assoc start (map f (take i xs)) (f x ∷ []) ∙ ap (λ l. start ++ l) (sym (map-append f (take i xs) (x ∷ []))) ∙ ap (λ l. start ++ map f l) (sym more)

-- A list of length 1 is its first element.
pub one_item : (us : List Unfolding) (u : Unfolding) → length us ≡ 1 → u ≡ get_or us 0 u → us ≡ u ∷ []
one_item [] u one at = absurd (omega arith)
one_item (v ∷ []) u one at = ap (λ x. x ∷ []) (sym at)
one_item (v ∷ w ∷ us) u one at = absurd (omega arith)

-- After all elements have been changed, the list is the old list with f applied to each.
pub all_changed : (f : Unfolding → Unfolding) (new seen items : List Unfolding) (len : ℕ) → length new ≡ len → seen ≡ items → new ≡ map f seen → take len (new ++ drop (length new) items) ≡ map f items
all_changed f new seen items len l s e = take_at new (drop (length new) items) len l ∙ e ∙ ap (map f) s

-- The concatenations if one of the two lists has only one unfolding.
pub one_second : (seconds : List Unfolding) (u : Unfolding) (items : List Unfolding) → length seconds ≡ 1 → u ≡ get_or seconds 0 u → map (λ v. joined v u) items ≡ choices items seconds
one_second seconds u items one at = sym (choices-one_right items u) ∙ ap (choices items) (sym (one_item seconds u one at))

pub one_first : (firsts : List Unfolding) (u : Unfolding) (items : List Unfolding) → length firsts ≡ 1 → u ≡ get_or firsts 0 u → map (joined u) items ≡ choices firsts items
one_first firsts u items one at = sym (append-nil (map (joined u) items)) ∙ ap (λ l. choices l items) (sym (one_item firsts u one at))

-- An alternative without a %prec leaves the unfoldings of its producers unchanged.
pub own-absent : (us : List Unfolding) → us ≡ map (with_own_prec Absent) us
own-absent [] = refl
own-absent (u ∷ us) = ap (λ l. u ∷ l) (own-absent us)
