-- Proves that unfoldings form a monoid under concatenation, and so do lists of unfoldings under the concatenation of
-- each with each.
use Rattle.std.proofs.Common.{◌≡◌, List, [], ◌∷◌, ◌++◌, map, refl, sym, ap, ◌∙◌, append_assoc}
use Rattle.std.proofs.lemmas.List.{append-nil, map-append}
use Rattle.mh_grammar.proofs.Lists.{cons_same}
use Rattle.mh_rules.specs.declared.joined.Prec.{Prec}
use Rattle.mh_rules.specs.declared.joined.Prec.TheVariants.{Absent, Given}
use Rattle.mh_rules.specs.declared.instances.Part.{Part}
use Rattle.mh_rules.specs.declared.instances.InstanceProduction.{InstanceProduction}
use Rattle.mh_rules.specs.declared.instances.Instance.{Instance}
use Rattle.mh_inline_unfold.specs.declared.unfolding.Unfolding.{Unfolding}
use Rattle.mh_inline_unfold.specs.Unfoldings as unfoldings
use Rattle.mh_inline_unfold.specs.Unfoldings.{rightmost, empty_unfolding, joined, with_own_prec, choices, Unfolds, UnfoldsPart, UnfoldsEach}

pub rightmost-absent : (p : Prec) → rightmost Absent p ≡ p
rightmost-absent Absent = refl
rightmost-absent (Given level) = refl

rightmost_assoc : (p q r : Prec) → rightmost (rightmost p q) r ≡ rightmost p (rightmost q r)
rightmost_assoc p q Absent = refl
rightmost_assoc p q (Given level) = refl

unfolding_of : List Part → Prec → Unfolding
unfolding_of rhs prec = record { rhs = rhs; prec = prec }

pub joined-nothing_left : (u : Unfolding) → joined empty_unfolding u ≡ u
unfolding unfolding_of
joined-nothing_left u = ap (unfolding_of u.rhs) (rightmost-absent u.prec)

pub joined-nothing_right : (u : Unfolding) → joined u empty_unfolding ≡ u
unfolding unfolding_of
joined-nothing_right u = ap (λ rhs. unfolding_of rhs u.prec) (append-nil u.rhs)

pub joined_assoc : (u v w : Unfolding) → joined (joined u v) w ≡ joined u (joined v w)
unfolding unfolding_of
joined_assoc u v w = ap (λ rhs. unfolding_of rhs (rightmost (rightmost u.prec v.prec) w.prec)) (append_assoc u.rhs v.rhs w.rhs) ∙ ap (unfolding_of (u.rhs ++ (v.rhs ++ w.rhs))) (rightmost_assoc u.prec v.prec w.prec)

pub append_same : {X : Type 0} (xs ys zs ws : List X) → xs ≡ ys → zs ≡ ws → xs ++ zs ≡ ys ++ ws
append_same xs ys zs ws e f = λ i. e i ++ f i

pub choices-append : (us vs ws : List Unfolding) → choices (us ++ vs) ws ≡ choices us ws ++ choices vs ws
choices-append [] vs ws = refl
choices-append (u ∷ us) vs ws = ap (λ l. map (joined u) ws ++ l) (choices-append us vs ws) ∙ sym (append_assoc (map (joined u) ws) (choices us ws) (choices vs ws))

-- The concatenations after an unfolding is appended to the first list.
pub choices-push : (us : List Unfolding) (u : Unfolding) (ws : List Unfolding) → choices (us ++ u ∷ []) ws ≡ choices us ws ++ map (joined u) ws
choices-push us u ws = choices-append us (u ∷ []) ws ∙ ap (λ l. choices us ws ++ l) (append-nil (map (joined u) ws))

pub choices-one_right : (us : List Unfolding) (v : Unfolding) → choices us (v ∷ []) ≡ map (λ u. joined u v) us
choices-one_right [] v = refl
choices-one_right (u ∷ us) v = ap (λ l. joined u v ∷ l) (choices-one_right us v)

map_nothing_right : (us : List Unfolding) → map (λ u. joined u empty_unfolding) us ≡ us
map_nothing_right [] = refl
map_nothing_right (u ∷ us) = cons_same _ _ _ _ (joined-nothing_right u) (map_nothing_right us)

map_nothing_left : (us : List Unfolding) → map (joined empty_unfolding) us ≡ us
map_nothing_left [] = refl
map_nothing_left (u ∷ us) = cons_same _ _ _ _ (joined-nothing_left u) (map_nothing_left us)

pub choices-nothing_right : (us : List Unfolding) → choices us (empty_unfolding ∷ []) ≡ us
choices-nothing_right us = choices-one_right us empty_unfolding ∙ map_nothing_right us

pub choices-nothing_left : (us : List Unfolding) → choices (empty_unfolding ∷ []) us ≡ us
choices-nothing_left us = append-nil (map (joined empty_unfolding) us) ∙ map_nothing_left us

map_joined : (u v : Unfolding) (ws : List Unfolding) → map (joined (joined u v)) ws ≡ map (joined u) (map (joined v) ws)
map_joined u v [] = refl
map_joined u v (w ∷ ws) = cons_same _ _ _ _ (joined_assoc u v w) (map_joined u v ws)

choices-map : (u : Unfolding) (vs ws : List Unfolding) → choices (map (joined u) vs) ws ≡ map (joined u) (choices vs ws)
choices-map u [] ws = refl
choices-map u (v ∷ vs) ws = append_same _ _ _ _ (map_joined u v ws) (choices-map u vs ws) ∙ sym (map-append (joined u) (map (joined v) ws) (choices vs ws))

pub choices_assoc : (us vs ws : List Unfolding) → choices (choices us vs) ws ≡ choices us (choices vs ws)
choices_assoc [] vs ws = refl
choices_assoc (u ∷ us) vs ws = choices-append (map (joined u) vs) (choices us vs) ws ∙ append_same _ _ _ _ (choices-map u vs ws) (choices_assoc us vs ws)

-- The unfoldings of a list with one more producer, or with one more alternative, are made from those of the list and
-- those of the new element.
pub Unfolds-push : (is : List Instance) (Xs : List Part) (X : Part) (us vs : List Unfolding) → Unfolds is Xs us → UnfoldsPart is X vs → Unfolds is (Xs ++ X ∷ []) (choices us vs)
Unfolds-push is [] X us vs unfoldings.Unfolds.none p = unfoldings.Unfolds.more (choices-nothing_left vs ∙ sym (choices-nothing_right vs)) p unfoldings.Unfolds.none
Unfolds-push is (Y ∷ Xs) X us vs (unfoldings.Unfolds.more {us = firsts} {vs = rests} e q f) p = unfoldings.Unfolds.more (ap (λ l. choices l vs) e ∙ choices_assoc firsts rests vs) q (Unfolds-push is Xs X rests vs f p)

pub UnfoldsEach-push : (is : List Instance) (ps : List InstanceProduction) (p : InstanceProduction) (us vs : List Unfolding) → UnfoldsEach is ps us → Unfolds is p.rhs vs → UnfoldsEach is (ps ++ p ∷ []) (us ++ map (with_own_prec p.prec) vs)
UnfoldsEach-push is [] p us vs unfoldings.UnfoldsEach.no_alternative f = unfoldings.UnfoldsEach.alternative (sym (append-nil (map (with_own_prec p.prec) vs))) f unfoldings.UnfoldsEach.no_alternative
UnfoldsEach-push is (q ∷ ps) p us vs (unfoldings.UnfoldsEach.alternative {us = firsts} {vs = rests} e g r) f = unfoldings.UnfoldsEach.alternative (ap (λ l. l ++ map (with_own_prec p.prec) vs) e ∙ append_assoc (map (with_own_prec q.prec) firsts) rests (map (with_own_prec p.prec) vs)) g (UnfoldsEach-push is ps p rests vs r f)
