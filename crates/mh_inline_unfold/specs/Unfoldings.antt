-- Unfoldings: the results of replacing each inline producer by one of its own alternatives, themselves fully inlined
-- (Menhir manual, %inline).
use Rattle.std.specs.Prelude.{◌≡◌, ℕ, true, List, [], ◌∷◌, ◌++◌, Some, slice_get, map}
use Rattle.mh_rules.specs.declared.joined.Prec.{Prec}
use Rattle.mh_rules.specs.declared.joined.Prec.TheVariants.{Absent, Given}
use Rattle.mh_rules.specs.declared.instances.Part.{Part}
use Rattle.mh_rules.specs.declared.instances.Part.TheVariants.{Instance as Applied}
use Rattle.mh_rules.specs.declared.instances.InstanceProduction.{InstanceProduction}
use Rattle.mh_rules.specs.declared.instances.Instance.{Instance}
use Rattle.mh_inline_unfold.specs.declared.unfolding.Unfolding.{Unfolding}
use Rattle.mh_inline_unfold.specs.Instances.{IsKept}

-- The %prec further to the right, if it is given, else the other.
abbrev pub rightmost : Prec → Prec → Prec
rightmost p Absent = p
rightmost p (Given level) = Given level

abbrev pub empty_unfolding : Unfolding
empty_unfolding = record { rhs = []; prec = Absent }

abbrev pub unfolding_of_part : Part → Unfolding
unfolding_of_part X = record { rhs = X ∷ []; prec = Absent }

-- The concatenation of two unfoldings.
abbrev pub joined : Unfolding → Unfolding → Unfolding
joined u v = record { rhs = u.rhs ++ v.rhs; prec = rightmost u.prec v.prec }

-- The unfolding of the producers of an alternative, with the %prec of the alternative, which overrides those inlined.
abbrev pub with_own_prec : Prec → Unfolding → Unfolding
with_own_prec prec u = record { rhs = u.rhs; prec = rightmost u.prec prec }

-- The concatenations of each unfolding of the first list with each of the second; the choice from the first list varies
-- slowest.
abbrev pub choices : List Unfolding → List Unfolding → List Unfolding
choices [] vs = []
choices (u ∷ us) vs = map (joined u) vs ++ choices us vs

-- The lists of all unfoldings of a producer, of a list of producers, and of a list of alternatives, in order. A
-- producer that is not inline has itself as its only unfolding; an inline one has those of its alternatives.
mutual
  pub data UnfoldsPart (is : List Instance) : Part → List Unfolding → Type 0 where
    kept : {X : Part} → IsKept is X → UnfoldsPart is X (unfolding_of_part X ∷ [])
    inlined : {n : ℕ} {i : Instance} {us : List Unfolding} → slice_get is n ≡ Some i → i.inlined ≡ true → UnfoldsEach is i.productions us → UnfoldsPart is (Applied n) us

  pub data Unfolds (is : List Instance) : List Part → List Unfolding → Type 0 where
    none : Unfolds is [] (empty_unfolding ∷ [])
    more : {X : Part} {Xs : List Part} {us vs ws : List Unfolding} → ws ≡ choices us vs → UnfoldsPart is X us → Unfolds is Xs vs → Unfolds is (X ∷ Xs) ws

  pub data UnfoldsEach (is : List Instance) : List InstanceProduction → List Unfolding → Type 0 where
    no_alternative : UnfoldsEach is [] []
    alternative : {p : InstanceProduction} {ps : List InstanceProduction} {us vs ws : List Unfolding} → ws ≡ map (with_own_prec p.prec) us ++ vs → Unfolds is p.rhs us → UnfoldsEach is ps vs → UnfoldsEach is (p ∷ ps) ws
