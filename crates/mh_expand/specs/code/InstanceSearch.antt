-- The invariants of the search for instances.
use Rattle.std.specs.Prelude.{◌≡◌, ◌<◌, ◌≤◌, ℕ, List, [], ◌∷◌, ◌++◌, Option, Some, None, flat_map, length, take, slice_get}
use Rattle.std.specs.List.{All, AllZip, Contains}
use Rattle.mh_grammar.specs.Numbering.{AreDistinct, AreNumbersOf}
use Rattle.mh_rules.specs.declared.joined.Joined.{Joined}
use Rattle.mh_rules.specs.Limits.{max_instances}
use Rattle.mh_rules.specs.declared.instances.Part.{Part}
use Rattle.mh_expand.specs.Limits.{max_name}
use Rattle.mh_expand.specs.Terms.{Term, text}
use Rattle.mh_rules.specs.declared.joined.Applied.{Applied}
use Rattle.mh_rules.specs.declared.joined.JoinedAlternative.{JoinedAlternative}
use Rattle.mh_rules.specs.declared.instances.InstanceProduction.{InstanceProduction}
use Rattle.mh_rules.specs.declared.instances.Instance.{Instance}
use Rattle.mh_expand.specs.declared.fault.ExpandFault.{ExpandFault}
use Rattle.mh_expand.specs.Expansion.{IsInstance, HasNoFault, HasRightArity, IsFault, IsMemoryOr, IsPart, right_side, producers_of, start_terms, found_terms, IsFindingOrder, Declares, IsOnErrorRank, IsProduction, IsInstanceOf}
use Rattle.mh_expand.specs.code.SharedTerms.{terms_at, IsExtendedBy}

-- The first occurrence of the instance t in the list `before`: all instances in front of it are among the earlier
-- instances, and t is not.
pub record IsFirstOccurrence (before earlier : List Term) (t : Term) : Type 0 where
  pub prefix : List Term
  pub suffix : List Term
  pub split : before ≡ prefix ++ t ∷ suffix
  pub instance : IsInstance t
  pub new : Contains earlier t → ⊥
  pub others : (x : Term) → Contains prefix x → IsInstance x → Contains earlier x

-- The terms ts are the instances in the list `before`, in order of first occurrence.
pub record AreFound (before ts : List Term) : Type 0 where
  pub all : (x : Term) → Contains before x → IsInstance x → Contains ts x
  pub each : (k : ℕ) (t : Term) → slice_get ts k ≡ Some t → IsFirstOccurrence before (take k ts) t
  pub distinct : AreDistinct ts

-- No term found so far has a fault, and the numbers are those of the instances found.
pub record IsInstanceSearch (j : Joined) (before ts : List Term) (numbers : List ℕ) : Type 0 where
  pub below : All (λ n. n < length ts) numbers
  pub clear : HasNoFault j before
  pub found : AreFound before (terms_at ts numbers)

-- The text, or none if the text has more than the given number of bytes.
abbrev pub IsTextWithin : ℕ → List ℕ → Option (List ℕ) → Type 0
IsTextWithin most text None = most < length text
IsTextWithin most text (Some name) = (name ≡ text) × (length text ≤ most)

-- The term t, found after the terms `before`, has no fault. The search now has the instances `new`, and p refers to t:
-- by its token, or by the number of its instance.
pub record FindsTerm (j : Joined) (before ts : List Term) (t : Term) (old new : List ℕ) (p : Part) : Type 0 where
  pub search : IsInstanceSearch j (before ++ t ∷ []) ts new
  pub part : IsPart (terms_at ts new) t p
  pub grows : (more : List ℕ) × (new ≡ old ++ more)

-- Whatever terms were found before t, if the search has the instances `old` after these terms: t has no fault, the
-- search then has the instances `new`, and p refers to t.
abbrev pub FindsTermForAllBefore : (j : Joined) (ts : List Term) (t : Term) (old new : List ℕ) (p : Part) → Type 0
FindsTermForAllBefore j ts t old new p = (before : List Term) → IsInstanceSearch j before ts old → FindsTerm j before ts t old new p

-- Whatever terms were found before t, if the search has the instances `old` after these terms: t has this fault, or
-- memory ran out.
abbrev pub IsMemoryOrFaultForAllBefore : (j : Joined) (ts : List Term) (t : Term) (old : List ℕ) (fault : ExpandFault) → Type 0
IsMemoryOrFaultForAllBefore j ts t old fault = (before : List Term) → IsInstanceSearch j before ts old → IsMemoryOr (IsFault j before t) fault

-- The terms `seen`, found after the terms `before`, have no fault; the terms and the instances may have grown.
pub record FindsTerms (j : Joined) (before seen ts us : List Term) (old new : List ℕ) : Type 0 where
  pub terms : IsExtendedBy ts us
  pub numbers : (more : List ℕ) × (new ≡ old ++ more)
  pub search : IsInstanceSearch j (before ++ seen) us new

-- All producers of an alternative have been found, and p is its production.
pub record FindsAlternative (j : Joined) (before ts us : List Term) (old new : List ℕ) (t : Term) (a : JoinedAlternative) (p : InstanceProduction) : Type 0 where
  pub terms_found : FindsTerms j before (right_side t a) ts us old new
  pub is_production : IsProduction (terms_at us new) t a p

-- All producers of these alternatives have been found, and these are their productions.
pub record FindsAlternatives (j : Joined) (before ts us : List Term) (old new : List ℕ) (t : Term) (alternatives : List JoinedAlternative) (productions : List InstanceProduction) : Type 0 where
  pub terms_found : FindsTerms j before (flat_map (right_side t) alternatives) ts us old new
  pub are_productions : AllZip (IsProduction (terms_at us new) t) alternatives productions

-- All producers of an instance have been found, and i is the instance.
pub record FindsInstance (j : Joined) (before ts us : List Term) (old new : List ℕ) (t : Term) (i : Instance) : Type 0 where
  pub terms_found : FindsTerms j before (producers_of j t) ts us old new
  pub is_instance : IsInstanceOf j (terms_at us new) t i

-- The start symbols have been found, and these are their numbers.
pub record FindsStarts (j : Joined) (ts us : List Term) (old new starts : List ℕ) : Type 0 where
  pub terms_found : FindsTerms j [] (start_terms j) ts us old new
  pub are_starts : AreNumbersOf (terms_at us new) starts (start_terms j)

-- The ranks are those of the declarations: each term that a declaration names is in the list and has the number of the
-- first such declaration, and no other term has a rank.
pub record AreRanks (ds : List (List Applied)) (ts : List Term) (rank : ℕ → Option ℕ) : Type 0 where
  pub each : (n : ℕ) (t : Term) → slice_get ts n ≡ Some t → IsOnErrorRank ds t (rank n)
  pub named : (k : ℕ) (d : List Applied) (t : Term) → slice_get ds k ≡ Some d → Declares d t → Contains ts t
  pub below : (n r : ℕ) → rank n ≡ Some r → n < length ts

-- The rank has been recorded for this number, unless it had a rank before.
pub record AddsRank (old new : ℕ → Option ℕ) (number rank : ℕ) : Type 0 where
  pub fresh : old number ≡ None → new number ≡ Some rank
  pub kept : (r : ℕ) → old number ≡ Some r → new number ≡ Some r
  pub others : (n : ℕ) → (n ≡ number → ⊥) → new n ≡ old n

-- An instance without a fault, other than the limit on the number of instances.
pub record IsExpandable (j : Joined) (t : Term) : Type 0 where
  pub instance : IsInstance t
  pub right_arity : HasRightArity j t
  pub short_name : length (text j t) ≤ max_name

-- The list ys is the list xs with more terms appended.
pub record IsPrefixOf (xs ys : List Term) : Type 0 where
  pub more : List Term
  pub longer : ys ≡ xs ++ more

-- The invariant of the loop over the instances: the instances expanded so far are right for a prefix of the terms
-- found.
pub record IsExpanding (j : Joined) (ts : List Term) (numbers : List ℕ) (instances : List Instance) (rank : ℕ → Option ℕ) : Type 0 where
  pub few : length numbers ≤ max_instances
  pub within : length instances ≤ length numbers
  pub search : IsInstanceSearch j (found_terms j (take (length instances) (terms_at ts numbers))) ts numbers
  pub order : IsFindingOrder j (take (length instances) (terms_at ts numbers))
  pub each : AllZip (IsInstanceOf j (terms_at ts numbers)) (take (length instances) (terms_at ts numbers)) instances
  pub ranks : AreRanks j.on_error ts rank

-- All instances have been expanded.
pub record AreExpanded (j : Joined) (ts us : List Term) (old new : List ℕ) (instances : List Instance) (rank : ℕ → Option ℕ) : Type 0 where
  pub expanding : IsExpanding j us new instances rank
  pub done : length new ≤ length instances
  pub longer : IsPrefixOf (terms_at ts old) (terms_at us new)
