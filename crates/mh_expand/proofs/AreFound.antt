-- Lemmas on the list of found instances after one more term.
use Rattle.std.proofs.Common.{◌≡◌, ℕ, suc, ◌<◌, ◌≤◌, ◌⊎◌, List, [], ◌∷◌, ◌++◌, Option, Some, None, length, take, get_or, refl, sym, ap, ◌∙◌, arith, append_assoc, inl, inr}
use Rattle.std.specs.List.{slice_get, All, Contains}
use Rattle.std.specs.Option.{option_map}
use Rattle.std.proofs.lemmas.Option.{slice_get-map, slice_get_within, slice_get-get_or}
use Rattle.std.proofs.lemmas.List.{map-append, length-map, take-append-le, append-nil}
use Rattle.std.proofs.lemmas.List.Elements.{All-push, Contains-append_left, Contains-append_right}
use Rattle.std.proofs.lemmas.Bool.{cases_lt}
use Rattle.std.proofs.Math.Seq.{take-append_seam}
use Rattle.mh_grammar.proofs.Lists.{contains_here, contains_last, contains_none, contains_push, option_map_some, split_push}
use Rattle.mh_grammar.specs.Numbering.{AreDistinct}
use Rattle.mh_grammar.proofs.NumberingInvariant.{get_last, get_cases, contains_at, at_contains, AreDistinct-push}
use Rattle.mh_grammar.proofs.Pigeonhole.{length-distinct_in}
use Rattle.mh_rules.specs.declared.joined.Joined.{Joined}
use Rattle.mh_expand.specs.declared.fault.ExpandFault.{ExpandFault}
use Rattle.mh_expand.specs.Terms.{Term, Atom, head_of, head_name, text}
use Rattle.mh_rules.specs.declared.joined.Head.TheVariants.{Token}
use Rattle.mh_expand.specs.Expansion as expansion
use Rattle.mh_expand.specs.Expansion.{IsInstance, IsNewInstance, HasMaxInstances, IsFault, HasNoFault, HasRightArity, IsMemoryOr}
use Rattle.mh_rules.specs.declared.instances.Part.TheVariants as parts
use Rattle.mh_expand.specs.declared.fault.ExpandFault.TheVariants.{Arity, Expansion, Memory}
use Rattle.mh_expand.specs.code.SharedTerms.{term_at, terms_at}
use Rattle.mh_expand.specs.code.InstanceSearch.{IsFirstOccurrence, AreFound, IsInstanceSearch, IsTextWithin, FindsTerm}
use Rattle.mh_expand.proofs.SharedTerms.{slice_get-term_at, term_at-slice_get}

pub HasNoFault-none : (j : Joined) → HasNoFault j []
HasNoFault-none j [] after t e s f = cc
HasNoFault-none j (x ∷ before) after t e s f = cc

pub HasNoFault-push : (j : Joined) (before : List Term) (t : Term) → HasNoFault j before → ((e : ExpandFault) → IsFault j before t e → ⊥) → HasNoFault j (before ++ t ∷ [])
HasNoFault-push j before t c h front behind x e s f = elim (split_push before t front x behind s) [
  | inl l ↦ h e (rw (l.0, l.1) f)
  | inr r ↦ c front r.0 x e r.1 f
]

pub IsFirstOccurrence-push : (before earlier : List Term) (t x : Term) → IsFirstOccurrence before earlier t → IsFirstOccurrence (before ++ x ∷ []) earlier t
IsFirstOccurrence-push before earlier t x s = record {
  prefix = s.prefix;
  suffix = s.suffix ++ x ∷ [];
  split = ap (λ l. l ++ x ∷ []) s.split ∙ append_assoc s.prefix (t ∷ s.suffix) (x ∷ []);
  instance = s.instance;
  new = s.new;
  others = s.others;
}

pub AreFound-none : AreFound [] []
AreFound-none = record {
  all = λ x c i. absurd (contains_none x c);
  each = λ k t e. cc;
  distinct = record { same = λ i j x e f. cc };
}

pub AreFound-same : (before fs : List Term) (t : Term) → AreFound before fs → (IsInstance t → Contains fs t) → AreFound (before ++ t ∷ []) fs
AreFound-same before fs t a h = record {
  all = λ x c i. elim (contains_push before t x c) [ inl l ↦ a.all x l i | inr e ↦ rw e (h (rw e at i)) ];
  each = λ k x e. IsFirstOccurrence-push before (take k fs) x t (a.each k x e);
  distinct = a.distinct;
}

pub AreFound-new : (before fs : List Term) (t : Term) → AreFound before fs → IsInstance t → (Contains fs t → ⊥) → AreFound (before ++ t ∷ []) (fs ++ t ∷ [])
AreFound-new before fs t a i new = record {
  all = λ x c n. elim (contains_push before t x c) [ inl l ↦ Contains-append_left fs (t ∷ []) x (a.all x l n) | inr e ↦ rw e (contains_last fs t) ];
  each = λ k x e. elim (get_cases fs t k x e) [
    | inl old ↦ (let l = slice_get_within fs k x old in
        rw (take-append-le k fs (t ∷ []) (omega arith)) (IsFirstOccurrence-push before (take k fs) x t (a.each k x old)))
    | inr last ↦ rw (last.0, last.1, take-append_seam fs (t ∷ [])) (record {
      prefix = before;
      suffix = [];
      split = refl;
      instance = i;
      new = new;
      others = a.all;
    })
  ];
  distinct = AreDistinct-push fs t a.distinct new;
}

-- Each of the found instances is an instance and occurs among the found terms.
pub found_is_earlier_instance : (before fs : List Term) (t : Term) → AreFound before fs → Contains fs t → Contains before t × IsInstance t
found_is_earlier_instance before fs t a c =
    let at = at_contains fs t c in
    let s = a.each at.0 t at.1 in
    (rw s.split (Contains-append_right s.prefix (t ∷ s.suffix) t (contains_here t s.suffix)), s.instance)

-- If the limit is reached, there are at least 20,000 found instances.
pub max_instances_found : (before fs : List Term) → AreFound before fs → HasMaxInstances before → 20000 ≤ length fs
max_instances_found before fs a f =
    let le = length-distinct_in fs f.terms f.distinct (λ x c. let w = f.found c.0 x c.1 in a.all x (rw c.2 at w).0 (rw c.2 at w).1) in
    omega (arith, le, f.count)

-- Lemmas on the term t with the given number in a list of different terms.
module _ (ts : List Term) (d : AreDistinct ts) (number : ℕ) (t : Term) (here : slice_get ts number ≡ Some t) (numbers : List ℕ) (below : All (λ n. n < length ts) numbers) where
  pub number_in : Contains (terms_at ts numbers) t → Contains numbers number
  number_in c =
      let at = at_contains (terms_at ts numbers) t c in
      let n = option_map_some (term_at ts) (slice_get numbers at.0) t (sym (slice_get-map (term_at ts) numbers at.0) ∙ at.1) in
      let in_list = contains_at numbers at.0 n.0 n.1 in
      let l : n.0 < length ts = rw in_list.2 at (below in_list.0 n.0 in_list.1) in
      let same : n.0 ≡ number = d.same n.0 number t (slice_get-term_at ts n.0 l ∙ ap Some n.2) here in
      rw same at in_list

  pub term_in : (at : ℕ) → slice_get numbers at ≡ Some number → slice_get (terms_at ts numbers) at ≡ Some t
  term_in at e = slice_get-map (term_at ts) numbers at ∙ ap (option_map (term_at ts)) e ∙ ap Some (term_at-slice_get ts number t here)

  module _ (j : Joined) (before : List Term) (s : IsInstanceSearch j before ts numbers) (fits : HasRightArity j t) where
    -- A term that was found before leaves the list of instances unchanged.
    pub FindsTerm-old : (at : ℕ) → slice_get numbers at ≡ Some number → FindsTerm j before ts t numbers numbers (parts.Instance at)
    FindsTerm-old at e =
        let c = contains_at (terms_at ts numbers) at t (term_in at e) in
        record {
          search = record {
            below = s.below;
            clear = HasNoFault-push j before t s.clear (known c);
            found = AreFound-same before (terms_at ts numbers) t s.found (λ i. c);
          };
          part = term_in at e;
          grows = ([], sym (append-nil numbers));
        }
      where
        known : Contains (terms_at ts numbers) t → (e : ExpandFault) → IsFault j before t e → ⊥
        known c e (expansion.IsFault.count f) = f fits
        known c e (expansion.IsFault.long f n l) = n.new (found_is_earlier_instance before (terms_at ts numbers) t s.found c).0
        known c e (expansion.IsFault.full f n l) = n.new (found_is_earlier_instance before (terms_at ts numbers) t s.found c).0

    module _ (instance : IsInstance t) (new : Contains numbers number → ⊥) where
      fresh : Contains (terms_at ts numbers) t → ⊥
      fresh c = new (number_in c)

      is_new : IsNewInstance before t
      is_new = record { instance = instance; new = λ c. fresh (s.found.all t c instance) }

      -- A new instance within the limits is appended to the list of instances.
      pub FindsTerm-new : length numbers < 20000 → length (text j t) ≤ 1000 → FindsTerm j before ts t numbers (numbers ++ number ∷ []) (parts.Instance (length numbers))
      FindsTerm-new few short =
          let all : terms_at ts (numbers ++ number ∷ []) ≡ terms_at ts numbers ++ t ∷ [] = map-append (term_at ts) numbers (number ∷ []) ∙ ap (λ x. terms_at ts numbers ++ x ∷ []) (term_at-slice_get ts number t here) in
          record {
            search = record {
              below = All-push (λ n. n < length ts) numbers number s.below (slice_get_within ts number t here);
              clear = HasNoFault-push j before t s.clear no_fault;
              found = rw all (AreFound-new before (terms_at ts numbers) t s.found instance fresh);
            };
            part = rw all (get_last (terms_at ts numbers) t (length numbers) (sym (length-map numbers (term_at ts))));
            grows = (number ∷ [], refl);
          }
        where
          no_fault : (e : ExpandFault) → IsFault j before t e → ⊥
          no_fault e (expansion.IsFault.count f) = f fits
          no_fault e (expansion.IsFault.long f n l) = omega arith
          no_fault e (expansion.IsFault.full f n l) = omega (arith, max_instances_found before (terms_at ts numbers) s.found l, length-map numbers (term_at ts))

      -- A new instance beyond a limit is a fault.
      pub IsFault-new : length numbers ≤ 20000 → ((length numbers < 20000) × (length (text j t) ≤ 1000) → ⊥) → IsFault j before t (Expansion (head_name j (head_of t)))
      IsFault-new few bad = elim (cases_lt (length numbers) 20000) [
        | inl l ↦ elim (cases_lt 1000 (length (text j t))) [
          | inl m ↦ expansion.IsFault.long fits is_new m
          | inr m ↦ absurd (bad (l, m))
        ]
        | inr l ↦ expansion.IsFault.full fits is_new (record {
          terms = terms_at ts numbers;
          found = λ k d m. found_is_earlier_instance before (terms_at ts numbers) (get_or (terms_at ts numbers) k d) s.found (contains_at (terms_at ts numbers) k (get_or (terms_at ts numbers) k d) (slice_get-get_or (terms_at ts numbers) k d m));
          distinct = s.found.distinct;
          count = omega (arith, length-map numbers (term_at ts));
        })
      ]

-- A token leaves the list of instances unchanged.
pub FindsTerm-token : (j : Joined) (before ts : List Term) (numbers : List ℕ) (z : ℕ) → IsInstanceSearch j before ts numbers → FindsTerm j before ts (Atom (Token z)) numbers numbers (parts.Token z)
FindsTerm-token j before ts numbers z s = record {
  search = record {
    below = s.below;
    clear = HasNoFault-push j before (Atom (Token z)) s.clear no_fault;
    found = AreFound-same before (terms_at ts numbers) (Atom (Token z)) s.found (λ i. absurd i);
  };
  part = refl;
  grows = ([], sym (append-nil numbers));
}
  where
    no_fault : (e : ExpandFault) → IsFault j before (Atom (Token z)) e → ⊥
    no_fault e (expansion.IsFault.count f) = f refl
    no_fault e (expansion.IsFault.long f n l) = n.instance
    no_fault e (expansion.IsFault.full f n l) = n.instance

pub arity_fault : (j : Joined) (before : List Term) (t : Term) (most : ℕ) (name : Option (List ℕ)) (instance : List ℕ) → (HasRightArity j t → ⊥) → IsTextWithin most (text j t) name → name ≡ Some instance → IsMemoryOr (IsFault j before t) (Arity instance)
arity_fault j before t most (Some n) instance count within is =
    let same : Some n ≡ Some instance = is in
    let here : n ≡ instance = cc in
    rw (sym here, within.0) (expansion.IsFault.count count)
arity_fault j before t most None instance count within is = let no : None ≡ Some instance = is in cc

-- If P implies Q, then "P, or memory ran out" implies "Q, or memory ran out".
pub IsMemoryOr-weaker : (P Q : ExpandFault → Type 0) → ((e : ExpandFault) → P e → Q e) → (e : ExpandFault) → IsMemoryOr P e → IsMemoryOr Q e
IsMemoryOr-weaker P Q h (Arity n) c = h (Arity n) c
IsMemoryOr-weaker P Q h (Expansion n) c = h (Expansion n) c
IsMemoryOr-weaker P Q h Memory c = tt
