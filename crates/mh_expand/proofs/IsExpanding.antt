-- Lemmas on the loop that expands the instances.
use Rattle.std.proofs.Common.{◌≡◌, ℕ, zero, suc, ◌+◌, ◌<◌, ◌≤◌, ◌⊎◌, List, [], ◌∷◌, ◌++◌, Option, Some, None, map, flat_map, length, take, get_or, sym, ap, ◌∙◌, arith, append_assoc, inl, inr}
use Rattle.std.specs.List.{slice_get, Contains}
use Rattle.std.specs.Option.{option_map}
use Rattle.std.proofs.lemmas.Bool.{cases_lt, cases_eq}
use Rattle.std.proofs.lemmas.List.{append-nil, length-map, length_push, take-append-le, take_all}
use Rattle.std.proofs.lemmas.List.Elements.{Contains-append_left, Contains-append_right, Contains-append_cases}
use Rattle.std.proofs.lemmas.Grind.{flat_map-append}
use Rattle.std.proofs.lemmas.Option.{slice_get-map, slice_get-get_or, slice_get_within, get_or_from_slice_get}
use Rattle.mh_grammar.proofs.Lists.{contains_flat_map, contains_here, contains_none, contains_push, flat_map_contains, take_step, zip_push, zip_weaker}
use Rattle.mh_grammar.specs.Numbering.{AreDistinct, AreNumbersOf}
use Rattle.mh_grammar.proofs.NumberingInvariant.{get_left, contains_at, at_contains}
use Rattle.mh_rules.specs.declared.joined.Head.{Head}
use Rattle.mh_rules.specs.declared.joined.Head.TheVariants.{Formal, Token, Rule}
use Rattle.mh_rules.specs.declared.joined.JoinedRule.{JoinedRule}
use Rattle.mh_rules.specs.declared.joined.Joined.{Joined}
use Rattle.mh_expand.specs.declared.fault.ExpandFault.{ExpandFault}
use Rattle.mh_rules.specs.declared.instances.Instance.{Instance}
use Rattle.mh_rules.specs.declared.instances.Expanded.{Expanded}
use Rattle.mh_expand.specs.declared.fault.ExpandFault.TheVariants.{Arity, Expansion}
use Rattle.mh_expand.specs.Terms.{Term, head_of, head_name, arguments, text}
use Rattle.mh_expand.specs.Expansion as expansion
use Rattle.mh_expand.specs.Expansion.{IsInstance, IsRule, TakesArguments, HasRightArity, IsNewInstance, IsFault, HasNoFault, IsReached, IsFindingOrder, found_terms, IsFirstFaultIn, IsFirstFault, IsMemoryOr, producers_of, alternatives_of, start_term, start_terms, IsProduction, IsInstanceOf, IsExpanded}
use Rattle.mh_expand.specs.code.SharedTerms.{term_at, terms_at}
use Rattle.mh_expand.specs.code.InstanceSearch.{AreFound, IsInstanceSearch, IsExpandable, FindsInstance, FindsStarts, AreRanks, IsPrefixOf, IsExpanding}
use Rattle.mh_expand.proofs.AreFound.{AreFound-none, HasNoFault-none, IsMemoryOr-weaker}
use Rattle.mh_expand.proofs.FindsTerms.{IsPrefixOf-found, IsProduction-kept}
use Rattle.mh_expand.proofs.AreRanks.{AreRanks-grows}

-- A head takes n arguments or does not.
takes_or : (j : Joined) (h : Head) (n : ℕ) → TakesArguments j h n ⊎ (TakesArguments j h n → ⊥)
takes_or j (Formal k) n = inr (λ x. x)
takes_or j (Token z) n = cases_eq n 0
takes_or j (Rule r) n = go (slice_get j.rules r)
  where
    go : (o : Option JoinedRule) → (option_map (λ (q : JoinedRule). q.formals) o ≡ Some n) ⊎ (option_map (λ (q : JoinedRule). q.formals) o ≡ Some n → ⊥)
    go None = inr (λ e. cc)
    go (Some q) = elim (cases_eq q.formals n) [ inl e ↦ inl (ap Some e) | inr f ↦ inr (λ e. let g : q.formals ≡ n = cc in f g) ]

pub right_arity_or_not : (j : Joined) (t : Term) → HasRightArity j t ⊎ (HasRightArity j t → ⊥)
right_arity_or_not j t = takes_or j (head_of t) (length (arguments t))

-- An instance among found terms without a fault can be expanded.
pub IsExpandable-found : (j : Joined) (before ts : List Term) → HasNoFault j before → AreFound before ts → (k : ℕ) (t : Term) → slice_get ts k ≡ Some t → IsExpandable j t
IsExpandable-found j before ts clear found k t e =
    let s = found.each k t e in
    let fits : HasRightArity j t = elim (right_arity_or_not j t) [ inl f ↦ f | inr f ↦ absurd (clear s.prefix s.suffix t (expansion_arity j t) s.split (expansion.IsFault.count f)) ] in
    record {
      instance = s.instance;
      right_arity = fits;
      short_name = elim (cases_lt 1000 (length (text j t))) [
        | inl l ↦ absurd (clear s.prefix s.suffix t (expansion_long j t) s.split (expansion.IsFault.long fits (record { instance = s.instance; new = λ c. s.new (s.others t c s.instance) }) l))
        | inr l ↦ l
      ];
    }
  where
    expansion_arity : (j : Joined) (t : Term) → ExpandFault
    expansion_arity j t = Arity (text j t)

    expansion_long : (j : Joined) (t : Term) → ExpandFault
    expansion_long j t = Expansion (head_name j (head_of t))

pub found_terms-none : (j : Joined) → found_terms j [] ≡ start_terms j
found_terms-none j = append-nil (start_terms j)

pub found_terms-push : (j : Joined) (ts : List Term) (t : Term) → found_terms j (ts ++ t ∷ []) ≡ found_terms j ts ++ producers_of j t
found_terms-push j ts t =
    ap (λ l. start_terms j ++ l) (flat_map-append (producers_of j) ts (t ∷ []) ∙ ap (λ l. flat_map (producers_of j) ts ++ l) (append-nil (producers_of j t)))
    ∙ sym (append_assoc (start_terms j) (flat_map (producers_of j) ts) (producers_of j t))

pub found_terms_reached : (j : Joined) (ts : List Term) → ((t : Term) → Contains ts t → IsReached j t) → (x : Term) → Contains (found_terms j ts) x → IsInstance x → IsReached j x
found_terms_reached j ts h x c i = elim (Contains-append_cases (start_terms j) (flat_map (producers_of j) ts) x c) [
  | inl d ↦ expansion.IsReached.start d
  | inr d ↦ (let r = flat_map_contains (producers_of j) ts x d in expansion.IsReached.producer (h r.0 r.1) r.2 i)
]

pub finding_order_reached : (j : Joined) (ts : List Term) → IsFindingOrder j ts → (t : Term) → Contains ts t → IsReached j t
finding_order_reached j [] expansion.IsFindingOrder.none t c = absurd (contains_none t c)
finding_order_reached j ts (expansion.IsFindingOrder.more {ts = us} {t = x} before after a split i new others) t c = elim (contains_push us x t c) [
  | inl d ↦ finding_order_reached j us a t d
  | inr e ↦ rw e (found_terms_reached j us (finding_order_reached j us a) x (rw split (Contains-append_right before (x ∷ after) x (contains_here x after))) i)
]

pub start_rule : (j : Joined) (t : Term) → Contains (start_terms j) t → IsInstance t
start_rule j t c = let at = at_contains (start_terms j) t c in go j.starts at.0 at.1
  where
    go : (rs : List ℕ) (i : ℕ) → slice_get (map start_term rs) i ≡ Some t → IsInstance t
    go [] i e = cc
    go (r ∷ rs) zero e = let same : start_term r ≡ t = cc in rw (← same) tt
    go (r ∷ rs) (suc i) e = go rs i e

pub reached_found : (j : Joined) (ts : List Term) → AreFound (found_terms j ts) ts → (t : Term) → IsReached j t → Contains ts t
reached_found j ts a t (expansion.IsReached.start c) = a.all t (Contains-append_left (start_terms j) (flat_map (producers_of j) ts) t c) (start_rule j t c)
reached_found j ts a x (expansion.IsReached.producer {t} r c i) =
    a.all x (Contains-append_right (start_terms j) (flat_map (producers_of j) ts) x (contains_flat_map (producers_of j) ts t x (reached_found j ts a t r) c)) i

pub IsInstanceSearch-none : (j : Joined) (ts : List Term) → IsInstanceSearch j [] ts []
IsInstanceSearch-none j ts = record { below = λ k d l. absurd (omega arith); clear = HasNoFault-none j; found = AreFound-none }

pub IsExpanding-start : (j : Joined) (ts us : List Term) (numbers starts : List ℕ) (rank : ℕ → Option ℕ) → AreDistinct us → length numbers ≤ 20000 → FindsStarts j ts us [] numbers starts → AreRanks j.on_error ts rank → IsExpanding j us numbers [] rank
IsExpanding-start j ts us numbers starts rank distinct few w r = record {
  few = few;
  within = omega arith;
  search = rw (found_terms-none j) w.terms_found.search;
  order = expansion.IsFindingOrder.none;
  each = tt;
  ranks = AreRanks-grows j.on_error ts us rank distinct w.terms_found.terms r;
}

IsInstanceOf-kept : (j : Joined) (xs ys : List Term) → IsPrefixOf xs ys → (t : Term) (i : Instance) → IsInstanceOf j xs t i → IsInstanceOf j ys t i
IsInstanceOf-kept j xs ys l t i w = record {
  name = w.name;
  inlined = w.inlined;
  on_error = w.on_error;
  productions = zip_weaker (IsProduction xs t) (IsProduction ys t) (IsProduction-kept xs ys l t) (alternatives_of j t) i.productions w.productions;
}

pub AreNumbersOf-longer : (xs ys : List Term) → IsPrefixOf xs ys → (ns : List ℕ) (ts : List Term) → AreNumbersOf xs ns ts → AreNumbersOf ys ns ts
AreNumbersOf-longer xs ys l ns ts w = zip_weaker (λ n x. slice_get xs n ≡ Some x) (λ n x. slice_get ys n ≡ Some x) (λ n x e. rw l.longer (get_left xs l.more n x e)) ns ts w

module _ (j : Joined) (ts : List Term) (numbers : List ℕ) (instances : List Instance) (rank : ℕ → Option ℕ) (w : IsExpanding j ts numbers instances rank) where
  module _ (l : length instances < length numbers) where
    next : Term
    next = term_at ts (get_or numbers (length instances) 0)

    next_here : slice_get (terms_at ts numbers) (length instances) ≡ Some next
    unfolding next
    next_here = slice_get-map (term_at ts) numbers (length instances) ∙ ap (option_map (term_at ts)) (slice_get-get_or numbers (length instances) 0 l)

    pub fit_next : IsExpandable j (term_at ts (get_or numbers (length instances) 0))
    unfolding next
    fit_next = IsExpandable-found j (found_terms j (take (length instances) (terms_at ts numbers))) (terms_at ts numbers) w.search.clear w.search.found (length instances) next next_here

    first_next : IsFindingOrder j (take (length instances) (terms_at ts numbers) ++ next ∷ [])
    first_next =
        let s = w.search.found.each (length instances) next next_here in
        expansion.IsFindingOrder.more s.prefix s.suffix w.order s.split s.instance s.new s.others

    pub fault_next : (e : ExpandFault) → IsMemoryOr (IsFirstFaultIn j (found_terms j (take (length instances) (terms_at ts numbers)) ++ producers_of j (term_at ts (get_or numbers (length instances) 0)))) e → IsMemoryOr (IsFirstFault j) e
    unfolding next
    fault_next e c = IsMemoryOr-weaker (IsFirstFaultIn j (found_terms j (take (length instances) (terms_at ts numbers)) ++ producers_of j next)) (IsFirstFault j) (λ x f. record {
      found = take (length instances) (terms_at ts numbers) ++ next ∷ [];
      order = first_next;
      fails = rw (found_terms-push j (take (length instances) (terms_at ts numbers)) next) f;
    }) e c

    pub IsExpanding-step : (us : List Term) (new : List ℕ) (i : Instance) → AreDistinct us → length new ≤ 20000 → FindsInstance j (found_terms j (take (length instances) (terms_at ts numbers))) ts us numbers new (term_at ts (get_or numbers (length instances) 0)) i → IsExpanding j us new (instances ++ i ∷ []) rank
    unfolding next
    IsExpanding-step us new i distinct few v =
        let old_terms = terms_at ts numbers in
        let new_terms = terms_at us new in
        let n = length instances in
        let longer = IsPrefixOf-found ts us numbers new w.search.below v.terms_found.terms v.terms_found.numbers in
        let len : length old_terms ≡ length numbers = length-map numbers (term_at ts) in
        let count : length (instances ++ i ∷ []) ≡ n + 1 = length_push instances i in
        let front : take n new_terms ≡ take n old_terms = rw longer.longer (take-append-le n old_terms longer.more (omega arith)) in
        let here : slice_get new_terms n ≡ Some next = rw longer.longer (get_left old_terms longer.more n next next_here) in
        let m : n < length new_terms = slice_get_within new_terms n next here in
        let all : take (length (instances ++ i ∷ [])) new_terms ≡ take n old_terms ++ next ∷ [] =
        ap (λ k. take k new_terms) count ∙ take_step new_terms n next m (sym (get_or_from_slice_get new_terms n next next here)) ∙ ap (λ xs. xs ++ next ∷ []) front in
        record {
          few = few;
          within = omega (arith, count, length-map new (term_at us));
          search = rw (all, found_terms-push j (take n old_terms) next) v.terms_found.search;
          order = rw all first_next;
          each = rw all (zip_push (IsInstanceOf j new_terms) (take n old_terms) instances next i (zip_weaker (IsInstanceOf j old_terms) (IsInstanceOf j new_terms) (IsInstanceOf-kept j old_terms new_terms longer) (take n old_terms) instances w.each) v.is_instance);
          ranks = AreRanks-grows j.on_error ts us rank distinct v.terms_found.terms w.ranks;
        }

  -- When all instances are expanded, the result is the expansion.
  pub IsExpanded-done : (e : Expanded) → length numbers ≤ length instances → AreNumbersOf (terms_at ts numbers) e.starts (start_terms j) → e.tokens ≡ j.tokens → e.instances ≡ instances → IsExpanded j e
  IsExpanded-done e l named tokens instances_are =
      let all : take (length instances) (terms_at ts numbers) ≡ terms_at ts numbers = take_all (length instances) (terms_at ts numbers) (omega (arith, length-map numbers (term_at ts))) in
      let search : IsInstanceSearch j (found_terms j (terms_at ts numbers)) ts numbers = rw all at w.search in
      let order : IsFindingOrder j (terms_at ts numbers) = rw all at w.order in
      record {
        tokens = tokens;
        terms = terms_at ts numbers;
        exact = λ t. (finding_order_reached j (terms_at ts numbers) order t, reached_found j (terms_at ts numbers) search.found t);
        order = order;
        starts = named;
        each = rw instances_are (rw all at w.each);
        no_fault = search.clear;
      }

-- The first fault of the start terms is the first fault of the expansion.
pub IsFirstFault-start : (j : Joined) (e : ExpandFault) → IsMemoryOr (IsFirstFaultIn j (start_terms j)) e → IsMemoryOr (IsFirstFault j) e
IsFirstFault-start j e c = IsMemoryOr-weaker (IsFirstFaultIn j (start_terms j)) (IsFirstFault j) (λ x f. record { found = []; order = expansion.IsFindingOrder.none; fails = rw (found_terms-none j) f }) e c

pub IsPrefixOf-refl : (xs : List Term) → IsPrefixOf xs xs
IsPrefixOf-refl xs = record { more = []; longer = sym (append-nil xs) }

pub IsPrefixOf-trans : (xs ys zs : List Term) → IsPrefixOf xs ys → IsPrefixOf ys zs → IsPrefixOf xs zs
IsPrefixOf-trans xs ys zs l m = record { more = l.more ++ m.more; longer = m.longer ∙ ap (λ v. v ++ m.more) l.longer ∙ append_assoc xs l.more m.more }
