-- Lemmas for one more producer, alternative or start symbol, and for a fault at it.
use Rattle.std.proofs.Common.{◌≡◌, ℕ, ◌+◌, ◌<◌, ◌≤◌, List, [], ◌∷◌, ◌++◌, Some, map, flat_map, length, take, drop, get_or, suc, sym, ap, ◌∙◌, arith}
use Rattle.std.specs.List.{slice_get, All}
use Rattle.std.proofs.lemmas.List.{map-append}
use Rattle.std.proofs.lemmas.Option.{slice_get_within}
use Rattle.mh_grammar.specs.Numbering.{AreNumbersOf}
use Rattle.mh_grammar.specs.Placed.{Placed}
use Rattle.mh_grammar.proofs.Lists.{get_or_own_default, split_at, take_step, zip_push}
use Rattle.mh_rules.specs.declared.joined.Head.TheVariants.{Rule}
use Rattle.mh_rules.specs.declared.joined.Applied.{Applied}
use Rattle.mh_rules.specs.declared.joined.JoinedAlternative.{JoinedAlternative}
use Rattle.mh_rules.specs.declared.joined.Joined.{Joined}
use Rattle.mh_rules.specs.declared.instances.Part.{Part}
use Rattle.mh_rules.specs.declared.instances.Part.TheVariants.{Instance}
use Rattle.mh_rules.specs.declared.instances.InstanceProduction.{InstanceProduction}
use Rattle.mh_expand.specs.declared.fault.ExpandFault.{ExpandFault}
use Rattle.mh_expand.specs.declared.applications.Application.{Application}
use Rattle.mh_expand.specs.Terms.{Term, Atom, apply_all, arguments, head_of}
use Rattle.mh_expand.specs.Expansion.{IsFault, IsFirstFaultIn, IsMemoryOr, right_side, start_term}
use Rattle.mh_expand.specs.code.SharedTerms.{term_at, terms_at, node_term, IsNode, IsExtendedBy}
use Rattle.mh_expand.specs.code.InstanceSearch.{IsInstanceSearch, FindsTerm, FindsTerms, FindsAlternative, FindsAlternatives}
use Rattle.mh_expand.proofs.ApplyAll.{head_of-apply_all}
use Rattle.mh_expand.proofs.ReplacedActuals.{replaced_term_of, IsExtendedBy-refl, IsExtendedBy-trans, IsExtendedBy-placed}
use Rattle.mh_expand.proofs.SharedTerms.{terms_at-kept, term_at-slice_get}
use Rattle.mh_expand.proofs.FindsTerms.{below-extended, IsPrefixOf-found, IsInstanceSearch-grows, FindsTerms-none, FindsTerms-append, FindsTerms-one, IsFirstFaultIn-here, IsFirstFaultIn-append, FindsProducers, FindsProducers-none, FindsProducers-step, FindsAlternatives-none, FindsAlternatives-step, producer_terms_split, right_sides_split, append_regroup}
use Rattle.mh_expand.proofs.IsExpanding.{AreNumbersOf-longer}

-- PRODUCERS

-- The search has found the terms of these producers: for every list of earlier terms, and for every term with these
-- arguments.
pub record ProducersSoFar (j : Joined) (formals : List ℕ) (ts us : List Term) (old found : List ℕ) (producers : List Applied) (rhs : List Part) : Type 0 where
  pub few : length found ≤ 20000
  pub grows : IsExtendedBy ts us
  pub finds : (before : List Term) (t : Term) → arguments t ≡ terms_at ts formals → IsInstanceSearch j before ts old → FindsProducers j before ts us old found t producers rhs

-- The number of a producer's term, after terms have been appended.
pub record IsNumberOfProducer (formals : List ℕ) (us vs : List Term) (a : Applied) (number : ℕ) : Type 0 where
  pub grows : IsExtendedBy us vs
  pub at : slice_get vs number ≡ Some (replaced_term_of (terms_at us formals) a)

module _ (j : Joined) (formals : List ℕ) (ts : List Term) (old : List ℕ) where
  pub producers_none : length old ≤ 20000 → ProducersSoFar j formals ts ts old old [] []
  producers_none few = record { few = few; grows = IsExtendedBy-refl ts; finds = λ before t e s. FindsProducers-none j before ts old t s }

  module _ (below : All (λ n. n < length ts) formals) (us vs : List Term) (found : List ℕ) (items : List Applied) (i : ℕ) (a : Applied) (rhs : List Part) (number : ℕ) (so_far : ProducersSoFar j formals ts us old found (take i items) rhs) (inside : i < length items) (item : a ≡ get_or items i a) (producer : IsNumberOfProducer formals us vs a number) where
    term_of_number : (t : Term) → arguments t ≡ terms_at ts formals → term_at vs number ≡ replaced_term_of (arguments t) a
    term_of_number t e = term_at-slice_get vs number (replaced_term_of (terms_at us formals) a) producer.at ∙ ap (λ fs. replaced_term_of fs a) (terms_at-kept ts us formals so_far.grows below ∙ sym e)

    pub producers_more : (new : List ℕ) (p : Part) → length new ≤ 20000 → ((before : List Term) → IsInstanceSearch j before vs found → FindsTerm j before vs (term_at vs number) found new p) → ProducersSoFar j formals ts vs old new (take (i + 1) items) (rhs ++ p ∷ [])
    producers_more new p few found_so = record {
      few = few;
      grows = IsExtendedBy-trans ts us vs so_far.grows producer.grows;
      finds = λ before t e s.
          let w = so_far.finds before t e s in
          let here = before ++ map (replaced_term_of (arguments t)) (take i items) in
          let f = rw (term_of_number t e) at (found_so here (IsInstanceSearch-grows j here us vs found w.terms_found.search producer.grows)) in
          rw (take_step items i a inside item) (FindsProducers-step j before ts us vs old found new t (take i items) rhs a p w producer.grows f);
    }

    pub producers_fail : (fault : ExpandFault) → ((before : List Term) → IsInstanceSearch j before vs found → IsMemoryOr (IsFault j before (term_at vs number)) fault) → (before : List Term) (t : Term) → arguments t ≡ terms_at ts formals → IsInstanceSearch j before ts old → IsMemoryOr (IsFirstFaultIn j (before ++ map (replaced_term_of (arguments t)) items)) fault
    producers_fail fault failed before t e s =
        let w = so_far.finds before t e s in
        let side = map (replaced_term_of (arguments t)) (take i items) in
        let f = rw (term_of_number t e) at (failed (before ++ side) (IsInstanceSearch-grows j (before ++ side) us vs found w.terms_found.search producer.grows)) in
        rw (producer_terms_split (arguments t) items i a inside item) (IsFirstFaultIn-here j before side ts us old found (replaced_term_of (arguments t) a) (map (replaced_term_of (arguments t)) (drop (suc i) items)) fault w.terms_found f)

-- ALTERNATIVES

-- The search has found the terms of these alternatives: for every list of earlier terms, and for every term with these
-- arguments.
pub record AlternativesSoFar (j : Joined) (formals : List ℕ) (ts us : List Term) (old found : List ℕ) (alternatives : List JoinedAlternative) (productions : List InstanceProduction) : Type 0 where
  pub few : length found ≤ 20000
  pub grows : IsExtendedBy ts us
  pub finds : (before : List Term) (t : Term) → arguments t ≡ terms_at ts formals → IsInstanceSearch j before ts old → FindsAlternatives j before ts us old found t alternatives productions

module _ (j : Joined) (formals : List ℕ) (ts : List Term) (old : List ℕ) where
  pub alternatives_none : length old ≤ 20000 → AlternativesSoFar j formals ts ts old old [] []
  alternatives_none few = record { few = few; grows = IsExtendedBy-refl ts; finds = λ before t e s. FindsAlternatives-none j before ts old t s }

  module _ (below : All (λ n. n < length ts) formals) (us : List Term) (found : List ℕ) (items : List JoinedAlternative) (i : ℕ) (a : JoinedAlternative) (productions : List InstanceProduction) (so_far : AlternativesSoFar j formals ts us old found (take i items) productions) (inside : i < length items) (item : a ≡ get_or items i a) where
    args_kept : (t : Term) → arguments t ≡ terms_at ts formals → arguments t ≡ terms_at us formals
    args_kept t e = e ∙ sym (terms_at-kept ts us formals so_far.grows below)

    pub alternatives_more : (vs : List Term) (new : List ℕ) (p : InstanceProduction) → IsExtendedBy us vs → length new ≤ 20000 → ((before : List Term) (x : Term) → arguments x ≡ terms_at us formals → IsInstanceSearch j before us found → FindsAlternative j before us vs found new x a p) → AlternativesSoFar j formals ts vs old new (take (i + 1) items) (productions ++ p ∷ [])
    alternatives_more vs new p grows few went = record {
      few = few;
      grows = IsExtendedBy-trans ts us vs so_far.grows grows;
      finds = λ before t e s.
          let w = so_far.finds before t e s in
          rw (take_step items i a inside item) (FindsAlternatives-step j before ts us vs old found new t (take i items) productions a p w (went (before ++ flat_map (right_side t) (take i items)) t (args_kept t e) w.terms_found.search));
    }

    pub alternatives_fail : (fault : ExpandFault) → ((before : List Term) (x : Term) → arguments x ≡ terms_at us formals → IsInstanceSearch j before us found → IsMemoryOr (IsFirstFaultIn j (before ++ right_side x a)) fault) → (before : List Term) (t : Term) → arguments t ≡ terms_at ts formals → IsInstanceSearch j before ts old → IsMemoryOr (IsFirstFaultIn j (before ++ flat_map (right_side t) items)) fault
    alternatives_fail fault failed before t e s =
        let seen = flat_map (right_side t) (take i items) in
        let rest = flat_map (right_side t) (drop (suc i) items) in
        let f = IsFirstFaultIn-append j ((before ++ seen) ++ right_side t a) rest fault (failed (before ++ seen) t (args_kept t e) (so_far.finds before t e s).terms_found.search) in
        rw (ap (λ l. before ++ l) (right_sides_split t items i a inside item) ∙ append_regroup before seen (right_side t a) rest) f

-- START SYMBOLS

-- The search has found the terms of these start symbols, and their numbers.
pub record StartsSoFar (j : Joined) (ts us : List Term) (old found rules starts : List ℕ) : Type 0 where
  pub few : length found ≤ 20000
  pub finds : IsInstanceSearch j [] ts old → FindsTerms j [] (map start_term rules) ts us old found × AreNumbersOf (terms_at us found) starts (map start_term rules)

-- The number of a start symbol is in range, and the head of its term is its rule.
pub start_number_in_range : (us vs : List Term) (n : Application) (number : ℕ) → Placed us vs (node_term us n) number → number < length vs
start_number_in_range us vs n number placed = slice_get_within vs number (node_term us n) placed.at

pub start_number_head : (us vs : List Term) (n : Application) (number : ℕ) → Placed us vs (node_term us n) number → head_of (term_at vs number) ≡ n.head
start_number_head us vs n number placed = ap head_of (term_at-slice_get vs number (node_term us n) placed.at) ∙ head_of-apply_all (Atom n.head) (terms_at us n.args)

module _ (j : Joined) (ts : List Term) (old : List ℕ) where
  pub starts_none : length old ≤ 20000 → StartsSoFar j ts ts old old [] []
  starts_none few = record { few = few; finds = λ s. (FindsTerms-none j [] ts old s, tt) }

  module _ (us vs : List Term) (found items : List ℕ) (i : ℕ) (starts args : List ℕ) (number : ℕ) (so_far : StartsSoFar j ts us old found (take i items) starts) (inside : i < length items) (none : args ≡ []) (placed : Placed us vs (node_term us (record { head = Rule (get_or items i 0); args = args })) number) where
    abbrev rule : ℕ
    rule = get_or items i 0

    abbrev seen : List Term
    seen = map start_term (take i items)

    grows : IsExtendedBy us vs
    grows = IsExtendedBy-placed us vs (node_term us (record { head = Rule (get_or items i 0); args = args })) number placed

    its_start : term_at vs number ≡ start_term (get_or items i 0)
    its_start = term_at-slice_get vs number (node_term us (record { head = Rule (get_or items i 0); args = args })) placed.at ∙ ap (λ ns. apply_all (Atom (Rule (get_or items i 0))) (terms_at us ns)) none

    pub starts_more : (new : List ℕ) (p : ℕ) → length new ≤ 20000 → ((before : List Term) → IsInstanceSearch j before vs found → FindsTerm j before vs (term_at vs number) found new (Instance p)) → StartsSoFar j ts vs old new (take (i + 1) items) (starts ++ p ∷ [])
    starts_more new p few found_so = record {
      few = few;
      finds = λ s.
          let w = so_far.finds s in
          let f = rw its_start at (found_so seen (IsInstanceSearch-grows j seen us vs found w.0.search grows)) in
          let list : map start_term (take (i + 1) items) ≡ seen ++ start_term rule ∷ [] = ap (map start_term) (take_step items i rule inside (get_or_own_default items i 0 inside)) ∙ map-append start_term (take i items) (rule ∷ []) in
          let longer = IsPrefixOf-found us vs found new w.0.search.below grows f.grows in
          rw list (
            FindsTerms-append j [] seen (start_term rule ∷ []) ts us vs old found new w.0 (FindsTerms-one j seen us vs (start_term rule) found new (Instance p) grows f),
            zip_push (λ n x. slice_get (terms_at vs new) n ≡ Some x) starts seen p (start_term rule) (AreNumbersOf-longer (terms_at us found) (terms_at vs new) longer starts seen w.1) f.part,
          );
    }

    pub starts_fail : (fault : ExpandFault) → ((before : List Term) → IsInstanceSearch j before vs found → IsMemoryOr (IsFault j before (term_at vs number)) fault) → IsInstanceSearch j [] ts old → IsMemoryOr (IsFirstFaultIn j (map start_term items)) fault
    starts_fail fault failed s =
        let w = so_far.finds s in
        let f = rw its_start at (failed seen (IsInstanceSearch-grows j seen us vs found w.0.search grows)) in
        let whole : map start_term items ≡ seen ++ start_term rule ∷ map start_term (drop (suc i) items) = ap (map start_term) (split_at items i rule inside (get_or_own_default items i 0 inside)) ∙ map-append start_term (take i items) (rule ∷ drop (suc i) items) in
        rw whole (IsFirstFaultIn-here j [] seen ts us old found (start_term rule) (map start_term (drop (suc i) items)) fault w.0 f)
