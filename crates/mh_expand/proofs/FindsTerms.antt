-- Lemmas on the found terms after one more term, one more alternative and one more instance.
use Rattle.std.proofs.Common.{◌≡◌, ℕ, zero, suc, ◌+◌, ◌<◌, List, [], ◌∷◌, ◌++◌, Option, Some, None, IsSome, map, flat_map, length, take, drop, get_or, refl, sym, ap, ◌∙◌, arith, append_assoc, add-one}
use Rattle.std.proofs.Math.Seq.{take-suc}
use Rattle.std.specs.List.{slice_get, All, AllZip}
use Rattle.std.specs.Option.{option_map, unwrap_or}
use Rattle.mh_grammar.proofs.Lists.{split_at, zip_push, zip_weaker}
use Rattle.mh_rules.specs.declared.joined.Head.{Head}
use Rattle.mh_rules.specs.declared.joined.Head.TheVariants.{Formal, Token, Rule}
use Rattle.mh_rules.specs.declared.joined.JoinedRule.{JoinedRule}
use Rattle.std.proofs.lemmas.List.{map-append, append-nil, length-append}
use Rattle.std.proofs.lemmas.Grind.{flat_map-append}
use Rattle.mh_grammar.proofs.NumberingInvariant.{get_left}
use Rattle.mh_rules.specs.declared.joined.Applied.{Applied}
use Rattle.mh_rules.specs.declared.joined.JoinedAlternative.{JoinedAlternative}
use Rattle.mh_rules.specs.declared.joined.Joined.{Joined}
use Rattle.mh_expand.specs.declared.fault.ExpandFault.{ExpandFault}
use Rattle.mh_rules.specs.declared.instances.Part.{Part}
use Rattle.mh_rules.specs.declared.instances.Part.TheVariants as parts
use Rattle.mh_rules.specs.declared.instances.InstanceProduction.{InstanceProduction}
use Rattle.mh_expand.specs.Terms.{Term, arguments}
use Rattle.mh_expand.specs.Expansion.{IsFault, IsPart, IsProduction, IsRule, TakesArguments, IsFirstFaultIn, IsMemoryOr, right_side, rule_at, rule_of, alternatives_of}
use Rattle.mh_expand.specs.code.SharedTerms.{term_at, terms_at, IsExtendedBy}
use Rattle.mh_expand.specs.code.InstanceSearch.{IsInstanceSearch, FindsTerm, FindsTerms, FindsAlternative, FindsAlternatives, IsPrefixOf}
use Rattle.mh_expand.proofs.ReplacedActuals.{IsExtendedBy-refl, IsExtendedBy-trans, replaced_term_of}
use Rattle.mh_expand.proofs.SharedTerms.{terms_at-kept}
use Rattle.mh_expand.proofs.AreFound.{IsMemoryOr-weaker}

pub below-extended : (ts us : List Term) (ns : List ℕ) → IsExtendedBy ts us → All (λ n. n < length ts) ns → All (λ n. n < length us) ns
below-extended ts us ns g a = λ k d l. omega (arith, a k d l, ap length g.1, length-append ts g.0)

pub IsPrefixOf-found : (ts us : List Term) (old new : List ℕ) → All (λ n. n < length ts) old → IsExtendedBy ts us → (more : List ℕ) × (new ≡ old ++ more) → IsPrefixOf (terms_at ts old) (terms_at us new)
IsPrefixOf-found ts us old new b g n = record {
  more = terms_at us n.0;
  longer = ap (terms_at us) n.1 ∙ map-append (term_at us) old n.0 ∙ ap (λ l. l ++ terms_at us n.0) (terms_at-kept ts us old g b);
}

pub IsPart-kept : (xs ys : List Term) → IsPrefixOf xs ys → (t : Term) (p : Part) → IsPart xs t p → IsPart ys t p
IsPart-kept xs ys l t (parts.Token z) e = e
IsPart-kept xs ys l t (parts.Instance n) e = rw l.longer (get_left xs l.more n t e)

pub IsProduction-kept : (xs ys : List Term) → IsPrefixOf xs ys → (t : Term) (a : JoinedAlternative) (p : InstanceProduction) → IsProduction xs t a p → IsProduction ys t a p
IsProduction-kept xs ys l t a p w = record { file = w.file; place = w.place; rhs = zip_weaker (IsPart xs) (IsPart ys) (IsPart-kept xs ys l) (right_side t a) p.rhs w.rhs; prec = w.prec }

pub IsInstanceSearch-grows : (j : Joined) (before ts us : List Term) (ns : List ℕ) → IsInstanceSearch j before ts ns → IsExtendedBy ts us → IsInstanceSearch j before us ns
IsInstanceSearch-grows j before ts us ns s g = record {
  below = below-extended ts us ns g s.below;
  clear = s.clear;
  found = rw (terms_at-kept ts us ns g s.below) s.found;
}

pub FindsTerms-none : (j : Joined) (before ts : List Term) (ns : List ℕ) → IsInstanceSearch j before ts ns → FindsTerms j before [] ts ts ns ns
FindsTerms-none j before ts ns s = record { terms = IsExtendedBy-refl ts; numbers = ([], sym (append-nil ns)); search = rw (append-nil before) s }

pub appended_trans : (a b c : List ℕ) → (more : List ℕ) × (b ≡ a ++ more) → (more : List ℕ) × (c ≡ b ++ more) → (more : List ℕ) × (c ≡ a ++ more)
appended_trans a b c p q = (p.0 ++ q.0, q.1 ∙ ap (λ l. l ++ q.0) p.1 ∙ append_assoc a p.0 q.0)

-- If the search finds the terms of two consecutive lists without a fault, it finds those of the lists appended without
-- a fault.
pub FindsTerms-append : (j : Joined) (before seen rest ts us vs : List Term) (old mid new : List ℕ) → FindsTerms j before seen ts us old mid → FindsTerms j (before ++ seen) rest us vs mid new → FindsTerms j before (seen ++ rest) ts vs old new
FindsTerms-append j before seen rest ts us vs old mid new w v = record {
  terms = IsExtendedBy-trans ts us vs w.terms v.terms;
  numbers = appended_trans old mid new w.numbers v.numbers;
  search = rw (← append_assoc before seen rest) v.search;
}

pub FindsTerms-one : (j : Joined) (before us vs : List Term) (t : Term) (mid new : List ℕ) (p : Part) → IsExtendedBy us vs → FindsTerm j before vs t mid new p → FindsTerms j before (t ∷ []) us vs mid new
FindsTerms-one j before us vs t mid new p g f = record { terms = g; numbers = f.grows; search = f.search }

-- A fault after a list of terms without faults is the first fault of the longer list.
pub IsFirstFaultIn-here : (j : Joined) (before seen ts us : List Term) (old new : List ℕ) (t : Term) (rest : List Term) (e : ExpandFault) → FindsTerms j before seen ts us old new → IsMemoryOr (IsFault j (before ++ seen) t) e → IsMemoryOr (IsFirstFaultIn j (before ++ (seen ++ t ∷ rest))) e
IsFirstFaultIn-here j before seen ts us old new t rest e w c =
    IsMemoryOr-weaker (IsFault j (before ++ seen) t) (IsFirstFaultIn j (before ++ (seen ++ t ∷ rest))) (λ x f. record {
      before = before ++ seen;
      term = t;
      after = rest;
      split = sym (append_assoc before seen (t ∷ rest));
      no_fault = w.search.clear;
      fault = f;
    }) e c

pub IsFirstFaultIn-append : (j : Joined) (xs ys : List Term) (e : ExpandFault) → IsMemoryOr (IsFirstFaultIn j xs) e → IsMemoryOr (IsFirstFaultIn j (xs ++ ys)) e
IsFirstFaultIn-append j xs ys e c =
    IsMemoryOr-weaker (IsFirstFaultIn j xs) (IsFirstFaultIn j (xs ++ ys)) (λ x f. record {
      before = f.before;
      term = f.term;
      after = f.after ++ ys;
      split = ap (λ l. l ++ ys) f.split ∙ append_assoc f.before (f.term ∷ f.after) ys;
      no_fault = f.no_fault;
      fault = f.fault;
    }) e c

-- The search has found the terms of these producers, and the parts of the right side are those of the terms.
pub record FindsProducers (j : Joined) (before ts us : List Term) (old new : List ℕ) (t : Term) (producers : List Applied) (rhs : List Part) : Type 0 where
  pub terms_found : FindsTerms j before (map (replaced_term_of (arguments t)) producers) ts us old new
  pub parts : AllZip (IsPart (terms_at us new)) (map (replaced_term_of (arguments t)) producers) rhs

pub FindsProducers-none : (j : Joined) (before ts : List Term) (ns : List ℕ) (t : Term) → IsInstanceSearch j before ts ns → FindsProducers j before ts ts ns ns t [] []
FindsProducers-none j before ts ns t s = record { terms_found = FindsTerms-none j before ts ns s; parts = tt }

pub FindsProducers-step : (j : Joined) (before ts us vs : List Term) (old mid new : List ℕ) (t : Term) (producers : List Applied) (rhs : List Part) (a : Applied) (p : Part) → FindsProducers j before ts us old mid t producers rhs → IsExtendedBy us vs → FindsTerm j (before ++ map (replaced_term_of (arguments t)) producers) vs (replaced_term_of (arguments t) a) mid new p → FindsProducers j before ts vs old new t (producers ++ a ∷ []) (rhs ++ p ∷ [])
FindsProducers-step j before ts us vs old mid new t producers rhs a p w g f =
    let side = map (replaced_term_of (arguments t)) producers in
    let one = FindsTerms-one j (before ++ side) us vs (replaced_term_of (arguments t) a) mid new p g f in
    let list : map (replaced_term_of (arguments t)) (producers ++ a ∷ []) ≡ side ++ replaced_term_of (arguments t) a ∷ [] = map-append (replaced_term_of (arguments t)) producers (a ∷ []) in
    let longer = IsPrefixOf-found us vs mid new w.terms_found.search.below g f.grows in
    record {
      terms_found = rw list (FindsTerms-append j before side (replaced_term_of (arguments t) a ∷ []) ts us vs old mid new w.terms_found one);
      parts = rw list (zip_push (IsPart (terms_at vs new)) side rhs (replaced_term_of (arguments t) a) p (zip_weaker (IsPart (terms_at us mid)) (IsPart (terms_at vs new)) (IsPart-kept (terms_at us mid) (terms_at vs new) longer) side rhs w.parts) f.part);
    }

-- No terms are found for no alternatives.
pub FindsAlternatives-none : (j : Joined) (before ts : List Term) (ns : List ℕ) (t : Term) → IsInstanceSearch j before ts ns → FindsAlternatives j before ts ts ns ns t [] []
FindsAlternatives-none j before ts ns t s = record { terms_found = FindsTerms-none j before ts ns s; are_productions = tt }

pub right_sides-push : (t : Term) (alternatives : List JoinedAlternative) (a : JoinedAlternative) → flat_map (right_side t) (alternatives ++ a ∷ []) ≡ flat_map (right_side t) alternatives ++ right_side t a
right_sides-push t alternatives a = flat_map-append (right_side t) alternatives (a ∷ []) ∙ ap (λ l. flat_map (right_side t) alternatives ++ l) (append-nil (right_side t a))

pub FindsAlternatives-step : (j : Joined) (before ts us vs : List Term) (old mid new : List ℕ) (t : Term) (alternatives : List JoinedAlternative) (productions : List InstanceProduction) (a : JoinedAlternative) (p : InstanceProduction) → FindsAlternatives j before ts us old mid t alternatives productions → FindsAlternative j (before ++ flat_map (right_side t) alternatives) us vs mid new t a p → FindsAlternatives j before ts vs old new t (alternatives ++ a ∷ []) (productions ++ p ∷ [])
FindsAlternatives-step j before ts us vs old mid new t alternatives productions a p w v =
    let longer = IsPrefixOf-found us vs mid new w.terms_found.search.below v.terms_found.terms v.terms_found.numbers in
    record {
      terms_found = rw (right_sides-push t alternatives a) (FindsTerms-append j before (flat_map (right_side t) alternatives) (right_side t a) ts us vs old mid new w.terms_found v.terms_found);
      are_productions = zip_push (IsProduction (terms_at vs new) t) alternatives productions a p (zip_weaker (IsProduction (terms_at us mid) t) (IsProduction (terms_at vs new) t) (IsProduction-kept (terms_at us mid) (terms_at vs new) longer t) alternatives productions w.are_productions) v.is_production;
    }

pub producer_terms_split : (fs : List Term) (items : List Applied) (i : ℕ) (a : Applied) → i < length items → a ≡ get_or items i a → map (replaced_term_of fs) items ≡ map (replaced_term_of fs) (take i items) ++ replaced_term_of fs a ∷ map (replaced_term_of fs) (drop (suc i) items)
producer_terms_split fs items i a l e = ap (map (replaced_term_of fs)) (split_at items i a l e) ∙ map-append (replaced_term_of fs) (take i items) (a ∷ drop (suc i) items)

pub right_sides_split : (t : Term) (items : List JoinedAlternative) (i : ℕ) (a : JoinedAlternative) → i < length items → a ≡ get_or items i a → flat_map (right_side t) items ≡ flat_map (right_side t) (take i items) ++ (right_side t a ++ flat_map (right_side t) (drop (suc i) items))
right_sides_split t items i a l e = ap (flat_map (right_side t)) (split_at items i a l e) ∙ flat_map-append (right_side t) (take i items) (a ∷ drop (suc i) items)

-- The rule at the head of an instance exists.
pub rule_exists : (j : Joined) (h : Head) (n : ℕ) → IsRule h → TakesArguments j h n → IsSome (rule_at j h)
rule_exists j (Formal k) n i t = absurd i
rule_exists j (Token z) n i t = absurd i
rule_exists j (Rule r) n i t = some_there (slice_get j.rules r) n t
  where
    some_there : (o : Option JoinedRule) (n : ℕ) → option_map (λ (q : JoinedRule). q.formals) o ≡ Some n → IsSome o
    some_there None n e = cc
    some_there (Some q) n e = refl

pub alternatives_of_rule : (j : Joined) (t : Term) (q : JoinedRule) → rule_of j t ≡ Some q → alternatives_of j t ≡ q.alternatives
alternatives_of_rule j t q e = ap (λ o. unwrap_or (option_map (λ (r : JoinedRule). r.alternatives) o) []) e

pub append_regroup : (a b c d : List Term) → a ++ (b ++ (c ++ d)) ≡ ((a ++ b) ++ c) ++ d
append_regroup a b c d = sym (append_assoc a b (c ++ d)) ∙ sym (append_assoc (a ++ b) c d)
