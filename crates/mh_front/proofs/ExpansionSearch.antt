-- Proves that the search of instances ends, with all of them or with a first fault.
use Rattle.std.proofs.Common.{◌≡◌, ℕ, zero, suc, ◌+◌, ◌<◌, ◌≤◌, ◌⊎◌, inl, inr, List, [], ◌∷◌, ◌++◌, length, refl, sym, ap, subst, ◌∙◌, append_assoc, arith}
use Rattle.std.specs.List.{All, Contains}
use Rattle.std.proofs.lemmas.Bool.{cases_lt}
use Rattle.std.proofs.lemmas.List.{append-nil, length_push}
use Rattle.std.proofs.lemmas.List.Elements.{All-from_recursion}
use Rattle.mh_grammar.proofs.Lists.{recursion-from}
use Rattle.mh_rules.specs.declared.joined.Head.{Head}
use Rattle.mh_rules.specs.declared.joined.Head.TheVariants.{Formal, Token, Rule}
use Rattle.mh_rules.specs.declared.joined.Joined.{Joined}
use Rattle.mh_expand.specs.declared.fault.ExpandFault.{ExpandFault}
use Rattle.mh_expand.specs.declared.fault.ExpandFault.TheVariants.{Arity, Expansion}
use Rattle.mh_expand.specs.Terms.{Term, head_of, head_name, text}
use Rattle.mh_expand.specs.Expansion as expansion
use Rattle.mh_expand.specs.Expansion.{IsInstance, IsRule, HasRightArity, IsNewInstance, HasMaxInstances, IsFault, HasNoFault, IsFindingOrder, IsFirstFault, found_terms, producers_of}
use Rattle.mh_expand.specs.code.InstanceSearch.{AreFound}
use Rattle.mh_expand.proofs.AreFound.{HasNoFault-none, HasNoFault-push, AreFound-none, AreFound-same, AreFound-new, found_is_earlier_instance, max_instances_found}
use Rattle.mh_expand.proofs.IsExpanding.{right_arity_or_not, found_terms-none, found_terms-push}
use Rattle.mh_grammar.proofs.DecidedSearch.{Decided}
use Rattle.mh_front.proofs.DecidedTerms.{contains_or}

rule_or : (h : Head) → Decided (IsRule h)
rule_or (Formal k) = inr (λ x. x)
rule_or (Token z) = inr (λ x. x)
rule_or (Rule r) = inl tt

instance_or : (t : Term) → Decided (IsInstance t)
instance_or t = rule_or (head_of t)

-- A state of the search with the instances that were found. Of the terms that they lead to, those of `before` were
-- examined, and those of `after` were not.
pub record SearchState (j : Joined) (instances before after : List Term) : Type 0 where
  pub order : IsFindingOrder j instances
  pub split : found_terms j instances ≡ before ++ after
  pub clear : HasNoFault j before
  pub found : AreFound before instances
  pub few : length instances ≤ 20000

module _ (j : Joined) where
  -- The search ends with all instances or with a first fault.
  abbrev pub Ends : Type 0
  Ends = ((instances : List Term) × SearchState j instances (found_terms j instances) []) ⊎ ((fault : ExpandFault) × IsFirstFault j fault)

  module _ (instances before rest : List Term) (t : Term) (s : SearchState j instances before (t ∷ rest)) where
    faulty : (fault : ExpandFault) → IsFault j before t fault → Ends
    faulty fault f = inr (fault, record { found = instances; order = s.order; fails = record { before = before; term = t; after = rest; split = s.split; no_fault = s.clear; fault = f } })

    old_fault : HasRightArity j t → (IsInstance t → Contains instances t) → (e : ExpandFault) → IsFault j before t e → ⊥
    old_fault fits old e (expansion.IsFault.count f) = f fits
    old_fault fits old e (expansion.IsFault.long f n l) = n.new (found_is_earlier_instance before instances t s.found (old n.instance)).0
    old_fault fits old e (expansion.IsFault.full f n l) = n.new (found_is_earlier_instance before instances t s.found (old n.instance)).0

    onward : HasRightArity j t → (IsInstance t → Contains instances t) → SearchState j instances (before ++ t ∷ []) rest
    onward fits old = record {
      order = s.order;
      split = s.split ∙ sym (append_assoc before (t ∷ []) rest);
      clear = HasNoFault-push j before t s.clear (old_fault fits old);
      found = AreFound-same before instances t s.found old;
      few = s.few;
    }

    is_new : IsInstance t → (Contains instances t → ⊥) → IsNewInstance before t
    is_new i n = record { instance = i; new = λ c. n (s.found.all t c i) }

    is_full : 20000 ≤ length instances → HasMaxInstances before
    is_full many = record {
      terms = instances;
      found = All-from_recursion (λ (x : Term). Contains before x × IsInstance x) instances (recursion-from (λ (x : Term). Contains before x × IsInstance x) instances (λ x c. found_is_earlier_instance before instances x s.found c));
      distinct = s.found.distinct;
      count = (let few = s.few in omega (arith, few, many));
    }

    new_fault : HasRightArity j t → length (text j t) ≤ 1000 → length instances < 20000 → (e : ExpandFault) → IsFault j before t e → ⊥
    new_fault fits short room e (expansion.IsFault.count f) = f fits
    new_fault fits short room e (expansion.IsFault.long f n l) = omega (arith, short, l)
    new_fault fits short room e (expansion.IsFault.full f n l) = omega (arith, room, max_instances_found before instances s.found l)

    grown : HasRightArity j t → IsInstance t → (Contains instances t → ⊥) → length (text j t) ≤ 1000 → length instances < 20000 → SearchState j (instances ++ t ∷ []) (before ++ t ∷ []) (rest ++ producers_of j t)
    grown fits i n short room = record {
      order = expansion.IsFindingOrder.more before rest s.order s.split i n s.found.all;
      split = found_terms-push j instances t ∙ ap (λ l. l ++ producers_of j t) s.split ∙ append_assoc before (t ∷ rest) (producers_of j t) ∙ sym (append_assoc before (t ∷ []) (rest ++ producers_of j t));
      clear = HasNoFault-push j before t s.clear (new_fault fits short room);
      found = AreFound-new before instances t s.found i n;
      few = omega (arith, room, length_push instances t);
    }

  -- The search continues with a new instance.
  abbrev Onward : ℕ → Type 0
  Onward m = (instances before after : List Term) → SearchState j instances before after → 20001 ≤ length instances + m → Ends

  -- If the next term has the right number of arguments, the search still ends with all instances or a first fault.
  one : (m : ℕ) → Onward m → (instances before rest : List Term) (t : Term) → SearchState j instances before (t ∷ rest) → 20000 ≤ length instances + m → HasRightArity j t → Decided (IsInstance t) → Decided (Contains instances t) → (SearchState j instances (before ++ t ∷ []) rest → Ends) → Ends
  one m go instances before rest t s l fits (inr wrong) d same = same (onward instances before rest t s fits (λ i. absurd (wrong i)))
  one m go instances before rest t s l fits (inl i) (inl c) same = same (onward instances before rest t s fits (λ i. c))
  one m go instances before rest t s l fits (inl i) (inr n) same = elim (cases_lt 1000 (length (text j t))) [
    | inl long ↦ faulty instances before rest t s (Expansion (head_name j (head_of t))) (expansion.IsFault.long fits (is_new instances before rest t s i n) long)
    | inr short ↦ elim (cases_lt (length instances) 20000) [
      | inl room ↦ go (instances ++ t ∷ []) (before ++ t ∷ []) (rest ++ producers_of j t) (grown instances before rest t s fits i n short room) (omega (arith, l, length_push instances t))
      | inr many ↦ faulty instances before rest t s (Expansion (head_name j (head_of t))) (expansion.IsFault.full fits (is_new instances before rest t s i n) (is_full instances before rest t s many))
    ]
  ]

  walk : (m : ℕ) → Onward m → (after instances before : List Term) → SearchState j instances before after → 20000 ≤ length instances + m → Ends
  walk m go [] instances before s l = let all : before ≡ found_terms j instances = sym (s.split ∙ append-nil before) in inl (instances, subst (λ (b : List Term). SearchState j instances b []) all s)
  walk m go (t ∷ rest) instances before s l = elim (right_arity_or_not j t) [
    | inl fits ↦ one m go instances before rest t s l fits (instance_or t) (contains_or instances t) (λ next. walk m go rest instances (before ++ t ∷ []) next l)
    | inr wrong ↦ faulty instances before rest t s (Arity (text j t)) (expansion.IsFault.count wrong)
  ]

  search_by : (m : ℕ) (instances before after : List Term) → SearchState j instances before after → 20000 ≤ length instances + m → Ends
  search_by zero instances before after s l = walk zero (λ g b a x k. absurd (let few = x.few in omega (arith, few, k))) after instances before s l
  search_by (suc m) instances before after s l = walk (suc m) (λ g b a x k. search_by m g b a x (omega (arith, k))) after instances before s l

  pub ends : Ends
  ends = search_by 20000 [] [] (found_terms j []) (record { order = expansion.IsFindingOrder.none; split = refl; clear = HasNoFault-none j; found = AreFound-none; few = omega arith }) (omega arith)
