-- Proves that joined rules have an expansion or a first fault.
use Rattle.std.proofs.Common.{◌≡◌, ℕ, ◌+◌, ◌<◌, ◌≤◌, ◌⊎◌, inl, inr, List, [], ◌∷◌, ◌++◌, Option, Some, None, Bool, length, map, refl, sym, ap, subst, ◌∙◌, arith}
use Rattle.std.specs.List.{slice_get, Contains, AllZip, flat_map}
use Rattle.std.specs.Option.{option_map}
use Rattle.std.proofs.lemmas.List.{length_push}
use Rattle.std.proofs.lemmas.List.Elements.{Contains-append_right, Contains-append_left}
use Rattle.std.proofs.lemmas.Option.{slice_get_within}
use Rattle.mh_grammar.proofs.Lists.{at_contains, contains_here, contains_there, contains_flat_map, get_within}
use Rattle.mh_grammar.specs.Numbering.{AreNumbersOf}
use Rattle.mh_rules.specs.declared.joined.Applied.{Applied}
use Rattle.mh_rules.specs.declared.joined.Head.{Head}
use Rattle.mh_rules.specs.declared.joined.Head.TheVariants.{Formal, Token, Rule}
use Rattle.mh_rules.specs.declared.joined.Joined.{Joined}
use Rattle.mh_rules.specs.declared.joined.JoinedAlternative.{JoinedAlternative}
use Rattle.mh_rules.specs.declared.joined.JoinedRule.{JoinedRule}
use Rattle.mh_rules.specs.declared.instances.Part.{Part}
use Rattle.mh_rules.specs.declared.instances.Part.TheVariants as parts
use Rattle.mh_rules.specs.declared.instances.Instance.{Instance}
use Rattle.mh_rules.specs.declared.instances.InstanceProduction.{InstanceProduction}
use Rattle.mh_rules.specs.declared.instances.Expanded.{Expanded}
use Rattle.mh_expand.specs.declared.fault.ExpandFault.{ExpandFault}
use Rattle.mh_expand.specs.declared.fault.ExpandFault.TheVariants.{Arity}
use Rattle.mh_expand.specs.Terms.{Term, Atom, Apply, head_of, arguments, term_of, text}
use Rattle.mh_expand.specs.Expansion as expansion
use Rattle.mh_expand.specs.Expansion.{IsInstance, TakesArguments, HasRightArity, Declares, IsOnErrorRank, IsPart, IsProduction, IsInstanceOf, IsExpanded, IsFirstFault, found_terms, producers_of, alternatives_of, right_side, start_terms, rule_of}
use Rattle.mh_expand.proofs.IsExpanding.{right_arity_or_not, IsExpandable-found, finding_order_reached, reached_found, start_rule}
use Rattle.mh_expand.proofs.FindsTerms.{rule_exists}
use Rattle.mh_grammar.proofs.DecidedSearch.{Decided, First, first}
use Rattle.mh_front.proofs.DecidedTerms.{contains_or, split_in}
use Rattle.mh_front.proofs.ExpansionSearch.{SearchState, ends}

atom_of : (t : Term) (h : Head) → head_of t ≡ h → length (arguments t) ≡ 0 → t ≡ Atom h
atom_of (Atom g) h e none = ap Atom e
atom_of (Apply f x) h e none = absurd (omega (arith, none, length_push (arguments f) x))

module _ (t : Term) (ds : List (List Applied)) where
  abbrev Named : ℕ → Type 0
  Named k = (d : List Applied) × (slice_get ds k ≡ Some d) × Declares d t

  named_or : (k : ℕ) → Decided (Named k)
  named_or k = by (slice_get ds k) refl
    where
      by : (o : Option (List Applied)) → slice_get ds k ≡ o → Decided (Named k)
      by None e = inr (λ (d, f, c). cc)
      by (Some d) e = elim (contains_or (map term_of d) t) [
        | inl c ↦ inl (d, e, c)
        | inr n ↦ inr (λ (x, f, c). let one : Some x ≡ Some d = sym f ∙ e in let same : x ≡ d = cc in n (subst (λ (y : List Applied). Declares y t) same c))
      ]

  pub rank : (o : Option ℕ) × IsOnErrorRank ds t o
  rank = elim (first Named named_or (length ds)) [
    | inl f ↦ (Some f.at, (f.holds, λ k d l e c. f.before k l (d, e, c)))
    | inr none ↦ (None, λ k d e c. none k (slice_get_within ds k d e) (d, e, c))
  ]

module _ (j : Joined) (terms : List Term) (s : SearchState j terms (found_terms j terms) []) where
  fits : (x : Term) → Contains (found_terms j terms) x → HasRightArity j x
  fits x c = elim (right_arity_or_not j x) [
    | inl f ↦ f
    | inr wrong ↦ absurd (let at = split_in (found_terms j terms) x c in s.clear at.0 at.1 x (Arity (text j x)) at.2 (expansion.IsFault.count wrong))
  ]

  part : (x : Term) → Contains (found_terms j terms) x → (p : Part) × IsPart terms x p
  part x c = by (head_of x) refl (fits x c)
    where
      by : (h : Head) → head_of x ≡ h → TakesArguments j (head_of x) (length (arguments x)) → (p : Part) × IsPart terms x p
      by (Formal k) e f = absurd (subst (λ (h : Head). TakesArguments j h (length (arguments x))) e f)
      by (Token z) e f = (parts.Token z, atom_of x (Token z) e (subst (λ (h : Head). TakesArguments j h (length (arguments x))) e f))
      by (Rule r) e f =
          let instance : IsInstance x = subst expansion.IsRule (sym e) tt in
          let at = at_contains terms x (s.found.all x c instance) in
          (parts.Instance at.0, at.1)

  parts_of : (xs : List Term) → ((x : Term) → Contains xs x → Contains (found_terms j terms) x) → (ps : List Part) × AllZip (IsPart terms) xs ps
  parts_of [] within = ([], tt)
  parts_of (x ∷ xs) within =
      let p = part x (within x (contains_here x xs)) in
      let ps = parts_of xs (λ y c. within y (contains_there x xs y c)) in
      (p.0 ∷ ps.0, (p.1, ps.1))

  productions_of : (t : Term) (alternatives : List JoinedAlternative) → ((a : JoinedAlternative) → Contains alternatives a → (x : Term) → Contains (right_side t a) x → Contains (found_terms j terms) x) → (ps : List InstanceProduction) × AllZip (IsProduction terms t) alternatives ps
  productions_of t [] within = ([], tt)
  productions_of t (a ∷ alternatives) within =
      let rhs = parts_of (right_side t a) (within a (contains_here a alternatives)) in
      let ps = productions_of t alternatives (λ b c. within b (contains_there a alternatives b c)) in
      (record { file = a.file; place = a.place; rhs = rhs.0; prec = a.prec } ∷ ps.0, (record { file = refl; place = refl; rhs = rhs.1; prec = refl }, ps.1))

  with_rule : (t : Term) (o : Option JoinedRule) → rule_of j t ≡ o → (b : expansion.IsRule (head_of t)) → TakesArguments j (head_of t) (length (arguments t)) → (inlined : Bool) × (option_map (λ (r : JoinedRule). r.inlined) (rule_of j t) ≡ Some inlined)
  with_rule t (Some q) e i f = (q.inlined, ap (option_map (λ (r : JoinedRule). r.inlined)) e)
  with_rule t None e i f = absurd (let there = rule_exists j (head_of t) (length (arguments t)) i f in cc)

  instance_of : (t : Term) → Contains terms t → (i : Instance) × IsInstanceOf j terms t i
  instance_of t c =
      let at = at_contains terms t c in
      let fit = IsExpandable-found j (found_terms j terms) terms s.clear s.found at.0 t at.1 in
      let inlined = with_rule t (rule_of j t) refl fit.instance fit.right_arity in
      let on_error = rank t j.on_error in
      let productions = productions_of t (alternatives_of j t) (λ a d x e. Contains-append_right (start_terms j) (flat_map (producers_of j) terms) x (contains_flat_map (producers_of j) terms t x c (contains_flat_map (right_side t) (alternatives_of j t) a x d e))) in
      (record { name = text j t; inlined = inlined.0; on_error = on_error.0; productions = productions.0 }, record { name = refl; inlined = inlined.1; on_error = on_error.1; productions = productions.1 })

  instances_of : (ts : List Term) → ((t : Term) → Contains ts t → Contains terms t) → (is : List Instance) × AllZip (IsInstanceOf j terms) ts is
  instances_of [] within = ([], tt)
  instances_of (t ∷ ts) within =
      let i = instance_of t (within t (contains_here t ts)) in
      let rest = instances_of ts (λ u c. within u (contains_there t ts u c)) in
      (i.0 ∷ rest.0, (i.1, rest.1))

  names_of : (ts : List Term) → ((t : Term) → Contains ts t → Contains terms t) → (ns : List ℕ) × AreNumbersOf terms ns ts
  names_of [] within = ([], tt)
  names_of (t ∷ ts) within =
      let at = at_contains terms t (within t (contains_here t ts)) in
      let rest = names_of ts (λ u c. within u (contains_there t ts u c)) in
      (at.0 ∷ rest.0, (at.1, rest.1))

  pub expanded : (e : Expanded) × IsExpanded j e
  expanded =
      let starts = names_of (start_terms j) (λ t c. s.found.all t (Contains-append_left (start_terms j) (flat_map (producers_of j) terms) t c) (start_rule j t c)) in
      let instances = instances_of terms (λ t c. c) in (
        record { tokens = j.tokens; starts = starts.0; instances = instances.0 },
        record {
          tokens = refl;
          terms = terms;
          exact = λ t. (finding_order_reached j terms s.order t, reached_found j terms s.found t);
          order = s.order;
          starts = starts.1;
          each = instances.1;
          no_fault = s.clear;
        },
      )

pub expanded_or_fault : (j : Joined) → ((e : Expanded) × IsExpanded j e) ⊎ ((fault : ExpandFault) × IsFirstFault j fault)
expanded_or_fault j = elim (ends j) [
  | inl all ↦ inl (expanded j all.0 all.1)
  | inr fault ↦ inr fault
]
