-- Lemmas on the productions made from unfoldings: their sizes and ranges.
use Rattle.std.proofs.Common.{◌≡◌, ℕ, zero, suc, ◌+◌, ◌<◌, ◌≤◌, min, max, List, [], ◌∷◌, ◌++◌, Option, Some, None, map, take, length, get_or, refl, sym, ap, ◌∙◌, arith, length-append, append_assoc, subst}
use Rattle.std.specs.List.{slice_get, All}
use Rattle.std.proofs.lemmas.List.{take_more, append-nil, length-map}
use Rattle.std.proofs.lemmas.List.Elements.{All-nil, All-cons, All-head, All-tail, All-append, All-map, All-weaker}
use Rattle.std.proofs.lemmas.Option.{none-some, same_Some, slice_get_within, get_or_from_slice_get}
use Rattle.mh_grammar.specs.declared.types.TokenInfo.{TokenInfo}
use Rattle.mh_grammar.specs.declared.types.Production.{Production}
use Rattle.mh_grammar.specs.declared.types.Symbol.TheVariants.{N}
use Rattle.mh_rules.specs.declared.joined.Prec.{Prec}
use Rattle.mh_rules.specs.declared.instances.Part.{Part}
use Rattle.mh_rules.specs.declared.instances.Part.TheVariants.{Token, Instance as Applied}
use Rattle.mh_rules.specs.declared.instances.InstanceProduction.{InstanceProduction}
use Rattle.mh_rules.specs.declared.instances.Instance.{Instance}
use Rattle.mh_rules.specs.declared.instances.Expanded.{Expanded}
use Rattle.mh_inline_unfold.specs.declared.unfolding.Unfolding.{Unfolding}
use Rattle.mh_inline.specs.declared.origins.Origin.{Origin}
use Rattle.mh_inline_unfold.specs.declared.sizes.Size.{Size}
use Rattle.mh_inline_unfold.specs.Instances.{IsAlternative, IsKept}
use Rattle.mh_rules.specs.Ready.{IsPartBelow, IsInstanceReady, IsExpandedReady}
use Rattle.mh_inline_unfold.specs.Unfoldings as unfoldings
use Rattle.mh_inline_unfold.specs.Unfoldings.{unfolding_of_part, with_own_prec, joined, choices, UnfoldsPart, Unfolds, UnfoldsEach}
use Rattle.mh_inline_unfold.specs.code.Sizes.{longest, IsSideSize, HasUnsizedProducer, AreAllSized}
use Rattle.mh_inline.specs.Inlined as inlined
use Rattle.mh_inline.specs.Kept as kept_spec
use Rattle.mh_inline.specs.Inlined.{symbol_of, last_token, production_of, AreProductions}
use Rattle.mh_inline.specs.code.NumbersAndOrigins.{symbol_by, AreNumbers}
use Rattle.mh_inline.specs.code.ProductionParts.{production_by, token_else, longest_side, AddsOrigin, IsOriginsSize, IsUnfoldingBelow}

pub last_token-push : (Xs : List Part) (X : Part) → last_token (Xs ++ X ∷ []) ≡ token_else X (last_token Xs)
last_token-push [] (Token a) = refl
last_token-push [] (Applied n) = refl
last_token-push (Y ∷ Xs) (Token a) = ap (inlined.last_token_from Y) (last_token-push Xs (Token a))
last_token-push (Y ∷ Xs) (Applied n) = ap (inlined.last_token_from Y) (last_token-push Xs (Applied n))

-- PRODUCTIONS OF LISTS OF ORIGINS

module _ (tokens : List TokenInfo) (is : List Instance) where
  pub AreProductions-push : (origins : List Origin) (s : Origin) (ps qs : List Production) → AreProductions tokens is origins ps → AddsOrigin tokens is s ps qs → AreProductions tokens is (origins ++ s ∷ []) qs
  AreProductions-push [] s ps qs inlined.AreProductions.none a = inlined.AreProductions.more a.alternative a.unfolds (a.added ∙ sym (append-nil _)) inlined.AreProductions.none
  AreProductions-push (t ∷ origins) s ps qs (inlined.AreProductions.more {p = p} {us = us} {ps = rest} alt f e r) a =
      inlined.AreProductions.more alt f
      (a.added ∙ ap (λ l. l ++ map (λ u. production_of tokens is s.instance (with_own_prec a.production.prec u)) a.unfoldings) e ∙ append_assoc (map (λ u. production_of tokens is t.instance (with_own_prec p.prec u)) us) rest (map (λ u. production_of tokens is s.instance (with_own_prec a.production.prec u)) a.unfoldings))
      (AreProductions-push origins s rest _ r (record { production = a.production; alternative = a.alternative; unfoldings = a.unfoldings; unfolds = a.unfolds; added = refl }))

  pub AreProductions-more : (origins : List Origin) (i : ℕ) (d : Origin) (ps qs : List Production) → i < length origins → AreProductions tokens is (take i origins) ps → AddsOrigin tokens is (get_or origins i d) ps qs → AreProductions tokens is (take (i + 1) origins) qs
  AreProductions-more origins i d ps qs l r a = rw (take_more origins i d l) (AreProductions-push (take i origins) (get_or origins i d) ps qs r a)

  -- LENGTHS

  pub longest_side-append : (ps qs : List Production) → longest_side (ps ++ qs) ≡ max (longest_side ps) (longest_side qs)
  longest_side-append [] qs = omega arith
  longest_side-append (p ∷ ps) qs = let e = longest_side-append ps qs in omega arith

  pub longest_side-made : (n : ℕ) (p : Prec) (us : List Unfolding) → longest_side (map (λ u. production_of tokens is n (with_own_prec p u)) us) ≡ longest us
  longest_side-made n p [] = refl
  longest_side-made n p (u ∷ us) = let e = longest_side-made n p us in let f = length-map u.rhs (symbol_of is) in omega arith

  pub size_none : (z : Size) → z.count ≡ 0 → z.longest ≡ 0 → IsOriginsSize tokens is [] z
  size_none z e f = record { productions = []; are_productions = inlined.AreProductions.none; count = e; longest = f }

  size_push : (origins : List Origin) (s : Origin) (p : InstanceProduction) (y z t : Size) → IsAlternative is s.instance s.alternative p → IsOriginsSize tokens is origins y → IsSideSize is p.rhs z → t.count ≡ min (y.count + z.count) 20001 → t.longest ≡ max y.longest z.longest → IsOriginsSize tokens is (origins ++ s ∷ []) t
  size_push origins s p y z t alt h k e f =
      let us = k.unfoldings in
      let made = map (λ u. production_of tokens is s.instance (with_own_prec p.prec u)) us in
      let len = length-append h.productions made in
      let same = length-map us (λ u. production_of tokens is s.instance (with_own_prec p.prec u)) in
      let long = longest_side-append h.productions made in
      let long' = longest_side-made s.instance p.prec us in
      let a = h.count in
      let b = h.longest in
      let a' = k.size.count in
      let b' = k.size.longest in
      record {
        productions = h.productions ++ made;
        are_productions = AreProductions-push origins s h.productions (h.productions ++ made) h.are_productions (record { production = p; alternative = alt; unfoldings = us; unfolds = k.unfolds; added = refl });
        count = omega arith;
        longest = omega arith;
      }

  pub size_more : (origins : List Origin) (i : ℕ) (d : Origin) (p : InstanceProduction) (y z t : Size) → i < length origins → IsAlternative is (get_or origins i d).instance (get_or origins i d).alternative p → IsOriginsSize tokens is (take i origins) y → IsSideSize is p.rhs z → t.count ≡ min (y.count + z.count) 20001 → t.longest ≡ max y.longest z.longest → IsOriginsSize tokens is (take (i + 1) origins) t
  size_more origins i d p y z t l alt h k e f = rw (take_more origins i d l) (size_push (take i origins) (get_or origins i d) p y z t alt h k e f)

  pub no_unsized_producer : (sizes : List (Option Size)) (Xs : List Part) → AreAllSized is sizes → HasUnsizedProducer is sizes Xs → ⊥
  no_unsized_producer sizes Xs all b = let s = all b.number b.inlined in none-some s.0 (let e : Some None ≡ Some (Some s.0) = sym b.unsized ∙ s.1 in same_Some _ _ e)

-- RANGES

-- The producers in the alternatives are in range.
pub record AreBelow (tokens : ℕ) (is : List Instance) : Type 0 where
  pub each : (n k : ℕ) (p : InstanceProduction) → IsAlternative is n k p → All (IsPartBelow tokens (length is)) p.rhs

pub below_ready : (e : Expanded) → IsExpandedReady e → AreBelow (length e.tokens) e.instances
below_ready e r = record {
  each = λ n k p a.
      let one = subst (IsInstanceReady (length e.tokens) (length e.instances)) (get_or_from_slice_get e.instances n a.instance a.instance a.at) (r.instances_ready n a.instance (slice_get_within e.instances n a.instance a.at)) in
      subst (λ (q : InstanceProduction). All (IsPartBelow (length e.tokens) (length e.instances)) q.rhs) (get_or_from_slice_get a.instance.productions k p p a.alternative) (one.parts_below k p (slice_get_within a.instance.productions k p a.alternative));
}

part_wider : (s t n : ℕ) (X : Part) → s ≤ t → IsPartBelow s n X → IsPartBelow t n X
part_wider s t n (Token a) l b = omega arith
part_wider s t n (Applied m) l b = b

pub below_wider : (s t : ℕ) (is : List Instance) → s ≤ t → AreBelow s is → AreBelow t is
below_wider s t is l b = record { each = λ n k p a. All-weaker (IsPartBelow s (length is)) (IsPartBelow t (length is)) (λ X. part_wider s t (length is) X l) p.rhs (b.each n k p a) }

-- A property of all producers that are not inline and are in range is a property of all producers in unfoldings.
module _ (t : ℕ) (is : List Instance) (b : AreBelow t is) (P : Part → Type 0) (holds : (X : Part) → IsKept is X → IsPartBelow t (length is) X → P X) where
  abbrev Each : Unfolding → Type 0
  Each u = All P u.rhs

  abbrev In : List Part → Type 0
  In = All (IsPartBelow t (length is))

  each_joined : (u : Unfolding) (vs : List Unfolding) → Each u → All Each vs → All Each (map (joined u) vs)
  each_joined u vs p q = All-map Each (joined u) vs (All-weaker Each (λ v. Each (joined u v)) (λ v r. All-append P u.rhs v.rhs p r) vs q)

  each_choice : (us vs : List Unfolding) → All Each us → All Each vs → All Each (choices us vs)
  each_choice [] vs p q = All-nil Each
  each_choice (u ∷ us) vs p q = All-append Each (map (joined u) vs) (choices us vs) (each_joined u vs (All-head Each u us p) q) (each_choice us vs (All-tail Each u us p) q)

  mutual
    each_of_part : (X : Part) (us : List Unfolding) → UnfoldsPart is X us → IsPartBelow t (length is) X → All Each us
    each_of_part X us (unfoldings.UnfoldsPart.kept k) p = All-cons Each (unfolding_of_part X) [] (All-cons P X [] (holds X k p) (All-nil P)) (All-nil Each)
    each_of_part X us (unfoldings.UnfoldsPart.inlined {n = n} {i = i} at e r) p = each_of_alternatives i.productions us r (λ k q here. b.each n k q (record { instance = i; at = at; alternative = here }))

    pub each_of_side : (Xs : List Part) (us : List Unfolding) → Unfolds is Xs us → In Xs → All Each us
    each_of_side Xs us unfoldings.Unfolds.none p = All-cons Each unfoldings.empty_unfolding [] (All-nil P) (All-nil Each)
    each_of_side Xs us (unfoldings.Unfolds.more {X = X} {Xs = Ys} {us = firsts} {vs = rests} e q f) p = subst (All Each) (sym e) (each_choice firsts rests (each_of_part X firsts q (All-head (IsPartBelow t (length is)) X Ys p)) (each_of_side Ys rests f (All-tail (IsPartBelow t (length is)) X Ys p)))

    each_of_alternatives : (ps : List InstanceProduction) (us : List Unfolding) → UnfoldsEach is ps us → ((k : ℕ) (q : InstanceProduction) → slice_get ps k ≡ Some q → In q.rhs) → All Each us
    each_of_alternatives ps us unfoldings.UnfoldsEach.no_alternative h = All-nil Each
    each_of_alternatives ps us (unfoldings.UnfoldsEach.alternative {p = q} {ps = rest} {us = firsts} {vs = rests} e f r) h = subst (All Each) (sym e) (All-append Each (map (with_own_prec q.prec) firsts) rests (All-map Each (with_own_prec q.prec) firsts (each_of_side q.rhs firsts f (h zero q refl))) (each_of_alternatives rest rests r (λ k x at. h (suc k) x at)))

pub side_below : (t : ℕ) (is : List Instance) → AreBelow t is → (Xs : List Part) (us : List Unfolding) → Unfolds is Xs us → All (IsPartBelow t (length is)) Xs → All (IsUnfoldingBelow t (length is)) us
side_below t is b = each_of_side t is b (IsPartBelow t (length is)) (λ X k p. p)

-- NUMBERS

module _ (t : ℕ) (is : List Instance) (numbers : List ℕ) (n : AreNumbers is numbers) where
  symbol_same : (X : Part) → IsPartBelow t (length is) X → symbol_by numbers X ≡ symbol_of is X
  symbol_same (Token a) b = refl
  symbol_same (Applied m) b = ap N (n.each m b)

  symbols_same : (Xs : List Part) → All (IsPartBelow t (length is)) Xs → map (symbol_by numbers) Xs ≡ map (symbol_of is) Xs
  symbols_same [] p = refl
  symbols_same (X ∷ Xs) p = (λ i. symbol_same X (All-head (IsPartBelow t (length is)) X Xs p) i ∷ symbols_same Xs (All-tail (IsPartBelow t (length is)) X Xs p) i)

  production_same : (tokens : List TokenInfo) (m lhs : ℕ) (u : Unfolding) → lhs ≡ kept_spec.nonterminal_number is m → IsUnfoldingBelow t (length is) u → production_by tokens numbers lhs u ≡ production_of tokens is m u
  production_same tokens m lhs u e p = (λ i. record { lhs = e i; rhs = symbols_same u.rhs p i; level = inlined.level_of tokens u.prec u.rhs })

  pub productions_same : (tokens : List TokenInfo) (m lhs : ℕ) (prec : Prec) (us : List Unfolding) → lhs ≡ kept_spec.nonterminal_number is m → All (IsUnfoldingBelow t (length is)) us → map (λ u. production_by tokens numbers lhs (with_own_prec prec u)) us ≡ map (λ u. production_of tokens is m (with_own_prec prec u)) us
  productions_same tokens m lhs prec [] e p = refl
  productions_same tokens m lhs prec (u ∷ us) e p = (λ i. production_same tokens m lhs (with_own_prec prec u) e (All-head (IsUnfoldingBelow t (length is)) u us p) i ∷ productions_same tokens m lhs prec us e (All-tail (IsUnfoldingBelow t (length is)) u us p) i)

-- The unfoldings of an alternative are in range.
pub alternative_below : (e : Expanded) → IsExpandedReady e → (n k : ℕ) (p : InstanceProduction) (us : List Unfolding) → IsAlternative e.instances n k p → Unfolds e.instances p.rhs us → All (IsUnfoldingBelow 65536 (length e.instances)) us
alternative_below e r n k p us a f =
    let b = below_wider (length e.tokens) 65536 e.instances (let l = r.few_tokens in omega arith) (below_ready e r) in
    side_below 65536 e.instances b p.rhs us f (b.each n k p a)

-- A default value for indexing, which is never used.
abbrev pub no_origin : Origin
no_origin = record { rank = 0; place = 0; instance = 0; alternative = 0 }

pub starts_same : (is : List Instance) (numbers starts : List ℕ) → AreNumbers is numbers → All (λ s. s < length is) starts → map (λ s. get_or numbers s 0) starts ≡ map (kept_spec.nonterminal_number is) starts
starts_same is numbers [] n a = refl
starts_same is numbers (s ∷ starts) n a = (λ i. n.each s (All-head (λ x. x < length is) s starts a) i ∷ starts_same is numbers starts n (All-tail (λ x. x < length is) s starts a) i)
