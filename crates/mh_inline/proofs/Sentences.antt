-- Proves that derivations over instances, inline ones included, and derivations over the grammar have the same words.
use Rattle.std.proofs.Common.{◌≡◌, ℕ, zero, suc, false, List, [], ◌∷◌, ◌++◌, Some, map, length, get_or, refl, sym, ap, ◌∙◌, inl, inr, append_assoc, subst}
use Rattle.std.specs.List.{slice_get, All, Contains}
use Rattle.std.proofs.lemmas.List.{append-nil, map-append}
use Rattle.std.proofs.lemmas.List.Elements.{All-head, All-tail, All-contains, Contains-append_left, Contains-append_right, Contains-append_cases}
use Rattle.std.proofs.lemmas.Option.{none-some, same_Some, slice_get_within, get_or_from_slice_get}
use Rattle.mh_grammar.specs.declared.types.TokenInfo.{TokenInfo}
use Rattle.mh_grammar.specs.declared.types.Production.{Production}
use Rattle.mh_grammar.specs.declared.types.Grammar.{Grammar}
use Rattle.mh_grammar.specs.declared.types.Symbol.{Symbol}
use Rattle.mh_grammar.specs.declared.types.Symbol.TheVariants.{T, N}
use Rattle.mh_grammar.specs.Derivations as trees
use Rattle.mh_grammar.specs.Derivations.{Derivation, Derivations}
use Rattle.mh_grammar.specs.Plain.{plain_of, IsToken, Produces, Derives, DerivesAll}
use Rattle.mh_grammar.proofs.ProductionNumbers.{produces_at, listed_from_for}
use Rattle.mh_grammar.proofs.NumberingInvariant.{at_contains, contains_at}
use Rattle.mh_grammar.proofs.Lists.{contains_here, contains_there, contains_cases, contains_none, contains_map, map_contains}
use Rattle.mh_rules.specs.declared.instances.Part.{Part}
use Rattle.mh_rules.specs.declared.instances.Part.TheVariants.{Token, Instance as Applied}
use Rattle.mh_rules.specs.declared.instances.InstanceProduction.{InstanceProduction}
use Rattle.mh_rules.specs.declared.instances.Instance.{Instance}
use Rattle.mh_rules.specs.declared.instances.Expanded.{Expanded}
use Rattle.mh_inline_unfold.specs.declared.unfolding.Unfolding.{Unfolding}
use Rattle.mh_inline.specs.declared.origins.Origin.{Origin}
use Rattle.mh_inline_unfold.specs.Instances.{is_inlined, IsAlternative, IsKept}
use Rattle.mh_rules.specs.Ready.{IsExpandedReady}
use Rattle.mh_inline_unfold.specs.Unfoldings as unfoldings
use Rattle.mh_inline_unfold.specs.Unfoldings.{unfolding_of_part, with_own_prec, joined, choices, UnfoldsPart, Unfolds, UnfoldsEach}
use Rattle.mh_inline.specs.Inlined as inlined
use Rattle.mh_inline.specs.Kept.{nonterminal_number, IsOrigin, AreOrigins}
use Rattle.mh_inline_unfold.specs.FileRanks.{rank_of}
use Rattle.mh_inline.specs.Inlined.{symbol_of, production_of, AreProductions, IsInlined}
use Rattle.mh_rules.specs.Sentences.{IsTokenPart, PartProduces}
use Rattle.mh_inline.specs.Sentences.{KeepsSentences}
use Rattle.mh_inline.specs.GrammarOfInstances.{HasNoInlineStart}
use Rattle.mh_inline.proofs.Limits.{alternative_unique}
use Rattle.mh_inline.proofs.MadeProductions.{below_ready}
use Rattle.mh_inline.proofs.Ranges.{IsNonterminal, IsKeptAndBelow, number_apart, side_kept_and_below, start_at, start_nonterminal}

-- MEMBERS

contains_choices : (us vs : List Unfolding) (u v : Unfolding) → Contains us u → Contains vs v → Contains (choices us vs) (joined u v)
contains_choices [] vs u v c d = absurd (contains_none u c)
contains_choices (x ∷ us) vs u v c d = elim (contains_cases x us u c) [
  | inl e ↦ rw (← e) (Contains-append_left (map (joined x) vs) (choices us vs) (joined x v) (contains_map (joined x) vs v d))
  | inr f ↦ Contains-append_right (map (joined x) vs) (choices us vs) (joined u v) (contains_choices us vs u v f d)
]

record IsChoice (us vs : List Unfolding) (w : Unfolding) : Type 0 where
  left : Unfolding
  right : Unfolding
  from_left : Contains us left
  from_right : Contains vs right
  same : joined left right ≡ w

choices_contains : (us vs : List Unfolding) (w : Unfolding) → Contains (choices us vs) w → IsChoice us vs w
choices_contains [] vs w c = absurd (contains_none w c)
choices_contains (x ∷ us) vs w c = elim (Contains-append_cases (map (joined x) vs) (choices us vs) w c) [
  | inl d ↦ (let m = map_contains (joined x) vs w d in record { left = x; right = m.0; from_left = contains_here x us; from_right = m.1; same = m.2 })
  | inr d ↦ (let i = choices_contains us vs w d in record { left = i.left; right = i.right; from_left = contains_there x us i.left i.from_left; from_right = i.from_right; same = i.same })
]

-- FORESTS

module _ {S : Type 0} (IsLeaf : S → ℕ → Type 0) (Makes : S → List S → Type 0) where
  forest_append : (Xs Ys : List S) (u v : List ℕ) → Derivations IsLeaf Makes Xs u → Derivations IsLeaf Makes Ys v → Derivations IsLeaf Makes (Xs ++ Ys) (u ++ v)
  forest_append Xs Ys u v trees.Derivations.none g = g
  forest_append Xs Ys u v (trees.Derivations.more {u = a} {v = b} e t f) g = trees.Derivations.more (ap (λ l. l ++ v) e ∙ append_assoc a b v) t (forest_append _ Ys b v f g)

  record Split (Xs Ys : List S) (w : List ℕ) : Type 0 where
    front : List ℕ
    back : List ℕ
    same : w ≡ front ++ back
    left : Derivations IsLeaf Makes Xs front
    right : Derivations IsLeaf Makes Ys back

  forest_split : (Xs Ys : List S) (w : List ℕ) → Derivations IsLeaf Makes (Xs ++ Ys) w → Split Xs Ys w
  forest_split [] Ys w f = record { front = []; back = w; same = refl; left = trees.Derivations.none; right = f }
  forest_split (X ∷ Xs) Ys w (trees.Derivations.more {u = a} {v = b} e t f) =
      let s = forest_split Xs Ys b f in
      record { front = a ++ s.front; back = s.back; same = e ∙ ap (λ l. a ++ l) s.same ∙ sym (append_assoc a s.front s.back); left = trees.Derivations.more refl t s.left; right = s.right }

  no_more : (w : List ℕ) → Derivations IsLeaf Makes [] w → w ≡ []
  no_more w trees.Derivations.none = refl

  single_tree : (X : S) (w : List ℕ) → Derivations IsLeaf Makes (X ∷ []) w → Derivation IsLeaf Makes X w
  single_tree X w (trees.Derivations.more {u = a} {v = b} e t f) = subst (Derivation IsLeaf Makes X) (sym (e ∙ ap (λ l. a ++ l) (no_more b f) ∙ append-nil a)) t

  one_tree : (X : S) (w : List ℕ) → Derivation IsLeaf Makes X w → Derivations IsLeaf Makes (X ∷ []) w
  one_tree X w t = trees.Derivations.more (sym (append-nil w)) t trees.Derivations.none

-- FROM A DERIVATION OF AN UNFOLDING TO A DERIVATION OF THE PRODUCERS THAT IT UNFOLDS

abbrev PartDerives : Expanded → Part → List ℕ → Type 0
PartDerives e X w = Derivation IsTokenPart (PartProduces e) X w

abbrev PartsDerive : Expanded → List Part → List ℕ → Type 0
PartsDerive e Xs w = Derivations IsTokenPart (PartProduces e) Xs w

module _ (input : Expanded) where
  record FromAlternative (ps : List InstanceProduction) (w : List ℕ) : Type 0 where
    place : ℕ
    production : InstanceProduction
    at : slice_get ps place ≡ Some production
    forest : PartsDerive input production.rhs w

  mutual
    folded_part : (X : Part) (us : List Unfolding) → UnfoldsPart input.instances X us → (u : Unfolding) (w : List ℕ) → Contains us u → PartsDerive input u.rhs w → PartDerives input X w
    folded_part X us (unfoldings.UnfoldsPart.kept k) u w c f = elim (contains_cases (unfolding_of_part X) [] u c) [
      | inl e ↦ single_tree IsTokenPart (PartProduces input) X w (subst (λ (x : Unfolding). PartsDerive input x.rhs w) (sym e) f)
      | inr d ↦ absurd (contains_none u d)
    ]
    folded_part X us (unfoldings.UnfoldsPart.inlined {n = n} {i = i} at e r) u w c f =
        let a = folded_each i.productions us r u w c f in
        trees.Derivation.node (i, a.production, at, contains_at i.productions a.place a.production a.at, refl) a.forest

    pub folded_side : (Xs : List Part) (us : List Unfolding) → Unfolds input.instances Xs us → (u : Unfolding) (w : List ℕ) → Contains us u → PartsDerive input u.rhs w → PartsDerive input Xs w
    folded_side Xs us unfoldings.Unfolds.none u w c f = elim (contains_cases unfoldings.empty_unfolding [] u c) [
      | inl e ↦ subst (λ (x : Unfolding). PartsDerive input x.rhs w) (sym e) f
      | inr d ↦ absurd (contains_none u d)
    ]
    folded_side Xs us (unfoldings.Unfolds.more {X = X} {us = firsts} {vs = rests} e p g) u w c f =
        let i = choices_contains firsts rests u (rw e at c) in
        let s = forest_split IsTokenPart (PartProduces input) i.left.rhs i.right.rhs w (subst (λ (x : Unfolding). PartsDerive input x.rhs w) (sym i.same) f) in
        trees.Derivations.more s.same (folded_part X firsts p i.left s.front i.from_left s.left) (folded_side _ rests g i.right s.back i.from_right s.right)

    folded_each : (ps : List InstanceProduction) (us : List Unfolding) → UnfoldsEach input.instances ps us → (u : Unfolding) (w : List ℕ) → Contains us u → PartsDerive input u.rhs w → FromAlternative ps w
    folded_each ps us unfoldings.UnfoldsEach.no_alternative u w c f = absurd (contains_none u c)
    folded_each ps us (unfoldings.UnfoldsEach.alternative {p = p} {us = firsts} {vs = rests} e g r) u w c f = elim (Contains-append_cases (map (with_own_prec p.prec) firsts) rests u (rw e at c)) [
      | inl d ↦ (let m = map_contains (with_own_prec p.prec) firsts u d in record { place = zero; production = p; at = refl; forest = folded_side p.rhs firsts g m.0 w m.1 (subst (λ (x : Unfolding). PartsDerive input x.rhs w) (sym m.2) f) })
      | inr d ↦ (let h = folded_each _ rests r u w d f in record { place = suc h.place; production = h.production; at = h.at; forest = h.forest })
    ]

module _ (is : List Instance) where
  -- The unfoldings of an alternative are among those of its instance.
  record AmongEach (us : List Unfolding) (p : InstanceProduction) : Type 0 where
    unfoldings : List Unfolding
    unfolds : Unfolds is p.rhs unfoldings
    among : (u : Unfolding) → Contains unfoldings u → Contains us (with_own_prec p.prec u)

  among_each : (ps : List InstanceProduction) (us : List Unfolding) → UnfoldsEach is ps us → (k : ℕ) (p : InstanceProduction) → slice_get ps k ≡ Some p → AmongEach us p
  among_each ps us unfoldings.UnfoldsEach.no_alternative k p at = absurd (none-some p at)
  among_each ps us (unfoldings.UnfoldsEach.alternative {p = q} {us = firsts} {vs = rests} e g r) zero p at =
      let one : q ≡ p = same_Some q p at in
      subst (AmongEach us) one (record { unfoldings = firsts; unfolds = g; among = λ u c. rw e (Contains-append_left (map (with_own_prec q.prec) firsts) rests (with_own_prec q.prec u) (contains_map (with_own_prec q.prec) firsts u c)) })
  among_each ps us (unfoldings.UnfoldsEach.alternative {p = q} {us = firsts} {vs = rests} e g r) (suc k) p at =
      let h = among_each _ rests r k p at in
      record { unfoldings = h.unfoldings; unfolds = h.unfolds; among = λ u c. rw e (Contains-append_right (map (with_own_prec q.prec) firsts) rests (with_own_prec p.prec u) (h.among u c)) }

-- THE PRODUCTIONS OF THE GRAMMAR

module _ (tokens : List TokenInfo) (is : List Instance) where
  -- The productions of the origin s are among the productions ps.
  record FromOrigin (s : Origin) (ps : List Production) : Type 0 where
    production : InstanceProduction
    alternative : IsAlternative is s.instance s.alternative production
    unfoldings : List Unfolding
    unfolds : Unfolds is production.rhs unfoldings
    productions_listed : (u : Unfolding) → Contains unfoldings u → Contains ps (production_of tokens is s.instance (with_own_prec production.prec u))

  from_origin : (origins : List Origin) (ps : List Production) → AreProductions tokens is origins ps → (s : Origin) → Contains origins s → FromOrigin s ps
  from_origin origins ps inlined.AreProductions.none s c = absurd (contains_none s c)
  from_origin origins ps (inlined.AreProductions.more {s = t} {origins = rest} {p = p} {us = us} {ps = qs} a f e r) s c = elim (contains_cases t rest s c) [
    | inl same ↦ subst (λ (x : Origin). FromOrigin x ps) same (record {
      production = p;
      alternative = a;
      unfoldings = us;
      unfolds = f;
      productions_listed = λ u d. rw e (Contains-append_left (map (λ x. production_of tokens is t.instance (with_own_prec p.prec x)) us) qs (production_of tokens is t.instance (with_own_prec p.prec u)) (contains_map (λ x. production_of tokens is t.instance (with_own_prec p.prec x)) us u d));
    })
    | inr d ↦ (let h = from_origin rest qs r s d in record {
      production = h.production;
      alternative = h.alternative;
      unfoldings = h.unfoldings;
      unfolds = h.unfolds;
      productions_listed = λ u x. rw e (Contains-append_right (map (λ y. production_of tokens is t.instance (with_own_prec p.prec y)) us) qs (production_of tokens is s.instance (with_own_prec h.production.prec u)) (h.productions_listed u x));
    })
  ]

  -- The origin of a production.
  record Provenance (origins : List Origin) (q : Production) : Type 0 where
    origin : Origin
    among : Contains origins origin
    production : InstanceProduction
    alternative : IsAlternative is origin.instance origin.alternative production
    unfoldings : List Unfolding
    unfolds : Unfolds is production.rhs unfoldings
    unfolding_ : Unfolding
    chosen : Contains unfoldings unfolding_
    production_is : production_of tokens is origin.instance (with_own_prec production.prec unfolding_) ≡ q

  provenance : (origins : List Origin) (ps : List Production) → AreProductions tokens is origins ps → (q : Production) → Contains ps q → Provenance origins q
  provenance origins ps inlined.AreProductions.none q c = absurd (contains_none q c)
  provenance origins ps (inlined.AreProductions.more {s = t} {origins = rest} {p = p} {us = us} {ps = qs} a f e r) q c = elim (Contains-append_cases (map (λ x. production_of tokens is t.instance (with_own_prec p.prec x)) us) qs q (rw e at c)) [
    | inl d ↦ (let m = map_contains (λ x. production_of tokens is t.instance (with_own_prec p.prec x)) us q d in record { origin = t; among = contains_here t rest; production = p; alternative = a; unfoldings = us; unfolds = f; unfolding_ = m.0; chosen = m.1; production_is = m.2 })
    | inr d ↦ (let o = provenance rest qs r q d in record { origin = o.origin; among = contains_there t rest o.origin o.among; production = o.production; alternative = o.alternative; unfoldings = o.unfoldings; unfolds = o.unfolds; unfolding_ = o.unfolding_; chosen = o.chosen; production_is = o.production_is })
  ]

module _ (e : Expanded) (ready : IsExpandedReady e) (g : Grammar) (i : IsInlined e g) where
  abbrev is : List Instance
  is = e.instances

  -- The unfoldings of an alternative of a nonterminal give productions of the grammar.
  of_alternative : (n k : ℕ) (p : InstanceProduction) → is_inlined is n ≡ false → IsAlternative is n k p → (us : List Unfolding) × Unfolds is p.rhs us × ((u : Unfolding) → Contains us u → Contains g.productions (production_of e.tokens is n (with_own_prec p.prec u)))
  of_alternative n k p kept a =
      let s : Origin = record { rank = rank_of p.file; place = p.place; instance = n; alternative = k } in
      let c = (i.ordered.exact s).1 (record { kept = kept; production = p; alternative = a; rank = refl; place = refl }) in
      let h = from_origin e.tokens is i.origins g.productions i.productions s c in
      let one = alternative_unique is n k h.production p h.alternative a in (
        h.unfoldings,
        subst (λ (q : InstanceProduction). Unfolds is q.rhs h.unfoldings) one h.unfolds,
        λ u d. subst (λ (q : InstanceProduction). Contains g.productions (production_of e.tokens is n (with_own_prec q.prec u))) one (h.productions_listed u d),
      )

  -- A production of the grammar and a forest for its right side give a tree.
  node_at : (n : ℕ) (u : Unfolding) (w : List ℕ) → Contains g.productions (production_of e.tokens is n u) → DerivesAll (plain_of g) (map (symbol_of is) u.rhs) w → Derives (plain_of g) (N (nonterminal_number is n)) w
  node_at n u w c f = let at = at_contains g.productions (production_of e.tokens is n u) c in trees.Derivation.node (produces_at (plain_of g) at.0 (production_of e.tokens is n u) (nonterminal_number is n) at.1 refl) f

  -- FROM INSTANCES TO THE GRAMMAR

  record Unfolded (us : List Unfolding) (w : List ℕ) : Type 0 where
    unfolding_ : Unfolding
    chosen : Contains us unfolding_
    forest : DerivesAll (plain_of g) (map (symbol_of is) unfolding_.rhs) w

  kept_leaf : (X : Part) (a : ℕ) → IsTokenPart X a → IsKept is X → Unfolded (unfolding_of_part X ∷ []) (a ∷ [])
  kept_leaf (Token b) a t k = record { unfolding_ = unfolding_of_part (Token b); chosen = contains_here (unfolding_of_part (Token b)) []; forest = one_tree IsToken (Produces (plain_of g)) (T b) (a ∷ []) (trees.Derivation.leaf t) }
  kept_leaf (Applied n) a t k = absurd t

  kept_node : (X : Part) (rhs : List Part) (w : List ℕ) → PartProduces e X rhs → IsKept is X → ((us : List Unfolding) → Unfolds is rhs us → Unfolded us w) → Unfolded (unfolding_of_part X ∷ []) w
  kept_node (Token a) rhs w m k below = absurd m
  kept_node (Applied n) rhs w m k below =
      let place = at_contains m.0.productions m.1 m.3 in
      let a = of_alternative n place.0 m.1 k (record { instance = m.0; at = m.2; alternative = place.1 }) in
      let h = below a.0 (subst (λ Xs. Unfolds is Xs a.0) m.4 a.1) in
      record {
        unfolding_ = unfolding_of_part (Applied n);
        chosen = contains_here (unfolding_of_part (Applied n)) [];
        forest = one_tree IsToken (Produces (plain_of g)) (N (nonterminal_number is n)) w (node_at n (with_own_prec m.1.prec h.unfolding_) w (a.2 h.unfolding_ h.chosen) h.forest);
      }

  mutual
    unfolded_part : (X : Part) (w : List ℕ) → PartDerives e X w → (us : List Unfolding) → UnfoldsPart is X us → Unfolded us w
    unfolded_part X w (trees.Derivation.leaf {a = a} t) us (unfoldings.UnfoldsPart.kept k) = kept_leaf X a t k
    unfolded_part X w (trees.Derivation.leaf t) us (unfoldings.UnfoldsPart.inlined at inline r) = absurd t
    unfolded_part X w (trees.Derivation.node {rhs = rhs} made f) us (unfoldings.UnfoldsPart.kept k) = kept_node X rhs w made k (λ vs side. unfolded_side rhs w f vs side)
    unfolded_part X w (trees.Derivation.node {rhs = rhs} made f) us (unfoldings.UnfoldsPart.inlined {n = n} {i = j} at inline r) =
        let same : made.0 ≡ j = same_Some _ _ (sym made.2 ∙ at) in
        let place = at_contains made.0.productions made.1 made.3 in
        let there : slice_get j.productions place.0 ≡ Some made.1 = ap (λ (x : Instance). slice_get x.productions place.0) (sym same) ∙ place.1 in
        let a = among_each is j.productions us r place.0 made.1 there in
        let side : Unfolds is rhs a.unfoldings = subst (λ Xs. Unfolds is Xs a.unfoldings) made.4 a.unfolds in
        let h = unfolded_side rhs w f a.unfoldings side in
        record { unfolding_ = with_own_prec made.1.prec h.unfolding_; chosen = a.among h.unfolding_ h.chosen; forest = h.forest }

    unfolded_side : (Xs : List Part) (w : List ℕ) → PartsDerive e Xs w → (us : List Unfolding) → Unfolds is Xs us → Unfolded us w
    unfolded_side Xs w trees.Derivations.none us unfoldings.Unfolds.none = record { unfolding_ = unfoldings.empty_unfolding; chosen = contains_here unfoldings.empty_unfolding []; forest = trees.Derivations.none }
    unfolded_side Xs w (trees.Derivations.more {u = a} {v = b} split t f) us (unfoldings.Unfolds.more {us = firsts} {vs = rests} same p q) =
        let x = unfolded_part _ a t firsts p in
        let y = unfolded_side _ b f rests q in
        record {
          unfolding_ = joined x.unfolding_ y.unfolding_;
          chosen = rw same (contains_choices firsts rests x.unfolding_ y.unfolding_ x.chosen y.chosen);
          forest = subst (λ l. DerivesAll (plain_of g) (map (symbol_of is) (joined x.unfolding_ y.unfolding_).rhs) l) (sym split)
              (subst (λ l. DerivesAll (plain_of g) l (a ++ b)) (sym (map-append (symbol_of is) x.unfolding_.rhs y.unfolding_.rhs))
              (forest_append IsToken (Produces (plain_of g)) (map (symbol_of is) x.unfolding_.rhs) (map (symbol_of is) y.unfolding_.rhs) a b x.forest y.forest));
        }

  pub to_grammar : (X : Part) (w : List ℕ) → IsKept is X → PartDerives e X w → Derives (plain_of g) (symbol_of is X) w
  to_grammar X w k t =
      let h = unfolded_part X w t (unfolding_of_part X ∷ []) (unfoldings.UnfoldsPart.kept k) in
      elim (contains_cases (unfolding_of_part X) [] h.unfolding_ h.chosen) [
        | inl e ↦ single_tree IsToken (Produces (plain_of g)) (symbol_of is X) w (subst (λ (u : Unfolding). DerivesAll (plain_of g) (map (symbol_of is) u.rhs) w) (sym e) h.forest)
        | inr d ↦ absurd (contains_none h.unfolding_ d)
      ]

  -- FROM THE GRAMMAR TO INSTANCES

  abbrev good : Part → Type 0
  good = IsKeptAndBelow (length e.tokens) is

  nonterminal_of_good : (n : ℕ) → good (Applied n) → IsNonterminal is n
  nonterminal_of_good n h = record { kept = h.kept; within = h.below }

  leaf_back : (X : Part) (S : Symbol) (a : ℕ) → symbol_of is X ≡ S → IsToken S a → PartDerives e X (a ∷ [])
  leaf_back (Token b) (T c) a same t = let one : b ≡ c = cc in trees.Derivation.leaf (one ∙ t)
  leaf_back (Token b) (N n) a same t = absurd t
  leaf_back (Applied n) (T c) a same t = let u : N (nonterminal_number is n) ≡ T c = same in cc
  leaf_back (Applied n) (N m) a same t = absurd t

  -- The unfolding from which a production with this right side is made.
  record MadeFrom (n : ℕ) (rhs : List Symbol) : Type 0 where
    place : ℕ
    production : InstanceProduction
    alternative : IsAlternative is n place production
    unfoldings : List Unfolding
    unfolds : Unfolds is production.rhs unfoldings
    unfolding_ : Unfolding
    chosen : Contains unfoldings unfolding_
    side : map (symbol_of is) unfolding_.rhs ≡ rhs
    good_side : All good unfolding_.rhs

  made_from : (n : ℕ) (rhs : List Symbol) → good (Applied n) → Produces (plain_of g) (N (nonterminal_number is n)) rhs → MadeFrom n rhs
  made_from n rhs h p =
      let l = listed_from_for (plain_of g) (nonterminal_number is n) p.0 p.1 in
      let o = provenance e.tokens is i.origins g.productions i.productions l.production (contains_at g.productions l.place l.production l.at) in
      let origin = (i.ordered.exact o.origin).0 o.among in
      let other : IsNonterminal is o.origin.instance = record { kept = origin.kept; within = slice_get_within is o.origin.instance o.alternative.instance o.alternative.at } in
      let one : o.origin.instance ≡ n = number_apart is o.origin.instance n other (nonterminal_of_good n h) (ap (λ (q : Production). q.lhs) o.production_is ∙ l.lhs) in
      let b = below_ready e ready in
      record {
        place = o.origin.alternative;
        production = o.production;
        alternative = subst (λ m. IsAlternative is m o.origin.alternative o.production) one o.alternative;
        unfoldings = o.unfoldings;
        unfolds = o.unfolds;
        unfolding_ = o.unfolding_;
        chosen = o.chosen;
        side = ap (λ (q : Production). q.rhs) o.production_is ∙ sym l.rhs ∙ p.2;
        good_side = All-contains (λ u. All good u.rhs) o.unfoldings o.unfolding_ (side_kept_and_below (length e.tokens) is b o.production.rhs o.unfoldings o.unfolds (b.each o.origin.instance o.origin.alternative o.production o.alternative)) o.chosen;
      }

  node_back : (X : Part) (S : Symbol) (rhs : List Symbol) (w : List ℕ) → good X → symbol_of is X ≡ S → Produces (plain_of g) S rhs → ((Xs : List Part) → All good Xs → map (symbol_of is) Xs ≡ rhs → PartsDerive e Xs w) → PartDerives e X w
  node_back (Token a) S rhs w h same p below = absurd (subst (λ x. Produces (plain_of g) x rhs) (sym same) p)
  node_back (Applied n) S rhs w h same p below =
      let m = made_from n rhs h (subst (λ x. Produces (plain_of g) x rhs) (sym same) p) in
      trees.Derivation.node (m.alternative.instance, m.production, m.alternative.at, contains_at m.alternative.instance.productions m.place m.production m.alternative.alternative, refl) (folded_side e m.production.rhs m.unfoldings m.unfolds m.unfolding_ w m.chosen (below m.unfolding_.rhs m.good_side m.side))

  mutual
    from_tree : (S : Symbol) (w : List ℕ) → Derives (plain_of g) S w → (X : Part) → good X → symbol_of is X ≡ S → PartDerives e X w
    from_tree S w (trees.Derivation.leaf {a = a} t) X h same = leaf_back X S a same t
    from_tree S w (trees.Derivation.node {rhs = rhs} p f) X h same = node_back X S rhs w h same p (λ Xs hs e'. from_forest rhs w f Xs hs e')

    from_forest : (Ss : List Symbol) (w : List ℕ) → DerivesAll (plain_of g) Ss w → (Xs : List Part) → All good Xs → map (symbol_of is) Xs ≡ Ss → PartsDerive e Xs w
    from_forest Ss w trees.Derivations.none [] h same = trees.Derivations.none
    from_forest Ss w trees.Derivations.none (X ∷ Xs) h same = cc
    from_forest Ss w (trees.Derivations.more split t f) [] h same = cc
    from_forest Ss w (trees.Derivations.more {X = S} {Xs = Ss'} {u = a} {v = b} split t f) (X ∷ Xs) h same =
        let one : symbol_of is X ≡ S = cc in
        let rest : map (symbol_of is) Xs ≡ Ss' = cc in
        trees.Derivations.more split (from_tree S a t X (All-head good X Xs h) one) (from_forest Ss' b f Xs (All-tail good X Xs h) rest)

  pub from_grammar : (X : Part) (w : List ℕ) → good X → Derives (plain_of g) (symbol_of is X) w → PartDerives e X w
  from_grammar X w h t = from_tree (symbol_of is X) w t X h refl

  -- SENTENCES

  pub keeps_sentences : HasNoInlineStart e → KeepsSentences e g
  keeps_sentences kept start n w at =
      let k = start_nonterminal e ready kept start n at in
      let there = ap (λ xs. slice_get xs start) i.starts ∙ start_at e ready kept start n at in
      let same : get_or g.starts start 0 ≡ nonterminal_number is n = get_or_from_slice_get g.starts start (nonterminal_number is n) 0 there in (
        (λ t. subst (λ m. Derives (plain_of g) (N m) w) (sym same) (to_grammar (Applied n) w k.kept t)),
        (λ t. from_grammar (Applied n) w (record { kept = k.kept; below = k.within }) (subst (λ m. Derives (plain_of g) (N m) w) same t)),
      )
