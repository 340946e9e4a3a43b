-- Proves that the order of finding is unique, and therefore the result.
use Rattle.std.proofs.Common.{◌≡◌, ℕ, ◌⊎◌, List, [], ◌∷◌, ◌++◌, Option, Some, None, flat_map, refl, sym, ap, ◌∙◌, arith, append_assoc, inl, inr}
use Rattle.std.specs.List.{slice_get, AllZip, Contains}
use Rattle.std.proofs.lemmas.List.{append-nil}
use Rattle.std.proofs.lemmas.Bool.{cases_lt}
use Rattle.std.proofs.lemmas.List.Elements.{Contains-append_right}
use Rattle.std.proofs.lemmas.Grind.{flat_map-append}
use Rattle.mh_grammar.proofs.Lists.{contains_here, split_push, zip_unique}
use Rattle.mh_grammar.specs.Numbering.{AreDistinct}
use Rattle.mh_grammar.proofs.NumberingInvariant.{AreDistinct-push, contains_at}
use Rattle.mh_rules.specs.declared.joined.Applied.{Applied}
use Rattle.mh_rules.specs.declared.joined.Head.TheVariants.{Token}
use Rattle.mh_rules.specs.declared.joined.JoinedAlternative.{JoinedAlternative}
use Rattle.mh_rules.specs.declared.joined.Joined.{Joined}
use Rattle.mh_expand.specs.declared.fault.ExpandFault.{ExpandFault}
use Rattle.mh_rules.specs.declared.instances.Part.{Part}
use Rattle.mh_rules.specs.declared.instances.Part.TheVariants as parts
use Rattle.mh_rules.specs.declared.instances.InstanceProduction.{InstanceProduction}
use Rattle.mh_rules.specs.declared.instances.Instance.{Instance}
use Rattle.mh_rules.specs.declared.instances.Expanded.{Expanded}
use Rattle.mh_expand.specs.Terms.{Term, Atom}
use Rattle.mh_expand.specs.Expansion as expansion
use Rattle.mh_expand.specs.Expansion.{IsInstance, IsFindingOrder, found_terms, producers_of, alternatives_of, right_side, start_terms, IsFault, HasNoFault, IsFirstFaultIn, IsFirstFault, IsReached, IsOnErrorRank, Declares, IsPart, IsProduction, IsInstanceOf, IsExpanded}
use Rattle.mh_expand.proofs.IsExpanding.{found_terms_reached, finding_order_reached}
use Rattle.mh_expand.proofs.HasSameSentences.{IsReached-instance}

-- Two splits of one list are equal, or one comes before the other.
pub compare_splits : {X : Type 0} (b c : List X) (t u : X) (a d : List X) → b ++ t ∷ a ≡ c ++ u ∷ d → ((b ≡ c) × (t ≡ u)) ⊎ (((rest : List X) × (c ≡ b ++ t ∷ rest)) ⊎ ((rest : List X) × (b ≡ c ++ u ∷ rest)))
compare_splits [] [] t u a d e = let same : t ≡ u = cc in inl (refl, same)
compare_splits [] (y ∷ c) t u a d e = let same : t ≡ y = cc in inr (inl (c, ap (λ z. z ∷ c) (sym same)))
compare_splits (x ∷ b) [] t u a d e = let same : x ≡ u = cc in inr (inr (b, ap (λ z. z ∷ b) same))
compare_splits (x ∷ b) (y ∷ c) t u a d e =
    let same : x ≡ y = cc in
    let rest : b ++ t ∷ a ≡ c ++ u ∷ d = cc in
    elim (compare_splits b c t u a d rest) [
      | inl s ↦ inl ((λ i. same i ∷ s.0 i), s.1)
      | inr s ↦ elim s [
        | inl r ↦ inr (inl (r.0, (λ i. sym same i ∷ r.1 i)))
        | inr r ↦ inr (inr (r.0, (λ i. same i ∷ r.1 i)))
      ]
    ]

-- The term t is the next instance after the instances ts.
record IsNext (j : Joined) (ts : List Term) (t : Term) : Type 0 where
  before : List Term
  after : List Term
  split : found_terms j ts ≡ before ++ t ∷ after
  instance : IsInstance t
  new : Contains ts t → ⊥
  others : (x : Term) → Contains before x → IsInstance x → Contains ts x

pub Contains-middle : {X : Type 0} (b : List X) (t : X) (rest c : List X) → c ≡ b ++ t ∷ rest → Contains c t
Contains-middle b t rest c e = rw e (Contains-append_right b (t ∷ rest) t (contains_here t rest))

one_next : (j : Joined) (ts : List Term) (t u : Term) → IsNext j ts t → IsNext j ts u → t ≡ u
one_next j ts t u n m = elim (compare_splits n.before m.before t u n.after m.after (sym n.split ∙ m.split)) [
  | inl s ↦ s.1
  | inr s ↦ elim s [
    | inl r ↦ absurd (n.new (m.others t (Contains-middle n.before t r.0 m.before r.1) n.instance))
    | inr r ↦ absurd (m.new (n.others u (Contains-middle m.before u r.0 n.before r.1) m.instance))
  ]
]

front_next : (j : Joined) (ys : List Term) → IsFindingOrder j ys → (xs : List Term) (u : Term) (rest : List Term) → ys ≡ xs ++ u ∷ rest → IsNext j xs u
front_next j [] expansion.IsFindingOrder.none [] u rest e = cc
front_next j [] expansion.IsFindingOrder.none (x ∷ xs) u rest e = cc
front_next j ys (expansion.IsFindingOrder.more {ts = us} {t} before after a split i new others) xs u rest e = elim (split_push us t xs u rest e) [
  | inl s ↦ (let n : IsNext j us t = record { before = before; after = after; split = split; instance = i; new = new; others = others } in rw (← s.0, ← s.1) n)
  | inr r ↦ front_next j us a xs u r.0 r.1
]

-- Of two prefixes of the order of finding one is a prefix of the other.
fronts : (j : Joined) (xs : List Term) → IsFindingOrder j xs → (ys : List Term) → IsFindingOrder j ys → ((more : List Term) × (ys ≡ xs ++ more)) ⊎ ((more : List Term) × (xs ≡ ys ++ more))
fronts j [] expansion.IsFindingOrder.none ys b = inl (ys, refl)
fronts j xs (expansion.IsFindingOrder.more {ts = us} {t} before after a split i new others) ys b = elim (fronts j us a ys b) [
  | inl l ↦ go l.0 l.1
  | inr r ↦ inr (r.0 ++ t ∷ [], ap (λ v. v ++ t ∷ []) r.1 ∙ append_assoc ys r.0 (t ∷ []))
]
  where
    go : (m : List Term) → ys ≡ us ++ m → ((more : List Term) × (ys ≡ (us ++ t ∷ []) ++ more)) ⊎ ((more : List Term) × (us ++ t ∷ [] ≡ ys ++ more))
    go [] e = inr (t ∷ [], ap (λ v. v ++ t ∷ []) (sym (e ∙ append-nil us)))
    go (u ∷ m) e =
        let mine : IsNext j us t = record { before = before; after = after; split = split; instance = i; new = new; others = others } in
        let same = one_next j us u t (front_next j ys b us u m e) mine in
        inl (m, e ∙ ap (λ v. us ++ v ∷ m) same ∙ sym (append_assoc us (t ∷ []) m))

pub found_terms-append : (j : Joined) (xs ys : List Term) → found_terms j (xs ++ ys) ≡ found_terms j xs ++ flat_map (producers_of j) ys
found_terms-append j xs ys = ap (λ l. start_terms j ++ l) (flat_map-append (producers_of j) xs ys) ∙ sym (append_assoc (start_terms j) (flat_map (producers_of j) xs) (flat_map (producers_of j) ys))

-- No instance comes after all instances.
no_more : (j : Joined) (e : Expanded) (w : IsExpanded j e) (u : Term) → IsNext j w.terms u → ⊥
no_more j e w u n = n.new ((w.exact u).1 (found_terms_reached j w.terms (finding_order_reached j w.terms w.order) u (Contains-middle n.before u n.after (found_terms j w.terms) n.split) n.instance))

not_after : (j : Joined) (e : Expanded) (w : IsExpanded j e) (ys : List Term) → IsFindingOrder j ys → (m : List Term) → ys ≡ w.terms ++ m → ys ≡ w.terms
not_after j e w ys b [] q = q ∙ append-nil w.terms
not_after j e w ys b (u ∷ m) q = absurd (no_more j e w u (front_next j ys b w.terms u m q))

-- If all instances are found without a fault, there is no first fault.
pub expanded_has_no_fault : (j : Joined) (e : Expanded) → IsExpanded j e → (x : ExpandFault) → IsFirstFault j x → ⊥
expanded_has_no_fault j e w x f = elim (fronts j f.found f.order w.terms w.order) [
  | inl l ↦ w.no_fault f.fails.before (f.fails.after ++ flat_map (producers_of j) l.0) f.fails.term x
      (ap (found_terms j) l.1 ∙ found_terms-append j f.found l.0 ∙ ap (λ v. v ++ flat_map (producers_of j) l.0) f.fails.split ∙ append_assoc f.fails.before (f.fails.term ∷ f.fails.after) (flat_map (producers_of j) l.0)) f.fails.fault
  | inr r ↦ w.no_fault f.fails.before f.fails.after f.fails.term x (ap (found_terms j) (sym (not_after j e w f.found f.order r.0 r.1)) ∙ f.fails.split) f.fails.fault
]

-- The fault of a term is unique.
same_fault : (j : Joined) (before : List Term) (t : Term) (x y : ExpandFault) → IsFault j before t x → IsFault j before t y → x ≡ y
same_fault j before t x y (expansion.IsFault.count f) (expansion.IsFault.count g) = refl
same_fault j before t x y (expansion.IsFault.count f) (expansion.IsFault.long g n l) = absurd (f g)
same_fault j before t x y (expansion.IsFault.count f) (expansion.IsFault.full g n l) = absurd (f g)
same_fault j before t x y (expansion.IsFault.long f n l) (expansion.IsFault.count g) = absurd (g f)
same_fault j before t x y (expansion.IsFault.long f n l) (expansion.IsFault.long g m k) = refl
same_fault j before t x y (expansion.IsFault.long f n l) (expansion.IsFault.full g m k) = refl
same_fault j before t x y (expansion.IsFault.full f n l) (expansion.IsFault.count g) = absurd (g f)
same_fault j before t x y (expansion.IsFault.full f n l) (expansion.IsFault.long g m k) = refl
same_fault j before t x y (expansion.IsFault.full f n l) (expansion.IsFault.full g m k) = refl

same_fails : (j : Joined) (ts : List Term) (x y : ExpandFault) → IsFirstFaultIn j ts x → IsFirstFaultIn j ts y → x ≡ y
same_fails j ts x y f g = elim (compare_splits f.before g.before f.term g.term f.after g.after (sym f.split ∙ g.split)) [
  | inl s ↦ same_fault j g.before g.term x y (rw (s.0, s.1) at f.fault) g.fault
  | inr s ↦ elim s [
    | inl r ↦ absurd (g.no_fault f.before r.0 f.term x r.1 f.fault)
    | inr r ↦ absurd (f.no_fault g.before r.0 g.term y r.1 g.fault)
  ]
]

longer_fails : (j : Joined) (xs ys more : List Term) (x : ExpandFault) → ys ≡ xs ++ more → IsFirstFaultIn j (found_terms j xs) x → IsFirstFaultIn j (found_terms j ys) x
longer_fails j xs ys more x e f = record {
  before = f.before;
  term = f.term;
  after = f.after ++ flat_map (producers_of j) more;
  split = ap (found_terms j) e ∙ found_terms-append j xs more ∙ ap (λ v. v ++ flat_map (producers_of j) more) f.split ∙ append_assoc f.before (f.term ∷ f.after) (flat_map (producers_of j) more);
  no_fault = f.no_fault;
  fault = f.fault;
}

pub fault_unique : (j : Joined) (x y : ExpandFault) → IsFirstFault j x → IsFirstFault j y → x ≡ y
fault_unique j x y f g = elim (fronts j f.found f.order g.found g.order) [
  | inl l ↦ same_fails j (found_terms j g.found) x y (longer_fails j f.found g.found l.0 x l.1 f.fails) g.fails
  | inr r ↦ same_fails j (found_terms j f.found) x y f.fails (longer_fails j g.found f.found r.0 y r.1 g.fails)
]

-- The list of instances is unique.
one_terms : (j : Joined) (a b : Expanded) (v : IsExpanded j a) (w : IsExpanded j b) → v.terms ≡ w.terms
one_terms j a b v w = elim (fronts j v.terms v.order w.terms w.order) [
  | inl l ↦ sym (not_after j a v w.terms w.order l.0 l.1)
  | inr r ↦ not_after j b w v.terms v.order r.0 r.1
]

pub finding_order_distinct : (j : Joined) (ts : List Term) → IsFindingOrder j ts → AreDistinct ts
finding_order_distinct j [] expansion.IsFindingOrder.none = record { same = λ i k x e f. cc }
finding_order_distinct j ts (expansion.IsFindingOrder.more {ts = us} {t} before after a split i new others) = AreDistinct-push us t (finding_order_distinct j us a) new

same_rank : (ds : List (List Applied)) (t : Term) (o p : Option ℕ) → IsOnErrorRank ds t o → IsOnErrorRank ds t p → o ≡ p
same_rank ds t None None v w = refl
same_rank ds t None (Some r) v w = absurd (v r w.0.0 w.0.1 w.0.2)
same_rank ds t (Some q) None v w = absurd (w q v.0.0 v.0.1 v.0.2)
same_rank ds t (Some q) (Some r) v w = elim (cases_lt q r) [
  | inl l ↦ absurd (w.1 q v.0.0 l v.0.1 v.0.2)
  | inr l ↦ elim (cases_lt r q) [
    | inl m ↦ absurd (v.1 r w.0.0 m w.0.1 w.0.2)
    | inr m ↦ (let same : q ≡ r = omega arith in ap Some same)
  ]
]

module _ (j : Joined) (ts : List Term) (distinct : AreDistinct ts) (instances : (n : ℕ) (t : Term) → slice_get ts n ≡ Some t → IsInstance t) where
  same_part : (t : Term) (p q : Part) → IsPart ts t p → IsPart ts t q → p ≡ q
  same_part t (parts.Token y) (parts.Token z) v w = let f : Atom (Token y) ≡ Atom (Token z) = sym v ∙ w in let g : Token y ≡ Token z = cc in let h : y ≡ z = cc in ap parts.Token h
  same_part t (parts.Token y) (parts.Instance n) v w = absurd (rw v at (instances n t w))
  same_part t (parts.Instance m) (parts.Token z) v w = absurd (rw w at (instances m t v))
  same_part t (parts.Instance m) (parts.Instance n) v w = ap parts.Instance (distinct.same m n t v w)

  same_production : (t : Term) (a : JoinedAlternative) (p q : InstanceProduction) → IsProduction ts t a p → IsProduction ts t a q → p ≡ q
  same_production t a p q v w =
      let file : p.file ≡ q.file = v.file ∙ sym w.file in
      let place : p.place ≡ q.place = v.place ∙ sym w.place in
      let prec : p.prec ≡ q.prec = v.prec ∙ sym w.prec in
      let rhs : p.rhs ≡ q.rhs = zip_unique (IsPart ts) same_part (right_side t a) p.rhs q.rhs v.rhs w.rhs in
      λ i. record { file = file i; place = place i; rhs = rhs i; prec = prec i }

  same_instance : (t : Term) (p q : Instance) → IsInstanceOf j ts t p → IsInstanceOf j ts t q → p ≡ q
  same_instance t p q v w =
      let name : p.name ≡ q.name = v.name ∙ sym w.name in
      let both : Some p.inlined ≡ Some q.inlined = sym v.inlined ∙ w.inlined in
      let inlined : p.inlined ≡ q.inlined = cc in
      let on_error = same_rank j.on_error t p.on_error q.on_error v.on_error w.on_error in
      let productions : p.productions ≡ q.productions = zip_unique (IsProduction ts t) (same_production t) (alternatives_of j t) p.productions q.productions v.productions w.productions in
      λ i. record { name = name i; inlined = inlined i; on_error = on_error i; productions = productions i }

-- The numbers of a list of terms are unique, if the terms differ.
names_one : (ts : List Term) → AreDistinct ts → (a b : List ℕ) (xs : List Term) → AllZip (λ n x. slice_get ts n ≡ Some x) a xs → AllZip (λ n x. slice_get ts n ≡ Some x) b xs → a ≡ b
names_one ts d [] [] [] v w = refl
names_one ts d [] b (x ∷ xs) v w = absurd v
names_one ts d (m ∷ a) b [] v w = absurd v
names_one ts d [] (n ∷ b) [] v w = absurd w
names_one ts d (m ∷ a) [] (x ∷ xs) v w = absurd w
names_one ts d (m ∷ a) (n ∷ b) (x ∷ xs) v w = let first = d.same m n x v.0 w.0 in let rest = names_one ts d a b xs v.1 w.1 in λ i. first i ∷ rest i

pub expanded_unique : (j : Joined) (a b : Expanded) → IsExpanded j a → IsExpanded j b → a ≡ b
expanded_unique j a b v w =
    let same = one_terms j a b v w in
    let distinct = finding_order_distinct j v.terms v.order in
    let instances : (n : ℕ) (t : Term) → slice_get v.terms n ≡ Some t → IsInstance t = (λ n t e. IsReached-instance j t ((v.exact t).0 (contains_at v.terms n t e))) in
    let tokens : a.tokens ≡ b.tokens = v.tokens ∙ sym w.tokens in
    let starts_b : AllZip (λ n x. slice_get v.terms n ≡ Some x) b.starts (start_terms j) = rw same w.starts in
    let starts = names_one v.terms distinct a.starts b.starts (start_terms j) v.starts starts_b in
    let each_b : AllZip (IsInstanceOf j v.terms) v.terms b.instances = rw same w.each in
    let list = zip_unique (IsInstanceOf j v.terms) (same_instance j v.terms distinct instances) v.terms a.instances b.instances v.each each_b in
    λ i. record { tokens = tokens i; starts = starts i; instances = list i }
