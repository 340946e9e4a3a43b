-- Proves that the numbers of instances are in range.
use Rattle.std.proofs.Common.{◌≡◌, ℕ, zero, suc, ◌<◌, ◌≤◌, List, [], ◌∷◌, ◌++◌, Some, map, flat_map, length, take, drop, get_or, refl, sym, ap, subst, ◌∙◌, arith, inl, inr}
use Rattle.std.specs.List.{slice_get, All, AllZip, AllByRecursion, Contains}
use Rattle.mh_grammar.proofs.Lists.{contains_flat_map, flat_map_contains, option_map_some, recursion_contains, recursion-push, split_at, zip_left, zip_length, zip_right}
use Rattle.mh_expand.proofs.HasSameSentences.{IsReached-instance}
use Rattle.std.proofs.lemmas.Option.{slice_get_within, slice_get-get_or, slice_get-map, get_or_from_slice_get}
use Rattle.std.proofs.lemmas.List.Elements.{recursion_from_All, All-from_recursion, All-contains, Contains-append_left, Contains-append_right}
use Rattle.mh_grammar.specs.Costs.{HaveCosts}
use Rattle.mh_rules.specs.declared.joined.Head.{Head}
use Rattle.mh_rules.specs.declared.joined.Head.TheVariants.{Formal, Token, Rule}
use Rattle.mh_rules.specs.declared.joined.Applied.{Applied, out-roll-Applied}
use Rattle.mh_rules.specs.declared.joined.Applied.TheViews.{roll-Applied}
use Rattle.mh_rules.specs.declared.joined.Applied.TheFolds.{fold-roll-Applied, ind-Applied, every_here-Applied, every_held-Applied}
use Rattle.mh_rules.specs.declared.joined.JoinedAlternative.{JoinedAlternative}
use Rattle.mh_rules.specs.declared.joined.JoinedRule.{JoinedRule}
use Rattle.mh_rules.specs.declared.joined.Joined.{Joined}
use Rattle.mh_expand.specs.declared.fault.ExpandFault.TheVariants.{Arity}
use Rattle.mh_rules.specs.declared.instances.Part.{Part}
use Rattle.mh_rules.specs.declared.instances.Part.TheVariants as parts
use Rattle.mh_rules.specs.declared.instances.Instance.{Instance}
use Rattle.mh_rules.specs.declared.instances.Expanded.{Expanded}
use Rattle.mh_expand.specs.Terms.{Term, Atom, Apply, apply_all, head_of, arguments, term_step, term_of, replaced, text}
use Rattle.mh_expand.specs.Expansion as expansion
use Rattle.mh_expand.specs.Expansion.{IsInstance, IsRule, TakesArguments, HasRightArity, IsReached, IsExpanded, IsInstanceOf, IsProduction, IsPart, found_terms, producers_of, alternatives_of, right_side, rule_at, rule_of, start_term, start_terms}
use Rattle.mh_expand.proofs.FindsTerms.{alternatives_of_rule}
use Rattle.mh_expand.proofs.IsExpanding.{right_arity_or_not}
use Rattle.mh_grammar.proofs.NumberingInvariant.{contains_at, at_contains}
use Rattle.mh_rules.specs.Ready.{IsHeadBelow, IsAppliedBelow, IsRuleReady, IsJoinedReady, IsPartBelow, IsInstanceReady, IsExpandedReady}

-- All heads in the term are below the given bounds: formals, tokens and rules.
abbrev pub IsTermBelow : ℕ → ℕ → ℕ → Term → Type 0
IsTermBelow formals tokens rules (Atom h) = IsHeadBelow formals tokens rules h
IsTermBelow formals tokens rules (Apply f x) = IsTermBelow formals tokens rules f × IsTermBelow formals tokens rules x

apply_below : (f k r : ℕ) (t : Term) (xs : List Term) → IsTermBelow f k r t → AllByRecursion (IsTermBelow f k r) xs → IsTermBelow f k r (apply_all t xs)
apply_below f k r t [] a b = a
apply_below f k r t (x ∷ xs) a b = apply_below f k r (Apply t x) xs (a, b.0) b.1

all_map : {X Y : Type 0} (P : Y → Type 0) (f : X → Y) (xs : List X) → AllByRecursion (λ x. P (f x)) xs → AllByRecursion P (map f xs)
all_map P f [] a = tt
all_map P f (x ∷ xs) a = (a.0, all_map P f xs a.1)

-- If E implies B at each element of a list, and E holds at each element, then B holds at each element.
both : {X : Type 0} (E B : X → Type 0) (ys : List ((x : X) × (E x → B x))) (zs : List ((x : X) × E x)) → map (λ e. e.0) ys ≡ map (λ e. e.0) zs → AllByRecursion B (map (λ e. e.0) ys)
both E B [] zs e = tt
both E B (y ∷ ys) [] e = cc
both E B (y ∷ ys) (z ∷ zs) e =
    let same : y.0 ≡ z.0 = cc in
    let rest : map (λ v. v.0) ys ≡ map (λ v. v.0) zs = cc in
    (y.1 (rw same z.1), both E B ys zs rest)

pub term_below : (f k r : ℕ) (a : Applied) → IsAppliedBelow f k r a → IsTermBelow f k r (term_of a)
term_below f k r = ind-Applied (λ a. IsAppliedBelow f k r a → IsTermBelow f k r (term_of a)) (λ x y is below.
    let whole = out-roll-Applied x in
    let here : IsHeadBelow f k r x.head = rw (ap (λ z. z.head) whole) at (every_here-Applied (λ a. IsHeadBelow f k r a.head) (roll-Applied x) below) in
    let held = every_held-Applied (λ a. IsHeadBelow f k r a.head) (roll-Applied x) below in
    let args : map (λ e. e.0) held.0.args ≡ x.args = ap (λ z. z.args) (held.1 ∙ whole) in
    let mine : map (λ e. e.0) y.args ≡ x.args = ap (λ z. z.args) is in
    let each = both (IsAppliedBelow f k r) (λ a. IsTermBelow f k r (term_of a)) y.args held.0.args (mine ∙ sym args) in
    rw (fold-roll-Applied Term term_step x) (apply_below f k r (Atom x.head) (map term_of x.args) here (all_map (IsTermBelow f k r) term_of x.args (rw mine at each))))

-- Replacing the formals of an open term by closed terms gives a closed term.
all_get : {X : Type 0} (P : X → Type 0) (xs : List X) (i : ℕ) → AllByRecursion P xs → i < length xs → (x : X) × (slice_get xs i ≡ Some x) × P x
all_get P [] i a l = absurd (omega arith)
all_get P (x ∷ xs) zero a l = (x, refl, a.0)
all_get P (x ∷ xs) (suc i) a l = all_get P xs i a.1 (omega arith)

pub replaced_below : (k r : ℕ) (fs : List Term) (t : Term) → AllByRecursion (IsTermBelow 0 k r) fs → IsTermBelow (length fs) k r t → IsTermBelow 0 k r (replaced fs t)
replaced_below k r fs (Atom (Formal n)) a b = let x = all_get (IsTermBelow 0 k r) fs n a b in rw x.1 x.2
replaced_below k r fs (Atom (Token z)) a b = b
replaced_below k r fs (Atom (Rule q)) a b = b
replaced_below k r fs (Apply g x) a b = (replaced_below k r fs g a b.0, replaced_below k r fs x a b.1)

-- The arguments of a closed term are closed.
pub arguments_below : (k r : ℕ) (t : Term) → IsTermBelow 0 k r t → AllByRecursion (IsTermBelow 0 k r) (arguments t)
arguments_below k r (Atom h) b = tt
arguments_below k r (Apply f x) b = recursion-push (IsTermBelow 0 k r) (arguments f) x (arguments_below k r f b.0) b.1

module _ (j : Joined) (e : Expanded) (w : IsExpanded j e) (ready : IsJoinedReady j) where
  tokens : ℕ
  tokens = length j.tokens

  rules : ℕ
  rules = length j.rules

  -- Each found term has the right number of arguments.
  found_fits : (t : Term) → Contains (found_terms j w.terms) t → HasRightArity j t
  found_fits t c =
      let at = at_contains (found_terms j w.terms) t c in
      let l = slice_get_within (found_terms j w.terms) at.0 t at.1 in
      elim (right_arity_or_not j t) [
        | inl f ↦ f
        | inr f ↦ absurd (w.no_fault (take at.0 (found_terms j w.terms)) (drop (suc at.0) (found_terms j w.terms)) t (Arity (text j t)) (split_at (found_terms j w.terms) at.0 t l (sym (get_or_from_slice_get (found_terms j w.terms) at.0 t t at.1))) (expansion.IsFault.count f))
      ]

  reached_fits : (t : Term) → IsReached j t → HasRightArity j t
  reached_fits t (expansion.IsReached.start c) = found_fits t (Contains-append_left (start_terms j) (flat_map (producers_of j) w.terms) t c)
  reached_fits x (expansion.IsReached.producer {t} r c i) = found_fits x (Contains-append_right (start_terms j) (flat_map (producers_of j) w.terms) x (contains_flat_map (producers_of j) w.terms t x ((w.exact t).1 r) c))

  -- An instance with the right number of arguments has a rule with this number of formals, and the numbers of tokens
  -- and rules in it are in range (`IsRuleReady`).
  fit_rule : (t : Term) → IsInstance t → HasRightArity j t → (q : JoinedRule) × (rule_of j t ≡ Some q) × (q.formals ≡ length (arguments t)) × IsRuleReady tokens rules q
  unfolding tokens rules
  fit_rule t i f = go (head_of t) refl i f
    where
      go : (h : Head) → head_of t ≡ h → IsRule h → TakesArguments j h (length (arguments t)) → (q : JoinedRule) × (rule_of j t ≡ Some q) × (q.formals ≡ length (arguments t)) × IsRuleReady (length j.tokens) (length j.rules) q
      go (Formal n) e i f = absurd i
      go (Token z) e i f = absurd i
      go (Rule n) e i f =
          let q = option_map_some (λ (q : JoinedRule). q.formals) (slice_get j.rules n) (length (arguments t)) f in
          (q.0, ap (rule_at j) e ∙ q.1, q.2, All-contains (IsRuleReady (length j.tokens) (length j.rules)) j.rules q.0 ready.rules_ready (contains_at j.rules n q.0 q.1))

  -- The producers of a closed instance are closed.
  side_below : (t : Term) → IsInstance t → HasRightArity j t → IsTermBelow 0 tokens rules t → (a : JoinedAlternative) → Contains (alternatives_of j t) a → AllByRecursion (IsTermBelow 0 tokens rules) (right_side t a)
  unfolding tokens rules
  side_below t i f b a c =
      let q = fit_rule t i f in
      let there : Contains q.0.alternatives a = rw (alternatives_of_rule j t q.0 q.1) at c in
      let heads = All-contains (λ (x : JoinedAlternative). All (IsAppliedBelow q.0.formals tokens rules) x.producers) q.0.alternatives a q.3.heads_below there in
      go a.producers (recursion_from_All (IsAppliedBelow q.0.formals tokens rules) a.producers heads) q.2
    where
      go : (ps : List Applied) {n : ℕ} → AllByRecursion (IsAppliedBelow n (length j.tokens) (length j.rules)) ps → n ≡ length (arguments t) → AllByRecursion (IsTermBelow 0 (length j.tokens) (length j.rules)) (map (λ p. replaced (arguments t) (term_of p)) ps)
      go [] h e = tt
      go (p ∷ ps) {n} h e = (
        replaced_below (length j.tokens) (length j.rules) (arguments t) (term_of p) (arguments_below (length j.tokens) (length j.rules) t b) (rw (← e) (term_below n (length j.tokens) (length j.rules) p h.0)),
        go ps h.1 e,
      )

  closed_start : (t : Term) → Contains (start_terms j) t → IsTermBelow 0 tokens rules t
  unfolding tokens rules
  closed_start t c =
      let at = at_contains (start_terms j) t c in
      go j.starts (recursion_from_All (λ s. s < length j.rules) j.starts ready.starts_below) at.0 at.1
    where
      go : (rs : List ℕ) → AllByRecursion (λ s. s < length j.rules) rs → (i : ℕ) → slice_get (map start_term rs) i ≡ Some t → IsTermBelow 0 (length j.tokens) (length j.rules) t
      go [] a i e = cc
      go (r ∷ rs) a zero e = let same : start_term r ≡ t = cc in rw (← same) a.0
      go (r ∷ rs) a (suc i) e = go rs a.1 i e

  closed : (t : Term) → IsReached j t → IsTermBelow 0 tokens rules t
  closed t (expansion.IsReached.start c) = closed_start t c
  closed x (expansion.IsReached.producer {t} r c i) =
      let a = flat_map_contains (right_side t) (alternatives_of j t) x c in
      recursion_contains (IsTermBelow 0 tokens rules) (right_side t a.0) (side_below t (IsReached-instance j t r) (reached_fits t r) (closed t r) a.0 a.1) x a.2

  instances : ℕ
  instances = length e.instances

  terms_many : length w.terms ≡ instances
  unfolding instances
  terms_many = zip_length (IsInstanceOf j w.terms) w.terms e.instances w.each

  part_below : (t : Term) (p : Part) → IsTermBelow 0 tokens rules t → IsPart w.terms t p → IsPartBelow tokens instances p
  part_below t (parts.Token z) b i = rw i at b
  part_below t (parts.Instance n) b i = omega (arith, slice_get_within w.terms n t i, terms_many)

  parts_below : (ts : List Term) (ps : List Part) → AllByRecursion (IsTermBelow 0 tokens rules) ts → AllZip (IsPart w.terms) ts ps → AllByRecursion (IsPartBelow tokens instances) ps
  parts_below [] [] a z = tt
  parts_below [] (p ∷ ps) a z = absurd z
  parts_below (t ∷ ts) [] a z = absurd z
  parts_below (t ∷ ts) (p ∷ ps) a z = (part_below t p a.0 z.0, parts_below ts ps a.1 z.1)

  instance_ready : (n : ℕ) (i : Instance) → slice_get e.instances n ≡ Some i → IsInstanceReady tokens instances i
  instance_ready n i at =
      let t = zip_right (IsInstanceOf j w.terms) w.terms e.instances w.each n i at in
      let r = (w.exact t.0).0 (contains_at w.terms n t.0 t.1) in
      let instance = IsReached-instance j t.0 r in
      let fits = reached_fits t.0 r in
      let q = fit_rule t.0 instance fits in
      let count = zip_length (IsProduction w.terms t.0) (alternatives_of j t.0) i.productions t.2.productions in
      let same = ap length (alternatives_of_rule j t.0 q.0 q.1) in
      record {
        has_some = omega (arith, count, same, q.3.has_some);
        parts_below = λ k d l.
            let p = get_or i.productions k d in
            let a = zip_right (IsProduction w.terms t.0) (alternatives_of j t.0) i.productions t.2.productions k p (slice_get-get_or i.productions k d l) in
            let side = side_below t.0 instance fits (closed t.0 r) a.0 (contains_at (alternatives_of j t.0) k a.0 a.1) in
            All-from_recursion (IsPartBelow tokens instances) p.rhs (parts_below (right_side t.0 a.0) p.rhs side a.2.rhs);
      }

  start_at : (k n : ℕ) → slice_get e.starts k ≡ Some n → (r : ℕ) × (slice_get j.starts k ≡ Some r) × (slice_get w.terms n ≡ Some (start_term r))
  start_at k n at =
      let t = zip_left (λ m x. slice_get w.terms m ≡ Some x) e.starts (start_terms j) w.starts k n at in
      let r = option_map_some start_term (slice_get j.starts k) t.0 (sym (slice_get-map start_term j.starts k) ∙ t.1) in
      (r.0, r.1, t.2 ∙ ap Some (sym r.2))

  one_rule : (r s : ℕ) → start_term r ≡ start_term s → r ≡ s
  one_rule r s same = let f : Rule r ≡ Rule s = ap head_of same in cc

  pub IsExpandedReady-expanded : length e.instances ≤ 20000 → IsExpandedReady e
  unfolding tokens rules instances
  IsExpandedReady-expanded few = record {
    few_tokens = rw w.tokens (omega (arith, ready.few_tokens));
    costs = subst HaveCosts (sym w.tokens) ready.costs;
    few_instances = few;
    starts_below = λ k d l.
        let n = get_or e.starts k d in
        let s = start_at k n (slice_get-get_or e.starts k d l) in
        omega (arith, slice_get_within w.terms n (start_term s.0) s.2, terms_many);
    starts_distinct = λ i k d l m same.
        let n = get_or e.starts i d in
        let a = start_at i n (slice_get-get_or e.starts i d (omega arith)) in
        let b = start_at k n (slice_get-get_or e.starts k d m ∙ ap Some (sym same)) in
        let term : start_term a.0 ≡ start_term b.0 = (let x = a.2 in let y = b.2 in cc) in
        let rule = one_rule a.0 b.0 term in
        let first = get_or_from_slice_get j.starts i a.0 d a.1 in
        let second = get_or_from_slice_get j.starts k b.0 d b.1 in
        ready.starts_distinct i k d l (slice_get_within j.starts k b.0 b.1) (first ∙ rule ∙ sym second);
    instances_ready = rw w.tokens (λ k d l. instance_ready k (get_or e.instances k d) (slice_get-get_or e.instances k d l));
  }
