-- Proves that the numbers in the grammar are in range, and that its start symbols differ.
use Rattle.std.proofs.Common.{◌≡◌, ℕ, ◌^◌, ◌<◌, ◌≤◌, Bool, true, false, not, cond, List, [], ◌∷◌, Some, map, filter, count_by, take, length, get_or, refl, sym, ap, ◌∙◌, arith, inl, inr, subst}
use Rattle.std.specs.Option.{option_map, unwrap_or}
use Rattle.std.specs.List.{slice_get, All, Contains}
use Rattle.std.proofs.lemmas.Bool.{false≢true, cases_lt}
use Rattle.std.proofs.lemmas.List.{take_all, take-take, length-take, length-map, get_or-take}
use Rattle.std.proofs.lemmas.List.Sums.{sum_by_more_le, length-filter, count_by-le-length}
use Rattle.std.proofs.lemmas.List.Elements.{All-nil, All-append, All-map, All-weaker, All-same, All-contains}
use Rattle.std.proofs.lemmas.Option.{same_Some, slice_get_within, slice_get-get_or, get_or_from_slice_get, slice_get-map}
use Rattle.mh_grammar.specs.declared.types.TokenInfo.{TokenInfo}
use Rattle.mh_grammar.specs.declared.types.Production.{Production}
use Rattle.mh_grammar.specs.declared.types.Grammar.{Grammar}
use Rattle.mh_grammar.specs.Numbering.{AreDistinct}
use Rattle.mh_grammar.specs.Plain.{plain_of, IsInRange, IsProductive, IsSymbolBelow, IsProductionBelow}
use Rattle.mh_grammar.proofs.Pigeonhole.{length-distinct_in}
use Rattle.mh_grammar.proofs.Lists.{contains_here, contains_there}
use Rattle.mh_rules.specs.declared.joined.Prec.{Prec}
use Rattle.mh_rules.specs.declared.instances.Part.{Part}
use Rattle.mh_rules.specs.declared.instances.Part.TheVariants.{Token, Instance as Applied}
use Rattle.mh_rules.specs.declared.instances.Instance.{Instance}
use Rattle.mh_rules.specs.declared.instances.Expanded.{Expanded}
use Rattle.mh_inline_unfold.specs.declared.unfolding.Unfolding.{Unfolding}
use Rattle.mh_inline.specs.declared.origins.Origin.{Origin}
use Rattle.mh_inline_unfold.specs.Instances.{is_inlined, IsKept}
use Rattle.mh_rules.specs.Ready.{IsPartBelow, IsExpandedReady}
use Rattle.mh_inline_unfold.specs.Unfoldings.{with_own_prec, Unfolds}
use Rattle.mh_inline.specs.Inlined as inlined
use Rattle.mh_inline.specs.Kept.{is_kept, nonterminal_of, nonterminal_number, IsOrigin, AreOrigins}
use Rattle.mh_inline.specs.Inlined.{symbol_of, production_of, AreProductions, IsInlined}
use Rattle.mh_inline.specs.Cycles.{HasNoCycle}
use Rattle.mh_inline.specs.code.ProductiveMarks.{IsFirstUnmarked, HasEmptyStart}
use Rattle.mh_inline.specs.GrammarOfInstances.{HasNoInlineStart, IsWithinLimits}
use Rattle.mh_inline.proofs.MadeProductions.{AreBelow, below_ready, each_of_side}
use Rattle.mh_inline.proofs.IsCyclic.{numbers_below, length-numbers, numbers_at}

-- The number n is that of an instance that is not inline.
pub record IsNonterminal (is : List Instance) (n : ℕ) : Type 0 where
  pub kept : is_inlined is n ≡ false
  pub within : n < length is

kept_here : (is : List Instance) (n : ℕ) (d : Instance) → IsNonterminal is n → is_kept (get_or is n d) ≡ true
kept_here is n d k = ap not (ap (λ o. unwrap_or (option_map (λ (i : Instance). i.inlined) o) false) (sym (slice_get-get_or is n d k.within)) ∙ k.kept)

kept_front : (is : List Instance) (n m : ℕ) (d : Instance) → IsNonterminal is n → n < m → is_kept (get_or (take m is) n d) ≡ true
kept_front is n m d k l = ap is_kept (get_or-take m is n d l) ∙ kept_here is n d k

-- The numbers of nonterminals rise with the numbers of their instances.
pub number_rises : (is : List Instance) (n m : ℕ) → IsNonterminal is n → n < m → m ≤ length is → nonterminal_number is n < nonterminal_number is m
number_rises is n m k l w = go is (k.within) refl
  where
    go : (xs : List Instance) → n < length xs → is ≡ xs → nonterminal_number is n < nonterminal_number is m
    go [] inside same = absurd (omega arith)
    go (d ∷ xs) inside same =
        let inside : n < length (take m is) = omega (arith, length-take m is) in
        let most = sum_by_more_le (λ i. cond (is_kept i) 1 0) (take m is) n d inside in
        let front : nonterminal_number is n ≡ count_by is_kept (take n (take m is)) = ap (count_by is_kept) (sym (take-take n m is (omega arith))) in
        let one : ℕ = 1 in
        let here : cond (is_kept (get_or (take m is) n d)) 1 0 ≡ one = ap (λ b. cond b 1 0) (kept_front is n m d k l) in
        omega (arith, most, front, here)

pub number_below : (is : List Instance) (n : ℕ) → IsNonterminal is n → nonterminal_number is n < length (map nonterminal_of (filter is_kept is))
number_below is n k =
    let rises = number_rises is n (length is) k k.within (omega arith) in
    let all : nonterminal_number is (length is) ≡ count_by is_kept is = ap (count_by is_kept) (take_all (length is) is (omega arith)) in
    let len = length-map (filter is_kept is) nonterminal_of ∙ length-filter is_kept is in
    omega arith

-- Different nonterminals have different numbers.
pub number_apart : (is : List Instance) (n m : ℕ) → IsNonterminal is n → IsNonterminal is m → nonterminal_number is n ≡ nonterminal_number is m → n ≡ m
number_apart is n m k l e = elim (cases_lt n m) [
  | inl below ↦ absurd (let r = number_rises is n m k below (let w = l.within in omega arith) in omega arith)
  | inr above ↦ elim (cases_lt m n) [
    | inl below ↦ absurd (let r = number_rises is m n l below (let w = k.within in omega arith) in omega arith)
    | inr both ↦ omega arith
  ]
]

-- PRODUCERS

-- The producer is not inline and is in range.
pub record IsKeptAndBelow (t : ℕ) (is : List Instance) (X : Part) : Type 0 where
  pub kept : IsKept is X
  pub below : IsPartBelow t (length is) X

module _ (t : ℕ) (is : List Instance) (b : AreBelow t is) where
  abbrev Good : Unfolding → Type 0
  Good u = All (IsKeptAndBelow t is) u.rhs

  pub side_kept_and_below : (Xs : List Part) (us : List Unfolding) → Unfolds is Xs us → All (IsPartBelow t (length is)) Xs → All Good us
  side_kept_and_below = each_of_side t is b (IsKeptAndBelow t is) (λ X k p. record { kept = k; below = p })

  abbrev Count : ℕ
  Count = length (map nonterminal_of (filter is_kept is))

  symbol_below : (X : Part) → IsKeptAndBelow t is X → IsSymbolBelow t Count (symbol_of is X)
  symbol_below (Token a) g = g.below
  symbol_below (Applied n) g = number_below is n (record { kept = g.kept; within = g.below })

  made_below : (tokens : List TokenInfo) (n : ℕ) (prec : Prec) (us : List Unfolding) → IsNonterminal is n → All Good us → All (IsProductionBelow t Count) (map (λ u. production_of tokens is n (with_own_prec prec u)) us)
  made_below tokens n prec us k g = All-map (IsProductionBelow t Count) (λ u. production_of tokens is n (with_own_prec prec u)) us (All-weaker Good (λ u. IsProductionBelow t Count (production_of tokens is n (with_own_prec prec u))) (λ u h. record {
    lhs = number_below is n k;
    rhs = All-map (IsSymbolBelow t Count) (symbol_of is) u.rhs (All-weaker (IsKeptAndBelow t is) (λ X. IsSymbolBelow t Count (symbol_of is X)) symbol_below u.rhs h);
  }) us g)

  pub productions_below : (tokens : List TokenInfo) (origins : List Origin) (ps : List Production) → AreProductions tokens is origins ps → ((s : Origin) → Contains origins s → IsOrigin is s) → All (IsProductionBelow t Count) ps
  productions_below tokens origins ps inlined.AreProductions.none h = All-nil (IsProductionBelow t Count)
  productions_below tokens origins ps (inlined.AreProductions.more {s = s} {origins = rest} {p = p} {us = us} {ps = qs} a f e r) h =
      let one = h s (contains_here s rest) in
      let k : IsNonterminal is s.instance = record { kept = one.kept; within = slice_get_within is s.instance a.instance a.at } in
      subst (All (IsProductionBelow t Count)) (sym e) (All-append (IsProductionBelow t Count) _ qs (made_below tokens s.instance p.prec us k (side_kept_and_below p.rhs us f (b.each s.instance s.alternative p a))) (productions_below tokens rest qs r (λ x c. h x (contains_there s rest x c))))

-- THE GRAMMAR

module _ (e : Expanded) (ready : IsExpandedReady e) (kept : HasNoInlineStart e) where
  pub start_nonterminal : (k n : ℕ) → slice_get e.starts k ≡ Some n → IsNonterminal e.instances n
  start_nonterminal k n at =
      let l = slice_get_within e.starts k n at in
      let same = get_or_from_slice_get e.starts k n n at in
      record { kept = subst (λ s. is_inlined e.instances s ≡ false) same (kept k n l); within = subst (λ s. s < length e.instances) same (ready.starts_below k n l) }

  starts_below : (k d : ℕ) → k < length (map (nonterminal_number e.instances) e.starts) → get_or (map (nonterminal_number e.instances) e.starts) k d < length (map nonterminal_of (filter is_kept e.instances))
  starts_below k d l =
      let within : k < length e.starts = omega (arith, length-map e.starts (nonterminal_number e.instances)) in
      let at = slice_get-get_or e.starts k 0 within in
      let there = slice_get-map (nonterminal_number e.instances) e.starts k ∙ ap (option_map (nonterminal_number e.instances)) at in
      subst (λ s. s < length (map nonterminal_of (filter is_kept e.instances))) (sym (get_or_from_slice_get (map (nonterminal_number e.instances) e.starts) k (nonterminal_number e.instances (get_or e.starts k 0)) d there)) (number_below e.instances (get_or e.starts k 0) (start_nonterminal k (get_or e.starts k 0) at))

  mapped_at : (k x : ℕ) → slice_get (map (nonterminal_number e.instances) e.starts) k ≡ Some x → (n : ℕ) × (slice_get e.starts k ≡ Some n) × (nonterminal_number e.instances n ≡ x)
  mapped_at k x at =
      let within : k < length e.starts = omega (arith, slice_get_within (map (nonterminal_number e.instances) e.starts) k x at, length-map e.starts (nonterminal_number e.instances)) in
      let here = slice_get-get_or e.starts k 0 within in
      let there = slice_get-map (nonterminal_number e.instances) e.starts k ∙ ap (option_map (nonterminal_number e.instances)) here in
      (get_or e.starts k 0, here, same_Some _ _ (sym there ∙ at))

  -- The start symbols of the grammar differ.
  once : AreDistinct e.starts
  once = record {
    same = λ i j x a b.
        let k = slice_get_within e.starts i x a in
        let l = slice_get_within e.starts j x b in
        let at = get_or_from_slice_get e.starts i x x a in
        let at' = get_or_from_slice_get e.starts j x x b in
        elim (cases_lt i j) [
          | inl below ↦ absurd (ready.starts_distinct i j x below l (at ∙ sym at'))
          | inr above ↦ elim (cases_lt j i) [
            | inl below ↦ absurd (ready.starts_distinct j i x below k (at' ∙ sym at))
            | inr both ↦ omega arith
          ]
        ];
  }

  pub distinct_starts : AreDistinct (map (nonterminal_number e.instances) e.starts)
  distinct_starts = record {
    same = λ i j x a b.
        let p = mapped_at i x a in
        let q = mapped_at j x b in
        let same = number_apart e.instances p.0 q.0 (start_nonterminal i p.0 p.1) (start_nonterminal j q.0 q.1) (p.2 ∙ sym q.2) in
        once.same i j p.0 p.1 (q.1 ∙ ap Some (sym same));
  }

  few_starts : length e.starts ≤ length e.instances
  few_starts =
      let few = length-distinct_in (numbers_below (length e.instances)) e.starts once (λ x c. numbers_at (length e.instances) x (All-contains (λ s. s < length e.instances) e.starts x ready.starts_below c)) in
      let len = length-numbers (length e.instances) in
      omega arith

  pub in_range : (g : Grammar) → IsInlined e g → IsWithinLimits g → IsInRange (plain_of g)
  in_range g i s =
      let tokens = ap length i.tokens in
      let nonterminals = ap length i.nonterminals in
      let starts = ap length i.starts ∙ length-map e.starts (nonterminal_number e.instances) in
      let kept_few = length-map (filter is_kept e.instances) nonterminal_of ∙ length-filter is_kept e.instances in
      let most = count_by-le-length is_kept e.instances in
      let few = few_starts in
      let limit = ready.few_instances in
      let t = ready.few_tokens in
      let f = s.few in
      record {
        productions = subst (λ n. All (IsProductionBelow n (length g.nonterminals)) g.productions) (sym tokens) (subst (λ n. All (IsProductionBelow (length e.tokens) n) g.productions) (sym nonterminals)
            (productions_below (length e.tokens) e.instances (below_ready e ready) e.tokens i.origins g.productions i.productions (λ x c. (i.ordered.exact x).0 c)));
        starts = subst (λ n. All (λ x. x < n) g.starts) (sym nonterminals) (All-same (λ x. x < length (map nonterminal_of (filter is_kept e.instances))) g.starts (map (nonterminal_number e.instances) e.starts) i.starts starts_below);
        tokens = omega arith;
        nonterminals = omega arith;
        few_starts = omega arith;
        short = All-weaker (λ (p : Production). length p.rhs ≤ 10000) (λ (p : Production). length p.rhs < 2 ^ 32) (λ p l. omega arith) g.productions s.short;
        few = omega arith;
      }

  -- A start symbol of the instances is one of the grammar, at the same position.
  pub start_at : (k n : ℕ) → slice_get e.starts k ≡ Some n → slice_get (map (nonterminal_number e.instances) e.starts) k ≡ Some (nonterminal_number e.instances n)
  start_at k n at = slice_get-map (nonterminal_number e.instances) e.starts k ∙ ap (option_map (nonterminal_number e.instances)) at

  module _ (g : Grammar) (i : IsInlined e g) (small : IsWithinLimits g) (acyclic : HasNoCycle e) (marks : List Bool) (exact : (n : ℕ) → (get_or marks n false ≡ true → IsProductive (plain_of g) n) × (IsProductive (plain_of g) n → get_or marks n false ≡ true)) where
    pub empty_start : (place : ℕ) → IsFirstUnmarked marks g.starts place → HasEmptyStart e place
    empty_start place u =
        let there = mapped_at place u.start (ap (λ l. slice_get l place) (sym i.starts) ∙ u.at) in
        record {
          acyclic = acyclic;
          kept = kept;
          grammar = g;
          inlined = i;
          within_limits = small;
          number = there.0;
          at = there.1;
          first = record {
            place = place;
            at = there.1;
            not_productive = λ p. false≢true (sym u.unmarked ∙ ap (λ s. get_or marks s false) (sym there.2) ∙ (exact (nonterminal_number e.instances there.0)).1 p);
            first = λ k m l at. (exact (nonterminal_number e.instances m)).0 (u.first k (nonterminal_number e.instances m) l (ap (λ l'. slice_get l' k) i.starts ∙ start_at k m at));
          };
        }

    pub productive_starts : All (λ s. get_or marks s false ≡ true) g.starts → All (IsProductive (plain_of g)) g.starts
    productive_starts a = All-weaker (λ s. get_or marks s false ≡ true) (IsProductive (plain_of g)) (λ s t. (exact s).0 t) g.starts a
