-- The choices of a row that fit are exactly the candidates.
use Rattle.std.proofs.Common.{◌≡◌, ◌∙◌, ◌<◌, ◌≤◌, ◌+◌, ◌-◌, ◌%◌, ◌++◌, ℕ, List, Some, length, map, refl, sym, ap, arith, subst}
use Rattle.std.specs.List.{filter, slice_get, AllByRecursion, Contains}
use Rattle.std.specs.Option.{option_map}
use Rattle.std.proofs.lemmas.Bool.{leb-true, le-leb}
use Rattle.std.proofs.lemmas.List.{length-map}
use Rattle.std.proofs.lemmas.List.Sums.{sum_by-append}
use Rattle.std.proofs.lemmas.Option.{slice_get-map}
use Rattle.mh_grammar.specs.declared.types.Symbol.{Symbol}
use Rattle.mh_grammar.specs.declared.types.Symbol.TheVariants.{N}
use Rattle.mh_grammar.specs.Plain.{PlainGrammar, IsInRange, IsSymbolBelow, IsProductionFor, rhs_of}
use Rattle.mh_grammar.proofs.Lists.{contains_map, map_contains, recursion-append}
use Rattle.mh_sample.specs.declared.word.Shortest.{Shortest}
use Rattle.mh_sample.specs.WordLimit.{max_word}
use Rattle.mh_sample.proofs.RhsInRange.{rhs_below}
use Rattle.mh_sample.specs.declared.rows.Choice.{Choice}
use Rattle.mh_sample.specs.Random.{AreCandidates, IsCandidate, IsChosen}
use Rattle.mh_sample.specs.code.Rows.{fits, length_in, lengths_in, number_of, AreLeastLengths, IsRow}
use Rattle.mh_sample.proofs.Filter.{contains_filter, filter_contains, rising_filter, rising_map}
use Rattle.mh_sample.proofs.LeastLengths.{can_end, can_end_least, some_production}

module _ (g : PlainGrammar) (r : IsInRange g) (shortest : List Shortest) (lengths : List ℕ) (k : AreLeastLengths g shortest lengths)
    (x : ℕ) (row : List Choice) (is : IsRow g lengths (length g.productions) x row) where
  abbrev Below : Symbol → Type 0
  Below = IsSymbolBelow g.tokens g.nonterminals

  below_of : (p : ℕ) → IsProductionFor g x p → AllByRecursion Below (rhs_of g p)
  below_of p h = rhs_below g r (N x) (rhs_of g p) (p, h, refl)

  -- Each production of the nonterminal has a choice in the row.
  choice_of : (p : ℕ) → IsProductionFor g x p → (c : Choice) × Contains row c × (number_of g c ≡ p) × (c.length ≡ lengths_in lengths (rhs_of g p))
  choice_of p h =
      let place = p - length g.starts in
      let number : length g.starts + place ≡ p = omega (arith, h.ordinary) in
      let c = is.all place (omega (arith, h.ordinary, h.known)) (subst (IsProductionFor g x) (sym number) h) in
      let same : number_of g c.0 ≡ p = ap (λ i. length g.starts + i) c.2 ∙ number in
      (c.0, c.1, same, (is.each c.0 c.1).1 ∙ ap (λ i. lengths_in lengths (rhs_of g i)) same)

  module _ (n written room : ℕ) (rest : List Symbol) (few : n ≤ max_word) (below : AllByRecursion Below rest) (all : written + room + lengths_in lengths rest ≡ n) where
    abbrev pub fitting : List Choice
    fitting = filter (fits room) row

    is_candidate : (c : Choice) → Contains fitting c → IsCandidate g n written x rest (number_of g c)
    is_candidate c h =
        let in_row = filter_contains (fits room) row c h in
        let known = is.each c in_row.0 in
        let small : c.length ≤ room = leb-true c.length room in_row.1 in
        record {
          production = known.0;
          ends = can_end g r shortest lengths k n written (rhs_of g (number_of g c) ++ rest) few (recursion-append Below (rhs_of g (number_of g c)) rest (below_of (number_of g c) known.0) below)
              (omega (arith, all, small, known.1, sum_by-append (length_in lengths) (rhs_of g (number_of g c)) rest));
        }

    candidate_is : (p : ℕ) → IsCandidate g n written x rest p → Contains (map (number_of g) fitting) p
    candidate_is p h =
        let c = choice_of p h.production in
        let least = can_end_least g r shortest lengths k n written (rhs_of g p ++ rest) (recursion-append Below (rhs_of g p) rest (below_of p h.production) below) h.ends in
        let small : c.0.length ≤ room = omega (arith, all, least, c.3, sum_by-append (length_in lengths) (rhs_of g p) rest) in
        subst (Contains (map (number_of g) fitting)) c.2 (contains_map (number_of g) fitting c.0 (contains_filter (fits room) row c.0 c.1 (le-leb c.0.length room small)))

    pub candidates_are : AreCandidates g n written x rest (map (number_of g) fitting)
    candidates_are = record {
      rising = rising_map (number_of g) (λ a b. a.place < b.place) (λ p q. p < q) (λ a b l. omega (arith, l)) fitting (rising_filter (fits room) (λ a b. a.place < b.place) row is.rising);
      exact = λ p. (
        (λ c. let h = map_contains (number_of g) fitting p c in subst (IsCandidate g n written x rest) h.2 (is_candidate h.0 h.1)),
        candidate_is p,
      );
    }

    pub chosen_is : (number : ℕ) (c : Choice) → slice_get fitting (number % length fitting) ≡ Some c → IsChosen g n written x rest number (number_of g c)
    chosen_is number c at = (
      map (number_of g) fitting,
      candidates_are,
      subst (λ len. slice_get (map (number_of g) fitting) (number % len) ≡ Some (number_of g c)) (sym (length-map fitting (number_of g)))
          (slice_get-map (number_of g) fitting (number % length fitting) ∙ ap (option_map (number_of g)) at),
    )

    pub some_fits : x < g.nonterminals → length_in lengths (N x) ≤ room → 0 < length fitting
    some_fits b l =
        let p = some_production g r shortest lengths k x b (omega (arith, l, all, few)) in
        let c = choice_of p.0 p.1 in
        let h = contains_filter (fits room) row c.0 c.1 (le-leb c.0.length room (omega (arith, c.3, p.2, l))) in
        omega (arith, h.1)
