-- Lemmas on one step of the writing: the code handles the symbol that was popped.
use Rattle.std.proofs.Common.{◌≡◌, ◌∙◌, ◌<◌, ◌≤◌, ◌+◌, ◌-◌, ◌%◌, ◌^◌, ◌++◌, ℕ, suc, true, List, [], ◌∷◌, Some, length, reverse, get_or, sym, ap, arith, subst}
use Rattle.std.specs.List.{filter, slice_get, All, AllByRecursion, Contains}
use Rattle.std.proofs.lemmas.Bool.{leb-true}
use Rattle.std.proofs.lemmas.List.{get_or_default, reverse-append, reverse-reverse, length-append, length-reverse}
use Rattle.std.proofs.lemmas.List.Elements.{All-append, All-cons, All-from_recursion, All-get_or, All-nil, All-pop, recursion_from_All}
use Rattle.std.proofs.lemmas.List.Sorted.{IsPermutation-reverse, sum_by-IsPermutation}
use Rattle.std.proofs.lemmas.List.Sums.{sum_by-append, sum_by-cons}
use Rattle.rand_core.specs.Pcg32Seed.{pcg32_seed}
use Rattle.rand_pcg.specs.Pcg.{pcg32, pcg32_of_seed}
use Rattle.mh_grammar.specs.declared.types.Symbol.{Symbol}
use Rattle.mh_grammar.specs.declared.types.Symbol.TheVariants.{T, N}
use Rattle.mh_grammar.specs.declared.types.Production.{Production}
use Rattle.mh_grammar.specs.Plain.{plain_of, rhs_of, start_symbol, IsProductionFor, IsSymbolBelow}
use Rattle.mh_grammar.proofs.Lists.{contains_at, recursion-push}
use Rattle.mh_grammar.proofs.ProductionNumbers.{rhs_of-ordinary}
use Rattle.mh_sample.specs.Shortest.{IsLeast}
use Rattle.mh_sample.specs.declared.rows.Choice.{Choice}
use Rattle.mh_sample.specs.declared.writing.Guide.{Guide}
use Rattle.mh_sample.specs.declared.writing.Writing.{Writing}
use Rattle.mh_sample.specs.DrawLimit.{max_draws}
use Rattle.mh_sample.specs.Random as random
use Rattle.mh_sample.specs.Random.{draw, generator_after, IsChosen, Writes}
use Rattle.mh_sample.specs.code.Rows.{fits, length_in, lengths_in, number_of}
use Rattle.mh_sample.specs.code.Writing.{rounds_left, IsGuide, IsPopped, IsWriting, Treats}
use Rattle.mh_sample.proofs.RhsInRange.{rhs_below}
use Rattle.mh_sample.proofs.AreCandidates.{chosen_is, some_fits}
use Rattle.mh_sample.proofs.Filter.{filter_contains}

-- If all elements of a list have a property, all elements of the reversed list have the property.
pub reversed_all : {X : Type 0} (P : X → Type 0) (xs : List X) → AllByRecursion P xs → AllByRecursion P (reverse xs)
reversed_all P [] h = tt
reversed_all P (x ∷ xs) h = subst (AllByRecursion P) (sym (reverse-append (x ∷ []) xs)) (recursion-push P (reverse xs) x (reversed_all P xs h.1) h.0)

pub reversed_lengths : (lengths : List ℕ) (xs : List Symbol) → lengths_in lengths (reverse xs) ≡ lengths_in lengths xs
reversed_lengths lengths xs = sum_by-IsPermutation (length_in lengths) xs (reverse xs) (IsPermutation-reverse xs)

module _ (guide : Guide) where
  abbrev Below : Symbol → Type 0
  Below = IsSymbolBelow (length guide.grammar.now.tokens) (length guide.grammar.now.nonterminals)

  -- Writing tokens for the popped symbol keeps the invariant, if there is room for these tokens.
  pub kept_by_tokens : (x : Symbol) (old new : Writing) → IsPopped guide x old → new.generator ≡ old.generator → new.draws ≡ old.draws → new.pending ≡ old.pending → new.needed ≡ old.needed → length new.written.items ≤ length old.written.items + length_in guide.lengths.now x → IsWriting guide new
  kept_by_tokens x old new h generator draws pending needed written = record {
    generator = generator ∙ h.rest.generator ∙ ap (generator_after guide.seed) (sym draws);
    draws = omega (arith, draws, h.rest.draws);
    below = subst (λ p. All Below p.items) (sym pending) h.rest.below;
    needed = needed ∙ h.rest.needed ∙ ap (λ p. lengths_in guide.lengths.now p.items) (sym pending);
    within = omega (arith, written, needed, h.fits_limit);
  }

  next_generator : (d e : ℕ) → e ≡ d + 1 → (pcg32 (generator_after guide.seed d)).1 ≡ generator_after guide.seed e
  unfolding generator_after
  next_generator d e same = let next : suc d ≡ e = omega (arith, same) in ap (generator_after guide.seed) next

  module _ (k : IsGuide guide) (x : ℕ) (old : Writing) (h : IsPopped guide (N x) old) where
    abbrev pub room : ℕ
    room = guide.limit - length old.written.items - old.needed

    below_rest : AllByRecursion Below (reverse old.pending.items)
    below_rest = reversed_all Below old.pending.items (recursion_from_All Below old.pending.items h.rest.below)

    all_room : length old.written.items + room + lengths_in guide.lengths.now (reverse old.pending.items) ≡ guide.limit
    all_room = omega (arith, h.fits_limit, h.rest.needed, reversed_lengths guide.lengths.now old.pending.items)

    -- The list that the code filters from the row that it reads has exactly the choices of x that fit in the room.
    pub fitting_is : (j given : ℕ) (row read found fitting : List Choice) → j ≡ x → row ≡ get_or guide.rows.now j read → given ≡ room → found ≡ filter (fits given) row → fitting ≡ found → fitting ≡ filter (fits room) (get_or guide.rows.now x [])
    fitting_is j given row read found fitting same at limit is e =
        let row_is : row ≡ get_or guide.rows.now x [] = at ∙ get_or_default guide.rows.now j read [] (omega (arith, same, h.symbol, k.all)) ∙ ap (λ n. get_or guide.rows.now n []) same in
        e ∙ is ∙ (λ i. filter (fits (limit i)) (row_is i))

    -- There is at least one candidate.
    pub some_candidate : (fitting : List Choice) → fitting ≡ filter (fits room) (get_or guide.rows.now x []) → 0 < length fitting
    some_candidate fitting is =
        let some = some_fits (plain_of guide.grammar.now) k.range guide.shortest.now guide.lengths.now k.known x (get_or guide.rows.now x []) (k.rows x) guide.limit (length old.written.items) room (reverse old.pending.items) k.few below_rest all_room h.symbol (omega (arith, h.fits_limit)) in
        omega (arith, some, ap length is)

    module _ (number : ℕ) (c : Choice) (at : slice_get (filter (fits room) (get_or guide.rows.now x [])) (number % length (filter (fits room) (get_or guide.rows.now x []))) ≡ Some c) where
      in_row : Contains (get_or guide.rows.now x []) c × (fits room c ≡ true)
      in_row = filter_contains (fits room) (get_or guide.rows.now x []) c (contains_at (filter (fits room) (get_or guide.rows.now x [])) _ c at)

      pub within_room : c.length ≤ room
      within_room = leb-true c.length room in_row.1

      pub place_below : c.place < length guide.grammar.now.productions
      place_below = (k.rows x).below c in_row.0

    module _ (number : ℕ) (c : Choice) (p : Production) (drawn : number ≡ (pcg32 old.generator).0)
        (at : slice_get (filter (fits room) (get_or guide.rows.now x [])) (number % length (filter (fits room) (get_or guide.rows.now x []))) ≡ Some c)
        (found : slice_get guide.grammar.now.productions c.place ≡ Some p) (new : Writing)
        (generator : new.generator ≡ (pcg32 old.generator).1) (draws : new.draws ≡ old.draws + 1) (written : new.written.items ≡ old.written.items)
        (needed : new.needed ≡ old.needed + c.length) (pending : new.pending.items ≡ old.pending.items ++ reverse p.rhs) (few : old.draws < max_draws) where
      known : IsProductionFor (plain_of guide.grammar.now) x (number_of (plain_of guide.grammar.now) c) × (c.length ≡ lengths_in guide.lengths.now (rhs_of (plain_of guide.grammar.now) (number_of (plain_of guide.grammar.now) c)))
      known = (k.rows x).each c (in_row number c at).0

      side : rhs_of (plain_of guide.grammar.now) (number_of (plain_of guide.grammar.now) c) ≡ p.rhs
      side = rhs_of-ordinary (plain_of guide.grammar.now) c.place p found

      size : c.length ≡ lengths_in guide.lengths.now p.rhs
      size = known.1 ∙ ap (lengths_in guide.lengths.now) side

      below_side : AllByRecursion Below p.rhs
      below_side = rhs_below (plain_of guide.grammar.now) k.range (N x) p.rhs (number_of (plain_of guide.grammar.now) c, known.0, side)

      pub kept_by_draw : IsWriting guide new
      kept_by_draw = record {
        generator = generator ∙ ap (λ s. (pcg32 s).1) h.rest.generator ∙ next_generator old.draws new.draws draws;
        draws = omega (arith, draws, few);
        below = subst (All Below) (sym pending) (All-append Below old.pending.items (reverse p.rhs) h.rest.below (All-from_recursion Below (reverse p.rhs) (reversed_all Below p.rhs below_side)));
        needed = omega (arith, needed, h.rest.needed, size, reversed_lengths guide.lengths.now p.rhs, sum_by-append (length_in guide.lengths.now) old.pending.items (reverse p.rhs), ap (lengths_in guide.lengths.now) pending);
        within = omega (arith, needed, h.fits_limit, within_room number c at, ap length written);
      }

      pub treats_by_draw : Treats guide (N x) old new
      treats_by_draw s w =
          let goes : reverse new.pending.items ≡ rhs_of (plain_of guide.grammar.now) (number_of (plain_of guide.grammar.now) c) ++ reverse old.pending.items =
          ap reverse pending ∙ reverse-append old.pending.items (reverse p.rhs) ∙ ap (λ z. z ++ reverse old.pending.items) (reverse-reverse p.rhs ∙ sym side) in
          let next = subst (λ z. Writes (plain_of guide.grammar.now) guide.seed guide.limit new.draws new.written.items z s) goes w in
          let behind = subst (λ z. Writes (plain_of guide.grammar.now) guide.seed guide.limit new.draws z (rhs_of (plain_of guide.grammar.now) (number_of (plain_of guide.grammar.now) c) ++ reverse old.pending.items) s) written next in
          let counted : new.draws ≡ suc old.draws = omega (arith, draws) in
          let after = subst (λ z. Writes (plain_of guide.grammar.now) guide.seed guide.limit z old.written.items (rhs_of (plain_of guide.grammar.now) (number_of (plain_of guide.grammar.now) c) ++ reverse old.pending.items) s) counted behind in
          let word : number ≡ draw guide.seed old.draws = drawn ∙ ap (λ z. (pcg32 z).0) h.rest.generator in
          let chosen = chosen_is (plain_of guide.grammar.now) k.range guide.shortest.now guide.lengths.now k.known x (get_or guide.rows.now x []) (k.rows x) guide.limit (length old.written.items) room (reverse old.pending.items) k.few below_rest all_room number c at in
          random.Writes.drawn (number_of (plain_of guide.grammar.now) c) few (subst (λ z. IsChosen (plain_of guide.grammar.now) guide.limit (length old.written.items) x (reverse old.pending.items) z (number_of (plain_of guide.grammar.now) c)) word chosen) after

  -- The sentences that the definition allows after the tokens written so far, with the given pending symbols.
  abbrev Comes : Writing → List ℕ → List Symbol → List ℕ → Type 0
  Comes old written pending s = Writes (plain_of guide.grammar.now) guide.seed guide.limit old.draws written pending s

  -- Once no draws are left: with the nonterminal x pending first, the definition allows each sentence that it allows
  -- after the least word u of x is written.
  pub treats_by_least : (x : ℕ) (old : Writing) (u v : List ℕ) → IsLeast (plain_of guide.grammar.now) (N x) u → max_draws ≤ old.draws → v ≡ old.written.items ++ u → (s : List ℕ)
      → Writes (plain_of guide.grammar.now) guide.seed guide.limit old.draws v (reverse old.pending.items) s → Writes (plain_of guide.grammar.now) guide.seed guide.limit old.draws old.written.items (N x ∷ reverse old.pending.items) s
  treats_by_least x old u v least spent written s w = random.Writes.least u spent least (subst (λ t. Comes old t (reverse old.pending.items) s) written w)

  -- With the token z pending first, the definition allows each sentence that it allows after z is written.
  pub treats_by_token : (z : ℕ) (old : Writing) (v : List ℕ) → v ≡ old.written.items ++ z ∷ [] → (s : List ℕ)
      → Writes (plain_of guide.grammar.now) guide.seed guide.limit old.draws v (reverse old.pending.items) s → Writes (plain_of guide.grammar.now) guide.seed guide.limit old.draws old.written.items (T z ∷ reverse old.pending.items) s
  treats_by_token z old v written s w = random.Writes.token (subst (λ t. Comes old t (reverse old.pending.items) s) written w)

-- A draw lowers the number of rounds that are left.
pub rounds_fall : (old new : Writing) (side : List Symbol) → old.draws < max_draws → new.draws ≡ old.draws + 1 → new.pending.items ≡ old.pending.items ++ reverse side → length side < 2 ^ 32 → rounds_left new < rounds_left old
rounds_fall old new side few draws pending short = omega (arith, few, draws, ap length pending, length-append old.pending.items (reverse side), length-reverse side, short)

-- ---- Popping a symbol, and the first state of the writing.

module _ (guide : Guide) where
  abbrev In : Symbol → Type 0
  In = IsSymbolBelow (length guide.grammar.now.tokens) (length guide.grammar.now.nonterminals)

  taken_needed : (lengths : List ℕ) (pending : List Symbol) (x : Symbol) → lengths_in lengths (pending ++ x ∷ []) ≡ lengths_in lengths pending + length_in lengths x
  taken_needed lengths pending x = omega (arith, sum_by-append (length_in lengths) pending (x ∷ []), sum_by-cons (length_in lengths) x [])

  pub popped_is : (x : Symbol) (old new : Writing) → IsWriting guide old → old.pending.items ≡ new.pending.items ++ x ∷ [] → new.generator ≡ old.generator → new.draws ≡ old.draws → new.written ≡ old.written → new.needed ≡ old.needed - length_in guide.lengths.now x → IsPopped guide x new
  popped_is x old new h split generator draws written needed =
      let parts = ap (lengths_in guide.lengths.now) split ∙ taken_needed guide.lengths.now new.pending.items x in
      let both = All-pop In old.pending.items new.pending.items (Some x) split h.below in
      record {
        rest = record {
          generator = generator ∙ h.generator ∙ ap (generator_after guide.seed) (sym draws);
          draws = omega (arith, draws, h.draws);
          below = both.0;
          needed = omega (arith, needed, h.needed, parts);
          within = omega (arith, needed, h.within, ap (λ w. length w.items) written);
        };
        symbol = both.1;
        fits_limit = omega (arith, needed, h.needed, parts, h.within, ap (λ w. length w.items) written);
      }

  pub begun_is : IsGuide guide → 0 < length guide.grammar.now.starts → length_in guide.lengths.now (start_symbol (plain_of guide.grammar.now) 0) ≤ guide.limit → (w : Writing) → w.generator ≡ pcg32_of_seed (pcg32_seed 16 guide.seed) → w.draws ≡ 0 → w.written.items ≡ [] → w.pending.items ≡ start_symbol (plain_of guide.grammar.now) 0 ∷ []
      → w.needed ≡ length_in guide.lengths.now (start_symbol (plain_of guide.grammar.now) 0) → IsWriting guide w
  unfolding generator_after
  begun_is k some fits w generator draws written pending needed =
      let first = start_symbol (plain_of guide.grammar.now) 0 in
      let below = All-get_or (λ s. s < length guide.grammar.now.nonterminals) guide.grammar.now.starts 0 0 some k.range.starts in
      record {
        generator = generator ∙ ap (generator_after guide.seed) (sym draws);
        draws = omega (arith, draws);
        below = subst (All In) (sym pending) (All-cons In first [] below (All-nil In));
        needed = omega (arith, needed, ap (lengths_in guide.lengths.now) pending, sum_by-cons (length_in guide.lengths.now) first []);
        within = omega (arith, needed, fits, ap length written);
      }
