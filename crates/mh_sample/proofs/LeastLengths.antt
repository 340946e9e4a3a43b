-- Lemmas on the sum of the least lengths of some symbols: each word that the symbols derive has at least this number of
-- tokens, and some word has exactly this number, if the number is within the limit.
use Rattle.std.proofs.Common.{◌≡◌, ◌∙◌, ◌<◌, ◌≤◌, ◌+◌, ◌++◌, ◌^◌, ◌*◌, ℕ, List, [], ◌∷◌, Some, length, map, take, get_or, refl, sym, ap, arith, subst}
use Rattle.std.specs.List.{slice_get, All, AllByRecursion}
use Rattle.std.specs.Option.{option_map}
use Rattle.std.proofs.lemmas.List.{length-append, length-map}
use Rattle.std.proofs.lemmas.List.Elements.{All-from_get_or, All-get_or}
use Rattle.std.proofs.lemmas.List.Sums.{sum_by-cons, sum_by_more}
use Rattle.std.proofs.lemmas.Option.{get_or_from_slice_get, slice_get-map}
use Rattle.mh_grammar.specs.declared.types.Symbol.{Symbol}
use Rattle.mh_grammar.specs.declared.types.Symbol.TheVariants.{T, N}
use Rattle.mh_grammar.specs.Derivations as trees
use Rattle.mh_grammar.specs.Plain.{PlainGrammar, Derives, DerivesAll, IsInRange, IsSymbolBelow, IsProductionFor, rhs_of}
use Rattle.mh_grammar.proofs.Lists.{get_within}
use Rattle.mh_sample.specs.declared.word.Shortest.{Shortest}
use Rattle.mh_sample.specs.declared.word.Shortest.TheVariants.{None, Longer, Word}
use Rattle.mh_sample.specs.WordLimit.{max_word}
use Rattle.mh_sample.specs.Shortest.{IsShortest, IsLeast}
use Rattle.mh_sample.proofs.ShortLex.{shortlex_length}
use Rattle.mh_sample.proofs.RhsInRange.{rhs_below}
use Rattle.mh_sample.specs.Random.{CanEnd}
use Rattle.mh_sample.specs.code.Rows.{length_for, length_in, lengths_in, AreLeastLengths}

-- The answer for one nonterminal, and the length of the answer.
pub record IsKnown (g : PlainGrammar) (shortest : List Shortest) (lengths : List ℕ) (n : ℕ) : Type 0 where
  pub answer : Shortest
  pub at : slice_get shortest n ≡ Some answer
  pub is : IsShortest g n answer
  pub size : get_or lengths n 0 ≡ length_for answer

module _ (g : PlainGrammar) (r : IsInRange g) (shortest : List Shortest) (lengths : List ℕ) (k : AreLeastLengths g shortest lengths) where
  abbrev Below : Symbol → Type 0
  Below = IsSymbolBelow g.tokens g.nonterminals

  pub known : (n : ℕ) → n < g.nonterminals → IsKnown g shortest lengths n
  known n l =
      let at = get_within shortest n (omega (arith, l, k.same, k.all)) in
      record {
        answer = at.0;
        at = at.1;
        is = k.each n at.0 at.1;
        size = get_or_from_slice_get lengths n (length_for at.0) 0 (k.sizes n at.0 at.1);
      }

  answer_least : (n : ℕ) (s : Shortest) (w : List ℕ) → IsShortest g n s → Derives g (N n) w → length_for s ≤ length w
  answer_least n None w is t = absurd (is w t)
  answer_least n Longer w is t = omega (arith, is.1 w t)
  answer_least n (Word v) w is t = shortlex_length v w (is.0.first w t)

  pub symbol_least : (X : Symbol) (w : List ℕ) → Below X → Derives g X w → length_in lengths X ≤ length w
  symbol_least (T a) w b (trees.Derivation.leaf t) = omega arith
  symbol_least (T a) w b (trees.Derivation.node p f) = absurd p
  symbol_least (N n) w b t = let at = known n b in omega (arith, at.size, answer_least n at.answer w at.is t)

  pub symbols_least : (Xs : List Symbol) (w : List ℕ) → AllByRecursion Below Xs → DerivesAll g Xs w → lengths_in lengths Xs ≤ length w
  symbols_least Xs w b trees.Derivations.none = omega arith
  symbols_least (X ∷ Xs) w b (trees.Derivations.more {u = u} {v = v} j t f) =
      let both : length w ≡ length (u ++ v) = ap length j in
      omega (arith, both, length-append u v, symbol_least X u b.0 t, symbols_least Xs v b.1 f, sum_by-cons (length_in lengths) X Xs)

  answer_word : (n : ℕ) (s : Shortest) → IsShortest g n s → length_for s ≤ max_word → (w : List ℕ) × (s ≡ Word w) × IsLeast g (N n) w
  answer_word n None is l = absurd (omega (arith, l))
  answer_word n Longer is l = absurd (omega (arith, l))
  answer_word n (Word w) is l = (w, refl, is.0)

  -- A nonterminal with a length within the limit has a least word.
  pub least_word : (n : ℕ) → n < g.nonterminals → length_in lengths (N n) ≤ max_word → (w : List ℕ) × (slice_get shortest n ≡ Some (Word w)) × IsLeast g (N n) w × (length w ≡ length_in lengths (N n))
  least_word n b l =
      let at = known n b in
      let w = answer_word n at.answer at.is (omega (arith, l, at.size)) in
      let size : length_for at.answer ≡ length w.0 = ap length_for w.1 in
      (w.0, at.at ∙ ap Some w.1, w.2, sym (at.size ∙ size))

  symbol_word : (X : Symbol) → Below X → length_in lengths X ≤ max_word → (w : List ℕ) × Derives g X w × (length w ≡ length_in lengths X)
  symbol_word (T a) b l = (a ∷ [], trees.Derivation.leaf refl, refl)
  symbol_word (N n) b l = let w = least_word n b l in (w.0, w.2.derived, w.3)

  symbols_word : (Xs : List Symbol) → AllByRecursion Below Xs → lengths_in lengths Xs ≤ max_word → (w : List ℕ) × DerivesAll g Xs w × (length w ≡ lengths_in lengths Xs)
  symbols_word [] b l = ([], trees.Derivations.none, refl)
  symbols_word (X ∷ Xs) b l =
      let parts = sum_by-cons (length_in lengths) X Xs in
      let first = symbol_word X b.0 (omega (arith, l, parts)) in
      let rest = symbols_word Xs b.1 (omega (arith, l, parts)) in
      (first.0 ++ rest.0, trees.Derivations.more refl first.1 rest.1, omega (arith, length-append first.0 rest.0, first.2, rest.2, parts))

  -- Symbols can be written within the limit if their least lengths add up to at most the limit.
  pub can_end : (n written : ℕ) (Xs : List Symbol) → n ≤ max_word → AllByRecursion Below Xs → written + lengths_in lengths Xs ≤ n → CanEnd g n written Xs
  can_end n written Xs few b l = let w = symbols_word Xs b (omega (arith, few, l)) in (w.0, w.1, omega (arith, l, w.2))

  pub can_end_least : (n written : ℕ) (Xs : List Symbol) → AllByRecursion Below Xs → CanEnd g n written Xs → written + lengths_in lengths Xs ≤ n
  can_end_least n written Xs b c = omega (arith, symbols_least Xs c.0 b c.1, c.2)

  produced : (n : ℕ) (w : List ℕ) → Derives g (N n) w → (p : ℕ) × IsProductionFor g n p × (lengths_in lengths (rhs_of g p) ≤ length w)
  produced n w (trees.Derivation.leaf t) = absurd t
  produced n w (trees.Derivation.node {rhs = rhs} p f) = (p.0, p.1, subst (λ (Xs : List Symbol). lengths_in lengths Xs ≤ length w) (sym p.2) (symbols_least rhs w (rhs_below g r (N n) rhs p) f))

  -- A nonterminal with a length within the limit has a production whose right side is no longer.
  pub some_production : (n : ℕ) → n < g.nonterminals → length_in lengths (N n) ≤ max_word → (p : ℕ) × IsProductionFor g n p × (lengths_in lengths (rhs_of g p) ≤ length_in lengths (N n))
  some_production n b l = let w = least_word n b l in let p = produced n w.0 w.2.derived in (p.0, p.1, omega (arith, p.2, w.3))

-- The lengths of the answers are the least lengths.
pub least_lengths_are : (g : PlainGrammar) (shortest : List Shortest) (lengths : List ℕ) → length shortest ≡ g.nonterminals → ((n : ℕ) (s : Shortest) → slice_get shortest n ≡ Some s → IsShortest g n s) → lengths ≡ map length_for shortest → AreLeastLengths g shortest lengths
least_lengths_are g shortest lengths all each is = record {
  same = sym (ap length is ∙ length-map shortest length_for);
  all = ap length is ∙ length-map shortest length_for ∙ all;
  each = each;
  sizes = λ n s at. ap (λ xs. slice_get xs n) is ∙ slice_get-map length_for shortest n ∙ ap (option_map length_for) at;
}

-- The length of an answer fits in 16 bits.
answer_short : (g : PlainGrammar) (n : ℕ) (s : Shortest) → IsShortest g n s → length_for s < 2 ^ 16
answer_short g n None is = omega arith
answer_short g n Longer is = omega arith
answer_short g n (Word w) is = omega (arith, is.1)

pub all_short : (g : PlainGrammar) (r : IsInRange g) (shortest : List Shortest) (lengths : List ℕ) → AreLeastLengths g shortest lengths → All (λ n. n < 2 ^ 16) lengths
all_short g r shortest lengths k = All-from_get_or (λ n. n < 2 ^ 16) lengths 0 (λ i l. let at = known g r shortest lengths k i (omega (arith, l, k.all)) in omega (arith, at.size, answer_short g i at.answer at.is))

-- ---- Least lengths of lists, symbol by symbol.

symbol_short : (lengths : List ℕ) (X : Symbol) → All (λ n. n < 2 ^ 16) lengths → IsSymbolBelow (2 ^ 16) (length lengths) X → length_in lengths X < 2 ^ 16
symbol_short lengths (T z) all b = omega arith
symbol_short lengths (N n) all b = All-get_or (λ n. n < 2 ^ 16) lengths n 0 b all

module _ (lengths : List ℕ) (Xs : List Symbol) (i : ℕ) (X : Symbol) (below : i < length Xs) (at : X ≡ get_or Xs i X) where
  pub sum_more : (sum : ℕ) → sum ≡ lengths_in lengths (take i Xs) → sum + length_in lengths X ≡ lengths_in lengths (take (i + 1) Xs)
  sum_more sum is = omega (arith, is, sum_by_more (length_in lengths) Xs i X below, ap (length_in lengths) at)

  pub sum_bounded : (sum : ℕ) → All (λ n. n < 2 ^ 16) lengths → All (IsSymbolBelow (2 ^ 16) (length lengths)) Xs → sum ≤ i * 2 ^ 16 → sum + length_in lengths X ≤ (i + 1) * 2 ^ 16
  sum_bounded sum short symbols l =
      let small = symbol_short lengths (get_or Xs i X) short (All-get_or (IsSymbolBelow (2 ^ 16) (length lengths)) Xs i X below symbols) in
      omega (arith, l, small, ap (length_in lengths) at)
