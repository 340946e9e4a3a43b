-- Proves, as a double negation, that a grammar with a sentence within the limit has a random sentence for each seed.
use Rattle.std.proofs.Common.{◌≡◌, ◌∙◌, ℕ, zero, suc, ◌+◌, ◌<◌, ◌≤◌, ◌%◌, inl, inr, List, [], ◌∷◌, ◌++◌, length, refl, sym, ap, subst, append_assoc, arith}
use Rattle.std.proofs.lemmas.Bool.{cases_lt}
use Rattle.std.proofs.lemmas.List.{append-nil, length-append}
use Rattle.std.proofs.lemmas.Nat.{mod_below}
use Rattle.std.proofs.lemmas.Option.{slice_get_within}
use Rattle.mh_grammar.specs.declared.types.Grammar.{Grammar}
use Rattle.mh_grammar.specs.declared.types.Symbol.{Symbol}
use Rattle.mh_grammar.specs.declared.types.Symbol.TheVariants.{T, N}
use Rattle.mh_grammar.specs.Derivations as trees
use Rattle.mh_grammar.specs.Plain.{PlainGrammar, plain_of, Derives, DerivesAll, IsSentence, production_count, rhs_of, start_symbol}
use Rattle.mh_grammar.proofs.Lists.{at_contains, contains_at, get_within}
use Rattle.mh_grammar.specs.NotLacking.{NotLacking}
use Rattle.mh_grammar.proofs.NotLacking.{given, chain, decided}
use Rattle.mh_msgfile.specs.FileTexts.{sentence_text}
use Rattle.mh_sample.proofs.ShortLex.{shortlex_length}
use Rattle.mh_sample.specs.DrawLimit.{max_draws}
use Rattle.mh_sample.specs.Random as random
use Rattle.mh_sample.specs.Random.{CanEnd, IsCandidate, IsChosen, IsRandom, Writes, draw}
use Rattle.mh_top_plans.specs.Drawn.{IsDrawn, none_within}
use Rattle.mh_top_plans.specs.declared.at_end.FinalText.{FinalText}
use Rattle.mh_top_plans.specs.declared.at_end.FinalText.TheVariants.{Written, Refusal}
use Rattle.mh_top_outcomes.proofs.SelectedNumbers.{selected_numbers}
use Rattle.mh_top_outcomes.proofs.SomeShortest.{some_least}

-- If the first symbol gets a shortest word, the rest can still be written within the limit.
rest_can_end : (g : PlainGrammar) (n : ℕ) (w u : List ℕ) (X : Symbol) (rest : List Symbol) → ((v : List ℕ) → Derives g X v → length u ≤ length v) → CanEnd g n (length w) (X ∷ rest) → CanEnd g n (length (w ++ u)) rest
rest_can_end g n w u X rest least c = go c.0 c.1 c.2
  where
    go : (v : List ℕ) → DerivesAll g (X ∷ rest) v → length w + length v ≤ n → CanEnd g n (length (w ++ u)) rest
    go v (trees.Derivations.more {u = a} {v = b} j t f) l =
        let both : length v ≡ length (a ++ b) = ap length j in
        (b, f, omega (arith, both, l, length-append a b, length-append w u, least a t))

token_length : (g : PlainGrammar) (z : ℕ) (v : List ℕ) → Derives g (T z) v → 1 ≤ length v
token_length g z v (trees.Derivation.leaf t) = omega arith
token_length g z v (trees.Derivation.node p f) = absurd p

module _ (g : PlainGrammar) where
  derived_append : (Xs Ys : List Symbol) (u v : List ℕ) → DerivesAll g Xs u → DerivesAll g Ys v → DerivesAll g (Xs ++ Ys) (u ++ v)
  derived_append [] Ys u v trees.Derivations.none t = t
  derived_append (X ∷ Xs) Ys w v (trees.Derivations.more {u = a} {v = b} j t f) s =
      trees.Derivations.more (ap (λ (l : List ℕ). l ++ v) j ∙ append_assoc a b v) t (derived_append Xs Ys b v f s)

  first_derives : (X : Symbol) (rest : List Symbol) (v : List ℕ) → DerivesAll g (X ∷ rest) v → (u : List ℕ) × Derives g X u
  first_derives X rest v (trees.Derivations.more {u = u} j t f) = (u, t)

  module _ (seed n : ℕ) where
    -- Pending symbols that can be written within the limit have a candidate.
    some_candidate : (w : List ℕ) (x : ℕ) (rest : List Symbol) → CanEnd g n (length w) (N x ∷ rest) → (p : ℕ) × IsCandidate g n (length w) x rest p
    some_candidate w x rest c = by c.0 c.1 c.2
      where
        by : (v : List ℕ) → DerivesAll g (N x ∷ rest) v → length w + length v ≤ n → (p : ℕ) × IsCandidate g n (length w) x rest p
        by v (trees.Derivations.more {u = a} {v = b} j (trees.Derivation.leaf t) f) l = absurd t
        by v (trees.Derivations.more {u = a} {v = b} j (trees.Derivation.node (p, of, side) s) f) l =
            let all : DerivesAll g (rhs_of g p ++ rest) (a ++ b) = derived_append (rhs_of g p) rest a b (subst (λ (Xs : List Symbol). DerivesAll g Xs a) (sym side) s) f in
            (p, record { production = of; ends = (a ++ b, all, subst (λ (u : List ℕ). length w + length u ≤ n) j l) })

    abbrev Draws : ℕ → List ℕ → ℕ → List Symbol → Type 0
    Draws d w x rest = (p : ℕ) × IsChosen g n (length w) x rest (draw seed d) p × CanEnd g n (length w) (rhs_of g p ++ rest)

    some_draw : (d : ℕ) (w : List ℕ) (x : ℕ) (rest : List Symbol) → CanEnd g n (length w) (N x ∷ rest) → NotLacking (Draws d w x rest)
    some_draw d w x rest c = chain (selected_numbers (IsCandidate g n (length w) x rest) (production_count g) (λ p one. one.production.known)) (λ ps.
        let one = some_candidate w x rest c in
        let place = at_contains ps.0 one.0 ((ps.2 one.0).1 one.1) in
        let some = slice_get_within ps.0 place.0 one.0 place.1 in
        let p = get_within ps.0 (draw seed d % length ps.0) (mod_below (draw seed d) (length ps.0) (omega (arith, some))) in
        given (p.0, (ps.0, record { rising = ps.1; exact = ps.2 }, p.1), ((ps.2 p.0).0 (contains_at ps.0 (draw seed d % length ps.0) p.0 p.1)).ends))

    abbrev Ends : ℕ → List ℕ → List Symbol → Type 0
    Ends d w pending = (s : List ℕ) × Writes g seed n d w pending s

    -- The rest of the writing, while draws are left.
    draws : (d : ℕ) → d < max_draws → ((w : List ℕ) (pending : List Symbol) → CanEnd g n (length w) pending → NotLacking (Ends (suc d) w pending)) → (pending : List Symbol) (w : List ℕ) → CanEnd g n (length w) pending → NotLacking (Ends d w pending)
    draws d l next [] w c = given (w, random.Writes.ended)
    draws d l next (T z ∷ rest) w c = chain (draws d l next rest (w ++ z ∷ []) (rest_can_end g n w (z ∷ []) (T z) rest (token_length g z) c)) (λ s. given (s.0, random.Writes.token s.1))
    draws d l next (N x ∷ rest) w c = chain (some_draw d w x rest c) (λ p. chain (next w (rhs_of g p.0 ++ rest) p.2) (λ s. given (s.0, random.Writes.drawn p.0 l p.1 s.1)))

    -- Once all draws are made, the pending symbols can be written: each nonterminal as its least word.
    least_words : (d : ℕ) → max_draws ≤ d → (pending : List Symbol) (w : List ℕ) → CanEnd g n (length w) pending → NotLacking (Ends d w pending)
    least_words d l [] w c = given (w, random.Writes.ended)
    least_words d l (T z ∷ rest) w c = chain (least_words d l rest (w ++ z ∷ []) (rest_can_end g n w (z ∷ []) (T z) rest (token_length g z) c)) (λ s. given (s.0, random.Writes.token s.1))
    least_words d l (N x ∷ rest) w c =
        let first = first_derives (N x) rest c.0 c.1 in
        chain (some_least g (N x) first.0 first.1) (λ u. chain (least_words d l rest (w ++ u.0) (rest_can_end g n w u.0 (N x) rest (λ v t. shortlex_length u.0 v (u.1.first v t)) c)) (λ s. given (s.0, random.Writes.least u.0 l u.1 s.1)))

    written : (left d : ℕ) → d + left ≡ max_draws → (w : List ℕ) (pending : List Symbol) → CanEnd g n (length w) pending → NotLacking (Ends d w pending)
    written zero d e w pending c = least_words d (omega (arith, e)) pending w c
    written (suc left) d e w pending c = draws d (omega (arith, e)) (λ v ps k. written left (suc d) (omega (arith, e)) v ps k) pending w c

    some_random : (s : List ℕ) → IsSentence g 0 s → length s ≤ n → NotLacking ((r : List ℕ) × IsRandom g seed n r)
    some_random s is le = written max_draws 0 refl [] (start_symbol g 0 ∷ []) (s, trees.Derivations.more (sym (append-nil s)) is trees.Derivations.none, omega (arith, le))

pub some_drawn : (g : Grammar) (seed n : ℕ) → NotLacking ((made : FinalText) × IsDrawn g seed n made)
some_drawn g seed n = chain (decided ((s : List ℕ) × IsSentence (plain_of g) 0 s × (length s ≤ n))) (λ d. elim d [
  | inl h ↦ chain (some_random (plain_of g) seed n h.0 h.1 h.2) (λ r. given (Written (sentence_text g 0 r.0 ++ 10 ∷ []), (r.0, r.1, refl)))
  | inr none ↦ given (Refusal (none_within g n), (λ s is. elim (cases_lt n (length s)) [ inl lt ↦ lt | inr le ↦ absurd (none (s, is, le)) ], refl))
])
