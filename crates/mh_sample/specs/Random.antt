-- The definition of the random sentence of a seed, with at most n tokens. The draws are the words of PCG's 32-bit
-- generator (O'Neill, "PCG: a family of simple fast space-efficient statistically good algorithms for random number
-- generation", 2014). The rule that chooses productions by the draws is this project's own.
use Rattle.std.specs.Prelude.{◌≡◌, ◌<◌, ◌≤◌, ◌+◌, ◌%◌, ◌↔◌, ℕ, zero, suc, List, [], ◌∷◌, ◌++◌, Some, length, slice_get}
use Rattle.std.specs.List.{Contains}
use Rattle.rand_core.specs.Pcg32Seed.{pcg32_seed}
use Rattle.rand_pcg.specs.Lcg.{Lcg}
use Rattle.rand_pcg.specs.Pcg.{pcg32, pcg32_of_seed}
use Rattle.mh_grammar.specs.declared.types.Symbol.{Symbol}
use Rattle.mh_grammar.specs.declared.types.Symbol.TheVariants.{T, N}
use Rattle.mh_grammar.specs.Edges.{IsRising}
use Rattle.mh_grammar.specs.Plain.{PlainGrammar, DerivesAll, IsProductionFor, rhs_of, start_symbol}
use Rattle.mh_sample.specs.Shortest.{IsLeast}
use Rattle.mh_sample.specs.DrawLimit.{max_draws}

-- The generator of the seed after the given number of draws.
unfoldable pub generator_after : ℕ → ℕ → Lcg
generator_after seed zero = pcg32_of_seed (pcg32_seed 16 seed)
generator_after seed (suc i) = (pcg32 (generator_after seed i)).1

-- The number that the generator of the seed gives after the given number of draws.
abbrev pub draw : ℕ → ℕ → ℕ
draw seed i = (pcg32 (generator_after seed i)).0

-- After the tokens written so far, the symbols can be written with at most n tokens in total.
abbrev pub CanEnd : PlainGrammar → ℕ → ℕ → List Symbol → Type 0
CanEnd g n written symbols = (w : List ℕ) × DerivesAll g symbols w × (written + length w ≤ n)

-- A candidate: a production of the nonterminal x whose right side, followed by the rest, can still be written with at
-- most n tokens in total.
pub record IsCandidate (g : PlainGrammar) (n written x : ℕ) (rest : List Symbol) (p : ℕ) : Type 0 where
  pub production : IsProductionFor g x p
  pub ends : CanEnd g n written (rhs_of g p ++ rest)

-- All candidates, in the order of the productions.
pub record AreCandidates (g : PlainGrammar) (n written x : ℕ) (rest : List Symbol) (ps : List ℕ) : Type 0 where
  pub rising : IsRising (λ p q. p < q) ps
  pub exact : (p : ℕ) → Contains ps p ↔ IsCandidate g n written x rest p

-- The chosen candidate has as its index the drawn number modulo the number of candidates.
abbrev pub IsChosen : PlainGrammar → ℕ → ℕ → ℕ → List Symbol → ℕ → ℕ → Type 0
IsChosen g n written x rest number p = (ps : List ℕ) × AreCandidates g n written x rest ps × (slice_get ps (number % length ps) ≡ Some p)

-- The rest of the writing, by the number of draws, the tokens written so far and the pending symbols. The first pending
-- symbol is handled first: a token is written; a nonterminal is replaced by the right side of the candidate that is
-- drawn, or, after the last draw, by its least word.
pub data Writes (g : PlainGrammar) (seed n : ℕ) : ℕ → List ℕ → List Symbol → List ℕ → Type 0 where
  ended : {d : ℕ} {w : List ℕ} → Writes g seed n d w [] w
  token : {d z : ℕ} {w s : List ℕ} {rest : List Symbol} → Writes g seed n d (w ++ z ∷ []) rest s → Writes g seed n d w (T z ∷ rest) s
  drawn : {d x : ℕ} {w s : List ℕ} {rest : List Symbol} (p : ℕ) → d < max_draws → IsChosen g n (length w) x rest (draw seed d) p → Writes g seed n (suc d) w (rhs_of g p ++ rest) s → Writes g seed n d w (N x ∷ rest) s
  least : {d x : ℕ} {w s : List ℕ} {rest : List Symbol} (u : List ℕ) → max_draws ≤ d → IsLeast g (N x) u → Writes g seed n d (w ++ u) rest s → Writes g seed n d w (N x ∷ rest) s

-- The list s is the random sentence of the seed, of at most n tokens.
abbrev pub IsRandom : PlainGrammar → ℕ → ℕ → List ℕ → Type 0
IsRandom g seed n s = Writes g seed n 0 [] (start_symbol g 0 ∷ []) s
