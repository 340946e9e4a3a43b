-- Definitions of the best-first searches, for any order of words: the ends of paths, the laws of the orders, soundness,
-- closure of the second search under its rules, and candidates. The letters are those of `Search`:
-- - The key (r, p, d, a, z) is a path from the state r along the first d symbols of the production p; a is its first
--   token, and z (or y) the next token after it. The state s is the end of the path.
-- - A complete path of the production q begins in s and ends in e; its goto leads from s to g.
-- - A goto fact (s, n, y, x, v) says that the word v leads from the state s over the goto on the nonterminal n, where y
--   is the first token and x the next token after the word.
-- - A shift of the token x leads to j. The letter n is a nonterminal, i is a start, u, v and w are words, and k, l and m
--   are keys or labels.
-- - `rep s z` is the representative of the token z in the state s, `store` has the words by keys, `goto_words` the goto
--   facts with their words, and `reached` the labels by state and next token.
use Rattle.std.specs.Prelude.{◌≡◌, ℕ, zero, suc, List, [], ◌∷◌, ◌++◌, length, slice_get, Option, Some, ◌<◌}
use Rattle.mh_grammar.specs.declared.types.Symbol.{Symbol}
use Rattle.mh_grammar.specs.declared.types.Symbol.TheVariants.{N}
use Rattle.mh_tables_core.specs.Table.{TableData, edge_of}
use Rattle.mh_grammar.specs.Plain.{rhs_of, lhs_of}
use Rattle.mh_tables_core.specs.Run.{Refuses, Shifts, Reduces, run_move_of}
use Rattle.mh_facts.specs.declared.store.FactKey.{FactKey}
use Rattle.mh_facts.specs.Search.{leading_token, DerivesFact, ReachesState}

-- The state s is the end of the path from r along the first d symbols of p.
abbrev pub IsPathEnd : TableData → ℕ → ℕ → ℕ → ℕ → Type 0
IsPathEnd t r p zero s = s ≡ r
IsPathEnd t r p (suc d) s = (b : ℕ) × (x : Symbol) × IsPathEnd t r p d b × (slice_get (rhs_of t.grammar p) d ≡ Some x) × (edge_of t b x ≡ Some s)

-- The laws of an order of words: reflexive, transitive, monotone under concatenation, and no word comes before its
-- prefixes or suffixes.
pub record WordOrderLaws (Le : List ℕ → List ℕ → Type 0) : Type 0 where
  pub reflexive : (u : List ℕ) → Le u u
  pub transitive : (u v w : List ℕ) → Le u v → Le v w → Le u w
  pub monotone : (u u' v v' : List ℕ) → Le u u' → Le v v' → Le (u ++ v) (u' ++ v')
  pub prefix : (u v : List ℕ) → Le u (u ++ v)
  pub suffix : (u v : List ℕ) → Le v (u ++ v)

abbrev pub key : ℕ → ℕ → ℕ → ℕ → ℕ → FactKey
key r p d a z = record { from = r; production = p; dot = d; first = a; next = z }

-- The word that is stored for the key comes no later than w.
abbrev pub HasNoLater : (List ℕ → List ℕ → Type 0) → (FactKey → Option (List ℕ)) → FactKey → List ℕ → Type 0
HasNoLater Le store k w = (u : List ℕ) × (store k ≡ Some u) × Le u w

-- Tokens with one representative in a state g are interchangeable before g: if a production whose goto leads to g is
-- reduced on one of the tokens, it is reduced on the others, and they have one representative in the reducing state
-- too.
pub record Congruent (t : TableData) (rep : ℕ → ℕ → ℕ) : Type 0 where
  pub reduces : (s q e g y z : ℕ) → IsPathEnd t s q (length (rhs_of t.grammar q)) e → edge_of t s (N (lhs_of t.grammar q)) ≡ Some g → y < t.grammar.tokens → z < t.grammar.tokens → rep g y ≡ rep g z → run_move_of t e (y ∷ []) ≡ Reduces q
      → (run_move_of t e (z ∷ []) ≡ Reduces q) × (rep e y ≡ rep e z)

-- For each token that x represents in g, v is the word of a complete path from s that is reduced to the nonterminal n,
-- with y as the representative of the first token to come.
abbrev pub SoundGoto : TableData → (ℕ → ℕ → ℕ) → ℕ → ℕ → ℕ → ℕ → ℕ → List ℕ → Type 0
SoundGoto t rep s n y x g v = (z : ℕ) → z < t.grammar.tokens → rep g z ≡ x
    → (q : ℕ) × (e : ℕ) × (lhs_of t.grammar q ≡ n) × DerivesFact t s q (length (rhs_of t.grammar q)) (leading_token v z) z v e × (run_move_of t e (z ∷ []) ≡ Reduces q) × (rep s (leading_token v z) ≡ y)

-- A label of the second search: the start and the word by which a state is reached.
pub record Label : Type 0 where
  pub start : ℕ
  pub word : List ℕ

abbrev pub extended_label : Label → List ℕ → Label
extended_label l v = record { start = l.start; word = l.word ++ v }

-- The laws of an order of labels that agrees with an order of words.
pub record LabelOrderLaws (Le : List ℕ → List ℕ → Type 0) (LeAt : Label → Label → Type 0) : Type 0 where
  pub reflexive : (l : Label) → LeAt l l
  pub transitive : (k l m : Label) → LeAt k l → LeAt l m → LeAt k m
  pub monotone : (k l : Label) (u v : List ℕ) → LeAt k l → Le u v → LeAt (extended_label k u) (extended_label l v)
  pub prefix : (k : Label) (v : List ℕ) → LeAt k (extended_label k v)

abbrev pub HasNoLaterLabel : (Label → Label → Type 0) → (ℕ → ℕ → Option Label) → ℕ → ℕ → Label → Type 0
HasNoLaterLabel LeAt reached s z l = (k : Label) × (reached s z ≡ Some k) × LeAt k l

-- Where the premises of a rule on goto facts hold in the second search, H holds of the conclusion.
pub record LabelsClosedByGotos (t : TableData) (rep : ℕ → ℕ → ℕ) (goto_words : (from nonterminal first next : ℕ) → List ℕ → Type 0) (reached : ℕ → ℕ → Option Label) (H : ℕ → ℕ → Label → Type 0) : Type 0 where
  pub begins : (i z : ℕ) → i < length t.grammar.starts → z < t.grammar.tokens → H i (rep i z) (record { start = i; word = [] })
  pub shifts : (s x z j : ℕ) (l : Label) → reached s (rep s x) ≡ Some l → run_move_of t s (x ∷ []) ≡ Shifts j → z < t.grammar.tokens → H j (rep j z) (extended_label l (x ∷ []))
  pub gotos : (s n y x g : ℕ) (l : Label) (v : List ℕ) → reached s y ≡ Some l → goto_words s n y x v → edge_of t s (N n) ≡ Some g → H g x (extended_label l v)

-- For each token that y represents in s, the label reaches s with this token next.
abbrev pub SoundLabel : TableData → (ℕ → ℕ → ℕ) → ℕ → ℕ → Label → Type 0
SoundLabel t rep s y l = (z : ℕ) → z < t.grammar.tokens → rep s z ≡ y → (l.start < length t.grammar.starts) × ReachesState t l.start s z l.word

-- A candidate for the sentence of a state: the state refuses the token z after the word of the label l.
pub record Candidate (t : TableData) (rep : ℕ → ℕ → ℕ) (reached : ℕ → ℕ → Option Label) (s z : ℕ) (l : Label) : Type 0 where
  pub known : z < t.grammar.tokens
  pub refuses : run_move_of t s (z ∷ []) ≡ Refuses
  pub reached_at : reached s (rep s z) ≡ Some l

-- For each complete path and its goto: the path's last state e reduces the production on a token exactly if it does so
-- on the token's representative in the target g of the goto. Then the token and this representative have the same
-- representative in e.
pub record RepresentativesAgree (t : TableData) (rep : ℕ → ℕ → ℕ) : Type 0 where
  pub to_representative : (s q e g z : ℕ) → IsPathEnd t s q (length (rhs_of t.grammar q)) e → edge_of t s (N (lhs_of t.grammar q)) ≡ Some g → z < t.grammar.tokens → run_move_of t e (z ∷ []) ≡ Reduces q → (run_move_of t e (rep g z ∷ []) ≡ Reduces q) × (rep e z ≡ rep e (rep g z))
  pub from_representative : (s q e g z : ℕ) → IsPathEnd t s q (length (rhs_of t.grammar q)) e → edge_of t s (N (lhs_of t.grammar q)) ≡ Some g → z < t.grammar.tokens → run_move_of t e (rep g z ∷ []) ≡ Reduces q → run_move_of t e (z ∷ []) ≡ Reduces q
