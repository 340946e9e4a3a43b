-- A random sentence is a sentence of the first start symbol, within the limit.
use Rattle.std.proofs.Common.{◌≡◌, ◌∙◌, ◌≤◌, ◌+◌, ◌++◌, ℕ, List, [], ◌∷◌, length, refl, sym, ap, arith, subst}
use Rattle.std.specs.List.{slice_index}
use Rattle.std.proofs.lemmas.List.{length-append, append_assoc, append-nil}
use Rattle.mh_grammar.specs.declared.types.Symbol.{Symbol}
use Rattle.mh_grammar.specs.declared.types.Symbol.TheVariants.{T, N}
use Rattle.mh_grammar.specs.Derivations as trees
use Rattle.mh_grammar.specs.Plain.{PlainGrammar, Derives, DerivesAll, IsSentence, rhs_of}
use Rattle.mh_grammar.proofs.Lists.{contains_at}
use Rattle.mh_sample.proofs.ShortLex.{shortlex_length}
use Rattle.mh_sample.specs.Random as random
use Rattle.mh_sample.specs.Random.{CanEnd, IsRandom, Writes}

-- The final tokens are the tokens written so far and a word of the pending symbols, within the limit.
pub record Written (g : PlainGrammar) (n : ℕ) (w : List ℕ) (pending : List Symbol) (s : List ℕ) : Type 0 where
  pub rest : List ℕ
  pub is : s ≡ w ++ rest
  pub derived : DerivesAll g pending rest
  pub within : length s ≤ n

-- A word that two lists of symbols derive together is the concatenation of a word of each.
pub derived_parts : (g : PlainGrammar) (Xs Ys : List Symbol) (w : List ℕ) → DerivesAll g (Xs ++ Ys) w → (u : List ℕ) × (v : List ℕ) × (w ≡ u ++ v) × DerivesAll g Xs u × DerivesAll g Ys v
derived_parts g [] Ys w t = ([], w, refl, trees.Derivations.none, t)
derived_parts g (X ∷ Xs) Ys w (trees.Derivations.more {u = u} {v = v} j t f) =
    let rest = derived_parts g Xs Ys v f in
    (u ++ rest.0, rest.1, j ∙ ap (λ z. u ++ z) rest.2 ∙ sym (append_assoc u rest.0 rest.1), trees.Derivations.more refl t rest.3, rest.4)

-- If the first symbol gets a shortest word, the rest can still be written within the limit.
rest_can_end : (g : PlainGrammar) (n : ℕ) (w u : List ℕ) (X : Symbol) (rest : List Symbol) → ((v : List ℕ) → Derives g X v → length u ≤ length v) → CanEnd g n (length w) (X ∷ rest) → CanEnd g n (length (w ++ u)) rest
rest_can_end g n w u X rest least c = go c.0 c.1 c.2
  where
    go : (v : List ℕ) → DerivesAll g (X ∷ rest) v → length w + length v ≤ n → CanEnd g n (length (w ++ u)) rest
    go v (trees.Derivations.more {u = a} {v = b} j t f) l =
        let both : length v ≡ length (a ++ b) = ap length j in
        (b, f, omega (arith, both, l, length-append a b, length-append w u, least a t))

token_length : (g : PlainGrammar) (z : ℕ) (v : List ℕ) → Derives g (T z) v → 1 ≤ length v
token_length g z v (trees.Derivation.leaf t) = omega arith
token_length g z v (trees.Derivation.node p f) = absurd p

pub sentence_written : (g : PlainGrammar) (seed n d : ℕ) (w : List ℕ) (pending : List Symbol) (s : List ℕ) → Writes g seed n d w pending s → CanEnd g n (length w) pending → Written g n w pending s
sentence_written g seed n d w pending s random.Writes.ended c = record { rest = []; is = sym (append-nil w); derived = trees.Derivations.none; within = omega (arith, c.2) }
sentence_written g seed n d w pending s (random.Writes.token {z = z} {rest = rest} h) c =
    let r = sentence_written g seed n d (w ++ z ∷ []) rest s h (rest_can_end g n w (z ∷ []) (T z) rest (token_length g z) c) in
    record { rest = z ∷ r.rest; is = r.is ∙ append_assoc w (z ∷ []) r.rest; derived = trees.Derivations.more refl (trees.Derivation.leaf refl) r.derived; within = r.within }
sentence_written g seed n d w pending s (random.Writes.drawn {x = x} {rest = rest} p l chosen h) c =
    let candidate = (chosen.1.exact p).0 (contains_at chosen.0 _ p chosen.2) in
    let r = sentence_written g seed n _ w (rhs_of g p ++ rest) s h candidate.ends in
    let parts = derived_parts g (rhs_of g p) rest r.rest r.derived in
    record { rest = r.rest; is = r.is; derived = trees.Derivations.more parts.2 (trees.Derivation.node (p, candidate.production, refl) parts.3) parts.4; within = r.within }
sentence_written g seed n d w pending s (random.Writes.least {x = x} {rest = rest} u l least h) c =
    let r = sentence_written g seed n d (w ++ u) rest s h (rest_can_end g n w u (N x) rest (λ v t. shortlex_length u v (least.first v t)) c) in
    record { rest = u ++ r.rest; is = r.is ∙ append_assoc w u r.rest; derived = trees.Derivations.more refl least.derived r.derived; within = r.within }

-- If there is a random sentence, the start symbol can be written within the limit.
start_can_end : (g : PlainGrammar) (seed n x : ℕ) (s : List ℕ) → Writes g seed n 0 [] (N x ∷ []) s → CanEnd g n 0 (N x ∷ [])
start_can_end g seed n x s (random.Writes.drawn p l chosen h) =
    let candidate = (chosen.1.exact p).0 (contains_at chosen.0 _ p chosen.2) in
    let parts = derived_parts g (rhs_of g p) [] candidate.ends.0 candidate.ends.1 in
    (candidate.ends.0, trees.Derivations.more parts.2 (trees.Derivation.node (p, candidate.production, refl) parts.3) parts.4, candidate.ends.2)
start_can_end g seed n x s (random.Writes.least u l least h) = absurd (omega (arith, l))

derived_one : (g : PlainGrammar) (X : Symbol) (w : List ℕ) → DerivesAll g (X ∷ []) w → Derives g X w
derived_one g X w (trees.Derivations.more {u = u} {v = v} j t f) = subst (Derives g X) (sym (j ∙ ap (λ z. u ++ z) (nothing v f) ∙ append-nil u)) t
  where
    nothing : (v : List ℕ) → DerivesAll g [] v → v ≡ []
    nothing v trees.Derivations.none = refl

-- A random sentence is a sentence within the limit.
pub random_is_sentence : (g : PlainGrammar) (seed n : ℕ) (s : List ℕ) → IsRandom g seed n s → IsSentence g 0 s × (length s ≤ n)
random_is_sentence g seed n s h =
    let x = slice_index g.starts 0 in
    let r = sentence_written g seed n 0 [] (N x ∷ []) s h (start_can_end g seed n x s h) in
    (subst (Derives g (N x)) (sym r.is) (derived_one g (N x) r.rest r.derived), r.within)
