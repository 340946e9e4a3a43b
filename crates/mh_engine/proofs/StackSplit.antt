-- Lemmas on the loop that walks down the cells of a stack.
use Rattle.std.proofs.Common.{◌≡◌, ℕ, suc, ◌+◌, ◌-◌, ◌<◌, ◌≤◌, List, [], ◌∷◌, ◌++◌, length, take, drop, reverse, refl, sym, ap, subst, arith, ◌∙◌, length-append, append_assoc, append-nil}
use Rattle.std.proofs.lemmas.List.{reverse-append, length-reverse}
use Rattle.std.proofs.Math.Seq.{take-append_seam, drop-append_seam}
use Rattle.mh_grammar.specs.Trees.{SyntaxTree}
use Rattle.mh_engine.specs.Positions.{Pairs}
use Rattle.mh_engine.specs.code.Cells.{pushed, without_last}

-- The loop has passed k cells of the whole stack and is at the stack `below`; `found` has their trees, the newest
-- first.
pub record SplitInvariant (k : ℕ) (whole below : Pairs) (found : List SyntaxTree) : Type 0 where
  pub upper : List ℕ
  pub states : whole.states ≡ below.states ++ upper
  pub trees : whole.trees ≡ below.trees ++ reverse found
  pub count_states : length upper ≡ k
  pub count_trees : length found ≡ k

pub SplitInvariant-start : (whole : Pairs) (found : List SyntaxTree) → found ≡ [] → SplitInvariant 0 whole whole found
SplitInvariant-start whole found e = record {
  upper = [];
  states = sym (append-nil whole.states);
  trees = rw e (sym (append-nil whole.trees));
  count_states = refl;
  count_trees = ap length e;
}

pub SplitInvariant-step : (k : ℕ) (whole below b : Pairs) (found new : List SyntaxTree) (s : ℕ) (t : SyntaxTree) → pushed b s t ≡ below → new ≡ found ++ t ∷ [] → SplitInvariant k whole below found → SplitInvariant (k + 1) whole b new
SplitInvariant-step k whole below b found new s t e n w = record {
  upper = s ∷ w.upper;
  states = w.states ∙ ap (λ (p : Pairs). p.states ++ w.upper) (sym e) ∙ append_assoc b.states (s ∷ []) w.upper;
  trees = w.trees ∙ ap (λ (p : Pairs). p.trees ++ reverse found) (sym e) ∙ append_assoc b.trees (t ∷ []) (reverse found) ∙ ap (λ (l : List SyntaxTree). b.trees ++ l) (sym (reverse-append found (t ∷ [])) ∙ ap reverse (sym n));
  count_states = let c = w.count_states in omega arith;
  count_trees = let c = w.count_trees in rw n (omega (arith, length-append found (t ∷ [])));
}

pub SplitInvariant-not_empty : (k n : ℕ) (whole below : Pairs) (found : List SyntaxTree) → k < n → n ≤ length whole.trees → SplitInvariant k whole below found → below.trees ≡ [] → ⊥
SplitInvariant-not_empty k n whole below found lt le w e =
    let c = w.count_trees in
    let l : length whole.trees ≡ length (reverse found) = ap length (w.trees ∙ ap (λ (x : List SyntaxTree). x ++ reverse found) e) in
    omega (arith, length-reverse found)

pub SplitInvariant-below : (k : ℕ) (whole below : Pairs) (found : List SyntaxTree) → SplitInvariant k whole below found → below ≡ without_last k whole
SplitInvariant-below k whole below found w =
    let cs = w.count_states in
    let ct = w.count_trees in
    let ls : length whole.states - k ≡ length below.states = let a = ap length w.states in omega (arith, length-append below.states w.upper) in
    let lt : length whole.trees - k ≡ length below.trees = let a = ap length w.trees in omega (arith, length-append below.trees (reverse found), length-reverse found) in
    let s : below.states ≡ take (length whole.states - k) whole.states = rw (ls, w.states) (sym (take-append_seam below.states w.upper)) in
    let t : below.trees ≡ take (length whole.trees - k) whole.trees = rw (lt, w.trees) (sym (take-append_seam below.trees (reverse found))) in
    same below (without_last k whole) s t
  where
    same : (a b : Pairs) → a.states ≡ b.states → a.trees ≡ b.trees → a ≡ b
    same a b s t = ap (λ (l : List ℕ). record { states = l; trees = a.trees }) s ∙ ap (λ (l : List SyntaxTree). record { states = b.states; trees = l }) t

pub SplitInvariant-found : (k : ℕ) (whole below : Pairs) (found : List SyntaxTree) → SplitInvariant k whole below found → reverse found ≡ drop (length whole.trees - k) whole.trees
SplitInvariant-found k whole below found w =
    let ct = w.count_trees in
    let lt : length whole.trees - k ≡ length below.trees = let a = ap length w.trees in omega (arith, length-append below.trees (reverse found), length-reverse found) in
    rw (lt, w.trees) (sym (drop-append_seam below.trees (reverse found)))
