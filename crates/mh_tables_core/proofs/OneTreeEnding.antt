-- Proves that the end of a run with trees is unique.
use Rattle.std.proofs.Common.{◌≡◌, ℕ, zero, suc, ◌+◌, List, [], ◌∷◌, refl, ap, sym, arith, ◌∙◌}
use Rattle.mh_grammar.specs.Trees.{SyntaxTree}
use Rattle.mh_tables_core.specs.Table.{TableData}
use Rattle.mh_tables_core.specs.Run.{Config, RunMove, Accepts, Asks, Refuses, Shifts, Reduces, run_move_of, top_of, step, next_of, after, initial, Ends, Ending, Accepted, Overshot, Rejected, VerdictOf}
use Rattle.mh_tables_core.specs.RunTrees.{trees_after_move, trees_after}
use Rattle.mh_tables_core.proofs.RunEnds.{ending_unique}
use Rattle.mh_tables_core.specs.TreeRuns.{LeavesTree, IsTreeOfRead, TreeEnding, AcceptedTree, OvershotTree, RejectedTree, DeepTree, IsTreeEnding}
use Rattle.mh_tables_core.proofs.IsTreeOfRead.{EndsBy, step_ends}

grown_at_end : (t : TableData) (c : Config) (m : RunMove) (how : Ending) (ts : List SyntaxTree) → EndsBy m c how → trees_after_move t m c.left ts ≡ ts
grown_at_end t c Accepts how ts e = refl
grown_at_end t c Asks how ts e = refl
grown_at_end t c Refuses how ts e = refl
grown_at_end t c (Shifts j) how ts e = absurd e
grown_at_end t c (Reduces p) how ts e = absurd e

-- After the end of the run the trees stay the same.
trees_ended : (t : TableData) (m : ℕ) (c : Config) (how : Ending) (ts : List SyntaxTree) → step t c ≡ Ends how → trees_after t m c ts ≡ ts
trees_ended t zero c how ts e = refl
trees_ended t (suc m) c how ts e =
    let g = grown_at_end t c (run_move_of t (top_of c.stack) c.left) how ts (step_ends t c how e) in
    rw (e, g) (trees_ended t m c how ts e)

trees_stay : (t : TableData) (n m : ℕ) (c : Config) (how : Ending) (ts : List SyntaxTree) → step t (after t n c) ≡ Ends how → trees_after t (n + m) c ts ≡ trees_after t n c ts
trees_stay t zero m c how ts e = let sum : zero + m ≡ m = omega arith in rw sum (trees_ended t m c how ts e)
trees_stay t (suc n) m c how ts e =
    let sum : suc n + m ≡ suc (n + m) = omega arith in
    rw sum (trees_stay t n m (next_of c (step t c)) how (trees_after_move t (run_move_of t (top_of c.stack) c.left) c.left ts) e)

module _ (t : TableData) (start : ℕ) (w : List ℕ) where
  one_left : (r r' : ℕ) (x y : SyntaxTree) → LeavesTree t start w r x → LeavesTree t start w r' y → x ≡ y
  one_left r r' x y a b =
      let left = sym (trees_stay t a.steps b.steps (initial start w) (Accepted r) [] a.ends) in
      let right = trees_stay t b.steps a.steps (initial start w) (Accepted r') [] b.ends in
      let e : a.steps + b.steps ≡ b.steps + a.steps = omega arith in
      let both : x ∷ [] ≡ y ∷ [] = sym a.trees ∙ left ∙ ap (λ (n : ℕ). trees_after t n (initial start w) []) e ∙ right ∙ b.trees in cc

  pub one_verdict : (a b : Ending) → VerdictOf t start w a → VerdictOf t start w b → a ≡ b
  one_verdict a b = ending_unique t (initial start w) a b

  accepts_so : (r : ℕ) (x : SyntaxTree) → IsTreeOfRead t start w r x → VerdictOf t start w (Accepted r)
  accepts_so r x h = (h.left.steps, h.left.ends)

  pub one_tree_ending : (a b : TreeEnding) → IsTreeEnding t start w a → IsTreeEnding t start w b → a ≡ b
  one_tree_ending (AcceptedTree r x) (AcceptedTree r' y) a b =
      let same = one_verdict (Accepted r) (Accepted r') (accepts_so r x a.0) (accepts_so r' y b.0) in
      let trees = one_left r r' x y a.0.left b.0.left in
      cc
  one_tree_ending (AcceptedTree r x) (OvershotTree s) a b = let same = one_verdict (Accepted r) (Overshot s) (accepts_so r x a.0) b.0 in cc
  one_tree_ending (AcceptedTree r x) (RejectedTree k s) a b = let same = one_verdict (Accepted r) (Rejected k s) (accepts_so r x a.0) b.0 in cc
  one_tree_ending (AcceptedTree r x) DeepTree a b = absurd (a.1 b)
  one_tree_ending (OvershotTree s) (AcceptedTree r y) a b = let same = one_verdict (Overshot s) (Accepted r) a.0 (accepts_so r y b.0) in cc
  one_tree_ending (OvershotTree s) (OvershotTree s') a b = let same = one_verdict (Overshot s) (Overshot s') a.0 b.0 in cc
  one_tree_ending (OvershotTree s) (RejectedTree k s') a b = let same = one_verdict (Overshot s) (Rejected k s') a.0 b.0 in cc
  one_tree_ending (OvershotTree s) DeepTree a b = absurd (a.1 b)
  one_tree_ending (RejectedTree k s) (AcceptedTree r y) a b = let same = one_verdict (Rejected k s) (Accepted r) a.0 (accepts_so r y b.0) in cc
  one_tree_ending (RejectedTree k s) (OvershotTree s') a b = let same = one_verdict (Rejected k s) (Overshot s') a.0 b.0 in cc
  one_tree_ending (RejectedTree k s) (RejectedTree k' s') a b = let same = one_verdict (Rejected k s) (Rejected k' s') a.0 b.0 in cc
  one_tree_ending (RejectedTree k s) DeepTree a b = absurd (a.1 b)
  one_tree_ending DeepTree (AcceptedTree r y) a b = absurd (b.1 a)
  one_tree_ending DeepTree (OvershotTree s) a b = absurd (b.1 a)
  one_tree_ending DeepTree (RejectedTree k s) a b = absurd (b.1 a)
  one_tree_ending DeepTree DeepTree a b = refl
