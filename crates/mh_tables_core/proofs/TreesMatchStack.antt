-- Proves that the trees on the stack of a run are trees for the symbols of the right side that a reduction takes off.
use Rattle.std.proofs.Common.{◌≡◌, ℕ, zero, suc, ◌+◌, ◌-◌, ◌<◌, ◌≤◌, inl, inr, List, [], ◌∷◌, ◌++◌, length, take, drop, get_or, Some, refl, ap, sym, subst, arith, ◌∙◌, length-append, length-drop, append_assoc, append-nil}
use Rattle.std.proofs.lemmas.Bool.{cases_lt}
use Rattle.std.proofs.lemmas.List.{get_or-take, get_or-drop, length-take-le, take-append-drop}
use Rattle.std.proofs.Math.ListN.{get_or-append}
use Rattle.std.proofs.Math.Seq.{get_or-append_seam}
use Rattle.std.specs.List.{slice_get}
use Rattle.mh_grammar.specs.declared.types.Symbol.{Symbol}
use Rattle.mh_grammar.specs.Plain.{rhs_of, lhs_of}
use Rattle.mh_tables_core.specs.Table.{TableData, edge_of, fallback_of}
use Rattle.mh_grammar.specs.declared.types.Symbol.TheVariants.{N, T}
use Rattle.mh_tables_core.specs.declared.parts.Fallback.TheVariants as fallbacks
use Rattle.mh_tables_core.specs.Facts.{Facts, InCore, ReducesBy as Reducing}
use Rattle.mh_tables_core.specs.Run.{top_of, initial, Config, RunMove, Accepts, Asks, Refuses, Shifts, Reduces, run_move_of, step, step_by, next_of, after, IsRunStack}
use Rattle.mh_tables_core.proofs.Reductions.{Reduced, reduced, reduces_from_move, shifts_from_move, no_shift_at_end}
use Rattle.mh_tables_core.proofs.RunEnds.{step_moves}
use Rattle.mh_grammar.specs.Trees.{SyntaxTree, Leaf, Node, IsTreeFor, IsForestFor, forest_of, yield_of, forest_yield}
use Rattle.mh_tables_core.specs.RunTrees.{TreesMatchStack, yields, TreesMatchRun, trees_after_move, trees_after}
use Rattle.mh_tables_core.proofs.IsPath.{top_of_take, finds_states_and_edge, reduce_is}

-- The d trees before index k are trees for the first d symbols of the right side of production p.
abbrev pub TreesMatchRightSide : (t : TableData) (trees : List SyntaxTree) (p d k : ℕ) → Type 0
TreesMatchRightSide t trees p d k = (d ≤ k) × ((j : ℕ) → j < d → (x : Symbol) × (slice_get (rhs_of t.grammar p) j ≡ Some x) × IsTreeFor t.grammar x (get_or trees (k - d + j) (Leaf 0)))

last_tree_matches : (t : TableData) (trees : List SyntaxTree) (p d k j : ℕ) (x : Symbol) → d ≤ k → j ≡ d → slice_get (rhs_of t.grammar p) (suc d - 1) ≡ Some x → IsTreeFor t.grammar x (get_or trees k (Leaf 0))
    → (y : Symbol) × (slice_get (rhs_of t.grammar p) j ≡ Some y) × IsTreeFor t.grammar y (get_or trees (suc k - suc d + j) (Leaf 0))
last_tree_matches t trees p d k j x le e s tree =
    let place : suc k - suc d + j ≡ k = omega arith in
    let dot : suc d - 1 ≡ j = omega arith in
    (x, rw dot at s, rw place tree)

-- If the state at index k of the stack has the item of production p with the dot at d, the trees match up to the dot.
pub trees_match_right_side : (t : TableData) (f : Facts t) (stack : List ℕ) (trees : List SyntaxTree) (g : TreesMatchStack t stack trees) (p d k : ℕ) → length t.grammar.starts ≤ p → k ≤ length trees → InCore t (get_or stack k 0) p d → TreesMatchRightSide t trees p d k
trees_match_right_side t f stack trees g p zero k ordinary inside there = (omega arith, λ j lt. absurd (omega arith))
trees_match_right_side t f stack trees g p (suc d) zero ordinary inside there = absurd (omega (arith, (f.start_core (get_or stack 0 0) p (suc d) g.start there).1))
trees_match_right_side t f stack trees g p (suc d) (suc k) ordinary inside there =
    let edge = g.each k (omega arith) in
    let back = f.moved_from (get_or stack k 0) edge.0 (get_or stack (k + 1) 0) p (suc d) edge.1 (let e : k + 1 ≡ suc k = omega arith in rw e there) in
    elim back.source [
      | inl before ↦ (
          let rest = trees_match_right_side t f stack trees g p d k ordinary (omega arith) (let e : suc d - 1 ≡ d = omega arith in rw e at before) in
          let le : d ≤ k = rest.0 in (
            omega arith,
            λ j lt.
                elim (cases_lt j d) [
                  | inl less ↦ (
                      let r = rest.1 j less in
                      let e : suc k - suc d + j ≡ k - d + j = omega arith in
                      (r.0, r.1, rw e r.2))
                  | inr more ↦ last_tree_matches t trees p d k j edge.0 le (omega arith) back.symbol edge.2
                ],
          ))
      | inr first ↦ (omega (arith, first.0), λ j lt. last_tree_matches t trees p d k j edge.0 (omega (arith, first.0)) (omega (arith, first.0)) back.symbol edge.2)
    ]

-- Trees for the symbols of a list, one by one, are a forest for the list.
pub forest_from : (t : TableData) (xs : List Symbol) (trees : List SyntaxTree) → length trees ≡ length xs → ((j : ℕ) → j < length xs → (x : Symbol) × (slice_get xs j ≡ Some x) × IsTreeFor t.grammar x (get_or trees j (Leaf 0)))
    → IsForestFor t.grammar xs (forest_of trees)
forest_from t [] [] e h = tt
forest_from t [] (tree ∷ trees) e h = absurd (omega arith)
forest_from t (x ∷ xs) [] e h = absurd (omega arith)
forest_from t (x ∷ xs) (tree ∷ trees) e h =
    let first = h 0 (omega arith) in
    let same : first.0 ≡ x = let s = first.1 in cc in
    (rw same at first.2, forest_from t xs trees (omega arith) (λ j lt. h (suc j) (omega arith)))

-- The trees that a reduction takes off are a forest for the right side.
pub reduced_forest : (t : TableData) (f : Facts t) (stack : List ℕ) (trees : List SyntaxTree) (g : TreesMatchStack t stack trees) (p : ℕ) → length t.grammar.starts ≤ p → InCore t (get_or stack (length trees) 0) p (length (rhs_of t.grammar p))
    → IsForestFor t.grammar (rhs_of t.grammar p) (forest_of (drop (length trees - length (rhs_of t.grammar p)) trees))
reduced_forest t f stack trees g p ordinary there =
    let all = trees_match_right_side t f stack trees g p (length (rhs_of t.grammar p)) (length trees) ordinary (omega arith) there in
    let le : length (rhs_of t.grammar p) ≤ length trees = all.0 in
    forest_from t (rhs_of t.grammar p) (drop (length trees - length (rhs_of t.grammar p)) trees) (rw length-drop (omega arith))
    (λ j lt. let r = all.1 j lt in (r.0, r.1, rw (get_or-drop (length trees - length (rhs_of t.grammar p)) trees j (Leaf 0)) r.2))

-- The trees still match after a state is pushed with its tree.
pub TreesMatchStack-push : (t : TableData) (stack : List ℕ) (trees : List SyntaxTree) (x : Symbol) (u : ℕ) (tree : SyntaxTree) → TreesMatchStack t stack trees → edge_of t (get_or stack (length trees) 0) x ≡ Some u → IsTreeFor t.grammar x tree
    → TreesMatchStack t (stack ++ u ∷ []) (trees ++ tree ∷ [])
TreesMatchStack-push t stack trees x u tree g edge is = record {
  start = rw (get_or-append stack (u ∷ []) 0 0 (let l = g.len in omega arith)) g.start;
  len = let l = g.len in rw (length-append, length-append) (omega arith);
  each = λ k lt.
      let l = g.len in
      let lt' : k < length trees + 1 = rw length-append at lt in
      elim (cases_lt k (length trees)) [
        | inl less ↦ (
            let e = g.each k less in
            (e.0, rw (get_or-append stack (u ∷ []) 0 k (omega arith), get_or-append stack (u ∷ []) 0 (k + 1) (omega arith)) e.1, rw (get_or-append trees (tree ∷ []) (Leaf 0) k less) e.2))
        | inr more ↦ (
            let here : k ≡ length trees = omega arith in
            let next : k + 1 ≡ length stack = omega arith in
            (x, rw (get_or-append stack (u ∷ []) 0 k (omega arith), next, get_or-append_seam stack u [] 0) (rw here edge), rw (here, get_or-append_seam trees tree [] (Leaf 0)) is))
      ];
}

-- A prefix of the trees matches the prefix of the stack.
pub TreesMatchStack-take : (t : TableData) (stack : List ℕ) (trees : List SyntaxTree) (n : ℕ) → n ≤ length trees → TreesMatchStack t stack trees → TreesMatchStack t (take (n + 1) stack) (take n trees)
TreesMatchStack-take t stack trees n le g =
    let l = g.len in
    record {
      start = rw (get_or-take (n + 1) stack 0 0 (omega arith)) g.start;
      len = rw (length-take-le n trees le, length-take-le (n + 1) stack (omega arith)) refl;
      each = λ k lt.
          let lt' : k < n = rw (length-take-le n trees le) at lt in
          let e = g.each k (omega arith) in
          (e.0, rw (get_or-take (n + 1) stack k 0 (omega arith), get_or-take (n + 1) stack (k + 1) 0 (omega arith)) e.1, rw (get_or-take n trees k (Leaf 0) lt') e.2);
    }

-- No edge leads to a start state.
no_edge_to_start : (t : TableData) (f : Facts t) (r u : ℕ) (x : Symbol) → u < length t.grammar.starts → edge_of t r x ≡ Some u → ⊥
no_edge_to_start t f r u x lt e = let b = f.moved_from r x u u 0 e (f.starts u lt) in let m = b.moved in omega arith

-- A start production with the dot 0 is only in the core of its start state.
start_of : (t : TableData) (f : Facts t) (s i : ℕ) → InCore t s i 0 → (s < length t.grammar.starts) × (i ≡ s)
start_of t f s i there =
    elim (cases_lt s (length t.grammar.starts)) [ inl lt ↦ (lt, (f.start_core s i 0 lt there).0) | inr le ↦ absurd (let m = f.other_cores_moved s i 0 le there in omega arith) ]

-- An accepting run leaves one tree, for the start symbol.
pub record AcceptsOne (t : TableData) (stack : List ℕ) (trees : List SyntaxTree) : Type 0 where
  pub one : length trees ≡ 1
  pub symbol : Symbol
  pub is_start : slice_get (rhs_of t.grammar (get_or stack 0 0)) 0 ≡ Some symbol
  pub tree : IsTreeFor t.grammar symbol (get_or trees 0 (Leaf 0))

-- The only start state on the stack of a run is its bottom state.
only_start : (t : TableData) (f : Facts t) (stack : List ℕ) (trees : List SyntaxTree) (g : TreesMatchStack t stack trees) (k : ℕ) → get_or stack k 0 < length t.grammar.starts → k ≤ length trees → k ≡ 0
only_start t f stack trees g zero lt le = refl
only_start t f stack trees g (suc k) lt le =
    let edge = g.each k (omega arith) in
    let e : suc k ≡ k + 1 = omega arith in
    absurd (no_edge_to_start t f (get_or stack k 0) (get_or stack (k + 1) 0) edge.0 (rw e at lt) edge.1)

accepts_at : (t : TableData) (f : Facts t) (stack : List ℕ) (trees : List SyntaxTree) (g : TreesMatchStack t stack trees) (k i : ℕ) → length trees ≡ k → i < length t.grammar.starts → InCore t (get_or stack k 0) i 1 → AcceptsOne t stack trees
accepts_at t f stack trees g zero i n lt there = absurd (omega (arith, (f.start_core (get_or stack 0 0) i 1 g.start there).1))
accepts_at t f stack trees g (suc k) i n lt there =
    let edge = g.each k (omega arith) in
    let back = f.moved_from (get_or stack k 0) edge.0 (get_or stack (k + 1) 0) i 1 edge.1 (let e : k + 1 ≡ suc k = omega arith in rw e there) in
    elim back.source [
      | inr first ↦ absurd (omega (arith, first.1))
      | inl before ↦ (
          let at = start_of t f (get_or stack k 0) i (let e : 1 - 1 ≡ 0 = refl in rw e at before) in
          let low : k ≡ 0 = only_start t f stack trees g k at.0 (omega arith) in
          let same : i ≡ get_or stack 0 0 = at.1 ∙ ap (λ (m : ℕ). get_or stack m 0) low in
          record {
            one = omega arith;
            symbol = edge.0;
            is_start = rw (← same) back.symbol;
            tree = subst (λ (m : ℕ). IsTreeFor t.grammar edge.0 (get_or trees m (Leaf 0))) low edge.2;
          })
    ]

same_core : (t : TableData) (s s' p d : ℕ) → s ≡ s' → InCore t s p d → InCore t s' p d
same_core t s s' p d e h = subst (λ (u : ℕ). InCore t u p d) e h

pub accepts_one : (t : TableData) (f : Facts t) (stack : List ℕ) (trees : List SyntaxTree) (g : TreesMatchStack t stack trees) → fallback_of t (top_of stack) ≡ Some fallbacks.Accept → AcceptsOne t stack trees
accepts_one t f stack trees g e =
    let there = f.accepts (top_of stack) e in
    let l = g.len in
    accepts_at t f stack trees g (length trees) there.0 refl there.1 (same_core t _ _ there.0 1 (ap (λ (k : ℕ). get_or stack k 0) (omega arith)) there.2)

forest_by : (t : TableData) (f : Facts t) (stack : List ℕ) (trees : List SyntaxTree) (p : ℕ) (g : TreesMatchStack t stack trees) → Reducing t (top_of stack) p → IsForestFor t.grammar (rhs_of t.grammar p) (forest_of (drop (length trees - length (rhs_of t.grammar p)) trees))
forest_by t f stack trees p g can =
    let l = g.len in
    let at : top_of stack ≡ get_or stack (length trees) 0 = ap (λ (k : ℕ). get_or stack k 0) (omega arith) in
    elim (f.complete (top_of stack) p can) [
      | inl full ↦ reduced_forest t f stack trees g p (f.ordinary (top_of stack) p can).0 (same_core t _ _ p (length (rhs_of t.grammar p)) at full)
      | inr empty ↦ forest_from t (rhs_of t.grammar p) (drop (length trees - length (rhs_of t.grammar p)) trees) (rw length-drop (omega (arith, empty.0))) (λ j lt. absurd (omega (arith, empty.0)))
    ]

top_at : (stack : List ℕ) (n k len : ℕ) → k ≡ n + 1 → len ≡ n → n < length stack → top_of (take k stack) ≡ get_or (take (n + 1) stack) len 0
top_at stack n k len e e' lt =
    rw e (top_of_take stack (n + 1) (omega arith) (omega arith) ∙ ap (λ (i : ℕ). get_or stack i 0) (let d : n + 1 - 1 ≡ n = omega arith in d) ∙ sym (get_or-take (n + 1) stack n 0 (omega arith)))
    ∙ ap (λ (i : ℕ). get_or (take (n + 1) stack) i 0) (sym e')

-- A reduction keeps the trees matching.
pub TreesMatchStack-reduce : (t : TableData) (f : Facts t) (stack new : List ℕ) (trees : List SyntaxTree) (p : ℕ) → TreesMatchStack t stack trees → Reducing t (top_of stack) p → Reduced t p stack new
    → TreesMatchStack t new (take (length trees - length (rhs_of t.grammar p)) trees ++ Node p (forest_of (drop (length trees - length (rhs_of t.grammar p)) trees)) ∷ [])
TreesMatchStack-reduce t f stack new trees p g can r =
    let l = g.len in
    let s = r.found.states in
    let kept : length stack - length (rhs_of t.grammar p) ≡ length trees - length (rhs_of t.grammar p) + 1 = omega arith in
    let le : length trees - length (rhs_of t.grammar p) ≤ length trees = omega arith in
    let len : length (take (length trees - length (rhs_of t.grammar p)) trees) ≡ length trees - length (rhs_of t.grammar p) = length-take-le (length trees - length (rhs_of t.grammar p)) trees le in
    let place = top_at stack (length trees - length (rhs_of t.grammar p)) (length stack - length (rhs_of t.grammar p)) (length (take (length trees - length (rhs_of t.grammar p)) trees)) kept len (omega arith) in
    let edge : edge_of t (get_or (take (length trees - length (rhs_of t.grammar p) + 1) stack) (length (take (length trees - length (rhs_of t.grammar p)) trees)) 0) (N (lhs_of t.grammar p)) ≡ Some r.found.goto.0 =
    ap (λ (u : ℕ). edge_of t u (N (lhs_of t.grammar p))) (sym place) ∙ r.found.goto.1 in
    rw r.is (rw kept
    (TreesMatchStack-push t (take (length trees - length (rhs_of t.grammar p) + 1) stack) (take (length trees - length (rhs_of t.grammar p)) trees) (N (lhs_of t.grammar p)) r.found.goto.0
    (Node p (forest_of (drop (length trees - length (rhs_of t.grammar p)) trees))) (TreesMatchStack-take t stack trees (length trees - length (rhs_of t.grammar p)) le g) edge
    ((f.ordinary (top_of stack) p can).0, (f.ordinary (top_of stack) p can).1, refl, forest_by t f stack trees p g can)))

yields-append : (a b : List SyntaxTree) → yields (a ++ b) ≡ yields a ++ yields b
yields-append [] b = refl
yields-append (tree ∷ a) b = rw (yields-append a b) (sym (append_assoc (yield_of tree) (yields a) (yields b)))

forest_yield-of : (trees : List SyntaxTree) → forest_yield (forest_of trees) ≡ yields trees
forest_yield-of [] = refl
forest_yield-of (tree ∷ trees) = ap (λ (l : List ℕ). yield_of tree ++ l) (forest_yield-of trees)

yields_node : (trees : List SyntaxTree) (p n : ℕ) → yields (take n trees ++ Node p (forest_of (drop n trees)) ∷ []) ≡ yields trees
yields_node trees p n =
    yields-append (take n trees) (Node p (forest_of (drop n trees)) ∷ [])
    ∙ ap (λ (l : List ℕ). yields (take n trees) ++ l) (append-nil (forest_yield (forest_of (drop n trees))) ∙ forest_yield-of (drop n trees))
    ∙ sym (yields-append (take n trees) (drop n trees)) ∙ ap yields (take-append-drop n trees)

yields_leaf : (trees : List SyntaxTree) (z : ℕ) (left : List ℕ) → yields (trees ++ Leaf z ∷ []) ++ left ≡ yields trees ++ z ∷ left
yields_leaf trees z left = rw (yields-append trees (Leaf z ∷ [])) (append_assoc (yields trees) (z ∷ []) left)

-- A stack with matching trees is a stack of a run.
pub IsRunStack-of_trees : (t : TableData) (stack : List ℕ) (trees : List SyntaxTree) → TreesMatchStack t stack trees → IsRunStack t stack
IsRunStack-of_trees t stack trees g = record {
  path = record { not_empty = let l = g.len in omega arith; edges = λ k lt. let l = g.len in let e = g.each k (omega arith) in (e.0, e.1) };
  start = g.start;
}

TreesMatchRun-move : (t : TableData) (f : Facts t) (w stack : List ℕ) (read : ℕ) (left : List ℕ) (trees : List SyntaxTree) (m : RunMove) → run_move_of t (top_of stack) left ≡ m → TreesMatchRun t w (record { stack = stack; read = read; left = left }) trees
    → TreesMatchRun t w (next_of (record { stack = stack; read = read; left = left }) (step_by t (record { stack = stack; read = read; left = left }) m)) (trees_after_move t m left trees)
TreesMatchRun-move t f w stack read left trees Accepts e h = h
TreesMatchRun-move t f w stack read left trees Asks e h = h
TreesMatchRun-move t f w stack read left trees Refuses e h = h
TreesMatchRun-move t f w stack read [] trees (Shifts j) e h = absurd (no_shift_at_end t (top_of stack) j e)
TreesMatchRun-move t f w stack read (z ∷ left) trees (Shifts j) e h =
    let l = h.match_stack.len in
    let at : top_of stack ≡ get_or stack (length trees) 0 = ap (λ (k : ℕ). get_or stack k 0) (omega arith) in
    record {
      match_stack = TreesMatchStack-push t stack trees (T z) j (Leaf z) h.match_stack (ap (λ (u : ℕ). edge_of t u (T z)) (sym at) ∙ f.shifts (top_of stack) z j (shifts_from_move t (top_of stack) z left j e)) refl;
      spells = yields_leaf trees z left ∙ h.spells;
      count = let c = h.count in rw (yields-append trees (Leaf z ∷ []), length-append) (omega arith);
    }
TreesMatchRun-move t f w stack read left trees (Reduces p) e h =
    let run = IsRunStack-of_trees t stack trees h.match_stack in
    let can = reduces_from_move t (top_of stack) left p e in
    let found = finds_states_and_edge t f stack run p can in
    let is = reduce_is t p stack found in
    let r = reduced t p stack _ is in
    rw is (record {
      match_stack = TreesMatchStack-reduce t f stack _ trees p h.match_stack can r;
      spells = ap (λ (l : List ℕ). l ++ left) (yields_node trees p (length trees - length (rhs_of t.grammar p))) ∙ h.spells;
      count = ap length (yields_node trees p (length trees - length (rhs_of t.grammar p))) ∙ h.count;
    })

-- The trees match at each moment of the run.
pub TreesMatchRun-after : (t : TableData) (f : Facts t) (w : List ℕ) (n : ℕ) (c : Config) (trees : List SyntaxTree) → TreesMatchRun t w c trees → TreesMatchRun t w (after t n c) (trees_after t n c trees)
TreesMatchRun-after t f w zero c trees h = h
TreesMatchRun-after t f w (suc n) c trees h =
    let m : RunMove = run_move_of t (top_of c.stack) c.left in
    let one = TreesMatchRun-move t f w c.stack c.read c.left trees m refl h in
    TreesMatchRun-after t f w n (next_of c (step t c)) (trees_after_move t m c.left trees) (rw (step_moves t c m refl) one)

-- The trees match at the beginning of the run.
TreesMatchRun-initial : (t : TableData) (start : ℕ) (w : List ℕ) → start < length t.grammar.starts → TreesMatchRun t w (initial start w) []
TreesMatchRun-initial t start w lt = record {
  match_stack = record { start = lt; len = refl; each = λ k l. absurd (omega arith) };
  spells = refl;
  count = refl;
}

pub TreesMatchRun-start : (t : TableData) (f : Facts t) (start n : ℕ) (w : List ℕ) → start < length t.grammar.starts → TreesMatchRun t w (after t n (initial start w)) (trees_after t n (initial start w) [])
TreesMatchRun-start t f start n w lt = TreesMatchRun-after t f w n (initial start w) [] (TreesMatchRun-initial t start w lt)
