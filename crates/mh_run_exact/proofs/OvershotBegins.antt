-- Proves that the tokens of a run that overshoots (asks for a token after the last one) begin a sentence, if each
-- nonterminal is productive.
use Rattle.std.proofs.Common.{◌≡◌, ℕ, zero, suc, ◌+◌, ◌<◌, ◌≤◌, List, [], ◌∷◌, ◌++◌, length, take, drop, get_or, refl, ap, sym, subst, arith, ◌∙◌, append_assoc, append-nil, take-suc}
use Rattle.std.specs.List.{All}
use Rattle.std.proofs.Math.Seq.{take-length}
use Rattle.std.proofs.lemmas.List.Elements.{All-head, All-tail, All-drop}
use Rattle.mh_grammar.specs.declared.types.Symbol.{Symbol}
use Rattle.mh_grammar.specs.declared.types.Symbol.TheVariants.{T, N}
use Rattle.mh_grammar.specs.declared.types.Look.{Look}
use Rattle.mh_grammar.specs.declared.types.Look.TheVariants.{End}
use Rattle.mh_grammar.specs.Derivations as trees
use Rattle.mh_grammar.specs.Plain.{production_count, rhs_of, Derives, DerivesAll, IsSentence, BeginsSentence, start_symbol, IsSymbolBelow, IsInRange}
use Rattle.mh_grammar.specs.ItemSets.{given, added, moved}
use Rattle.mh_items_kernels.specs.KernelTypes.{Automaton}
use Rattle.mh_items_kernels.specs.Automaton.{IsTarget, kernel_of, closure_of, move_of as moves_of}
use Rattle.mh_items_kernels.proofs.RhsInRange.{side_below, rest_below}
use Rattle.mh_resolve_cells.proofs.ClosureItems.{closure_is_item}
use Rattle.mh_tables_core.specs.Table.{TableData}
use Rattle.mh_tables_core.specs.Facts.{Facts}
use Rattle.mh_tables_core.specs.Run.{Config, RunMove, Accepts, Asks, Refuses, Shifts, Reduces, run_move_of, top_of, initial, after, VerdictOf, Overshot}
use Rattle.mh_grammar.specs.Trees.{SyntaxTree, Leaf, IsTreeFor, yield_of}
use Rattle.mh_tables_core.specs.RunTrees.{TreesMatchStack, TreesMatchRun, yields, trees_after}
use Rattle.mh_tables_core.proofs.TreesMatchStack.{TreesMatchRun-start}
use Rattle.mh_run_exact.specs.Exactness.{AllProductive}
use Rattle.mh_tables_core.proofs.IsTreeOfRead.{EndsBy, step_ends, Bottom, Bottom-after}
use Rattle.mh_grammar.proofs.ProductionNumbers.{rhs_of-start}
use Rattle.mh_tables_core.proofs.MoveCases.{no_ask_with_token}
use Rattle.mh_run_exact.proofs.TreesDerive.{tree_derives}
use Rattle.mh_run_exact.proofs.TableEdges.{HasEdgesOf, start_item, start_item_only}
use Rattle.mh_items_kernels.proofs.SymbolAtDot.{drop_tail}

yields-push : (a : List SyntaxTree) (x : SyntaxTree) → yields (a ++ x ∷ []) ≡ yields a ++ yield_of x
yields-push [] x = append-nil (yield_of x)
yields-push (y ∷ a) x = ap (λ (l : List ℕ). yield_of y ++ l) (yields-push a x) ∙ sym (append_assoc (yield_of y) (yields a) (yield_of x))

-- A run needs another token only at the end of the tokens.
asks_at_end : (t : TableData) (s : ℕ) (left : List ℕ) → run_move_of t s left ≡ Asks → left ≡ []
asks_at_end t s [] e = refl
asks_at_end t s (z ∷ left) e = absurd (no_ask_with_token t s z left e)

module _ (t : TableData) (range : IsInRange t.grammar) (productive : AllProductive t.grammar) where
  -- Symbols in range derive some word.
  some_word : (Xs : List Symbol) → All (IsSymbolBelow t.grammar.tokens t.grammar.nonterminals) Xs → (v : List ℕ) × DerivesAll t.grammar Xs v
  some_word [] h = ([], trees.Derivations.none)
  some_word (T z ∷ Xs) h =
      let rest = some_word Xs (All-tail (IsSymbolBelow t.grammar.tokens t.grammar.nonterminals) (T z) Xs h) in
      ((z ∷ []) ++ rest.0, trees.Derivations.more refl (trees.Derivation.leaf refl) rest.1)
  some_word (N n ∷ Xs) h =
      let first = productive n (All-head (IsSymbolBelow t.grammar.tokens t.grammar.nonterminals) (N n) Xs h) in
      let rest = some_word Xs (All-tail (IsSymbolBelow t.grammar.tokens t.grammar.nonterminals) (N n) Xs h) in
      (first.0 ++ rest.0, trees.Derivations.more refl first.1 rest.1)

  single : (X : Symbol) (w : List ℕ) → DerivesAll t.grammar (X ∷ []) w → Derives t.grammar X w
  single X w (trees.Derivations.more {u} s tree trees.Derivations.none) = rw (s ∙ append-nil u) tree

  module _ (a : Automaton) (is : HasEdgesOf t a) (start : ℕ) (lt : start < length t.grammar.starts) (stack : List ℕ) (kids : List SyntaxTree) (g : TreesMatchStack t stack kids) (b : get_or stack 0 0 ≡ start) where
    -- Every word v that the symbols after the dot derive can be extended to a sentence that begins with the words of
    -- the first k trees, followed by v.
    Finishes : ℕ → ℕ → ℕ → Type 0
    Finishes k p d = (v : List ℕ) → DerivesAll t.grammar (drop d (rhs_of t.grammar p)) v → (v' : List ℕ) × IsSentence t.grammar start (yields (take k kids) ++ (v ++ v'))

    by_close : (k s : ℕ) → ((p d : ℕ) (l : Look) → kernel_of a s p d l → Finishes k p d) → (p d : ℕ) (l : Look) → closure_of t.grammar a s p d l → Finishes k p d
    unfolding Finishes
    by_close k s h p d l (given i) v f = h p d l i v f
    by_close k s h p d l (added {p = p'} {d = d'} {n} {y} {a = l'} c e i b') v f =
        let tree : Derives t.grammar (N n) v = trees.Derivation.node (p, i, refl) f in
        let known : p' < production_count t.grammar = (closure_is_item t.grammar a is.automaton s p' d' l' c).production in
        let below : All (IsSymbolBelow t.grammar.tokens t.grammar.nonterminals) y = subst (All (IsSymbolBelow t.grammar.tokens t.grammar.nonterminals)) (drop_tail (rhs_of t.grammar p') d' (N n) y e) (rest_below t.grammar range p' d' known) in
        let rest = some_word y below in
        let whole : DerivesAll t.grammar (drop d' (rhs_of t.grammar p')) (v ++ rest.0) = rw e (trees.Derivations.more refl tree rest.1) in
        let z = by_close k s h p' d' l' c (v ++ rest.0) whole in
        (rest.0 ++ z.0, rw (← append_assoc v rest.0 z.0) z.1)

    by_move : (k : ℕ) → k < length kids → (X : Symbol) → IsTreeFor t.grammar X (get_or kids k (Leaf 0)) → ((p d : ℕ) (l : Look) → closure_of t.grammar a (get_or stack k 0) p d l → Finishes k p d)
        → (p d : ℕ) (l : Look) → moves_of t.grammar a (get_or stack k 0) X p d l → Finishes (suc k) p d
    unfolding Finishes
    by_move k within X tree h p d l (moved {d = d'} {y} c e) v f =
        let x : SyntaxTree = get_or kids k (Leaf 0) in
        let more : DerivesAll t.grammar (drop d' (rhs_of t.grammar p)) (yield_of x ++ v) =
        rw e (trees.Derivations.more refl (tree_derives t.grammar x X tree) (rw (drop_tail (rhs_of t.grammar p) d' X y e) at f)) in
        let z = h p d' l c (yield_of x ++ v) more in
        let word : yields (take k kids) ++ ((yield_of x ++ v) ++ z.0) ≡ yields (take (suc k) kids) ++ (v ++ z.0) =
        ap (λ (w : List ℕ). yields (take k kids) ++ w) (append_assoc (yield_of x) v z.0)
        ∙ sym (append_assoc (yields (take k kids)) (yield_of x) (v ++ z.0))
        ∙ ap (λ (w : List ℕ). w ++ (v ++ z.0)) (sym (ap yields (take-suc kids k (Leaf 0) within) ∙ yields-push (take k kids) x)) in
        (z.0, rw word at z.1)

    start_finishes : Finishes 0 start 0
    unfolding Finishes
    start_finishes v f = ([], rw (append-nil v) (single (start_symbol t.grammar start) v (rw (rhs_of-start t.grammar start lt) at f)))

    -- The state at index k + 1 of the stack is the target of an edge from the state at index k.
    above : (k : ℕ) → (lt' : k < length kids) → IsTarget t.grammar a (get_or stack k 0) (g.each k lt').0 (get_or stack (k + 1) 0)
    above k lt' = let e = g.each k lt' in (is.automaton.target (get_or stack k 0) e.0 (get_or stack (k + 1) 0) (sym (is.edges (get_or stack k 0) e.0) ∙ e.1)).1

    at_kernel : (k : ℕ) → k ≤ length kids → (p d : ℕ) (l : Look) → kernel_of a (get_or stack k 0) p d l → Finishes k p d
    at_kernel zero le p d l i =
        let x = start_item_only t.grammar a is.automaton start p d l lt (rw b at i) in
        rw (x.production, x.dot) start_finishes
    at_kernel (suc k) le p d l i =
        let within : k < length kids = omega arith in
        let at : suc k ≡ k + 1 = omega arith in
        let there : kernel_of a (get_or stack (k + 1) 0) p d l = subst (λ (j : ℕ). kernel_of a (get_or stack j 0) p d l) at i in
        let back = (above k within).core p d (there.0, there.1, there.2, there.3) in
        by_move k within (g.each k within).0 (g.each k within).2 (by_close k (get_or stack k 0) (λ p' d' l' i'. at_kernel k (omega arith) p' d' l' i')) p d back.0 back.1

    -- The state at index k of the stack has an item.
    some_item : (k : ℕ) → k ≤ length kids → (p : ℕ) × (d : ℕ) × (l : Look) × kernel_of a (get_or stack k 0) p d l
    some_item zero le = (start, 0, End, rw b (start_item t.grammar a is.automaton start lt))
    some_item (suc k) le =
        let within : k < length kids = omega arith in
        let at : k + 1 ≡ suc k = omega arith in
        let e = g.each k within in
        let target = is.automaton.target (get_or stack k 0) e.0 (get_or stack (k + 1) 0) (sym (is.edges (get_or stack k 0) e.0) ∙ e.1) in
        let i = target.0 in
        (i.production, i.dot, i.look, subst (λ (j : ℕ). kernel_of a (get_or stack j 0) i.production i.dot i.look) at (target.1.looks i.production i.dot i.look i.moves))

    pub begun : BeginsSentence t.grammar start (yields kids)
    unfolding Finishes
    begun =
        let i = some_item (length kids) (omega arith) in
        let known : i.0 < production_count t.grammar = (closure_is_item t.grammar a is.automaton (get_or stack (length kids) 0) i.0 i.1 i.2 (given i.3)).production in
        let rest = some_word (drop i.1 (rhs_of t.grammar i.0)) (All-drop (IsSymbolBelow t.grammar.tokens t.grammar.nonterminals) i.1 (rhs_of t.grammar i.0) (side_below t.grammar range i.0 known)) in
        let z = at_kernel (length kids) (omega arith) i.0 i.1 i.2 i.3 rest.0 rest.1 in
        (rest.0 ++ z.0, let s = z.1 in rw (take-length kids) at s)

-- Only the move that asks for a token ends a run with the verdict `Overshot`.
by_overshoots : (c : Config) (m : RunMove) (s : ℕ) → EndsBy m c (Overshot s) → m ≡ Asks
by_overshoots c Accepts s e = cc
by_overshoots c Asks s e = refl
by_overshoots c Refuses s e = cc
by_overshoots c (Shifts j) s e = absurd e
by_overshoots c (Reduces p) s e = absurd e

pub overshot_begins : (t : TableData) (f : Facts t) (a : Automaton) → HasEdgesOf t a → AllProductive t.grammar
    → (start : ℕ) (w : List ℕ) (s : ℕ) → start < length t.grammar.starts → VerdictOf t start w (Overshot s) → BeginsSentence t.grammar start w
overshot_begins t f a is productive start w s lt (n, e) =
    let c : Config = after t n (initial start w) in
    let kids : List SyntaxTree = trees_after t n (initial start w) [] in
    let h : TreesMatchRun t w c kids = TreesMatchRun-start t f start n w lt in
    let low : Bottom start c.stack = Bottom-after t start n (initial start w) (record { some_state = omega arith; is = refl }) in
    let asks : run_move_of t (top_of c.stack) c.left ≡ Asks = by_overshoots c _ s (step_ends t c (Overshot s) e) in
    let none : c.left ≡ [] = asks_at_end t (top_of c.stack) c.left asks in
    let whole : yields kids ≡ w = sym (append-nil (yields kids)) ∙ ap (λ (l : List ℕ). yields kids ++ l) (sym none) ∙ h.spells in
    rw whole at (begun t f.ranges.grammar productive a is start lt c.stack kids h.match_stack low.is)
