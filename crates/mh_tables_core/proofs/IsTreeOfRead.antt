-- Proves that a run that accepts leaves a tree of the tokens that were read.
use Rattle.std.proofs.Common.{◌≡◌, ℕ, zero, suc, ◌<◌, ◌≤◌, List, [], ◌∷◌, ◌++◌, length, take, get_or, Some, None, Option, refl, ap, sym, subst, arith, ◌∙◌, length-append, append-nil}
use Rattle.std.specs.List.{slice_get}
use Rattle.std.proofs.lemmas.List.{get_or-take, length-take-le}
use Rattle.std.proofs.Math.ListN.{get_or-append}
use Rattle.std.proofs.Math.Seq.{take-append_seam}
use Rattle.mh_grammar.specs.declared.types.Symbol.{Symbol}
use Rattle.mh_grammar.specs.declared.types.Symbol.TheVariants.{N}
use Rattle.mh_grammar.specs.Plain.{rhs_of}
use Rattle.mh_tables_core.specs.declared.parts.Fallback.{Fallback}
use Rattle.mh_tables_core.specs.declared.parts.Fallback.TheVariants as fallbacks
use Rattle.mh_tables_core.specs.declared.parts.Action.{Action}
use Rattle.mh_tables_core.specs.declared.parts.Action.TheVariants as actions
use Rattle.mh_tables_core.specs.Table.{TableData, fallback_of, cell_of}
use Rattle.mh_tables_core.specs.Facts.{Facts}
use Rattle.mh_tables_core.specs.Run.{Config, RunMove, Accepts, Asks, Refuses, Shifts, Reduces, run_move_of, move_of_next, move_of_action, move_by_default, top_of, reduce, initial, step, step_by, goes_to, Ends, after, next_of, VerdictOf, Accepted, Overshot, Rejected, Ending}
use Rattle.mh_grammar.specs.Trees.{SyntaxTree, Leaf, IsTreeFor, yield_of}
use Rattle.mh_tables_core.specs.RunTrees.{TreesMatchRun, yields, trees_after}
use Rattle.mh_tables_core.proofs.Reductions.{reduced}
use Rattle.mh_grammar.proofs.ProductionNumbers.{rhs_of-start}
use Rattle.mh_tables_core.proofs.MoveCases.{goes_to_no_end}
use Rattle.mh_tables_core.proofs.RunEnds.{step_moves}
use Rattle.mh_tables_core.proofs.TreesMatchStack.{TreesMatchRun-start, accepts_one, AcceptsOne}
use Rattle.mh_tables_core.specs.TreeRuns.{IsTreeOfRead}

-- The move of a step that ends the run.
abbrev pub EndsBy : RunMove → Config → Ending → Type 0
EndsBy Accepts c how = how ≡ Accepted c.read
EndsBy Asks c how = how ≡ Overshot (top_of c.stack)
EndsBy Refuses c how = how ≡ Rejected c.read (top_of c.stack)
EndsBy (Shifts j) c how = ⊥
EndsBy (Reduces p) c how = ⊥

ends_by : (t : TableData) (c : Config) (m : RunMove) (how : Ending) → step_by t c m ≡ Ends how → EndsBy m c how
ends_by t c Accepts how e = cc
ends_by t c Asks how e = cc
ends_by t c Refuses how e = cc
ends_by t c (Shifts j) how e = cc
ends_by t c (Reduces p) how e = goes_to_no_end c (reduce t p c.stack) how e

pub step_ends : (t : TableData) (c : Config) (how : Ending) → step t c ≡ Ends how → EndsBy (run_move_of t (top_of c.stack) c.left) c how
step_ends t c how e = let m : RunMove = run_move_of t (top_of c.stack) c.left in ends_by t c m how (sym (step_moves t c m refl) ∙ e)

by_accepts : (c : Config) (m : RunMove) (read : ℕ) → EndsBy m c (Accepted read) → (m ≡ Accepts) × (c.read ≡ read)
by_accepts c Accepts read e = (refl, cc)
by_accepts c Asks read e = cc
by_accepts c Refuses read e = cc
by_accepts c (Shifts j) read e = absurd e
by_accepts c (Reduces p) read e = absurd e

pub step_accepts : (t : TableData) (c : Config) (read : ℕ) → step t c ≡ Ends (Accepted read) → (run_move_of t (top_of c.stack) c.left ≡ Accepts) × (c.read ≡ read)
step_accepts t c read e = by_accepts c _ read (step_ends t c (Accepted read) e)

action_not_accepts : (a : Action) → move_of_action a ≡ Accepts → ⊥
action_not_accepts (actions.Shift j) e = cc
action_not_accepts (actions.Reduce p) e = cc
action_not_accepts actions.Refuse e = cc

next_not_accepts : (t : TableData) (s : ℕ) (left : List ℕ) → move_of_next t s left ≡ Accepts → ⊥
next_not_accepts t s [] e = cc
next_not_accepts t s (z ∷ left) e = action_not_accepts (cell_of t s z) e

default_accepted : (f : Option Fallback) (m : RunMove) → (m ≡ Accepts → ⊥) → move_by_default f m ≡ Accepts → f ≡ Some fallbacks.Accept
default_accepted None m h e = absurd (h e)
default_accepted (Some fallbacks.Accept) m h e = refl
default_accepted (Some (fallbacks.Reduce p)) m h e = cc

pub accepts_by_default : (t : TableData) (s : ℕ) (left : List ℕ) → run_move_of t s left ≡ Accepts → fallback_of t s ≡ Some fallbacks.Accept
unfolding run_move_of
accepts_by_default t s left e = default_accepted (fallback_of t s) (move_of_next t s left) (next_not_accepts t s left) e

-- The bottom state of the stack is the start state.
pub record Bottom (start : ℕ) (stack : List ℕ) : Type 0 where
  pub some_state : 0 < length stack
  pub is : get_or stack 0 0 ≡ start

bottom_push : (start : ℕ) (stack : List ℕ) (u : ℕ) → Bottom start stack → Bottom start (stack ++ u ∷ [])
bottom_push start stack u b = record { some_state = rw length-append (omega arith); is = rw (get_or-append stack (u ∷ []) 0 0 b.some_state) b.is }

bottom_take : (start : ℕ) (stack : List ℕ) (n : ℕ) → 0 < n → n ≤ length stack → Bottom start stack → Bottom start (take n stack)
bottom_take start stack n pos le b = record { some_state = rw (length-take-le n stack le) pos; is = rw (get_or-take n stack 0 0 pos) b.is }

Bottom-reduce : (t : TableData) (start : ℕ) (c : Config) (p : ℕ) (o : Option (List ℕ)) → reduce t p c.stack ≡ o → Bottom start c.stack → Bottom start (next_of c (goes_to c o)).stack
Bottom-reduce t start c p None e b = b
Bottom-reduce t start c p (Some new) e b =
    let r = reduced t p c.stack new e in
    let s = r.found.states in
    rw r.is (bottom_push start _ r.found.goto.0 (bottom_take start c.stack _ (omega arith) (omega arith) b))

bottom_by : (t : TableData) (start : ℕ) (c : Config) (m : RunMove) → Bottom start c.stack → Bottom start (next_of c (step_by t c m)).stack
bottom_by t start c Accepts b = b
bottom_by t start c Asks b = b
bottom_by t start c Refuses b = b
bottom_by t start c (Shifts j) b = bottom_push start c.stack j b
bottom_by t start c (Reduces p) b = Bottom-reduce t start c p (reduce t p c.stack) refl b

pub Bottom-after : (t : TableData) (start n : ℕ) (c : Config) → Bottom start c.stack → Bottom start (after t n c).stack
Bottom-after t start zero c b = b
Bottom-after t start (suc n) c b =
    let m : RunMove = run_move_of t (top_of c.stack) c.left in
    Bottom-after t start n (next_of c (step t c)) (rw (step_moves t c m refl) (bottom_by t start c m b))

one_tree : (trees : List SyntaxTree) → length trees ≡ 1 → trees ≡ get_or trees 0 (Leaf 0) ∷ []
one_tree [] e = absurd (omega arith)
one_tree (x ∷ []) e = refl
one_tree (x ∷ y ∷ trees) e = absurd (omega arith)

read_spelled : (w left : List ℕ) (trees : List SyntaxTree) (tree : SyntaxTree) (read : ℕ) → trees ≡ tree ∷ [] → yields trees ++ left ≡ w → length (yields trees) ≡ read → (yield_of tree ≡ take read w) × (read ≤ length w)
read_spelled w left trees tree read e s n =
    let one : yields trees ≡ yield_of tree = ap yields e ∙ append-nil (yield_of tree) in
    let len : length (yield_of tree) ≡ read = ap length (sym one) ∙ n in
    let whole : yield_of tree ++ left ≡ w = ap (λ (l : List ℕ). l ++ left) (sym one) ∙ s in (
      sym (take-append_seam (yield_of tree) left) ∙ ap (λ (k : ℕ). take k (yield_of tree ++ left)) len ∙ ap (take read) whole,
      let l = length-append (yield_of tree) left in let k = ap length whole in omega arith,
    )

-- The run of a start that accepts after n steps.
module _ (t : TableData) (f : Facts t) (start : ℕ) (w : List ℕ) (read n : ℕ) (lt : start < length t.grammar.starts) (e : step t (after t n (initial start w)) ≡ Ends (Accepted read)) where
  accepts : AcceptsOne t (after t n (initial start w)).stack (trees_after t n (initial start w) [])
  accepts =
      let c : Config = after t n (initial start w) in
      let m = step_accepts t c read e in
      accepts_one t f c.stack (trees_after t n (initial start w) []) (TreesMatchRun-start t f start n w lt).match_stack (accepts_by_default t (top_of c.stack) c.left m.0)

  -- The run leaves one tree.
  pub accepted_one : trees_after t n (initial start w) [] ≡ get_or (trees_after t n (initial start w) []) 0 (Leaf 0) ∷ []
  accepted_one = one_tree (trees_after t n (initial start w) []) accepts.one

  -- The tree derives the tokens that were read.
  pub accepted_derives : IsTreeOfRead t start w read (get_or (trees_after t n (initial start w) []) 0 (Leaf 0))
  accepted_derives =
      let c : Config = after t n (initial start w) in
      let trees : List SyntaxTree = trees_after t n (initial start w) [] in
      let h : TreesMatchRun t w c trees = TreesMatchRun-start t f start n w lt in
      let b : Bottom start c.stack = Bottom-after t start n (initial start w) (record { some_state = omega arith; is = refl }) in
      let m = step_accepts t c read e in
      let a : AcceptsOne t c.stack trees = accepts in
      let symbol : Some a.symbol ≡ Some (N (get_or t.grammar.starts start 0)) = sym (ap (λ (s : ℕ). slice_get (rhs_of t.grammar s) 0) (sym b.is) ∙ a.is_start) ∙ ap (λ (l : List Symbol). slice_get l 0) (rhs_of-start t.grammar start lt) in
      let same : a.symbol ≡ N (get_or t.grammar.starts start 0) = cc in
      let r = read_spelled w c.left trees (get_or trees 0 (Leaf 0)) read accepted_one h.spells (h.count ∙ m.1) in
      record {
        left = record { steps = n; ends = e; trees = accepted_one };
        within = r.1;
        is = subst (λ (X : Symbol). IsTreeFor t.grammar X (get_or trees 0 (Leaf 0))) same a.tree;
        spells = r.0;
      }

pub accepted_tree : (t : TableData) (f : Facts t) (start : ℕ) (w : List ℕ) (read : ℕ) → start < length t.grammar.starts → VerdictOf t start w (Accepted read) → (tree : SyntaxTree) × IsTreeOfRead t start w read tree
accepted_tree t f start w read lt (n, e) = (get_or (trees_after t n (initial start w) []) 0 (Leaf 0), accepted_derives t f start w read n lt e)
