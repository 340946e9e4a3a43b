-- Lemmas on the positions that the calls of a checkpoint make.
use Rattle.std.proofs.Common.{◌≡◌, ℕ, suc, ◌+◌, ◌-◌, ◌<◌, ◌≤◌, List, [], ◌∷◌, ◌++◌, length, take, drop, Some, None, Option, Bool, true, false, refl, ap, sym, subst, arith, ◌∙◌, length-append, get_or, inl, inr, ◌⊎◌}
use Rattle.std.specs.List.{All}
use Rattle.std.proofs.lemmas.Bool.{cases_lt}
use Rattle.std.proofs.lemmas.List.{length-take-le}
use Rattle.mh_grammar.specs.declared.types.Symbol.TheVariants.{T, N}
use Rattle.mh_grammar.specs.Plain.{rhs_of, lhs_of, production_count}
use Rattle.mh_tables_core.specs.Table.{TableData, edge_of}
use Rattle.mh_tables_core.specs.Facts.{Facts}
use Rattle.mh_tables_core.specs.Run.{Config, RunMove, Accepts, Asks, Refuses, Shifts, Reduces, run_move_of, top_of, step, step_by, next_of, reduce}
use Rattle.mh_tables_core.specs.RunTrees.{TreesMatchStack, trees_after_move}
use Rattle.mh_tables_core.proofs.MoveCases.{no_ask_with_token}
use Rattle.mh_tables_core.proofs.TreesMatchStack.{TreesMatchStack-push, TreesMatchStack-reduce, IsRunStack-of_trees}
use Rattle.mh_tables_core.proofs.IsPath.{finds_states_and_edge, reduce_is, IsRunStack-take}
use Rattle.mh_tables_core.proofs.SymbolsInRange.{edge_source}
use Rattle.mh_tables_core.proofs.RunEnds.{step_moves}
use Rattle.mh_tables_core.proofs.Reductions.{no_shift_at_end, reduces_from_move, shifts_from_move, reduced}
use Rattle.mh_grammar.specs.Trees.{SyntaxTree, Leaf, Node, forest_of, height_of}
use Rattle.mh_tables_core.specs.TooDeep.{too_deep}
use Rattle.mh_engine.specs.Positions.{Pairs, Position}
use Rattle.mh_engine.specs.code.Cells.{pushed, without_last}
use Rattle.mh_engine.specs.Phases.{next_move, phase_of, phase_by, phase_if_refused, CanOffer, CanResume}
use Rattle.mh_engine.specs.Steps.{resumed, offered, refused_position, config_of, is_refusal}
use Rattle.mh_engine.specs.code.CanReduce.{CanReduce}
use Rattle.mh_engine.specs.code.IsSound.{IsSound}
use Rattle.mh_engine.specs.declared.phase.Phase.{Phase}
use Rattle.mh_tables_core.proofs.TooDeep.{shift_fits, reduce_fits, reduce_many, reduce_high, deep_pairs}

-- The position after the next step, for a given move.
abbrev pub resumed_by : Position → RunMove → Position
resumed_by c m =
    let next = next_of (config_of c) (step_by c.table (config_of c) m) in
    record { table = c.table; pairs = record { states = next.stack; trees = trees_after_move c.table m c.left c.pairs.trees }; left = next.left; refused = is_refusal m }

pub by_move : (c : Position) (m : RunMove) → next_move c ≡ m → resumed c ≡ resumed_by c m
unfolding resumed
by_move c m e =
    let s : step c.table (config_of c) ≡ step_by c.table (config_of c) m = step_moves c.table (config_of c) m e in
    rw (s, e) refl

pub resumed_refused : (c : Position) → next_move c ≡ Refuses → resumed c ≡ refused_position c
resumed_refused c e = by_move c Refuses e

pub resumed_shift : (c : Position) (j z : ℕ) → next_move c ≡ Shifts j → c.left ≡ z ∷ [] → resumed c ≡ record { table = c.table; pairs = pushed c.pairs j (Leaf z); left = []; refused = false }
resumed_shift c j z e l = by_move c (Shifts j) e ∙ rw l refl

-- A count that is not below the limit is at least the limit.
pub not_below_limit : (n : ℕ) → (n < 4000 → ⊥) → 4000 ≤ n
not_below_limit n none = elim (cases_lt n 4000) [ inl lt ↦ absurd (none lt) | inr ge ↦ ge ]

-- A sound position whose next move is a reduction has what that reduction needs.
pub can_reduce : (c : Position) (p : ℕ) → Facts c.table → IsSound c → next_move c ≡ Reduces p → CanReduce c p
can_reduce c p f s e =
    let run = IsRunStack-of_trees c.table c.pairs.states c.pairs.trees s.trees_match in
    let by = reduces_from_move c.table (top_of c.pairs.states) c.left p e in
    let found = finds_states_and_edge c.table f c.pairs.states run p by in
    let range = f.ordinary (top_of c.pairs.states) p by in
    record {
      ordinary = range.0;
      known = range.1;
      pairs = let l = s.trees_match.len in let a = found.states in omega arith;
      below = edge_source c.table _ found.goto.0 (N (lhs_of c.table.grammar p)) found.goto.1;
      goto = found.goto;
    }

pub reduced_is : (c : Position) (p : ℕ) → Facts c.table → IsSound c → next_move c ≡ Reduces p → (g : ℕ) → edge_of c.table (top_of (without_last (length (rhs_of c.table.grammar p)) c.pairs).states) (N (lhs_of c.table.grammar p)) ≡ Some g
    → resumed c ≡ record { table = c.table; pairs = pushed (without_last (length (rhs_of c.table.grammar p)) c.pairs) g (Node p (forest_of (drop (length c.pairs.trees - length (rhs_of c.table.grammar p)) c.pairs.trees))); left = c.left; refused = false }
reduced_is c p f s e g edge =
    let run = IsRunStack-of_trees c.table c.pairs.states c.pairs.trees s.trees_match in
    let found = finds_states_and_edge c.table f c.pairs.states run p (reduces_from_move c.table (top_of c.pairs.states) c.left p e) in
    let same : found.goto.0 ≡ g = let a = sym found.goto.1 ∙ edge in cc in
    let is = reduce_is c.table p c.pairs.states found in
    by_move c (Reduces p) e ∙ rw (is, same) refl

top_is : (c : Position) → IsSound c → top_of c.pairs.states ≡ get_or c.pairs.states (length c.pairs.trees) 0
top_is c s = let l = s.trees_match.len in ap (λ (k : ℕ). get_or c.pairs.states k 0) (omega arith)

pub shifted_sound : (c : Position) (j z : ℕ) → Facts c.table → IsSound c → next_move c ≡ Shifts j → c.left ≡ z ∷ [] → length c.pairs.trees < 4000
    → IsSound (record { table = c.table; pairs = pushed c.pairs j (Leaf z); left = []; refused = false })
shifted_sound c j z f s e l few =
    let shift = f.shifts (top_of c.pairs.states) z j (shifts_from_move c.table (top_of c.pairs.states) z [] j (subst (λ (left : List ℕ). run_move_of c.table (top_of c.pairs.states) left ≡ Shifts j) l e)) in
    record {
      trees_match = TreesMatchStack-push c.table c.pairs.states c.pairs.trees (T z) j (Leaf z) s.trees_match (ap (λ (u : ℕ). edge_of c.table u (T z)) (sym (top_is c s)) ∙ shift) refl;
      not_too_deep = shift_fits c.pairs.trees z s.not_too_deep few;
    }

pub shifted_fits : (c : Position) (j z : ℕ) → IsSound c → next_move c ≡ Shifts j → c.left ≡ z ∷ [] → length c.pairs.trees < 4000 → too_deep (resumed c).pairs.trees ≡ false
shifted_fits c j z s e l few = ap (λ (p : Position). too_deep p.pairs.trees) (resumed_shift c j z e l) ∙ shift_fits c.pairs.trees z s.not_too_deep few

pub shifted_deep : (c : Position) (j z : ℕ) → next_move c ≡ Shifts j → c.left ≡ z ∷ [] → 4000 ≤ length c.pairs.trees → too_deep (resumed c).pairs.trees ≡ true
shifted_deep c j z e l many = ap (λ (p : Position). too_deep p.pairs.trees) (resumed_shift c j z e l) ∙ deep_pairs (c.pairs.trees ++ Leaf z ∷ []) (omega (arith, length-append c.pairs.trees (Leaf z ∷ [])))

abbrev after_reduction : Position → ℕ → ℕ → Position
after_reduction c p g = record { table = c.table; pairs = pushed (without_last (length (rhs_of c.table.grammar p)) c.pairs) g (Node p (forest_of (drop (length c.pairs.trees - length (rhs_of c.table.grammar p)) c.pairs.trees))); left = c.left; refused = false }

module _ (c : Position) (p : ℕ) (f : Facts c.table) (s : IsSound c) (e : next_move c ≡ Reduces p) (can : CanReduce c p) where
  abbrev kept : ℕ
  kept = length c.pairs.trees - length (rhs_of c.table.grammar p)

  trees_is : (resumed c).pairs.trees ≡ take kept c.pairs.trees ++ Node p (forest_of (drop kept c.pairs.trees)) ∷ []
  trees_is = ap (λ (q : Position). q.pairs.trees) (by_move c (Reduces p) e)

  pub reduced_fits : kept < 4000 → All (λ t. height_of t < 4000) (drop kept c.pairs.trees) → too_deep (resumed c).pairs.trees ≡ false
  reduced_fits few low = ap too_deep trees_is ∙ reduce_fits c.pairs.trees kept p (omega arith) s.not_too_deep few low

  pub reduced_many : 4000 ≤ kept → too_deep (resumed c).pairs.trees ≡ true
  reduced_many many = ap too_deep trees_is ∙ reduce_many c.pairs.trees kept p (omega arith) many

  pub reduced_high : (All (λ t. height_of t < 4000) (drop kept c.pairs.trees) → ⊥) → too_deep (resumed c).pairs.trees ≡ true
  reduced_high none = ap too_deep trees_is ∙ reduce_high c.pairs.trees kept p (omega arith) none

  pub reduced_sound : (g : ℕ) → edge_of c.table (top_of (without_last (length (rhs_of c.table.grammar p)) c.pairs).states) (N (lhs_of c.table.grammar p)) ≡ Some g → kept < 4000 → All (λ t. height_of t < 4000) (drop kept c.pairs.trees)
      → IsSound (after_reduction c p g)
  reduced_sound g edge few low =
      let run = IsRunStack-of_trees c.table c.pairs.states c.pairs.trees s.trees_match in
      let by = reduces_from_move c.table (top_of c.pairs.states) c.left p e in
      let found = finds_states_and_edge c.table f c.pairs.states run p by in
      let same : found.goto.0 ≡ g = let a = sym found.goto.1 ∙ edge in cc in
      let is = reduce_is c.table p c.pairs.states found in
      record {
        trees_match = TreesMatchStack-reduce c.table f c.pairs.states _ c.pairs.trees p s.trees_match by (reduced c.table p c.pairs.states _ (rw same at is));
        not_too_deep = reduce_fits c.pairs.trees kept p (omega arith) s.not_too_deep few low;
      }

-- After a shift, the checkpoint that the code makes has the position after the next step.
pub shifted_made : (c : Position) (new : Pairs) (j z : ℕ) → next_move c ≡ Shifts j → c.left ≡ z ∷ [] → new ≡ pushed c.pairs j (Leaf z) → record { table = c.table; pairs = new; left = []; refused = false } ≡ resumed c
shifted_made c new j z e l n = ap (λ (p : Pairs). record { table = c.table; pairs = p; left = []; refused = false }) n ∙ sym (resumed_shift c j z e l)

pub shifted_keeps : (c : Position) (new : Pairs) (j z : ℕ) → Facts c.table → IsSound c → next_move c ≡ Shifts j → c.left ≡ z ∷ [] → length c.pairs.trees < 4000 → new ≡ pushed c.pairs j (Leaf z)
    → IsSound (record { table = c.table; pairs = new; left = []; refused = false })
shifted_keeps c new j z f s e l few n = subst (λ (p : Pairs). IsSound (record { table = c.table; pairs = p; left = []; refused = false })) (sym n) (shifted_sound c j z f s e l few)

-- The values that the code of a reduction has computed: length, remaining stack, children, goto and new stack.
pub record ReductionValues (c : Position) (p m g : ℕ) (kept : Pairs) (children : List SyntaxTree) (new : Pairs) : Type 0 where
  pub size_is : m ≡ length (rhs_of c.table.grammar p)
  pub kept_are : kept ≡ without_last m c.pairs
  pub children_are : children ≡ drop (length c.pairs.trees - m) c.pairs.trees
  pub goto_is : edge_of c.table (top_of kept.states) (N (lhs_of c.table.grammar p)) ≡ Some g
  pub new_are : new ≡ pushed kept g (Node p (forest_of children))

module _ (c : Position) (p m g : ℕ) (kept : Pairs) (children : List SyntaxTree) (new : Pairs) (f : Facts c.table) (s : IsSound c) (e : next_move c ≡ Reduces p) (can : CanReduce c p) (h : ReductionValues c p m g kept children new) where
  kept_is : kept ≡ without_last (length (rhs_of c.table.grammar p)) c.pairs
  kept_is = h.kept_are ∙ ap (λ (n : ℕ). without_last n c.pairs) h.size_is

  children_at : children ≡ drop (length c.pairs.trees - length (rhs_of c.table.grammar p)) c.pairs.trees
  children_at = h.children_are ∙ ap (λ (n : ℕ). drop (length c.pairs.trees - n) c.pairs.trees) h.size_is

  new_is : record { table = c.table; pairs = new; left = c.left; refused = false } ≡ after_reduction c p g
  new_is = ap (λ (x : Pairs). record { table = c.table; pairs = x; left = c.left; refused = false }) (h.new_are ∙ ap (λ (x : Pairs). pushed x g (Node p (forest_of children))) kept_is ∙ ap (λ (x : List SyntaxTree). pushed (without_last (length (rhs_of c.table.grammar p)) c.pairs) g (Node p (forest_of x))) children_at)

  edge : edge_of c.table (top_of (without_last (length (rhs_of c.table.grammar p)) c.pairs).states) (N (lhs_of c.table.grammar p)) ≡ Some g
  edge = ap (λ (x : Pairs). edge_of c.table (top_of x.states) (N (lhs_of c.table.grammar p))) (sym kept_is) ∙ h.goto_is

  few : length kept.trees < 4000 → length c.pairs.trees - length (rhs_of c.table.grammar p) < 4000
  few lt = let le = can.pairs in let l : length kept.trees ≡ length (take (length c.pairs.trees - length (rhs_of c.table.grammar p)) c.pairs.trees) = ap (λ (x : Pairs). length x.trees) kept_is in omega (arith, length-take-le (length c.pairs.trees - length (rhs_of c.table.grammar p)) c.pairs.trees (omega arith))

  pub reduced_made : record { table = c.table; pairs = new; left = c.left; refused = false } ≡ resumed c
  reduced_made = new_is ∙ sym (reduced_is c p f s e g edge)

  pub reduced_keeps : length kept.trees < 4000 → All (λ t. height_of t < 4000) children → IsSound (record { table = c.table; pairs = new; left = c.left; refused = false })
  reduced_keeps lt low = subst IsSound (sym new_is) (reduced_sound c p f s e can g edge (few lt) (subst (All (λ t. height_of t < 4000)) children_at low))

  pub reduced_low : length kept.trees < 4000 → All (λ t. height_of t < 4000) children → too_deep (resumed c).pairs.trees ≡ false
  reduced_low lt low = reduced_fits c p f s e can (few lt) (subst (All (λ t. height_of t < 4000)) children_at low)

-- A reduction is too deep if the remaining stack is full or a child has the greatest height.
pub reduced_deep : (c : Position) (p m : ℕ) (kept : Pairs) (children : List SyntaxTree) → Facts c.table → IsSound c → next_move c ≡ Reduces p → CanReduce c p → m ≡ length (rhs_of c.table.grammar p)
    → kept ≡ without_last m c.pairs → children ≡ drop (length c.pairs.trees - m) c.pairs.trees → (4000 ≤ length kept.trees) ⊎ (All (λ t. height_of t < 4000) children → ⊥) → too_deep (resumed c).pairs.trees ≡ true
reduced_deep c p m kept children f s e can size k d why =
    let k' : kept ≡ without_last (length (rhs_of c.table.grammar p)) c.pairs = k ∙ ap (λ (n : ℕ). without_last n c.pairs) size in
    let d' : children ≡ drop (length c.pairs.trees - length (rhs_of c.table.grammar p)) c.pairs.trees = d ∙ ap (λ (n : ℕ). drop (length c.pairs.trees - n) c.pairs.trees) size in
    elim why [
      | inl many ↦ (
          let l : length kept.trees ≡ length (take (length c.pairs.trees - length (rhs_of c.table.grammar p)) c.pairs.trees) = ap (λ (x : Pairs). length x.trees) k' in
          let le = can.pairs in
          reduced_many c p f s e can (omega (arith, length-take-le (length c.pairs.trees - length (rhs_of c.table.grammar p)) c.pairs.trees (omega arith))))
      | inr high ↦ reduced_high c p f s e can (λ all. high (subst (All (λ t. height_of t < 4000)) (sym d') all))
    ]

asking_by : (t : TableData) (s : ℕ) (left : List ℕ) (m : RunMove) → run_move_of t s left ≡ m → CanOffer (phase_by m s left) → (m ≡ Asks)
asking_by t s left Accepts e a = absurd a
asking_by t s left Asks e a = refl
asking_by t s left Refuses e a = absurd a
asking_by t s left (Shifts j) e a = absurd a
asking_by t s left (Reduces p) e a = absurd a

asking_where : (b : Bool) (c : Position) → CanOffer (phase_if_refused b c) → next_move c ≡ Asks
asking_where true c a = absurd a
asking_where false c a = asking_by c.table (top_of c.pairs.states) c.left (next_move c) refl a

pub asking_moves : (c : Position) → CanOffer (phase_of c) → next_move c ≡ Asks
unfolding phase_of
asking_moves c a = asking_where c.refused c a

-- If the state asks for a token, no token is left to read.
asks_empty : (t : TableData) (s : ℕ) (left : List ℕ) → run_move_of t s left ≡ Asks → left ≡ []
asks_empty t s [] e = refl
asks_empty t s (z ∷ left) e = absurd (no_ask_with_token t s z left e)

pub asking_left : (c : Position) → CanOffer (phase_of c) → c.left ≡ []
asking_left c a = asks_empty c.table (top_of c.pairs.states) c.left (asking_moves c a)

pub offered_made : (c : Position) (new : Pairs) (z : ℕ) → CanOffer (phase_of c) → new ≡ c.pairs → record { table = c.table; pairs = new; left = z ∷ []; refused = c.refused } ≡ offered c z
offered_made c new z a n = ap (λ (p : Pairs). record { table = c.table; pairs = p; left = z ∷ []; refused = c.refused }) n ∙ ap (λ (l : List ℕ). record { table = c.table; pairs = c.pairs; left = l ++ z ∷ []; refused = c.refused }) (sym (asking_left c a))

-- If a step can be made, the next move neither accepts nor asks.
going_where : (b : Bool) (c : Position) → CanResume (phase_if_refused b c) → (next_move c ≡ Accepts → ⊥) × (next_move c ≡ Asks → ⊥)
going_where true c g = absurd g
going_where false c g = (
  λ e. let h : CanResume (phase_by Accepts (top_of c.pairs.states) c.left) = subst (λ (m : RunMove). CanResume (phase_by m (top_of c.pairs.states) c.left)) e g in absurd h,
  λ e. let h : CanResume (phase_by Asks (top_of c.pairs.states) c.left) = subst (λ (m : RunMove). CanResume (phase_by m (top_of c.pairs.states) c.left)) e g in absurd h,
)

pub resumable_moves : (c : Position) → CanResume (phase_of c) → (next_move c ≡ Accepts → ⊥) × (next_move c ≡ Asks → ⊥)
unfolding phase_of
resumable_moves c g = going_where c.refused c g
