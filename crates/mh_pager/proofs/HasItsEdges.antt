-- Proves that, when the queue is empty, each state has its edges, and that they lead to states that extend its moves.
use Rattle.std.proofs.Common.{◌≡◌, ◌⊎◌, ◌↔◌, ◌<◌, ℕ, Bool, true, false, List, [], ◌∷◌, Some, set, length, refl, sym, ◌∙◌, arith, inl, inr, if◌then◌else◌}
use Rattle.std.specs.List.{slice_get, Contains, AllZip}
use Rattle.std.proofs.lemmas.List.{length-set}
use Rattle.std.proofs.lemmas.Bool.{cases_eq}
use Rattle.std.proofs.lemmas.Option.{slice_get_within}
use Rattle.mh_grammar.specs.declared.types.Symbol.{Symbol}
use Rattle.mh_grammar.specs.declared.edges.Edge.{Edge}
use Rattle.mh_grammar.specs.Plain.{PlainGrammar}
use Rattle.mh_grammar.specs.Edges.{IsRising, IsSymbolBefore, same_symbol, find_edge}
use Rattle.mh_grammar.specs.ItemSets.{AreSameItems, Close, Moved}
use Rattle.mh_grammar.proofs.Lists.{contains_cases, contains_here, contains_there, get_within, set_here, set_elsewhere}
use Rattle.mh_items_kernels.specs.KernelTypes.{Kernel}
use Rattle.mh_items_kernels.specs.Kernels.{Holds}
use Rattle.mh_items_kernels.specs.Collection.{HasItem, targets_of, edge_symbols}
use Rattle.mh_canon.proofs.ItemSets.{AreSameItems-sym}
use Rattle.mh_pager.specs.MergeSteps.{MergeState, PlacesMove, PlacesMoves, IsMergeStep}
use Rattle.mh_pager.proofs.PlacesMove.{Extends, extends_self, extends_same, extends_trans, Grows, grows_trans, KernelOrigin, stays, joins, fresh, kernel_origin, put_grows, put_target, put_queue, put_rows, put_length}
use Rattle.mh_grammar.proofs.EdgeOrder.{equal_from_same}

-- State n extends the move of the kernel on the symbol.
abbrev pub IsTargetOf : PlainGrammar → List Kernel → Kernel → Symbol → ℕ → Type 0
IsTargetOf g kernels k X n = (m : Kernel) × (slice_get kernels n ≡ Some m) × Extends (Moved g (Close g (Holds k)) X) (Holds m)

-- The row holds the edges of a state: they rise, there is exactly one for each symbol that moves an item, and each
-- leads to a state that extends the move.
pub record IsRowFor (g : PlainGrammar) (kernels : List Kernel) (k : Kernel) (row : List Edge) : Type 0 where
  pub rising : IsRising IsSymbolBefore (edge_symbols row)
  pub moves : (X : Symbol) → Contains (edge_symbols row) X ↔ HasItem (Moved g (Close g (Holds k)) X)
  pub targets_are : AllZip (IsTargetOf g kernels k) (edge_symbols row) (targets_of row)

target_grows : (g : PlainGrammar) (k : Kernel) (old new : List Kernel) → Grows old new → (X : Symbol) (n : ℕ) → IsTargetOf g old k X n → IsTargetOf g new k X n
target_grows g k old new grows X n t =
    let j = grows n t.0 t.1 in
    (j.0, j.1, extends_trans (Moved g (Close g (Holds k)) X) (Holds t.0) (Holds j.0) t.2 j.2)

targets_grow : (g : PlainGrammar) (k : Kernel) (old new : List Kernel) → Grows old new → (symbols : List Symbol) (targets : List ℕ) → AllZip (IsTargetOf g old k) symbols targets → AllZip (IsTargetOf g new k) symbols targets
targets_grow g k old new grows [] [] z = tt
targets_grow g k old new grows [] (n ∷ targets) z = absurd z
targets_grow g k old new grows (X ∷ symbols) [] z = absurd z
targets_grow g k old new grows (X ∷ symbols) (n ∷ targets) z = (target_grows g k old new grows X n z.0, targets_grow g k old new grows symbols targets z.1)

row_grows : (g : PlainGrammar) (k : Kernel) (old new : List Kernel) → Grows old new → (row : List Edge) → IsRowFor g old k row → IsRowFor g new k row
row_grows g k old new grows row r = record { rising = r.rising; moves = r.moves; targets_are = targets_grow g k old new grows (edge_symbols row) (targets_of row) r.targets_are }

-- An edge that is found leads to a state that extends the move.
pub found_target : (g : PlainGrammar) (kernels : List Kernel) (k : Kernel) (row : List Edge) → AllZip (IsTargetOf g kernels k) (edge_symbols row) (targets_of row) → (X : Symbol) (u : ℕ) → find_edge row X ≡ Some u → IsTargetOf g kernels k X u × Contains (edge_symbols row) X
found_target g kernels k [] z X u e = cc
found_target g kernels k (f ∷ row) z X u e = go (same_symbol f.symbol X) refl e (found_target g kernels k row z.1 X u)
  where
    go : (b : Bool) → same_symbol f.symbol X ≡ b → (if b then Some f.target else find_edge row X) ≡ Some u → (find_edge row X ≡ Some u → IsTargetOf g kernels k X u × Contains (edge_symbols row) X) → IsTargetOf g kernels k X u × Contains (edge_symbols (f ∷ row)) X
    go true s t rest =
        let to : f.target ≡ u = cc in
        let on = equal_from_same f.symbol X s in
        (rw (← to, ← on) z.0, rw (← on) (contains_here f.symbol (edge_symbols row)))
    go false s t rest = let r = rest t in (r.0, contains_there f.symbol (edge_symbols row) X r.1)

-- The state has its edges.
abbrev pub HasItsEdges : PlainGrammar → MergeState → ℕ → Kernel → Type 0
HasItsEdges g w n k = (row : List Edge) × (slice_get w.rows n ≡ Some row) × IsRowFor g w.kernels k row

-- Each state except the given one is queued or has its edges.
abbrev pub AllHaveEdgesBut : PlainGrammar → ℕ → MergeState → Type 0
AllHaveEdgesBut g s w = (n : ℕ) (k : Kernel) → slice_get w.kernels n ≡ Some k → (n ≡ s) ⊎ (Contains w.queue n ⊎ HasItsEdges g w n k)

abbrev pub HaveEdgesOrAreQueued : PlainGrammar → MergeState → Type 0
HaveEdgesOrAreQueued g w = (n : ℕ) (k : Kernel) → slice_get w.kernels n ≡ Some k → Contains w.queue n ⊎ HasItsEdges g w n k

-- The kernel of the state that gets its edges is unchanged, or the state is queued again.
abbrev IsSource : MergeState → ℕ → Kernel → Type 0
IsSource w s k = (slice_get w.kernels s ≡ Some k) ⊎ Contains w.queue s

module _ (g : PlainGrammar) where
  module _ (move : Kernel) (old new : MergeState) (n : ℕ) (p : PlacesMove g move old new n) where
    settled_put : (m : ℕ) (k : Kernel) → HasItsEdges g old m k → HasItsEdges g new m k
    settled_put m k s = (s.0, put_rows g move old new n p m s.0 s.1, row_grows g k old.kernels new.kernels (put_grows g move old new n p) s.0 s.2)

    put_settled : (s : ℕ) → AllHaveEdgesBut g s old → AllHaveEdgesBut g s new
    put_settled s before m k at = go (kernel_origin g move old new n p m k at)
      where
        go : KernelOrigin g move old new m k → (m ≡ s) ⊎ (Contains new.queue m ⊎ HasItsEdges g new m k)
        go (stays e) = elim (before m k e) [
          | inl h ↦ inl h
          | inr h ↦ elim h [ inl c ↦ inr (inl (put_queue g move old new n p m c)) | inr x ↦ inr (inr (settled_put m k x)) ]
        ]
        go (joins j e takes valid join q) = inr (inl q)
        go (fresh e same q) = inr (inl q)

    put_source : (s : ℕ) (k : Kernel) → IsSource old s k → IsSource new s k
    put_source s k (inr c) = inr (put_queue g move old new n p s c)
    put_source s k (inl at) =
        let j = put_grows g move old new n p s k at in
        go j.0 j.1 (kernel_origin g move old new n p s j.0 j.1)
      where
        go : (j : Kernel) → slice_get new.kernels s ≡ Some j → KernelOrigin g move old new s j → IsSource new s k
        go j here (stays e) = let same : Some j ≡ Some k = sym e ∙ at in inl (here ∙ same)
        go j here (joins i e takes valid join q) = inr q
        go j here (fresh e same q) = inr q

  module _ (k : Kernel) where
    pub all_put_grows : (symbols : List Symbol) (targets : List ℕ) (old new : MergeState) → PlacesMoves g k symbols targets old new → Grows old.kernels new.kernels
    all_put_grows [] [] old new p = λ n j at. (j, rw p at, extends_self (Holds j))
    all_put_grows [] (n ∷ targets) old new p = absurd p
    all_put_grows (X ∷ symbols) [] old new p = absurd p
    all_put_grows (X ∷ symbols) (n ∷ targets) old new p = grows_trans old.kernels p.1.kernels new.kernels (put_grows g p.0 old p.1 n p.3) (all_put_grows symbols targets p.1 new p.4)

    all_put_settled : (s : ℕ) (symbols : List Symbol) (targets : List ℕ) (old new : MergeState) → PlacesMoves g k symbols targets old new → AllHaveEdgesBut g s old → AllHaveEdgesBut g s new
    all_put_settled s [] [] old new p before = rw p before
    all_put_settled s [] (n ∷ targets) old new p before = absurd p
    all_put_settled s (X ∷ symbols) [] old new p before = absurd p
    all_put_settled s (X ∷ symbols) (n ∷ targets) old new p before = all_put_settled s symbols targets p.1 new p.4 (put_settled p.0 old p.1 n p.3 s before)

    all_put_source : (s : ℕ) (symbols : List Symbol) (targets : List ℕ) (old new : MergeState) → PlacesMoves g k symbols targets old new → IsSource old s k → IsSource new s k
    all_put_source s [] [] old new p before = rw p before
    all_put_source s [] (n ∷ targets) old new p before = absurd p
    all_put_source s (X ∷ symbols) [] old new p before = absurd p
    all_put_source s (X ∷ symbols) (n ∷ targets) old new p before = all_put_source s symbols targets p.1 new p.4 (put_source p.0 old p.1 n p.3 s k before)

    all_put_length : (symbols : List Symbol) (targets : List ℕ) (old new : MergeState) → PlacesMoves g k symbols targets old new → length old.rows ≡ length old.kernels → length new.rows ≡ length new.kernels
    all_put_length [] [] old new p e = rw p e
    all_put_length [] (n ∷ targets) old new p e = absurd p
    all_put_length (X ∷ symbols) [] old new p e = absurd p
    all_put_length (X ∷ symbols) (n ∷ targets) old new p e = all_put_length symbols targets p.1 new p.4 (put_length g p.0 old p.1 n p.3 e)

    -- The targets extend the moves.
    all_put_targets : (symbols : List Symbol) (targets : List ℕ) (old new : MergeState) → PlacesMoves g k symbols targets old new → AllZip (IsTargetOf g new.kernels k) symbols targets
    all_put_targets [] [] old new p = tt
    all_put_targets [] (n ∷ targets) old new p = absurd p
    all_put_targets (X ∷ symbols) [] old new p = absurd p
    all_put_targets (X ∷ symbols) (n ∷ targets) old new p =
        let t = put_target g p.0 old p.1 n p.3 in
        let moved : AreSameItems (Moved g (Close g (Holds k)) X) (Holds p.0) = AreSameItems-sym (Holds p.0) (Moved g (Close g (Holds k)) X) p.2.same in
        let here : IsTargetOf g p.1.kernels k X n = (t.0, t.1, extends_trans (Moved g (Close g (Holds k)) X) (Holds p.0) (Holds t.0) (extends_same (Moved g (Close g (Holds k)) X) (Holds p.0) moved) t.2) in
        (target_grows g k p.1.kernels new.kernels (all_put_grows symbols targets p.1 new p.4) X n here, all_put_targets symbols targets p.1 new p.4)

  module _ (old new : MergeState) (s : IsMergeStep g old new) (len : length old.rows ≡ length old.kernels) where
    abbrev begin : MergeState
    begin = record { kernels = old.kernels; rows = old.rows; queue = s.waiting }

    abbrev after : MergeState
    after = record { kernels = s.placed.kernels; rows = set s.placed.rows s.state s.row; queue = s.placed.queue }

    placed_length : length s.placed.rows ≡ length s.placed.kernels
    placed_length = all_put_length s.kernel (edge_symbols s.row) (targets_of s.row) begin s.placed s.moves_placed len

    pub step_length : length new.rows ≡ length new.kernels
    step_length = rw (s.after, length-set s.placed.rows s.state s.row) placed_length

    new_row : IsRowFor g s.placed.kernels s.kernel s.row
    new_row = record { rising = s.moving.rising; moves = s.moving.exact; targets_are = all_put_targets s.kernel (edge_symbols s.row) (targets_of s.row) begin s.placed s.moves_placed }

    but : HaveEdgesOrAreQueued g old → AllHaveEdgesBut g s.state begin
    but before n k at = elim (before n k at) [
      | inl c ↦ elim (contains_cases s.state s.waiting n (rw s.oldest at c)) [ inl e ↦ inl (sym e) | inr d ↦ inr (inl d) ]
      | inr x ↦ inr (inr x)
    ]

    here : (k : Kernel) → slice_get s.placed.kernels s.state ≡ Some k → IsSource s.placed s.state s.kernel → Contains after.queue s.state ⊎ HasItsEdges g after s.state k
    here k at (inr c) = inl c
    here k at (inl is) =
        let one : Some s.kernel ≡ Some k = sym is ∙ at in
        let same : s.kernel ≡ k = cc in
        let l : s.state < length s.placed.rows = omega (arith, slice_get_within s.placed.kernels s.state k at, placed_length) in
        let old_row = get_within s.placed.rows s.state l in
        inr (s.row, set_here s.placed.rows s.state s.row (slice_get_within s.placed.rows s.state old_row.0 old_row.1), rw same at new_row)

    elsewhere : (n : ℕ) (k : Kernel) → (n ≡ s.state → ⊥) → (n ≡ s.state) ⊎ (Contains s.placed.queue n ⊎ HasItsEdges g s.placed n k) → Contains after.queue n ⊎ HasItsEdges g after n k
    elsewhere n k other (inl e) = absurd (other e)
    elsewhere n k other (inr (inl c)) = inl c
    elsewhere n k other (inr (inr x)) = inr (x.0, set_elsewhere s.placed.rows s.state s.row n other ∙ x.1, x.2)

    step_after : HaveEdgesOrAreQueued g old → HaveEdgesOrAreQueued g after
    step_after before n k at = elim (cases_eq n s.state) [
      | inl e ↦ rw e (here k (rw e at at) (all_put_source s.kernel s.state (edge_symbols s.row) (targets_of s.row) begin s.placed s.moves_placed (inl s.at)))
      | inr other ↦ elsewhere n k other (all_put_settled s.kernel s.state (edge_symbols s.row) (targets_of s.row) begin s.placed s.moves_placed (but before) n k at)
    ]

    pub step_settled : HaveEdgesOrAreQueued g old → HaveEdgesOrAreQueued g new
    step_settled before = rw s.after (step_after before)
