-- Lemmas on rows of edges during their construction.
use Rattle.std.proofs.Common.{◌≡◌, ◌<◌, ◌↔◌, ℕ, suc, List, [], ◌∷◌, ◌++◌, Some, set, length, refl, ap, ◌∙◌}
use Rattle.std.specs.List.{slice_get, Contains}
use Rattle.std.proofs.lemmas.List.{map-append}
use Rattle.mh_grammar.specs.declared.types.Symbol.{Symbol}
use Rattle.mh_grammar.specs.declared.edges.Edge.{Edge}
use Rattle.mh_grammar.specs.Plain.{PlainGrammar, rhs_of}
use Rattle.mh_grammar.specs.Edges.{IsRising, IsSymbolBefore}
use Rattle.mh_grammar.specs.ItemSets as items
use Rattle.mh_grammar.specs.ItemSets.{AreSameItems, Close, Moved}
use Rattle.mh_items_kernels.specs.KernelTypes.{Items, Kernel}
use Rattle.mh_items_kernels.specs.Kernels.{Holds, IsItemList}
use Rattle.mh_items_kernels.specs.Collection.{HasItem, targets_of}
use Rattle.mh_items_kernels.specs.code.KernelMoves.{IsAfterDot}
use Rattle.mh_canon.proofs.ItemSets.{AreSameItems-sym, AreSameItems-trans, HasItem-same, Moved-same, Holds-core_item}
use Rattle.mh_pager.specs.code.MergeStep.{IsPlacedRow, ExceedsAtPrefix}
use Rattle.mh_pager.specs.code.ReachedByMerging.{IsWellFormed}
use Rattle.mh_pager.specs.MergeSteps.{MergeState, PlacesMove, IsMoveOf, PlacesMoves, AreMoveSymbols, IsMergeStep, StepExceeds}
use Rattle.mh_pager.proofs.IsWellFormed.{all_put_push, all_put_well_formed}
use Rattle.mh_items_kernels.proofs.SymbolAtDot.{drop_from-slice_get}
use Rattle.mh_canon.proofs.IsEdgeRow.{after_dot_of_moved}

-- A move of a closure is a move of the kernel.
module _ (g : PlainGrammar) (closed : Items) (move : Kernel) (X : Symbol) (valid : IsItemList g move) (same : AreSameItems (Holds move) (Moved g (Holds closed) X)) (some : HasItem (Moved g (Holds closed) X)) where
  pub move_of_kernel : (k : Kernel) → AreSameItems (Holds closed) (Close g (Holds k)) → IsMoveOf g k X move
  move_of_kernel k is = record {
    valid = valid;
    has_item = HasItem-same (Moved g (Holds closed) X) (Holds move) (AreSameItems-sym (Holds move) (Moved g (Holds closed) X) same) some;
    same = AreSameItems-trans (Holds move) (Moved g (Holds closed) X) (Moved g (Close g (Holds k)) X) same (Moved-same g (Holds closed) (Close g (Holds k)) X is);
  }

  module _ (symbols : List Symbol) (row : List Edge) (old mid new : MergeState) (r : IsPlacedRow g closed symbols row old mid) (n : ℕ) (p : PlacesMove g move mid new n) where
    pub all_put : (k : Kernel) → AreSameItems (Holds closed) (Close g (Holds k)) → PlacesMoves g k (symbols ++ X ∷ []) (targets_of row ++ n ∷ []) old new
    all_put k is = all_put_push g k symbols (targets_of row) old mid new X n move (r.moves_placed k is) (move_of_kernel k is) p

    pub IsPlacedRow-push : IsPlacedRow g closed (symbols ++ X ∷ []) (row ++ record { symbol = X; target = n } ∷ []) old new
    IsPlacedRow-push = record {
      symbols_are = map-append (λ (e : Edge). e.symbol) row (record { symbol = X; target = n } ∷ []) ∙ ap (λ xs. xs ++ X ∷ []) r.symbols_are;
      moves_placed = λ k is. rw (map-append (λ (e : Edge). e.target) row (record { symbol = X; target = n } ∷ [])) (all_put k is);
    }

    pub ExceedsAtPrefix-push : (rest all : List Symbol) → all ≡ (symbols ++ X ∷ []) ++ rest → (limit : ℕ) → limit < length new.kernels → ExceedsAtPrefix g closed all old limit
    ExceedsAtPrefix-push rest all are limit over = record { prefix = symbols ++ X ∷ []; rest = rest; split = are; targets = targets_of row ++ n ∷ []; placed = new; moves_placed = all_put; exceeds = over }

pub IsPlacedRow-none : (g : PlainGrammar) (closed : Items) (old : MergeState) → IsPlacedRow g closed [] [] old old
IsPlacedRow-none g closed old = record { symbols_are = refl; moves_placed = λ k is. refl }

-- If a symbol is after a dot, the move on it is not empty.
pub has_move_if_after_dot : (g : PlainGrammar) (closed : Items) (X : Symbol) → IsItemList g closed → IsAfterDot g closed X → HasItem (Moved g (Holds closed) X)
has_move_if_after_dot g closed X is b =
    let look = Holds-core_item g closed is b.production b.dot b.place in
    record { production = b.production; dot = suc b.dot; look = look.0; holds = items.Moved.moved look.1 (drop_from-slice_get (rhs_of g b.production) b.dot X b.at_dot) }

pub after_dot_if_has_move : (g : PlainGrammar) (closed : Items) (X : Symbol) → HasItem (Moved g (Holds closed) X) → IsAfterDot g closed X
after_dot_if_has_move g closed X h = after_dot_of_moved g closed X h.production h.dot h.look h.holds

-- The symbols after the dots of a closure are those on which it has a move.
module _ (g : PlainGrammar) (k : Kernel) (closed : Items) (is : IsItemList g closed) (same : AreSameItems (Holds closed) (Close g (Holds k))) (symbols : List Symbol) (rising : IsRising IsSymbolBefore symbols) (exact : (X : Symbol) → Contains symbols X ↔ IsAfterDot g closed X) where
  pub are_move_symbols : AreMoveSymbols g k symbols
  are_move_symbols = record {
    rising = rising;
    exact = λ X. (
      (λ c. HasItem-same (Moved g (Holds closed) X) (Moved g (Close g (Holds k)) X) (Moved-same g (Holds closed) (Close g (Holds k)) X same) (has_move_if_after_dot g closed X is ((exact X).0 c))),
      (λ h. (exact X).1 (after_dot_if_has_move g closed X (HasItem-same (Moved g (Close g (Holds k)) X) (Moved g (Holds closed) X) (Moved-same g (Close g (Holds k)) (Holds closed) X (AreSameItems-sym (Holds closed) (Close g (Holds k)) same)) h))),
    );
  }

  module _ (old : MergeState) (state : ℕ) (waiting : List ℕ) (oldest : old.queue ≡ state ∷ waiting) (at : slice_get old.kernels state ≡ Some k) where
    abbrev begin : MergeState
    begin = record { kernels = old.kernels; rows = old.rows; queue = waiting }

    pub merge_step_of_row : (row : List Edge) (placed : MergeState) → IsPlacedRow g closed symbols row begin placed → IsMergeStep g old (record { kernels = placed.kernels; rows = set placed.rows state row; queue = placed.queue })
    merge_step_of_row row placed r = record {
      state = state;
      waiting = waiting;
      oldest = oldest;
      kernel = k;
      at = at;
      moving = rw r.symbols_are are_move_symbols;
      moves_placed = rw r.symbols_are (r.moves_placed k same);
      row = row;
      placed = placed;
      after = refl;
    }

    pub step_exceeds : (limit : ℕ) → ExceedsAtPrefix g closed symbols begin limit → StepExceeds g limit old
    step_exceeds limit o = record {
      state = state;
      waiting = waiting;
      oldest = oldest;
      kernel = k;
      at = at;
      symbols = o.prefix;
      rest = o.rest;
      moving = rw (← o.split) are_move_symbols;
      targets = o.targets;
      placed = o.placed;
      moves_placed = o.moves_placed k same;
      exceeds = o.exceeds;
    }

-- Placing the moves of a row keeps the precondition.
pub row_ready : (g : PlainGrammar) (k : Kernel) (closed : Items) → AreSameItems (Holds closed) (Close g (Holds k)) → (symbols : List Symbol) (row : List Edge) (old new : MergeState) → IsPlacedRow g closed symbols row old new → IsWellFormed g old → IsWellFormed g new
row_ready g k closed same symbols row old new r ready = all_put_well_formed g k symbols (targets_of row) old new (r.moves_placed k same) ready
