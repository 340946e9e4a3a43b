-- Lemmas on placing the moves of a closure one after another.
use Rattle.std.proofs.Common.{◌≡◌, ℕ, ◌<◌, ◌+◌, List, [], ◌∷◌, ◌++◌, length, map, take, drop, get_or, sym, ap, ◌∙◌}
use Rattle.std.proofs.lemmas.List.{map-append, take_more, take-append-drop}
use Rattle.mh_grammar.specs.declared.types.Symbol.{Symbol}
use Rattle.mh_grammar.specs.declared.edges.Edge.{Edge}
use Rattle.mh_grammar.specs.Plain.{PlainGrammar}
use Rattle.mh_grammar.specs.ItemSets.{Moved}
use Rattle.mh_grammar.proofs.Lists.{all_at, contains_map}
use Rattle.mh_items_kernels.specs.KernelTypes.{Items}
use Rattle.mh_items_kernels.specs.Kernels.{Holds, IsItemList}
use Rattle.mh_items_kernels.specs.code.KernelMoves.{IsMove}
use Rattle.mh_items_kernels.specs.Collection.{HasItem}
use Rattle.mh_items.specs.code.AllMoves.{Move, AreMoves}
use Rattle.mh_pager.specs.code.MergeStep.{IsPlacedRow, ExceedsAtPrefix}
use Rattle.mh_pager.specs.MergeSteps.{MergeState, PlacesMove}
use Rattle.mh_pager.proofs.IsPlacedRow.{IsPlacedRow-none, IsPlacedRow-push, ExceedsAtPrefix-push, has_move_if_after_dot}

abbrev pub symbols_in : List Move → List Symbol
symbols_in moves = map (λ (m : Move). m.symbol) moves

abbrev pub PutSoFar : PlainGrammar → List Move → List Move → MergeState → MergeState → List Edge → Type 0
PutSoFar g moves front old new row = (closed : Items) → IsItemList g closed → AreMoves g closed moves → IsPlacedRow g closed (symbols_in front) row old new

pub PutSoFar-start : (g : PlainGrammar) (moves : List Move) (work : MergeState) → PutSoFar g moves [] work work []
PutSoFar-start g moves work closed is are = IsPlacedRow-none g closed work

module _ (g : PlainGrammar) (moves front : List Move) (old mid new : MergeState) (row : List Edge) (found : Move) (n : ℕ) (h : PutSoFar g moves front old mid row) (turn : (length front < length moves) × (found ≡ get_or moves (length front) found)) (put : PlacesMove g found.kernel mid new n) where
  move : (closed : Items) → AreMoves g closed moves → IsMove g closed found.symbol found.kernel
  move closed are = all_at (λ (m : Move). IsMove g closed m.symbol m.kernel) moves (length front) found are.each turn.0 turn.1

  some : (closed : Items) → IsItemList g closed → AreMoves g closed moves → HasItem (Moved g (Holds closed) found.symbol)
  some closed is are = has_move_if_after_dot g closed found.symbol is ((are.exact found.symbol).0 (contains_map (λ (m : Move). m.symbol) moves found (length front, turn.0, sym turn.1)))

  more : symbols_in (front ++ found ∷ []) ≡ symbols_in front ++ found.symbol ∷ []
  more = map-append (λ (m : Move). m.symbol) front (found ∷ [])

  pub PutSoFar-more : PutSoFar g moves (front ++ found ∷ []) old new (row ++ record { symbol = found.symbol; target = n } ∷ [])
  PutSoFar-more closed is are = rw more (IsPlacedRow-push g closed found.kernel found.symbol (move closed are).kernel (move closed are).same (some closed is are) (symbols_in front) row old mid new (h closed is are) n put)

  pub put-exceeds : front ≡ take (length front) moves → (limit : ℕ) → limit < length new.kernels → (closed : Items) → IsItemList g closed → AreMoves g closed moves → ExceedsAtPrefix g closed (symbols_in moves) old limit
  put-exceeds begins limit over closed is are =
      let count = length front in
      let first : take (count + 1) moves ≡ front ++ found ∷ [] = take_more moves count found turn.0 ∙ ap (λ ms. ms ++ get_or moves count found ∷ []) (sym begins) ∙ ap (λ (m : Move). front ++ m ∷ []) (sym turn.1) in
      let whole : moves ≡ (front ++ found ∷ []) ++ drop (count + 1) moves = sym (take-append-drop (count + 1) moves) ∙ ap (λ ms. ms ++ drop (count + 1) moves) first in
      let all : symbols_in moves ≡ (symbols_in front ++ found.symbol ∷ []) ++ symbols_in (drop (count + 1) moves) = ap symbols_in whole ∙ map-append (λ (m : Move). m.symbol) (front ++ found ∷ []) (drop (count + 1) moves) ∙ ap (λ xs. xs ++ symbols_in (drop (count + 1) moves)) more in
      ExceedsAtPrefix-push g closed found.kernel found.symbol (move closed are).kernel (move closed are).same (some closed is are) (symbols_in front) row old mid new (h closed is are) n put (symbols_in (drop (count + 1) moves)) (symbols_in moves) all limit over

pub found-valid : (g : PlainGrammar) (moves : List Move) (n : ℕ) (found : Move) → (n < length moves) × (found ≡ get_or moves n found) → (closed : Items) × IsItemList g closed × AreMoves g closed moves → IsItemList g found.kernel
found-valid g moves n found turn h = (all_at (λ (m : Move). IsMove g h.0 m.symbol m.kernel) moves n found h.2.each turn.0 turn.1).kernel
