-- Lemmas on the moves of a closure, whose kernels are found in the list of kernels or appended to it, one by one.
use Rattle.std.proofs.Common.{◌≡◌, ℕ, ◌<◌, ◌≤◌, List, [], ◌∷◌, ◌++◌, length, get_or, sym}
use Rattle.std.specs.List.{All}
use Rattle.std.proofs.lemmas.List.{map-append}
use Rattle.std.proofs.lemmas.List.Elements.{All-push, All-nil}
use Rattle.mh_grammar.specs.declared.edges.Edge.{Edge}
use Rattle.mh_grammar.specs.Plain.{PlainGrammar}
use Rattle.mh_grammar.specs.Placed.{Placed}
use Rattle.mh_grammar.proofs.Lists.{all_at, contains_map}
use Rattle.mh_items_kernels.specs.KernelTypes.{Items, Kernel}
use Rattle.mh_items_kernels.specs.code.KernelMoves.{IsAfterDot, IsMove}
use Rattle.mh_items.specs.code.AllMoves.{Move, AreMoves, symbols_of}
use Rattle.mh_canon.specs.Canonical.{CanonicalExceeds}
use Rattle.mh_canon.specs.code.FoundStates.{IsStateClosure, AreCanonicalStates, AreStateEdges}
use Rattle.mh_canon.proofs.AreCanonicalStates.{AreStateEdges-none, AreStateEdges-push, CanonicalExceeds-placed}

pub record PlacedSoFar (g : PlainGrammar) (moves front : List Move) (old new : List Kernel) (row : List Edge) : Type 0 where
  pub edges : (closed : Items) → AreMoves g closed moves → AreStateEdges g closed (symbols_of front) old new row
  pub after_dot : (closed : Items) → AreMoves g closed moves → All (IsAfterDot g closed) (symbols_of front)

pub placed-start : (g : PlainGrammar) (moves : List Move) (kernels : List Kernel) → PlacedSoFar g moves [] kernels kernels []
placed-start g moves kernels = record { edges = λ closed are. AreStateEdges-none g closed kernels; after_dot = λ closed are. All-nil (IsAfterDot g closed) }

module _ (g : PlainGrammar) (moves front : List Move) (old mid new : List Kernel) (row : List Edge) (found : Move) (n : ℕ) (h : PlacedSoFar g moves front old mid row) (turn : (length front < length moves) × (found ≡ get_or moves (length front) found)) (placed : Placed mid new found.kernel n) where
  move : (closed : Items) → AreMoves g closed moves → IsMove g closed found.symbol found.kernel
  move closed are = all_at (λ (m : Move). IsMove g closed m.symbol m.kernel) moves (length front) found are.each turn.0 turn.1

  there : (closed : Items) → AreMoves g closed moves → IsAfterDot g closed found.symbol
  there closed are = (are.exact found.symbol).0 (contains_map (λ (m : Move). m.symbol) moves found (length front, turn.0, sym turn.1))

  more : symbols_of (front ++ found ∷ []) ≡ symbols_of front ++ found.symbol ∷ []
  more = map-append (λ (m : Move). m.symbol) front (found ∷ [])

  pub placed-more : PlacedSoFar g moves (front ++ found ∷ []) old new (row ++ record { symbol = found.symbol; target = n } ∷ [])
  placed-more = record {
    edges = λ closed are. rw more (AreStateEdges-push g closed (symbols_of front) old mid new row found.symbol found.kernel n (h.edges closed are) (move closed are) placed);
    after_dot = λ closed are. rw more (All-push (IsAfterDot g closed) (symbols_of front) found.symbol (h.after_dot closed are) (there closed are));
  }

  pub placed-over : (limit : ℕ) → AreCanonicalStates g old → limit ≤ n → (closed : Items) → IsStateClosure g closed → AreMoves g closed moves → CanonicalExceeds g limit
  placed-over limit states past closed source are =
      CanonicalExceeds-placed g closed (symbols_of front) old mid new row found.symbol found.kernel n limit source (All-push (IsAfterDot g closed) (symbols_of front) found.symbol (h.after_dot closed are) (there closed are)) states (h.edges closed are) (move closed are) placed past
