-- Lemmas on edges whose targets are renumbered.
use Rattle.std.proofs.Common.{◌≡◌, ℕ, Bool, true, false, List, [], ◌∷◌, Some, refl, sym, ap, ◌∙◌, if◌then◌else◌}
use Rattle.std.specs.List.{slice_get}
use Rattle.mh_grammar.specs.declared.types.Symbol.{Symbol}
use Rattle.mh_grammar.specs.declared.edges.Edge.{Edge}
use Rattle.mh_grammar.specs.Edges.{same_symbol, find_edge}
use Rattle.mh_grammar.specs.Numbering.{AreNumbersOf}
use Rattle.mh_items_kernels.specs.Collection.{targets_of, edge_symbols}

module _ (states : List ℕ) (X : Symbol) where
  -- If the old row leads to a state on a symbol, the renumbered row leads to the new number of this state.
  pub renamed_to : (edges row : List Edge) → edge_symbols edges ≡ edge_symbols row → AreNumbersOf states (targets_of edges) (targets_of row) → (n : ℕ) → find_edge row X ≡ Some n → (u : ℕ) × (find_edge edges X ≡ Some u) × (slice_get states u ≡ Some n)
  renamed_to [] [] h z n e = cc
  renamed_to [] (f ∷ row) h z n e = absurd z
  renamed_to (d ∷ edges) [] h z n e = absurd z
  renamed_to (d ∷ edges) (f ∷ row) h z n e =
      let first : d.symbol ≡ f.symbol = cc in
      let others : edge_symbols edges ≡ edge_symbols row = cc in
      go (same_symbol f.symbol X) refl (ap (λ (s : Symbol). same_symbol s X) first) e (renamed_to edges row others z.1 n)
    where
      go : (b : Bool) → same_symbol f.symbol X ≡ b → same_symbol d.symbol X ≡ same_symbol f.symbol X → (if b then Some f.target else find_edge row X) ≡ Some n → (find_edge row X ≡ Some n → (u : ℕ) × (find_edge edges X ≡ Some u) × (slice_get states u ≡ Some n)) → (u : ℕ) × (find_edge (d ∷ edges) X ≡ Some u) × (slice_get states u ≡ Some n)
      go true s t w rest = let to : f.target ≡ n = cc in (d.target, rw (t ∙ s) refl, rw to at z.0)
      go false s t w rest = let r = rest w in (r.0, rw (t ∙ s) r.1, r.2)

  -- If the renumbered row leads to a state on a symbol, the old row leads to the old number of this state.
  pub renamed_from : (edges row : List Edge) → edge_symbols edges ≡ edge_symbols row → AreNumbersOf states (targets_of edges) (targets_of row) → (u : ℕ) → find_edge edges X ≡ Some u → (n : ℕ) × (find_edge row X ≡ Some n) × (slice_get states u ≡ Some n)
  renamed_from [] [] h z u e = cc
  renamed_from [] (f ∷ row) h z u e = absurd z
  renamed_from (d ∷ edges) [] h z u e = absurd z
  renamed_from (d ∷ edges) (f ∷ row) h z u e =
      let first : d.symbol ≡ f.symbol = cc in
      let others : edge_symbols edges ≡ edge_symbols row = cc in
      go (same_symbol d.symbol X) refl (ap (λ (s : Symbol). same_symbol s X) (sym first)) e (renamed_from edges row others z.1 u)
    where
      go : (b : Bool) → same_symbol d.symbol X ≡ b → same_symbol f.symbol X ≡ same_symbol d.symbol X → (if b then Some d.target else find_edge edges X) ≡ Some u → (find_edge edges X ≡ Some u → (n : ℕ) × (find_edge row X ≡ Some n) × (slice_get states u ≡ Some n)) → (n : ℕ) × (find_edge (f ∷ row) X ≡ Some n) × (slice_get states u ≡ Some n)
      go true s t w rest = let to : d.target ≡ u = cc in (f.target, rw (t ∙ s) refl, rw to at z.0)
      go false s t w rest = let r = rest w in (r.0, rw (t ∙ s) r.1, r.2)
