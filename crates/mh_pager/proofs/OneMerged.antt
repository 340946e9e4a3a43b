-- Proves that a grammar has only one merged automaton.
use Rattle.std.proofs.Common.{◌≡◌, ℕ, List, [], ◌∷◌, Some, map, refl, sym, ap, ◌∙◌, subst}
use Rattle.std.specs.List.{slice_get, AllZip}
use Rattle.mh_grammar.specs.declared.edges.Edge.{Edge}
use Rattle.mh_grammar.specs.Plain.{PlainGrammar}
use Rattle.mh_grammar.specs.Numbering.{IsNumbering}
use Rattle.mh_grammar.proofs.Lists.{get_unique, zip_unique}
use Rattle.mh_grammar.proofs.NumberingUnique.{numbering_unique}
use Rattle.mh_items_kernels.specs.KernelTypes.{Automaton}
use Rattle.mh_items_kernels.specs.Collection.{targets_of, edge_symbols}
use Rattle.mh_pager.specs.MergeSteps.{MergeState, MergeSteps, HasTargets, HasSymbolsOfRow, IsMerged, start_numbers}
use Rattle.mh_canon.proofs.OneCanonical.{edges_unique}
use Rattle.mh_pager.proofs.StepsAreUnique.{initial_unique, end_unique}

leads_one : (rows : List (List Edge)) (n : ℕ) (a b : List ℕ) → HasTargets rows n a → HasTargets rows n b → a ≡ b
leads_one rows n a b p q =
    let one : Some p.row ≡ Some q.row = sym p.at ∙ q.at in
    let same : p.row ≡ q.row = cc in
    sym p.targets_are ∙ ap targets_of same ∙ q.targets_are

rows_one : (rows : List (List Edge)) (states : List ℕ) (xs ys : List (List Edge)) → AllZip (HasSymbolsOfRow rows) states xs → AllZip (HasSymbolsOfRow rows) states ys → map targets_of xs ≡ map targets_of ys → xs ≡ ys
rows_one rows [] [] [] a b t = refl
rows_one rows [] [] (y ∷ ys) a b t = absurd b
rows_one rows [] (x ∷ xs) ys a b t = absurd a
rows_one rows (n ∷ states) [] ys a b t = absurd a
rows_one rows (n ∷ states) (x ∷ xs) [] a b t = absurd b
rows_one rows (n ∷ states) (x ∷ xs) (y ∷ ys) a b t =
    let one : Some a.0.row ≡ Some b.0.row = sym a.0.at ∙ b.0.at in
    let same : a.0.row ≡ b.0.row = cc in
    let here : targets_of x ≡ targets_of y = cc in
    let others : map targets_of xs ≡ map targets_of ys = cc in
    let first = edges_unique x y (a.0.same ∙ ap edge_symbols same ∙ sym b.0.same) here in
    let rest = rows_one rows states xs ys a.1 b.1 others in
    λ i. first i ∷ rest i

pub merged_one : (g : PlainGrammar) (a b : Automaton) → IsMerged g a → IsMerged g b → a ≡ b
merged_one g a b m n =
    let steps : MergeSteps g m.first n.last = rw (initial_unique g m.first n.first m.is_initial n.is_initial) n.steps in
    let last : n.last ≡ m.last = sym (end_unique g m.first m.last n.last m.steps m.done steps n.done) in
    let numbering : IsNumbering (HasTargets m.last.rows) (start_numbers g) n.states (map targets_of b.edges) = subst (λ (w : MergeState). IsNumbering (HasTargets w.rows) (start_numbers g) n.states (map targets_of b.edges)) last n.numbering in
    let both = numbering_unique (HasTargets m.last.rows) (leads_one m.last.rows) (start_numbers g) m.states n.states (map targets_of a.edges) (map targets_of b.edges) m.numbering numbering in
    let kernels_b : AllZip (λ i k. slice_get m.last.kernels i ≡ Some k) n.states b.kernels = subst (λ (w : MergeState). AllZip (λ i k. slice_get w.kernels i ≡ Some k) n.states b.kernels) last n.kernels in
    let symbols_b : AllZip (HasSymbolsOfRow m.last.rows) n.states b.edges = subst (λ (w : MergeState). AllZip (HasSymbolsOfRow w.rows) n.states b.edges) last n.symbols in
    let kernels = zip_unique (λ n k. slice_get m.last.kernels n ≡ Some k) (get_unique m.last.kernels) m.states a.kernels b.kernels m.kernels (subst (λ (s : List ℕ). AllZip (λ i k. slice_get m.last.kernels i ≡ Some k) s b.kernels) (sym both.0) kernels_b) in
    let edges = rows_one m.last.rows m.states a.edges b.edges m.symbols (subst (λ (s : List ℕ). AllZip (HasSymbolsOfRow m.last.rows) s b.edges) (sym both.0) symbols_b) both.1 in
    λ i. record { kernels = kernels i; edges = edges i }
