-- Proves that a file that passes all tests fails none: the kernel, the edges and the actions of each state are unique.
use Rattle.std.proofs.Common.{◌≡◌, ◌<◌, ℕ, List, [], ◌∷◌, map, length, Option, Some, None, refl, sym, ap, ◌∙◌, arith}
use Rattle.std.specs.Prelude.{slice_index_or}
use Rattle.std.specs.List.{Contains}
use Rattle.std.proofs.lemmas.List.{same_lists, get_or_default}
use Rattle.mh_grammar.specs.declared.types.Symbol.{Symbol}
use Rattle.mh_grammar.specs.declared.types.Grammar.{Grammar}
use Rattle.mh_grammar.specs.declared.edges.Edge.{Edge}
use Rattle.mh_items_kernels.specs.KernelTypes.{Kernel, Automaton}
use Rattle.mh_items_kernels.specs.Automaton.{no_kernel}
use Rattle.mh_tables_core.specs.declared.parts.StateParts.{StateParts}
use Rattle.mh_tabfile_form.specs.declared.types.RawEdge.{RawEdge}
use Rattle.mh_tabfile_form.specs.declared.types.RawTable.{RawTable}
use Rattle.mh_tabfile_form.specs.TableContent.{raw_edge}
use Rattle.mh_validate_valid.specs.declared.reason.Reason.{Reason}
use Rattle.mh_validate_valid.specs.declared.reason.Reason.TheVariants as reasons
use Rattle.mh_validate_valid.specs.Valid.{AreTokenNamesDistinct, AreKernels, HasEdges, IsRightState, HasWrongCells, IsValid, IsInvalidAt, IsValidFor}
use Rattle.mh_validate_valid.proofs.KernelUnique.{kernel_unique}
use Rattle.mh_validate_valid.proofs.EdgeLists.{on_symbol, has_symbol, same_symbols, rows_same}
use Rattle.mh_items_kernels.specs.Collection.{edge_symbols, targets_of}
use Rattle.mh_tables_core.specs.Table.{no_state}
use Rattle.mh_resolve_cells.proofs.OneResolution.{resolved_once}

-- Two lists of kernels that the states of a file spell are equal.
pub same_kernels : (g : Grammar) → AreTokenNamesDistinct g → (raw : RawTable) (ks ls : List Kernel) → AreKernels g raw ks → AreKernels g raw ls → ks ≡ ls
same_kernels g n raw ks ls h k = same_lists ks ls (h.count ∙ sym k.count) (λ s d lt.
    let inside : s < length raw.states = (let c = h.count in omega (arith, c, lt)) in
    let other : s < length ls = (let c = k.count in omega (arith, c, inside)) in
    let one : slice_index_or ks s no_kernel ≡ slice_index_or ls s no_kernel = kernel_unique g n raw s (slice_index_or ks s no_kernel) (slice_index_or ls s no_kernel) (h.each s inside) (k.each s inside) in
    get_or_default ks s d no_kernel lt ∙ one ∙ sym (get_or_default ls s d no_kernel other))

abbrev raw_targets : List RawEdge → List ℕ
raw_targets raws = map (λ (e : RawEdge). e.target) raws

raw_targets-of_edges : (g : Grammar) (es : List Edge) → raw_targets (map (raw_edge g) es) ≡ targets_of es
raw_targets-of_edges g [] = refl
raw_targets-of_edges g (e ∷ es) = ap (λ ts. e.target ∷ ts) (raw_targets-of_edges g es)

-- Two right lists of edges of one state are equal.
pub same_edges : (g : Grammar) (raw : RawTable) (ks : List Kernel) (s : ℕ) (es fs : List Edge) → HasEdges g raw ks s es → HasEdges g raw ks s fs → es ≡ fs
same_edges g raw ks s es fs h k =
    let on : edge_symbols es ≡ edge_symbols fs = same_symbols es fs h.are_edges.order k.are_edges.order (moved es fs h k) (moved fs es k h) in
    let to : targets_of es ≡ targets_of fs = sym (raw_targets-of_edges g es) ∙ ap raw_targets (sym h.spelled ∙ k.spelled) ∙ raw_targets-of_edges g fs in
    rows_same es fs on to
  where
    moved : (xs ys : List Edge) → HasEdges g raw ks s xs → HasEdges g raw ks s ys → (x : Symbol) → Contains (edge_symbols xs) x → Contains (edge_symbols ys) x
    moved xs ys i j x c =
        let (u, at) = on_symbol xs i.are_edges.order x c in
        let (m, t) = i.are_edges.target x u at in
        let (v, there) = j.are_edges.edge x m in
        has_symbol ys x v there

-- The edges and the actions of each state of a valid file are right, so no reason of invalidity applies.
pub right_at : (g : Grammar) (n : AreTokenNamesDistinct g) (raw : RawTable) (a : Automaton) (parts : List StateParts) → IsValidFor g raw a parts → (ks : List Kernel) → AreKernels g raw ks → (s : ℕ) → s < length raw.states → IsRightState g raw ks s (slice_index_or a.edges s []) (slice_index_or parts s no_state)
right_at g n raw a parts v ks are s known = let same = same_kernels g n raw a.kernels ks v.kernels are in rw (← same) (v.each_state s known)

pub never_wrong : (g : Grammar) (raw : RawTable) (ks : List Kernel) (s : ℕ) (edges : List Edge) (parts : StateParts) (reason : Reason) → IsRightState g raw ks s edges parts → HasWrongCells g raw ks s reason → ⊥
never_wrong g raw ks s edges parts reason r w =
    let same : w.edges ≡ edges = same_edges g raw ks s w.edges edges w.has_edges r.has_edges in
    let resolved = rw same at w.resolved in
    let one : w.parts ≡ parts = resolved_once raw.mode _ _ w.parts parts resolved r.resolved in
    w.differ (rw one r.has_cells)

pub valid_not_invalid : (g : Grammar) → AreTokenNamesDistinct g → (raw : RawTable) (state : Option ℕ) (reason : Reason) → IsValid g raw → IsInvalidAt g raw state reason → ⊥
valid_not_invalid g n raw None reasons.Header (a, parts, v) i = i v.header
valid_not_invalid g n raw None reasons.States (a, parts, v) i = i.1 v.states
valid_not_invalid g n raw None reasons.Kernel v i = i
valid_not_invalid g n raw None reasons.Edge v i = i
valid_not_invalid g n raw None reasons.Cell v i = i
valid_not_invalid g n raw None reasons.Fallback v i = i
valid_not_invalid g n raw (Some s) reasons.Header v i = i
valid_not_invalid g n raw (Some s) reasons.States v i = i
valid_not_invalid g n raw (Some s) reasons.Kernel (a, parts, v) i = i.none (slice_index_or a.kernels s no_kernel) (v.kernels.each s i.known)
valid_not_invalid g n raw (Some s) reasons.Edge (a, parts, v) (h, none) = none (slice_index_or a.edges s []) (right_at g n raw a parts v h.kernels h.are_kernels s h.known).has_edges
valid_not_invalid g n raw (Some s) reasons.Cell (a, parts, v) (h, w) = never_wrong g raw h.kernels s (slice_index_or a.edges s []) (slice_index_or parts s no_state) reasons.Cell (right_at g n raw a parts v h.kernels h.are_kernels s h.known) w
valid_not_invalid g n raw (Some s) reasons.Fallback (a, parts, v) (h, w) = never_wrong g raw h.kernels s (slice_index_or a.edges s []) (slice_index_or parts s no_state) reasons.Fallback (right_at g n raw a parts v h.kernels h.are_kernels s h.known) w
