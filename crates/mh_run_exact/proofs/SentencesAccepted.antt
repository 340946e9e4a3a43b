-- Proves that on a table without conflicts each sentence is accepted: the run on a word of a symbol ends in the target
-- of the edge on the symbol.
use Rattle.std.proofs.Common.{◌≡◌, ℕ, suc, ◌+◌, ◌-◌, ◌<◌, List, [], ◌∷◌, ◌++◌, length, drop, get_or, Some, refl, ap, sym, subst, arith, ◌∙◌, length-append, append_assoc, append-nil, lt-ltb}
use Rattle.std.proofs.Math.Seq.{get_or-append_seam, take-append_seam}
use Rattle.mh_grammar.specs.declared.types.Symbol.{Symbol}
use Rattle.mh_grammar.specs.declared.types.Symbol.TheVariants.{T, N}
use Rattle.mh_grammar.specs.declared.types.Look.{Look}
use Rattle.mh_grammar.specs.declared.types.Look.TheVariants.{End}
use Rattle.mh_grammar.specs.Derivations as trees
use Rattle.mh_grammar.specs.Plain.{rhs_of, lhs_of, IsToken, Produces, Derives, DerivesAll, IsSentence}
use Rattle.mh_grammar.specs.ItemSets.{MayBegin, passes, given, added, moved}
use Rattle.mh_items_kernels.specs.KernelTypes.{Automaton}
use Rattle.mh_items_kernels.specs.Automaton.{kernel_of, closure_of, leads_to}
use Rattle.mh_resolve_cells.proofs.ClosureItems.{closure_within}
use Rattle.mh_tables_core.specs.Table.{TableData, edge_of}
use Rattle.mh_tables_core.specs.Run.{Config, Accepts, Shifts, Reduces, run_move_of, top_of, reduce, initial, step, after, next_of, Goes, Accepted, VerdictOf}
use Rattle.mh_tables_core.proofs.Reductions.{after-add, reduction_is, step_reduces}
use Rattle.mh_tables_core.proofs.RunEnds.{step_moves}
use Rattle.mh_grammar.proofs.ProductionNumbers.{rhs_of-start}
use Rattle.mh_run_exact.proofs.RawActions.{MakesRawActions, look_of, may_begin}
use Rattle.mh_run_exact.proofs.TableEdges.{HasEdgesOf, start_item}
use Rattle.mh_items_kernels.proofs.SymbolAtDot.{drop_tail}

abbrev here : List ℕ → ℕ → List ℕ → Config
here stack read left = record { stack = stack; read = read; left = left }

top-push : (stack : List ℕ) (u : ℕ) → top_of (stack ++ u ∷ []) ≡ u
top-push stack u = rw length-append (let e : length stack + 1 - 1 ≡ length stack = omega arith in rw e (get_or-append_seam stack u [] 0))

-- A reduction replaces the states of its right side, if they are the last part of the stack, by the target of the goto
-- edge.
reduce-append : (t : TableData) (p : ℕ) (stack path : List ℕ) (g : ℕ) → 0 < length stack → length path ≡ length (rhs_of t.grammar p) → edge_of t (top_of stack) (N (lhs_of t.grammar p)) ≡ Some g → reduce t p (stack ++ path) ≡ Some (stack ++ g ∷ [])
unfolding reduce
reduce-append t p stack path g pos len e =
    let l = length-append stack path in
    let kept : length (stack ++ path) - length (rhs_of t.grammar p) ≡ length stack = omega arith in
    rw (lt-ltb (length (rhs_of t.grammar p)) (length (stack ++ path)) (omega arith), kept, take-append_seam stack path, e) refl

same_place : {a b : List ℕ} {m n : ℕ} → a ≡ b → m ≡ n → (left : List ℕ) → here a m left ≡ here b n left
same_place e f left = λ i. here (e i) (f i) left

module _ (t : TableData) (a : Automaton) (is : HasEdgesOf t a) (clear : (s : ℕ) → s < length a.kernels → MakesRawActions t.grammar t a s) where
  -- The run reads the word u of the symbol X, and pushes the target of the edge on X.
  record ReadsWord (stack : List ℕ) (read : ℕ) (left u : List ℕ) (X : Symbol) : Type 0 where
    target : ℕ
    leads : leads_to a (top_of stack) X ≡ Some target
    steps : ℕ
    run : after t steps (here stack read (u ++ left)) ≡ here (stack ++ target ∷ []) (read + length u) left

  -- The run reads the word u of the symbols Xs after the dot of an item, and pushes a path of states for them.
  record ReadsWords (stack : List ℕ) (read : ℕ) (left u : List ℕ) (Xs : List Symbol) (q d : ℕ) : Type 0 where
    path : List ℕ
    len : length path ≡ length Xs
    complete : closure_of t.grammar a (top_of (stack ++ path)) q (d + length Xs) (look_of left)
    steps : ℕ
    run : after t steps (here stack read (u ++ left)) ≡ here (stack ++ path) (read + length u) left

  -- There is an edge on the symbol after the dot of an item.
  leads_on_symbol : (s p d : ℕ) (l : Look) (X : Symbol) (y : List Symbol) → closure_of t.grammar a s p d l → drop d (rhs_of t.grammar p) ≡ X ∷ y → (u : ℕ) × (leads_to a s X ≡ Some u)
  leads_on_symbol s p d l X y c e = is.automaton.edge s X (closure_within t.grammar a s p d l c) (record { production = p; dot = suc d; look = l; moves = moved c e })

  arrives : (s p d : ℕ) (l : Look) (X : Symbol) (y : List Symbol) (u : ℕ) → leads_to a s X ≡ Some u → closure_of t.grammar a s p d l → drop d (rhs_of t.grammar p) ≡ X ∷ y → kernel_of a u p (suc d) l
  arrives s p d l X y u leads c e = (is.automaton.target s X u leads).1.looks p (suc d) l (moved c e)

  raw_actions_at : (s p d : ℕ) (l : Look) → closure_of t.grammar a s p d l → MakesRawActions t.grammar t a s
  raw_actions_at s p d l c = clear s (closure_within t.grammar a s p d l c)

  leaf_passes : (X : Symbol) (z : ℕ) → IsToken X z → (stack : List ℕ) (read : ℕ) (left : List ℕ) (p d : ℕ) (l : Look) (y : List Symbol) → closure_of t.grammar a (top_of stack) p d l → drop d (rhs_of t.grammar p) ≡ X ∷ y → ReadsWord stack read left (z ∷ []) X
  leaf_passes (N n) z i stack read left p d l y c e = absurd i
  leaf_passes (T b) z i stack read left p d l y c e =
      let go = leads_on_symbol (top_of stack) p d l (T b) y c e in
      let move : run_move_of t (top_of stack) (z ∷ left) ≡ Shifts go.0 = (raw_actions_at (top_of stack) p d l c).shifts z go.0 left (subst (λ (k : ℕ). leads_to a (top_of stack) (T k) ≡ Some go.0) i go.1) in
      record {
        target = go.0;
        leads = go.1;
        steps = 1;
        run = rw (step_moves t (here stack read (z ∷ left)) (Shifts go.0) move) refl;
      }

  node_passes : (X : Symbol) (rhs : List Symbol) (w : List ℕ) → Produces t.grammar X rhs
      → ((stack : List ℕ) (read : ℕ) (left : List ℕ) (q d : ℕ) → 0 < length stack → closure_of t.grammar a (top_of stack) q d (look_of left) → drop d (rhs_of t.grammar q) ≡ rhs → ReadsWords stack read left w rhs q d)
      → (stack : List ℕ) (read : ℕ) (left : List ℕ) (p d : ℕ) (l : Look) (y : List Symbol) → 0 < length stack → closure_of t.grammar a (top_of stack) p d l → drop d (rhs_of t.grammar p) ≡ X ∷ y → MayBegin t.grammar y l (look_of left) → ReadsWord stack read left w X
  node_passes (T b) rhs w i all stack read left p d l y pos c e b' = absurd i
  node_passes (N n) rhs w (q, i, s) all stack read left p d l y pos c e b =
      let f = all stack read left q 0 pos (added c e i b) s in
      let go = leads_on_symbol (top_of stack) p d l (N n) y c e in
      let whole : 0 + length rhs ≡ length (rhs_of t.grammar q) = (let z : 0 + length rhs ≡ length rhs = omega arith in z) ∙ ap length (sym s) in
      let done : closure_of t.grammar a (top_of (stack ++ f.path)) q (length (rhs_of t.grammar q)) (look_of left) = rw whole at f.complete in
      let move : run_move_of t (top_of (stack ++ f.path)) left ≡ Reduces q =
      (raw_actions_at (top_of (stack ++ f.path)) q (length (rhs_of t.grammar q)) (look_of left) done).reduces q left i.ordinary done in
      let made : reduce t q (stack ++ f.path) ≡ Some (stack ++ go.0 ∷ []) =
      reduce-append t q stack f.path go.0 pos (f.len ∙ ap length (sym s)) (is.edges (top_of stack) (N (lhs_of t.grammar q)) ∙ ap (λ (k : ℕ). leads_to a (top_of stack) (N k)) i.lhs ∙ go.1) in
      let last : step t (here (stack ++ f.path) (read + length w) left) ≡ Goes (here (stack ++ go.0 ∷ []) (read + length w) left) =
      step_reduces t (here (stack ++ f.path) (read + length w) left) (stack ++ go.0 ∷ []) (reduction_is t left (stack ++ f.path) (stack ++ go.0 ∷ []) q move made) in
      record {
        target = go.0;
        leads = go.1;
        steps = f.steps + 1;
        run = after-add t f.steps 1 (here stack read (w ++ left)) ∙ ap (after t 1) f.run ∙ ap (next_of (here (stack ++ f.path) (read + length w) left)) last;
      }

  more_passes : (X : Symbol) (Xs : List Symbol) (u v w : List ℕ) → w ≡ u ++ v → DerivesAll t.grammar Xs v
      → ((stack : List ℕ) (read : ℕ) (left : List ℕ) (p d : ℕ) (l : Look) (y : List Symbol) → 0 < length stack → closure_of t.grammar a (top_of stack) p d l → drop d (rhs_of t.grammar p) ≡ X ∷ y → MayBegin t.grammar y l (look_of left) → ReadsWord stack read left u X)
      → ((stack : List ℕ) (read : ℕ) (left : List ℕ) (q d : ℕ) → 0 < length stack → closure_of t.grammar a (top_of stack) q d (look_of left) → drop d (rhs_of t.grammar q) ≡ Xs → ReadsWords stack read left v Xs q d)
      → (stack : List ℕ) (read : ℕ) (left : List ℕ) (q d : ℕ) → 0 < length stack → closure_of t.grammar a (top_of stack) q d (look_of left) → drop d (rhs_of t.grammar q) ≡ X ∷ Xs → ReadsWords stack read left w (X ∷ Xs) q d
  more_passes X Xs u v w s f one rest stack read left q d pos c e =
      let x = one stack read (v ++ left) q d (look_of left) Xs pos c e (may_begin t.grammar Xs v left f) in
      let there : kernel_of a x.target q (suc d) (look_of left) = arrives (top_of stack) q d (look_of left) X Xs x.target x.leads c e in
      let on : closure_of t.grammar a (top_of (stack ++ x.target ∷ [])) q (suc d) (look_of left) = rw (top-push stack x.target) (given there) in
      let b = rest (stack ++ x.target ∷ []) (read + length u) left q (suc d) (rw length-append (omega arith)) on (drop_tail (rhs_of t.grammar q) d X Xs e) in
      let path : (stack ++ x.target ∷ []) ++ b.path ≡ stack ++ x.target ∷ b.path = append_assoc stack (x.target ∷ []) b.path in
      let dot : suc d + length Xs ≡ d + length (X ∷ Xs) = omega arith in
      let count_read : read + length u + length v ≡ read + length w = let l = length-append u v in let k = ap length s in omega arith in
      record {
        path = x.target ∷ b.path;
        len = ap suc b.len;
        complete = rw (path, dot) at b.complete;
        steps = x.steps + b.steps;
        run =
            ap (λ (l : List ℕ). after t (x.steps + b.steps) (here stack read l)) (ap (λ (l : List ℕ). l ++ left) s ∙ append_assoc u v left)
            ∙ after-add t x.steps b.steps (here stack read (u ++ (v ++ left))) ∙ ap (after t b.steps) x.run ∙ b.run ∙ same_place path count_read left;
      }

  mutual
    tree_passes : {X : Symbol} {u : List ℕ} → Derives t.grammar X u → (stack : List ℕ) (read : ℕ) (left : List ℕ) (p d : ℕ) (l : Look) (y : List Symbol) → 0 < length stack → closure_of t.grammar a (top_of stack) p d l → drop d (rhs_of t.grammar p) ≡ X ∷ y → MayBegin t.grammar y l (look_of left) → ReadsWord stack read left u X
    tree_passes (trees.Derivation.leaf {X} {a = z} i) stack read left p d l y pos c e b = leaf_passes X z i stack read left p d l y c e
    tree_passes (trees.Derivation.node {X} {rhs} {w} i f) stack read left p d l y pos c e b = node_passes X rhs w i (λ stack' read' left' q' d' pos' c' e'. forest_passes f stack' read' left' q' d' pos' c' e') stack read left p d l y pos c e b

    forest_passes : {Xs : List Symbol} {u : List ℕ} → DerivesAll t.grammar Xs u → (stack : List ℕ) (read : ℕ) (left : List ℕ) (q d : ℕ) → 0 < length stack → closure_of t.grammar a (top_of stack) q d (look_of left) → drop d (rhs_of t.grammar q) ≡ Xs → ReadsWords stack read left u Xs q d
    forest_passes trees.Derivations.none stack read left q d pos c e =
        let none : stack ≡ stack ++ [] = sym (append-nil stack) in
        let dot : d ≡ d + 0 = omega arith in
        let same : read ≡ read + 0 = omega arith in
        record {
          path = [];
          len = refl;
          complete = rw (none, dot) at c;
          steps = 0;
          run = same_place none same left;
        }
    forest_passes (trees.Derivations.more {X} {Xs} {u} {v} {w} s tree rest) stack read left q d pos c e =
        more_passes X Xs u v w s rest (λ stack' read' left' p' d' l' y' pos' c' e' b'. tree_passes tree stack' read' left' p' d' l' y' pos' c' e' b') (λ stack' read' left' q' d' pos' c' e'. forest_passes rest stack' read' left' q' d' pos' c' e') stack read left q d pos c e

  -- Each sentence is accepted.
  pub sentence_accepted : (start : ℕ) (w : List ℕ) → start < length t.grammar.starts → IsSentence t.grammar start w → VerdictOf t start w (Accepted (length w))
  sentence_accepted start w lt tree =
      let first : closure_of t.grammar a start start 0 End = given (start_item t.grammar a is.automaton start lt) in
      let x = tree_passes tree (start ∷ []) 0 [] start 0 End [] (omega arith) first (rhs_of-start t.grammar start lt) (passes trees.Derivations.none) in
      let there : kernel_of a x.target start 1 End = arrives start start 0 End (N (get_or t.grammar.starts start 0)) [] x.target x.leads first (rhs_of-start t.grammar start lt) in
      let done : closure_of t.grammar a x.target start (length (rhs_of t.grammar start)) End = rw (rhs_of-start t.grammar start lt) (given there) in
      let move : run_move_of t x.target [] ≡ Accepts = (raw_actions_at x.target start (length (rhs_of t.grammar start)) End done).accepts start [] lt done in
      let place : 0 + length w ≡ length w = omega arith in
      let run : after t x.steps (initial start w) ≡ here (start ∷ x.target ∷ []) (length w) [] =
      ap (λ (l : List ℕ). after t x.steps (here (start ∷ []) 0 l)) (sym (append-nil w)) ∙ x.run ∙ same_place refl place [] in
      (x.steps, ap (step t) run ∙ step_moves t (here (start ∷ x.target ∷ []) (length w) []) Accepts move)
