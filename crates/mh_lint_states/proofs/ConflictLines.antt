-- The lines of the productions that no state reduces, one by one, and with them the lines of conflicts.
use Rattle.std.proofs.Common.{◌≡◌, ℕ, zero, suc, ◌+◌, ◌<◌, ◌≤◌, Bool, true, false, List, [], ◌∷◌, ◌++◌, flat_map, get_or, length, map, take, refl, sym, ap, ◌∙◌, arith, append_assoc}
use Rattle.std.specs.List.{enumerate_from}
use Rattle.std.proofs.lemmas.Grind.{flat_map-append}
use Rattle.std.proofs.lemmas.List.{append-nil, take_all}
use Rattle.mh_grammar.proofs.Lists.{take_step}
use Rattle.mh_grammar.specs.declared.types.Grammar.{Grammar}
use Rattle.mh_grammar.specs.declared.types.Production.{Production}
use Rattle.mh_items_kernels.specs.KernelTypes.{Automaton}
use Rattle.mh_resolve_cells.specs.declared.conflicts.Conflict.{Conflict}
use Rattle.mh_tables_core.specs.Table.{TableData}
use Rattle.mh_lint_findings.specs.Lines.{Line, lines_of}
use Rattle.mh_lint_findings.specs.code.AppendedLines.{AppendsLines}
use Rattle.mh_lint_findings.specs.declared.findings.Finding.{Finding}
use Rattle.mh_lint_findings.specs.LinesInOrder.{AreInOrder}
use Rattle.mh_lint_findings.specs.LinesInOrder as order
use Rattle.mh_lint_states.specs.AutomatonLines.{AreAutomatonLines, AreConflictLines, AreProductionLines, ordinary}
use Rattle.mh_lint_states.specs.AutomatonLines as lines
use Rattle.mh_lint_states.specs.Reductions.{IsReduced}
use Rattle.mh_lint_states.specs.code.Marks.{AreMarked}
use Rattle.mh_lint_states.specs.code.UnreducedLines.{line_unless, unreduced_line}

-- By flags of the productions that some state reduces, these are the lines of a production.
production_lines : (g : Grammar) (t : TableData) (flags : List Bool) (p : ℕ) (b : Bool) → b ≡ get_or flags p false → AreMarked (IsReduced t) flags → AreProductionLines g t p (line_unless b g p)
production_lines g t flags p true e marked = lines.AreProductionLines.reduced ((marked p).0 (sym e))
production_lines g t flags p false e marked = lines.AreProductionLines.never_reduced (λ r. (let set = (marked p).1 r in absurd cc))

-- The lines of a list of productions are in order.
pub productions_in_order : (g : Grammar) (t : TableData) (flags : List Bool) (ps : List ℕ) → AreMarked (IsReduced t) flags → AreInOrder (AreProductionLines g t) ps (flat_map (unreduced_line g flags) ps)
productions_in_order g t flags [] marked = order.AreInOrder.none
productions_in_order g t flags (p ∷ ps) marked = order.AreInOrder.more (production_lines g t flags p (get_or flags p false) refl marked) (productions_in_order g t flags ps marked) refl

-- ---- The ordinary productions, one by one.

numbers_count : (n : ℕ) (ps : List Production) → length (map (λ (e : ℕ × Production). e.0) (enumerate_from n ps)) ≡ length ps
numbers_count n [] = refl
numbers_count n (p ∷ ps) = ap suc (numbers_count (n + 1) ps)

number_at : (n : ℕ) (ps : List Production) (i d : ℕ) → i < length ps → get_or (map (λ (e : ℕ × Production). e.0) (enumerate_from n ps)) i d ≡ n + i
number_at n [] i d l = absurd (omega (arith, l))
number_at n (p ∷ ps) zero d l = omega arith
number_at n (p ∷ ps) (suc i) d l = number_at (n + 1) ps i d (omega (arith, l)) ∙ omega arith

module _ (g : Grammar) (flags : List Bool) (base : List Line) where
  pub productions_none : base ≡ base ++ flat_map (unreduced_line g flags) (take 0 (ordinary g))
  productions_none = sym (append-nil base)

  pub productions_more : (i : ℕ) (mid new : List Line) → i < length g.productions → mid ≡ base ++ flat_map (unreduced_line g flags) (take i (ordinary g)) → new ≡ mid ++ unreduced_line g flags (length g.starts + i) → new ≡ base ++ flat_map (unreduced_line g flags) (take (i + 1) (ordinary g))
  productions_more i mid new within before is =
      let f = unreduced_line g flags in
      let here : List Line = f (length g.starts + i) in
      let first : List Line = flat_map f (take i (ordinary g)) in
      let count = numbers_count (length g.starts) g.productions in
      let step : take (i + 1) (ordinary g) ≡ take i (ordinary g) ++ (length g.starts + i) ∷ [] = take_step (ordinary g) i (length g.starts + i) (omega (arith, count, within)) (sym (number_at (length g.starts) g.productions i (length g.starts + i) within)) in
      let lines : flat_map f (take (i + 1) (ordinary g)) ≡ first ++ here =
      ap (flat_map f) step ∙ flat_map-append f (take i (ordinary g)) ((length g.starts + i) ∷ []) ∙ ap (λ xs. first ++ xs) (append-nil here) in
      is ∙ ap (λ xs. xs ++ here) before ∙ append_assoc base first here ∙ ap (λ xs. base ++ xs) (sym lines)

  pub productions_all : (n : ℕ) (new : List Line) → length g.productions ≤ n → new ≡ base ++ flat_map (unreduced_line g flags) (take n (ordinary g)) → new ≡ base ++ flat_map (unreduced_line g flags) (ordinary g)
  productions_all n new all is =
      let count = numbers_count (length g.starts) g.productions in
      is ∙ ap (λ ps. base ++ flat_map (unreduced_line g flags) ps) (take_all n (ordinary g) (omega (arith, count, all)))

-- ---- All lines.

pub automaton_appended : (g : Grammar) (a : Automaton) (t : TableData) (conflicts : List Conflict) (flags : List Bool) (old mid new : List Finding) → AreMarked (IsReduced t) flags → lines_of mid ≡ lines_of old ++ flat_map (unreduced_line g flags) (ordinary g) → AppendsLines (AreInOrder (AreConflictLines g a) conflicts) mid new → AppendsLines (AreAutomatonLines g a t conflicts) old new
automaton_appended g a t conflicts flags old mid new marked productions others =
    let unreduced : List Line = flat_map (unreduced_line g flags) (ordinary g) in
    record {
      lines = unreduced ++ others.lines;
      are = record { unreduced = unreduced; of_conflicts = others.lines; are_unreduced = productions_in_order g t flags (ordinary g) marked; are_conflicts = others.are; is = refl };
      is = others.is ∙ ap (λ xs. xs ++ others.lines) productions ∙ append_assoc (lines_of old) unreduced others.lines;
    }
