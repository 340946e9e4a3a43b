-- Proves the soundness of tables, and their completeness if there are no conflicts.
use Rattle.std.proofs.Common.{◌≡◌, ℕ, ◌<◌, ◌≤◌, ◌⊎◌, List, [], ◌∷◌, length, get_or, Option, Some, None, refl, ap, sym, ◌∙◌, arith, inl, inr}
use Rattle.std.proofs.lemmas.Bool.{cases_eq, cases_lt}
use Rattle.std.proofs.lemmas.List.{get_or_past}
use Rattle.mh_grammar.specs.declared.types.Grammar.{Grammar}
use Rattle.mh_grammar.specs.declared.types.Symbol.TheVariants.{T}
use Rattle.mh_grammar.specs.declared.types.Look.{Look}
use Rattle.mh_grammar.specs.declared.types.Look.TheVariants.{Token, End}
use Rattle.mh_grammar.specs.Plain.{plain_of, rhs_of}
use Rattle.mh_grammar.specs.Edges.{find_edge}
use Rattle.mh_items_kernels.specs.KernelTypes.{Kernel}
use Rattle.mh_items_kernels.specs.KernelTypes.{Automaton}
use Rattle.mh_items_kernels.specs.Automaton.{IsAutomaton, kernel_at}
use Rattle.mh_tables_core.specs.declared.parts.Action.{Action}
use Rattle.mh_tables_core.specs.declared.parts.Action.TheVariants.{Shift, Reduce, Refuse}
use Rattle.mh_tables_core.specs.declared.parts.Fallback.{Fallback}
use Rattle.mh_tables_core.specs.declared.parts.Fallback.TheVariants as fallbacks
use Rattle.mh_tables_core.specs.declared.parts.StateParts.{StateParts}
use Rattle.mh_tables_core.specs.Table.{no_state}
use Rattle.mh_resolve_cells.specs.declared.kinds.Mode.{Mode}
use Rattle.mh_resolve_cells.specs.declared.kinds.ConflictKind.{ConflictKind}
use Rattle.mh_resolve_cells.specs.declared.kinds.ConflictKind.TheVariants.{Solved, Unsolved, Stream}
use Rattle.mh_resolve_cells.specs.declared.conflicts.Conflict.{Conflict}
use Rattle.mh_resolve_cells.specs.Cells.{IsConflict}
use Rattle.mh_resolve_cells.specs.Conflicts.{AreConflicts, IsConflictOf}
use Rattle.mh_resolve_cells.specs.States.{State, state_of, Raw, IsHoleOn, IsKeptOn, HasDefault, HasConflictOn, IsFallback, IsCell, IsResolved, AreResolved}
use Rattle.mh_resolve_cells.specs.NoConflicts.{IsConflictFreeState, HasNoConflicts, IsCompleteIn, IsDefaultOf, cell_at, ActsSoundly, ActsCompletely}
use Rattle.mh_resolve_cells.proofs.ClosureItems.{closure_is_item}
use Rattle.mh_resolve_cells.proofs.ConflictList.{unsolved_conflict}
use Rattle.mh_grammar.proofs.Lists.{contains_at}
use Rattle.mh_resolve_cells.proofs.OneResolution.{raw_is_chosen}
use Rattle.mh_resolve_cells.proofs.IsResolved.{chosen_unique, chosen_is_raw, chosen_remains}
use Rattle.mh_resolve_cells.proofs.TableFacts.{named_ordinary}

-- An action that is kept is raw.
pub kept_raw : (s : State) (look : Look) (a : Action) → IsKeptOn s look a → Raw s look a
kept_raw s (Token z) a k = chosen_is_raw s (Token z) a k
kept_raw s End a k = chosen_is_raw s End a k.0

raw_kept : (s : State) → IsConflictFreeState s → (look : Look) (a : Action) → Raw s look a → IsKeptOn s look a
raw_kept s clear (Token z) a r = raw_is_chosen s (Token z) (clear.no_conflict (Token z)) a r
raw_kept s clear End a r = (raw_is_chosen s End (clear.no_conflict End) a r, clear.no_stream_conflict)

no_hole : (s : State) → IsConflictFreeState s → (look : Look) → IsHoleOn s look → ⊥
no_hole s clear look h = h.none_remains h.action (chosen_remains s look h.action (raw_is_chosen s look (clear.no_conflict look) h.action h.raw))

same_action : (a b : Action) → (a ≡ b) ⊎ (a ≡ b → ⊥)
same_action (Shift i) (Shift j) = elim (cases_eq i j) [ inl e ↦ inl (ap Shift e) | inr n ↦ inr (λ e. n (let same : i ≡ j = cc in same)) ]
same_action (Shift i) (Reduce q) = inr (λ e. cc)
same_action (Shift i) Refuse = inr (λ e. cc)
same_action (Reduce p) (Shift j) = inr (λ e. cc)
same_action (Reduce p) (Reduce q) = elim (cases_eq p q) [ inl e ↦ inl (ap Reduce e) | inr n ↦ inr (λ e. n (let same : p ≡ q = cc in same)) ]
same_action (Reduce p) Refuse = inr (λ e. cc)
same_action Refuse (Shift j) = inr (λ e. cc)
same_action Refuse (Reduce q) = inr (λ e. cc)
same_action Refuse Refuse = inl refl

-- Without conflicts, two raw actions on one look are equal, and a raw action at the end of the stream equals that on
-- each token.
raw_same : (s : State) → IsConflictFreeState s → (look : Look) (a b : Action) → Raw s look a → Raw s look b → a ≡ b
raw_same s clear look a b r q = chosen_unique s look a b (raw_is_chosen s look (clear.no_conflict look) a r) (raw_is_chosen s look (clear.no_conflict look) b q)

as_at_end : (s : State) → IsConflictFreeState s → (end : Action) → Raw s End end → (look : Look) (a : Action) → Raw s look a → a ≡ end
as_at_end s clear end r End a q = raw_same s clear End a end q r
as_at_end s clear end r (Token z) a q =
    elim (same_action a end) [
      | inl e ↦ e
      | inr n ↦ absurd (clear.no_stream_conflict (record {
        last = end;
        token = z;
        other = a;
        takes_last = raw_is_chosen s End (clear.no_conflict End) end r;
        takes_other = raw_is_chosen s (Token z) (clear.no_conflict (Token z)) a q;
        differ = λ e. n (sym e);
      }))
    ]

-- Without conflicts, the action at the end of the stream is the default.
end_default : (s : State) → IsConflictFreeState s → (mode : Mode) (p : ℕ) → Raw s End (Reduce p) → HasDefault mode s p
end_default s clear mode p r = record {
  look = End;
  some = raw_kept s clear End (Reduce p) r;
  all = λ l a k. as_at_end s clear (Reduce p) r l a (kept_raw s l a k);
  no_hole = no_hole s clear;
  canonical = λ e. raw_kept s clear End (Reduce p) r;
}

-- A state with a default reduces a production by it.
default_of : (mode : Mode) (s : State) (f : Fallback) → IsFallback mode s (Some f) → (p : ℕ) × HasDefault mode s p × IsDefaultOf (length s.grammar.starts) f (Reduce p)
default_of mode s fallbacks.Accept h = (h.0, h.2, h.1)
default_of mode s (fallbacks.Reduce p) h = (p, h.1, (h.0, refl))

fallback_clear : (mode : Mode) (s : State) → IsConflictFreeState s → (f : Option Fallback) → IsFallback mode s f → (a : Action) → Raw s End a → (g : Fallback) × (f ≡ Some g)
fallback_clear mode s clear (Some f) h a r = (f, refl)
fallback_clear mode s clear None h (Reduce p) r = absurd (h p (end_default s clear mode p r))
fallback_clear mode s clear None h (Shift j) r = absurd (let e : None ≡ Some j = r in cc)
fallback_clear mode s clear None h Refuse r = absurd r

cell_clear : (mode : Mode) (s : State) → IsConflictFreeState s → (z : ℕ) (cell a : Action) → IsCell mode s z cell → Raw s (Token z) a → cell ≡ a
cell_clear mode s clear z cell a (inl (inl t)) r = chosen_unique s (Token z) cell a t (raw_is_chosen s (Token z) (clear.no_conflict (Token z)) a r)
cell_clear mode s clear z cell a (inl (inr f)) r = absurd (f.0 a r)
cell_clear mode s clear z cell a (inr n) r = absurd (n.1 a (inl (raw_is_chosen s (Token z) (clear.no_conflict (Token z)) a r)))

-- Without conflicts, a state takes each raw action.
pub acts_if_conflict_free : (mode : Mode) (s : State) (kernel : Kernel) (parts : StateParts) → IsResolved mode s kernel parts → IsConflictFreeState s → ActsCompletely s parts
acts_if_conflict_free mode s kernel parts is clear = record {
  cells = λ none z a lt r. cell_clear mode s clear z (cell_at parts z) a (is.cells z lt) r;
  default = λ f e look a r. (
      let d = default_of mode s f (rw e at is.fallback) in
      let same : a ≡ Reduce d.0 = d.1.all look a (raw_kept s clear look a r) in
      rw same d.2);
  at_end = λ a r. fallback_clear mode s clear parts.fallback is.fallback a r;
}

cell_within : (parts : StateParts) (n z : ℕ) → length parts.cells ≡ n → (cell_at parts z ≡ Refuse → ⊥) → z < n
cell_within parts n z e some =
    elim (cases_lt z n) [
      | inl lt ↦ lt
      | inr ge ↦ absurd (some (get_or_past parts.cells z Refuse (omega arith)))
    ]

shifts_by : (mode : Mode) (s : State) (z j : ℕ) (cell : Action) → IsCell mode s z cell → cell ≡ Shift j → find_edge s.edges (T z) ≡ Some j
shifts_by mode s z j cell (inl (inl t)) e = let u = rw e at t in u.0
shifts_by mode s z j cell (inl (inr f)) e = absurd (let no : Shift j ≡ Reduce f.2 = sym e ∙ f.3 in cc)
shifts_by mode s z j cell (inr n) e = absurd (let no : Shift j ≡ Refuse = sym e ∙ n.0 in cc)

reduces_by : (mode : Mode) (s : State) → ((z p : ℕ) → Raw s (Token z) (Reduce p) → length s.grammar.starts ≤ p) → (z p : ℕ) (cell : Action) → IsCell mode s z cell → cell ≡ Reduce p → (length s.grammar.starts ≤ p) × IsCompleteIn s p
reduces_by mode s ordinary z p cell (inl (inl t)) e = let u = rw e at t in (ordinary z p u.0.0, record { look = Token z; complete = u.0.0 })
reduces_by mode s ordinary z p cell (inl (inr f)) e =
    let for = f.4 in
    let same : f.2 ≡ p = let x : Reduce p ≡ Reduce f.2 = sym e ∙ f.3 in cc in
    rw (← same) (named_ordinary s.grammar f.2 for.rank for.candidate.rank_is, record { look = for.candidate.look; complete = for.candidate.complete })
reduces_by mode s ordinary z p cell (inr n) e = absurd (let no : Reduce p ≡ Refuse = sym e ∙ n.0 in cc)

-- The actions of a state follow its edges and reduce complete productions, with or without conflicts.
pub acts_within : (mode : Mode) (s : State) (kernel : Kernel) (parts : StateParts) → IsResolved mode s kernel parts → ((z p : ℕ) → Raw s (Token z) (Reduce p) → length s.grammar.starts ≤ p) → ActsSoundly s parts
acts_within mode s kernel parts is ordinary = record {
  shifts = λ z j e. shifts_by mode s z j (cell_at parts z) (is.cells z (cell_within parts (length s.grammar.tokens) z is.width (λ r. let no : Shift j ≡ Refuse = sym e ∙ r in cc))) e;
  reduces = λ z p e. reduces_by mode s ordinary z p (cell_at parts z) (is.cells z (cell_within parts (length s.grammar.tokens) z is.width (λ r. let no : Reduce p ≡ Refuse = sym e ∙ r in cc))) e;
  default = λ f e. (let d = default_of mode s f (rw e at is.fallback) in (d.0, record { look = d.1.look; complete = kept_raw s d.1.look (Reduce d.0) d.1.some }, d.2));
}

-- The list of conflicts is empty exactly if the automaton has none.
clear_none : (g : Grammar) (a : Automaton) → HasNoConflicts g a → (c : Conflict) → IsConflictOf g a c → ⊥
clear_none g a clear c h = go c.kind h.1
  where
    go : (kind : ConflictKind) → HasConflictOn (state_of g a c.state) c.look kind → ⊥
    go Solved x = (clear c.state h.0).no_conflict c.look x.0
    go Unsolved x = (clear c.state h.0).no_conflict c.look (unsolved_conflict _ _ x)
    go Stream x = (clear c.state h.0).no_stream_conflict x.1

pub none_listed : (g : Grammar) (a : Automaton) (conflicts : List Conflict) → AreConflicts g a conflicts → HasNoConflicts g a → conflicts ≡ []
none_listed g a [] h clear = refl
none_listed g a (c ∷ cs) h clear = absurd (clear_none g a clear c ((h.members c).0 (contains_at (c ∷ cs) 0 c refl)))

pub none_there : (g : Grammar) (a : Automaton) → AreConflicts g a [] → HasNoConflicts g a
none_there g a h s lt = record { no_conflict = one; no_stream_conflict = λ x. listed (record { state = s; look = End; kind = Stream }) (lt, (refl, x)) }
  where
    listed : (c : Conflict) → IsConflictOf g a c → ⊥
    listed c x = let in' = (h.members c).1 x in omega (arith, in'.1)

    one : (look : Look) → IsConflict (Raw (state_of g a s) look) → ⊥
    one look x = listed (record { state = s; look = look; kind = Solved }) (lt, (x, λ u. listed (record { state = s; look = look; kind = Unsolved }) (lt, u)))

-- A production that a state reduces on a token is not a start production.
start_at_end : (g : Grammar) (a : Automaton) → IsAutomaton (plain_of g) a → (s z p : ℕ) → Raw (state_of g a s) (Token z) (Reduce p) → length g.starts ≤ p
start_at_end g a h s z p r =
    elim (cases_lt p (length g.starts)) [
      | inl lt ↦ absurd (let no : Token z ≡ End = (closure_is_item (plain_of g) a h s p (length (rhs_of (plain_of g) p)) (Token z) r).start lt in cc)
      | inr ge ↦ ge
    ]

pub state_acts : (g : Grammar) (a : Automaton) (mode : Mode) (states : List StateParts) → IsAutomaton (plain_of g) a → AreResolved g a mode states → (s : ℕ) → s < length a.kernels → ActsSoundly (state_of g a s) (get_or states s no_state)
state_acts g a mode states h r s lt = acts_within mode (state_of g a s) (kernel_at a s) (get_or states s no_state) (r.each s lt) (start_at_end g a h s)

pub state_acts_if_conflict_free : (g : Grammar) (a : Automaton) (mode : Mode) (states : List StateParts) → AreResolved g a mode states → HasNoConflicts g a → (s : ℕ) → s < length a.kernels → ActsCompletely (state_of g a s) (get_or states s no_state)
state_acts_if_conflict_free g a mode states r clear s lt = acts_if_conflict_free mode (state_of g a s) (kernel_at a s) (get_or states s no_state) (r.each s lt) (clear s lt)
