-- Proves that every run on a table ends, or that there is a first relative run that loops. A relative run makes
-- reductions from a start state alone, or above a state as long as this state is not removed.
use Rattle.std.proofs.Common.{◌≡◌, ℕ, zero, suc, ◌<◌, ◌≤◌, ◌+◌, ◌⊎◌, inl, inr, Bool, true, false, cond, List, [], ◌∷◌, length, Option, Some, None, refl, sym, ap, ◌∙◌, arith}
use Rattle.std.proofs.lemmas.Bool.{cases_lt, cases_eq}
use Rattle.std.proofs.lemmas.Option.{slice_get_within}
use Rattle.std.specs.List.{slice_get}
use Rattle.mh_grammar.specs.declared.types.Symbol.{Symbol}
use Rattle.mh_grammar.specs.declared.edges.Edge.{Edge}
use Rattle.mh_grammar.specs.Edges.{find_edge, same_symbol}
use Rattle.mh_tables_core.specs.Table.{TableData, state_at, edge_of}
use Rattle.mh_tables_core.specs.Facts.{Facts}
use Rattle.mh_tables_core.specs.Run.{reductions}
use Rattle.mh_tables_core.specs.Halting.{IsBeginning, IsLook, MakesReductions, RunLoops, NeverLoops, IsOptionBefore, IsFirstLoop, AlwaysHalts, look_list, beginning}
use Rattle.mh_tables_core.specs.Limits.{max_reductions}
use Rattle.mh_tables_core.proofs.SymbolsInRange.{edge_source}
use Rattle.mh_tables.specs.code.Relative.{IsFirstLoopingLook, IsFirstLoopingState, NoneLoopsAbove}
use Rattle.mh_tables.proofs.FirstLoop.{HasEdgeTo, HasEdgeTo-found, first_look_is, never_loops, edge_is, loops_alone, loops_above, none_loops, halts_if_none_loops}
use Rattle.mh_grammar.proofs.DecidedSearch.{Decided, First, first}

module _ (t : TableData) where
  makes_decided : (below : Option ℕ) (s : ℕ) (look : Option ℕ) (n : ℕ) → Decided (MakesReductions t below s look n)
  makes_decided below s look n = by (reductions t (look_list look) n (beginning below s)) refl
    where
      by : (o : Option (List ℕ)) → reductions t (look_list look) n (beginning below s) ≡ o → Decided (MakesReductions t below s look n)
      by None e = inr (λ (stack, f). cc)
      by (Some stack) e = inl (stack, e)

  -- A relative run with this beginning loops with some next token or without one, or no such run loops.
  look_decided : (below : Option ℕ) (s : ℕ) → ((look : Option ℕ) × IsFirstLoopingLook t below s look) ⊎ NeverLoops t below s
  look_decided below s = by (makes_decided below s None (suc max_reductions)) (first (λ z. RunLoops t below s (Some z)) (λ z. makes_decided below s (Some z) (suc max_reductions)) t.grammar.tokens)
    where
      by : Decided (RunLoops t below s None) → First (λ z. RunLoops t below s (Some z)) t.grammar.tokens ⊎ ((z : ℕ) → z < t.grammar.tokens → RunLoops t below s (Some z) → ⊥) → ((look : Option ℕ) × IsFirstLoopingLook t below s look) ⊎ NeverLoops t below s
      by (inl loops) rest = inl (None, record { known = tt; loops = loops; no_earlier_look = λ look' b. none_before look' b })
        where
          none_before : (look' : Option ℕ) → IsOptionBefore look' None → IsLook t look' → RunLoops t below s look' → ⊥
          none_before None b l h = absurd b
          none_before (Some y) b l h = absurd b
      by (inr none) (inl f) = inl (Some f.at, first_look_is t below s f.at f.within none f.before f.holds)
      by (inr none) (inr tokens) = inr (never_loops t below s t.grammar.tokens (omega arith) none tokens)

edge_decided : (es : List Edge) (u : ℕ) → Decided (HasEdgeTo es u)
edge_decided [] u = inr (λ (k, e, l, at, is). cc)
edge_decided (e ∷ es) u = by (cases_eq e.target u) (edge_decided es u)
  where
    by : (e.target ≡ u) ⊎ (e.target ≡ u → ⊥) → Decided (HasEdgeTo es u) → Decided (HasEdgeTo (e ∷ es) u)
    by (inl same) rest = inl (0, e, omega arith, refl, same)
    by (inr other) (inl r) = inl (suc r.0, r.1, (let l = r.2 in omega arith), r.3, r.4)
    by (inr other) (inr none) = inr (λ (k, f, l, at, is). elsewhere k f at is)
      where
        elsewhere : (k : ℕ) (f : Edge) → slice_get (e ∷ es) k ≡ Some f → f.target ≡ u → ⊥
        elsewhere zero f at is = let one : e ≡ f = cc in other (ap (λ (x : Edge). x.target) one ∙ is)
        elsewhere (suc k) f at is = none (k, f, slice_get_within es k f at, at, is)

module _ (t : TableData) (f : Facts t) where
  begins_decided : (below : Option ℕ) (s : ℕ) → Decided (IsBeginning t below s)
  unfolding edge_of
  begins_decided None s = elim (cases_lt s (length t.grammar.starts)) [ inl l ↦ inl l | inr l ↦ inr (λ m. omega arith) ]
  begins_decided (Some r) s = by (edge_decided (state_at t r).edges s)
    where
      by : Decided (HasEdgeTo (state_at t r).edges s) → Decided (IsBeginning t (Some r) s)
      by (inl p) = inl (p.1.symbol, edge_is t f r (state_at t r).edges p.0 p.1 refl p.3 ∙ ap Some p.4)
      by (inr none) = inr (λ (x, e). none (HasEdgeTo-found (state_at t r).edges x s e))

  begins_within : (below : Option ℕ) (s : ℕ) → IsBeginning t below s → s < length t.states
  begins_within None s l = let enough = f.enough_states in omega arith
  begins_within (Some r) s b = f.each_target r b.0 s b.1

  abbrev LoopsSo : Option ℕ → ℕ → Type 0
  LoopsSo below s = IsBeginning t below s × ((look : Option ℕ) × IsFirstLoopingLook t below s look)

  so_decided : (below : Option ℕ) (s : ℕ) → Decided (LoopsSo below s)
  so_decided below s = by (begins_decided below s) (look_decided t below s)
    where
      by : Decided (IsBeginning t below s) → ((look : Option ℕ) × IsFirstLoopingLook t below s look) ⊎ NeverLoops t below s → Decided (LoopsSo below s)
      by (inr not) l = inr (λ (b, x). not b)
      by (inl b) (inl l) = inl (b, l)
      by (inl b) (inr clear) = inr (λ (c, (look, x)). clear look x.known x.loops)

  clear_from : (below : Option ℕ) (s : ℕ) → (LoopsSo below s → ⊥) → IsBeginning t below s → NeverLoops t below s
  clear_from below s not b = elim (look_decided t below s) [ inl l ↦ absurd (not (b, l)) | inr clear ↦ clear ]

  -- Some relative run above the state `below` loops, or none does.
  state_decided : (below : Option ℕ) → ((s : ℕ) × (look : Option ℕ) × IsFirstLoopingState t below s look) ⊎ NoneLoopsAbove t below
  state_decided below = elim (first (LoopsSo below) (so_decided below) (length t.states)) [
    | inl w ↦ inl (w.at, w.holds.1.0, record { begins = w.holds.0; first = w.holds.1.1; no_earlier_state = λ s l b. clear_from below s (w.before s l) b })
    | inr none ↦ inr (λ s b. clear_from below s (none s (begins_within below s b)) b)
  ]

  abbrev SomeLoops : ℕ → Type 0
  SomeLoops r = (s : ℕ) × (look : Option ℕ) × IsFirstLoopingState t (Some r) s look

  some_decided : (r : ℕ) → Decided (SomeLoops r)
  some_decided r = elim (state_decided (Some r)) [
    | inl w ↦ inl w
    | inr clear ↦ inr (λ (s, look, x). clear s x.begins look x.first.known x.first.loops)
  ]

  clear_lower : (r : ℕ) → (SomeLoops r → ⊥) → NoneLoopsAbove t (Some r)
  clear_lower r not = elim (state_decided (Some r)) [ inl w ↦ absurd (not w) | inr clear ↦ clear ]

  pub halts_or_loops : AlwaysHalts t ⊎ ((below : Option ℕ) × (s : ℕ) × (look : Option ℕ) × IsFirstLoop t below s look)
  halts_or_loops = elim (state_decided None) [
    | inl w ↦ inr (None, w.0, w.1, loops_alone t w.0 w.1 w.2)
    | inr alone ↦ elim (first SomeLoops some_decided (length t.states)) [
      | inl w ↦ inr (Some w.at, w.holds.0, w.holds.1, loops_above t w.at w.holds.0 w.holds.1 alone (λ r l. clear_lower r (w.before r l)) w.holds.2)
      | inr none ↦ inl (halts_if_none_loops t (none_loops t (length t.states) (omega arith) alone (λ r l. clear_lower r (none r l))))
    ]
  ]
