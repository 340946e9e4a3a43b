-- Proves that the conflicts of item sets are those of the states.
use Rattle.std.proofs.Common.{◌≡◌, ◌↔◌, ◌<◌, ℕ, Some, None, length, sym, ap, ◌∙◌, inl, inr}
use Rattle.mh_grammar.specs.declared.types.Grammar.{Grammar}
use Rattle.mh_grammar.specs.declared.types.Symbol.TheVariants.{T}
use Rattle.mh_grammar.specs.declared.types.Look.{Look}
use Rattle.mh_grammar.specs.declared.types.Look.TheVariants.{Token, End}
use Rattle.mh_grammar.specs.Plain.{plain_of}
use Rattle.mh_grammar.specs.ItemSets as items
use Rattle.mh_grammar.specs.ItemSets.{ItemSet, Close, Moved}
use Rattle.mh_items_kernels.specs.KernelTypes.{Automaton}
use Rattle.mh_items_kernels.specs.Conflicts.{ShiftsOn, HasConflict, shift_reduce, reduce_reduce, HasStreamConflict, shift, reduce, HasAnyConflict, AutomatonHasConflict, AutomatonHasAnyConflict}
use Rattle.mh_items_kernels.specs.Automaton.{kernel_of, IsAutomaton}
use Rattle.mh_tables_core.specs.declared.parts.Action.{Action}
use Rattle.mh_tables_core.specs.declared.parts.Action.TheVariants.{Shift, Reduce, Refuse}
use Rattle.mh_resolve_cells.specs.Cells.{IsConflict}
use Rattle.mh_resolve_cells.specs.NoConflicts.{IsConflictFreeState, HasNoConflicts, HasRawConflict}
use Rattle.mh_resolve_cells.specs.States.{state_of, Raw, IsStreamConflict}
use Rattle.mh_resolve_cells.proofs.OneResolution.{raw_is_chosen}
use Rattle.mh_resolve_cells.proofs.IsResolved.{chosen_is_raw}

module _ (g : Grammar) (a : Automaton) (is : IsAutomaton (plain_of g) a) (s : ℕ) (l : s < length a.kernels) where
  abbrev I : ItemSet
  I = kernel_of a s

  abbrev RawOn : Look → Action → Type 0
  RawOn look = Raw (state_of g a s) look

  -- If the set shifts a token, the state has an edge on the token.
  shift_edge : (z : ℕ) → ShiftsOn (plain_of g) I z → (u : ℕ) × RawOn (Token z) (Shift u)
  shift_edge z h = is.edge s (T z) l (record { production = h.production; dot = _; look = h.look; moves = items.Moved.moved h.item h.token_next })

  moved_shift : (z p d : ℕ) (look : Look) → Moved (plain_of g) (Close (plain_of g) I) (T z) p d look → ShiftsOn (plain_of g) I z
  moved_shift z p d look (items.Moved.moved {d = e} {y} i behind) = record { production = p; dot = e; look = look; rest = y; item = i; token_next = behind }

  edge_shift : (z u : ℕ) → RawOn (Token z) (Shift u) → ShiftsOn (plain_of g) I z
  edge_shift z u e = let m = (is.target s (T z) u e).0 in moved_shift z m.production m.dot m.look m.moves

  other_reduction : (p q : ℕ) → (p ≡ q → ⊥) → Reduce p ≡ Reduce q → ⊥
  other_reduction p q n e = n (let same : p ≡ q = cc in same)

  pub state_conflict : HasConflict (plain_of g) I → (look : Look) × IsConflict (RawOn look)
  state_conflict (shift_reduce {z} {p} h r) =
      let u = shift_edge z h in
      (Token z, record { one = Shift u.0; other = Reduce p; raw_one = u.1; raw_other = r; differ = λ e. cc })
  state_conflict (reduce_reduce {p} {q} {look} n r h) = (look, record { one = Reduce p; other = Reduce q; raw_one = r; raw_other = h; differ = other_reduction p q n })

  no_end_shift : (u : ℕ) → RawOn End (Shift u) → ⊥
  no_end_shift u e = let f : None ≡ Some u = e in cc

  shift_with : (look : Look) (u p : ℕ) → RawOn look (Shift u) → RawOn look (Reduce p) → HasConflict (plain_of g) I
  shift_with (Token z) u p e r = shift_reduce (edge_shift z u e) r
  shift_with End u p e r = absurd (no_end_shift u e)

  both : (look : Look) (x y : Action) → RawOn look x → RawOn look y → (x ≡ y → ⊥) → HasConflict (plain_of g) I
  both look (Shift u) (Shift v) e f n = absurd (n (let one : Some u ≡ Some v = sym e ∙ f in let same : u ≡ v = cc in ap Shift same))
  both look (Shift u) (Reduce p) e r n = shift_with look u p e r
  both look (Shift u) Refuse e r n = absurd r
  both look (Reduce p) (Shift u) r e n = shift_with look u p e r
  both look (Reduce p) (Reduce q) r h n = reduce_reduce (λ e. n (ap Reduce e)) r h
  both look (Reduce p) Refuse r h n = absurd h
  both look Refuse y r h n = absurd r

  pub set_conflict : (look : Look) → IsConflict (RawOn look) → HasConflict (plain_of g) I
  set_conflict look c = both look c.one c.other c.raw_one c.raw_other c.differ

  at_end : (x y : Action) (z : ℕ) → RawOn End x → RawOn (Token z) y → (x ≡ y → ⊥) → HasStreamConflict (plain_of g) I
  at_end (Shift u) y z e f n = absurd (no_end_shift u e)
  at_end (Reduce p) (Shift u) z r e n = shift r (edge_shift z u e)
  at_end (Reduce p) (Reduce q) z r h n = reduce (λ e. n (ap Reduce e)) r h
  at_end (Reduce p) Refuse z r h n = absurd h
  at_end Refuse y z r h n = absurd r

  set_stream : IsStreamConflict (state_of g a s) → HasStreamConflict (plain_of g) I
  set_stream c = at_end c.last c.other c.token (chosen_is_raw (state_of g a s) End c.last c.takes_last) (chosen_is_raw (state_of g a s) (Token c.token) c.other c.takes_other) c.differ

  state_stream : ((look : Look) → IsConflict (RawOn look) → ⊥) → HasStreamConflict (plain_of g) I → IsStreamConflict (state_of g a s)
  state_stream one (shift {z} {p} r h) =
      let u = shift_edge z h in
      record { last = Reduce p; token = z; other = Shift u.0; takes_last = raw_is_chosen (state_of g a s) End (one End) (Reduce p) r; takes_other = raw_is_chosen (state_of g a s) (Token z) (one (Token z)) (Shift u.0) u.1; differ = λ e. cc }
  state_stream one (reduce {z} {p} {q} n r h) =
      record { last = Reduce p; token = z; other = Reduce q; takes_last = raw_is_chosen (state_of g a s) End (one End) (Reduce p) r; takes_other = raw_is_chosen (state_of g a s) (Token z) (one (Token z)) (Reduce q) h; differ = other_reduction p q n }

  pub conflict_free_exact : IsConflictFreeState (state_of g a s) ↔ (HasAnyConflict (plain_of g) I → ⊥)
  conflict_free_exact = (
    (λ c f. elim f [
      | inl x ↦ (let y = state_conflict x in c.no_conflict y.0 y.1)
      | inr x ↦ c.no_stream_conflict (state_stream c.no_conflict x)
    ]),
    (λ n. record { no_conflict = λ look c. n (inl (set_conflict look c)); no_stream_conflict = λ c. n (inr (set_stream c)) }),
  )

module _ (g : Grammar) (a : Automaton) (is : IsAutomaton (plain_of g) a) where
  pub raw_conflicts_agree : HasRawConflict g a ↔ AutomatonHasConflict (plain_of g) a
  raw_conflicts_agree = (
    (λ c. (c.0, c.1, set_conflict g a is c.0 c.1 c.2 c.3)),
    (λ c. let x = state_conflict g a is c.0 c.1 c.2 in (c.0, c.1, x.0, x.1)),
  )

  pub no_conflicts_agree : HasNoConflicts g a ↔ (AutomatonHasAnyConflict (plain_of g) a → ⊥)
  no_conflicts_agree = (
    (λ h f. (conflict_free_exact g a is f.0 f.1).0 (h f.0 f.1) f.2),
    (λ n s l. (conflict_free_exact g a is s l).1 (λ f. n (s, l, f))),
  )
