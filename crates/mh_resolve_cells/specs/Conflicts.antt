-- The list of conflicts. The conflicts are those of the Menhir manual; their order is this project's own.
use Rattle.std.specs.Prelude.{◌≡◌, ◌<◌, ◌⊎◌, ◌↔◌, List, length}
use Rattle.std.specs.List.{Contains}
use Rattle.mh_grammar.specs.declared.types.Grammar.{Grammar}
use Rattle.mh_items_kernels.specs.KernelTypes.{Automaton}
use Rattle.mh_grammar.specs.Edges.{IsRising, IsLookBefore}
use Rattle.mh_resolve_cells.specs.declared.kinds.ConflictKind.{ConflictKind}
use Rattle.mh_resolve_cells.specs.declared.kinds.ConflictKind.TheVariants.{Stream}
use Rattle.mh_resolve_cells.specs.declared.conflicts.Conflict.{Conflict}
use Rattle.mh_resolve_cells.specs.States.{state_of, HasConflictOn}

-- The conflict is one of a state of the automaton.
abbrev pub IsConflictOf : Grammar → Automaton → Conflict → Type 0
IsConflictOf g a c = (c.state < length a.kernels) × HasConflictOn (state_of g a c.state) c.look c.kind

-- The order of kinds for one state and look: an end-of-stream conflict is last.
abbrev pub IsKindBefore : ConflictKind → ConflictKind → Type 0
IsKindBefore k l = (k ≡ Stream → ⊥) × (l ≡ Stream)

-- The order of conflicts: by state, then by look, then by kind.
abbrev pub IsConflictBefore : Conflict → Conflict → Type 0
IsConflictBefore c d = (c.state < d.state) ⊎ ((c.state ≡ d.state) × (IsLookBefore c.look d.look ⊎ ((c.look ≡ d.look) × IsKindBefore c.kind d.kind)))

-- The list holds the conflicts of the automaton, each once, by state, then by look, then by kind.
pub record AreConflicts (g : Grammar) (a : Automaton) (conflicts : List Conflict) : Type 0 where
  pub members : (c : Conflict) → Contains conflicts c ↔ IsConflictOf g a c
  pub order : IsRising IsConflictBefore conflicts
