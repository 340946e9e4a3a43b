-- What the states show, as flags.
use Rattle.std.specs.Prelude.{◌≡◌, ◌<◌, ℕ, length}
use Rattle.mh_grammar.specs.declared.types.Grammar.{Grammar}
use Rattle.mh_grammar.specs.declared.types.Look.TheVariants.{Token}
use Rattle.mh_grammar.specs.Plain.{plain_of, production_count}
use Rattle.mh_items_kernels.specs.KernelTypes.{Automaton}
use Rattle.mh_tables_core.specs.Table.{TableData}
use Rattle.mh_tables_core.specs.declared.parts.Action.TheVariants.{Shift, Reduce}
use Rattle.mh_resolve_cells.specs.States.{Raw, state_of}
use Rattle.mh_lint_states.specs.Comparisons.{IsTokenCompared, IsProductionCompared}
use Rattle.mh_lint_states.specs.Reductions.{IsReduced, IsReducedOnErrors, Reduces, ReducesOnErrors}
use Rattle.mh_lint_states.specs.code.ComparedPairs.{HasFlags, IsComparable, MarksPairs}
use Rattle.mh_lint_states.specs.code.Marks.{AreMarked, AreUnset, Marks}
use Rattle.mh_lint_states.specs.declared.all_states.ShownByStates.{ShownByStates}

-- There are flags for all tokens, productions and nonterminals of the grammar.
pub record AreFlagsOf (g : Grammar) (x : ShownByStates) : Type 0 where
  pub compared : HasFlags (length g.tokens) (production_count (plain_of g)) x.compared
  pub reduced : length x.reduced.items ≡ production_count (plain_of g)
  pub on_errors : length x.on_errors.items ≡ length g.nonterminals

-- State s can shift the token and reduce the production on it, and the levels are comparable.
pub record StateCompares (g : Grammar) (a : Automaton) (s p z : ℕ) : Type 0 where
  pub target : ℕ
  pub shift : Raw (state_of g a s) (Token z) (Shift target)
  pub reduce : Raw (state_of g a s) (Token z) (Reduce p)
  pub comparable : IsComparable g p z

-- State s compares the level of the token with that of some production.
abbrev pub ComparesToken : Grammar → Automaton → ℕ → ℕ → Type 0
ComparesToken g a s z = (p : ℕ) × StateCompares g a s p z

-- State s compares the level of the production with that of some token.
abbrev pub ComparesProduction : Grammar → Automaton → ℕ → ℕ → Type 0
ComparesProduction g a s p = (z : ℕ) × StateCompares g a s p z

-- One of the first n states shows the number i.
abbrev pub ShownBelow : (ℕ → ℕ → Type 0) → ℕ → ℕ → Type 0
ShownBelow Shows n i = (s : ℕ) × (s < n) × Shows s i

-- The flags of what state s shows are set, and no others.
pub record ShowsState (g : Grammar) (a : Automaton) (t : TableData) (s : ℕ) (old new : ShownByStates) : Type 0 where
  pub compared : MarksPairs (StateCompares g a s) old.compared new.compared
  pub reduced : Marks (Reduces t s) old.reduced.items new.reduced.items
  pub on_errors : Marks (ReducesOnErrors g a t s) old.on_errors.items new.on_errors.items

-- The flags of what the first n states show are set, and no others.
pub record AreShown (g : Grammar) (a : Automaton) (t : TableData) (n : ℕ) (x : ShownByStates) : Type 0 where
  pub flags : AreFlagsOf g x
  pub tokens : AreMarked (ShownBelow (ComparesToken g a) n) x.compared.tokens.items
  pub productions : AreMarked (ShownBelow (ComparesProduction g a) n) x.compared.productions.items
  pub reduced : AreMarked (ShownBelow (Reduces t) n) x.reduced.items
  pub on_errors : AreMarked (ShownBelow (ReducesOnErrors g a t) n) x.on_errors.items

-- No flag is set.
abbrev pub HasNoFlags : Grammar → ShownByStates → Type 0
HasNoFlags g x = AreFlagsOf g x × AreUnset x.compared.tokens.items × AreUnset x.compared.productions.items × AreUnset x.reduced.items × AreUnset x.on_errors.items

-- The flags say what the states of the automaton and of the table show.
pub record IsShown (g : Grammar) (a : Automaton) (t : TableData) (x : ShownByStates) : Type 0 where
  pub flags : AreFlagsOf g x
  pub tokens : AreMarked (IsTokenCompared g a) x.compared.tokens.items
  pub productions : AreMarked (IsProductionCompared g a) x.compared.productions.items
  pub reduced : AreMarked (IsReduced t) x.reduced.items
  pub on_errors : AreMarked (IsReducedOnErrors g a t) x.on_errors.items
