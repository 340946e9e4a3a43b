-- The definition of the text of an automaton with its table. The layout is this project's own.
use Rattle.std.specs.Prelude.{◌≡◌, ℕ, zero, suc, Bool, true, false, List, [], ◌∷◌, ◌++◌, length, slice_index_or, Option, Some, None, codes, decimal}
use Rattle.mh_grammar.specs.declared.types.Grammar.{Grammar}
use Rattle.mh_grammar.specs.declared.types.Symbol.{Symbol}
use Rattle.mh_grammar.specs.declared.types.Symbol.TheVariants.{T, N}
use Rattle.mh_grammar.specs.declared.edges.Edge.{Edge}
use Rattle.mh_grammar.specs.Names.{token_name, nonterminal_name}
use Rattle.mh_items_kernels.specs.KernelTypes.{KernelItem}
use Rattle.mh_items_kernels.specs.KernelTypes.{Automaton}
use Rattle.mh_items_kernels.specs.Automaton.{kernel_at, edges_at}
use Rattle.mh_tables_core.specs.declared.parts.Action.{Action}
use Rattle.mh_tables_core.specs.declared.parts.Action.TheVariants.{Shift, Reduce, Refuse}
use Rattle.mh_tables_core.specs.declared.parts.Fallback.{Fallback}
use Rattle.mh_tables_core.specs.declared.parts.Fallback.TheVariants as fallbacks
use Rattle.mh_tables_core.specs.Table.{TableData, cell_of, fallback_of}
use Rattle.mh_resolve_cells.specs.Names.{mode_name}
use Rattle.mh_resolve_cells.specs.declared.kinds.Mode.{Mode}
use Rattle.mh_resolve_cells.specs.States.{state_of}
use Rattle.mh_resolve_cells.specs.Holes.{AreHoles}
use Rattle.mh_grammar.specs.Text.{Text}
use Rattle.mh_grammar_texts.specs.Productions.{production_text}
use Rattle.mh_report_notation.specs.ItemTexts.{item_lines}

abbrev pub title : Mode → ℕ → Text
title mode states = mode_name mode ++ codes ": " ++ decimal states ++ codes " states\n"

abbrev pub kernel_lines : Grammar → List KernelItem → Text
kernel_lines g items = item_lines (codes "  ") g items

-- The line of a token: the action of its cell. A cell that refuses the token has a line only if it is a hole, that is,
-- if precedence removed all its actions.
abbrev pub cell_line : Grammar → ℕ → Action → Bool → Text
cell_line g z (Shift j) hole = codes "  " ++ token_name g z ++ codes ": shift " ++ decimal j ++ codes "\n"
cell_line g z (Reduce p) hole = codes "  " ++ token_name g z ++ codes ": reduce " ++ production_text g p ++ codes "\n"
cell_line g z Refuse true = codes "  " ++ token_name g z ++ codes ": hole\n"
cell_line g z Refuse false = []

-- The lines of the first n tokens.
abbrev pub cell_lines : Grammar → TableData → ℕ → List Bool → ℕ → Text
cell_lines g t s holes zero = []
cell_lines g t s holes (suc n) = cell_lines g t s holes n ++ cell_line g n (cell_of t s n) (slice_index_or holes n false)

-- The line of an edge on a nonterminal: the name of the nonterminal and the target.
abbrev pub goto_line : Grammar → Symbol → ℕ → Text
goto_line g (T z) j = []
goto_line g (N n) j = codes "  " ++ nonterminal_name g n ++ codes ": goto " ++ decimal j ++ codes "\n"

abbrev pub goto_lines : Grammar → List Edge → Text
goto_lines g [] = []
goto_lines g (edge ∷ edges) = goto_line g edge.symbol edge.target ++ goto_lines g edges

abbrev pub default_line : Grammar → ℕ → Text
default_line g p = codes "  default: reduce " ++ production_text g p ++ codes "\n"

-- The lines of a state's actions: its default, else one line for each token whose cell has an action or is a hole.
abbrev pub AreActionLines : Grammar → Automaton → TableData → ℕ → Option Fallback → Text → Type 0
AreActionLines g a t s (Some fallbacks.Accept) text = text ≡ codes "  default: accept\n"
AreActionLines g a t s (Some (fallbacks.Reduce p)) text = text ≡ default_line g p
AreActionLines g a t s None text = (holes : List Bool) × AreHoles (state_of g a s) holes × (text ≡ cell_lines g t s holes (length g.tokens))

abbrev pub head_line : ℕ → Text
head_line s = codes "state " ++ decimal s ++ codes "\n"

-- The text of a state: its number, its kernel, its actions, and its edges on nonterminals.
pub record IsStateText (g : Grammar) (a : Automaton) (t : TableData) (s : ℕ) (text : Text) : Type 0 where
  pub actions : Text
  pub are_actions : AreActionLines g a t s (fallback_of t s) actions
  pub is : text ≡ head_line s ++ kernel_lines g (kernel_at a s).items ++ actions ++ goto_lines g (edges_at a s)

-- The text consists of the texts of the first n states.
abbrev pub AreStateTexts : Grammar → Automaton → TableData → ℕ → Text → Type 0
AreStateTexts g a t zero text = text ≡ []
AreStateTexts g a t (suc n) text = (front last : Text) × AreStateTexts g a t n front × IsStateText g a t n last × (text ≡ front ++ last)

-- The text of an automaton: its mode and number of states, and then each state.
pub record IsAutomatonText (g : Grammar) (a : Automaton) (mode : Mode) (t : TableData) (text : Text) : Type 0 where
  pub states : Text
  pub are_states : AreStateTexts g a t (length a.kernels) states
  pub is : text ≡ title mode (length a.kernels) ++ states

-- The new text is the old one with a text of this kind appended.
abbrev pub AppendsText : (Text → Type 0) → Text → Text → Type 0
AppendsText Is old new = (last : Text) × Is last × (new ≡ old ++ last)
