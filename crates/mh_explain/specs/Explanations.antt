-- The explanations of the conflicts of a table: the first sentence that runs into a conflict, the actions between which
-- the state must choose, and the action that the table takes (this project's own; raw actions: Knuth 1965).
use Rattle.std.specs.Prelude.{◌≡◌, ℕ, List, [], ◌∷◌, ◌++◌, Option, Some, None, codes}
use Rattle.mh_grammar.specs.declared.types.Grammar.{Grammar}
use Rattle.mh_grammar.specs.declared.types.Look.{Look}
use Rattle.mh_grammar.specs.declared.types.Look.TheVariants.{Token, End}
use Rattle.mh_grammar.specs.Names.{token_name}
use Rattle.mh_grammar.specs.Text.{Text}
use Rattle.mh_items_kernels.specs.KernelTypes.{Automaton}
use Rattle.mh_msgfile.specs.FileTexts.{sentence_text}
use Rattle.mh_report_notation.specs.Warnings.{conflict_line}
use Rattle.mh_resolve_cells.specs.declared.conflicts.Conflict.{Conflict}
use Rattle.mh_resolve_cells.specs.declared.kinds.ConflictKind.{ConflictKind}
use Rattle.mh_resolve_cells.specs.declared.kinds.ConflictKind.TheVariants.{Solved, Unsolved, Stream}
use Rattle.mh_tables_core.specs.Table.{TableData}
use Rattle.mh_tables_core.specs.Run.{run_move_of}
use Rattle.mh_explain.specs.declared.first_sentence.FoundSentence.{FoundSentence}
use Rattle.mh_explain.specs.declared.first_sentence.FoundSentence.TheVariants.{NoSentence, TooLong, First}
use Rattle.mh_explain.specs.FirstSentences.{IsFoundOn}
use Rattle.mh_explain.specs.StateActions.{AreActionLines, taken_line}

-- The line of the sentence, with a dot between the sentence and the token that comes next.
abbrev pub found_line : Grammar → FoundSentence → Text
found_line g NoSentence = codes "  no sentence comes here\n"
found_line g TooLong = codes "  longer than 1000000\n"
found_line g (First cost x z) = codes "  " ++ sentence_text g x.start x.tokens ++ codes " . " ++ token_name g z ++ codes "\n"

-- The token on which the actions are shown: the token of the conflict; for a conflict with the end of the stream, the
-- token that comes next after the sentence, if a sentence was found.
abbrev pub next_token : Look → FoundSentence → Option ℕ
next_token (Token y) found = Some y
next_token End NoSentence = None
next_token End TooLong = None
next_token End (First cost x z) = Some z

-- The lines of the actions at the end of the stream, for a conflict with the end of the stream.
abbrev pub AreEndLines : Grammar → Automaton → ℕ → Look → Text → Type 0
AreEndLines g a s (Token y) text = text ≡ []
AreEndLines g a s End text = AreActionLines g a s End text

-- The lines of the actions on the next token, and of the action that the table takes.
abbrev pub AreNextLines : Grammar → Automaton → TableData → ℕ → Option ℕ → Text → Type 0
AreNextLines g a t s None text = text ≡ []
AreNextLines g a t s (Some z) text = (actions : Text) × AreActionLines g a s (Token z) actions × (text ≡ actions ++ taken_line g (run_move_of t s (z ∷ [])))

-- The text explains a conflict of the state s on the look: the line on the conflict, the first sentence that comes
-- there, the raw actions, the action that the table takes, and an empty line.
pub record ExplainsConflict (g : Grammar) (a : Automaton) (t : TableData) (s : ℕ) (look : Look) (kind : ConflictKind) (text : Text) : Type 0 where
  pub found : FoundSentence
  pub is_found : IsFoundOn t s look found
  pub at_end : Text
  pub are_at_end : AreEndLines g a s look at_end
  pub at_next : Text
  pub are_at_next : AreNextLines g a t s (next_token look found) at_next
  pub is : text ≡ conflict_line g s look kind ++ found_line g found ++ at_end ++ at_next ++ codes "\n"

-- The text for a conflict: its explanation; empty if precedence levels solve the conflict.
abbrev pub IsExplanation : Grammar → Automaton → TableData → ℕ → Look → ConflictKind → Text → Type 0
IsExplanation g a t s look Solved text = text ≡ []
IsExplanation g a t s look Unsolved text = ExplainsConflict g a t s look Unsolved text
IsExplanation g a t s look Stream text = ExplainsConflict g a t s look Stream text

-- The text is the explanations of the conflicts, one after the other.
abbrev pub AreExplanations : Grammar → Automaton → TableData → List Conflict → Text → Type 0
AreExplanations g a t [] text = text ≡ []
AreExplanations g a t (c ∷ conflicts) text = (first rest : Text) × IsExplanation g a t c.state c.look c.kind first × AreExplanations g a t conflicts rest × (text ≡ first ++ rest)
