-- The places of the names of a grammar file, and the attributes that should give a cost (rules of this project).
use Rattle.std.specs.Prelude.{◌≡◌, ◌-◌, ◌&&◌, ℕ, Bool, cond, List, [], ◌∷◌, length, map, Option, Some, None, is_none, codes, nat_eq, slice_index_or, Result, Ok, Err}
use Rattle.std.specs.List.{flat_map, starts_with}
use Rattle.mh_lex.specs.declared.kinds.Lexeme.{Lexeme}
use Rattle.mh_lex.specs.declared.kinds.PlacedFault.{PlacedFault}
use Rattle.mh_lex.specs.declared.kinds.PlacedFault.TheVariants as placed
use Rattle.mh_lex.specs.Lexing.{Lexes}
use Rattle.mh_lex.specs.LexemeTexts.{bytes_of}
use Rattle.mh_rules.specs.declared.modules.Module.{Module}
use Rattle.mh_rules.specs.Modules.{no_module}
use Rattle.mh_reader_parser.specs.Costs.{cost_of}
use Rattle.mh_reader_parser.specs.Faults.{IsSyntaxPlace, IsUnexpectedPlace}
use Rattle.mh_reader_parser.specs.Spelling.{File, Spells}
use Rattle.mh_reader_parser.specs.declared.token_kinds.TokenKind.{TokenKind}
use Rattle.mh_reader_parser.specs.TokenKinds.{file_tokens, token_kind_by}
use Rattle.mh_reader_places.specs.Mentions.{Named, in_file}
use Rattle.mh_reader_places.specs.declared.mentions.Mention.{Mention}
use Rattle.mh_reader_places.specs.declared.reading.PlacedModule.{PlacedModule}

-- The lexeme, if it has a token kind.
abbrev pub seen_if : Option TokenKind → Lexeme → List Lexeme
seen_if None l = []
seen_if (Some g) l = l ∷ []

-- The lexemes that the grammar of grammar files sees: all but attributes.
abbrev pub seen : List ℕ → List Lexeme → List Lexeme
seen bytes ls = flat_map (λ l. seen_if (token_kind_by l.kind (bytes_of bytes l)) l) ls

-- The position of the lexeme that is this many lexemes before the end of these.
abbrev pub start_from_end : List Lexeme → ℕ → ℕ
start_from_end ls n = slice_index_or (map (λ l. l.start) ls) (length ls - n) 0

abbrev pub mention_of : List Lexeme → Named → Mention
mention_of ls x = record { start = start_from_end ls x.from_end; role = x.role; name = x.name }

-- The text of an attribute begins with `[@cost` and gives no cost.
abbrev pub is_bad_cost_text : List ℕ → Bool
is_bad_cost_text text = starts_with nat_eq text (codes "[@cost") && is_none (cost_of text)

-- The position of a lexeme with this token kind and text, if the lexeme is an attribute that begins with `[@cost` and
-- gives no cost.
abbrev pub bad_cost_at : ℕ → Option TokenKind → List ℕ → List ℕ
bad_cost_at start None text = cond (is_bad_cost_text text) (start ∷ []) []
bad_cost_at start (Some g) text = []

abbrev pub bad_cost_of : List ℕ → Lexeme → List ℕ
bad_cost_of bytes l = bad_cost_at l.start (token_kind_by l.kind (bytes_of bytes l)) (bytes_of bytes l)

abbrev pub bad_costs : List ℕ → List Lexeme → List ℕ
bad_costs bytes ls = flat_map (bad_cost_of bytes) ls

-- The lexemes of the bytes have a derivation that gives the module, and the mentions are its names in the order of the
-- text, each at the beginning of its lexeme.
pub record ReadsPlaced (bytes : List ℕ) (found : PlacedModule) : Type 0 where
  pub lexemes : List Lexeme
  pub lexes : Lexes bytes lexemes None
  pub file : File no_module (file_tokens bytes lexemes) found.module
  pub mentions : found.mentions ≡ map (mention_of (seen bytes lexemes)) (in_file file)
  pub bad : found.bad_costs ≡ bad_costs bytes lexemes

-- If the result is a syntax fault, these lexemes spell no module and the position is that of the fault.
abbrev pub ReportsLexedPlace : List ℕ → List Lexeme → Result PlacedModule PlacedFault → Type 0
ReportsLexedPlace bytes ls (Ok found) = Unit {0}
ReportsLexedPlace bytes ls (Err (placed.Syntax place)) = IsUnexpectedPlace bytes ls place × ((m : Module) → File no_module (file_tokens bytes ls) m → ⊥)
ReportsLexedPlace bytes ls (Err placed.Memory) = Unit {0}

-- If the result is a syntax fault, the bytes spell no module and the position is that of the fault.
abbrev pub ReportsSyntaxPlace : List ℕ → Result PlacedModule PlacedFault → Type 0
ReportsSyntaxPlace bytes (Ok found) = Unit {0}
ReportsSyntaxPlace bytes (Err (placed.Syntax place)) = IsSyntaxPlace bytes place × ((m : Module) → Spells bytes m → ⊥)
ReportsSyntaxPlace bytes (Err placed.Memory) = Unit {0}
