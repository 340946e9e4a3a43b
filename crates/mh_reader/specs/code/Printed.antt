-- The text of a module: its lexemes in order, with a space after each (a rule of this project).
use Rattle.std.specs.Prelude.{◌≡◌, ℕ, List, [], ◌∷◌, ◌++◌, map, Option, Some, None, Bool, true, false, codes, decimal}
use Rattle.std.specs.List.{flat_map}
use Rattle.mh_grammar.specs.declared.types.Assoc.{Assoc}
use Rattle.mh_grammar.specs.declared.types.Assoc.TheVariants.{Left, Right, Nonassoc}
use Rattle.mh_lex.specs.declared.kinds.Kind.TheVariants as kinds
use Rattle.mh_lex.specs.LexemeTexts.{laid_out}
use Rattle.mh_rules.specs.declared.modules.Ref.{Ref}
use Rattle.mh_rules.specs.declared.modules.Actual.{Actual}
use Rattle.mh_rules.specs.declared.modules.Alternative.{Alternative}
use Rattle.mh_rules.specs.declared.modules.Rule.{Rule}
use Rattle.mh_rules.specs.declared.modules.TokenDecl.{TokenDecl}
use Rattle.mh_rules.specs.declared.modules.LevelDecl.{LevelDecl}
use Rattle.mh_rules.specs.declared.modules.Module.{Module}
use Rattle.mh_reader_parser.specs.code.Pieces.{Piece, word, mark, quoted, ref_piece, bracketed, actual_pieces}

-- A percent sign and a word.
abbrev pub keyword : List ℕ → Piece
keyword w = (kinds.Keyword, 37 ∷ w)

-- The lexeme `%%`.
abbrev pub percents : Piece
percents = (kinds.Percents, 37 ∷ 37 ∷ [])

-- The lexeme `{}`.
abbrev pub action : Piece
action = (kinds.Action, 123 ∷ 125 ∷ [])

abbrev pub prec_pieces : Option Ref → List Piece
prec_pieces None = []
prec_pieces (Some r) = keyword (codes "prec") ∷ ref_piece r ∷ []

-- An alternative: a group by itself, after a bar.
abbrev pub alternative_pieces : Alternative → List Piece
alternative_pieces a = mark 124 ∷ flat_map actual_pieces a.producers ++ (prec_pieces a.prec ++ action ∷ [])

-- A modifier, if the rule has it.
abbrev pub modifier_pieces : Bool → List ℕ → List Piece
modifier_pieces true w = keyword w ∷ []
modifier_pieces false w = []

abbrev pub formals_pieces : List (List ℕ) → List Piece
formals_pieces ns = bracketed (map (λ n. word n ∷ []) ns)

abbrev pub rule_pieces : Rule → List Piece
rule_pieces r =
    modifier_pieces r.public (codes "public") ++ modifier_pieces r.inlined (codes "inline") ++
    (word r.name ∷ formals_pieces r.formals ++ mark 58 ∷ flat_map alternative_pieces r.alternatives)

abbrev pub alias_pieces : Option (List ℕ) → List Piece
alias_pieces None = []
alias_pieces (Some s) = quoted s ∷ []

-- The text `[@cost n]`.
abbrev pub cost_text : ℕ → List ℕ
cost_text n = codes "[@cost " ++ (decimal n ++ 93 ∷ [])

abbrev pub cost_pieces : Option ℕ → List Piece
cost_pieces None = []
cost_pieces (Some n) = (kinds.Attribute, cost_text n) ∷ []

abbrev pub token_pieces : TokenDecl → List Piece
token_pieces t = keyword (codes "token") ∷ word t.name ∷ (alias_pieces t.alias ++ cost_pieces t.cost)

abbrev pub start_pieces : List ℕ → List Piece
start_pieces n = keyword (codes "start") ∷ word n ∷ []

abbrev pub assoc_word : Assoc → List ℕ
assoc_word Left = codes "left"
assoc_word Right = codes "right"
assoc_word Nonassoc = codes "nonassoc"

abbrev pub level_pieces : LevelDecl → List Piece
level_pieces l = keyword (assoc_word l.assoc) ∷ map ref_piece l.names

abbrev pub on_error_pieces : List Actual → List Piece
on_error_pieces ks = keyword (codes "on_error_reduce") ∷ flat_map actual_pieces ks

-- A declaration for each token, start, level and list of `%on_error_reduce`, and after them the rules.
abbrev pub module_pieces : Module → List Piece
module_pieces m =
    flat_map token_pieces m.tokens ++ (flat_map start_pieces m.starts ++ (flat_map level_pieces m.levels ++
    (flat_map on_error_pieces m.on_error ++ percents ∷ flat_map rule_pieces m.rules)))

-- These lexemes were appended to the text.
abbrev pub Writes : List ℕ → List ℕ → List Piece → Type 0
Writes old new pieces = new ≡ old ++ laid_out pieces
