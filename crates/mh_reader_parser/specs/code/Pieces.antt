-- The printed lexemes of an actual (a rule of this project).
use Rattle.std.specs.Prelude.{ℕ, List, [], ◌∷◌, ◌++◌}
use Rattle.mh_lex.specs.declared.kinds.Kind.{Kind}
use Rattle.mh_lex.specs.declared.kinds.Kind.TheVariants as kinds
use Rattle.mh_rules.specs.declared.modules.Ref.{Ref}
use Rattle.mh_rules.specs.declared.modules.Ref.TheVariants.{Plain, Alias}
use Rattle.mh_rules.specs.declared.modules.Actual.{Actual, fold-Actual}

-- A lexeme to print: its kind and its bytes.
abbrev pub Piece : Type 0
Piece = Kind × List ℕ

abbrev pub word : List ℕ → Piece
word t = (kinds.Word, t)

abbrev pub mark : ℕ → Piece
mark b = (kinds.Mark, b ∷ [])

-- A string in its quotes.
abbrev pub quoted : List ℕ → Piece
quoted s = (kinds.Quoted, 34 ∷ s ++ 34 ∷ [])

abbrev pub ref_piece : Ref → Piece
ref_piece (Plain t) = word t
ref_piece (Alias s) = quoted s

-- `("," item)* ")"`.
abbrev pub bracket_end : List (List Piece) → List Piece
bracket_end [] = mark 41 ∷ []
bracket_end (w ∷ ws) = mark 44 ∷ w ++ bracket_end ws

-- Items in brackets, with commas between them; no brackets if there are no items.
abbrev pub bracketed : List (List Piece) → List Piece
bracketed [] = []
bracketed (w ∷ ws) = mark 40 ∷ w ++ bracket_end ws

-- The printed lexemes of an actual: its head, and its arguments in brackets.
abbrev pub actual_pieces : Actual → List Piece
actual_pieces = fold-Actual (List Piece) (λ l. ref_piece l.head ∷ bracketed l.args)
