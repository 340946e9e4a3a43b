-- Lemmas on the positions of lexemes: each is not empty and begins where the one before has ended, or later.
use Rattle.std.proofs.Common.{◌≡◌, ℕ, ◌<◌, ◌≤◌, List, [], ◌∷◌, ◌++◌, Option, Some, None, arith, subst, sym}
use Rattle.std.specs.List.{All}
use Rattle.std.proofs.lemmas.List.Elements.{All-nil, All-cons}
use Rattle.mh_lex.specs.declared.kinds.Kind.{Kind}
use Rattle.mh_lex.specs.declared.kinds.Lexeme.{Lexeme}
use Rattle.mh_lex.specs.Lexing.{AreLexemesInOrder, IsLexemeWithin, lexeme_between}

-- The upper bound of the lexemes may be raised.
pub AreLexemesInOrder-longer : (low mid high : ℕ) (ls : List Lexeme) → AreLexemesInOrder low mid ls → mid ≤ high → AreLexemesInOrder low high ls
AreLexemesInOrder-longer low mid high [] r h = omega arith
AreLexemesInOrder-longer low mid high (l ∷ ls) r h = (r.0, r.1, AreLexemesInOrder-longer l.end mid high ls r.2 h)

-- The lexemes are still in order after one more was appended.
AreLexemesInOrder-piece : (low mid end : ℕ) (what : Option Kind) (ls : List Lexeme) → AreLexemesInOrder low mid ls → mid < end → AreLexemesInOrder low end (ls ++ lexeme_between what mid end)
AreLexemesInOrder-piece low mid end what (l ∷ ls) r h = (r.0, r.1, AreLexemesInOrder-piece l.end mid end what ls r.2 h)
AreLexemesInOrder-piece low mid end None [] r h = omega arith
AreLexemesInOrder-piece low mid end (Some k) [] r h = (r, h, omega arith)

pub AreLexemesInOrder-next : (at end : ℕ) (what : Option Kind) (ls new : List Lexeme) → AreLexemesInOrder 0 at ls → at < end → new ≡ ls ++ lexeme_between what at end → AreLexemesInOrder 0 end new
AreLexemesInOrder-next at end what ls new r h e = subst (λ k. AreLexemesInOrder 0 end k) (sym e) (AreLexemesInOrder-piece 0 at end what ls r h)

AreLexemesInOrder-ends : (low high : ℕ) (ls : List Lexeme) → AreLexemesInOrder low high ls → low ≤ high
AreLexemesInOrder-ends low high [] r = r
AreLexemesInOrder-ends low high (l ∷ ls) r = let later = AreLexemesInOrder-ends l.end high ls r.2 in let here : low ≤ l.start = r.0 in let full : l.start < l.end = r.1 in omega arith

-- Each lexeme is within the file.
pub AreLexemesInOrder-within : (low high : ℕ) (ls : List Lexeme) → AreLexemesInOrder low high ls → All (IsLexemeWithin high) ls
AreLexemesInOrder-within low high [] r = All-nil (IsLexemeWithin high)
AreLexemesInOrder-within low high (l ∷ ls) r = All-cons (IsLexemeWithin high) l ls (r.1, AreLexemesInOrder-ends l.end high ls r.2) (AreLexemesInOrder-within l.end high ls r.2)
