-- Each position of a fault is within its file.
use Rattle.std.proofs.Common.{◌≡◌, ℕ, zero, suc, ◌+◌, ◌-◌, ◌≤◌, Bool, true, false, cond, List, [], ◌∷◌, ◌++◌, Option, None, Some, length, map, refl, sym, subst, inl, inr, arith}
use Rattle.std.specs.Prelude.{slice_index_or}
use Rattle.std.specs.List.{Contains, slice_get}
use Rattle.std.proofs.lemmas.List.Elements.{Contains-append_cases}
use Rattle.std.proofs.lemmas.Option.{same_Some}
use Rattle.mh_grammar.proofs.Lists.{contains_here, contains_none, contains_one, contains_there, flat_map_contains, map_contains}
use Rattle.mh_lex.specs.Lexing.{LexesFrom, lexeme_between_rests}
use Rattle.mh_lex.specs.Lexing as lexing
use Rattle.mh_lex.specs.LexemeTexts.{bytes_of}
use Rattle.mh_lex.specs.declared.kinds.Kind.{Kind}
use Rattle.mh_lex.specs.declared.kinds.Lexeme.{Lexeme}
use Rattle.mh_reader_parser.specs.Faults.{IsSyntaxPlace, IsUnexpectedPlace}
use Rattle.mh_reader_parser.specs.Faults as syntax
use Rattle.mh_reader_parser.specs.TokenKinds.{token_kind_by}
use Rattle.mh_reader_parser.specs.declared.token_kinds.TokenKind.{TokenKind}
use Rattle.mh_reader_places.specs.Mentions.{in_file}
use Rattle.mh_reader_places.specs.Places.{ReadsPlaced, bad_cost_at, bad_cost_of, is_bad_cost_text, mention_of, seen, seen_if}
use Rattle.mh_reader_places.specs.declared.mentions.Mention.{Mention}
use Rattle.mh_reader_places.specs.declared.reading.PlacedModule.{PlacedModule}
use Rattle.mh_lint_findings.specs.declared.findings.GrammarFile.{GrammarFile}
use Rattle.mh_lint_faults.specs.Stages.{AreRead, Mentions}

-- ---- Lexemes.

-- No lexeme begins after the end of the file.
between_within : (total : ℕ) (bytes rest : List ℕ) (what : Option Kind) (l : Lexeme) → Contains (lexeme_between_rests total bytes what rest) l → l.start ≤ total
between_within total bytes rest None l c = absurd (contains_none l c)
between_within total bytes rest (Some k) l c = let same = contains_one _ l c in subst (λ (m : Lexeme). m.start ≤ total) same (omega arith)

pub starts_within : (total left : ℕ) (bytes : List ℕ) (ls : List Lexeme) (f : Option ℕ) → LexesFrom total left bytes ls f → (l : Lexeme) → Contains ls l → l.start ≤ total
starts_within total _ bytes _ f (lexing.LexesFrom.ended e) l c = absurd (contains_none l c)
starts_within total _ bytes _ f lexing.LexesFrom.trailer l c = absurd (contains_none l c)
starts_within total _ bytes ls f (lexing.LexesFrom.taken {rest = rest} {what = what} {ls = more} scanned later all) l c = elim (Contains-append_cases (lexeme_between_rests total bytes what rest) more l (subst (λ ms. Contains ms l) all c)) [
  | inl here ↦ between_within total bytes rest what l here
  | inr there ↦ starts_within total _ rest more f later l there
]
starts_within total _ bytes _ _ (lexing.LexesFrom.fault some none) l c = absurd (contains_none l c)

-- The position of a lexical fault is not after the end of the file.
pub lexical_within : (total left : ℕ) (bytes : List ℕ) (ls : List Lexeme) (f : Option ℕ) (place : ℕ) → f ≡ Some place → LexesFrom total left bytes ls f → place ≤ total
lexical_within total _ bytes _ _ place e (lexing.LexesFrom.ended g) = cc
lexical_within total _ bytes _ _ place e lexing.LexesFrom.trailer = cc
lexical_within total _ bytes ls f place e (lexing.LexesFrom.taken {rest = rest} {ls = more} scanned later all) = lexical_within total _ rest more f place e later
lexical_within total _ bytes _ _ place e (lexing.LexesFrom.fault some none) = let same : total - length bytes ≡ place = same_Some _ _ e in omega (arith, same)

pub syntax_within : (bytes : List ℕ) (place : ℕ) → IsSyntaxPlace bytes place → place ≤ length bytes
syntax_within bytes place (syntax.IsSyntaxPlace.lexical {ls = ls} lexes) = lexical_within (length bytes) 2 bytes ls (Some place) place refl lexes
syntax_within bytes place (syntax.IsSyntaxPlace.syntactic {ls = ls} lexes (syntax.IsUnexpectedPlace.unexpected before after l split begins none is)) =
    omega (arith, is, starts_within (length bytes) 2 bytes ls None lexes l (subst (λ ms. Contains ms l) (sym split) (contains_middle_lexeme before l after)))
  where
    contains_middle_lexeme : (xs : List Lexeme) (y : Lexeme) (ys : List Lexeme) → Contains (xs ++ y ∷ ys) y
    contains_middle_lexeme [] y ys = contains_here y ys
    contains_middle_lexeme (x ∷ xs) y ys = contains_there x (xs ++ y ∷ ys) y (contains_middle_lexeme xs y ys)
syntax_within bytes place (syntax.IsSyntaxPlace.syntactic {ls = ls} lexes (syntax.IsUnexpectedPlace.unfinished begins none is)) = omega (arith, is)

-- ---- Mentions, and attributes that should give a cost.

index_within : (total : ℕ) (ls : List Lexeme) (k : ℕ) → ((l : Lexeme) → Contains ls l → l.start ≤ total) → slice_index_or (map (λ (l : Lexeme). l.start) ls) k 0 ≤ total
index_within total [] zero h = omega arith
index_within total [] (suc k) h = omega arith
index_within total (l ∷ ls) zero h = h l (contains_here l ls)
index_within total (l ∷ ls) (suc k) h = index_within total ls k (λ m c. h m (contains_there l ls m c))

seen_one : (kind : Option TokenKind) (m l : Lexeme) → Contains (seen_if kind m) l → m ≡ l
seen_one None m l c = absurd (contains_none l c)
seen_one (Some g) m l c = contains_one m l c

seen_within : (bytes : List ℕ) (ls : List Lexeme) (l : Lexeme) → Contains (seen bytes ls) l → Contains ls l
seen_within bytes ls l c =
    let one = flat_map_contains (λ (m : Lexeme). seen_if (token_kind_by m.kind (bytes_of bytes m)) m) ls l c in
    subst (Contains ls) (seen_one (token_kind_by one.0.kind (bytes_of bytes one.0)) one.0 l one.2) one.1

pub mention_within : (bytes : List ℕ) (found : PlacedModule) → ReadsPlaced bytes found → (m : Mention) → Contains found.mentions m → m.start ≤ length bytes
mention_within bytes found h m c =
    let one = map_contains (mention_of (seen bytes h.lexemes)) (in_file h.file) m (subst (λ ms. Contains ms m) h.mentions c) in
    subst (λ (y : Mention). y.start ≤ length bytes) one.2
    (index_within (length bytes) (seen bytes h.lexemes) (length (seen bytes h.lexemes) - one.0.from_end) (λ l d. starts_within (length bytes) 2 bytes h.lexemes None h.lexes l (seen_within bytes h.lexemes l d)))

bad_cost_start : (start place : ℕ) (kind : Option TokenKind) (text : List ℕ) → Contains (bad_cost_at start kind text) place → start ≡ place
bad_cost_start start place (Some g) text c = absurd (contains_none place c)
bad_cost_start start place None text c = by_case (is_bad_cost_text text) c
  where
    by_case : (b : Bool) → Contains (cond b (start ∷ []) []) place → start ≡ place
    by_case true d = contains_one start place d
    by_case false d = absurd (contains_none place d)

pub cost_within : (bytes : List ℕ) (found : PlacedModule) → ReadsPlaced bytes found → (start : ℕ) → Contains found.bad_costs start → start ≤ length bytes
cost_within bytes found h start c =
    let one = flat_map_contains (bad_cost_of bytes) h.lexemes start (subst (λ ss. Contains ss start) h.bad c) in
    subst (λ s. s ≤ length bytes) (bad_cost_start one.0.start start (token_kind_by one.0.kind (bytes_of bytes one.0)) (bytes_of bytes one.0) one.2) (starts_within (length bytes) 2 bytes h.lexemes None h.lexes one.0 one.1)

-- ---- Files.

-- What is known of a file that was read.
pub read_at : (files : List GrammarFile) (found : List PlacedModule) (n : ℕ) (placed : PlacedModule) → AreRead files found → slice_get found n ≡ Some placed → (f : GrammarFile) × (slice_get files n ≡ Some f) × ReadsPlaced f.bytes placed
read_at [] [] zero placed h e = cc
read_at [] [] (suc n) placed h e = cc
read_at [] (p ∷ found) n placed h e = absurd h
read_at (f ∷ files) [] n placed h e = absurd h
read_at (f ∷ files) (p ∷ found) zero placed h e = (f, refl, subst (ReadsPlaced f.bytes) (same_Some p placed e) h.0)
read_at (f ∷ files) (p ∷ found) (suc n) placed h e = read_at files found n placed h.1 e

-- A mention of the files is within its file.
pub mentions_within : (files : List GrammarFile) (found : List PlacedModule) (n : ℕ) (before : List Mention) (x : Mention) → AreRead files found → Mentions found n before x → (f : GrammarFile) × (slice_get files n ≡ Some f) × (x.start ≤ length f.bytes)
mentions_within files found n before x h m =
    let one = read_at files found n m.placed h m.of_files in
    (one.0, one.1, mention_within one.0.bytes m.placed one.2 x (subst (λ ms. Contains ms x) (sym m.split) (middle before x m.after)))
  where
    middle : (xs : List Mention) (y : Mention) (ys : List Mention) → Contains (xs ++ y ∷ ys) y
    middle [] y ys = contains_here y ys
    middle (z ∷ xs) y ys = contains_there z (xs ++ y ∷ ys) y (middle xs y ys)
