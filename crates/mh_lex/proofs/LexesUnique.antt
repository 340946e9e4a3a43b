-- Lemmas on lexemes in sequence: they are unique, and the loop of `lex` finds them.
use Rattle.std.proofs.Common.{◌≡◌, ◌≢◌, ℕ, suc, ◌+◌, ◌-◌, ◌<◌, ◌≤◌, List, [], ◌++◌, length, drop, Option, Some, None, refl, sym, ap, subst, ◌∙◌, arith, append_assoc, length-drop}
use Rattle.std.proofs.lemmas.List.{drop-drop, append-nil}
use Rattle.mh_lex.specs.declared.code.Delimiter.{Delimiter}
use Rattle.mh_lex.specs.declared.kinds.Kind.{Kind}
use Rattle.mh_lex.specs.declared.kinds.Lexeme.{Lexeme}
use Rattle.mh_lex.specs.declared.kinds.LexemeStart.TheVariants.{Ended, Short, Long, Fault}
use Rattle.mh_lex.specs.LexemeStarts.{lexeme_start}
use Rattle.mh_lex.specs.Bodies.{Body}
use Rattle.mh_lex.specs.Lexing.{Scanned, LexesFrom, lexeme_between_rests, lexeme_between, percents_left}
use Rattle.mh_lex.specs.Lexing.Scanned.{short, long}
use Rattle.mh_lex.specs.Lexing.LexesFrom.{ended, trailer, taken, fault}
use Rattle.mh_lex.proofs.CodeLevels.{Body-unique}

pub Scanned-short : {bytes rest : List ℕ} {what other : Option Kind} {n : ℕ} → lexeme_start bytes ≡ Short what n → Scanned bytes other rest → (other ≡ what) × (rest ≡ drop n bytes)
Scanned-short s (short t q) = (cc, cc)
Scanned-short s (long t b) = (cc, cc)

pub Scanned-long : {bytes rest : List ℕ} {what other : Option Kind} {e : Delimiter} {n : ℕ} → lexeme_start bytes ≡ Long what e n → Scanned bytes other rest → (other ≡ what) × Body e (drop n bytes) rest
Scanned-long s (short t q) = (cc, cc)
Scanned-long {bytes} {rest} {what} {other} {e} {n} s (long {e = d} {n = m} t b) =
    let same : d ≡ e = cc in let place : m ≡ n = cc in (cc, subst (λ k. Body e (drop k bytes) rest) place (subst (λ k. Body k (drop m bytes) rest) same b))

pub Scanned-ended : {bytes rest : List ℕ} {other : Option Kind} → lexeme_start bytes ≡ Ended → Scanned bytes other rest → ⊥
Scanned-ended s (short t q) = cc
Scanned-ended s (long t b) = cc

pub Scanned-fault : {bytes rest : List ℕ} {other : Option Kind} → lexeme_start bytes ≡ Fault → Scanned bytes other rest → ⊥
Scanned-fault s (short t q) = cc
Scanned-fault s (long t b) = cc

-- The lexeme, blank or comment with which the bytes begin is unique.
pub Scanned-unique : {bytes r q : List ℕ} {v w : Option Kind} → Scanned bytes v r → Scanned bytes w q → (w ≡ v) × (q ≡ r)
Scanned-unique (short s e) t = let x = Scanned-short s t in (x.0, x.1 ∙ sym e)
Scanned-unique (long s b) t = let x = Scanned-long s t in (x.0, Body-unique b x.1)

-- The list of lexemes and the first fault are unique.
pub LexesFrom-unique : {total left : ℕ} {bytes : List ℕ} {one two : List Lexeme} {f g : Option ℕ} → LexesFrom total left bytes one f → LexesFrom total left bytes two g → (two ≡ one) × (g ≡ f)
LexesFrom-unique (ended e) (ended d) = (refl, refl)
LexesFrom-unique (ended e) (taken t l q) = absurd (Scanned-ended e t)
LexesFrom-unique (ended e) (fault d h) = absurd (d e)
LexesFrom-unique trailer trailer = (refl, refl)
LexesFrom-unique (taken t l q) (ended e) = absurd (Scanned-ended e t)
LexesFrom-unique {total} {bytes = bytes} {one = one} {two = two} {f = f} {g = g} (taken {left = left} {rest = r} {what = v} {ls = ls} t l q) (taken {rest = s} {what = w} {ls = ms} u m p) =
    let same = Scanned-unique t u in
    let moved = subst (λ k. LexesFrom total (percents_left k left) r ms g) same.0 (subst (λ k. LexesFrom total (percents_left w left) k ms g) same.1 m) in
    let x = LexesFrom-unique l moved in
    (cc, x.1)
LexesFrom-unique (taken {rest = r} {what = v} t l q) (fault d h) = absurd (h v r t)
LexesFrom-unique (fault d h) (ended e) = absurd (d e)
LexesFrom-unique (fault d h) (taken {rest = r} {what = v} t l q) = absurd (h v r t)
LexesFrom-unique (fault d h) (fault e k) = (refl, refl)

-- The invariant of `lex`: the lexemes so far, followed by those of the bytes from `at` on, are those of the file. At
-- most `left` separators `%%` are still to come; at the start of the file these are 2.
pub record LexedSoFar (bytes : List ℕ) (at left : ℕ) (lexemes : List Lexeme) : Type 0 where
  pub goes_on : (ls : List Lexeme) (f : Option ℕ) → LexesFrom (length bytes) left (drop at bytes) ls f → LexesFrom (length bytes) 2 bytes (lexemes ++ ls) f

pub LexedSoFar-start : (bytes : List ℕ) → LexedSoFar bytes 0 2 []
LexedSoFar-start bytes = record { goes_on = λ ls f l. l }

module _ (bytes : List ℕ) (at left : ℕ) (lexemes : List Lexeme) (s : LexedSoFar bytes at left lexemes) (more : 0 < left) where
  pub LexedSoFar-taken : (what : Option Kind) (end : ℕ) → Scanned (drop at bytes) what (drop end bytes) → LexedSoFar bytes end (percents_left what (left - 1)) (lexemes ++ lexeme_between_rests (length bytes) (drop at bytes) what (drop end bytes))
  LexedSoFar-taken what end t = record {
    goes_on = λ ls f l. rw append_assoc (s.goes_on _ f (
        let one : left ≡ suc (left - 1) = omega arith in
        subst (λ k. LexesFrom (length bytes) k (drop at bytes) (lexeme_between_rests (length bytes) (drop at bytes) what (drop end bytes) ++ ls) f) (sym one) (taken t l refl)));
  }

  pub LexedSoFar-ended : lexeme_start (drop at bytes) ≡ Ended → LexesFrom (length bytes) 2 bytes lexemes None
  LexedSoFar-ended e = let one : left ≡ suc (left - 1) = omega arith in
      subst (λ k. LexesFrom (length bytes) 2 bytes k None) (append-nil lexemes) (s.goes_on [] None (subst (λ k. LexesFrom (length bytes) k (drop at bytes) [] None) (sym one) (ended e)))

  pub LexedSoFar-fault : at ≤ length bytes → lexeme_start (drop at bytes) ≢ Ended → ((what : Option Kind) (rest : List ℕ) → Scanned (drop at bytes) what rest → ⊥) → LexesFrom (length bytes) 2 bytes lexemes (Some at)
  LexedSoFar-fault h e t = let one : left ≡ suc (left - 1) = omega arith in
      let place : length bytes - length (drop at bytes) ≡ at = omega (arith, length-drop at bytes) in
      subst (λ k. LexesFrom (length bytes) 2 bytes lexemes (Some k)) place
      (subst (λ k. LexesFrom (length bytes) 2 bytes k (Some (length bytes - length (drop at bytes)))) (append-nil lexemes)
      (s.goes_on [] _ (subst (λ k. LexesFrom (length bytes) k (drop at bytes) [] (Some (length bytes - length (drop at bytes)))) (sym one) (fault e t))))

pub LexedSoFar-trailer : (bytes : List ℕ) (at left : ℕ) (lexemes : List Lexeme) → LexedSoFar bytes at left lexemes → left ≡ 0 → LexesFrom (length bytes) 2 bytes lexemes None
LexedSoFar-trailer bytes at left lexemes s z =
    subst (λ k. LexesFrom (length bytes) 2 bytes k None) (append-nil lexemes) (s.goes_on [] None (subst (λ k. LexesFrom (length bytes) k (drop at bytes) [] None) (sym z) trailer))

-- The lexeme between two rests of the file is the lexeme between the positions at which the rests begin.
pub lexeme_between_rests-at : (bytes : List ℕ) (at end : ℕ) (what : Option Kind) → at ≤ length bytes → end ≤ length bytes → lexeme_between_rests (length bytes) (drop at bytes) what (drop end bytes) ≡ lexeme_between what at end
lexeme_between_rests-at bytes at end what h k =
    let a : length bytes - length (drop at bytes) ≡ at = omega (arith, length-drop at bytes) in
    let b : length bytes - length (drop end bytes) ≡ end = omega (arith, length-drop end bytes) in
    rw (a, b) refl

pub LexedSoFar-next : (bytes : List ℕ) (at left end : ℕ) (lexemes new : List Lexeme) (what : Option Kind) → LexedSoFar bytes at left lexemes → 0 < left → at < end → end ≤ length bytes →
    Scanned (drop at bytes) what (drop end bytes) → new ≡ lexemes ++ lexeme_between what at end → LexedSoFar bytes end (percents_left what (left - 1)) new
LexedSoFar-next bytes at left end lexemes new what s more a b t e =
    let same : at ≤ length bytes = omega arith in
    subst (λ k. LexedSoFar bytes end (percents_left what (left - 1)) k) (ap (λ k. lexemes ++ k) (lexeme_between_rests-at bytes at end what same b) ∙ sym e) (LexedSoFar-taken bytes at left lexemes s more what end t)

-- The piece that the scan finds at a position is the one with which the bytes from there begin.
pub finds_short : (bytes : List ℕ) (at n : ℕ) (what : Option Kind) → Short what n ≡ lexeme_start (drop at bytes) → Scanned (drop at bytes) what (drop (at + n) bytes)
finds_short bytes at n what e = short (sym e) (sym (drop-drop n at bytes))

pub finds_long : (bytes : List ℕ) (at n m : ℕ) (what : Option Kind) (code : Delimiter) → Long what code n ≡ lexeme_start (drop at bytes) → Body code (drop (at + n) bytes) (drop m (drop (at + n) bytes)) → Scanned (drop at bytes) what (drop (at + n + m) bytes)
finds_long bytes at n m what code e b = long (sym e) (subst (λ k. Body code k (drop (at + n + m) bytes)) (sym (drop-drop n at bytes)) (subst (λ k. Body code (drop (at + n) bytes) k) (drop-drop m (at + n) bytes) b))

-- If the code after an opening is not closed, no lexeme, blank or comment begins here.
pub finds_unclosed : (bytes : List ℕ) (at n : ℕ) (what : Option Kind) (code : Delimiter) → Long what code n ≡ lexeme_start (drop at bytes) → ((after : List ℕ) → Body code (drop (at + n) bytes) after → ⊥) →
    (lexeme_start (drop at bytes) ≢ Ended) × ((other : Option Kind) (rest : List ℕ) → Scanned (drop at bytes) other rest → ⊥)
finds_unclosed bytes at n what code e h = (λ d. cc, λ other rest t. h rest (subst (λ k. Body code k rest) (drop-drop n at bytes) (Scanned-long (sym e) t).1))

pub finds_fault : (bytes : List ℕ) (at : ℕ) → Fault ≡ lexeme_start (drop at bytes) →
    (lexeme_start (drop at bytes) ≢ Ended) × ((other : Option Kind) (rest : List ℕ) → Scanned (drop at bytes) other rest → ⊥)
finds_fault bytes at e = (λ d. cc, λ other rest t. Scanned-fault (sym e) t)
