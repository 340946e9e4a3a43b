-- The mentions that the walk over lexemes finds are the names of each derivation, with the positions of their lexemes.
use Rattle.std.specs.Prelude.{slice_index_or}
use Rattle.std.proofs.Common.{◌≡◌, ℕ, suc, ◌-◌, List, [], ◌∷◌, ◌++◌, length, map, take, Option, Some, None, refl, sym, ap, ◌∙◌, append_assoc, arith}
use Rattle.std.proofs.lemmas.List.{length-append, length-map, map-append, take-map, get_or_at}
use Rattle.mh_lex.specs.declared.kinds.Lexeme.{Lexeme}
use Rattle.mh_lex.specs.LexemeTexts.{bytes_of}
use Rattle.mh_rules.specs.Modules.{no_module}
use Rattle.mh_rules.specs.declared.modules.Ref.{Ref}
use Rattle.mh_rules.specs.declared.modules.Module.{Module}
use Rattle.mh_reader_parser.specs.declared.token_kinds.TokenKind.{TokenKind}
use Rattle.mh_reader_parser.specs.declared.token_kinds.TokenKind.TheVariants as signs
use Rattle.mh_reader_parser.specs.TokenKinds.{FileToken, file_tokens, file_token_by, token_kind_by, text_by, cost_after}
use Rattle.mh_reader_parser.specs.Spelling.{File}
use Rattle.mh_reader_places.specs.Mentions.{Named, named, in_file}
use Rattle.mh_reader_places.specs.Places.{seen, seen_if, start_from_end, mention_of}
use Rattle.mh_reader_places.specs.code.ScanSteps.{start, taken, without_name, with_name, role_in, reference_of, names_after}
use Rattle.mh_reader_places.specs.code.Walks.{walk, mention_at, scan_after, mentions_after, mentions_from}
use Rattle.mh_reader_places.specs.declared.mentions.Role.{Role}
use Rattle.mh_reader_places.specs.declared.scan.Scan.{Scan}
use Rattle.mh_reader_places.proofs.Walks.{walk-in_file}

without_name-map : {A B : Type 0} (f : A → B) (g : TokenKind) (found : List A) → without_name g (map f found) ≡ map f (without_name g found)
without_name-map f signs.Equals found = ap (λ n. take (n - 1) (map f found)) (length-map found f) ∙ take-map f (length found - 1) found
without_name-map f _ found = refl

with_name-map : {A B : Type 0} (f : A → B) (of : Role → Ref → A) (o : Option Role) (r : Option Ref) (found : List A) → with_name (λ role name. f (of role name)) o r (map f found) ≡ map f (with_name of o r found)
with_name-map f of None r found = refl
with_name-map f of (Some given) None found = refl
with_name-map f of (Some given) (Some r) found = sym (map-append f found (of given r ∷ []))

names_after-map : {A B : Type 0} (f : A → B) (of : Role → Ref → A) (s : Scan) (g : TokenKind) (text : List ℕ) (found : List A) →
    names_after (λ role name. f (of role name)) s g text (map f found) ≡ map f (names_after of s g text found)
names_after-map f of s g text found =
    ap (λ l. with_name (λ role name. f (of role name)) (role_in s.section (taken s g) g) (reference_of g text) l) (without_name-map f g found)
    ∙ with_name-map f of (role_in s.section (taken s g) g) (reference_of g text) (without_name g found)

length_by : (o : Option TokenKind) (l : Lexeme) (text : List ℕ) (c : Option ℕ) (xs : List FileToken) (ls : List Lexeme) → length xs ≡ length ls → length (file_token_by o text c ++ xs) ≡ length (seen_if o l ++ ls)
length_by None l text c xs ls e = e
length_by (Some g) l text c xs ls e = ap (λ n. suc n) e

length_seen : (bytes : List ℕ) (ls : List Lexeme) → length (file_tokens bytes ls) ≡ length (seen bytes ls)
length_seen bytes [] = refl
length_seen bytes (l ∷ ls) =
    length_by (token_kind_by l.kind (bytes_of bytes l)) l (text_by l.kind (bytes_of bytes l)) (cost_after bytes ls) (file_tokens bytes ls) (seen bytes ls) (length_seen bytes ls)

start_at : (before : List Lexeme) (l : Lexeme) (after : List Lexeme) (n : ℕ) → n ≡ suc (length after) → start_from_end (before ++ l ∷ after) n ≡ l.start
start_at before l after n e =
    ap (λ xs. slice_index_or xs (length (before ++ l ∷ after) - n) 0) (map-append (λ (k : Lexeme). k.start) before (l ∷ after))
    ∙ get_or_at (map (λ (k : Lexeme). k.start) before) l.start (map (λ (k : Lexeme). k.start) after) 0 (length (before ++ l ∷ after) - n)
    (omega (arith, length-append before (l ∷ after), length-map before (λ (k : Lexeme). k.start)))

-- One lexeme, whose token kind is o, and the lexemes after it.
module _ (bytes : List ℕ) (all : List Lexeme) where
  from_lexeme : (before : List Lexeme) (l : Lexeme) (ls : List Lexeme) (s : Scan) (found : List Named) (o : Option TokenKind) (text : List ℕ) (c : Option ℕ) → all ≡ before ++ (seen_if o l ++ seen bytes ls) →
      ((front : List Lexeme) (t : Scan) (more : List Named) → all ≡ front ++ seen bytes ls → mentions_from bytes t (map (mention_of all) more) ls ≡ map (mention_of all) (walk t more (file_tokens bytes ls))) →
      mentions_from bytes (scan_after s o) (mentions_after l.start s o text (map (mention_of all) found)) ls ≡ map (mention_of all) (walk s found (file_token_by o text c ++ file_tokens bytes ls))
  from_lexeme before l ls s found None text c e later = later before s found e
  from_lexeme before l ls s found (Some g) text c e later =
      let xs = file_tokens bytes ls in
      let x : FileToken = record { sign = g; text = text; cost = c } in
      let place : start_from_end all (length (x ∷ xs)) ≡ l.start = ap (λ k. start_from_end k (length (x ∷ xs))) e ∙ start_at before l (seen bytes ls) (suc (length xs)) (ap (λ n. suc n) (length_seen bytes ls)) in
      ap (λ k. mentions_from bytes (taken s g) k ls)
      (ap (λ n. names_after (mention_at n) s g text (map (mention_of all) found)) (sym place) ∙ names_after-map (mention_of all) (named (x ∷ xs)) s g text found)
      ∙ later (before ++ l ∷ []) (taken s g) (names_after (named (x ∷ xs)) s g text found) (e ∙ sym (append_assoc before (l ∷ []) (seen bytes ls)))

  from_lexemes : (ls : List Lexeme) (before : List Lexeme) (s : Scan) (found : List Named) → all ≡ before ++ seen bytes ls →
      mentions_from bytes s (map (mention_of all) found) ls ≡ map (mention_of all) (walk s found (file_tokens bytes ls))
  from_lexemes [] before s found e = refl
  from_lexemes (l ∷ ls) before s found e =
      from_lexeme before l ls s found (token_kind_by l.kind (bytes_of bytes l)) (text_by l.kind (bytes_of bytes l)) (cost_after bytes ls) e (λ front t more. from_lexemes ls front t more)

pub mentions_from-in_file : (bytes : List ℕ) (ls : List Lexeme) (out : Module) (t : File no_module (file_tokens bytes ls) out) → mentions_from bytes start [] ls ≡ map (mention_of (seen bytes ls)) (in_file t)
mentions_from-in_file bytes ls out t = from_lexemes bytes (seen bytes ls) ls [] start [] refl ∙ ap (λ xs. map (mention_of (seen bytes ls)) xs) (walk-in_file t)
