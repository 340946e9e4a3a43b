-- The code of actions, headers and attributes, and the comments in it, as the format describes them (OCaml manual,
-- lexical conventions; where this project accepts less, the rule is its own).
use Rattle.std.specs.Prelude.{◌≡◌, ◌≢◌, ℕ, List, [], ◌∷◌, ◌++◌, Option, Some, None, true, false, codes, drop, ⊤}
use Rattle.std.specs.List.{AllByRecursion}
use Rattle.mh_lex.specs.declared.kinds.Kind.{Kind}
use Rattle.mh_lex.specs.declared.kinds.Kind.TheVariants as kinds
use Rattle.mh_lex.specs.declared.kinds.Lexeme.{Lexeme}
use Rattle.mh_lex_bytes.specs.Bytes.{is_word_start, is_word_byte, is_decimal, is_octal, is_hexadecimal, is_id_byte, is_escape}
use Rattle.mh_lex.specs.LexemeTexts.{bytes_of}

-- The text between the quotes of a string. A backslash escapes the next byte.
pub data StringContent : List ℕ → Type 0 where
  nothing : StringContent []
  free : {b : ℕ} {s : List ℕ} → b ≢ 34 → b ≢ 92 → StringContent s → StringContent (b ∷ s)
  taken : {b : ℕ} {s : List ℕ} → StringContent s → StringContent (92 ∷ b ∷ s)

-- A character literal with its quotes.
pub data CharacterLiteral : List ℕ → Type 0 where
  one : {b : ℕ} → b ≢ 92 → b ≢ 39 → b ≢ 10 → CharacterLiteral (39 ∷ b ∷ 39 ∷ [])
  escape : {b : ℕ} → is_escape b ≡ true → CharacterLiteral (39 ∷ 92 ∷ b ∷ 39 ∷ [])
  decimal : {a b c : ℕ} → is_decimal a ≡ true → is_decimal b ≡ true → is_decimal c ≡ true → CharacterLiteral (39 ∷ 92 ∷ a ∷ b ∷ c ∷ 39 ∷ [])
  hexadecimal : {a b : ℕ} → is_hexadecimal a ≡ true → is_hexadecimal b ≡ true → CharacterLiteral (39 ∷ 92 ∷ 120 ∷ a ∷ b ∷ 39 ∷ [])
  octal : {a b c : ℕ} → is_octal a ≡ true → is_octal b ≡ true → is_octal c ≡ true → CharacterLiteral (39 ∷ 92 ∷ 111 ∷ a ∷ b ∷ c ∷ 39 ∷ [])

-- The text, which is followed by `rest`, ends with the first occurrence of `stop`.
pub data EndsAtFirst (stop : List ℕ) : List ℕ → List ℕ → Type 0 where
  here : {text rest : List ℕ} → text ≡ stop → EndsAtFirst stop text rest
  later : {b : ℕ} {text rest : List ℕ} → ((behind : List ℕ) → b ∷ text ++ rest ≡ stop ++ behind → ⊥) → EndsAtFirst stop text rest → EndsAtFirst stop (b ∷ text) rest

abbrev pub IsId : List ℕ → Type 0
IsId id = AllByRecursion (λ b. is_id_byte b ≡ true) id

-- The bytes do not continue a word.
abbrev pub EndsWord : List ℕ → Type 0
EndsWord [] = ⊤
EndsWord (b ∷ bs) = is_word_byte b ≡ false

-- The text, which is followed by `rest`, is a string, a character literal, a word of greatest length, or a quoted
-- string, which ends at the first bar that is followed by its identifier and a brace.
pub data CodeItem : List ℕ → List ℕ → Type 0 where
  string : (s : List ℕ) {rest : List ℕ} → StringContent s → CodeItem (34 ∷ s ++ 34 ∷ []) rest
  character : {text rest : List ℕ} → CharacterLiteral text → CodeItem text rest
  word : {b : ℕ} {bs rest : List ℕ} → is_word_start b ≡ true → AllByRecursion (λ c. is_word_byte c ≡ true) bs → EndsWord rest → CodeItem (b ∷ bs) rest
  quoted : (id text : List ℕ) {rest : List ℕ} → IsId id → EndsAtFirst (124 ∷ id ++ 125 ∷ []) text rest → CodeItem (123 ∷ id ++ 124 ∷ text) rest

-- The bytes begin with an item or a comment, whether or not it ends; so the first byte is not a single byte of code.
pub data StartsItem : List ℕ → Type 0 where
  string : {s : List ℕ} → StartsItem (34 ∷ s)
  character : (text s : List ℕ) → CharacterLiteral text → StartsItem (text ++ s)
  word : {b : ℕ} {s : List ℕ} → is_word_start b ≡ true → StartsItem (b ∷ s)
  quoted : (id s : List ℕ) → IsId id → StartsItem (123 ∷ id ++ 124 ∷ s)
  comment : {s : List ℕ} → StartsItem (40 ∷ 42 ∷ s)

-- The text, which is followed by `rest`, is code and its closing delimiter `close`. Code consists of items, comments,
-- nested levels and single bytes. A nested level begins with the byte `nest` and is closed like the code itself. A
-- level or a single byte is read only where no item or comment begins. A single byte is read only where, besides, no
-- level begins and the closing delimiter does not come next.
pub data Code : Option ℕ → List ℕ → List ℕ → List ℕ → Type 0 where
  closes : {nest : Option ℕ} {close text rest : List ℕ} → text ≡ close → Code nest close text rest
  item : {nest : Option ℕ} {close rest : List ℕ} (text more : List ℕ) → CodeItem text (more ++ rest) → Code nest close more rest → Code nest close (text ++ more) rest
  comment : {nest : Option ℕ} {close rest : List ℕ} (text more : List ℕ) → Code None (codes "*)") text (more ++ rest) → Code nest close more rest → Code nest close (40 ∷ 42 ∷ text ++ more) rest
  level : {nest : Option ℕ} {close rest : List ℕ} (b : ℕ) (text more : List ℕ) → nest ≡ Some b → (StartsItem (b ∷ text ++ (more ++ rest)) → ⊥) →
      Code nest close text (more ++ rest) → Code nest close more rest → Code nest close (b ∷ text ++ more) rest
  byte : {nest : Option ℕ} {close rest : List ℕ} (b : ℕ) (more : List ℕ) → nest ≢ Some b → (StartsItem (b ∷ more ++ rest) → ⊥) → ((behind : List ℕ) → b ∷ more ++ rest ≡ close ++ behind → ⊥) →
      Code nest close more rest → Code nest close (b ∷ more) rest

-- The text, which is followed by `rest`, is an opening and code.
abbrev pub IsOpenedCode : List ℕ → Option ℕ → List ℕ → List ℕ → List ℕ → Type 0
IsOpenedCode opening nest close text rest = (code : List ℕ) × (text ≡ opening ++ code) × Code nest close code rest

-- The text of an action, a header or an attribute is an opening and code.
pub data HasCode : Kind → List ℕ → List ℕ → Type 0 where
  action : {text rest : List ℕ} → IsOpenedCode (codes "{") (Some 123) (codes "}") text rest → HasCode kinds.Action text rest
  header : {text rest : List ℕ} → IsOpenedCode (codes "%{") None (codes "%}") text rest → HasCode kinds.Header text rest
  attribute : {text rest : List ℕ} → IsOpenedCode (codes "[@") (Some 91) (codes "]") text rest → HasCode kinds.Attribute text rest
  own_attribute : {text rest : List ℕ} → IsOpenedCode (codes "%[@") (Some 91) (codes "]") text rest → HasCode kinds.Attribute text rest

-- If the kind is an action, a header or an attribute, the text has its code; other kinds have no code.
abbrev pub HasCodeIfAny : Kind → List ℕ → List ℕ → Type 0
HasCodeIfAny kinds.Action text rest = HasCode kinds.Action text rest
HasCodeIfAny kinds.Header text rest = HasCode kinds.Header text rest
HasCodeIfAny kinds.Attribute text rest = HasCode kinds.Attribute text rest
HasCodeIfAny _ text rest = ⊤

-- The bytes of the lexeme, which are followed by the rest of the file, are an opening and code, if its kind has code.
abbrev pub SpansCode : List ℕ → Lexeme → Type 0
SpansCode bytes l = HasCodeIfAny l.kind (bytes_of bytes l) (drop l.end bytes)
