-- Proves that actions, headers and attributes among the lexemes are code by the definition `Code`.
use Rattle.std.proofs.Common.{◌≡◌, ℕ, zero, suc, ◌<◌, List, [], ◌∷◌, ◌++◌, take, drop, Option, Some, None, true, false, refl, sym, ap, subst, ◌∙◌, append_assoc}
use Rattle.std.specs.List.{AllByRecursion}
use Rattle.std.proofs.lemmas.List.{take-append-drop}
use Rattle.mh_lex.specs.declared.code.Delimiter.{Delimiter}
use Rattle.mh_lex.specs.declared.code.CodeStep.{CodeStep}
use Rattle.mh_lex.specs.declared.code.CodeStep.TheVariants.{Closes, Passes, Nests, Remark}
use Rattle.mh_lex.specs.declared.kinds.Kind.{Kind}
use Rattle.mh_lex.specs.declared.kinds.Kind.TheVariants as kinds
use Rattle.mh_lex.specs.declared.kinds.Lexeme.{Lexeme}
use Rattle.mh_lex.specs.Bodies.{Body}
use Rattle.mh_lex.specs.Bodies.Body.{closes, passes, nests, remark}
use Rattle.mh_lex.specs.InCode.{CodeItem, StartsItem, Code, IsOpenedCode, HasCodeIfAny, SpansCode, Code as code, HasCode as coded}
use Rattle.mh_lex.specs.Lexing.{Scanned, Lexes}
use Rattle.mh_lex.specs.Lexing.Scanned.{short, long}
use Rattle.mh_lex.proofs.CodeItems.{AreBytes, Reading, nest_of, close_of, has_items, reading_of, Reading as readings}
use Rattle.mh_lex.proofs.LexemesHaveText.{Opening, opening_at, holds_code, short_kind_has_no_code, HoldsForKind, lexemes_hold, Scanned-text, Opening as openings}

all_drop : {X : Type 0} (P : X → Type 0) (n : ℕ) (xs : List X) → AllByRecursion P xs → AllByRecursion P (drop n xs)
all_drop P zero xs h = h
all_drop P (suc n) [] h = tt
all_drop P (suc n) (x ∷ xs) h = all_drop P n xs h.1

all_behind : {X : Type 0} (P : X → Type 0) (xs ys : List X) → AllByRecursion P (xs ++ ys) → AllByRecursion P ys
all_behind P [] ys h = h
all_behind P (x ∷ xs) ys h = all_behind P xs ys h.1

-- The bytes begin with code up to its closing delimiter.
record CodeIn (nest : Option ℕ) (close s rest : List ℕ) : Type 0 where
  text : List ℕ
  split : s ≡ text ++ rest
  is : Code nest close text rest

module _ {nest : Option ℕ} {close s : List ℕ} where
  ended_in : {f : CodeStep} (n : ℕ) (rest : List ℕ) → Reading nest close s f → f ≡ Closes n → rest ≡ drop n s → CodeIn nest close s rest
  ended_in n rest (readings.ends {n = m} q) e r =
      let same : m ≡ n = cc in record { text = close; split = q ∙ ap (λ k. close ++ drop k s) same ∙ ap (λ k. close ++ k) (sym r); is = code.closes refl }
  ended_in n rest (readings.goes i) e r = absurd (cc)
  ended_in n rest (readings.comes q) e r = absurd (cc)
  ended_in n rest (readings.begins b nb q lone) e r = absurd (cc)
  ended_in n rest (readings.goes_by b o q lone open_still) e r = absurd (cc)
  ended_in n rest (readings.stays f) e r = absurd (cc)

  item_in : (n : ℕ) (rest : List ℕ) → CodeItem (take n s) (drop n s) → CodeIn nest close (drop n s) rest → CodeIn nest close s rest
  item_in n rest i x = record {
    text = take n s ++ x.text;
    split = sym (take-append-drop n s) ∙ ap (λ k. take n s ++ k) x.split ∙ sym (append_assoc (take n s) x.text rest);
    is = code.item (take n s) x.text (subst (λ r. CodeItem (take n s) r) x.split i) x.is;
  }

  passed_in : {f : CodeStep} (n : ℕ) (rest : List ℕ) → Reading nest close s f → f ≡ Passes n → CodeIn nest close (drop n s) rest → CodeIn nest close s rest
  passed_in n rest (readings.ends q) e x = absurd (cc)
  passed_in n rest (readings.goes {n = m} i) e x = let same : m ≡ n = cc in item_in n rest (subst (λ k. CodeItem (take k s) (drop k s)) same i) x
  passed_in n rest (readings.comes q) e x = absurd (cc)
  passed_in n rest (readings.begins b nb q lone) e x = absurd (cc)
  passed_in n rest (readings.goes_by b o q lone open_still) e x =
      let one : n ≡ 1 = cc in
      let y = subst (λ k. CodeIn nest close (drop k s) rest) one x in
      let whole : s ≡ b ∷ y.text ++ rest = q ∙ ap (λ k. b ∷ k) y.split in
      record { text = b ∷ y.text; split = whole; is = code.byte b y.text o (λ st. lone (subst StartsItem (sym whole) st)) (λ behind r. open_still behind (whole ∙ r)) y.is }
  passed_in n rest (readings.stays f) e x = absurd (cc)

  nested_in : {f : CodeStep} (mid rest : List ℕ) → Reading nest close s f → f ≡ Nests → CodeIn nest close (drop 1 s) mid → CodeIn nest close mid rest → CodeIn nest close s rest
  nested_in mid rest (readings.ends q) e x y = absurd (cc)
  nested_in mid rest (readings.goes i) e x y = absurd (cc)
  nested_in mid rest (readings.comes q) e x y = absurd (cc)
  nested_in mid rest (readings.begins b nb q lone) e x y =
      let whole : s ≡ b ∷ x.text ++ (y.text ++ rest) = q ∙ ap (λ k. b ∷ k) (x.split ∙ ap (λ k. x.text ++ k) y.split) in
      record {
        text = b ∷ x.text ++ y.text;
        split = whole ∙ ap (λ k. b ∷ k) (sym (append_assoc x.text y.text rest));
        is = code.level b x.text y.text nb (λ st. lone (subst StartsItem (sym whole) st)) (subst (λ r. Code nest close x.text r) y.split x.is) y.is;
      }
  nested_in mid rest (readings.goes_by b o q lone open_still) e x y = absurd (cc)
  nested_in mid rest (readings.stays f) e x y = absurd (cc)

  remarked_in : {f : CodeStep} (mid rest : List ℕ) → Reading nest close s f → f ≡ Remark → CodeIn None (42 ∷ 41 ∷ []) (drop 2 s) mid → CodeIn nest close mid rest → CodeIn nest close s rest
  remarked_in mid rest (readings.ends q) e x y = absurd (cc)
  remarked_in mid rest (readings.goes i) e x y = absurd (cc)
  remarked_in mid rest (readings.comes q) e x y =
      let whole : s ≡ 40 ∷ 42 ∷ x.text ++ (y.text ++ rest) = q ∙ ap (λ k. 40 ∷ 42 ∷ k) (x.split ∙ ap (λ k. x.text ++ k) y.split) in
      record {
        text = 40 ∷ 42 ∷ x.text ++ y.text;
        split = whole ∙ ap (λ k. 40 ∷ 42 ∷ k) (sym (append_assoc x.text y.text rest));
        is = code.comment x.text y.text (subst (λ r. Code None (42 ∷ 41 ∷ []) x.text r) y.split x.is) y.is;
      }
  remarked_in mid rest (readings.begins b nb q lone) e x y = absurd (cc)
  remarked_in mid rest (readings.goes_by b o q lone open_still) e x y = absurd (cc)
  remarked_in mid rest (readings.stays f) e x y = absurd (cc)

pub bytes_of_rest : (s mid : List ℕ) (t : List ℕ) → s ≡ t ++ mid → AreBytes s → AreBytes mid
bytes_of_rest s mid t q are = all_behind (λ b. b < 256) t mid (subst AreBytes q are)

code_in : {e : Delimiter} {s rest : List ℕ} → has_items e ≡ true → AreBytes s → Body e s rest → CodeIn (nest_of e) (close_of e) s rest
code_in {e} {s} {rest} h are (closes {n = n} q r) = ended_in n rest (reading_of e s h are) q r
code_in {e} {s} {rest} h are (passes {n = n} q b) = passed_in n rest (reading_of e s h are) q (code_in h (all_drop (λ b. b < 256) n s are) b)
code_in {e} {s} {rest} h are (nests {mid = mid} q b c) =
    let behind : AreBytes (drop 1 s) = all_drop (λ b. b < 256) 1 s are in
    let x = code_in h behind b in
    nested_in mid rest (reading_of e s h are) q x (code_in h (bytes_of_rest (drop 1 s) mid x.text x.split behind) c)
code_in {e} {s} {rest} h are (remark {mid = mid} q b c) =
    let behind : AreBytes (drop 2 s) = all_drop (λ b. b < 256) 2 s are in
    let x = code_in refl behind b in
    remarked_in mid rest (reading_of e s h are) q x (code_in h (bytes_of_rest (drop 2 s) mid x.text x.split behind) c)

-- The text of a scanned lexeme is code, if its kind has code.
abbrev Coded : Option Kind → List ℕ → List ℕ → Type 0
Coded what bytes rest = (t : List ℕ) × (bytes ≡ t ++ rest) × HoldsForKind HasCodeIfAny what t rest

with_opening : (opening : List ℕ) (nest : Option ℕ) (close s t rest : List ℕ) → s ≡ opening ++ t → CodeIn nest close t rest → (u : List ℕ) × (s ≡ u ++ rest) × IsOpenedCode opening nest close u rest
with_opening opening nest close s t rest q x = (opening ++ x.text, q ∙ ap (λ k. opening ++ k) x.split ∙ sym (append_assoc opening x.text rest), (x.text, refl, x.is))

opened : (k : Kind) (d : Delimiter) (n : ℕ) (s rest : List ℕ) → Opening k d n s → AreBytes s → Body d (drop n s) rest → Scanned s (Some k) rest → Coded (Some k) s rest
opened k d n s rest (openings.action q) are b w =
    let x = with_opening (123 ∷ []) (Some 123) (125 ∷ []) s (drop 1 s) rest q (code_in refl (all_drop (λ b. b < 256) 1 s are) b) in (x.0, x.1, coded.action x.2)
opened k d n s rest (openings.header q) are b w =
    let x = with_opening (37 ∷ 123 ∷ []) None (37 ∷ 125 ∷ []) s (drop 2 s) rest q (code_in refl (all_drop (λ b. b < 256) 2 s are) b) in (x.0, x.1, coded.header x.2)
opened k d n s rest (openings.attribute q) are b w =
    let x = with_opening (91 ∷ 64 ∷ []) (Some 91) (93 ∷ []) s (drop 2 s) rest q (code_in refl (all_drop (λ b. b < 256) 2 s are) b) in (x.0, x.1, coded.attribute x.2)
opened k d n s rest (openings.own_attribute q) are b w =
    let x = with_opening (37 ∷ 91 ∷ 64 ∷ []) (Some 91) (93 ∷ []) s (drop 3 s) rest q (code_in refl (all_drop (λ b. b < 256) 3 s are) b) in (x.0, x.1, coded.own_attribute x.2)
opened k d n s rest openings.type_text are b w = let x = Scanned-text w in (x.0, x.1, tt)

no_code : (k : Kind) → holds_code k ≡ false → (t rest : List ℕ) → HasCodeIfAny k t rest
no_code kinds.Action h t rest = absurd (cc)
no_code kinds.Header h t rest = absurd (cc)
no_code kinds.Attribute h t rest = absurd (cc)
no_code _ h t rest = tt

coded_of : (bytes rest : List ℕ) (what : Option Kind) → AreBytes bytes → Scanned bytes what rest → Coded what bytes rest
coded_of bytes rest None are w = let x = Scanned-text w in (x.0, x.1, tt)
coded_of bytes rest (Some k) are (short {n = n} s q) = let x = Scanned-text (short s q) in (x.0, x.1, no_code k (short_kind_has_no_code bytes k n s) x.0 rest)
coded_of bytes rest (Some k) are (long {e = d} {n = n} s b) = opened k d n bytes rest (opening_at bytes k d n s) are b (long s b)

pub lexemes_span_code : (bytes : List ℕ) (ls : List Lexeme) (f : Option ℕ) → AreBytes bytes → Lexes bytes ls f → AllByRecursion (SpansCode bytes) ls
lexemes_span_code bytes ls f are l =
    lexemes_hold bytes HasCodeIfAny (λ pre s rest what e w. coded_of s rest what (bytes_of_rest bytes s pre e are) w) ls f l
