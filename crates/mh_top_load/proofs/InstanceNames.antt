-- Lemmas on the names of instances: words are such names, and so are the printed names of rules and the texts of terms
-- whose heads have such names.
use Rattle.std.proofs.Common.{◌≡◌, ◌≢◌, ◌<◌, ◌≤◌, ◌+◌, ◌/◌, ◌%◌, ◌==◌, ◌||◌, ◌∙◌, ℕ, zero, suc, Bool, true, false, true≢false, nat_le, List, [], ◌∷◌, ◌++◌, Option, None, Some, unwrap_or, option_map, refl, sym, ap, subst, arith, if◌then◌else◌}
use Rattle.std.specs.Prelude.{decimal, slice_get}
use Rattle.std.specs.List.{AllByRecursion, AllZip, list_all}
use Rattle.std.specs.Fmt.{digits, digits_onto, digit_glyph}
use Rattle.std.proofs.lemmas.Bool.{and_from, and_parts, or_right, le-leb, lt-ltb}
use Rattle.std.proofs.lemmas.List.Folds.{list_all-append}
use Rattle.mh_grammar.proofs.Lists.{nil_parts, option_map_some, recursion_at, recursion-weaker}
use Rattle.mh_grammar.specs.Text.{Text}
use Rattle.mh_grammar.specs.declared.types.TokenInfo.{TokenInfo}
use Rattle.mh_lex_bytes.specs.Bytes.{is_decimal, is_word_byte, is_word_start}
use Rattle.mh_lex_bytes.specs.Words.{is_word}
use Rattle.mh_msgfile.proofs.CanonicalLine.{word_bytes}
use Rattle.mh_rules.specs.declared.instances.Instance.{Instance}
use Rattle.mh_rules.specs.declared.joined.Head.{Head}
use Rattle.mh_rules.specs.declared.joined.Head.TheVariants as heads
use Rattle.mh_rules.specs.declared.joined.Joined.{Joined}
use Rattle.mh_rules.specs.declared.joined.JoinedRule.{JoinedRule}
use Rattle.mh_join_names.specs.Joining.{printed_name, with_file}
use Rattle.mh_expand.specs.Terms.{Term, Atom, Apply, head_name, separator, text, unclosed}
use Rattle.mh_expand.specs.Expansion.{IsInstanceOf, rule_at, rule_of}
use Rattle.mh_top_load.specs.GrammarNames.{is_instance_byte, IsInstanceName}

-- ---- Texts whose bytes are those of names of instances.

abbrev pub HasNameBytes : Text → Type 0
HasNameBytes bytes = list_all is_instance_byte bytes ≡ true

both : (x y : Text) → HasNameBytes x → HasNameBytes y → HasNameBytes (x ++ y)
both x y a b = list_all-append is_instance_byte x y ∙ and_from (list_all is_instance_byte x) (list_all is_instance_byte y) a b

of_word_byte : (b : ℕ) → is_word_byte b ≡ true → is_instance_byte b ≡ true
of_word_byte b is = ap (λ (c : Bool). c || (b == 64 || (b == 40 || (b == 44 || b == 41)))) is

of_word_bytes : (w : Text) → list_all is_word_byte w ≡ true → HasNameBytes w
of_word_bytes [] is = refl
of_word_bytes (b ∷ w) is =
    let parts = and_parts (is_word_byte b) (list_all is_word_byte w) is in
    and_from (is_instance_byte b) (list_all is_instance_byte w) (of_word_byte b parts.0) (of_word_bytes w parts.1)

not_empty : (b : ℕ) (bs : Text) → b ∷ bs ≢ []
not_empty b bs e = absurd (cc)

word_not_empty : (w : Text) → is_word w ≡ true → w ≢ []
word_not_empty w is e = true≢false (sym (subst (λ (x : Text). is_word x ≡ true) e is))

-- A word is a name.
pub word_named : (w : Text) → is_word w ≡ true → IsInstanceName w
word_named w is = (word_not_empty w is, of_word_bytes w (word_bytes w is))

-- ---- The digits of a number are bytes that a name may have.

digit_byte : (b : ℕ) → 48 ≤ b → b ≤ 57 → is_instance_byte b ≡ true
digit_byte b low high =
    let digit : is_decimal b ≡ true = and_from (nat_le 48 b) (nat_le b 57) (le-leb 48 b low) (le-leb b 57 high) in
    of_word_byte b (or_right (is_word_start b) (is_decimal b || b == 39) (ap (λ (c : Bool). c || b == 39) digit))

glyph_byte : (d : ℕ) → d < 10 → is_instance_byte (digit_glyph false d) ≡ true
glyph_byte d lt =
    let glyph : digit_glyph false d ≡ 48 + d = ap (λ (c : Bool). if c then 48 + d else 87 + d) (lt-ltb d 10 lt) in
    subst (λ (b : ℕ). is_instance_byte b ≡ true) (sym glyph) (digit_byte (48 + d) (omega arith) (omega arith))

glyph_first : (n : ℕ) (rest : Text) → HasNameBytes rest → HasNameBytes (digit_glyph false (n % 10) ∷ rest)
glyph_first n rest is = and_from (is_instance_byte (digit_glyph false (n % 10))) (list_all is_instance_byte rest) (glyph_byte (n % 10) (omega arith)) is

digits_by : (k n : ℕ) (rest : Text) (c : Bool) → HasNameBytes rest → ((more : Text) → HasNameBytes more → HasNameBytes (digits_onto k 10 false (n / 10) more))
    → HasNameBytes (if c then digit_glyph false (n % 10) ∷ rest else digits_onto k 10 false (n / 10) (digit_glyph false (n % 10) ∷ rest))
digits_by k n rest true is later = glyph_first n rest is
digits_by k n rest false is later = later (digit_glyph false (n % 10) ∷ rest) (glyph_first n rest is)

digits_named : (k n : ℕ) (rest : Text) → HasNameBytes rest → HasNameBytes (digits_onto k 10 false n rest)
digits_named zero n rest is = is
digits_named (suc k) n rest is = digits_by k n rest (n / 10 == 0) is (digits_named k (n / 10))

decimal_named : (n : ℕ) → HasNameBytes (decimal n)
unfolding digits
decimal_named n = digits_named 64 n [] refl

-- ---- The printed name of a rule is a name of an instance.

pub printed_named : (elsewhere : ℕ → Text → Bool) (x : Text) (owner : Option ℕ) → is_word x ≡ true → IsInstanceName (printed_name elsewhere x owner)
printed_named elsewhere x None is = word_named x is
printed_named elsewhere x (Some k) is = by (elsewhere k x)
  where
    by : (b : Bool) → IsInstanceName (if b then with_file x k else x)
    by true = (λ e. word_not_empty x is (nil_parts x (64 ∷ decimal k) e).0, both x (64 ∷ decimal k) (word_named x is).1 (decimal_named k))
    by false = word_named x is

-- ---- Texts of terms.

-- A property of the names in a list and of the empty name holds of each name that is looked up.
pub looked_up : {X : Type 0} (P : Text → Type 0) (name : X → Text) (xs : List X) → P [] → AllByRecursion (λ x. P (name x)) xs → (i : ℕ) → P (unwrap_or (option_map name (slice_get xs i)) [])
looked_up P name [] none all i = none
looked_up P name (x ∷ xs) none all zero = all.0
looked_up P name (x ∷ xs) none all (suc i) = looked_up P name xs none all.1 i

module _ (j : Joined) (tokens : AllByRecursion (λ (t : TokenInfo). HasNameBytes t.name) j.tokens) (rules : AllByRecursion (λ (r : JoinedRule). IsInstanceName r.name) j.rules) where
  head_bytes : (h : Head) → HasNameBytes (head_name j h)
  head_bytes (heads.Formal k) = refl
  head_bytes (heads.Token z) = looked_up HasNameBytes (λ (t : TokenInfo). t.name) j.tokens refl tokens z
  head_bytes (heads.Rule r) =
      looked_up HasNameBytes (λ (q : JoinedRule). q.name) j.rules refl (recursion-weaker (λ (q : JoinedRule). IsInstanceName q.name) (λ (q : JoinedRule). HasNameBytes q.name) (λ q named. named.1) j.rules rules) r

  after_separator : (f : Term) (rest : Text) → HasNameBytes rest → HasNameBytes (separator f ∷ rest)
  after_separator (Atom h) rest is = is
  after_separator (Apply f x) rest is = is

  text_bytes : (t : Term) → HasNameBytes (text j t) × HasNameBytes (unclosed j t)
  text_bytes (Atom h) = (head_bytes h, head_bytes h)
  text_bytes (Apply f x) =
      let before = (text_bytes f).1 in
      let argument = after_separator f (text j x) (text_bytes x).0 in
      let whole = both (unclosed j f) (separator f ∷ text j x) before argument in
      (both (unclosed j f ++ separator f ∷ text j x) (41 ∷ []) whole refl, whole)

  head_not_empty : (h : Head) (r : JoinedRule) → rule_at j h ≡ Some r → head_name j h ≢ []
  head_not_empty (heads.Formal k) r at e = let none : None ≡ Some r = at in absurd (cc)
  head_not_empty (heads.Token z) r at e = let none : None ≡ Some r = at in absurd (cc)
  head_not_empty (heads.Rule q) r at e =
      let name : head_name j (heads.Rule q) ≡ r.name = ap (λ (o : Option JoinedRule). unwrap_or (option_map (λ (p : JoinedRule). p.name) o) []) at in
      (recursion_at (λ (p : JoinedRule). IsInstanceName p.name) j.rules rules q r at).0 (sym name ∙ e)

  text_not_empty : (t : Term) (r : JoinedRule) → rule_of j t ≡ Some r → text j t ≢ []
  text_not_empty (Atom h) r at e = head_not_empty h r at e
  text_not_empty (Apply f x) r at e = not_empty 41 [] (nil_parts (unclosed j f ++ separator f ∷ text j x) (41 ∷ []) e).1

  instance_named : (all : List Term) (t : Term) (i : Instance) → IsInstanceOf j all t i → IsInstanceName i.name
  instance_named all t i is =
      let rule = option_map_some (λ (r : JoinedRule). r.inlined) (rule_of j t) i.inlined is.inlined in
      (λ e. text_not_empty t rule.0 rule.1 (sym is.name ∙ e), subst HasNameBytes (sym is.name) (text_bytes t).0)

  -- The instances of terms have names of instances.
  pub instances_named : (all terms : List Term) (instances : List Instance) → AllZip (IsInstanceOf j all) terms instances → AllByRecursion (λ (i : Instance). IsInstanceName i.name) instances
  instances_named all [] [] are = tt
  instances_named all [] (i ∷ instances) are = absurd are
  instances_named all (t ∷ terms) [] are = tt
  instances_named all (t ∷ terms) (i ∷ instances) are = (instance_named all t i are.0, instances_named all terms instances are.1)
