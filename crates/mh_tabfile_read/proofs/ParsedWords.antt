-- Proves that the definitions that parse words and lines are exact: each accepts what its value spells, and nothing
-- else.
use Rattle.std.proofs.Common.{inl, inr, ◌⊎◌, ◌≡◌, ◌≢◌, ◌-◌, ◌^◌, ◌<◌, ℕ, Bool, true, false, not, ◌&&◌, nat_lt, nat_eq, cond, List, [], ◌∷◌, map, length, get_or, Option, Some, None, refl, sym, ap, ◌∙◌, subst, codes, decimal, arith, rules, true≢false, eq-zero-or-pos, lt-ltb, ltb-true}
use Rattle.std.specs.List.{AllByRecursion, list_all}
use Rattle.std.specs.Cmp.Lexicographic.{same_text}
use Rattle.std.proofs.lemmas.Str.Parse.{IsNumeralModel, numerals_by_fold}
use Rattle.std.proofs.lemmas.Fmt.{digits_decimal, digits_value-decimal, decimal-digits_value, decimal_nonempty, first_decimal, decimal_digit}
use Rattle.std.proofs.lemmas.Bool.{and_parts, not-true}
use Rattle.std.proofs.lemmas.Option.{same_Some}
use Rattle.mh_resolve_cells.specs.declared.kinds.Mode.{Mode}
use Rattle.mh_resolve_cells.specs.declared.kinds.Mode.TheVariants.{Merged, Canonical}
use Rattle.mh_tables_core.specs.declared.parts.Action.{Action}
use Rattle.mh_tables_core.specs.declared.parts.Action.TheVariants as actions
use Rattle.mh_tables_core.specs.declared.parts.Fallback.{Fallback}
use Rattle.mh_tables_core.specs.declared.parts.Fallback.TheVariants as fallbacks
use Rattle.mh_tabfile_form.specs.declared.types.RawProduction.{RawProduction}
use Rattle.mh_tabfile_form.specs.declared.types.RawItem.{RawItem}
use Rattle.mh_tabfile_form.specs.declared.types.RawEdge.{RawEdge}
use Rattle.mh_tabfile_form.specs.declared.types.RawCell.{RawCell}
use Rattle.mh_tabfile_read.specs.declared.places.LineKind.{LineKind}
use Rattle.mh_tabfile_read.specs.declared.places.LineKind.TheVariants as kinds
use Rattle.mh_resolve_cells.specs.Names.{mode_name}
use Rattle.mh_tabfile_form.specs.Form.{Line, IsName, IsNumber, IsRawProduction, IsRawItem, IsRawEdge, IsRawAction, IsRawCell, IsRawFallback, production_line, item_line, edge_line, action_words, cell_line, fallback_line}
use Rattle.mh_tabfile_read.specs.code.Numbers.{is_digit, value_from, has_zero_first, small_value, number_of}
use Rattle.mh_tabfile_read.specs.code.Words.{◌>>=◌, same_word, is_name, names_of, numbers_of, mode_of, kind_of, count_of, production_of, item_of, edge_of, action_of, cell_of, fallback_of}

-- Lemmas on options and tests.

pub none_some : {A : Type 0} (x : A) → None ≡ Some x → ⊥
none_some x e = cc

pub bind_some : {A B : Type 0} (x : Option A) (f : A → Option B) (y : B) → (x >>= f) ≡ Some y → (a : A) × (x ≡ Some a) × (f a ≡ Some y)
bind_some None f y e = absurd (none_some y e)
bind_some (Some a) f y e = (a, refl, e)

pub cond_cases : {A : Type 0} (b : Bool) (x y z : A) → cond b x y ≡ z → ((b ≡ true) × (x ≡ z)) ⊎ ((b ≡ false) × (y ≡ z))
cond_cases true x y z e = inl (refl, e)
cond_cases false x y z e = inr (refl, e)

-- A word is parsed to a number exactly if it is the decimal form of the number.

own : IsNumeralModel (λ ds. list_all is_digit ds ≡ true) (value_from 0)
own = numerals_by_fold _ (search rules) value_from (search rules)

no_zero : (ds : List ℕ) → 0 < length ds → (get_or ds 0 0 ≡ 48 → length ds ≡ 1) → has_zero_first ds ≡ false
no_zero [] some h = absurd (omega (arith, some))
no_zero (b ∷ []) some h = refl
no_zero (b ∷ c ∷ ds) some h = grind (arith, h)

zero_alone : (ds : List ℕ) → has_zero_first ds ≡ false → (0 < length ds) × (get_or ds 0 0 ≡ 48 → length ds ≡ 1)
zero_alone [] h = absurd (true≢false h)
zero_alone (b ∷ []) h = (omega arith, λ e. refl)
zero_alone (b ∷ c ∷ ds) h = (omega arith, λ e. grind (arith, h, e))

decimal_first : (n : ℕ) → n < 2 ^ 32 → get_or (decimal n) 0 0 ≡ 48 → length (decimal n) ≡ 1
decimal_first n small e = elim (eq-zero-or-pos n) [ inl z ↦ subst (λ k. length (decimal k) ≡ 1) (sym z) (ap length (decimal_digit 0 (omega arith))) | inr pos ↦ absurd (omega (arith, e, first_decimal n pos (omega (arith, small)))) ]

small_again : (w : List ℕ) (n : ℕ) → n < 2 ^ 32 → value_from 0 w ≡ n → small_value w ≡ Some n
small_again w n small v = ap (λ k. cond (nat_lt k (2 ^ 32)) (Some k) None) v ∙ ap (λ b. cond b (Some n) None) (lt-ltb n (2 ^ 32) small)

pub number_parsed : (n : ℕ) → IsNumber n → number_of (decimal n) ≡ Some n
unfolding number_of
number_parsed n small =
    let wide : n < 2 ^ 64 = omega (arith, small) in
    let w = decimal n in
    ap (λ b. cond (b && not (has_zero_first w)) (small_value w) None) (digits_decimal own n wide)
    ∙ ap (λ b. cond (not b) (small_value w) None) (no_zero w (decimal_nonempty n wide) (decimal_first n small))
    ∙ small_again w n small (digits_value-decimal own n wide)

small_sound : (w : List ℕ) (n : ℕ) → small_value w ≡ Some n → (value_from 0 w < 2 ^ 32) × (value_from 0 w ≡ n)
small_sound w n e = elim (cond_cases (nat_lt (value_from 0 w) (2 ^ 32)) (Some (value_from 0 w)) None (Some n) e) [ inl (b, f) ↦ (ltb-true (value_from 0 w) (2 ^ 32) b, same_Some (value_from 0 w) n f) | inr (b, f) ↦ absurd (none_some _ f) ]

pub number_sound : (word : List ℕ) (n : ℕ) → number_of word ≡ Some n → IsNumber n × (word ≡ decimal n)
unfolding number_of
number_sound word n e = elim (cond_cases (list_all is_digit word && not (has_zero_first word)) (small_value word) None (Some n) e) [
  | inl (b, f) ↦
      let tests = and_parts (list_all is_digit word) (not (has_zero_first word)) b in
      let first = zero_alone word (not-true (has_zero_first word) tests.1) in
      let small = small_sound word n f in
      (subst (λ k. k < 2 ^ 32) small.1 small.0, (sym (decimal-digits_value own word tests.0 first.0 first.1 (omega (arith, small.0))) ∙ ap decimal small.1))
  | inr (b, f) ↦ absurd (none_some _ f)
]

-- A word is parsed as a name exactly if it is a name.

name_again : (word : List ℕ) → IsName word → is_name word ≡ true
name_again [] h = absurd (h refl)
name_again (b ∷ bs) h = refl

name_sound : (word : List ℕ) → is_name word ≡ true → IsName word
name_sound [] e = λ h. true≢false (sym e)
name_sound (b ∷ bs) e = λ h. cc

all_again : (words : Line) → AllByRecursion IsName words → list_all is_name words ≡ true
all_again [] h = refl
all_again (w ∷ ws) (h, hs) = ap (λ b. b && list_all is_name ws) (name_again w h) ∙ all_again ws hs

all_sound : (words : Line) → list_all is_name words ≡ true → AllByRecursion IsName words
all_sound [] e = tt
all_sound (w ∷ ws) e = let h = and_parts (is_name w) (list_all is_name ws) e in (name_sound w h.0, all_sound ws h.1)

pub names_parsed : (words : Line) → AllByRecursion IsName words → names_of words ≡ Some words
unfolding names_of
names_parsed words h = ap (λ b. cond b (Some words) None) (all_again words h)

pub names_sound : (words names : Line) → names_of words ≡ Some names → AllByRecursion IsName names × (words ≡ names)
unfolding names_of
names_sound words names e = elim (cond_cases (list_all is_name words) (Some words) None (Some names) e) [ inl (b, f) ↦ let same = same_Some words names f in (subst (AllByRecursion IsName) same (all_sound words b), same) | inr (b, f) ↦ absurd (none_some _ f) ]

pub numbers_parsed : (ns : List ℕ) → AllByRecursion IsNumber ns → numbers_of (map decimal ns) ≡ Some ns
numbers_parsed [] h = refl
numbers_parsed (n ∷ ns) (h, hs) = ap (λ x. x >>= λ m. numbers_of (map decimal ns) >>= λ ms. Some (m ∷ ms)) (number_parsed n h) ∙ ap (λ x. x >>= λ ms. Some (n ∷ ms)) (numbers_parsed ns hs)

pub numbers_sound : (words : Line) (ns : List ℕ) → numbers_of words ≡ Some ns → AllByRecursion IsNumber ns × (words ≡ map decimal ns)
numbers_sound [] ns e = subst (λ k. AllByRecursion IsNumber k × ([] ≡ map decimal k)) (same_Some [] ns e) (tt, refl)
numbers_sound (w ∷ ws) ns e =
    let (n, f, g) = bind_some (number_of w) (λ n. numbers_of ws >>= λ ms. Some (n ∷ ms)) ns e in
    let (ms, h, k) = bind_some (numbers_of ws) (λ ms. Some (n ∷ ms)) ns g in
    let one = number_sound w n f in
    let more = numbers_sound ws ms h in
    subst (λ x. AllByRecursion IsNumber x × (w ∷ ws ≡ map decimal x)) (same_Some (n ∷ ms) ns k) ((one.0, more.0), (ap (λ v. v ∷ ws) one.1 ∙ ap (λ vs. decimal n ∷ vs) more.1))

-- A word is parsed to a mode, or to a kind of line, exactly if it is the word for this mode or kind.

word_is : (w v : List ℕ) → same_word w v ≡ true → w ≡ v
word_is w v e = same_text w v (sym e)

pub mode_parsed : (m : Mode) → mode_of (mode_name m) ≡ Some m
unfolding mode_of
mode_parsed Merged = refl
mode_parsed Canonical = refl

pub mode_sound : (w : List ℕ) (m : Mode) → mode_of w ≡ Some m → w ≡ mode_name m
unfolding mode_of
mode_sound w m e = elim (cond_cases (same_word w (codes "merged")) (Some Merged) (cond (same_word w (codes "canonical")) (Some Canonical) None) (Some m) e) [
  | inl (b, f) ↦ word_is w (codes "merged") b ∙ ap mode_name (same_Some Merged m f)
  | inr (b, f) ↦ elim (cond_cases (same_word w (codes "canonical")) (Some Canonical) None (Some m) f) [
    | inl (c, h) ↦ word_is w (codes "canonical") c ∙ ap mode_name (same_Some Canonical m h)
    | inr (c, h) ↦ absurd (none_some _ h)
  ]
]

abbrev pub Named : LineKind → List ℕ → Type 0
Named kinds.Item w = w ≡ codes "item"
Named kinds.Edge w = w ≡ codes "edge"
Named kinds.Cell w = w ≡ codes "cell"
Named kinds.Default w = w ≡ codes "default"
Named kinds.State w = w ≡ codes "state"
Named kinds.End w = w ≡ codes "end"
Named kinds.Head w = w ≡ codes "menhir-tables"
Named kinds.Tokens w = w ≡ codes "tokens"
Named kinds.Costs w = w ≡ codes "costs"
Named kinds.Starts w = w ≡ codes "starts"
Named kinds.Productions w = w ≡ codes "productions"
Named kinds.States w = w ≡ codes "states"
Named kinds.Other w = Unit {0}

named_if : (b : Bool) (w : List ℕ) (k rest : LineKind) → (b ≡ true → Named k w) → Named rest w → Named (cond b k rest) w
named_if true w k rest h n = h refl
named_if false w k rest h n = n

pub kind_sound : (w : List ℕ) → Named (kind_of w) w
unfolding kind_of
kind_sound w =
    named_if (same_word w (codes "item")) w kinds.Item _ (word_is w (codes "item"))
    (named_if (same_word w (codes "edge")) w kinds.Edge _ (word_is w (codes "edge"))
    (named_if (same_word w (codes "cell")) w kinds.Cell _ (word_is w (codes "cell"))
    (named_if (same_word w (codes "default")) w kinds.Default _ (word_is w (codes "default"))
    (named_if (same_word w (codes "state")) w kinds.State _ (word_is w (codes "state"))
    (named_if (same_word w (codes "end")) w kinds.End _ (word_is w (codes "end"))
    (named_if (same_word w (codes "menhir-tables")) w kinds.Head _ (word_is w (codes "menhir-tables"))
    (named_if (same_word w (codes "tokens")) w kinds.Tokens _ (word_is w (codes "tokens"))
    (named_if (same_word w (codes "costs")) w kinds.Costs _ (word_is w (codes "costs"))
    (named_if (same_word w (codes "starts")) w kinds.Starts _ (word_is w (codes "starts"))
    (named_if (same_word w (codes "productions")) w kinds.Productions _ (word_is w (codes "productions"))
    (named_if (same_word w (codes "states")) w kinds.States kinds.Other (word_is w (codes "states")) tt)))))))))))

-- The words of a line are parsed to a value exactly if they are the line of this value.

pub count_parsed : (n : ℕ) → IsNumber n → count_of (decimal n ∷ []) ≡ Some n
unfolding count_of
count_parsed n h = number_parsed n h

pub count_sound : (ws : Line) (n : ℕ) → count_of ws ≡ Some n → IsNumber n × (ws ≡ decimal n ∷ [])
unfolding count_of
count_sound [] n e = absurd (none_some _ e)
count_sound (w ∷ []) n e = let h = number_sound w n e in (h.0, ap (λ v. v ∷ []) h.1)
count_sound (w ∷ v ∷ ws) n e = absurd (none_some _ e)

pub production_parsed : (p : RawProduction) → IsRawProduction p → production_of (production_line p) ≡ Some p
unfolding production_of
production_parsed p (h, hs) =
    ap (λ b. cond (b && true) (names_of p.rhs >>= λ names. Some (record { lhs = p.lhs; rhs = names })) None) (name_again p.lhs h)
    ∙ ap (λ x. x >>= λ names. Some (record { lhs = p.lhs; rhs = names })) (names_parsed p.rhs hs)

pub production_sound : (ws : Line) (p : RawProduction) → production_of ws ≡ Some p → IsRawProduction p × (ws ≡ production_line p)
unfolding production_of
production_sound [] p e = absurd (none_some _ e)
production_sound (l ∷ []) p e = absurd (none_some _ e)
production_sound (l ∷ a ∷ ws) p e = elim (cond_cases (is_name l && same_word a (codes "->")) (names_of ws >>= λ names. Some (record { lhs = l; rhs = names })) None (Some p) e) [
  | inl (b, f) ↦
      let tests = and_parts (is_name l) (same_word a (codes "->")) b in
      let (names, g, h) = bind_some (names_of ws) (λ names. Some (record { lhs = l; rhs = names })) p f in
      let rest = names_sound ws names g in
      subst (λ q. IsRawProduction q × (l ∷ a ∷ ws ≡ production_line q)) (same_Some (record { lhs = l; rhs = names }) p h)
      ((name_sound l tests.0, rest.0), (ap (λ v. l ∷ v ∷ ws) (word_is a (codes "->") tests.1) ∙ ap (λ vs. l ∷ codes "->" ∷ vs) rest.1))
  | inr (b, f) ↦ absurd (none_some _ f)
]

pub item_parsed : (i : RawItem) → IsRawItem i → item_of (decimal i.production ∷ decimal i.dot ∷ i.looks) ≡ Some i
unfolding item_of
item_parsed i (p, d, l) =
    ap (λ x. x >>= λ production. number_of (decimal i.dot) >>= λ dot. names_of i.looks >>= λ names. Some (record { production = production; dot = dot; looks = names })) (number_parsed i.production p)
    ∙ ap (λ x. x >>= λ dot. names_of i.looks >>= λ names. Some (record { production = i.production; dot = dot; looks = names })) (number_parsed i.dot d)
    ∙ ap (λ x. x >>= λ names. Some (record { production = i.production; dot = i.dot; looks = names })) (names_parsed i.looks l)

pub item_sound : (ws : Line) (i : RawItem) → item_of ws ≡ Some i → IsRawItem i × (codes "item" ∷ ws ≡ item_line i)
unfolding item_of
item_sound [] i e = absurd (none_some _ e)
item_sound (p ∷ []) i e = absurd (none_some _ e)
item_sound (p ∷ d ∷ ws) i e =
    let (m, f, g) = bind_some (number_of p) (λ production. number_of d >>= λ dot. names_of ws >>= λ names. Some (record { production = production; dot = dot; looks = names })) i e in
    let (n, h, k) = bind_some (number_of d) (λ dot. names_of ws >>= λ names. Some (record { production = m; dot = dot; looks = names })) i g in
    let (names, o, q) = bind_some (names_of ws) (λ names. Some (record { production = m; dot = n; looks = names })) i k in
    let one = number_sound p m f in
    let two = number_sound d n h in
    let rest = names_sound ws names o in
    subst (λ j. IsRawItem j × (codes "item" ∷ p ∷ d ∷ ws ≡ item_line j)) (same_Some (record { production = m; dot = n; looks = names }) i q)
    ((one.0, two.0, rest.0), (ap (λ v. codes "item" ∷ v ∷ d ∷ ws) one.1 ∙ ap (λ v. codes "item" ∷ decimal m ∷ v ∷ ws) two.1 ∙ ap (λ vs. codes "item" ∷ decimal m ∷ decimal n ∷ vs) rest.1))

pub edge_parsed : (e : RawEdge) → IsRawEdge e → edge_of (e.symbol ∷ decimal e.target ∷ []) ≡ Some e
unfolding edge_of
edge_parsed e (s, t) =
    ap (λ b. cond b (number_of (decimal e.target) >>= λ target. Some (record { symbol = e.symbol; target = target })) None) (name_again e.symbol s)
    ∙ ap (λ x. x >>= λ target. Some (record { symbol = e.symbol; target = target })) (number_parsed e.target t)

pub edge_sound : (ws : Line) (i : RawEdge) → edge_of ws ≡ Some i → IsRawEdge i × (codes "edge" ∷ ws ≡ edge_line i)
unfolding edge_of
edge_sound [] i e = absurd (none_some _ e)
edge_sound (x ∷ []) i e = absurd (none_some _ e)
edge_sound (x ∷ t ∷ []) i e = elim (cond_cases (is_name x) (number_of t >>= λ target. Some (record { symbol = x; target = target })) None (Some i) e) [
  | inl (b, f) ↦
      let (n, g, h) = bind_some (number_of t) (λ target. Some (record { symbol = x; target = target })) i f in
      let one = number_sound t n g in
      subst (λ j. IsRawEdge j × (codes "edge" ∷ x ∷ t ∷ [] ≡ edge_line j)) (same_Some (record { symbol = x; target = n }) i h) ((name_sound x b, one.0), ap (λ v. codes "edge" ∷ x ∷ v ∷ []) one.1)
  | inr (b, f) ↦ absurd (none_some _ f)
]
edge_sound (x ∷ t ∷ w ∷ ws) i e = absurd (none_some _ e)

cell_by : (z : List ℕ) (a : Action) → IsName z → (verb n : List ℕ) → action_of verb n ≡ Some a → cell_of (z ∷ verb ∷ n ∷ []) ≡ Some (record { token = z; action = a })
unfolding cell_of
cell_by z a s verb n e = ap (λ b. cond b (action_of verb n >>= λ x. Some (record { token = z; action = x })) None) (name_again z s) ∙ ap (λ y. y >>= λ x. Some (record { token = z; action = x })) e

shift_again : (j : ℕ) → IsNumber j → action_of (codes "shift") (decimal j) ≡ Some (actions.Shift j)
unfolding action_of
shift_again j h = ap (λ x. x >>= λ k. Some (actions.Shift k)) (number_parsed j h)

reduce_again : (j : ℕ) → IsNumber j → action_of (codes "reduce") (decimal j) ≡ Some (actions.Reduce j)
unfolding action_of
reduce_again j h = ap (λ x. x >>= λ k. Some (actions.Reduce k)) (number_parsed j h)

pub cell_parsed : (z : List ℕ) (a : Action) → IsName z → IsRawAction a → cell_of (z ∷ action_words a) ≡ Some (record { token = z; action = a })
cell_parsed z (actions.Shift j) s h = cell_by z (actions.Shift j) s (codes "shift") (decimal j) (shift_again j h)
cell_parsed z (actions.Reduce j) s h = cell_by z (actions.Reduce j) s (codes "reduce") (decimal j) (reduce_again j h)
cell_parsed z actions.Refuse s h = absurd h

action_sound : (verb n : List ℕ) (a : Action) → action_of verb n ≡ Some a → IsRawAction a × (verb ∷ n ∷ [] ≡ action_words a)
unfolding action_of
action_sound verb n a e = elim (cond_cases (same_word verb (codes "shift")) (number_of n >>= λ j. Some (actions.Shift j)) (cond (same_word verb (codes "reduce")) (number_of n >>= λ p. Some (actions.Reduce p)) None) (Some a) e) [
  | inl (b, f) ↦
      let (j, g, h) = bind_some (number_of n) (λ j. Some (actions.Shift j)) a f in
      let one = number_sound n j g in
      subst (λ x. IsRawAction x × (verb ∷ n ∷ [] ≡ action_words x)) (same_Some (actions.Shift j) a h) (one.0, (ap (λ v. v ∷ n ∷ []) (word_is verb (codes "shift") b) ∙ ap (λ v. codes "shift" ∷ v ∷ []) one.1))
  | inr (b, f) ↦ elim (cond_cases (same_word verb (codes "reduce")) (number_of n >>= λ p. Some (actions.Reduce p)) None (Some a) f) [
    | inl (c, k) ↦
        let (j, g, h) = bind_some (number_of n) (λ j. Some (actions.Reduce j)) a k in
        let one = number_sound n j g in
        subst (λ x. IsRawAction x × (verb ∷ n ∷ [] ≡ action_words x)) (same_Some (actions.Reduce j) a h) (one.0, (ap (λ v. v ∷ n ∷ []) (word_is verb (codes "reduce") c) ∙ ap (λ v. codes "reduce" ∷ v ∷ []) one.1))
    | inr (c, k) ↦ absurd (none_some _ k)
  ]
]

pub cell_sound : (ws : Line) (c : RawCell) → cell_of ws ≡ Some c → IsRawCell c × (codes "cell" ∷ ws ≡ cell_line c)
unfolding cell_of
cell_sound [] i e = absurd (none_some _ e)
cell_sound (z ∷ []) i e = absurd (none_some _ e)
cell_sound (z ∷ verb ∷ []) i e = absurd (none_some _ e)
cell_sound (z ∷ verb ∷ n ∷ []) i e = elim (cond_cases (is_name z) (action_of verb n >>= λ a. Some (record { token = z; action = a })) None (Some i) e) [
  | inl (b, f) ↦
      let (a, g, h) = bind_some (action_of verb n) (λ a. Some (record { token = z; action = a })) i f in
      let one = action_sound verb n a g in
      subst (λ j. IsRawCell j × (codes "cell" ∷ z ∷ verb ∷ n ∷ [] ≡ cell_line j)) (same_Some (record { token = z; action = a }) i h) ((name_sound z b, one.0), ap (λ vs. codes "cell" ∷ z ∷ vs) one.1)
  | inr (b, f) ↦ absurd (none_some _ f)
]
cell_sound (z ∷ verb ∷ n ∷ w ∷ ws) i e = absurd (none_some _ e)

pub accept_parsed : fallback_of (codes "accept" ∷ []) ≡ Some fallbacks.Accept
unfolding fallback_of
accept_parsed = refl

pub default_parsed : (p : ℕ) → IsNumber p → fallback_of (codes "reduce" ∷ decimal p ∷ []) ≡ Some (fallbacks.Reduce p)
unfolding fallback_of
default_parsed p h = ap (λ x. x >>= λ k. Some (fallbacks.Reduce k)) (number_parsed p h)

pub fallback_sound : (ws : Line) (f : Fallback) → fallback_of ws ≡ Some f → IsRawFallback f × (codes "default" ∷ ws ≡ fallback_line f)
unfolding fallback_of
fallback_sound [] i e = absurd (none_some _ e)
fallback_sound (verb ∷ []) i e = elim (cond_cases (same_word verb (codes "accept")) (Some fallbacks.Accept) None (Some i) e) [
  | inl (b, f) ↦ subst (λ j. IsRawFallback j × (codes "default" ∷ verb ∷ [] ≡ fallback_line j)) (same_Some fallbacks.Accept i f) (tt, ap (λ v. codes "default" ∷ v ∷ []) (word_is verb (codes "accept") b))
  | inr (b, f) ↦ absurd (none_some _ f)
]
fallback_sound (verb ∷ n ∷ []) i e = elim (cond_cases (same_word verb (codes "reduce")) (number_of n >>= λ p. Some (fallbacks.Reduce p)) None (Some i) e) [
  | inl (b, f) ↦
      let (j, g, h) = bind_some (number_of n) (λ j. Some (fallbacks.Reduce j)) i f in
      let one = number_sound n j g in
      subst (λ x. IsRawFallback x × (codes "default" ∷ verb ∷ n ∷ [] ≡ fallback_line x)) (same_Some (fallbacks.Reduce j) i h) (one.0, (ap (λ v. codes "default" ∷ v ∷ n ∷ []) (word_is verb (codes "reduce") b) ∙ ap (λ v. codes "default" ∷ codes "reduce" ∷ v ∷ []) one.1))
  | inr (b, f) ↦ absurd (none_some _ f)
]
fallback_sound (verb ∷ n ∷ w ∷ ws) i e = absurd (none_some _ e)
