-- Proves that the comment text of a sentence consists of generated lines.
use Rattle.std.proofs.Common.{◌≡◌, ◌≢◌, ℕ, ◌-◌, ◌<◌, ◌^◌, ◌==◌, Bool, true, false, List, [], ◌∷◌, ◌++◌, length, take, drop, refl, sym, ◌∙◌, ap, subst, if◌then◌else◌, arith, nat_lt, append_assoc, append-nil, true≢false, Option, None, Some}
use Rattle.std.specs.Prelude.{codes, decimal, slice_get}
use Rattle.std.specs.Option.{option_map, unwrap_or}
use Rattle.std.specs.List.{AllByRecursion, list_all}
use Rattle.std.specs.Str.{all_ascii_digits}
use Rattle.std.specs.Char.{is_ascii_digit}
use Rattle.std.proofs.lemmas.Bool.{and_parts, eqb-true}
use Rattle.std.proofs.lemmas.List.Elements.{All-from_recursion}
use Rattle.std.proofs.lemmas.Grind.{flat_map-append}
use Rattle.std.proofs.lemmas.List.Folds.{list_all-append}
use Rattle.std.proofs.lemmas.Fmt.{digits_decimal}
use Rattle.std.proofs.lemmas.Str.Parse.{numerals_by_value, tells_all_ascii_digits}
use Rattle.mh_grammar.proofs.Lists.{recursion-append}
use Rattle.mh_grammar.specs.declared.types.Grammar.{Grammar}
use Rattle.mh_grammar.specs.declared.types.Production.{Production}
use Rattle.mh_grammar.specs.declared.types.Symbol.{Symbol}
use Rattle.mh_grammar.specs.declared.types.Symbol.TheVariants.{T, N}
use Rattle.mh_grammar.specs.declared.types.Look.{Look}
use Rattle.mh_grammar.specs.declared.types.Look.TheVariants.{Token, End}
use Rattle.mh_grammar.specs.Plain.{plain_of, rhs_of}
use Rattle.mh_grammar.specs.Names.{nonterminal_name, symbol_name, left_side_name, start_name, token_name}
use Rattle.mh_items_kernels.specs.KernelTypes.{KernelItem, Automaton}
use Rattle.mh_items_kernels.specs.Automaton.{kernel_at}
use Rattle.mh_tables_core.specs.Table.{TableData}
use Rattle.mh_tables_core.specs.Facts.{Facts}
use Rattle.mh_resolve_cells.specs.Names.{look_name}
use Rattle.mh_report_notation.specs.ItemTexts.{looks_after, item_text, item_line}
use Rattle.mh_grammar_texts.specs.Productions.{spaced_symbols, left_side_text, production_text}
use Rattle.mh_msgfile.specs.FileTexts.{names_after}
use Rattle.mh_msgfile.proofs.LineEnds.{with_ends, IsReadUnchanged, no_cr-unchanged}
use Rattle.mh_tables_core.proofs.RefusingState.{refusing_state_known}
use Rattle.mh_report.specs.Comments.{before_dot, kernel_comments, comments, expected_comment, expected_title, IsCommentBlock, IsCommentText, state_comment, suffix_title, suffix_comment, reduced_title, reduced_comment, reduced_comments}
use Rattle.mh_grammar.specs.Text.{Text}
use Rattle.mh_update.specs.Updates.{is_generated}
use Rattle.mh_update.specs.NoLineEnds.{is_no_line_end, HasNoLineEnd, HasNamesWithoutLineEnds}
use Rattle.mh_update.proofs.LineWalk.{IsGeneratedLine}

-- ---- Texts without LF and CR.

pub HasNoLineEnd-append : (x y : Text) → HasNoLineEnd x → HasNoLineEnd y → HasNoLineEnd (x ++ y)
HasNoLineEnd-append x y a b = list_all-append is_no_line_end x y ∙ rw a (rw b refl)

inner_of : (b : ℕ) (text : Text) → HasNoLineEnd (b ∷ text) → is_no_line_end b ≡ true
inner_of b text is = (and_parts (is_no_line_end b) (list_all is_no_line_end text) is).0

rest_of : (b : ℕ) (text : Text) → HasNoLineEnd (b ∷ text) → HasNoLineEnd text
rest_of b text is = (and_parts (is_no_line_end b) (list_all is_no_line_end text) is).1

no_lf : (b : ℕ) → is_no_line_end b ≡ true → b ≢ 10
no_lf b is = λ e. true≢false (sym (subst (λ (k : ℕ). is_no_line_end k ≡ true) e is))

no_ends : (text : Text) → HasNoLineEnd text → AllByRecursion (λ b. b ≢ 10) text
no_ends [] is = tt
no_ends (b ∷ text) is = (no_lf b (inner_of b text is), no_ends text (rest_of b text is))

not_ends_in_cr : (front : Text) → HasNoLineEnd (front ++ 13 ∷ []) → ⊥
not_ends_in_cr [] is = true≢false (sym is)
not_ends_in_cr (b ∷ front) is = not_ends_in_cr front (rest_of b (front ++ 13 ∷ []) is)

pub IsReadUnchanged-no_line_end : (line : Text) → HasNoLineEnd line → IsReadUnchanged line
IsReadUnchanged-no_line_end line is = (All-from_recursion (λ b. b ≢ 10) line (no_ends line is), no_cr-unchanged line _ refl (λ front e. not_ends_in_cr front (subst HasNoLineEnd e is)))

-- ---- Texts that consist of generated lines.

pub record IsGeneratedText (text : Text) : Type 0 where
  pub lines : List Text
  pub is : text ≡ with_ends lines
  pub are_generated : AllByRecursion IsGeneratedLine lines

IsGeneratedText-append : (x y : Text) → IsGeneratedText x → IsGeneratedText y → IsGeneratedText (x ++ y)
IsGeneratedText-append x y a b = record {
  lines = a.lines ++ b.lines;
  is = ap (λ (t : Text). t ++ y) a.is ∙ ap (λ (t : Text). with_ends a.lines ++ t) b.is ∙ sym (flat_map-append (λ (line : Text). line ++ 10 ∷ []) a.lines b.lines);
  are_generated = recursion-append IsGeneratedLine a.lines b.lines a.are_generated b.are_generated;
}

IsGeneratedText-empty : IsGeneratedText []
IsGeneratedText-empty = record { lines = []; is = refl; are_generated = tt }

IsGeneratedText-line : (line : Text) → is_generated line ≡ true → HasNoLineEnd line → IsGeneratedText (line ++ 10 ∷ [])
IsGeneratedText-line line made is = record { lines = line ∷ []; is = sym (append-nil (line ++ 10 ∷ [])); are_generated = ((made, IsReadUnchanged-no_line_end line is), tt) }

IsGeneratedText-equal : (x y : Text) → x ≡ y → IsGeneratedText y → IsGeneratedText x
IsGeneratedText-equal x y is comment_block = subst IsGeneratedText (sym is) comment_block

-- ---- Numbers.

digit_by : (c : ℕ) (lf cr : Bool) → (c == 10) ≡ lf → (c == 13) ≡ cr → is_ascii_digit c ≡ true → is_no_line_end c ≡ true
digit_by c true cr e f is = absurd (true≢false (sym (subst (λ (k : ℕ). is_ascii_digit k ≡ true) (eqb-true c 10 e) is)))
digit_by c false true e f is = absurd (true≢false (sym (subst (λ (k : ℕ). is_ascii_digit k ≡ true) (eqb-true c 13 f) is)))
digit_by c false false e f is = rw e (rw f refl)

digits_in : (ds : Text) → all_ascii_digits ds ≡ true → HasNoLineEnd ds
digits_in [] is = refl
digits_in (c ∷ ds) is =
    let here : is_no_line_end c ≡ true = digit_by c (c == 10) (c == 13) refl refl (and_parts (is_ascii_digit c) (all_ascii_digits ds) is).0 in
    rw here (digits_in ds (and_parts (is_ascii_digit c) (all_ascii_digits ds) is).1)

decimal_in : (n : ℕ) → n < 2 ^ 64 → HasNoLineEnd (decimal n)
decimal_in n lt = digits_in (decimal n) (digits_decimal (numerals_by_value (λ (ds : Text). all_ascii_digits ds ≡ true) tells_all_ascii_digits) n lt)

-- ---- Names.

module _ (g : Grammar) (names : HasNamesWithoutLineEnds g) where
  symbol_in : (x : Symbol) → HasNoLineEnd (symbol_name g x)
  symbol_in (T z) = names.tokens z
  symbol_in (N n) = names.nonterminals n

  names_in : (symbols : List Symbol) → HasNoLineEnd (spaced_symbols g symbols)
  names_in [] = refl
  names_in (x ∷ symbols) = HasNoLineEnd-append (symbol_name g x) (spaced_symbols g symbols) (symbol_in x) (names_in symbols)

  token_names_in : (tokens : List ℕ) → HasNoLineEnd (names_after g tokens)
  token_names_in [] = refl
  token_names_in (z ∷ tokens) = HasNoLineEnd-append (token_name g z) (names_after g tokens) (names.tokens z) (token_names_in tokens)

  start_by : (o : Option ℕ) → HasNoLineEnd (unwrap_or (option_map (nonterminal_name g) o) [])
  start_by None = refl
  start_by (Some n) = names.nonterminals n

  start_in : (i : ℕ) → HasNoLineEnd (start_name g i)
  unfolding start_name
  start_in i = start_by (slice_get g.starts i)

  side_by : (o : Option Production) → HasNoLineEnd (unwrap_or (option_map (λ (q : Production). nonterminal_name g q.lhs) o) [])
  side_by None = refl
  side_by (Some q) = names.nonterminals q.lhs

  choice_in : (c : Bool) (x y : Text) → HasNoLineEnd x → HasNoLineEnd y → HasNoLineEnd (if c then x else y)
  choice_in true x y a b = a
  choice_in false x y a b = b

  left_name_in : (p : ℕ) → HasNoLineEnd (left_side_name g p)
  unfolding left_side_name
  left_name_in p = choice_in (nat_lt p (length g.starts)) [] _ refl (side_by (slice_get g.productions (p - length g.starts)))

  left_in : (p : ℕ) → HasNoLineEnd (left_side_text g p)
  left_in p = choice_in (nat_lt p (length g.starts)) _ _ (HasNoLineEnd-append (start_name g p) (codes "'") (start_in p) refl) (left_name_in p)

  production_in : (p : ℕ) → HasNoLineEnd (production_text g p)
  production_in p = HasNoLineEnd-append (left_side_text g p ++ codes " ->") (spaced_symbols g (rhs_of (plain_of g) p)) (HasNoLineEnd-append (left_side_text g p) (codes " ->") (left_in p) refl) (names_in (rhs_of (plain_of g) p))

  look_in : (look : Look) → HasNoLineEnd (look_name g look)
  look_in (Token z) = names.tokens z
  look_in End = refl

  looks_in : (looks : List Look) → HasNoLineEnd (looks_after g looks)
  looks_in [] = refl
  looks_in (look ∷ looks) = HasNoLineEnd-append (look_name g look) (looks_after g looks) (look_in look) (looks_in looks)

  kernel_in : (item : KernelItem) → HasNoLineEnd (item_text g item)
  kernel_in item =
      let symbols = rhs_of (plain_of g) item.production in
      let left = left_side_text g item.production ++ codes " ->" in
      let front = left ++ spaced_symbols g (take item.dot symbols) in
      let dotted = front ++ codes " ." in
      let back = dotted ++ spaced_symbols g (drop item.dot symbols) in
      let open_looks = back ++ codes " [" in
      let looks = open_looks ++ looks_after g item.looks in
      let in_left : HasNoLineEnd left = HasNoLineEnd-append (left_side_text g item.production) (codes " ->") (left_in item.production) refl in
      let in_front : HasNoLineEnd front = HasNoLineEnd-append left (spaced_symbols g (take item.dot symbols)) in_left (names_in (take item.dot symbols)) in
      let in_dotted : HasNoLineEnd dotted = HasNoLineEnd-append front (codes " .") in_front refl in
      let in_back : HasNoLineEnd back = HasNoLineEnd-append dotted (spaced_symbols g (drop item.dot symbols)) in_dotted (names_in (drop item.dot symbols)) in
      let in_open : HasNoLineEnd open_looks = HasNoLineEnd-append back (codes " [") in_back refl in
      let in_looks : HasNoLineEnd looks = HasNoLineEnd-append open_looks (looks_after g item.looks) in_open (looks_in item.looks) in
      HasNoLineEnd-append looks (codes " ]") in_looks refl

  -- ---- Comment lines.

  mark : IsGeneratedText (codes "##" ++ 10 ∷ [])
  mark = IsGeneratedText-line (codes "##") refl refl

  state_line : (s : ℕ) → s < 2 ^ 64 → IsGeneratedText ((codes "## Ends in an error in state: " ++ (decimal s ++ codes ".")) ++ 10 ∷ [])
  state_line s lt = IsGeneratedText-line (codes "## Ends in an error in state: " ++ (decimal s ++ codes ".")) refl (HasNoLineEnd-append (decimal s) (codes ".") (decimal_in s lt) refl)

  IsGeneratedText-state : (s : ℕ) → s < 2 ^ 64 → IsGeneratedText (state_comment s)
  unfolding state_comment
  IsGeneratedText-state s lt =
      IsGeneratedText-equal (state_comment s) ((codes "##" ++ 10 ∷ []) ++ (((codes "## Ends in an error in state: " ++ (decimal s ++ codes ".")) ++ 10 ∷ []) ++ (codes "##" ++ 10 ∷ [])))
      (ap (λ (t : Text). codes "##\n## Ends in an error in state: " ++ t) (sym (append_assoc (decimal s ++ codes ".") (10 ∷ []) (codes "##\n") ∙ append_assoc (decimal s) (codes ".") (codes "\n##\n"))))
      (IsGeneratedText-append (codes "##" ++ 10 ∷ []) _ mark (IsGeneratedText-append _ (codes "##" ++ 10 ∷ []) (state_line s lt) mark))

  IsGeneratedText-kernel : (items : List KernelItem) → IsGeneratedText (kernel_comments g items)
  IsGeneratedText-kernel [] = IsGeneratedText-empty
  IsGeneratedText-kernel (item ∷ items) = IsGeneratedText-append (item_line (codes "## ") g item) (kernel_comments g items) (IsGeneratedText-line (codes "## " ++ item_text g item) refl (kernel_in item)) (IsGeneratedText-kernel items)

  IsGeneratedText-suffix : (symbols : List Symbol) → IsGeneratedText (suffix_comment g symbols)
  unfolding suffix_title
  IsGeneratedText-suffix symbols =
      IsGeneratedText-equal (suffix_comment g symbols)
      ((codes "##" ++ 10 ∷ []) ++ ((codes "## The known suffix of the stack is as follows:" ++ 10 ∷ []) ++ (((codes "##" ++ spaced_symbols g symbols) ++ 10 ∷ []) ++ (codes "##" ++ 10 ∷ []))))
      (ap (λ (t : Text). codes "##\n## The known suffix of the stack is as follows:\n##" ++ t) (sym (append_assoc (spaced_symbols g symbols) (10 ∷ []) (codes "##\n"))))
      (IsGeneratedText-append (codes "##" ++ 10 ∷ []) _ mark
      (IsGeneratedText-append (codes "## The known suffix of the stack is as follows:" ++ 10 ∷ []) _ (IsGeneratedText-line (codes "## The known suffix of the stack is as follows:") refl refl)
      (IsGeneratedText-append ((codes "##" ++ spaced_symbols g symbols) ++ 10 ∷ []) (codes "##" ++ 10 ∷ []) (IsGeneratedText-line (codes "##" ++ spaced_symbols g symbols) refl (names_in symbols)) mark)))

  reduced_line : (p : ℕ) → IsGeneratedText (reduced_comment g p)
  unfolding reduced_title
  reduced_line p =
      IsGeneratedText-equal (reduced_comment g p) ((codes "## Reduced before the error: " ++ production_text g p) ++ 10 ∷ []) refl
      (IsGeneratedText-line (codes "## Reduced before the error: " ++ production_text g p) refl (production_in p))

  IsGeneratedText-reduced : (ps : List ℕ) → IsGeneratedText (reduced_comments g ps)
  IsGeneratedText-reduced [] = IsGeneratedText-empty
  IsGeneratedText-reduced (p ∷ ps) = IsGeneratedText-append (reduced_comment g p) (reduced_comments g ps) (reduced_line p) (IsGeneratedText-reduced ps)

  IsGeneratedText-comments : (items : List KernelItem) (s : ℕ) (item : KernelItem) (ps : List ℕ) → s < 2 ^ 64 → IsGeneratedText (comments g items s item ps)
  IsGeneratedText-comments items s item ps lt =
      IsGeneratedText-append ((state_comment s ++ kernel_comments g items) ++ suffix_comment g (before_dot g item)) (reduced_comments g ps)
      (IsGeneratedText-append (state_comment s ++ kernel_comments g items) (suffix_comment g (before_dot g item)) (IsGeneratedText-append (state_comment s) (kernel_comments g items) (IsGeneratedText-state s lt) (IsGeneratedText-kernel items)) (IsGeneratedText-suffix (before_dot g item)))
      (IsGeneratedText-reduced ps)

  -- The comment text of a sentence that fails consists of generated lines.
  pub IsGeneratedText-comment : (a : Automaton) (t : TableData) → Facts t → (start : ℕ) (w : List ℕ) (text : Text) → IsCommentText g a t start w text → IsGeneratedText text
  IsGeneratedText-comment a t f start w text is =
      let below : is.state < length t.states = refusing_state_known t f start w (length w - 1) is.state is.fails.sentence.known is.fails.verdict in
      let few : length t.states < 2 ^ 32 = f.ranges.few_states in
      IsGeneratedText-equal text (comments g (kernel_at a is.state).items is.state is.item is.reduced) is.is (IsGeneratedText-comments (kernel_at a is.state).items is.state is.item is.reduced (omega (arith, below, few)))

  expected_line : (tokens : List ℕ) → IsGeneratedText (expected_comment g tokens)
  unfolding expected_title
  expected_line tokens =
      IsGeneratedText-equal (expected_comment g tokens) ((codes "## Expected:" ++ names_after g tokens) ++ 10 ∷ []) refl
      (IsGeneratedText-line (codes "## Expected:" ++ names_after g tokens) refl (token_names_in tokens))

  -- The comment lines of a sentence that fails, with the expected tokens or without, consist of generated lines.
  pub IsGeneratedText-block : (a : Automaton) (t : TableData) → Facts t → (expected : Bool) (start : ℕ) (w : List ℕ) (text : Text) → IsCommentBlock expected g a t start w text → IsGeneratedText text
  IsGeneratedText-block a t f false start w text is = IsGeneratedText-comment a t f start w text is
  IsGeneratedText-block a t f true start w text is =
      IsGeneratedText-equal text (is.0 ++ expected_comment g is.2) is.4 (IsGeneratedText-append is.0 (expected_comment g is.2) (IsGeneratedText-comment a t f start w is.0 is.1) (expected_line is.2))
