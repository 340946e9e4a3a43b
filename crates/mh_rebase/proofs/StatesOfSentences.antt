-- Lemmas on the states in which the sentences of a rebased text fail: each sentence has one, and no two share one.
use Rattle.std.proofs.Common.{◌≡◌, ℕ, Bool, true, false, List, [], ◌∷◌, ◌++◌, map, filter, flat_map, Option, None, Some, refl, sym, ◌∙◌, ap, subst, inl, inr, arith, if◌then◌else◌, append_assoc, append-nil}
use Rattle.std.specs.Prelude.{slice_get, is_none}
use Rattle.std.specs.List.{AllByRecursion, AllZip, Contains}
use Rattle.std.proofs.lemmas.Bool.{cases_order, eq-eqb, eqb-true}
use Rattle.std.proofs.lemmas.List.{map-append}
use Rattle.std.proofs.lemmas.List.Elements.{Contains-append_left, Contains-append_right}
use Rattle.std.proofs.lemmas.Grind.{flat_map-append}
use Rattle.mh_grammar.proofs.Lists.{at_contains, contains_here, contains_there, contains_cases, contains_none, recursion-append, recursion_at, recursion_contains, rising-append, rising-push, rising_at, zip_left, map_contains, contains_map}
use Rattle.mh_grammar.specs.Edges.{IsRising}
use Rattle.mh_grammar.specs.declared.types.Grammar.{Grammar}
use Rattle.mh_grammar.specs.declared.types.Sentence.{Sentence}
use Rattle.mh_grammar.specs.Text.{Text}
use Rattle.mh_items_kernels.specs.KernelTypes.{Automaton}
use Rattle.mh_tables_core.specs.Table.{TableData}
use Rattle.mh_tables_core.specs.Failing.{CatalogueRow, IsRowBefore, Fails, Failing, FailsFirst, Catalogue}
use Rattle.mh_msgfile.specs.FileTexts.{content_of}
use Rattle.mh_msgfile.specs.declared.messages.MsgSentence.{MsgSentence}
use Rattle.mh_check.specs.Checks.{FailsIn, Sound}
use Rattle.mh_msgfile.proofs.PrintedAgain.{filter_on}
use Rattle.mh_check.proofs.FailsOnce.{fails_once}
use Rattle.mh_rebase.specs.Decisions.{Decision, Keep, Drop, DecidedLine, keeps_in, kept_line, IsDecision, AreDecided}
use Rattle.mh_rebase.specs.RebasedText.{is_new_row}
use Rattle.mh_rebase.proofs.IsWritten.{kept_content, kept_contents}

-- A start and tokens, and the state in which they fail.
abbrev pub FailingSentence : Type 0
FailingSentence = (ℕ × List ℕ) × ℕ

abbrev pub OtherState : FailingSentence → FailingSentence → Type 0
OtherState y z = y.1 ≡ z.1 → ⊥

abbrev pub content : FailingSentence → ℕ × List ℕ
content z = z.0

abbrev pub failing_of_decision : Decision → List FailingSentence
failing_of_decision (Keep x s lines) = ((x.start, x.tokens), s) ∷ []
failing_of_decision (Drop reason) = []

abbrev pub failing_of_lines : List DecidedLine → List FailingSentence
failing_of_lines js = flat_map (λ j. failing_of_decision j.decision) js

abbrev pub failing_of_row : CatalogueRow → FailingSentence
failing_of_row row = ((row.start, row.sentence), row.state)

-- ---- The sentences with their states, taken without the states, are the kept sentences.

decision_contents : (d : Decision) → map content (failing_of_decision d) ≡ kept_content d
decision_contents (Keep x s lines) = refl
decision_contents (Drop reason) = refl

pub failing_contents : (js : List DecidedLine) → map content (failing_of_lines js) ≡ kept_contents js
failing_contents [] = refl
failing_contents (j ∷ js) =
    map-append content (failing_of_decision j.decision) (failing_of_lines js) ∙ ap (λ (l : List (ℕ × List ℕ)). l ++ map content (failing_of_lines js)) (decision_contents j.decision)
    ∙ ap (λ (l : List (ℕ × List ℕ)). kept_content j.decision ++ l) (failing_contents js)

-- ---- The kept line of a state.

abbrev HasLine : List DecidedLine → ℕ → Type 0
HasLine js s = (n : ℕ) × (kept_line js s ≡ Some n)

line_on : (j : DecidedLine) (js : List DecidedLine) (s : ℕ) (c : Bool) → keeps_in s j.decision ≡ c → HasLine js s → HasLine (j ∷ js) s
line_on j js s true is later = (j.line.line, rw is refl)
line_on j js s false is later = (later.0, rw is later.1)

here_line : (j : DecidedLine) (js : List DecidedLine) (x : Sentence) (s : ℕ) (lines : Text) → j.decision ≡ Keep x s lines → HasLine (j ∷ js) s
here_line j js x s lines is = let keeps : keeps_in s j.decision ≡ true = ap (keeps_in s) is ∙ eq-eqb s s refl in (j.line.line, rw keeps refl)

first_line : (j : DecidedLine) (js : List DecidedLine) (d : Decision) (z : FailingSentence) → j.decision ≡ d → Contains (failing_of_decision d ++ failing_of_lines js) z → ((y : FailingSentence) → Contains (failing_of_lines js) y → HasLine js y.1) → HasLine (j ∷ js) z.1
first_line j js (Drop reason) z is c later = line_on j js z.1 (keeps_in z.1 j.decision) refl (later z c)
first_line j js (Keep x s lines) z is c later = elim (contains_cases ((x.start, x.tokens), s) (failing_of_lines js) z c) [
  | inl same ↦ subst (HasLine (j ∷ js)) (ap (λ (y : FailingSentence). y.1) same) (here_line j js x s lines is)
  | inr more ↦ line_on j js z.1 (keeps_in z.1 j.decision) refl (later z more)
]

pub has_line : (js : List DecidedLine) (z : FailingSentence) → Contains (failing_of_lines js) z → HasLine js z.1
has_line [] z c = absurd (contains_none z c)
has_line (j ∷ js) z c = first_line j js j.decision z refl c (has_line js)

abbrev pub HasSentenceIn : List FailingSentence → ℕ → Type 0
HasSentenceIn zs s = (z : FailingSentence) × Contains zs z × (z.1 ≡ s)

line_here : (d : Decision) (zs : List FailingSentence) (s : ℕ) → keeps_in s d ≡ true → HasSentenceIn (failing_of_decision d ++ zs) s
line_here (Keep x r lines) zs s is = (((x.start, x.tokens), r), contains_here ((x.start, x.tokens), r) zs, eqb-true r s is)
line_here (Drop reason) zs s is = cc

line_there : (d : Decision) (zs : List FailingSentence) (s : ℕ) → HasSentenceIn zs s → HasSentenceIn (failing_of_decision d ++ zs) s
line_there (Keep x r lines) zs s found = (found.0, contains_there ((x.start, x.tokens), r) zs found.0 found.1, found.2)
line_there (Drop reason) zs s found = found

line_by : (j : DecidedLine) (js : List DecidedLine) (s n : ℕ) (c : Bool) → keeps_in s j.decision ≡ c → (if c then Some j.line.line else kept_line js s) ≡ Some n → (kept_line js s ≡ Some n → HasSentenceIn (failing_of_lines js) s) → HasSentenceIn (failing_of_decision j.decision ++ failing_of_lines js) s
line_by j js s n true is at later = line_here j.decision (failing_of_lines js) s is
line_by j js s n false is at later = line_there j.decision (failing_of_lines js) s (later at)

pub sentence_of_kept_line : (js : List DecidedLine) (s n : ℕ) → kept_line js s ≡ Some n → HasSentenceIn (failing_of_lines js) s
sentence_of_kept_line [] s n is = cc
sentence_of_kept_line (j ∷ js) s n is = line_by j js s n (keeps_in s j.decision) refl is (sentence_of_kept_line js s n)

-- ---- A row is in the filtered list exactly if it is in the list and passes the test.

module _ (q : CatalogueRow → Bool) where
  filter_by : (x : CatalogueRow) (xs : List CatalogueRow) (y : CatalogueRow) (c : Bool) → q x ≡ c → Contains (if c then x ∷ filter q xs else filter q xs) y → (Contains (filter q xs) y → Contains xs y × (q y ≡ true)) → Contains (x ∷ xs) y × (q y ≡ true)
  filter_by x xs y true is c later = elim (contains_cases x (filter q xs) y c) [
    | inl same ↦ (subst (Contains (x ∷ xs)) same (contains_here x xs), subst (λ (z : CatalogueRow). q z ≡ true) same is)
    | inr more ↦ (contains_there x xs y (later more).0, (later more).1)
  ]
  filter_by x xs y false is c later = (contains_there x xs y (later c).0, (later c).1)

  pub in_filter : (xs : List CatalogueRow) (y : CatalogueRow) → Contains (filter q xs) y → Contains xs y × (q y ≡ true)
  in_filter [] y c = absurd (contains_none y c)
  in_filter (x ∷ xs) y c = filter_by x xs y (q x) refl (subst (λ (l : List CatalogueRow). Contains l y) (filter_on q x xs (q x) refl) c) (in_filter xs y)

  to_filter_by : (x : CatalogueRow) (xs : List CatalogueRow) (y : CatalogueRow) (c : Bool) → q x ≡ c → Contains (x ∷ xs) y → q y ≡ true → (Contains xs y → Contains (filter q xs) y) → Contains (if c then x ∷ filter q xs else filter q xs) y
  to_filter_by x xs y true is c holds later = elim (contains_cases x xs y c) [
    | inl same ↦ subst (Contains (x ∷ filter q xs)) same (contains_here x (filter q xs))
    | inr more ↦ contains_there x (filter q xs) y (later more)
  ]
  to_filter_by x xs y false is c holds later = elim (contains_cases x xs y c) [
    | inl same ↦ (let no : true ≡ false = sym holds ∙ ap q (sym same) ∙ is in cc)
    | inr more ↦ later more
  ]

  pub to_filter : (xs : List CatalogueRow) (y : CatalogueRow) → Contains xs y → q y ≡ true → Contains (filter q xs) y
  to_filter [] y c holds = absurd (contains_none y c)
  to_filter (x ∷ xs) y c holds = subst (λ (l : List CatalogueRow). Contains l y) (sym (filter_on q x xs (q x) refl)) (to_filter_by x xs y (q x) refl c holds (λ d. to_filter xs y d holds))

  all_by : (P : CatalogueRow → Type 0) (x : CatalogueRow) (xs : List CatalogueRow) (c : Bool) → P x → AllByRecursion P (filter q xs) → AllByRecursion P (if c then x ∷ filter q xs else filter q xs)
  all_by P x xs true here all = (here, all)
  all_by P x xs false here all = all

  pub all_filtered : (P : CatalogueRow → Type 0) (xs : List CatalogueRow) → AllByRecursion P xs → AllByRecursion P (filter q xs)
  all_filtered P [] all = tt
  all_filtered P (x ∷ xs) all = subst (AllByRecursion P) (sym (filter_on q x xs (q x) refl)) (all_by P x xs (q x) all.0 (all_filtered P xs all.1))

  apart_from : (x : CatalogueRow) (xs : List CatalogueRow) → AllByRecursion (IsRowBefore x) xs → AllByRecursion (OtherState (failing_of_row x)) (map failing_of_row xs)
  apart_from x [] all = tt
  apart_from x (y ∷ xs) all = ((λ is. absurd (let no : ⊥ = omega (arith, all.0, is) in no)), apart_from x xs all.1)

  rows_by : (x : CatalogueRow) (xs : List CatalogueRow) (c : Bool) → AllByRecursion (IsRowBefore x) (filter q xs) → IsRising OtherState (map failing_of_row (filter q xs)) → IsRising OtherState (map failing_of_row (if c then x ∷ filter q xs else filter q xs))
  rows_by x xs true before rising = (apart_from x (filter q xs) before, rising)
  rows_by x xs false before rising = rising

  pub rows_apart : (rows : List CatalogueRow) → IsRising IsRowBefore rows → IsRising OtherState (map failing_of_row (filter q rows))
  rows_apart [] rising = tt
  rows_apart (x ∷ xs) rising =
      subst (λ (l : List CatalogueRow). IsRising OtherState (map failing_of_row l)) (sym (filter_on q x xs (q x) refl))
      (rows_by x xs (q x) (all_filtered (IsRowBefore x) xs rising.0) (rows_apart xs rising.1))

module _ (expected : Bool) (g : Grammar) (a : Automaton) (t : TableData) where
  abbrev pub FailsThere : FailingSentence → Type 0
  FailsThere z = Fails t z.0.0 z.0.1 z.1

  decision_fails : (before : List DecidedLine) (text : Text) (d : Decision) → IsDecision expected g a t before text d → AllByRecursion FailsThere (failing_of_decision d)
  decision_fails before text (Keep x s lines) is = (is.fails, tt)
  decision_fails before text (Drop reason) is = tt

  pub lines_fail : (before js : List DecidedLine) → AreDecided expected g a t before js → AllByRecursion FailsThere (failing_of_lines js)
  lines_fail before [] all = tt
  lines_fail before (j ∷ js) all = recursion-append FailsThere (failing_of_decision j.decision) (failing_of_lines js) (decision_fails before j.line.text j.decision all.0) (lines_fail (before ++ j ∷ []) js all.1)

  decision_apart : (before : List DecidedLine) (text : Text) (d : Decision) → IsDecision expected g a t before text d → IsRising OtherState (failing_of_lines before) → IsRising OtherState (failing_of_lines before ++ (failing_of_decision d ++ []))
  decision_apart before text (Drop reason) is rising = subst (IsRising OtherState) (sym (append-nil (failing_of_lines before))) rising
  decision_apart before text (Keep x s lines) is rising =
      rising-push OtherState (failing_of_lines before) ((x.start, x.tokens), s) rising (λ y c same. let line = has_line before y c in let at : kept_line before s ≡ Some line.0 = ap (kept_line before) (sym same) ∙ line.1 in let no : None ≡ Some line.0 = sym is.first ∙ at in cc)

  pub lines_apart : (before js : List DecidedLine) → AreDecided expected g a t before js → IsRising OtherState (failing_of_lines before) → IsRising OtherState (failing_of_lines (before ++ js))
  lines_apart before [] all rising = subst (λ (l : List DecidedLine). IsRising OtherState (failing_of_lines l)) (sym (append-nil before)) rising
  lines_apart before (j ∷ js) all rising =
      let next = subst (IsRising OtherState) (sym (flat_map-append (λ (k : DecidedLine). failing_of_decision k.decision) before (j ∷ []))) (decision_apart before j.line.text j.decision all.0 rising) in
      subst (λ (l : List DecidedLine). IsRising OtherState (failing_of_lines l)) (append_assoc before (j ∷ []) js) (lines_apart (before ++ j ∷ []) js all.1 next)

  rows_fail : (rows : List CatalogueRow) → AllByRecursion (λ (row : CatalogueRow). FailsFirst t row.start row.sentence row.state) rows → AllByRecursion FailsThere (map failing_of_row rows)
  rows_fail [] all = tt
  rows_fail (row ∷ rows) all = (all.0.fails, rows_fail rows all.1)

  -- The kept sentences, and the sentences of the rows in whose states no kept sentence fails.
  module _ (js : List DecidedLine) (rows : List CatalogueRow) (decided : AreDecided expected g a t [] js) (catalogue : Catalogue t rows) where
    abbrev pub all_failing : List FailingSentence
    all_failing = failing_of_lines js ++ map failing_of_row (filter (is_new_row js) rows)

    pub all_fail : AllByRecursion FailsThere all_failing
    all_fail =
        let each : AllByRecursion (λ (row : CatalogueRow). FailsFirst t row.start row.sentence row.state) (filter (is_new_row js) rows) = all_filtered (is_new_row js) (λ (row : CatalogueRow). FailsFirst t row.start row.sentence row.state) rows catalogue.each in
        recursion-append FailsThere (failing_of_lines js) (map failing_of_row (filter (is_new_row js) rows)) (lines_fail [] js decided) (rows_fail (filter (is_new_row js) rows) each)

    new_apart : (y z : FailingSentence) → Contains (failing_of_lines js) y → Contains (map failing_of_row (filter (is_new_row js) rows)) z → OtherState y z
    new_apart y z c d same =
        let of_row = map_contains failing_of_row (filter (is_new_row js) rows) z d in
        let new = (in_filter (is_new_row js) rows of_row.0 of_row.1).1 in
        let line = has_line js y c in
        let state : y.1 ≡ of_row.0.state = same ∙ sym (ap (λ (p : FailingSentence). p.1) of_row.2) in
        let at : kept_line js of_row.0.state ≡ Some line.0 = ap (kept_line js) (sym state) ∙ line.1 in
        let no : true ≡ false = sym new ∙ ap is_none at in cc

    pub all_apart : IsRising OtherState all_failing
    all_apart = rising-append OtherState (failing_of_lines js) (map failing_of_row (filter (is_new_row js) rows)) (lines_apart [] js decided tt) (rows_apart (is_new_row js) rows catalogue.rising) new_apart

    found_by : (s : ℕ) (row : CatalogueRow) → Contains rows row → row.state ≡ s → (o : Option ℕ) → kept_line js s ≡ o → HasSentenceIn all_failing s
    found_by s row c at None is =
        let new : is_none (kept_line js row.state) ≡ true = ap (λ (r : ℕ). is_none (kept_line js r)) at ∙ ap is_none is in
        (failing_of_row row, Contains-append_right (failing_of_lines js) (map failing_of_row (filter (is_new_row js) rows)) (failing_of_row row) (contains_map failing_of_row (filter (is_new_row js) rows) row (to_filter (is_new_row js) rows row c new)), at)
    found_by s row c at (Some n) is = let found = sentence_of_kept_line js s n is in (found.0, Contains-append_left (failing_of_lines js) (map failing_of_row (filter (is_new_row js) rows)) found.0 found.1, found.2)

    -- Each state in which some sentence fails is among the states of these sentences.
    pub all_found : (s : ℕ) → Failing t s → HasSentenceIn all_failing s
    all_found s failing = let row = catalogue.complete s failing in found_by s row.0 row.1 row.2 (kept_line js s) refl

-- ---- The sentences of the text that is read again.

zip_of : {A B C : Type 0} (f : A → C) (h : B → C) (xs : List A) (ys : List B) → map f xs ≡ map h ys → AllZip (λ (x : A) (y : B). f x ≡ h y) xs ys
zip_of f h [] [] is = tt
zip_of f h [] (y ∷ ys) is = absurd (cc)
zip_of f h (x ∷ xs) [] is = absurd (cc)
zip_of f h (x ∷ xs) (y ∷ ys) is = (cc, zip_of f h xs ys (cc))

module _ (t : TableData) (xs : List MsgSentence) (zs : List FailingSentence) (same : map content_of xs ≡ map content zs) (fail : AllByRecursion (λ (z : FailingSentence). Fails t z.0.0 z.0.1 z.1) zs) where
  abbrev Zips : Type 0
  Zips = AllZip (λ (x : MsgSentence) (z : FailingSentence). content_of x ≡ content z) xs zs

  zips : Zips
  zips = zip_of content_of content xs zs same

  fails_at : (x : MsgSentence) (z : FailingSentence) (k : ℕ) → content_of x ≡ content z → slice_get zs k ≡ Some z → FailsIn t x z.1
  fails_at x z k is at = subst (λ (c : ℕ × List ℕ). Fails t c.0 c.1 z.1) (sym is) (recursion_at (λ (y : FailingSentence). Fails t y.0.0 y.0.1 y.1) zs fail k z at)

  state_at : (k s : ℕ) (x : MsgSentence) → slice_get xs k ≡ Some x → FailsIn t x s → (z : FailingSentence) × (slice_get zs k ≡ Some z) × (z.1 ≡ s)
  state_at k s x at fails =
      let found = zip_left (λ (y : MsgSentence) (z : FailingSentence). content_of y ≡ content z) xs zs zips k x at in
      (found.0, found.1, fails_once t x found.0.1 s (fails_at x found.0 k found.2 found.1) fails)

  pub sound_by : IsRising OtherState zs → Sound t xs
  sound_by apart = record {
    each = λ x c. let at = at_contains xs x c in let found = zip_left (λ (y : MsgSentence) (z : FailingSentence). content_of y ≡ content z) xs zs zips at.0 x at.1 in (found.0.1, fails_at x found.0 at.0 found.2 found.1);
    distinct = λ i j s x y at_i at_j in_x in_y.
        let p = state_at i s x at_i in_x in
        let q = state_at j s y at_j in_y in
        elim (cases_order i j) [
          | inl is ↦ is
          | inr other ↦ elim other [
            | inl lt ↦ absurd (rising_at OtherState zs apart i j p.0 q.0 lt p.1 q.1 (p.2 ∙ sym q.2))
            | inr gt ↦ absurd (rising_at OtherState zs apart j i q.0 p.0 gt q.1 p.1 (q.2 ∙ sym p.2))
          ]
        ];
  }

  pub complete_by : (s : ℕ) → HasSentenceIn zs s → (x : MsgSentence) × Contains xs x × FailsIn t x s
  complete_by s found =
      let z = found.0 in
      let there : Contains (map content_of xs) (content z) = subst (λ (l : List (ℕ × List ℕ)). Contains l (content z)) (sym same) (contains_map content zs z found.1) in
      let of_x = map_contains content_of xs (content z) there in
      let fails : Fails t z.0.0 z.0.1 z.1 = recursion_contains (λ (y : FailingSentence). Fails t y.0.0 y.0.1 y.1) zs fail z found.1 in
      (of_x.0, of_x.1, subst (λ (r : ℕ). FailsIn t of_x.0 r) found.2 (subst (λ (c : ℕ × List ℕ). Fails t c.0 c.1 z.1) (sym of_x.2) fails))
