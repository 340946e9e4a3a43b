-- Lemmas on one step of the walk over lexemes.
use Rattle.std.proofs.Common.{◌≡◌, ◌≢◌, ◌≤◌, ◌-◌, ◌+◌, ℕ, zero, suc, List, None, refl, sym, ap, ◌∙◌, add-one, arith}
use Rattle.mh_grammar.specs.declared.types.Assoc.{Assoc}
use Rattle.mh_reader_parser.specs.declared.token_kinds.TokenKind.{TokenKind}
use Rattle.mh_reader_parser.specs.declared.token_kinds.TokenKind.TheVariants as signs
use Rattle.mh_reader_places.specs.declared.mentions.Role.{Role}
use Rattle.mh_reader_places.specs.declared.scan.Section.{Section}
use Rattle.mh_reader_places.specs.declared.scan.Section.TheVariants as sections
use Rattle.mh_reader_places.specs.declared.scan.Scan.{Scan}
use Rattle.mh_reader_places.specs.code.ScanSteps.{AreCountsWithin, one_less, counted, in_section, declared, with_actual, with_count, after_alternative, in_body, at_body_start, after_prec, at_rule_start, at_group_start, in_formals, after_group, after_group_prec, taken_in, taken, word_role, token_role, reference_role, head_role, reference_of, without_name}

-- ---- Counts.

pub one_less_is : (n : ℕ) → one_less n ≡ n - 1
one_less_is zero = omega arith
one_less_is (suc n) = omega arith

counted-positive : (b n : ℕ) → b ≢ 0 → counted b n ≡ n
counted-positive zero n h = absurd (h refl)
counted-positive (suc b) n h = refl

pub with_actual-positive : (s : Scan) → s.brackets ≢ 0 → with_actual s ≡ s
with_actual-positive s h = ap (λ n. record s { actuals = n }) (counted-positive s.brackets s.actuals h)

pub with_actual-zero : (s : Scan) → s.brackets ≡ 0 → with_actual s ≡ record s { actuals = s.actuals + 1 }
with_actual-zero s h = ap (λ b. record s { actuals = counted b s.actuals }) h ∙ ap (λ n. record s { actuals = n }) (sym (add-one s.actuals))

-- ---- The counts stay in range.

counted_within : (b n m : ℕ) → n ≤ m → counted b n ≤ suc m
counted_within zero n m h = omega arith
counted_within (suc b) n m h = omega arith

one_less_within : (n m : ℕ) → n ≤ m → one_less n ≤ suc m
one_less_within zero m h = omega arith
one_less_within (suc n) m h = omega arith

within_more : (n : ℕ) (s : Scan) → AreCountsWithin n s → AreCountsWithin (suc n) s
within_more n s h = record { levels = omega arith; on_error = omega arith; alternatives = omega arith; actuals = omega arith; brackets = omega arith }

in_section_within : (n : ℕ) (section : Section) (s : Scan) → AreCountsWithin n s → AreCountsWithin n (in_section section s)
in_section_within n section s h = record { levels = h.levels; on_error = h.on_error; alternatives = h.alternatives; actuals = h.actuals; brackets = h.brackets }

section_within : (n : ℕ) (section : Section) (s : Scan) → AreCountsWithin n s → AreCountsWithin (suc n) (in_section section s)
section_within n section s h = in_section_within (suc n) section s (within_more n s h)

declared_within : (n : ℕ) (s : Scan) (g : TokenKind) → AreCountsWithin n s → AreCountsWithin (suc n) (declared s g)
declared_within n s signs.Token h = section_within n sections.Tokens s h
declared_within n s signs.Start h = section_within n sections.Starts s h
declared_within n s (signs.Level g) h = record { levels = omega arith; on_error = omega arith; alternatives = omega arith; actuals = omega arith; brackets = omega arith }
declared_within n s signs.OnErrorReduce h = record { levels = omega arith; on_error = omega arith; alternatives = omega arith; actuals = omega arith; brackets = omega arith }
declared_within n s signs.Type h = section_within n sections.Unread s h
declared_within n s signs.Parameter h = section_within n sections.Unread s h
declared_within n s signs.Attribute h = section_within n sections.Unread s h
declared_within n s signs.Percents h = section_within n sections.RuleStart s h
declared_within n s _ h = within_more n s h

with_actual_within : (n : ℕ) (s : Scan) → AreCountsWithin n s → AreCountsWithin (suc n) (with_actual s)
with_actual_within n s h = record { levels = omega arith; on_error = omega arith; alternatives = omega arith; actuals = counted_within s.brackets s.actuals n h.actuals; brackets = omega arith }

with_count_within : (n : ℕ) (s : Scan) (g : TokenKind) → AreCountsWithin n s → AreCountsWithin (suc n) (with_count s g)
with_count_within n s signs.Open h = record { levels = omega arith; on_error = omega arith; alternatives = omega arith; actuals = omega arith; brackets = omega arith }
with_count_within n s signs.Close h = record { levels = omega arith; on_error = omega arith; alternatives = omega arith; actuals = omega arith; brackets = one_less_within s.brackets n h.brackets }
with_count_within n s signs.Word h = with_actual_within n s h
with_count_within n s signs.Quoted h = with_actual_within n s h
with_count_within n s signs.Equals h = record { levels = omega arith; on_error = omega arith; alternatives = omega arith; actuals = one_less_within s.actuals n h.actuals; brackets = omega arith }
with_count_within n s _ h = within_more n s h

after_alternative_within : (n : ℕ) (section : Section) (s : Scan) → AreCountsWithin n s → AreCountsWithin (suc n) (after_alternative section s)
after_alternative_within n section s h = record { levels = omega arith; on_error = omega arith; alternatives = omega arith; actuals = omega arith; brackets = omega arith }

in_list_within : (n : ℕ) (s : Scan) (g : TokenKind) → AreCountsWithin n s → AreCountsWithin (suc n) (declared (with_count s g) g)
in_list_within n s signs.Open h = with_count_within n s signs.Open h
in_list_within n s signs.Close h = with_count_within n s signs.Close h
in_list_within n s signs.Word h = with_actual_within n s h
in_list_within n s signs.Quoted h = with_actual_within n s h
in_list_within n s signs.Equals h = with_count_within n s signs.Equals h
in_list_within n s g h = declared_within n s g h

in_body_within : (n : ℕ) (s : Scan) (g : TokenKind) → AreCountsWithin n s → AreCountsWithin (suc n) (in_body s g)
in_body_within n s signs.Bar h = after_alternative_within n sections.Body s h
in_body_within n s signs.Prec h = section_within n sections.Prec s h
in_body_within n s signs.Action h = after_alternative_within n sections.Group s h
in_body_within n s g h = in_section_within (suc n) sections.Body (with_count s g) (with_count_within n s g h)

at_body_start_within : (n : ℕ) (s : Scan) (g : TokenKind) → AreCountsWithin n s → AreCountsWithin (suc n) (at_body_start s g)
at_body_start_within n s signs.Bar h = section_within n sections.Body s h
at_body_start_within n s g h = in_body_within n s g h

after_prec_within : (n : ℕ) (s : Scan) (g : TokenKind) → AreCountsWithin n s → AreCountsWithin (suc n) (after_prec s g)
after_prec_within n s signs.Bar h = after_alternative_within n sections.Body s h
after_prec_within n s signs.Action h = after_alternative_within n sections.Group s h
after_prec_within n s _ h = within_more n s h

at_rule_start_within : (n : ℕ) (s : Scan) (g : TokenKind) → AreCountsWithin n s → AreCountsWithin (suc n) (at_rule_start s g)
at_rule_start_within n s signs.Word h = section_within n sections.Formals s h
at_rule_start_within n s _ h = within_more n s h

at_group_start_within : (n : ℕ) (section : Section) (s : Scan) → AreCountsWithin n s → AreCountsWithin (suc n) (at_group_start section s)
at_group_start_within n section s h = record { levels = omega arith; on_error = omega arith; alternatives = omega arith; actuals = omega arith; brackets = omega arith }

in_formals_within : (n : ℕ) (s : Scan) (g : TokenKind) → AreCountsWithin n s → AreCountsWithin (suc n) (in_formals s g)
in_formals_within n s signs.Colon h = at_group_start_within n sections.BodyStart s h
in_formals_within n s _ h = within_more n s h

after_group_within : (n : ℕ) (s : Scan) (g : TokenKind) → AreCountsWithin n s → AreCountsWithin (suc n) (after_group s g)
after_group_within n s signs.Bar h = at_group_start_within n sections.Body s h
after_group_within n s signs.Prec h = section_within n sections.GroupPrec s h
after_group_within n s signs.Word h = section_within n sections.Formals s h
after_group_within n s signs.Public h = section_within n sections.RuleStart s h
after_group_within n s signs.Inline h = section_within n sections.RuleStart s h
after_group_within n s signs.Semicolon h = section_within n sections.RuleStart s h
after_group_within n s _ h = within_more n s h

after_group_prec_within : (n : ℕ) (s : Scan) (g : TokenKind) → AreCountsWithin n s → AreCountsWithin (suc n) (after_group_prec s g)
after_group_prec_within n s signs.Word h = section_within n sections.Group s h
after_group_prec_within n s signs.Quoted h = section_within n sections.Group s h
after_group_prec_within n s _ h = within_more n s h

taken_in_within : (n : ℕ) (section : Section) (s : Scan) (g : TokenKind) → AreCountsWithin n s → AreCountsWithin (suc n) (taken_in section s g)
taken_in_within n sections.Unread s g h = declared_within n s g h
taken_in_within n sections.Tokens s g h = declared_within n s g h
taken_in_within n sections.Starts s g h = declared_within n s g h
taken_in_within n sections.Levels s g h = declared_within n s g h
taken_in_within n sections.OnError s g h = in_list_within n s g h
taken_in_within n sections.RuleStart s g h = at_rule_start_within n s g h
taken_in_within n sections.Formals s g h = in_formals_within n s g h
taken_in_within n sections.BodyStart s g h = at_body_start_within n s g h
taken_in_within n sections.Body s g h = in_body_within n s g h
taken_in_within n sections.Prec s g h = after_prec_within n s g h
taken_in_within n sections.Group s g h = after_group_within n s g h
taken_in_within n sections.GroupPrec s g h = after_group_prec_within n s g h

pub AreCountsWithin-taken : (n : ℕ) (s : Scan) (g : TokenKind) → AreCountsWithin n s → AreCountsWithin (suc n) (taken s g)
AreCountsWithin-taken n s g h = taken_in_within n s.section s g h

pub AreCountsWithin-more : (n : ℕ) (s : Scan) → AreCountsWithin n s → AreCountsWithin (suc n) s
AreCountsWithin-more n s h = within_more n s h

-- A count of brackets does not change the counts of declarations.
pub with_count_levels : (s : Scan) (g : TokenKind) → (with_count s g).levels ≡ s.levels
with_count_levels s signs.Open = refl
with_count_levels s signs.Close = refl
with_count_levels s signs.Word = refl
with_count_levels s signs.Quoted = refl
with_count_levels s signs.Equals = refl
with_count_levels s _ = refl

pub with_count_on_error : (s : Scan) (g : TokenKind) → (with_count s g).on_error ≡ s.on_error
with_count_on_error s signs.Open = refl
with_count_on_error s signs.Close = refl
with_count_on_error s signs.Word = refl
with_count_on_error s signs.Quoted = refl
with_count_on_error s signs.Equals = refl
with_count_on_error s _ = refl

-- ---- Lexemes of other token kinds.

pub word_role-other : (g : TokenKind) (r : Role) → (g ≡ signs.Word → ⊥) → word_role g r ≡ None
word_role-other signs.Word r h0 = absurd (h0 refl)
word_role-other _ r h0 = refl

pub token_role-other : (g : TokenKind) → (g ≡ signs.Word → ⊥) → (g ≡ signs.Quoted → ⊥) → token_role g ≡ None
token_role-other signs.Word h0 h1 = absurd (h0 refl)
token_role-other signs.Quoted h0 h1 = absurd (h1 refl)
token_role-other _ h0 h1 = refl

pub reference_role-other : (g : TokenKind) (r : Role) → (g ≡ signs.Word → ⊥) → (g ≡ signs.Quoted → ⊥) → reference_role g r ≡ None
reference_role-other signs.Word r h0 h1 = absurd (h0 refl)
reference_role-other signs.Quoted r h0 h1 = absurd (h1 refl)
reference_role-other _ r h0 h1 = refl

pub head_role-other : (g : TokenKind) (r : Role) → (g ≡ signs.Word → ⊥) → (g ≡ signs.Quoted → ⊥) → (g ≡ signs.Question → ⊥) → (g ≡ signs.Star → ⊥) → (g ≡ signs.Plus → ⊥) → head_role g r ≡ None
head_role-other signs.Word r h0 h1 h2 h3 h4 = absurd (h0 refl)
head_role-other signs.Quoted r h0 h1 h2 h3 h4 = absurd (h1 refl)
head_role-other signs.Question r h0 h1 h2 h3 h4 = absurd (h2 refl)
head_role-other signs.Star r h0 h1 h2 h3 h4 = absurd (h3 refl)
head_role-other signs.Plus r h0 h1 h2 h3 h4 = absurd (h4 refl)
head_role-other _ r h0 h1 h2 h3 h4 = refl

pub declared-other : (s : Scan) (g : TokenKind) → (g ≡ signs.Token → ⊥) → (g ≡ signs.Start → ⊥) → ((a : Assoc) → g ≡ signs.Level a → ⊥) → (g ≡ signs.OnErrorReduce → ⊥) → (g ≡ signs.Type → ⊥) → (g ≡ signs.Parameter → ⊥) → (g ≡ signs.Attribute → ⊥) → (g ≡ signs.Percents → ⊥) → declared s g ≡ s
declared-other s signs.Token h0 h1 h2 h3 h4 h5 h6 h7 = absurd (h0 refl)
declared-other s signs.Start h0 h1 h2 h3 h4 h5 h6 h7 = absurd (h1 refl)
declared-other s (signs.Level a) h0 h1 h2 h3 h4 h5 h6 h7 = absurd (h2 a refl)
declared-other s signs.OnErrorReduce h0 h1 h2 h3 h4 h5 h6 h7 = absurd (h3 refl)
declared-other s signs.Type h0 h1 h2 h3 h4 h5 h6 h7 = absurd (h4 refl)
declared-other s signs.Parameter h0 h1 h2 h3 h4 h5 h6 h7 = absurd (h5 refl)
declared-other s signs.Attribute h0 h1 h2 h3 h4 h5 h6 h7 = absurd (h6 refl)
declared-other s signs.Percents h0 h1 h2 h3 h4 h5 h6 h7 = absurd (h7 refl)
declared-other s _ h0 h1 h2 h3 h4 h5 h6 h7 = refl

pub with_count-other : (s : Scan) (g : TokenKind) → (g ≡ signs.Open → ⊥) → (g ≡ signs.Close → ⊥) → (g ≡ signs.Word → ⊥) → (g ≡ signs.Quoted → ⊥) → (g ≡ signs.Equals → ⊥) → with_count s g ≡ s
with_count-other s signs.Open h0 h1 h2 h3 h4 = absurd (h0 refl)
with_count-other s signs.Close h0 h1 h2 h3 h4 = absurd (h1 refl)
with_count-other s signs.Word h0 h1 h2 h3 h4 = absurd (h2 refl)
with_count-other s signs.Quoted h0 h1 h2 h3 h4 = absurd (h3 refl)
with_count-other s signs.Equals h0 h1 h2 h3 h4 = absurd (h4 refl)
with_count-other s _ h0 h1 h2 h3 h4 = refl

pub in_body-other : (s : Scan) (g : TokenKind) → (g ≡ signs.Bar → ⊥) → (g ≡ signs.Prec → ⊥) → (g ≡ signs.Action → ⊥) → in_body s g ≡ in_section sections.Body (with_count s g)
in_body-other s signs.Bar h0 h1 h2 = absurd (h0 refl)
in_body-other s signs.Prec h0 h1 h2 = absurd (h1 refl)
in_body-other s signs.Action h0 h1 h2 = absurd (h2 refl)
in_body-other s _ h0 h1 h2 = refl

pub at_body_start-other : (s : Scan) (g : TokenKind) → (g ≡ signs.Bar → ⊥) → at_body_start s g ≡ in_body s g
at_body_start-other s signs.Bar h0 = absurd (h0 refl)
at_body_start-other s _ h0 = refl

pub after_prec-other : (s : Scan) (g : TokenKind) → (g ≡ signs.Bar → ⊥) → (g ≡ signs.Action → ⊥) → after_prec s g ≡ s
after_prec-other s signs.Bar h0 h1 = absurd (h0 refl)
after_prec-other s signs.Action h0 h1 = absurd (h1 refl)
after_prec-other s _ h0 h1 = refl

pub at_rule_start-other : (s : Scan) (g : TokenKind) → (g ≡ signs.Word → ⊥) → at_rule_start s g ≡ s
at_rule_start-other s signs.Word h0 = absurd (h0 refl)
at_rule_start-other s _ h0 = refl

pub in_formals-other : (s : Scan) (g : TokenKind) → (g ≡ signs.Colon → ⊥) → in_formals s g ≡ s
in_formals-other s signs.Colon h0 = absurd (h0 refl)
in_formals-other s _ h0 = refl

pub after_group-other : (s : Scan) (g : TokenKind) → (g ≡ signs.Bar → ⊥) → (g ≡ signs.Prec → ⊥) → (g ≡ signs.Word → ⊥) → (g ≡ signs.Public → ⊥) → (g ≡ signs.Inline → ⊥) → (g ≡ signs.Semicolon → ⊥) → after_group s g ≡ s
after_group-other s signs.Bar h0 h1 h2 h3 h4 h5 = absurd (h0 refl)
after_group-other s signs.Prec h0 h1 h2 h3 h4 h5 = absurd (h1 refl)
after_group-other s signs.Word h0 h1 h2 h3 h4 h5 = absurd (h2 refl)
after_group-other s signs.Public h0 h1 h2 h3 h4 h5 = absurd (h3 refl)
after_group-other s signs.Inline h0 h1 h2 h3 h4 h5 = absurd (h4 refl)
after_group-other s signs.Semicolon h0 h1 h2 h3 h4 h5 = absurd (h5 refl)
after_group-other s _ h0 h1 h2 h3 h4 h5 = refl

pub after_group_prec-other : (s : Scan) (g : TokenKind) → (g ≡ signs.Word → ⊥) → (g ≡ signs.Quoted → ⊥) → after_group_prec s g ≡ s
after_group_prec-other s signs.Word h0 h1 = absurd (h0 refl)
after_group_prec-other s signs.Quoted h0 h1 = absurd (h1 refl)
after_group_prec-other s _ h0 h1 = refl

pub reference_of-other : (g : TokenKind) (text : List ℕ) → (g ≡ signs.Word → ⊥) → (g ≡ signs.Quoted → ⊥) → (g ≡ signs.Question → ⊥) → (g ≡ signs.Star → ⊥) → (g ≡ signs.Plus → ⊥) → reference_of g text ≡ None
reference_of-other signs.Word text h0 h1 h2 h3 h4 = absurd (h0 refl)
reference_of-other signs.Quoted text h0 h1 h2 h3 h4 = absurd (h1 refl)
reference_of-other signs.Question text h0 h1 h2 h3 h4 = absurd (h2 refl)
reference_of-other signs.Star text h0 h1 h2 h3 h4 = absurd (h3 refl)
reference_of-other signs.Plus text h0 h1 h2 h3 h4 = absurd (h4 refl)
reference_of-other _ text h0 h1 h2 h3 h4 = refl

pub without_name-other : {A : Type 0} (g : TokenKind) (found : List A) → (g ≡ signs.Equals → ⊥) → without_name g found ≡ found
without_name-other signs.Equals found h0 = absurd (h0 refl)
without_name-other _ found h0 = refl
