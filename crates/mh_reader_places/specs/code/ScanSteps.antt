-- The walk over the lexemes of a file that spells a module, as functions of one lexeme at a time.
use Rattle.std.specs.Prelude.{◌≤◌, ◌-◌, ◌^◌, ℕ, zero, suc, List, [], ◌∷◌, ◌++◌, length, take, Option, Some, None}
use Rattle.std.specs.Option.{option_or}
use Rattle.mh_rules.specs.declared.modules.Ref.{Ref}
use Rattle.mh_rules.specs.declared.modules.Ref.TheVariants.{Plain}
use Rattle.mh_reader_parser.specs.declared.token_kinds.TokenKind.{TokenKind}
use Rattle.mh_reader_parser.specs.declared.token_kinds.TokenKind.TheVariants as signs
use Rattle.mh_reader_parser.specs.Spelling.{ref_by, suffix_of}
use Rattle.mh_reader_places.specs.declared.mentions.Role.{Role}
use Rattle.mh_reader_places.specs.declared.mentions.Role.TheVariants as roles
use Rattle.mh_reader_places.specs.declared.scan.Section.{Section}
use Rattle.mh_reader_places.specs.declared.scan.Section.TheVariants as sections
use Rattle.mh_reader_places.specs.declared.scan.Scan.{Scan}

-- ---- Counts.

abbrev pub one_less : ℕ → ℕ
one_less zero = zero
one_less (suc n) = n

-- The actuals after a name or string, if this many brackets are open and there were n actuals before.
abbrev pub counted : ℕ → ℕ → ℕ
counted zero n = suc n
counted (suc b) n = n

-- Each count is at most n.
pub record AreCountsWithin (n : ℕ) (s : Scan) : Type 0 where
  pub levels : s.levels ≤ n
  pub on_error : s.on_error ≤ n
  pub alternatives : s.alternatives ≤ n
  pub actuals : s.actuals ≤ n
  pub brackets : s.brackets ≤ n

-- Each count can be one more.
abbrev pub HasRoom : Scan → Type 0
HasRoom s = AreCountsWithin (2 ^ 64 - 2) s

-- ---- The walk after a lexeme of this token kind.

abbrev pub start : Scan
start = record { section = sections.Unread; levels = 0; on_error = 0; alternatives = 0; group = 0; actuals = 0; brackets = 0 }

abbrev pub in_section : Section → Scan → Scan
in_section section s = record s { section = section }

abbrev pub at_levels : Scan → Scan
at_levels s = record s { section = sections.Levels; levels = suc s.levels }

abbrev pub at_on_error : Scan → Scan
at_on_error s = record s { section = sections.OnError; on_error = suc s.on_error; actuals = 0 }

abbrev pub declared : Scan → TokenKind → Scan
declared s signs.Token = in_section sections.Tokens s
declared s signs.Start = in_section sections.Starts s
declared s (signs.Level g) = at_levels s
declared s signs.OnErrorReduce = at_on_error s
declared s signs.Type = in_section sections.Unread s
declared s signs.Parameter = in_section sections.Unread s
declared s signs.Attribute = in_section sections.Unread s
declared s signs.Percents = in_section sections.RuleStart s
declared s _ = s

abbrev pub with_actual : Scan → Scan
with_actual s = record s { actuals = counted s.brackets s.actuals }

abbrev pub with_count : Scan → TokenKind → Scan
with_count s signs.Open = record s { brackets = suc s.brackets }
with_count s signs.Close = record s { brackets = one_less s.brackets }
with_count s signs.Word = with_actual s
with_count s signs.Quoted = with_actual s
with_count s signs.Equals = record s { actuals = one_less s.actuals }
with_count s _ = s

abbrev pub after_alternative : Section → Scan → Scan
after_alternative section s = record s { section = section; alternatives = suc s.alternatives; actuals = 0 }

abbrev pub in_body : Scan → TokenKind → Scan
in_body s signs.Bar = after_alternative sections.Body s
in_body s signs.Prec = in_section sections.Prec s
in_body s signs.Action = after_alternative sections.Group s
in_body s g = in_section sections.Body (with_count s g)

abbrev pub at_body_start : Scan → TokenKind → Scan
at_body_start s signs.Bar = in_section sections.Body s
at_body_start s g = in_body s g

abbrev pub after_prec : Scan → TokenKind → Scan
after_prec s signs.Bar = after_alternative sections.Body s
after_prec s signs.Action = after_alternative sections.Group s
after_prec s _ = s

abbrev pub at_rule_start : Scan → TokenKind → Scan
at_rule_start s signs.Word = in_section sections.Formals s
at_rule_start s _ = s

-- The walk at the first alternative of a group.
abbrev pub at_group_start : Section → Scan → Scan
at_group_start section s = record s { section = section; group = s.alternatives; actuals = 0 }

abbrev pub in_formals : Scan → TokenKind → Scan
in_formals s signs.Colon = at_group_start sections.BodyStart s
in_formals s _ = s

abbrev pub after_group : Scan → TokenKind → Scan
after_group s signs.Bar = at_group_start sections.Body s
after_group s signs.Prec = in_section sections.GroupPrec s
after_group s signs.Word = in_section sections.Formals s
after_group s signs.Public = in_section sections.RuleStart s
after_group s signs.Inline = in_section sections.RuleStart s
after_group s signs.Semicolon = in_section sections.RuleStart s
after_group s _ = s

abbrev pub after_group_prec : Scan → TokenKind → Scan
after_group_prec s signs.Word = in_section sections.Group s
after_group_prec s signs.Quoted = in_section sections.Group s
after_group_prec s _ = s

abbrev pub taken_in : Section → Scan → TokenKind → Scan
taken_in sections.Unread s g = declared s g
taken_in sections.Tokens s g = declared s g
taken_in sections.Starts s g = declared s g
taken_in sections.Levels s g = declared s g
taken_in sections.OnError s g = declared (with_count s g) g
taken_in sections.RuleStart s g = at_rule_start s g
taken_in sections.Formals s g = in_formals s g
taken_in sections.BodyStart s g = at_body_start s g
taken_in sections.Body s g = in_body s g
taken_in sections.Prec s g = after_prec s g
taken_in sections.Group s g = after_group s g
taken_in sections.GroupPrec s g = after_group_prec s g

abbrev pub taken : Scan → TokenKind → Scan
taken s g = taken_in s.section s g

-- ---- What the lexeme names.

abbrev pub word_role : TokenKind → Role → Option Role
word_role signs.Word given = Some given
word_role _ given = None

abbrev pub token_role : TokenKind → Option Role
token_role signs.Word = Some roles.Token
token_role signs.Quoted = Some roles.Alias
token_role _ = None

abbrev pub reference_role : TokenKind → Role → Option Role
reference_role signs.Word given = Some given
reference_role signs.Quoted given = Some given
reference_role _ given = None

abbrev pub head_role : TokenKind → Role → Option Role
head_role signs.Word given = Some given
head_role signs.Quoted given = Some given
head_role signs.Question given = Some given
head_role signs.Star given = Some given
head_role signs.Plus given = Some given
head_role _ given = None

abbrev pub producer_role : Scan → Role
producer_role s = roles.Head s.alternatives (one_less s.actuals)

-- The role of a lexeme that continues this section; s is the walk after the lexeme.
abbrev pub role_in : Section → Scan → TokenKind → Option Role
role_in sections.Unread s g = None
role_in sections.Tokens s g = token_role g
role_in sections.Starts s g = word_role g roles.Start
role_in sections.Levels s g = reference_role g (roles.Level (one_less s.levels))
role_in sections.OnError s g = head_role g (roles.OnError (one_less s.on_error) (one_less s.actuals))
role_in sections.RuleStart s g = word_role g roles.Rule
role_in sections.Formals s g = word_role g roles.Formal
role_in sections.BodyStart s g = head_role g (producer_role s)
role_in sections.Body s g = head_role g (producer_role s)
role_in sections.Prec s g = reference_role g (roles.Prec s.alternatives)
role_in sections.Group s g = word_role g roles.Rule
role_in sections.GroupPrec s g = reference_role g (roles.GroupPrec s.group (one_less s.alternatives))

abbrev pub suffix_rule : Option (List ℕ) → Option Ref
suffix_rule None = None
suffix_rule (Some n) = Some (Plain n)

-- The name of a word, the string of a string, or the rule that a suffix applies.
abbrev pub reference_of : TokenKind → List ℕ → Option Ref
reference_of g text = option_or (ref_by g text) (suffix_rule (suffix_of g))

-- ---- The names so far. A producer's own name, after which an equals sign follows, is no part of the module.

abbrev pub without_name : {A : Type 0} → TokenKind → List A → List A
without_name signs.Equals found = take (length found - 1) found
without_name _ found = found

abbrev pub with_name : {A : Type 0} → (Role → Ref → A) → Option Role → Option Ref → List A → List A
with_name of None r found = found
with_name of (Some given) None found = found
with_name of (Some given) (Some r) found = found ++ of given r ∷ []

-- The names after a lexeme of this token kind and text, in the walk s.
abbrev pub names_after : {A : Type 0} → (Role → Ref → A) → Scan → TokenKind → List ℕ → List A → List A
names_after of s g text found = with_name of (role_in s.section (taken s g) g) (reference_of g text) (without_name g found)
