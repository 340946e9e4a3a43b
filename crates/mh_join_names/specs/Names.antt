-- The names and strings in the files of a grammar, and the number of each. The files are numbered from 1. The prelude
-- is file 0; its rules come after those of the files (Menhir manual, grammars split into files, of which this project
-- supports a part).
use Rattle.std.specs.Prelude.{◌+◌, ◌==◌, ◌&&◌, ◌||◌, ℕ, not, if◌then◌else◌, List, [], ◌∷◌, ◌++◌, length, map, Option, Some, None, option_map, option_and_then, Bool, true, false, fold, position}
use Rattle.std.specs.List.{enumerate_from, list_any, flat_map}
use Rattle.std.specs.Map.{lookup}
use Rattle.std.specs.Option.{option_or}
use Rattle.std.specs.Cmp.Lexicographic.{pointwise}
use Rattle.mh_grammar.specs.declared.types.Assoc.{Assoc}
use Rattle.mh_grammar.specs.declared.types.Level.{Level}
use Rattle.mh_rules.specs.declared.modules.Ref.{Ref}
use Rattle.mh_rules.specs.declared.modules.Ref.TheVariants.{Plain, Alias}
use Rattle.mh_rules.specs.declared.modules.Rule.{Rule}
use Rattle.mh_rules.specs.declared.modules.TokenDecl.{TokenDecl}
use Rattle.mh_rules.specs.declared.modules.LevelDecl.{LevelDecl}
use Rattle.mh_rules.specs.declared.modules.Module.{Module}
use Rattle.mh_rules.specs.declared.joined.Head.{Head}
use Rattle.mh_rules.specs.declared.joined.Head.TheVariants as heads
use Rattle.mh_join_names.specs.declared.outlines.Outline.{Outline}
use Rattle.mh_join_names.specs.Prelude.{prelude_rules}
use Rattle.mh_grammar.specs.Text.{Text}

abbrev pub same : Text → Text → Bool
same = pointwise ◌==◌

-- The list xs with x appended, unless an element of xs is equal to x.
abbrev pub insert_key : {X : Type 0} → (X → X → Bool) → List X → X → List X
insert_key eq xs x = if list_any (eq x) xs then xs else xs ++ x ∷ []

-- The list xs with the elements of ys inserted in order, each unless it is there already.
abbrev pub insert_all : {X : Type 0} → (X → X → Bool) → List X → List X → List X
insert_all eq xs ys = fold (insert_key eq) xs ys

-- The list xs without its repeated elements: each element is kept where it occurs first.
abbrev pub firsts : {X : Type 0} → (X → X → Bool) → List X → List X
firsts eq xs = insert_all eq [] xs

-- The files with their numbers.
abbrev pub files : List Module → List (ℕ × Module)
files ms = enumerate_from 1 ms

-- TOKENS

abbrev pub tokens_in : Module → List Text
tokens_in m = map (λ t. t.name) m.tokens

-- The names of the tokens, in order of first declaration.
abbrev pub token_names : List Module → List Text
token_names ms = firsts same (flat_map tokens_in ms)

abbrev pub token_number : List Module → Text → Option ℕ
token_number ms x = position (same x) (token_names ms)

-- An alias with the name of its token, if there is an alias.
abbrev pub alias_by : Text → Option Text → List (Text × Text)
alias_by x None = []
alias_by x (Some a) = (a, x) ∷ []

abbrev pub alias_of : TokenDecl → List (Text × Text)
alias_of t = alias_by t.name t.alias

-- The aliases in order of declaration, each with the name of its token.
abbrev pub aliases : List Module → List (Text × Text)
aliases ms = flat_map (λ m. flat_map alias_of m.tokens) ms

-- The name of the first token with this alias.
abbrev pub aliased : List Module → Text → Option Text
aliased ms a = lookup (same a) (aliases ms)

-- The name that a reference means: a plain name itself, a string the name of the token with that alias.
abbrev pub name_by : (Text → Option Text) → Ref → Option Text
name_by aliased (Plain x) = Some x
name_by aliased (Alias a) = aliased a

-- COSTS

-- A cost with the name of its token, if there is a cost.
abbrev pub cost_by : Text → Option ℕ → List (Text × ℕ)
cost_by x None = []
cost_by x (Some c) = (x, c) ∷ []

abbrev pub given_cost : TokenDecl → List (Text × ℕ)
given_cost t = cost_by t.name t.cost

-- The costs in order of declaration, each with the name of its token.
abbrev pub costs : List Module → List (Text × ℕ)
costs ms = flat_map (λ m. flat_map given_cost m.tokens) ms

-- The first cost given to a token.
abbrev pub cost_of : List Module → Text → Option ℕ
cost_of ms x = lookup (same x) (costs ms)

-- LEVELS

-- The level that the i-th declaration of levels in file k gives.
abbrev pub level_in : ℕ → ℕ → Assoc → Level
level_in k i assoc = record { file = k; rank = i; assoc = assoc }

abbrev pub with_level : Level → Option Text → List (Text × Level)
with_level l None = []
with_level l (Some x) = (x, l) ∷ []

-- The names in the level declaration with number e.0 of file k, each with its level.
abbrev pub levels_by : (Text → Option Text) → ℕ → ℕ × LevelDecl → List (Text × Level)
levels_by aliased k e = flat_map (λ r. with_level (level_in k e.0 e.1.assoc) (name_by aliased r)) e.1.names

abbrev pub levels_in : (Text → Option Text) → ℕ × Module → List (Text × Level)
levels_in aliased f = flat_map (levels_by aliased f.0) (enumerate_from 0 f.1.levels)

-- The first level given to a name.
abbrev pub level_of : List Module → Text → Option Level
level_of ms x = lookup (same x) (flat_map (levels_in (aliased ms)) (files ms))

-- RULES

abbrev pub defines : Module → Text → Bool
defines m x = list_any (λ r. same x r.name) m.rules

-- A file of the grammar other than file k defines this name.
abbrev pub is_elsewhere : List Module → ℕ → Text → Bool
is_elsewhere ms k x = list_any (λ f. not (f.0 == k) && defines f.1 x) (files ms)

-- The names of the start symbols, in order of first declaration.
abbrev pub start_names : List Module → List Text
start_names ms = firsts same (flat_map (λ m. m.starts) ms)

-- One of these definitions of the name is marked `%public`.
abbrev pub marks_public : List Rule → Text → Bool
marks_public rs x = list_any (λ r. r.public && same x r.name) rs

-- The rules of this name in a file are public: the name is a start symbol, or one of the definitions in the file is
-- marked `%public`.
abbrev pub is_public : List Text → List Rule → Text → Bool
is_public starts rs x = list_any (same x) starts || marks_public rs x

-- A definition of a rule: its file; its owner, which is the file if the rule is private; and the position of its first
-- alternative among all alternatives of the file.
pub record Definition : Type 0 where
  pub file : ℕ
  pub owner : Option ℕ
  pub place : ℕ
  pub rule : Rule

-- The definitions in a list of rules of file k, where the first alternative has position n.
abbrev pub definitions_from : (Text → Option ℕ) → ℕ → ℕ → List Rule → List Definition
definitions_from owner k n [] = []
definitions_from owner k n (r ∷ rs) = record { file = k; owner = owner r.name; place = n; rule = r } ∷ definitions_from owner k (n + length r.alternatives) rs

-- The owner of the rules of this name in file k: none if they are public, else the file.
abbrev pub owner_in : List Text → ℕ → List Rule → Text → Option ℕ
owner_in starts k rs x = if is_public starts rs x then None else Some k

abbrev pub definitions_in : List Text → ℕ × Module → List Definition
definitions_in starts f = definitions_from (owner_in starts f.0 f.1.rules) f.0 0 f.1.rules

-- The definitions of the prelude; its rules are private.
abbrev pub prelude_definitions : List Rule → List Definition
prelude_definitions rs = definitions_from (λ x. Some 0) 0 0 rs

-- The definitions of the files in order, followed by those of the prelude.
abbrev pub definitions : Bool → List Module → List Definition
definitions p ms = flat_map (definitions_in (start_names ms)) (files ms) ++ prelude_definitions (prelude_rules p)

-- The outline of a definition: the rule without its alternatives.
abbrev pub outline_of : Definition → Outline
outline_of d = record { name = d.rule.name; owner = d.owner; inlined = d.rule.inlined; formals = length d.rule.formals }

abbrev pub same_owner : Option ℕ → Option ℕ → Bool
same_owner None None = true
same_owner (Some j) (Some k) = j == k
same_owner _ _ = false

-- The rule has this owner and this name.
abbrev pub is_rule : Option ℕ → Text → Outline → Bool
is_rule owner x o = same_owner owner o.owner && same x o.name

abbrev pub same_rule : Outline → Outline → Bool
same_rule a b = is_rule a.owner a.name b

-- The rules, in order of their first definitions. Definitions with equal owner and name define one rule.
abbrev pub rules : Bool → List Module → List Outline
rules p ms = firsts same_rule (map outline_of (definitions p ms))

abbrev pub rule_number : Bool → List Module → Option ℕ → Text → Option ℕ
rule_number p ms owner x = position (is_rule owner x) (rules p ms)

-- THE MEANINGS OF HEADS

-- The first value in a list of options.
abbrev pub first_of : {X : Type 0} → List (Option X) → Option X
first_of [] = None
first_of (o ∷ os) = option_or o (first_of os)

-- The number of a formal: its position in the list of formals.
abbrev pub formal_number : List Text → Text → Option ℕ
formal_number fs x = position (same x) fs

-- The numbers of tokens by name, and of rules by owner and name.
pub record NameNumbers : Type 0 where
  pub token : Text → Option ℕ
  pub rule : Option ℕ → Text → Option ℕ

abbrev pub rule_head : NameNumbers → Option ℕ → Text → Option Head
rule_head n owner x = option_map heads.Rule (n.rule owner x)

abbrev pub token_head : NameNumbers → Text → Option Head
token_head n x = option_map heads.Token (n.token x)

-- The meaning of a name in file k of the grammar, formals and prelude aside: a token, else a private rule of the file,
-- else a public rule.
abbrev pub user_head : NameNumbers → ℕ → Text → Option Head
user_head n k x = first_of (token_head n x ∷ rule_head n (Some k) x ∷ rule_head n None x ∷ [])

-- The same for any file: in the prelude no name means a token or a rule of another file.
abbrev pub visible_head : NameNumbers → ℕ → Text → Option Head
visible_head n k x = if k == 0 then None else user_head n k x

-- The meaning of a name in file k, in a rule with these formals: a formal, else a token, else a private rule of the
-- file, else a public rule, else a rule of the prelude. A string means the token with that alias.
abbrev pub head_of_name : NameNumbers → ℕ → (Text → Option ℕ) → Text → Option Head
head_of_name n k formals x = first_of (option_map heads.Formal (formals x) ∷ visible_head n k x ∷ rule_head n (Some 0) x ∷ [])

-- The meaning of a name or string in file k, in a rule with these formals.
abbrev pub head_by : NameNumbers → (Text → Option Text) → ℕ → (Text → Option ℕ) → Ref → Option Head
head_by n aliased k formals (Plain x) = head_of_name n k formals x
head_by n aliased k formals (Alias a) = option_and_then (token_head n) (aliased a)

abbrev pub numbers_of : Bool → List Module → NameNumbers
numbers_of p ms = record { token = token_number ms; rule = rule_number p ms }
