-- Terms: a token, rule or formal applied to a list of terms (Menhir manual, parameterized rules, of which this project
-- supports a part).
use Rattle.std.specs.Prelude.{ℕ, List, [], ◌∷◌, ◌++◌, slice_get}
use Rattle.std.specs.Option.{option_map, unwrap_or}
use Rattle.mh_grammar.specs.declared.types.TokenInfo.{TokenInfo}
use Rattle.mh_rules.specs.declared.joined.Head.{Head}
use Rattle.mh_rules.specs.declared.joined.Head.TheVariants.{Formal, Token, Rule}
use Rattle.mh_rules.specs.declared.joined.Applied.{Applied, fold-Applied}
use Rattle.mh_rules.specs.declared.joined.Applied.TheOpen.{Applied-F}
use Rattle.mh_rules.specs.declared.joined.JoinedRule.{JoinedRule}
use Rattle.mh_rules.specs.declared.joined.Joined.{Joined}

-- A term is a head, or a term applied to one more argument. Formals occur only in terms whose formals have not been
-- replaced yet.
pub data Term : Type 0 where
  Atom : (head : Head) → Term
  Apply : (operator : Term) → (argument : Term) → Term

-- The term applied to more arguments.
abbrev pub apply_all : Term → List Term → Term
apply_all t [] = t
apply_all t (x ∷ xs) = apply_all (Apply t x) xs

abbrev pub head_of : Term → Head
head_of (Atom h) = h
head_of (Apply f x) = head_of f

abbrev pub arguments : Term → List Term
arguments (Atom h) = []
arguments (Apply f x) = arguments f ++ x ∷ []

-- The term of an actual: its head applied to the terms of its arguments.
abbrev pub term_step : Applied-F Term → Term
term_step a = apply_all (Atom a.head) a.args

abbrev pub term_of : Applied → Term
term_of = fold-Applied Term term_step

-- The head with a formal replaced by its term. A formal with arguments adds them to those of its term.
abbrev pub replaced_head : List Term → Head → Term
replaced_head ts (Formal k) = unwrap_or (slice_get ts k) (Atom (Formal k))
replaced_head ts (Token z) = Atom (Token z)
replaced_head ts (Rule r) = Atom (Rule r)

-- The term with each formal replaced by the term with its number in ts.
abbrev pub replaced : List Term → Term → Term
replaced ts (Atom h) = replaced_head ts h
replaced ts (Apply f x) = Apply (replaced ts f) (replaced ts x)

-- The printed name of a term: the name of its head, with the arguments separated by `,` in parentheses. A head that
-- does not exist has the empty name.
abbrev pub head_name : Joined → Head → List ℕ
head_name j (Formal k) = []
head_name j (Token z) = unwrap_or (option_map (λ (i : TokenInfo). i.name) (slice_get j.tokens z)) []
head_name j (Rule r) = unwrap_or (option_map (λ (q : JoinedRule). q.name) (slice_get j.rules r)) []

abbrev pub separator : Term → ℕ
separator (Atom h) = 40
separator (Apply f x) = 44

abbrev mutual
  pub text : Joined → Term → List ℕ
  text j (Atom h) = head_name j h
  text j (Apply f x) = unclosed j f ++ (separator f ∷ text j x) ++ 41 ∷ []

  -- The printed name without its closing parenthesis.
  pub unclosed : Joined → Term → List ℕ
  unclosed j (Atom h) = head_name j h
  unclosed j (Apply f x) = unclosed j f ++ (separator f ∷ text j x)
