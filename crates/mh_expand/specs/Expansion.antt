-- The instances of joined rules and the faults of their expansion (Menhir manual, parameterized rules; the limits and
-- the order are rules of this project).
use Rattle.std.specs.Prelude.{◌≡◌, ◌<◌, ◌↔◌, ℕ, List, [], ◌∷◌, ◌++◌, Option, Some, None, map, flat_map, length, slice_get}
use Rattle.std.specs.Option.{option_map, unwrap_or}
use Rattle.std.specs.List.{All, AllZip, Contains}
use Rattle.mh_grammar.specs.Numbering.{AreDistinct, AreNumbersOf}
use Rattle.mh_rules.specs.declared.joined.Head.{Head}
use Rattle.mh_rules.specs.declared.joined.Head.TheVariants.{Formal, Token, Rule}
use Rattle.mh_rules.specs.declared.joined.Applied.{Applied}
use Rattle.mh_rules.specs.declared.joined.JoinedAlternative.{JoinedAlternative}
use Rattle.mh_rules.specs.declared.joined.JoinedRule.{JoinedRule}
use Rattle.mh_rules.specs.declared.joined.Joined.{Joined}
use Rattle.mh_expand.specs.Limits.{max_name}
use Rattle.mh_expand.specs.declared.fault.ExpandFault.{ExpandFault}
use Rattle.mh_expand.specs.declared.fault.ExpandFault.TheVariants.{Arity, Expansion, Memory}
use Rattle.mh_rules.specs.Limits.{max_instances}
use Rattle.mh_rules.specs.declared.instances.Part.{Part}
use Rattle.mh_rules.specs.declared.instances.Part.TheVariants as parts
use Rattle.mh_rules.specs.declared.instances.InstanceProduction.{InstanceProduction}
use Rattle.mh_rules.specs.declared.instances.Instance.{Instance}
use Rattle.mh_rules.specs.declared.instances.Expanded.{Expanded}
use Rattle.mh_expand.specs.Terms.{Term, Atom, head_of, arguments, term_of, replaced, head_name, text}

-- RULES OF TERMS

abbrev pub rule_at : Joined → Head → Option JoinedRule
rule_at j (Formal k) = None
rule_at j (Token z) = None
rule_at j (Rule r) = slice_get j.rules r

-- The rule at the head of a term.
abbrev pub rule_of : Joined → Term → Option JoinedRule
rule_of j t = rule_at j (head_of t)

abbrev pub alternatives_of : Joined → Term → List JoinedAlternative
alternatives_of j t = unwrap_or (option_map (λ (r : JoinedRule). r.alternatives) (rule_of j t)) []

-- The producers of an alternative, with the formals replaced by the arguments of the term t.
abbrev pub right_side : Term → JoinedAlternative → List Term
right_side t a = map (λ p. replaced (arguments t) (term_of p)) a.producers

-- The producers of all alternatives of a term's rule, in order.
abbrev pub producers_of : Joined → Term → List Term
producers_of j t = flat_map (right_side t) (alternatives_of j t)

abbrev pub start_term : ℕ → Term
start_term r = Atom (Rule r)

abbrev pub start_terms : Joined → List Term
start_terms j = map start_term j.starts

-- INSTANCES

abbrev pub IsRule : Head → Type 0
IsRule (Formal k) = ⊥
IsRule (Token z) = ⊥
IsRule (Rule r) = Unit {0}

-- The head of the term is a rule.
abbrev pub IsInstance : Term → Type 0
IsInstance t = IsRule (head_of t)

-- The least set that contains the start terms, and with each term its producers whose heads are rules.
pub data IsReached (j : Joined) : Term → Type 0 where
  start : {t : Term} → Contains (start_terms j) t → IsReached j t
  producer : {t x : Term} → IsReached j t → Contains (producers_of j t) x → IsInstance x → IsReached j x

-- The terms that are found when the instances ts are expanded, in the order of finding: the start terms, then the
-- producers of each instance.
abbrev pub found_terms : Joined → List Term → List Term
found_terms j ts = start_terms j ++ flat_map (producers_of j) ts

-- The list is a prefix of the instances in the order of finding: each next element is the first instance among the
-- terms found so far that is not yet in the list.
pub data IsFindingOrder (j : Joined) : List Term → Type 0 where
  none : IsFindingOrder j []
  more : {ts : List Term} {t : Term} (before after : List Term) → IsFindingOrder j ts → found_terms j ts ≡ before ++ t ∷ after → IsInstance t →
      (Contains ts t → ⊥) → ((x : Term) → Contains before x → IsInstance x → Contains ts x) → IsFindingOrder j (ts ++ t ∷ [])

-- FAULTS

-- The head takes n arguments.
abbrev pub TakesArguments : Joined → Head → ℕ → Type 0
TakesArguments j (Formal k) n = ⊥
TakesArguments j (Token z) n = n ≡ 0
TakesArguments j (Rule r) n = option_map (λ (q : JoinedRule). q.formals) (slice_get j.rules r) ≡ Some n

-- The term has as many arguments as its head takes.
abbrev pub HasRightArity : Joined → Term → Type 0
HasRightArity j t = TakesArguments j (head_of t) (length (arguments t))

-- The term is an instance and has not been found before.
pub record IsNewInstance (before : List Term) (t : Term) : Type 0 where
  pub instance : IsInstance t
  pub new : Contains before t → ⊥

-- The largest allowed number of different instances has been found before.
pub record HasMaxInstances (before : List Term) : Type 0 where
  pub terms : List Term
  pub found : All (λ t. Contains before t × IsInstance t) terms
  pub distinct : AreDistinct terms
  pub count : length terms ≡ max_instances

-- The fault of a term that is found after the terms `before`.
pub data IsFault (j : Joined) (before : List Term) (t : Term) : ExpandFault → Type 0 where
  count : (HasRightArity j t → ⊥) → IsFault j before t (Arity (text j t))
  long : HasRightArity j t → IsNewInstance before t → max_name < length (text j t) → IsFault j before t (Expansion (head_name j (head_of t)))
  full : HasRightArity j t → IsNewInstance before t → HasMaxInstances before → IsFault j before t (Expansion (head_name j (head_of t)))

-- No term of the list has a fault.
abbrev pub HasNoFault : Joined → List Term → Type 0
HasNoFault j ts = (before after : List Term) (t : Term) (fault : ExpandFault) → ts ≡ before ++ t ∷ after → IsFault j before t fault → ⊥

-- The first fault of the terms in a list.
pub record IsFirstFaultIn (j : Joined) (ts : List Term) (e : ExpandFault) : Type 0 where
  pub before : List Term
  pub term : Term
  pub after : List Term
  pub split : ts ≡ before ++ term ∷ after
  pub no_fault : HasNoFault j before
  pub fault : IsFault j before term e

-- The first fault in the order of finding.
pub record IsFirstFault (j : Joined) (e : ExpandFault) : Type 0 where
  pub found : List Term
  pub order : IsFindingOrder j found
  pub fails : IsFirstFaultIn j (found_terms j found) e

-- The fault satisfies P, unless it reports that memory ran out.
abbrev pub IsMemoryOr : (ExpandFault → Type 0) → ExpandFault → Type 0
IsMemoryOr P (Arity name) = P (Arity name)
IsMemoryOr P (Expansion name) = P (Expansion name)
IsMemoryOr P Memory = Unit {0}

-- THE RESULT

-- An actual of the declaration is the term.
abbrev pub Declares : List Applied → Term → Type 0
Declares d t = Contains (map term_of d) t

-- The position of the first declaration that names the term, or none if no declaration does.
abbrev pub IsOnErrorRank : List (List Applied) → Term → Option ℕ → Type 0
IsOnErrorRank ds t None = (k : ℕ) (d : List Applied) → slice_get ds k ≡ Some d → Declares d t → ⊥
IsOnErrorRank ds t (Some r) =
    ((d : List Applied) × (slice_get ds r ≡ Some d) × Declares d t) ×
    ((k : ℕ) (d : List Applied) → k < r → slice_get ds k ≡ Some d → Declares d t → ⊥)

-- The part is the token of the term, or the number of its instance.
abbrev pub IsPart : List Term → Term → Part → Type 0
IsPart ts t (parts.Token z) = t ≡ Atom (Token z)
IsPart ts t (parts.Instance n) = slice_get ts n ≡ Some t

-- The production p of the instance t for its alternative a.
pub record IsProduction (ts : List Term) (t : Term) (a : JoinedAlternative) (p : InstanceProduction) : Type 0 where
  pub file : p.file ≡ a.file
  pub place : p.place ≡ a.place
  pub rhs : AllZip (IsPart ts) (right_side t a) p.rhs
  pub prec : p.prec ≡ a.prec

-- The instance i of the term t, where the terms ts are all instances.
pub record IsInstanceOf (j : Joined) (ts : List Term) (t : Term) (i : Instance) : Type 0 where
  pub name : i.name ≡ text j t
  pub inlined : option_map (λ (r : JoinedRule). r.inlined) (rule_of j t) ≡ Some i.inlined
  pub on_error : IsOnErrorRank j.on_error t i.on_error
  pub productions : AllZip (IsProduction ts t) (alternatives_of j t) i.productions

-- The expansion e of the joined rules j: the instances that the start symbols reach, in the order of finding, with
-- their alternatives.
pub record IsExpanded (j : Joined) (e : Expanded) : Type 0 where
  pub tokens : e.tokens ≡ j.tokens
  -- The instances are the reached terms, in the order of finding.
  pub terms : List Term
  pub exact : (t : Term) → Contains terms t ↔ IsReached j t
  pub order : IsFindingOrder j terms
  pub starts : AreNumbersOf terms e.starts (start_terms j)
  pub each : AllZip (IsInstanceOf j terms) terms e.instances
  -- No term that is found has a fault.
  pub no_fault : HasNoFault j (found_terms j terms)
