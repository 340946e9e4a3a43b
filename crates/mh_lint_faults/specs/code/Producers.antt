-- Producers with a wrong number of arguments.
use Rattle.std.specs.Prelude.{◌≡◌, ℕ, false, List, Some, slice_get}
use Rattle.std.specs.List.{Contains}
use Rattle.mh_grammar.specs.Text.{Text}
use Rattle.mh_expand.specs.Expansion.{HasRightArity}
use Rattle.mh_expand.specs.Terms.{term_of, text}
use Rattle.mh_reader_places.specs.declared.mentions.Mention.{Mention}
use Rattle.mh_reader_places.specs.declared.mentions.Role.TheVariants as roles
use Rattle.mh_rules.specs.declared.joined.Applied.{Applied}
use Rattle.mh_rules.specs.declared.joined.Joined.{Joined}
use Rattle.mh_rules.specs.declared.joined.JoinedAlternative.{JoinedAlternative}
use Rattle.mh_rules.specs.declared.joined.JoinedRule.{JoinedRule}
use Rattle.mh_lint_faults.specs.Terms.{has_formals}
use Rattle.mh_lint_faults.specs.declared.arity.ProducerOf.{ProducerOf}

-- The term has no formals, this printed name and a wrong number of arguments.
pub record IsWrongApplied (j : Joined) (printed : Text) (term : Applied) : Type 0 where
  pub closed : has_formals term ≡ false
  pub printed_is : text j (term_of term) ≡ printed
  pub wrong : HasRightArity j (term_of term) → ⊥

-- The producer is such a term of the alternative.
pub record IsWrongProducerOf (j : Joined) (printed : Text) (a : JoinedAlternative) (p : ProducerOf) : Type 0 where
  pub term : Applied
  pub file_is : p.file ≡ a.file
  pub place_is : p.alternative ≡ a.place
  pub of_alternative : slice_get a.producers p.producer ≡ Some term
  pub is_wrong : IsWrongApplied j printed term

-- The producer is such a term of some alternative.
pub record IsWrongProducer (j : Joined) (printed : Text) (p : ProducerOf) : Type 0 where
  pub rule : JoinedRule
  pub alternative : JoinedAlternative
  pub of_joined : Contains j.rules rule
  pub of_rule : Contains rule.alternatives alternative
  pub is : IsWrongProducerOf j printed alternative p

-- The mention is a head of one of these producers.
pub record IsProducerMention (found : List ProducerOf) (file : ℕ) (x : Mention) : Type 0 where
  pub place : ℕ
  pub producer : ℕ
  pub role_is : x.role ≡ roles.Head place producer
  pub is_found : Contains found (record { file = file; alternative = place; producer = producer })
