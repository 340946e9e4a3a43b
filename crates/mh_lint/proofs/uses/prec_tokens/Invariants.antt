use Rattle.std.proofs.Common.{◌≡◌, true}
use Rattle.std.specs.HashMap.{get}
use Rattle.std.specs.HashSet.{contains}
use Rattle.mh_join_names.specs.Names.{same}
use Rattle.mh_lint.specs.code.Uses.{NamesTokenByPrec}
use Rattle.mh_lint.proofs.Gains.{AnyOf, Gains}
use Rattle.mh_lint.proofs.PrecTokens.{NamesIn}
use Rattle.mh_lint.proofs.uses.prec_tokens.Given as goal

abbrev pub invariant-loop-mention : goal.invariant-loop-mention
invariant-loop-mention l = Gains (AnyOf (NamesTokenByPrec l.tables.tokens.keys (λ a. get same l.tables.aliases a)) l.mention-items l.mention-index) (λ x. contains same l.initial.names x ≡ true) (λ x. contains same l.names x ≡ true)

abbrev pub invariant-loop-mentions : goal.invariant-loop-mentions
invariant-loop-mentions l = Gains (AnyOf (NamesIn l.tables.tokens.keys (λ a. get same l.tables.aliases a)) l.mentions-items l.mentions-index) (λ x. ⊥) (λ x. contains same l.names x ≡ true)
