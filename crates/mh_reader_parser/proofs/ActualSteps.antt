-- Lemmas on the default case of the parser's step in the states that read an actual, and on the states in which no file
-- may end.
use Rattle.std.proofs.Common.{◌≡◌, ℕ, List, [], None, refl}
use Rattle.mh_rules.specs.declared.modules.Ref.{Ref}
use Rattle.mh_rules.specs.declared.modules.Ref.TheVariants.{Plain}
use Rattle.mh_rules.specs.declared.modules.Rule.{Rule}
use Rattle.mh_rules.specs.declared.modules.Module.{Module}
use Rattle.mh_rules.specs.Modules.{applied}
use Rattle.mh_reader_parser.specs.declared.token_kinds.TokenKind.{TokenKind}
use Rattle.mh_reader_parser.specs.declared.token_kinds.TokenKind.TheVariants as signs
use Rattle.mh_reader_parser.specs.declared.parser_states.RuleDraft.{RuleDraft}
use Rattle.mh_reader_parser.specs.declared.parser_states.OpenActual.{OpenActual}
use Rattle.mh_reader_parser.specs.declared.parser_states.ParserState.{ParserState}
use Rattle.mh_reader_parser.specs.declared.parser_states.ParserState.TheVariants as places
use Rattle.mh_reader_parser.specs.declared.parser_states.ActualPurpose.{ActualPurpose}
use Rattle.mh_reader_parser.specs.declared.parser_states.ActualPurpose.TheVariants as purposes
use Rattle.mh_reader_parser.specs.Spelling.{suffix_of}
use Rattle.mh_reader_parser.specs.code.ParserSteps.{after_actual, at_head, at_named, finish_at}

pub suffix_none : (g : TokenKind) → (g ≡ signs.Question → ⊥) → (g ≡ signs.Star → ⊥) → (g ≡ signs.Plus → ⊥) → suffix_of g ≡ None
suffix_none signs.Question h k l = absurd (h refl)
suffix_none signs.Star h k l = absurd (k refl)
suffix_none signs.Plus h k l = absurd (l refl)
suffix_none _ h k l = refl

pub head_without_open : (m : Module) (p : ActualPurpose) (ps : List OpenActual) (r : Ref) (g : TokenKind) (text : List ℕ) → (g ≡ signs.Open → ⊥) → at_head m p ps r g text ≡ after_actual m p ps (applied r []) 1 g text
head_without_open m p ps r signs.Open text h = absurd (h refl)
head_without_open m p ps r _ text h = refl

pub name_without_equals : (m : Module) (d : RuleDraft) (name : List ℕ) (g : TokenKind) (text : List ℕ) → (g ≡ signs.Equals → ⊥) → at_named m d name g text ≡ at_head m (purposes.Producer d) [] (Plain name) g text
name_without_equals m d name signs.Equals text h = absurd (h refl)
name_without_equals m d name _ text h = refl

pub no_finish : (m : Module) (p : ParserState) → (p ≡ places.Rules → ⊥) → (p ≡ places.RuleEnd → ⊥) → (p ≡ places.Ended → ⊥) → ((d : RuleDraft) → p ≡ places.Group d → ⊥) → ((r : Rule) → p ≡ places.GroupClosed r → ⊥) → finish_at m p ≡ None
unfolding finish_at
no_finish m places.Rules a b c d e = absurd (a refl)
no_finish m places.RuleEnd a b c d e = absurd (b refl)
no_finish m places.Ended a b c d e = absurd (c refl)
no_finish m (places.Group x) a b c d e = absurd (d x refl)
no_finish m (places.GroupClosed x) a b c d e = absurd (e x refl)
no_finish m _ a b c d e = refl
