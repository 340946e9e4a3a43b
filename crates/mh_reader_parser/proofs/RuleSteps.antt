-- Lemmas on the parser's step for token kinds that its state does not name: it equals the step of another state. These
-- are the states of declarations and rules.
use Rattle.std.proofs.Common.{◌≡◌, ℕ, List, Option, None, false, refl}
use Rattle.mh_rules.specs.declared.modules.Ref.TheVariants.{Plain, Alias}
use Rattle.mh_rules.specs.declared.modules.Rule.{Rule}
use Rattle.mh_rules.specs.declared.modules.Module.{Module}
use Rattle.mh_reader_parser.specs.declared.token_kinds.TokenKind.{TokenKind}
use Rattle.mh_reader_parser.specs.declared.token_kinds.TokenKind.TheVariants as signs
use Rattle.mh_reader_parser.specs.declared.parser_states.RuleDraft.{RuleDraft}
use Rattle.mh_reader_parser.specs.declared.parser_states.OpenList.{OpenList}
use Rattle.mh_reader_parser.specs.declared.parser_states.OpenList.TheVariants as lists
use Rattle.mh_reader_parser.specs.code.ParserSteps.{declare, close, list_item, list_word, list_quoted, at_items, at_modified, token_of, at_token, at_aliased, in_rules, in_production, at_begin, new_draft, after_producer, after_group, with_rule, at_group, with_productions, at_rule_end}

-- A list ends at a lexeme that is neither an item nor a comma.
pub list_ends : (m : Module) (l : OpenList) (g : TokenKind) (text : List ℕ) → (g ≡ signs.Word → ⊥) → (g ≡ signs.Quoted → ⊥) → (g ≡ signs.Comma → ⊥) → at_items m l g text ≡ declare (close m l) g
list_ends m l signs.Word text h k n = absurd (h refl)
list_ends m l signs.Quoted text h k n = absurd (k refl)
list_ends m l signs.Comma text h k n = absurd (n refl)
list_ends m l _ text h k n = refl

-- In lists of levels and of actuals, a word is an item of the list.
pub word_is_item : (m : Module) (l : OpenList) (text : List ℕ) → (l ≡ lists.Tokens → ⊥) → (l ≡ lists.Starts → ⊥) → list_word m l text ≡ list_item m l (Plain text)
word_is_item m lists.Tokens text h k = absurd (h refl)
word_is_item m lists.Starts text h k = absurd (k refl)
word_is_item m _ text h k = refl

pub quoted_is_item : (m : Module) (l : OpenList) (text : List ℕ) → list_quoted m l text ≡ list_item m l (Alias text)
quoted_is_item m lists.Tokens text = refl
quoted_is_item m _ text = refl

-- A token whose name no string follows has no alias.
pub token_without_alias : (m : Module) (name : List ℕ) (c : Option ℕ) (g : TokenKind) (text : List ℕ) → (g ≡ signs.Quoted → ⊥) → at_token m name c g text ≡ at_aliased m (token_of name None c) g text
token_without_alias m name c signs.Quoted text h = absurd (h refl)
token_without_alias m name c _ text h = refl

-- Apart from the second `%%`, a rule begins as it does after no modifiers.
pub rules_without_percents : (m : Module) (g : TokenKind) (text : List ℕ) → (g ≡ signs.Percents → ⊥) → in_rules m g text ≡ at_modified m false false g text
rules_without_percents m signs.Percents text h = absurd (h refl)
rules_without_percents m _ text h = refl

pub begin_without_bar : (m : Module) (r : Rule) (g : TokenKind) (text : List ℕ) → (g ≡ signs.Bar → ⊥) → at_begin m r g text ≡ in_production m (new_draft r) g text
begin_without_bar m r signs.Bar text h = absurd (h refl)
begin_without_bar m r _ text h = refl

pub producer_without_semicolon : (m : Module) (d : RuleDraft) (g : TokenKind) (text : List ℕ) → (g ≡ signs.Semicolon → ⊥) → after_producer m d g text ≡ in_production m d g text
producer_without_semicolon m d signs.Semicolon text h = absurd (h refl)
producer_without_semicolon m d _ text h = refl

pub group_without_bar : (m : Module) (r : Rule) (g : TokenKind) (text : List ℕ) → (g ≡ signs.Bar → ⊥) → after_group m r g text ≡ at_rule_end (with_rule m r) g text
group_without_bar m r signs.Bar text h = absurd (h refl)
group_without_bar m r signs.Semicolon text h = refl
group_without_bar m r _ text h = refl

pub group_without_prec : (m : Module) (d : RuleDraft) (g : TokenKind) (text : List ℕ) → (g ≡ signs.Prec → ⊥) → at_group m d g text ≡ after_group m (with_productions d) g text
group_without_prec m d signs.Prec text h = absurd (h refl)
group_without_prec m d _ text h = refl

pub rule_end_without_semicolon : (m : Module) (g : TokenKind) (text : List ℕ) → (g ≡ signs.Semicolon → ⊥) → at_rule_end m g text ≡ in_rules m g text
rule_end_without_semicolon m signs.Semicolon text h = absurd (h refl)
rule_end_without_semicolon m _ text h = refl
