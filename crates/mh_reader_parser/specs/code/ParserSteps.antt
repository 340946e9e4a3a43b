-- The parser of grammar files as a function of one lexeme at a time. Each `at_...` function is the step in one state of
-- the parser; its last two arguments are the kind and the text of the next lexeme. Its result is the parser after the
-- step, or `None` if no file continues with this lexeme.
use Rattle.std.specs.Prelude.{◌≡◌, ◌+◌, ℕ, suc, max, nat_le, List, [], ◌∷◌, ◌++◌, length, map, Option, Some, None, Bool, true, false, Result, Ok, Err}
use Rattle.std.specs.Option.{option_or}
use Rattle.mh_rules.specs.Limits.{max_actual_depth}
use Rattle.mh_rules.specs.declared.modules.Ref.{Ref}
use Rattle.mh_rules.specs.declared.modules.Ref.TheVariants.{Plain, Alias}
use Rattle.mh_rules.specs.declared.modules.Actual.{Actual}
use Rattle.mh_rules.specs.declared.modules.Rule.{Rule}
use Rattle.mh_rules.specs.declared.modules.TokenDecl.{TokenDecl}
use Rattle.mh_rules.specs.declared.modules.Module.{Module}
use Rattle.mh_reader_parser.specs.declared.token_kinds.TokenKind.{TokenKind}
use Rattle.mh_reader_parser.specs.declared.token_kinds.TokenKind.TheVariants as signs
use Rattle.mh_reader_parser.specs.declared.parser_states.OpenActual.{OpenActual}
use Rattle.mh_reader_parser.specs.declared.parser_states.RuleDraft.{RuleDraft}
use Rattle.mh_reader_parser.specs.declared.parser_states.OpenList.{OpenList}
use Rattle.mh_reader_parser.specs.declared.parser_states.OpenList.TheVariants as lists
use Rattle.mh_reader_parser.specs.declared.parser_states.ActualPurpose.{ActualPurpose}
use Rattle.mh_reader_parser.specs.declared.parser_states.ActualPurpose.TheVariants as purposes
use Rattle.mh_reader_parser.specs.declared.parser_states.ParserState.{ParserState}
use Rattle.mh_reader_parser.specs.declared.parser_states.ParserState.TheVariants as places
use Rattle.mh_reader_parser.specs.declared.parser_states.Parser.{Parser}
use Rattle.mh_reader_parser.specs.declared.parser_states.ParseFault.{ParseFault}
use Rattle.mh_reader_parser.specs.declared.parser_states.ParseFault.TheVariants.{Unexpected, Memory}
use Rattle.mh_reader_parser.specs.TokenKinds.{FileToken, is_capital}
use Rattle.mh_rules.specs.Modules.{applied, alternative, no_module}
use Rattle.mh_reader_parser.specs.Spelling.{ref_by, suffix_of, with_prec}

-- The parser with this module and this state.
abbrev pub at : Module → ParserState → Parser
at m p = record { made = m; place = p }

-- A step that leads to this state.
abbrev pub continues : Module → ParserState → Option Parser
continues m p = Some (at m p)

-- Steps in declarations.

-- The module after the list has ended.
abbrev pub close : Module → OpenList → Module
close m lists.Tokens = m
close m lists.Starts = m
close m (lists.Levels g ks) = record m { levels = m.levels ++ record { assoc = g; names = ks } ∷ [] }
close m (lists.Actuals true ks) = record m { on_error = m.on_error ++ ks ∷ [] }
close m (lists.Actuals false ks) = m

-- The step at the kind of a lexeme that begins a declaration, or ends the declarations.
abbrev pub declare : Module → TokenKind → Option Parser
declare m signs.Header = continues m places.Declarations
declare m signs.Semicolon = continues m places.Declarations
declare m signs.Token = continues m (places.Opening lists.Tokens)
declare m signs.Start = continues m (places.Opening lists.Starts)
declare m signs.Type = continues m places.TypeOf
declare m (signs.Level g) = continues m (places.Items (lists.Levels g []))
declare m signs.OnErrorReduce = continues m (places.Items (lists.Actuals true []))
declare m signs.Parameter = continues m places.ParameterType
declare m signs.Attribute = continues m (places.Items (lists.Actuals false []))
declare m signs.Percents = continues m places.Rules
declare m _ = None

-- The step at a word in a list of tokens; the Bool says whether the word is written in capitals.
abbrev pub token_if_capital : Module → Bool → List ℕ → Option Parser
token_if_capital m true text = continues m (places.TokenNamed text None)
token_if_capital m false text = None

-- The step for a name or a string in a list that may have both.
abbrev pub list_item : Module → OpenList → Ref → Option Parser
list_item m lists.Tokens r = None
list_item m lists.Starts r = None
list_item m (lists.Levels g ks) r = continues m (places.Items (lists.Levels g (ks ++ r ∷ [])))
list_item m (lists.Actuals b ks) r = continues m (places.Head (purposes.Listed b ks) [] r)

-- The step for a word in a list.
abbrev pub list_word : Module → OpenList → List ℕ → Option Parser
list_word m lists.Tokens text = token_if_capital m (is_capital text) text
list_word m lists.Starts text = continues (record m { starts = m.starts ++ text ∷ [] }) (places.Items lists.Starts)
list_word m (lists.Levels g ks) text = continues m (places.Items (lists.Levels g (ks ++ Plain text ∷ [])))
list_word m (lists.Actuals b ks) text = continues m (places.Head (purposes.Listed b ks) [] (Plain text))

-- The step for a string in a list.
abbrev pub list_quoted : Module → OpenList → List ℕ → Option Parser
list_quoted m lists.Tokens text = None
list_quoted m lists.Starts text = None
list_quoted m (lists.Levels g ks) text = continues m (places.Items (lists.Levels g (ks ++ Alias text ∷ [])))
list_quoted m (lists.Actuals b ks) text = continues m (places.Head (purposes.Listed b ks) [] (Alias text))

abbrev pub at_items : Module → OpenList → TokenKind → List ℕ → Option Parser
at_items m l signs.Word text = list_word m l text
at_items m l signs.Quoted text = list_quoted m l text
at_items m l signs.Comma text = continues m (places.Comma l)
at_items m l g text = declare (close m l) g

abbrev pub at_comma : Module → OpenList → TokenKind → List ℕ → Option Parser
at_comma m l signs.Word text = list_word m l text
at_comma m l signs.Quoted text = list_quoted m l text
at_comma m l _ text = None

abbrev pub at_list_start : Module → OpenList → TokenKind → List ℕ → Option Parser
at_list_start m l signs.TypeText text = continues m (places.Items l)
at_list_start m l g text = at_items m l g text

abbrev pub at_type : Module → TokenKind → Option Parser
at_type m signs.TypeText = continues m (places.Items (lists.Actuals false []))
at_type m _ = None

abbrev pub at_parameter : Module → TokenKind → Option Parser
at_parameter m signs.TypeText = continues m places.Declarations
at_parameter m _ = None

abbrev pub with_token : Module → TokenDecl → Module
with_token m t = record m { tokens = m.tokens ++ t ∷ [] }

abbrev pub token_of : List ℕ → Option (List ℕ) → Option ℕ → TokenDecl
token_of name alias cost = record { name = name; alias = alias; cost = cost }

abbrev pub at_token : Module → List ℕ → Option ℕ → TokenKind → List ℕ → Option Parser
at_token m name c signs.Quoted text = continues m (places.TokenAliased (token_of name (Some text) c))
at_token m name c g text = at_items (with_token m (token_of name None c)) lists.Tokens g text

abbrev pub at_aliased : Module → TokenDecl → TokenKind → List ℕ → Option Parser
at_aliased m t g text = at_items (with_token m t) lists.Tokens g text

-- Steps in rules.

-- A rule with this name and nothing else; the Bools say whether it is public and whether it is inlined.
abbrev pub named : Bool → Bool → List ℕ → Rule
named p i text = record { public = p; inlined = i; name = text; formals = []; alternatives = [] }

-- The state after the name of a rule; the Bools are its modifiers `%public` and `%inline`.
abbrev pub state_after_name : Bool → Bool → List ℕ → ParserState
state_after_name p i text = places.RuleNamed (named p i text)

abbrev pub in_rules : Module → TokenKind → List ℕ → Option Parser
in_rules m signs.Word text = continues m (places.RuleNamed (named false false text))
in_rules m signs.Public text = continues m (places.Modified true false)
in_rules m signs.Inline text = continues m (places.Modified false true)
in_rules m signs.Percents text = continues m places.Ended
in_rules m _ text = None

-- The step after modifiers of a rule; the Bools say which modifiers were read.
abbrev pub at_modified : Module → Bool → Bool → TokenKind → List ℕ → Option Parser
at_modified m p i signs.Word text = continues m (places.RuleNamed (named p i text))
at_modified m p i signs.Public text = continues m (places.Modified true i)
at_modified m p i signs.Inline text = continues m (places.Modified p true)
at_modified m p i _ text = None

abbrev pub at_rule_named : Module → Rule → TokenKind → Option Parser
at_rule_named m r signs.Open = continues m (places.FormalsOpen r)
at_rule_named m r signs.Colon = continues m (places.Begin r)
at_rule_named m r _ = None

-- The rule with one more formal.
abbrev pub with_formal : Rule → List ℕ → Rule
with_formal r text = record r { formals = r.formals ++ text ∷ [] }

-- The state after a formal of a rule.
abbrev pub state_after_formal : Rule → List ℕ → ParserState
state_after_formal r text = places.FormalRead (with_formal r text)

abbrev pub at_formals_open : Module → Rule → TokenKind → List ℕ → Option Parser
at_formals_open m r signs.Word text = continues m (places.FormalRead (with_formal r text))
at_formals_open m r signs.Close text = continues m (places.FormalsClosed r)
at_formals_open m r _ text = None

abbrev pub at_formal_read : Module → Rule → TokenKind → Option Parser
at_formal_read m r signs.Comma = continues m (places.FormalComma r)
at_formal_read m r signs.Close = continues m (places.FormalsClosed r)
at_formal_read m r _ = None

abbrev pub at_formal_comma : Module → Rule → TokenKind → List ℕ → Option Parser
at_formal_comma m r signs.Word text = continues m (places.FormalRead (with_formal r text))
at_formal_comma m r _ text = None

abbrev pub at_formals_closed : Module → Rule → TokenKind → Option Parser
at_formals_closed m r signs.Colon = continues m (places.Begin r)
at_formals_closed m r _ = None

-- The draft at the beginning of a group.
-- The draft of a rule before its first production.
abbrev pub new_draft : Rule → RuleDraft
new_draft r = record { rule = r; productions = []; producers = [] }

-- The draft after a production.
abbrev pub with_production : RuleDraft → Option Ref → RuleDraft
with_production d p = record { rule = d.rule; productions = d.productions ++ alternative d.producers p ∷ []; producers = [] }

-- The draft with one more producer in its last production.
abbrev pub with_producer : RuleDraft → Actual → RuleDraft
with_producer d a = record d { producers = d.producers ++ a ∷ [] }

-- The state after a bar that ends a production.
abbrev pub state_after_bar : RuleDraft → ParserState
state_after_bar d = places.Production (with_production d None)

-- The state after the action of a group.
abbrev pub state_after_action : RuleDraft → ParserState
state_after_action d = places.Group (with_production d None)

-- The step inside a production, where a producer, `%prec`, a bar or an action may come.
abbrev pub in_production : Module → RuleDraft → TokenKind → List ℕ → Option Parser
in_production m d signs.Word text = continues m (places.Named d text)
in_production m d signs.Quoted text = continues m (places.Head (purposes.Producer d) [] (Alias text))
in_production m d signs.Prec text = continues m (places.Prec d)
in_production m d signs.Bar text = continues m (places.Production (with_production d None))
in_production m d signs.Action text = continues m (places.Group (with_production d None))
in_production m d _ text = None

-- The step after the colon of a rule.
abbrev pub at_begin : Module → Rule → TokenKind → List ℕ → Option Parser
at_begin m r signs.Bar text = continues m (places.Production (new_draft r))
at_begin m r g text = in_production m (new_draft r) g text

-- The step after a producer.
abbrev pub after_producer : Module → RuleDraft → TokenKind → List ℕ → Option Parser
after_producer m d signs.Semicolon text = continues m (places.Spaced d)
after_producer m d g text = in_production m d g text

abbrev pub at_prec : Module → RuleDraft → Option Ref → Option Parser
at_prec m d None = None
at_prec m d (Some r) = continues m (places.Closed (with_production d (Some r)))

-- The step after a production that ends with its level (`%prec`).
abbrev pub after_prec : Module → RuleDraft → TokenKind → Option Parser
after_prec m d signs.Bar = continues m (places.Production (record d { producers = [] }))
after_prec m d signs.Action = continues m (places.Group d)
after_prec m d _ = None

-- The rule after a group.
abbrev pub with_productions : RuleDraft → Rule
with_productions d = record d.rule { alternatives = d.rule.alternatives ++ d.productions }

-- The rule after a group whose level is that of this reference: each production of the group gets the level.
abbrev pub with_productions_of_prec : RuleDraft → Ref → Rule
with_productions_of_prec d r = record d.rule { alternatives = d.rule.alternatives ++ map (with_prec (Some r)) d.productions }

-- The module with one more rule.
abbrev pub with_rule : Module → Rule → Module
with_rule m r = record m { rules = m.rules ++ r ∷ [] }

-- The step after a group of a rule.
abbrev pub after_group : Module → Rule → TokenKind → List ℕ → Option Parser
after_group m r signs.Bar text = continues m (places.Production (new_draft r))
after_group m r signs.Semicolon text = continues (with_rule m r) places.RuleEnd
after_group m r g text = in_rules (with_rule m r) g text

abbrev pub at_group : Module → RuleDraft → TokenKind → List ℕ → Option Parser
at_group m d signs.Prec text = continues m (places.GroupPrec d)
at_group m d g text = after_group m (with_productions d) g text

abbrev pub at_group_prec : Module → RuleDraft → Option Ref → Option Parser
at_group_prec m d None = None
at_group_prec m d (Some r) = continues m (places.GroupClosed (with_productions_of_prec d r))

abbrev pub at_rule_end : Module → TokenKind → List ℕ → Option Parser
at_rule_end m signs.Semicolon text = continues m places.RuleEnd
at_rule_end m g text = in_rules m g text

-- Steps in actuals.

-- The step after a whole producer, or after a whole item of a list.
abbrev pub after_whole : Module → ActualPurpose → Actual → TokenKind → List ℕ → Option Parser
after_whole m (purposes.Producer d) a g text = after_producer m (with_producer d a) g text
after_whole m (purposes.Listed b ks) a g text = at_items m (lists.Actuals b (ks ++ a ∷ [])) g text

-- The open bracket with one more argument, of this depth.
abbrev pub with_argument : OpenActual → Actual → ℕ → OpenActual
with_argument p a d = record { head = p.head; args = p.args ++ a ∷ []; depth = max p.depth d }

-- The step after an argument in a bracket.
abbrev pub after_argument : Module → ActualPurpose → OpenActual → List OpenActual → Actual → ℕ → TokenKind → Option Parser
after_argument m k p ps a d signs.Comma = continues m (places.Argument k (with_argument p a d ∷ ps))
after_argument m k p ps a d signs.Close = continues m (places.After k ps (applied p.head (p.args ++ a ∷ [])) (suc (max p.depth d)))
after_argument m k p ps a d _ = None

-- The step after an actual with all its suffixes.
abbrev pub after_suffixes : Module → ActualPurpose → List OpenActual → Actual → ℕ → TokenKind → List ℕ → Option Parser
after_suffixes m k [] a d g text = after_whole m k a g text
after_suffixes m k (p ∷ ps) a d g text = after_argument m k p ps a d g

-- An actual of this depth within these brackets is not too deep.
abbrev pub fits_in_depth : ℕ → List OpenActual → Bool
fits_in_depth d ps = nat_le (d + length ps) max_actual_depth

-- The step at a suffix, which applies the rule n to the actual; the Bool says whether the result is not too deep.
abbrev pub with_suffix_if_fits : Module → ActualPurpose → List OpenActual → Actual → ℕ → Bool → List ℕ → Option Parser
with_suffix_if_fits m k ps a d true n = continues m (places.After k ps (applied (Plain n) (a ∷ [])) (suc d))
with_suffix_if_fits m k ps a d false n = None

-- The step after an actual; the option is the rule that the next lexeme applies, if this lexeme is a suffix.
abbrev pub at_optional_suffix : Module → ActualPurpose → List OpenActual → Actual → ℕ → Option (List ℕ) → TokenKind → List ℕ → Option Parser
at_optional_suffix m k ps a d (Some n) g text = with_suffix_if_fits m k ps a d (fits_in_depth (suc d) ps) n
at_optional_suffix m k ps a d None g text = after_suffixes m k ps a d g text

-- The step after an actual with the suffixes read so far.
abbrev pub after_actual : Module → ActualPurpose → List OpenActual → Actual → ℕ → TokenKind → List ℕ → Option Parser
after_actual m k ps a d g text = at_optional_suffix m k ps a d (suffix_of g) g text

-- The step at an opening bracket; the Bool says whether the arguments may be deeper by one.
abbrev pub with_bracket_if_fits : Module → ActualPurpose → List OpenActual → Ref → Bool → Option Parser
with_bracket_if_fits m k ps r true = continues m (places.Argument k (record { head = r; args = []; depth = 0 } ∷ ps))
with_bracket_if_fits m k ps r false = None

-- The step after a reference that may have arguments.
abbrev pub at_head : Module → ActualPurpose → List OpenActual → Ref → TokenKind → List ℕ → Option Parser
at_head m k ps r signs.Open text = with_bracket_if_fits m k ps r (fits_in_depth 2 ps)
at_head m k ps r g text = after_actual m k ps (applied r []) 1 g text

-- The step after a word in a production; the word is a producer, or the name of the producer that follows.
abbrev pub at_named : Module → RuleDraft → List ℕ → TokenKind → List ℕ → Option Parser
at_named m d name signs.Equals text = continues m (places.Argument (purposes.Producer d) [])
at_named m d name g text = at_head m (purposes.Producer d) [] (Plain name) g text

abbrev pub at_argument : Module → ActualPurpose → List OpenActual → Option Ref → Option Parser
at_argument m k ps None = None
at_argument m k ps (Some r) = continues m (places.Head k ps r)

-- Steps in every state, and runs over whole files.

-- The step in each state.
unfoldable pub next_at : Module → ParserState → TokenKind → List ℕ → Option Parser
next_at m places.Declarations g text = declare m g
next_at m (places.Opening l) g text = at_list_start m l g text
next_at m places.TypeOf g text = at_type m g
next_at m (places.Items l) g text = at_items m l g text
next_at m (places.Comma l) g text = at_comma m l g text
next_at m (places.TokenNamed name c) g text = at_token m name c g text
next_at m (places.TokenAliased t) g text = at_aliased m t g text
next_at m places.ParameterType g text = at_parameter m g
next_at m places.Rules g text = in_rules m g text
next_at m (places.Modified p i) g text = at_modified m p i g text
next_at m (places.RuleNamed r) g text = at_rule_named m r g
next_at m (places.FormalsOpen r) g text = at_formals_open m r g text
next_at m (places.FormalRead r) g text = at_formal_read m r g
next_at m (places.FormalComma r) g text = at_formal_comma m r g text
next_at m (places.FormalsClosed r) g text = at_formals_closed m r g
next_at m (places.Begin r) g text = at_begin m r g text
next_at m (places.Production d) g text = in_production m d g text
next_at m (places.Spaced d) g text = after_producer m d g text
next_at m (places.Named d name) g text = at_named m d name g text
next_at m (places.Argument k ps) g text = at_argument m k ps (ref_by g text)
next_at m (places.Head k ps r) g text = at_head m k ps r g text
next_at m (places.After k ps a d) g text = after_actual m k ps a d g text
next_at m (places.Prec d) g text = at_prec m d (ref_by g text)
next_at m (places.Closed d) g text = after_prec m d g
next_at m (places.Group d) g text = at_group m d g text
next_at m (places.GroupPrec d) g text = at_group_prec m d (ref_by g text)
next_at m (places.GroupClosed r) g text = after_group m r g text
next_at m places.RuleEnd g text = at_rule_end m g text
next_at m places.Ended g text = None

-- A cost after the word or the alias of a token counts if there is none before it.
abbrev pub state_with_cost : Option ℕ → ParserState → ParserState
state_with_cost c (places.TokenNamed name d) = places.TokenNamed name (option_or d c)
state_with_cost c (places.TokenAliased t) = places.TokenAliased (record t { cost = option_or t.cost c })
state_with_cost c p = p

abbrev pub parser_with_cost : Option ℕ → Parser → Parser
parser_with_cost c s = at s.made (state_with_cost c s.place)

-- The state after one more lexeme. Of an attribute only the cost counts.
abbrev pub step_by_lexeme : Parser → Option TokenKind → List ℕ → Option ℕ → Option Parser
step_by_lexeme s None text c = Some (parser_with_cost c s)
step_by_lexeme s (Some g) text c = next_at s.made s.place g text

-- The module, if the file may end in this state.
unfoldable pub finish_at : Module → ParserState → Option Module
finish_at m places.Rules = Some m
finish_at m (places.Group d) = Some (with_rule m (with_productions d))
finish_at m (places.GroupClosed r) = Some (with_rule m r)
finish_at m places.RuleEnd = Some m
finish_at m places.Ended = Some m
finish_at m _ = None

abbrev pub finish : Parser → Option Module
finish s = finish_at s.made s.place

abbrev pub go_on : Option Parser → (Parser → Option Module) → Option Module
go_on None ahead = None
go_on (Some s) ahead = ahead s

-- The module that the parser reads from this state on, if the lexemes are the rest of a file.
abbrev pub run : Parser → List FileToken → Option Module
run s [] = finish s
run s (x ∷ xs) = go_on (next_at s.made s.place x.sign x.text) (λ t. run (parser_with_cost x.cost t) xs)

-- The state before the first lexeme.
abbrev pub start : Parser
start = at no_module places.Declarations

-- The result of a call is that of a step, unless memory ran out.
abbrev pub AgreesWithStep : {X : Type 0} → Option X → Result X ParseFault → Type 0
AgreesWithStep step (Ok x) = step ≡ Some x
AgreesWithStep step (Err Unexpected) = step ≡ None
AgreesWithStep step (Err Memory) = Unit {0}
