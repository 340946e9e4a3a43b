-- Proves that the lexemes spell each module that the parser reads (soundness). For each state of the parser, a
-- definition says what the lexemes that are left have to spell.
use Rattle.std.specs.Prelude.{◌⊎◌}
use Rattle.std.proofs.Math.Nat.{max-le}
use Rattle.std.proofs.lemmas.Bool.{leb-true}
use Rattle.std.proofs.lemmas.Option.{same_Some}
use Rattle.std.proofs.Common.{inl, inr, ◌≡◌, ◌≤◌, ◌+◌, ◌-◌, ℕ, suc, max, List, [], ◌∷◌, ◌++◌, length, map, Option, Some, None, Bool, true, false, refl, sym, subst, arith}
use Rattle.std.specs.Option.{option_or}
use Rattle.mh_rules.specs.declared.modules.Ref.{Ref}
use Rattle.mh_rules.specs.declared.modules.Ref.TheVariants.{Plain, Alias}
use Rattle.mh_rules.specs.declared.modules.Actual.{Actual}
use Rattle.mh_rules.specs.declared.modules.Alternative.{Alternative}
use Rattle.mh_rules.specs.declared.modules.Rule.{Rule}
use Rattle.mh_rules.specs.declared.modules.TokenDecl.{TokenDecl}
use Rattle.mh_rules.specs.declared.modules.Module.{Module}
use Rattle.mh_reader_parser.specs.declared.token_kinds.TokenKind.{TokenKind}
use Rattle.mh_reader_parser.specs.declared.token_kinds.TokenKind.TheVariants as signs
use Rattle.mh_reader_parser.specs.declared.parser_states.OpenActual.{OpenActual}
use Rattle.mh_reader_parser.specs.declared.parser_states.RuleDraft.{RuleDraft}
use Rattle.mh_reader_parser.specs.declared.parser_states.OpenList.{OpenList}
use Rattle.mh_reader_parser.specs.declared.parser_states.OpenList.TheVariants as lists
use Rattle.mh_reader_parser.specs.declared.parser_states.ActualPurpose.{ActualPurpose}
use Rattle.mh_reader_parser.specs.declared.parser_states.ActualPurpose.TheVariants as purposes
use Rattle.mh_reader_parser.specs.declared.parser_states.ParserState.{ParserState}
use Rattle.mh_reader_parser.specs.declared.parser_states.ParserState.TheVariants as places
use Rattle.mh_reader_parser.specs.declared.parser_states.Parser.{Parser}
use Rattle.mh_reader_parser.specs.TokenKinds.{FileToken, is_capital}
use Rattle.mh_reader_parser.specs.Spelling as spelling
use Rattle.mh_rules.specs.Modules.{applied, alternative}
use Rattle.mh_reader_parser.specs.Spelling.{ref_by, ref_of, suffix_of, with_prec, starts_with_bar, is_bar, Suffixed, Unsuffixed, Args, IsActual, LimitedActual, ListOf, IsAlias, IsTokenItem, IsWordItem, IsRef, OptionalType, Declaration, Semicolons, IsProducer, Producers, IsPrec, Productions, Groups, Modifiers, Formals, OptionalFormals, OptionalBar, IsRule, Rules, File}
use Rattle.mh_reader_parser.specs.code.DepthLimit.{AreOpenShallow, IsStateShallow}
use Rattle.mh_reader_parser.specs.code.ParserSteps as machine
use Rattle.mh_reader_parser.specs.code.ParserSteps.{at, next_at, finish_at, run, go_on, parser_with_cost, state_with_cost, fits_in_depth, close, token_of, with_token, with_formal, named, new_draft, with_production, with_producer, with_argument, with_productions, with_productions_of_prec, with_rule}
use Rattle.mh_reader_parser.proofs.ParserComplete.{map-without_prec, option_or-none}

abbrev with_alternatives : Rule → List Alternative → Rule
with_alternatives r ks = record r { alternatives = ks }

abbrev with_formals : Rule → List (List ℕ) → Rule
with_formals r fs = record r { formals = fs }

abbrev draft : Rule → List Alternative → List Actual → RuleDraft
draft r ks ps = record { rule = r; productions = ks; producers = ps }

-- The lexemes are the items of the list that are left, and the rest of the file.
abbrev pub InList : Module → OpenList → List FileToken → Module → Type 0
InList m lists.Tokens ls out = (mid : List FileToken) × (ks : List TokenDecl) × ListOf TokenDecl IsTokenItem m.tokens ls mid ks × File (record m { tokens = ks }) mid out
InList m lists.Starts ls out = (mid : List FileToken) × (ks : List (List ℕ)) × ListOf (List ℕ) IsWordItem m.starts ls mid ks × File (record m { starts = ks }) mid out
InList m (lists.Levels g done) ls out = (mid : List FileToken) × (ks : List Ref) × ListOf Ref IsRef done ls mid ks × File (close m (lists.Levels g ks)) mid out
InList m (lists.Actuals b done) ls out = (mid : List FileToken) × (ks : List Actual) × ListOf Actual LimitedActual done ls mid ks × File (close m (lists.Actuals b ks)) mid out

-- The lexemes are an item, the other items of the list, and the rest of the file.
abbrev pub AtItem : Module → OpenList → List FileToken → Module → Type 0
AtItem m lists.Tokens ls out = (mid : List FileToken) × (a : TokenDecl) × IsTokenItem ls mid a × InList (record m { tokens = m.tokens ++ a ∷ [] }) lists.Tokens mid out
AtItem m lists.Starts ls out = (mid : List FileToken) × (a : List ℕ) × IsWordItem ls mid a × InList (record m { starts = m.starts ++ a ∷ [] }) lists.Starts mid out
AtItem m (lists.Levels g done) ls out = (mid : List FileToken) × (a : Ref) × IsRef ls mid a × InList m (lists.Levels g (done ++ a ∷ [])) mid out
AtItem m (lists.Actuals b done) ls out = (mid : List FileToken) × (a : Actual) × LimitedActual ls mid a × InList m (lists.Actuals b (done ++ a ∷ [])) mid out

-- The lexemes are a type, and then lexemes with the property P.
abbrev pub Typed : List FileToken → (List FileToken → Type 0) → Type 0
Typed ls P = (y : FileToken) × (xs : List FileToken) × (ls ≡ y ∷ xs) × (y.sign ≡ signs.TypeText) × P xs

-- The lexemes follow the keyword of a list: an optional type, the items of the list, and the rest of the file.
abbrev pub AfterKeyword : Module → OpenList → List FileToken → Module → Type 0
AfterKeyword m l ls out = (mid : List FileToken) × OptionalType ls mid × InList m l mid out

-- The lexemes follow the name of a token: an optional alias, and the rest of the list of tokens.
abbrev pub AtAlias : Module → List ℕ → Option ℕ → List FileToken → Module → Type 0
AtAlias m name c ls out = (mid : List FileToken) × (o : Option (List ℕ)) × (d : Option ℕ) × IsAlias ls mid o d × InList (with_token m (token_of name o (option_or c d))) lists.Tokens mid out

-- The lexemes follow the groups of a rule: semicolons, and the rest of the rules.
abbrev pub AfterRule : Module → Rule → List FileToken → Module → Type 0
AfterRule m r ls out = (rest : List FileToken) × Semicolons ls rest × Rules (with_rule m r) rest out

-- The lexemes are groups of a rule, and what follows the rule.
abbrev pub InGroups : Module → Rule → List FileToken → Module → Type 0
InGroups m r ls out = (mid : List FileToken) × (ks : List Alternative) × Groups r.alternatives ls mid ks × AfterRule m (with_alternatives r ks) mid out

-- The lexemes are a bar, more groups of the rule, and what follows them.
abbrev pub MoreGroups : Module → Rule → List FileToken → Module → Type 0
MoreGroups m r ls out = (y : FileToken) × (xs : List FileToken) × (ls ≡ y ∷ xs) × (y.sign ≡ signs.Bar) × InGroups m r xs out

-- The lexemes follow a group: the rest of the rules, or a bar and more groups.
abbrev pub AfterGroup : Module → Rule → List FileToken → Module → Type 0
AfterGroup m r ls out = AfterRule m r ls out ⊎ MoreGroups m r ls out

-- The lexemes follow the action of a group: an optional level, and what follows the group.
abbrev pub AtGroup : Module → RuleDraft → List FileToken → Module → Type 0
AtGroup m d ls out = (mid : List FileToken) × (g : Option Ref) × IsPrec ls mid g × AfterGroup m (with_alternatives d.rule (d.rule.alternatives ++ map (with_prec g) d.productions)) mid out

-- The lexemes are more productions of a group, of which the first has no producers yet, and what follows the group's
-- action.
abbrev pub InProductions : Module → RuleDraft → List FileToken → Module → Type 0
InProductions m d ls out = (mid : List FileToken) × (ks : List Alternative) × Productions d.productions ls mid ks × AtGroup m (draft d.rule ks []) mid out

-- The lexemes follow a production: an action and what follows it, or a bar and more productions.
abbrev pub AfterProduction : Module → RuleDraft → List FileToken → Module → Type 0
AfterProduction m d [] out = ⊥
AfterProduction m d (y ∷ xs) out = ((y.sign ≡ signs.Action) × AtGroup m d xs out) ⊎ ((y.sign ≡ signs.Bar) × InProductions m d xs out)

-- The lexemes are more producers of a production, an optional level, and what follows the production.
abbrev pub InProduction : Module → RuleDraft → List FileToken → Module → Type 0
InProduction m d ls out = (mid : List FileToken) × (ps : List Actual) × Producers d.producers ls mid ps × (next : List FileToken) × (p : Option Ref) × IsPrec mid next p × AfterProduction m (with_production (draft d.rule d.productions ps) p) next out

-- The lexemes follow a producer: semicolons, and the rest of the production.
abbrev pub Spaced : Module → RuleDraft → List FileToken → Module → Type 0
Spaced m d ls out = (next : List FileToken) × Semicolons ls next × InProduction m d next out

-- The lexemes follow the colon of a rule: an optional bar, the groups, and what follows the rule.
abbrev pub AfterColon : Module → Rule → List FileToken → Module → Type 0
AfterColon m r ls out = (begun : List FileToken) × OptionalBar ls begun × InGroups m r begun out

-- The lexemes are a colon and what follows the colon.
abbrev pub AtColon : Module → Rule → List FileToken → Module → Type 0
AtColon m r ls out = (y : FileToken) × (xs : List FileToken) × (ls ≡ y ∷ xs) × (y.sign ≡ signs.Colon) × AfterColon m r xs out

-- The lexemes follow the name of a rule: optional formals, a colon, and what follows the colon.
abbrev pub AtName : Module → Rule → List FileToken → Module → Type 0
AtName m r ls out = (mid : List FileToken) × (fs : List (List ℕ)) × OptionalFormals r.formals ls mid fs × AtColon m (with_formals r fs) mid out

-- The lexemes are formals with their closing bracket, a colon, and what follows the colon.
abbrev pub InFormals : Module → Rule → List FileToken → Module → Type 0
InFormals m r ls out = (mid : List FileToken) × (fs : List (List ℕ)) × Formals r.formals ls mid fs × AtColon m (with_formals r fs) mid out

-- The lexemes are the closing bracket of the formals, a colon, and what follows the colon.
abbrev pub AtClose : Module → Rule → List FileToken → Module → Type 0
AtClose m r ls out = (y : FileToken) × (xs : List FileToken) × (ls ≡ y ∷ xs) × (y.sign ≡ signs.Close) × AtColon m r xs out

-- The lexemes are a comma, more formals, a colon, and what follows the colon.
abbrev pub AtComma : Module → Rule → List FileToken → Module → Type 0
AtComma m r ls out = (y : FileToken) × (xs : List FileToken) × (ls ≡ y ∷ xs) × (y.sign ≡ signs.Comma) × InFormals m r xs out

-- The lexemes are modifiers, the name of a rule, and what follows the name.
abbrev pub InModifiers : Module → Bool → Bool → List FileToken → Module → Type 0
InModifiers m p i ls out = (x : FileToken) × (xs : List FileToken) × (q : Bool) × (j : Bool) × Modifiers p i ls (x ∷ xs) q j × (x.sign ≡ signs.Word) × AtName m (named q j x.text) xs out

-- The lexemes follow a whole producer, or a whole item of a list.
abbrev pub AfterWhole : Module → ActualPurpose → Actual → List FileToken → Module → Type 0
AfterWhole m (purposes.Producer d) a ls out = Spaced m (with_producer d a) ls out
AfterWhole m (purposes.Listed b ks) a ls out = InList m (lists.Actuals b (ks ++ a ∷ [])) ls out

-- The lexemes follow a whole actual inside the open brackets.
abbrev pub AfterActual : Module → ActualPurpose → List OpenActual → Actual → ℕ → List FileToken → Module → Type 0
AfterActual m k [] b e ls out = (e ≤ 1000) × AfterWhole m k b ls out
AfterActual m k (p ∷ ps) b e [] out = ⊥
AfterActual m k (p ∷ ps) b e (y ∷ xs) out =
    ((y.sign ≡ signs.Close) × (mid : List FileToken) × (c : Actual) × (f : ℕ) × Suffixed (applied p.head (p.args ++ b ∷ [])) (suc (max p.depth e)) xs mid c f × AfterActual m k ps c f mid out)
    ⊎ ((y.sign ≡ signs.Comma) × (next : List FileToken) × (ks : List Actual) × (n : ℕ) × Args (p.args ++ b ∷ []) (max p.depth e) xs next ks n
    × (mid : List FileToken) × (c : Actual) × (f : ℕ) × Suffixed (applied p.head ks) (suc n) next mid c f × AfterActual m k ps c f mid out)

-- The lexemes follow an actual with its arguments: optional suffixes, and what follows the whole actual.
abbrev pub AtSuffixes : Module → ActualPurpose → List OpenActual → Actual → ℕ → List FileToken → Module → Type 0
AtSuffixes m k ps a d ls out = (mid : List FileToken) × (b : Actual) × (e : ℕ) × Suffixed a d ls mid b e × AfterActual m k ps b e mid out

-- The lexemes are an actual and what follows this actual inside the open brackets.
abbrev pub Argument : Module → ActualPurpose → List OpenActual → List FileToken → Module → Type 0
Argument m k ps ls out = (mid : List FileToken) × (a : Actual) × (d : ℕ) × IsActual ls mid a d × AfterActual m k ps a d mid out

-- The lexemes are an opening bracket, arguments, the closing bracket, and what follows.
abbrev pub AtArgs : Module → ActualPurpose → List OpenActual → Ref → List FileToken → Module → Type 0
AtArgs m k ps r ls out = (y : FileToken) × (xs : List FileToken) × (ls ≡ y ∷ xs) × (y.sign ≡ signs.Open) × (mid : List FileToken) × (ks : List Actual) × (n : ℕ) × Args [] 0 xs mid ks n × AtSuffixes m k ps (applied r ks) (suc n) mid out

-- The lexemes follow the name of an actual: arguments or none, and what follows.
abbrev pub AtHead : Module → ActualPurpose → List OpenActual → Ref → List FileToken → Module → Type 0
AtHead m k ps r ls out = AtSuffixes m k ps (applied r []) 1 ls out ⊎ AtArgs m k ps r ls out

-- The lexemes are an equals sign, an actual, and what follows the producer.
abbrev pub AtEquals : Module → RuleDraft → List FileToken → Module → Type 0
AtEquals m d ls out = (y : FileToken) × (xs : List FileToken) × (ls ≡ y ∷ xs) × (y.sign ≡ signs.Equals) × Argument m (purposes.Producer d) [] xs out

-- The lexemes follow a word that is the head of a producer, or the name of a producer before an equals sign.
abbrev pub AtNamed : Module → RuleDraft → List ℕ → List FileToken → Module → Type 0
AtNamed m d name ls out = AtHead m (purposes.Producer d) [] (Plain name) ls out ⊎ AtEquals m d ls out

-- The lexemes are a word or a string, and then lexemes with the property P of its reference.
abbrev pub Referring : List FileToken → (Ref → List FileToken → Type 0) → Type 0
Referring ls P = (y : FileToken) × (xs : List FileToken) × (ls ≡ y ∷ xs) × (r : Ref) × (ref_of y ≡ Some r) × P r xs

-- No lexeme is left, and the module is finished.
abbrev pub AtEnd : Module → List FileToken → Module → Type 0
AtEnd m ls out = (ls ≡ []) × (out ≡ m)

-- What the lexemes that are left have to spell, for each state of the parser.
abbrev pub StateSpells : ParserState → Module → List FileToken → Module → Type 0
StateSpells places.Declarations m ls out = File m ls out
StateSpells (places.Opening l) m ls out = AfterKeyword m l ls out
StateSpells places.TypeOf m ls out = Typed ls (λ xs. InList m (lists.Actuals false []) xs out)
StateSpells (places.Items l) m ls out = InList m l ls out
StateSpells (places.Comma l) m ls out = AtItem m l ls out
StateSpells (places.TokenNamed name c) m ls out = AtAlias m name c ls out
StateSpells (places.TokenAliased t) m ls out = InList (with_token m t) lists.Tokens ls out
StateSpells places.ParameterType m ls out = Typed ls (λ xs. File m xs out)
StateSpells places.Rules m ls out = Rules m ls out
StateSpells (places.Modified p i) m ls out = InModifiers m p i ls out
StateSpells (places.RuleNamed r) m ls out = AtName m r ls out
StateSpells (places.FormalsOpen r) m ls out = AtClose m r ls out ⊎ InFormals m r ls out
StateSpells (places.FormalRead r) m ls out = AtClose m r ls out ⊎ AtComma m r ls out
StateSpells (places.FormalComma r) m ls out = InFormals m r ls out
StateSpells (places.FormalsClosed r) m ls out = AtColon m r ls out
StateSpells (places.Begin r) m ls out = AfterColon m r ls out
StateSpells (places.Production d) m ls out = InProduction m d ls out
StateSpells (places.Spaced d) m ls out = Spaced m d ls out
StateSpells (places.Named d name) m ls out = AtNamed m d name ls out
StateSpells (places.Argument k ps) m ls out = Argument m k ps ls out
StateSpells (places.Head k ps r) m ls out = AtHead m k ps r ls out
StateSpells (places.After k ps a d) m ls out = AtSuffixes m k ps a d ls out
StateSpells (places.Prec d) m ls out = Referring ls (λ r xs. AfterProduction m (with_production d (Some r)) xs out)
StateSpells (places.Closed d) m ls out = AfterProduction m d ls out
StateSpells (places.Group d) m ls out = AtGroup m d ls out
StateSpells (places.GroupPrec d) m ls out = Referring ls (λ r xs. AfterGroup m (with_productions_of_prec d r) xs out)
StateSpells (places.GroupClosed r) m ls out = AfterGroup m r ls out
StateSpells places.RuleEnd m ls out = (rest : List FileToken) × Semicolons ls rest × Rules m rest out
StateSpells places.Ended m ls out = AtEnd m ls out

abbrev pub ParserSpells : Parser → List FileToken → Module → Type 0
ParserSpells s ls out = StateSpells s.place s.made ls out

-- The step was made, and its result has the property P.
abbrev pub Stepped : Option Parser → (Parser → Type 0) → Type 0
Stepped None P = ⊥
Stepped (Some t) P = P t

item_next : (m : Module) (l : OpenList) (ls : List FileToken) (out : Module) → AtItem m l ls out → InList m l ls out
item_next m lists.Tokens ls out (mid, a, x, (rest, ks, t, f)) = (rest, ks, spelling.ListOf.next x t, f)
item_next m lists.Starts ls out (mid, a, x, (rest, ks, t, f)) = (rest, ks, spelling.ListOf.next x t, f)
item_next m (lists.Levels g done) ls out (mid, a, x, (rest, ks, t, f)) = (rest, ks, spelling.ListOf.next x t, f)
item_next m (lists.Actuals b done) ls out (mid, a, x, (rest, ks, t, f)) = (rest, ks, spelling.ListOf.next x t, f)

item_comma : (m : Module) (l : OpenList) (y : FileToken) (ls : List FileToken) (out : Module) → y.sign ≡ signs.Comma → AtItem m l ls out → InList m l (y ∷ ls) out
item_comma m lists.Tokens y ls out e (mid, a, x, (rest, ks, t, f)) = (rest, ks, spelling.ListOf.comma e x t, f)
item_comma m lists.Starts y ls out e (mid, a, x, (rest, ks, t, f)) = (rest, ks, spelling.ListOf.comma e x t, f)
item_comma m (lists.Levels g done) y ls out e (mid, a, x, (rest, ks, t, f)) = (rest, ks, spelling.ListOf.comma e x t, f)
item_comma m (lists.Actuals b done) y ls out e (mid, a, x, (rest, ks, t, f)) = (rest, ks, spelling.ListOf.comma e x t, f)

no_item : (m : Module) (l : OpenList) (ls : List FileToken) (out : Module) → File (close m l) ls out → InList m l ls out
no_item m lists.Tokens ls out f = (ls, m.tokens, spelling.ListOf.none, f)
no_item m lists.Starts ls out f = (ls, m.starts, spelling.ListOf.none, f)
no_item m (lists.Levels g done) ls out f = (ls, done, spelling.ListOf.none, f)
no_item m (lists.Actuals b done) ls out f = (ls, done, spelling.ListOf.none, f)

-- Lemmas on productions and groups.

unnamed_first : (m : Module) (d : RuleDraft) (ls : List FileToken) (out : Module) → Argument m (purposes.Producer d) [] ls out → InProduction m d ls out
unnamed_first m d ls out (mid, a, e, act, (l, (next, s, (to, ps, t, nx, p, c, b)))) =
    (to, ps, spelling.Producers.more (spelling.IsProducer.unnamed (spelling.LimitedActual.limited act l)) s t, nx, p, c, b)

named_first : (m : Module) (d : RuleDraft) (x y : FileToken) (ls : List FileToken) (out : Module) → x.sign ≡ signs.Word → y.sign ≡ signs.Equals →
    Argument m (purposes.Producer d) [] ls out → InProduction m d (x ∷ y ∷ ls) out
named_first m d x y ls out f g (mid, a, e, act, (l, (next, s, (to, ps, t, nx, p, c, b)))) =
    (to, ps, spelling.Producers.more (spelling.IsProducer.named f g (spelling.LimitedActual.limited act l)) s t, nx, p, c, b)

named_producer : (m : Module) (d : RuleDraft) (x : FileToken) (ls : List FileToken) (out : Module) → x.sign ≡ signs.Word → AtEquals m d ls out → InProduction m d (x ∷ ls) out
named_producer m d x ls out f (y, ys, is, g, h) = subst (λ l. InProduction m d (x ∷ l) out) (sym is) (named_first m d x y ys out f g h)

no_producer : (m : Module) (d : RuleDraft) (ls next : List FileToken) (p : Option Ref) (out : Module) → IsPrec ls next p → AfterProduction m (with_production d p) next out → InProduction m d ls out
no_producer m d ls next p out c b = (ls, d.producers, spelling.Producers.none, next, p, c, b)

fold_production : (m : Module) (r : Rule) (ks : List Alternative) (ls : List FileToken) (out : Module) → InProduction m (draft r ks []) ls out → InProductions m (draft r ks []) ls out
fold_production m r ks ls out (mid, ps, t, [], p, c, b) = absurd b
fold_production m r ks ls out (mid, ps, t, y ∷ ys, p, c, inl (e, g)) = (ys, ks ++ alternative ps p ∷ [], spelling.Productions.last t c e, g)
fold_production m r ks ls out (mid, ps, t, y ∷ ys, p, c, inr (e, (to, all, u, g))) = (to, all, spelling.Productions.more t c e u, g)

fold_groups : (m : Module) (r : Rule) (ls : List FileToken) (out : Module) → InProductions m (new_draft r) ls out → InGroups m r ls out
fold_groups m r ls out (mid, ks, t, (to, g, c, inl b)) = (to, r.alternatives ++ map (with_prec g) ks, spelling.Groups.last t c, b)
fold_groups m r ls out (mid, ks, t, (to, g, c, inr (y, ys, is, bar, (rest, all, u, b)))) =
    (rest, all, spelling.Groups.more t (subst (λ l. IsPrec mid l g) is c) bar u, b)

fold : (m : Module) (r : Rule) (ls : List FileToken) (out : Module) → InProduction m (new_draft r) ls out → InGroups m r ls out
fold m r ls out h = fold_groups m r ls out (fold_production m r [] ls out h)

-- Lemmas on actuals.

head_argument : (m : Module) (k : ActualPurpose) (ps : List OpenActual) (r : Ref) (x : FileToken) (xs : List FileToken) (out : Module) → ref_of x ≡ Some r → AtHead m k ps r xs out → Argument m k ps (x ∷ xs) out
head_argument m k ps r x xs out e (inl (mid, b, n, t, u)) = (mid, b, n, spelling.IsActual.actual (spelling.Unsuffixed.plain e) t, u)
head_argument m k ps r x xs out e (inr (y, ys, is, o, to, ks, n, args, (mid, b, f, t, u))) =
    subst (λ l. Argument m k ps (x ∷ l) out) (sym is) (mid, b, f, spelling.IsActual.actual (spelling.Unsuffixed.with_args e o args) t, u)

listed_argument : (m : Module) (b : Bool) (done : List Actual) (ls : List FileToken) (out : Module) → Argument m (purposes.Listed b done) [] ls out → AtItem m (lists.Actuals b done) ls out
listed_argument m b done ls out (mid, a, d, act, (l, h)) = (mid, a, spelling.LimitedActual.limited act l, h)

after_arguments : (m : Module) (k : ActualPurpose) (p : OpenActual) (ps : List OpenActual) (ls : List FileToken) (out : Module) → Argument m k (p ∷ ps) ls out →
    (mid : List FileToken) × (ks : List Actual) × (n : ℕ) × Args p.args p.depth ls mid ks n × AtSuffixes m k ps (applied p.head ks) (suc n) mid out
after_arguments m k p ps ls out ([], a, d, act, h) = absurd h
after_arguments m k p ps ls out (y ∷ ys, a, d, act, inl (e, mid, c, f, t, u)) = (ys, p.args ++ a ∷ [], max p.depth d, spelling.Args.last act e, (mid, c, f, t, u))
after_arguments m k p ps ls out (y ∷ ys, a, d, act, inr (e, nx, ks, n, args, mid, c, f, t, u)) = (nx, ks, n, spelling.Args.more act e args, (mid, c, f, t, u))

-- Lemmas on rules.

whole_rule : (m : Module) (x : FileToken) (ls xs : List FileToken) (p i : Bool) (out : Module) → Modifiers false false ls (x ∷ xs) p i → x.sign ≡ signs.Word → AtName m (named p i x.text) xs out → Rules m ls out
whole_rule m x ls xs p i out a e (mid, fs, f, (y, ys, is, c, (begun, b, (to, ks, g, (rest, s, h))))) =
    spelling.Rules.more (spelling.IsRule.rule a e (subst (λ l. OptionalFormals [] xs l fs) is f) c b g s) h

first_formal : (m : Module) (r : Rule) (x : FileToken) (xs : List FileToken) (out : Module) → x.sign ≡ signs.Word →
    (AtClose m (with_formal r x.text) xs out) ⊎ (AtComma m (with_formal r x.text) xs out) → InFormals m r (x ∷ xs) out
first_formal m r x xs out e (inl (y, ys, is, c, h)) = subst (λ l. InFormals m r (x ∷ l) out) (sym is) (ys, r.formals ++ x.text ∷ [], spelling.Formals.last e c, h)
first_formal m r x xs out e (inr (y, ys, is, c, (mid, fs, t, h))) = subst (λ l. InFormals m r (x ∷ l) out) (sym is) (mid, fs, spelling.Formals.more e c t, h)

open_formals : (m : Module) (r : Rule) (x : FileToken) (xs : List FileToken) (out : Module) → x.sign ≡ signs.Open → (AtClose m r xs out) ⊎ (InFormals m r xs out) → AtName m r (x ∷ xs) out
open_formals m r x xs out e (inl (y, ys, is, c, h)) = subst (λ l. AtName m r (x ∷ l) out) (sym is) (ys, r.formals, spelling.OptionalFormals.empty e c, h)
open_formals m r x xs out e (inr (mid, fs, t, h)) = (mid, fs, spelling.OptionalFormals.given e t, h)

declared_types : (m : Module) (x : FileToken) (ls : List FileToken) (out : Module) → x.sign ≡ signs.Type → Typed ls (λ xs. InList m (lists.Actuals false []) xs out) → File m (x ∷ ls) out
declared_types m x ls out e (y, ys, is, f, (mid, ks, t, h)) = subst (λ l. File m (x ∷ l) out) (sym is) (spelling.File.declared (spelling.Declaration.types e f t) h)

declared_parameter : (m : Module) (x : FileToken) (ls : List FileToken) (out : Module) → x.sign ≡ signs.Parameter → Typed ls (λ xs. File m xs out) → File m (x ∷ ls) out
declared_parameter m x ls out e (y, ys, is, f, h) = subst (λ l. File m (x ∷ l) out) (sym is) (spelling.File.declared (spelling.Declaration.parameter e f) h)

given_prec : (m : Module) (d : RuleDraft) (x : FileToken) (ls : List FileToken) (out : Module) → x.sign ≡ signs.Prec → Referring ls (λ r xs. AfterProduction m (with_production d (Some r)) xs out) → InProduction m d (x ∷ ls) out
given_prec m d x ls out e (y, ys, is, r, f, h) = subst (λ l. InProduction m d (x ∷ l) out) (sym is) (no_producer m d (x ∷ y ∷ ys) ys (Some r) out (spelling.IsPrec.given e f) h)

given_group : (m : Module) (d : RuleDraft) (x : FileToken) (ls : List FileToken) (out : Module) → x.sign ≡ signs.Prec → Referring ls (λ r xs. AfterGroup m (with_productions_of_prec d r) xs out) → AtGroup m d (x ∷ ls) out
given_group m d x ls out e (y, ys, is, r, f, h) = subst (λ l. AtGroup m d (x ∷ l) out) (sym is) (ys, Some r, spelling.IsPrec.given e f, h)

absent_group : (m : Module) (d : RuleDraft) (ls : List FileToken) (out : Module) → AfterGroup m (with_productions d) ls out → AtGroup m d ls out
absent_group m d ls out h = (ls, None, spelling.IsPrec.absent, subst (λ l. AfterGroup m (with_alternatives d.rule (d.rule.alternatives ++ l)) ls out) (sym (map-without_prec d.productions)) h)

last_percents : (m : Module) (x : FileToken) (ls : List FileToken) (out : Module) → x.sign ≡ signs.Percents → AtEnd m ls out → Rules m (x ∷ ls) out
last_percents m x ls out e (f, g) = subst (λ k. Rules m (x ∷ ls) k) (sym g) (subst (λ l. Rules m (x ∷ l) m) (sym f) (spelling.Rules.trailer e))

module _ (x : FileToken) (xs : List FileToken) (out : Module) where
  -- What the lexemes that are left have to spell for this state.
  abbrev Rest : Parser → Type 0
  Rest t = ParserSpells (parser_with_cost x.cost t) xs out

  back_declare : (m : Module) (g : TokenKind) → x.sign ≡ g → Stepped (machine.declare m g) Rest → File m (x ∷ xs) out
  back_declare m signs.Header e h = spelling.File.declared (spelling.Declaration.header e) h
  back_declare m signs.Semicolon e h = spelling.File.declared (spelling.Declaration.semicolon e) h
  back_declare m signs.Token e (mid, o, (rest, ks, t, f)) = spelling.File.declared (spelling.Declaration.tokens e o t) f
  back_declare m signs.Start e (mid, o, (rest, ks, t, f)) = spelling.File.declared (spelling.Declaration.starts e o t) f
  back_declare m signs.Type e h = declared_types m x xs out e h
  back_declare m (signs.Level g) e (rest, ks, t, f) = spelling.File.declared (spelling.Declaration.levels e t) f
  back_declare m signs.OnErrorReduce e (rest, ks, t, f) = spelling.File.declared (spelling.Declaration.on_error e t) f
  back_declare m signs.Parameter e h = declared_parameter m x xs out e h
  back_declare m signs.Attribute e (rest, ks, t, f) = spelling.File.declared (spelling.Declaration.attribute e t) f
  back_declare m signs.Percents e h = spelling.File.ruled e h
  back_declare m _ e h = absurd h

  back_token_name : (m : Module) (b : Bool) → x.sign ≡ signs.Word → is_capital x.text ≡ b → Stepped (machine.token_if_capital m b x.text) Rest → AtItem m lists.Tokens (x ∷ xs) out
  back_token_name m true e f (mid, o, c, a, h) = (mid, token_of x.text o (option_or x.cost c), spelling.IsTokenItem.token e f a, h)
  back_token_name m false e f h = absurd h

  back_word : (m : Module) (l : OpenList) → x.sign ≡ signs.Word → Stepped (machine.list_word m l x.text) Rest → AtItem m l (x ∷ xs) out
  back_word m lists.Tokens e h = back_token_name m (is_capital x.text) e refl h
  back_word m lists.Starts e h = (xs, x.text, spelling.IsWordItem.word e, h)
  back_word m (lists.Levels g done) e h = (xs, Plain x.text, spelling.IsRef.reference (rw e refl), h)
  back_word m (lists.Actuals b done) e h = listed_argument m b done (x ∷ xs) out (head_argument m (purposes.Listed b done) [] (Plain x.text) x xs out (rw e refl) h)

  back_quoted : (m : Module) (l : OpenList) → x.sign ≡ signs.Quoted → Stepped (machine.list_quoted m l x.text) Rest → AtItem m l (x ∷ xs) out
  back_quoted m lists.Tokens e h = absurd h
  back_quoted m lists.Starts e h = absurd h
  back_quoted m (lists.Levels g done) e h = (xs, Alias x.text, spelling.IsRef.reference (rw e refl), h)
  back_quoted m (lists.Actuals b done) e h = listed_argument m b done (x ∷ xs) out (head_argument m (purposes.Listed b done) [] (Alias x.text) x xs out (rw e refl) h)

  back_items : (m : Module) (l : OpenList) (g : TokenKind) → x.sign ≡ g → Stepped (machine.at_items m l g x.text) Rest → InList m l (x ∷ xs) out
  back_items m l signs.Word e h = item_next m l (x ∷ xs) out (back_word m l e h)
  back_items m l signs.Quoted e h = item_next m l (x ∷ xs) out (back_quoted m l e h)
  back_items m l signs.Comma e h = item_comma m l x xs out e h
  back_items m l g e h = no_item m l (x ∷ xs) out (back_declare (close m l) g e h)

  back_comma : (m : Module) (l : OpenList) (g : TokenKind) → x.sign ≡ g → Stepped (machine.at_comma m l g x.text) Rest → AtItem m l (x ∷ xs) out
  back_comma m l signs.Word e h = back_word m l e h
  back_comma m l signs.Quoted e h = back_quoted m l e h
  back_comma m l _ e h = absurd h

  back_opening : (m : Module) (l : OpenList) (g : TokenKind) → x.sign ≡ g → Stepped (machine.at_list_start m l g x.text) Rest → AfterKeyword m l (x ∷ xs) out
  back_opening m l signs.TypeText e h = (xs, spelling.OptionalType.given e, h)
  back_opening m l g e h = (x ∷ xs, spelling.OptionalType.absent, back_items m l g e h)

  back_type : (m : Module) (g : TokenKind) → x.sign ≡ g → Stepped (machine.at_type m g) Rest → Typed (x ∷ xs) (λ ys. InList m (lists.Actuals false []) ys out)
  back_type m signs.TypeText e h = (x, xs, refl, e, h)
  back_type m _ e h = absurd h

  back_parameter : (m : Module) (g : TokenKind) → x.sign ≡ g → Stepped (machine.at_parameter m g) Rest → Typed (x ∷ xs) (λ ys. File m ys out)
  back_parameter m signs.TypeText e h = (x, xs, refl, e, h)
  back_parameter m _ e h = absurd h

  back_token : (m : Module) (name : List ℕ) (c : Option ℕ) (g : TokenKind) → x.sign ≡ g → Stepped (machine.at_token m name c g x.text) Rest → AtAlias m name c (x ∷ xs) out
  back_token m name c signs.Quoted e h = (xs, Some x.text, x.cost, spelling.IsAlias.given e, h)
  back_token m name c g e h = (
    x ∷ xs,
    None,
    None,
    spelling.IsAlias.absent,
    subst (λ d. InList (with_token m (token_of name None d)) lists.Tokens (x ∷ xs) out) (sym (option_or-none c)) (back_items (with_token m (token_of name None c)) lists.Tokens g e h),
  )

  back_rules : (m : Module) (g : TokenKind) → x.sign ≡ g → Stepped (machine.in_rules m g x.text) Rest → Rules m (x ∷ xs) out
  back_rules m signs.Word e h = whole_rule m x (x ∷ xs) xs false false out spelling.Modifiers.none e h
  back_rules m signs.Public e (y, ys, q, j, a, f, h) = whole_rule m y (x ∷ xs) ys q j out (spelling.Modifiers.public e a) f h
  back_rules m signs.Inline e (y, ys, q, j, a, f, h) = whole_rule m y (x ∷ xs) ys q j out (spelling.Modifiers.inlined e a) f h
  back_rules m signs.Percents e h = last_percents m x xs out e h
  back_rules m _ e h = absurd h

  back_modified : (m : Module) (p i : Bool) (g : TokenKind) → x.sign ≡ g → Stepped (machine.at_modified m p i g x.text) Rest → InModifiers m p i (x ∷ xs) out
  back_modified m p i signs.Word e h = (x, xs, p, i, spelling.Modifiers.none, e, h)
  back_modified m p i signs.Public e (y, ys, q, j, a, f, h) = (y, ys, q, j, spelling.Modifiers.public e a, f, h)
  back_modified m p i signs.Inline e (y, ys, q, j, a, f, h) = (y, ys, q, j, spelling.Modifiers.inlined e a, f, h)
  back_modified m p i _ e h = absurd h

  back_rule_named : (m : Module) (r : Rule) (g : TokenKind) → x.sign ≡ g → Stepped (machine.at_rule_named m r g) Rest → AtName m r (x ∷ xs) out
  back_rule_named m r signs.Open e h = open_formals m r x xs out e h
  back_rule_named m r signs.Colon e h = (x ∷ xs, r.formals, spelling.OptionalFormals.absent, (x, xs, refl, e, h))
  back_rule_named m r _ e h = absurd h

  back_formals_open : (m : Module) (r : Rule) (g : TokenKind) → x.sign ≡ g → Stepped (machine.at_formals_open m r g x.text) Rest → (AtClose m r (x ∷ xs) out) ⊎ (InFormals m r (x ∷ xs) out)
  back_formals_open m r signs.Word e h = inr (first_formal m r x xs out e h)
  back_formals_open m r signs.Close e h = inl (x, xs, refl, e, h)
  back_formals_open m r _ e h = absurd h

  back_formal_read : (m : Module) (r : Rule) (g : TokenKind) → x.sign ≡ g → Stepped (machine.at_formal_read m r g) Rest → (AtClose m r (x ∷ xs) out) ⊎ (AtComma m r (x ∷ xs) out)
  back_formal_read m r signs.Comma e h = inr (x, xs, refl, e, h)
  back_formal_read m r signs.Close e h = inl (x, xs, refl, e, h)
  back_formal_read m r _ e h = absurd h

  back_formal_comma : (m : Module) (r : Rule) (g : TokenKind) → x.sign ≡ g → Stepped (machine.at_formal_comma m r g x.text) Rest → InFormals m r (x ∷ xs) out
  back_formal_comma m r signs.Word e h = first_formal m r x xs out e h
  back_formal_comma m r _ e h = absurd h

  back_formals_closed : (m : Module) (r : Rule) (g : TokenKind) → x.sign ≡ g → Stepped (machine.at_formals_closed m r g) Rest → AtColon m r (x ∷ xs) out
  back_formals_closed m r signs.Colon e h = (x, xs, refl, e, h)
  back_formals_closed m r _ e h = absurd h

  back_production : (m : Module) (d : RuleDraft) (g : TokenKind) → x.sign ≡ g → Stepped (machine.in_production m d g x.text) Rest → InProduction m d (x ∷ xs) out
  back_production m d signs.Word e (inl h) = unnamed_first m d (x ∷ xs) out (head_argument m (purposes.Producer d) [] (Plain x.text) x xs out (rw e refl) h)
  back_production m d signs.Word e (inr h) = named_producer m d x xs out e h
  back_production m d signs.Quoted e h = unnamed_first m d (x ∷ xs) out (head_argument m (purposes.Producer d) [] (Alias x.text) x xs out (rw e refl) h)
  back_production m d signs.Prec e h = given_prec m d x xs out e h
  back_production m d signs.Bar e h =
      no_producer m d (x ∷ xs) (x ∷ xs) None out spelling.IsPrec.absent (inr (e, fold_production m d.rule (d.productions ++ alternative d.producers None ∷ []) xs out h))
  back_production m d signs.Action e h = no_producer m d (x ∷ xs) (x ∷ xs) None out spelling.IsPrec.absent (inl (e, h))
  back_production m d _ e h = absurd h

  begin_cases : (m : Module) (r : Rule) (g : TokenKind) → Stepped (machine.at_begin m r g x.text) Rest →
      ((g ≡ signs.Bar) × InProduction m (new_draft r) xs out) ⊎ ((is_bar g ≡ false) × Stepped (machine.in_production m (new_draft r) g x.text) Rest)
  begin_cases m r signs.Bar h = inl (refl, h)
  begin_cases m r _ h = inr (refl, h)

  back_begin : (m : Module) (r : Rule) → Stepped (machine.at_begin m r x.sign x.text) Rest → AfterColon m r (x ∷ xs) out
  back_begin m r h = elim (begin_cases m r x.sign h) [
    | inl w ↦ (xs, spelling.OptionalBar.given w.0, fold m r xs out w.1)
    | inr w ↦ (x ∷ xs, spelling.OptionalBar.absent w.0, fold m r (x ∷ xs) out (back_production m (new_draft r) x.sign refl w.1))
  ]

  back_spaced : (m : Module) (d : RuleDraft) (g : TokenKind) → x.sign ≡ g → Stepped (machine.after_producer m d g x.text) Rest → Spaced m d (x ∷ xs) out
  back_spaced m d signs.Semicolon e (next, s, h) = (next, spelling.Semicolons.more e s, h)
  back_spaced m d g e h = (x ∷ xs, spelling.Semicolons.none, back_production m d g e h)

  back_prec : (m : Module) (d : RuleDraft) (o : Option Ref) → ref_of x ≡ o → Stepped (machine.at_prec m d o) Rest → Referring (x ∷ xs) (λ r ys. AfterProduction m (with_production d (Some r)) ys out)
  back_prec m d None e h = absurd h
  back_prec m d (Some r) e h = (x, xs, refl, r, e, h)

  back_closed : (m : Module) (d : RuleDraft) (g : TokenKind) → x.sign ≡ g → Stepped (machine.after_prec m d g) Rest → AfterProduction m d (x ∷ xs) out
  back_closed m d signs.Bar e h = inr (e, fold_production m d.rule d.productions xs out h)
  back_closed m d signs.Action e h = inl (e, h)
  back_closed m d _ e h = absurd h

  after_group_spells : (m : Module) (r : Rule) (g : TokenKind) → x.sign ≡ g → Stepped (machine.after_group m r g x.text) Rest → AfterGroup m r (x ∷ xs) out
  after_group_spells m r signs.Bar e h = inr (x, xs, refl, e, fold m r xs out h)
  after_group_spells m r signs.Semicolon e (rest, s, h) = inl (rest, spelling.Semicolons.more e s, h)
  after_group_spells m r g e h = inl (x ∷ xs, spelling.Semicolons.none, back_rules (with_rule m r) g e h)

  back_group : (m : Module) (d : RuleDraft) (g : TokenKind) → x.sign ≡ g → Stepped (machine.at_group m d g x.text) Rest → AtGroup m d (x ∷ xs) out
  back_group m d signs.Prec e h = given_group m d x xs out e h
  back_group m d g e h = absent_group m d (x ∷ xs) out (after_group_spells m (with_productions d) g e h)

  back_group_prec : (m : Module) (d : RuleDraft) (o : Option Ref) → ref_of x ≡ o → Stepped (machine.at_group_prec m d o) Rest → Referring (x ∷ xs) (λ r ys. AfterGroup m (with_productions_of_prec d r) ys out)
  back_group_prec m d None e h = absurd h
  back_group_prec m d (Some r) e h = (x, xs, refl, r, e, h)

  back_rule_end : (m : Module) (g : TokenKind) → x.sign ≡ g → Stepped (machine.at_rule_end m g x.text) Rest → (rest : List FileToken) × Semicolons (x ∷ xs) rest × Rules m rest out
  back_rule_end m signs.Semicolon e (rest, s, h) = (rest, spelling.Semicolons.more e s, h)
  back_rule_end m g e h = (x ∷ xs, spelling.Semicolons.none, back_rules m g e h)

  back_whole : (m : Module) (k : ActualPurpose) (a : Actual) (g : TokenKind) → x.sign ≡ g → Stepped (machine.after_whole m k a g x.text) Rest → AfterWhole m k a (x ∷ xs) out
  back_whole m (purposes.Producer d) a g e h = back_spaced m (with_producer d a) g e h
  back_whole m (purposes.Listed b ks) a g e h = back_items m (lists.Actuals b (ks ++ a ∷ [])) g e h

  back_within : (m : Module) (k : ActualPurpose) (p : OpenActual) (ps : List OpenActual) (a : Actual) (d : ℕ) (g : TokenKind) → x.sign ≡ g → Stepped (machine.after_argument m k p ps a d g) Rest → AfterActual m k (p ∷ ps) a d (x ∷ xs) out
  back_within m k p ps a d signs.Comma e h = let v = after_arguments m k (with_argument p a d) ps xs out h in inr (e, v.0, v.1, v.2, v.3, v.4.0, v.4.1, v.4.2, v.4.3, v.4.4)
  back_within m k p ps a d signs.Close e (mid, c, f, t, u) = inl (e, mid, c, f, t, u)
  back_within m k p ps a d _ e h = absurd h

  back_above : (m : Module) (k : ActualPurpose) (ps : List OpenActual) (a : Actual) (d : ℕ) → d + length ps ≤ 1000 → Stepped (machine.after_suffixes m k ps a d x.sign x.text) Rest → AfterActual m k ps a d (x ∷ xs) out
  back_above m k [] a d l h = (omega arith, back_whole m k a x.sign refl h)
  back_above m k (p ∷ ps) a d l h = back_within m k p ps a d x.sign refl h

  back_deeper : (m : Module) (k : ActualPurpose) (ps : List OpenActual) (a : Actual) (d : ℕ) (b : Bool) (n : List ℕ) → suffix_of x.sign ≡ Some n → Stepped (machine.with_suffix_if_fits m k ps a d b n) Rest → AtSuffixes m k ps a d (x ∷ xs) out
  back_deeper m k ps a d true n e (mid, c, f, t, u) = (mid, c, f, spelling.Suffixed.suffix e t, u)
  back_deeper m k ps a d false n e h = absurd h

  back_suffixed : (m : Module) (k : ActualPurpose) (ps : List OpenActual) (a : Actual) (d : ℕ) (o : Option (List ℕ)) → d + length ps ≤ 1000 → suffix_of x.sign ≡ o →
      Stepped (machine.at_optional_suffix m k ps a d o x.sign x.text) Rest → AtSuffixes m k ps a d (x ∷ xs) out
  back_suffixed m k ps a d None l e h = (x ∷ xs, a, d, spelling.Suffixed.bare, back_above m k ps a d l h)
  back_suffixed m k ps a d (Some n) l e h = back_deeper m k ps a d (fits_in_depth (suc d) ps) n e h

  back_after : (m : Module) (k : ActualPurpose) (ps : List OpenActual) (a : Actual) (d : ℕ) → d + length ps ≤ 1000 → Stepped (machine.after_actual m k ps a d x.sign x.text) Rest → AtSuffixes m k ps a d (x ∷ xs) out
  back_after m k ps a d l h = back_suffixed m k ps a d (suffix_of x.sign) l refl h

  back_opened : (m : Module) (k : ActualPurpose) (ps : List OpenActual) (r : Ref) (b : Bool) → Stepped (machine.with_bracket_if_fits m k ps r b) Rest → Argument m k (record { head = r; args = []; depth = 0 } ∷ ps) xs out
  back_opened m k ps r true h = h
  back_opened m k ps r false h = absurd h

  head_cases : (m : Module) (k : ActualPurpose) (ps : List OpenActual) (r : Ref) (g : TokenKind) → Stepped (machine.at_head m k ps r g x.text) Rest →
      ((g ≡ signs.Open) × Argument m k (record { head = r; args = []; depth = 0 } ∷ ps) xs out) ⊎ Stepped (machine.after_actual m k ps (applied r []) 1 g x.text) Rest
  head_cases m k ps r signs.Open h = inl (refl, back_opened m k ps r (fits_in_depth 2 ps) h)
  head_cases m k ps r _ h = inr h

  back_head : (m : Module) (k : ActualPurpose) (ps : List OpenActual) (r : Ref) → 1 + length ps ≤ 1000 → Stepped (machine.at_head m k ps r x.sign x.text) Rest → AtHead m k ps r (x ∷ xs) out
  back_head m k ps r l h = elim (head_cases m k ps r x.sign h) [
    | inl w ↦ (let v = after_arguments m k (record { head = r; args = []; depth = 0 }) ps xs out w.1 in inr (x, xs, refl, w.0, v.0, v.1, v.2, v.3, v.4))
    | inr w ↦ inl (back_after m k ps (applied r []) 1 l w)
  ]

  named_cases : (m : Module) (d : RuleDraft) (name : List ℕ) (g : TokenKind) → Stepped (machine.at_named m d name g x.text) Rest →
      ((g ≡ signs.Equals) × Argument m (purposes.Producer d) [] xs out) ⊎ Stepped (machine.at_head m (purposes.Producer d) [] (Plain name) g x.text) Rest
  named_cases m d name signs.Equals h = inl (refl, h)
  named_cases m d name _ h = inr h

  back_named : (m : Module) (d : RuleDraft) (name : List ℕ) → Stepped (machine.at_named m d name x.sign x.text) Rest → AtNamed m d name (x ∷ xs) out
  back_named m d name h = elim (named_cases m d name x.sign h) [
    | inl w ↦ inr (x, xs, refl, w.0, w.1)
    | inr w ↦ inl (back_head m (purposes.Producer d) [] (Plain name) (omega arith) w)
  ]

  back_argument : (m : Module) (k : ActualPurpose) (ps : List OpenActual) (o : Option Ref) → ref_of x ≡ o → Stepped (machine.at_argument m k ps o) Rest → Argument m k ps (x ∷ xs) out
  back_argument m k ps None e h = absurd h
  back_argument m k ps (Some r) e h = head_argument m k ps r x xs out e h

  back_at : (p : ParserState) (m : Module) → IsStateShallow p → Stepped (next_at m p x.sign x.text) Rest → StateSpells p m (x ∷ xs) out
  unfolding next_at
  back_at places.Declarations m l h = back_declare m x.sign refl h
  back_at (places.Opening k) m l h = back_opening m k x.sign refl h
  back_at places.TypeOf m l h = back_type m x.sign refl h
  back_at (places.Items k) m l h = back_items m k x.sign refl h
  back_at (places.Comma k) m l h = back_comma m k x.sign refl h
  back_at (places.TokenNamed name c) m l h = back_token m name c x.sign refl h
  back_at (places.TokenAliased t) m l h = back_items (with_token m t) lists.Tokens x.sign refl h
  back_at places.ParameterType m l h = back_parameter m x.sign refl h
  back_at places.Rules m l h = back_rules m x.sign refl h
  back_at (places.Modified p i) m l h = back_modified m p i x.sign refl h
  back_at (places.RuleNamed r) m l h = back_rule_named m r x.sign refl h
  back_at (places.FormalsOpen r) m l h = back_formals_open m r x.sign refl h
  back_at (places.FormalRead r) m l h = back_formal_read m r x.sign refl h
  back_at (places.FormalComma r) m l h = back_formal_comma m r x.sign refl h
  back_at (places.FormalsClosed r) m l h = back_formals_closed m r x.sign refl h
  back_at (places.Begin r) m l h = back_begin m r h
  back_at (places.Production d) m l h = back_production m d x.sign refl h
  back_at (places.Spaced d) m l h = back_spaced m d x.sign refl h
  back_at (places.Named d name) m l h = back_named m d name h
  back_at (places.Argument k ps) m l h = back_argument m k ps (ref_of x) refl h
  back_at (places.Head k ps r) m l h = back_head m k ps r l.0 h
  back_at (places.After k ps a d) m l h = back_after m k ps a d l.1 h
  back_at (places.Prec d) m l h = back_prec m d (ref_of x) refl h
  back_at (places.Closed d) m l h = back_closed m d x.sign refl h
  back_at (places.Group d) m l h = back_group m d x.sign refl h
  back_at (places.GroupPrec d) m l h = back_group_prec m d (ref_of x) refl h
  back_at (places.GroupClosed r) m l h = after_group_spells m r x.sign refl h
  back_at places.RuleEnd m l h = back_rule_end m x.sign refl h
  back_at places.Ended m l h = absurd h

-- Lemmas on the limit of depth.

abbrev pub Safe : Option Parser → Type 0
Safe None = Unit {0}
Safe (Some t) = IsStateShallow t.place

declare_safe : (m : Module) (g : TokenKind) → Safe (machine.declare m g)
declare_safe m signs.Header = tt
declare_safe m _ = tt

named_token_safe : (m : Module) (b : Bool) (text : List ℕ) → Safe (machine.token_if_capital m b text)
named_token_safe m true text = tt
named_token_safe m false text = tt

word_safe : (m : Module) (l : OpenList) (text : List ℕ) → Safe (machine.list_word m l text)
word_safe m lists.Tokens text = named_token_safe m (is_capital text) text
word_safe m lists.Starts text = tt
word_safe m (lists.Levels g done) text = tt
word_safe m (lists.Actuals b done) text = (omega arith, tt)

quoted_safe : (m : Module) (l : OpenList) (text : List ℕ) → Safe (machine.list_quoted m l text)
quoted_safe m lists.Tokens text = tt
quoted_safe m lists.Starts text = tt
quoted_safe m (lists.Levels g done) text = tt
quoted_safe m (lists.Actuals b done) text = (omega arith, tt)

items_safe : (m : Module) (l : OpenList) (g : TokenKind) (text : List ℕ) → Safe (machine.at_items m l g text)
items_safe m l signs.Word text = word_safe m l text
items_safe m l signs.Quoted text = quoted_safe m l text
items_safe m l signs.Comma text = tt
items_safe m l g text = declare_safe (close m l) g

comma_safe : (m : Module) (l : OpenList) (g : TokenKind) (text : List ℕ) → Safe (machine.at_comma m l g text)
comma_safe m l signs.Word text = word_safe m l text
comma_safe m l signs.Quoted text = quoted_safe m l text
comma_safe m l _ text = tt

opening_safe : (m : Module) (l : OpenList) (g : TokenKind) (text : List ℕ) → Safe (machine.at_list_start m l g text)
opening_safe m l signs.TypeText text = tt
opening_safe m l g text = items_safe m l g text

type_safe : (m : Module) (g : TokenKind) → Safe (machine.at_type m g)
type_safe m signs.TypeText = tt
type_safe m _ = tt

parameter_safe : (m : Module) (g : TokenKind) → Safe (machine.at_parameter m g)
parameter_safe m signs.TypeText = tt
parameter_safe m _ = tt

token_safe : (m : Module) (name : List ℕ) (c : Option ℕ) (g : TokenKind) (text : List ℕ) → Safe (machine.at_token m name c g text)
token_safe m name c signs.Quoted text = tt
token_safe m name c g text = items_safe (with_token m (token_of name None c)) lists.Tokens g text

rules_safe : (m : Module) (g : TokenKind) (text : List ℕ) → Safe (machine.in_rules m g text)
rules_safe m signs.Word text = tt
rules_safe m _ text = tt

modified_safe : (m : Module) (p i : Bool) (g : TokenKind) (text : List ℕ) → Safe (machine.at_modified m p i g text)
modified_safe m p i signs.Word text = tt
modified_safe m p i _ text = tt

rule_named_safe : (m : Module) (r : Rule) (g : TokenKind) → Safe (machine.at_rule_named m r g)
rule_named_safe m r signs.Open = tt
rule_named_safe m r _ = tt

formals_open_safe : (m : Module) (r : Rule) (g : TokenKind) (text : List ℕ) → Safe (machine.at_formals_open m r g text)
formals_open_safe m r signs.Word text = tt
formals_open_safe m r _ text = tt

formal_read_safe : (m : Module) (r : Rule) (g : TokenKind) → Safe (machine.at_formal_read m r g)
formal_read_safe m r signs.Comma = tt
formal_read_safe m r _ = tt

formal_comma_safe : (m : Module) (r : Rule) (g : TokenKind) (text : List ℕ) → Safe (machine.at_formal_comma m r g text)
formal_comma_safe m r signs.Word text = tt
formal_comma_safe m r _ text = tt

formals_closed_safe : (m : Module) (r : Rule) (g : TokenKind) → Safe (machine.at_formals_closed m r g)
formals_closed_safe m r signs.Colon = tt
formals_closed_safe m r _ = tt

production_safe : (m : Module) (d : RuleDraft) (g : TokenKind) (text : List ℕ) → Safe (machine.in_production m d g text)
production_safe m d signs.Quoted text = (omega arith, tt)
production_safe m d _ text = tt

begin_safe : (m : Module) (r : Rule) (g : TokenKind) (text : List ℕ) → Safe (machine.at_begin m r g text)
begin_safe m r signs.Bar text = tt
begin_safe m r g text = production_safe m (new_draft r) g text

spaced_safe : (m : Module) (d : RuleDraft) (g : TokenKind) (text : List ℕ) → Safe (machine.after_producer m d g text)
spaced_safe m d signs.Semicolon text = tt
spaced_safe m d g text = production_safe m d g text

prec_safe : (m : Module) (d : RuleDraft) (o : Option Ref) → Safe (machine.at_prec m d o)
prec_safe m d None = tt
prec_safe m d (Some r) = tt

closed_safe : (m : Module) (d : RuleDraft) (g : TokenKind) → Safe (machine.after_prec m d g)
closed_safe m d signs.Bar = tt
closed_safe m d _ = tt

after_group-shallow : (m : Module) (r : Rule) (g : TokenKind) (text : List ℕ) → Safe (machine.after_group m r g text)
after_group-shallow m r signs.Bar text = tt
after_group-shallow m r signs.Semicolon text = tt
after_group-shallow m r g text = rules_safe (with_rule m r) g text

group_safe : (m : Module) (d : RuleDraft) (g : TokenKind) (text : List ℕ) → Safe (machine.at_group m d g text)
group_safe m d signs.Prec text = tt
group_safe m d g text = after_group-shallow m (with_productions d) g text

group_prec_safe : (m : Module) (d : RuleDraft) (o : Option Ref) → Safe (machine.at_group_prec m d o)
group_prec_safe m d None = tt
group_prec_safe m d (Some r) = tt

rule_end_safe : (m : Module) (g : TokenKind) (text : List ℕ) → Safe (machine.at_rule_end m g text)
rule_end_safe m signs.Semicolon text = tt
rule_end_safe m g text = rules_safe m g text

whole_safe : (m : Module) (k : ActualPurpose) (a : Actual) (g : TokenKind) (text : List ℕ) → Safe (machine.after_whole m k a g text)
whole_safe m (purposes.Producer d) a g text = spaced_safe m (with_producer d a) g text
whole_safe m (purposes.Listed b ks) a g text = items_safe m (lists.Actuals b (ks ++ a ∷ [])) g text

max_within : (a b n : ℕ) → a + n ≤ 1000 → b + n ≤ 1000 → max a b + n ≤ 1000
max_within a b n h k = let both : max a b ≤ 1000 - n = max-le (omega arith) (omega arith) in omega arith

within_safe : (m : Module) (k : ActualPurpose) (p : OpenActual) (ps : List OpenActual) (a : Actual) (d : ℕ) (g : TokenKind) → 1 ≤ d → d + length (p ∷ ps) ≤ 1000 → AreOpenShallow (p ∷ ps) → Safe (machine.after_argument m k p ps a d g)
within_safe m k p ps a d signs.Comma o l (deep, below) = (omega arith, (max_within p.depth d (length (p ∷ ps)) deep l, below))
within_safe m k p ps a d signs.Close o l (deep, below) = let most = max_within p.depth d (length (p ∷ ps)) deep l in (omega arith, omega arith, below)
within_safe m k p ps a d _ o l h = tt

above_safe : (m : Module) (k : ActualPurpose) (ps : List OpenActual) (a : Actual) (d : ℕ) (g : TokenKind) (text : List ℕ) → 1 ≤ d → d + length ps ≤ 1000 → AreOpenShallow ps → Safe (machine.after_suffixes m k ps a d g text)
above_safe m k [] a d g text o l h = whole_safe m k a g text
above_safe m k (p ∷ ps) a d g text o l h = within_safe m k p ps a d g o l h

deeper_safe : (m : Module) (k : ActualPurpose) (ps : List OpenActual) (a : Actual) (d : ℕ) (b : Bool) (n : List ℕ) → fits_in_depth (suc d) ps ≡ b → AreOpenShallow ps → Safe (machine.with_suffix_if_fits m k ps a d b n)
deeper_safe m k ps a d true n e h = let room : suc d + length ps ≤ 1000 = leb-true _ _ e in (omega arith, room, h)
deeper_safe m k ps a d false n e h = tt

suffixed_safe : (m : Module) (k : ActualPurpose) (ps : List OpenActual) (a : Actual) (d : ℕ) (o : Option (List ℕ)) (g : TokenKind) (text : List ℕ) → 1 ≤ d → d + length ps ≤ 1000 → AreOpenShallow ps → Safe (machine.at_optional_suffix m k ps a d o g text)
suffixed_safe m k ps a d None g text o l h = above_safe m k ps a d g text o l h
suffixed_safe m k ps a d (Some n) g text o l h = deeper_safe m k ps a d (fits_in_depth (suc d) ps) n refl h

opened_safe : (m : Module) (k : ActualPurpose) (ps : List OpenActual) (r : Ref) (b : Bool) → fits_in_depth 2 ps ≡ b → AreOpenShallow ps → Safe (machine.with_bracket_if_fits m k ps r b)
opened_safe m k ps r true e h = let room : 2 + length ps ≤ 1000 = leb-true _ _ e in (omega arith, (omega arith, h))
opened_safe m k ps r false e h = tt

head_safe : (m : Module) (k : ActualPurpose) (ps : List OpenActual) (r : Ref) (g : TokenKind) (text : List ℕ) → 1 + length ps ≤ 1000 → AreOpenShallow ps → Safe (machine.at_head m k ps r g text)
head_safe m k ps r signs.Open text l h = opened_safe m k ps r (fits_in_depth 2 ps) refl h
head_safe m k ps r g text l h = suffixed_safe m k ps (applied r []) 1 (suffix_of g) g text (omega arith) l h

named_safe : (m : Module) (d : RuleDraft) (name : List ℕ) (g : TokenKind) (text : List ℕ) → Safe (machine.at_named m d name g text)
named_safe m d name signs.Equals text = (omega arith, tt)
named_safe m d name g text = head_safe m (purposes.Producer d) [] (Plain name) g text (omega arith) tt

argument_safe : (m : Module) (k : ActualPurpose) (ps : List OpenActual) (o : Option Ref) → 1 + length ps ≤ 1000 → AreOpenShallow ps → Safe (machine.at_argument m k ps o)
argument_safe m k ps None l h = tt
argument_safe m k ps (Some r) l h = (l, h)

pub next_at_shallow : (p : ParserState) (m : Module) (g : TokenKind) (text : List ℕ) → IsStateShallow p → Safe (next_at m p g text)
unfolding next_at
next_at_shallow places.Declarations m g text l = declare_safe m g
next_at_shallow (places.Opening k) m g text l = opening_safe m k g text
next_at_shallow places.TypeOf m g text l = type_safe m g
next_at_shallow (places.Items k) m g text l = items_safe m k g text
next_at_shallow (places.Comma k) m g text l = comma_safe m k g text
next_at_shallow (places.TokenNamed name c) m g text l = token_safe m name c g text
next_at_shallow (places.TokenAliased t) m g text l = items_safe (with_token m t) lists.Tokens g text
next_at_shallow places.ParameterType m g text l = parameter_safe m g
next_at_shallow places.Rules m g text l = rules_safe m g text
next_at_shallow (places.Modified p i) m g text l = modified_safe m p i g text
next_at_shallow (places.RuleNamed r) m g text l = rule_named_safe m r g
next_at_shallow (places.FormalsOpen r) m g text l = formals_open_safe m r g text
next_at_shallow (places.FormalRead r) m g text l = formal_read_safe m r g
next_at_shallow (places.FormalComma r) m g text l = formal_comma_safe m r g text
next_at_shallow (places.FormalsClosed r) m g text l = formals_closed_safe m r g
next_at_shallow (places.Begin r) m g text l = begin_safe m r g text
next_at_shallow (places.Production d) m g text l = production_safe m d g text
next_at_shallow (places.Spaced d) m g text l = spaced_safe m d g text
next_at_shallow (places.Named d name) m g text l = named_safe m d name g text
next_at_shallow (places.Argument k ps) m g text l = argument_safe m k ps (ref_by g text) l.0 l.1
next_at_shallow (places.Head k ps r) m g text l = head_safe m k ps r g text l.0 l.1
next_at_shallow (places.After k ps a d) m g text l = suffixed_safe m k ps a d (suffix_of g) g text l.0 l.1 l.2
next_at_shallow (places.Prec d) m g text l = prec_safe m d (ref_by g text)
next_at_shallow (places.Closed d) m g text l = closed_safe m d g
next_at_shallow (places.Group d) m g text l = group_safe m d g text
next_at_shallow (places.GroupPrec d) m g text l = group_prec_safe m d (ref_by g text)
next_at_shallow (places.GroupClosed r) m g text l = after_group-shallow m r g text
next_at_shallow places.RuleEnd m g text l = rule_end_safe m g text
next_at_shallow places.Ended m g text l = tt

-- Lemmas on whole files.

finished : (p : ParserState) (m out : Module) → finish_at m p ≡ Some out → StateSpells p m [] out
unfolding finish_at
finished places.Rules m out e = subst (λ k. Rules m [] k) (same_Some m out e) spelling.Rules.none
finished (places.Group d) m out e =
    absent_group m d [] out (inl ([], spelling.Semicolons.none, subst (λ k. Rules (with_rule m (with_productions d)) [] k) (same_Some (with_rule m (with_productions d)) out e) spelling.Rules.none))
finished (places.GroupClosed r) m out e = inl ([], spelling.Semicolons.none, subst (λ k. Rules (with_rule m r) [] k) (same_Some (with_rule m r) out e) spelling.Rules.none)
finished places.RuleEnd m out e = ([], spelling.Semicolons.none, subst (λ k. Rules m [] k) (same_Some m out e) spelling.Rules.none)
finished places.Ended m out e = (refl, sym (same_Some m out e))
finished _ m out e = cc

reads : (o : Option Parser) (c : Option ℕ) (xs : List FileToken) (out : Module) → go_on o (λ t. run (parser_with_cost c t) xs) ≡ Some out → Stepped o (λ t. run (parser_with_cost c t) xs ≡ Some out)
reads None c xs out e = cc
reads (Some t) c xs out e = e

-- A cost counts only after a token.
pub costed_place-other : (c : Option ℕ) (p : ParserState) → ((name : List ℕ) (d : Option ℕ) → p ≡ places.TokenNamed name d → ⊥) → ((t : TokenDecl) → p ≡ places.TokenAliased t → ⊥) → state_with_cost c p ≡ p
costed_place-other c (places.TokenNamed name d) a b = absurd (a name d refl)
costed_place-other c (places.TokenAliased t) a b = absurd (b t refl)
costed_place-other c _ a b = refl

-- A cost makes no actual deeper.
pub costed_shallow : (c : Option ℕ) (p : ParserState) → IsStateShallow p → IsStateShallow (state_with_cost c p)
costed_shallow c (places.TokenNamed name d) h = tt
costed_shallow c (places.TokenAliased t) h = tt
costed_shallow c _ h = h

stepped : (P Q : Parser → Type 0) (o : Option Parser) → Safe o → ((t : Parser) → IsStateShallow t.place → P t → Q t) → Stepped o P → Stepped o Q
stepped P Q None l f h = absurd h
stepped P Q (Some t) l f h = f t l h

-- The lexemes spell the module that the parser reads.
pub run_spells : (ls : List FileToken) (s : Parser) (out : Module) → IsStateShallow s.place → run s ls ≡ Some out → ParserSpells s ls out
run_spells [] s out l e = finished s.place s.made out e
run_spells (x ∷ xs) s out l e = back_at x xs out s.place s.made l
    (stepped (λ t. run (parser_with_cost x.cost t) xs ≡ Some out) (λ t. ParserSpells (parser_with_cost x.cost t) xs out) (next_at s.made s.place x.sign x.text) (next_at_shallow s.place s.made x.sign x.text l)
    (λ t k h. run_spells xs (parser_with_cost x.cost t) out (costed_shallow x.cost t.place k) h) (reads (next_at s.made s.place x.sign x.text) x.cost xs out e))
