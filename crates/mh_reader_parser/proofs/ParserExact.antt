-- Proves that the parser reads exactly the modules that are spelled, and that it stops at the first lexeme with which
-- no file can begin.
use Rattle.std.proofs.Common.{◌≡◌, ℕ, suc, ◌<◌, ◌≤◌, ◌+◌, add-one, List, [], ◌∷◌, ◌++◌, length, take, drop, get_or, Option, Some, None, refl, sym, ap, subst, ◌∙◌, append_assoc, Result, Ok, Err, IfOk}
use Rattle.std.specs.Option.{option_or}
use Rattle.std.proofs.Math.Seq.{take-suc, split_at}
use Rattle.std.proofs.lemmas.List.{append-nil, take_all}
use Rattle.std.proofs.lemmas.Option.{none-some}
use Rattle.mh_lex.specs.declared.kinds.Lexeme.{Lexeme}
use Rattle.mh_lex.specs.declared.kinds.PlacedFault.{PlacedFault}
use Rattle.mh_lex.specs.declared.kinds.PlacedFault.TheVariants as placed
use Rattle.mh_lex.specs.declared.kinds.SyntaxFault.{SyntaxFault}
use Rattle.mh_lex_bytes.specs.Lines.{line_at}
use Rattle.mh_lex.specs.Lexing.{Lexes}
use Rattle.mh_lex.specs.LexemeTexts.{bytes_of}
use Rattle.mh_rules.specs.declared.modules.Ref.{Ref}
use Rattle.mh_rules.specs.declared.modules.Actual.{Actual}
use Rattle.mh_rules.specs.declared.modules.Module.{Module}
use Rattle.mh_reader_parser.specs.declared.token_kinds.TokenKind.{TokenKind}
use Rattle.mh_reader_parser.specs.declared.token_kinds.TokenKind.TheVariants as signs
use Rattle.mh_reader_parser.specs.declared.parser_states.OpenActual.{OpenActual}
use Rattle.mh_reader_parser.specs.declared.parser_states.OpenList.{OpenList}
use Rattle.mh_reader_parser.specs.declared.parser_states.OpenList.TheVariants as lists
use Rattle.mh_reader_parser.specs.declared.parser_states.ActualPurpose.{ActualPurpose}
use Rattle.mh_reader_parser.specs.declared.parser_states.ActualPurpose.TheVariants as purposes
use Rattle.mh_reader_parser.specs.declared.parser_states.ParserState.{ParserState}
use Rattle.mh_reader_parser.specs.declared.parser_states.ParserState.TheVariants as places
use Rattle.mh_reader_parser.specs.declared.parser_states.Parser.{Parser}
use Rattle.mh_reader_parser.specs.Costs.{cost_of}
use Rattle.mh_reader_parser.specs.TokenKinds.{FileToken, file_tokens, file_token_by, token_kind_by, text_by, cost_at_front, cost_after}
use Rattle.mh_rules.specs.Modules.{applied, no_module}
use Rattle.mh_reader_parser.specs.Spelling.{File, Spells, BeginsFile}
use Rattle.mh_reader_parser.specs.code.DepthLimit.{IsStateShallow}
use Rattle.mh_reader_parser.specs.Faults.{IsUnexpectedPlace, IsSyntaxLine, line_fault, ReportsUnexpectedPlace, ReportsSyntaxLine}
use Rattle.mh_reader_parser.specs.Faults.IsUnexpectedPlace.{unexpected, unfinished}
use Rattle.mh_reader_parser.specs.code.ParserSteps.{at, next_at, finish_at, run, go_on, start, step_by_lexeme, parser_with_cost, state_with_cost}
use Rattle.mh_reader_parser.proofs.ParserComplete.{run-file, option_or-none}
use Rattle.mh_reader_parser.proofs.ParserSound.{run_spells, Safe, next_at_shallow, costed_shallow}

abbrev lexeme : TokenKind → FileToken
lexeme g = record { sign = g; text = []; cost = None }

-- Some lexemes continue to the end of a file.
abbrev pub CanFinish : Parser → Type 0
CanFinish s = (ys : List FileToken) × (out : Module) × (run s ys ≡ Some out)

live_after : (ps : List OpenActual) (m : Module) (k : ActualPurpose) (a : Actual) (d : ℕ) → CanFinish (at m (places.After k ps a d))
unfolding next_at finish_at
live_after [] m (purposes.Producer t) a d = (lexeme signs.Action ∷ [], _, refl)
live_after [] m (purposes.Listed b ks) a d = (lexeme signs.Percents ∷ [], _, refl)
live_after (p ∷ ps) m k a d = let t = live_after ps m k (applied p.head (p.args ++ a ∷ [])) _ in (lexeme signs.Close ∷ t.0, t.1, t.2)

live_head : (ps : List OpenActual) (m : Module) (k : ActualPurpose) (r : Ref) → CanFinish (at m (places.Head k ps r))
unfolding next_at finish_at
live_head [] m (purposes.Producer t) r = (lexeme signs.Action ∷ [], _, refl)
live_head [] m (purposes.Listed b ks) r = (lexeme signs.Percents ∷ [], _, refl)
live_head (p ∷ ps) m k r = let t = live_after ps m k (applied p.head (p.args ++ applied r [] ∷ [])) _ in (lexeme signs.Close ∷ t.0, t.1, t.2)

live_comma : (l : OpenList) (m : Module) → CanFinish (at m (places.Comma l))
unfolding next_at finish_at
live_comma lists.Tokens m = (record { sign = signs.Word; text = 65 ∷ []; cost = None } ∷ lexeme signs.Percents ∷ [], _, refl)
live_comma lists.Starts m = (lexeme signs.Word ∷ lexeme signs.Percents ∷ [], _, refl)
live_comma (lists.Levels g ks) m = (lexeme signs.Word ∷ lexeme signs.Percents ∷ [], _, refl)
live_comma (lists.Actuals b ks) m = (lexeme signs.Word ∷ lexeme signs.Percents ∷ [], _, refl)

live_at : (p : ParserState) (m : Module) → CanFinish (at m p)
unfolding next_at finish_at
live_at places.Declarations m = (lexeme signs.Percents ∷ [], _, refl)
live_at (places.Opening l) m = (lexeme signs.Percents ∷ [], _, refl)
live_at places.TypeOf m = (lexeme signs.TypeText ∷ lexeme signs.Percents ∷ [], _, refl)
live_at (places.Items l) m = (lexeme signs.Percents ∷ [], _, refl)
live_at (places.Comma l) m = live_comma l m
live_at (places.TokenNamed name c) m = (lexeme signs.Percents ∷ [], _, refl)
live_at (places.TokenAliased t) m = (lexeme signs.Percents ∷ [], _, refl)
live_at places.ParameterType m = (lexeme signs.TypeText ∷ lexeme signs.Percents ∷ [], _, refl)
live_at places.Rules m = ([], _, refl)
live_at (places.Modified p i) m = (lexeme signs.Word ∷ lexeme signs.Colon ∷ lexeme signs.Action ∷ [], _, refl)
live_at (places.RuleNamed r) m = (lexeme signs.Colon ∷ lexeme signs.Action ∷ [], _, refl)
live_at (places.FormalsOpen r) m = (lexeme signs.Close ∷ lexeme signs.Colon ∷ lexeme signs.Action ∷ [], _, refl)
live_at (places.FormalRead r) m = (lexeme signs.Close ∷ lexeme signs.Colon ∷ lexeme signs.Action ∷ [], _, refl)
live_at (places.FormalComma r) m = (lexeme signs.Word ∷ lexeme signs.Close ∷ lexeme signs.Colon ∷ lexeme signs.Action ∷ [], _, refl)
live_at (places.FormalsClosed r) m = (lexeme signs.Colon ∷ lexeme signs.Action ∷ [], _, refl)
live_at (places.Begin r) m = (lexeme signs.Action ∷ [], _, refl)
live_at (places.Production d) m = (lexeme signs.Action ∷ [], _, refl)
live_at (places.Spaced d) m = (lexeme signs.Action ∷ [], _, refl)
live_at (places.Named d name) m = (lexeme signs.Action ∷ [], _, refl)
live_at (places.Argument k ps) m = let t = live_head ps m k _ in (lexeme signs.Word ∷ t.0, t.1, t.2)
live_at (places.Head k ps r) m = live_head ps m k r
live_at (places.After k ps a d) m = live_after ps m k a d
live_at (places.Prec d) m = (lexeme signs.Word ∷ lexeme signs.Action ∷ [], _, refl)
live_at (places.Closed d) m = (lexeme signs.Action ∷ [], _, refl)
live_at (places.Group d) m = ([], _, refl)
live_at (places.GroupPrec d) m = (lexeme signs.Word ∷ [], _, refl)
live_at (places.GroupClosed r) m = ([], _, refl)
live_at places.RuleEnd m = ([], _, refl)
live_at places.Ended m = ([], _, refl)

live : (s : Parser) → CanFinish s
live s = live_at s.place s.made

-- The parser reads exactly what is spelled.
pub File-if_run : (ls : List FileToken) (m : Module) → run start ls ≡ Some m → File no_module ls m
File-if_run ls m e = run_spells ls start m tt e

pub run-if_file : (ls : List FileToken) (m : Module) → File no_module ls m → run start ls ≡ Some m
run-if_file ls m h = run-file h

pub file_unique : (ls : List FileToken) (one two : Module) → File no_module ls one → File no_module ls two → one ≡ two
file_unique ls one two h k = let e = run-if_file ls one h in let f = run-if_file ls two k in cc

-- The state of the parser after some lexemes, if some file begins with them.
abbrev pub then : Option Parser → (Parser → Option Parser) → Option Parser
then None f = None
then (Some s) f = f s

abbrev pub parser_after : Parser → List FileToken → Option Parser
parser_after s [] = Some s
parser_after s (x ∷ xs) = then (next_at s.made s.place x.sign x.text) (λ t. parser_after (parser_with_cost x.cost t) xs)

-- The lexemes `before` were read, and led to the state s.
abbrev pub HasReadTokens : List FileToken → Parser → Type 0
HasReadTokens before s = parser_after start before ≡ Some s

run-after_prefix : (before ys : List FileToken) (s t : Parser) → parser_after s before ≡ Some t → run s (before ++ ys) ≡ run t ys
run-after_prefix [] ys s t e = let same : s ≡ t = cc in ap (λ u. run u ys) same
run-after_prefix (x ∷ xs) ys s t e = by (next_at s.made s.place x.sign x.text) (λ u. run-after_prefix xs ys u t) e
  where
    by : (o : Option Parser) → ((u : Parser) → parser_after u xs ≡ Some t → run u (xs ++ ys) ≡ run t ys) → then o (λ u. parser_after (parser_with_cost x.cost u) xs) ≡ Some t → go_on o (λ u. run (parser_with_cost x.cost u) (xs ++ ys)) ≡ run t ys
    by None f e = cc
    by (Some u) f e = f (parser_with_cost x.cost u) e

run-HasReadTokens : (before : List FileToken) (s : Parser) → HasReadTokens before s → (ys : List FileToken) → run start (before ++ ys) ≡ run s ys
run-HasReadTokens before s h ys = run-after_prefix before ys start s h

parser_after-append : (before after : List FileToken) (s t : Parser) → parser_after s before ≡ Some t → parser_after s (before ++ after) ≡ parser_after t after
parser_after-append [] after s t e = let same : s ≡ t = cc in ap (λ u. parser_after u after) same
parser_after-append (x ∷ xs) after s t e = by (next_at s.made s.place x.sign x.text) (λ u. parser_after-append xs after u t) e
  where
    by : (o : Option Parser) → ((u : Parser) → parser_after u xs ≡ Some t → parser_after u (xs ++ after) ≡ parser_after t after) → then o (λ u. parser_after (parser_with_cost x.cost u) xs) ≡ Some t →
        then o (λ u. parser_after (parser_with_cost x.cost u) (xs ++ after)) ≡ parser_after t after
    by None f e = cc
    by (Some u) f e = f (parser_with_cost x.cost u) e

begins : (before : List FileToken) (s : Parser) → HasReadTokens before s → BeginsFile before
begins before s h = let l = live s in (l.0, l.1, File-if_run (before ++ l.0) l.1 (run-HasReadTokens before s h l.0 ∙ l.2))

blocked : (s : Parser) (x : FileToken) (ys : List FileToken) → next_at s.made s.place x.sign x.text ≡ None → run s (x ∷ ys) ≡ None
blocked s x ys e = ap (λ o. go_on o (λ u. run (parser_with_cost x.cost u) ys)) e

not_both : (o : Option Module) (m : Module) → o ≡ Some m → o ≡ None → ⊥
not_both o m e f = cc

refused : (before : List FileToken) (s : Parser) (x : FileToken) → HasReadTokens before s → next_at s.made s.place x.sign x.text ≡ None → BeginsFile (before ++ x ∷ []) → ⊥
refused before s x h e (ys, m, f) =
    let spelled = subst (λ k. run start k ≡ Some m) (append_assoc before (x ∷ []) ys) (run-if_file ((before ++ x ∷ []) ++ ys) m f) in
    not_both (run start (before ++ x ∷ ys)) m spelled (run-HasReadTokens before s h (x ∷ ys) ∙ blocked s x ys e)

-- Lemmas on costs after lexemes.

-- The tokens, where the last one gets this cost unless it has a cost already.
abbrev amended : Option ℕ → List FileToken → List FileToken
amended c [] = []
amended c (x ∷ []) = record x { cost = option_or x.cost c } ∷ []
amended c (x ∷ y ∷ ys) = x ∷ amended c (y ∷ ys)

amended_none : (xs : List FileToken) → amended None xs ≡ xs
amended_none [] = refl
amended_none (x ∷ []) = ap (λ c. record x { cost = c } ∷ []) (option_or-none x.cost)
amended_none (x ∷ y ∷ ys) = ap (λ l. x ∷ l) (amended_none (y ∷ ys))

option_or-assoc : (a b c : Option ℕ) → option_or (option_or a b) c ≡ option_or a (option_or b c)
option_or-assoc None b c = refl
option_or-assoc (Some n) b c = refl

costed_twice : (a b : Option ℕ) (m : Module) (p : ParserState) → at m (state_with_cost (option_or a b) p) ≡ at m (state_with_cost b (state_with_cost a p))
costed_twice a b m (places.TokenNamed name d) = ap (λ c. at m (places.TokenNamed name c)) (sym (option_or-assoc d a b))
costed_twice a b m (places.TokenAliased t) = ap (λ c. at m (places.TokenAliased (record t { cost = c }))) (sym (option_or-assoc t.cost a b))
costed_twice a b m _ = refl

costed_none : (m : Module) (p : ParserState) → at m (state_with_cost None p) ≡ at m p
costed_none m (places.TokenNamed name d) = ap (λ c. at m (places.TokenNamed name c)) (option_or-none d)
costed_none m (places.TokenAliased t) = ap (λ c. at m (places.TokenAliased (record t { cost = c }))) (option_or-none t.cost)
costed_none m _ = refl

-- A cost after the last lexeme does not change how the parser continues.
parser_after-amended : (x : FileToken) (xs : List FileToken) (c : Option ℕ) (s t : Parser) → parser_after s (x ∷ xs) ≡ Some t → parser_after s (amended c (x ∷ xs)) ≡ Some (parser_with_cost c t)
parser_after-amended x [] c s t e = by (next_at s.made s.place x.sign x.text) e
  where
    by : (o : Option Parser) → then o (λ u. Some (parser_with_cost x.cost u)) ≡ Some t → then o (λ u. Some (parser_with_cost (option_or x.cost c) u)) ≡ Some (parser_with_cost c t)
    by None e = cc
    by (Some u) e = let same : parser_with_cost x.cost u ≡ t = cc in ap Some (costed_twice x.cost c u.made u.place ∙ ap (parser_with_cost c) same)
parser_after-amended x (y ∷ ys) c s t e = by (next_at s.made s.place x.sign x.text) (λ u. parser_after-amended y ys c u t) e
  where
    by : (o : Option Parser) → ((u : Parser) → parser_after u (y ∷ ys) ≡ Some t → parser_after u (amended c (y ∷ ys)) ≡ Some (parser_with_cost c t)) →
        then o (λ u. parser_after (parser_with_cost x.cost u) (y ∷ ys)) ≡ Some t → then o (λ u. parser_after (parser_with_cost x.cost u) (amended c (y ∷ ys))) ≡ Some (parser_with_cost c t)
    by None f e = cc
    by (Some u) f e = f (parser_with_cost x.cost u) e

HasReadTokens-amended : (before : List FileToken) (c : Option ℕ) (s : Parser) → HasReadTokens before s → HasReadTokens (amended c before) (parser_with_cost c s)
HasReadTokens-amended [] c s e = let same : start ≡ s = cc in ap (λ u. Some (parser_with_cost c u)) same
HasReadTokens-amended (x ∷ xs) c s e = parser_after-amended x xs c start s e

parser_after-plain : (xs : List FileToken) (c : Option ℕ) (s t : Parser) → parser_after s (amended c xs) ≡ Some t → (u : Parser) × (parser_after s xs ≡ Some u)
parser_after-plain [] c s t e = (s, refl)
parser_after-plain (x ∷ []) c s t e = by (next_at s.made s.place x.sign x.text) e
  where
    by : (o : Option Parser) → then o (λ u. Some (parser_with_cost (option_or x.cost c) u)) ≡ Some t → (v : Parser) × (then o (λ u. Some (parser_with_cost x.cost u)) ≡ Some v)
    by None e = absurd (cc)
    by (Some u) e = (parser_with_cost x.cost u, refl)
parser_after-plain (x ∷ y ∷ ys) c s t e = by (next_at s.made s.place x.sign x.text) (λ u. parser_after-plain (y ∷ ys) c u t) e
  where
    by : (o : Option Parser) → ((u : Parser) → parser_after u (amended c (y ∷ ys)) ≡ Some t → (v : Parser) × (parser_after u (y ∷ ys) ≡ Some v)) →
        then o (λ u. parser_after (parser_with_cost x.cost u) (amended c (y ∷ ys))) ≡ Some t → (v : Parser) × (then o (λ u. parser_after (parser_with_cost x.cost u) (y ∷ ys)) ≡ Some v)
    by None f e = absurd (cc)
    by (Some u) f e = f (parser_with_cost x.cost u) e

-- Lemmas on lexemes.

-- The tokens that the parser sees of two lists of lexemes, one after the other: `rs` are the tokens of the first list,
-- `zs` those of the second, and `qs` those of both. A list may begin with a cost, which belongs to the token before the
-- list: a for the first list, c for the second, and b for both. The last token of `rs` gets the cost c, unless it has a
-- cost already.
record Joins (c a b : Option ℕ) (rs zs qs : List FileToken) : Type 0 where
  alone : rs ≡ [] → b ≡ option_or a c
  others : (x : FileToken) (xs : List FileToken) → rs ≡ x ∷ xs → b ≡ a
  reads : qs ≡ amended c rs ++ zs

joins_more : (o : Option TokenKind) (t text : List ℕ) (c a b : Option ℕ) (rs zs qs : List FileToken) → Joins c a b rs zs qs → Joins c (cost_at_front o t a) (cost_at_front o t b) (file_token_by o text a ++ rs) zs (file_token_by o text b ++ qs)
joins_more None t text c a b rs zs qs h = record {
  alone = λ e. ap (λ k. option_or (cost_of t) k) (h.alone e) ∙ sym (option_or-assoc (cost_of t) a c);
  others = λ x xs e. ap (λ k. option_or (cost_of t) k) (h.others x xs e);
  reads = h.reads;
}
joins_more (Some g) t text c a b [] zs qs h = record {
  alone = λ e. absurd (cc);
  others = λ x xs e. refl;
  reads = ap (λ k. record { sign = g; text = text; cost = k } ∷ qs) (h.alone refl) ∙ ap (λ l. record { sign = g; text = text; cost = option_or a c } ∷ l) h.reads;
}
joins_more (Some g) t text c a b (y ∷ ys) zs qs h = record {
  alone = λ e. absurd (cc);
  others = λ x xs e. refl;
  reads = ap (λ k. record { sign = g; text = text; cost = k } ∷ qs) (h.others y ys refl) ∙ ap (λ l. record { sign = g; text = text; cost = a } ∷ l) h.reads;
}

joins : (bytes : List ℕ) (ls ks : List Lexeme) →
    Joins (cost_after bytes ks) (cost_after bytes ls) (cost_after bytes (ls ++ ks)) (file_tokens bytes ls) (file_tokens bytes ks) (file_tokens bytes (ls ++ ks))
joins bytes [] ks = record { alone = λ e. refl; others = λ x xs e. absurd (cc); reads = refl }
joins bytes (l ∷ ls) ks =
    joins_more (token_kind_by l.kind (bytes_of bytes l)) (bytes_of bytes l) (text_by l.kind (bytes_of bytes l)) (cost_after bytes ks) (cost_after bytes ls) (cost_after bytes (ls ++ ks))
    (file_tokens bytes ls) (file_tokens bytes ks) (file_tokens bytes (ls ++ ks)) (joins bytes ls ks)

-- A cost at the beginning of the second list belongs to the last lexeme of the first list.
pub file_tokens-append : (bytes : List ℕ) (ls ks : List Lexeme) → file_tokens bytes (ls ++ ks) ≡ amended (cost_after bytes ks) (file_tokens bytes ls) ++ file_tokens bytes ks
file_tokens-append bytes ls ks = (joins bytes ls ks).reads

-- The tokens that the parser sees after one more lexeme: a lexeme without a token kind only adds its cost to the last
-- token.
abbrev pub one_more : List FileToken → Option TokenKind → List ℕ → Option ℕ → List FileToken
one_more before None text c = amended c before
one_more before (Some g) text c = before ++ record { sign = g; text = text; cost = None } ∷ []

last_reads : (before : List FileToken) (o : Option TokenKind) (t text : List ℕ) → amended (cost_at_front o t None) before ++ (file_token_by o text None ++ []) ≡ one_more before o text (cost_of t)
last_reads before None t text = append-nil (amended (option_or (cost_of t) None) before) ∙ ap (λ c. amended c before) (option_or-none (cost_of t))
last_reads before (Some g) t text = ap (λ l. l ++ record { sign = g; text = text; cost = None } ∷ []) (amended_none before)

reads_last : (bytes : List ℕ) (before : List Lexeme) (l : Lexeme) →
    file_tokens bytes (before ++ l ∷ []) ≡ one_more (file_tokens bytes before) (token_kind_by l.kind (bytes_of bytes l)) (text_by l.kind (bytes_of bytes l)) (cost_of (bytes_of bytes l))
reads_last bytes before l =
    file_tokens-append bytes before (l ∷ []) ∙ last_reads (file_tokens bytes before) (token_kind_by l.kind (bytes_of bytes l)) (bytes_of bytes l) (text_by l.kind (bytes_of bytes l))

HasReadTokens-append : (before : List FileToken) (o : Option TokenKind) (text : List ℕ) (c : Option ℕ) (s t : Parser) → HasReadTokens before s → step_by_lexeme s o text c ≡ Some t → HasReadTokens (one_more before o text c) t
HasReadTokens-append before None text c s t h e = let same : parser_with_cost c s ≡ t = cc in HasReadTokens-amended before c s h ∙ ap Some same
HasReadTokens-append before (Some g) text c s t h e =
    parser_after-append before (record { sign = g; text = text; cost = None } ∷ []) start s h ∙ ap (λ o. then o (λ u. Some (parser_with_cost None u))) e ∙ ap Some (costed_none t.made t.place)

safe_some : (o : Option Parser) (t : Parser) → o ≡ Some t → Safe o → IsStateShallow t.place
safe_some o t e h = subst Safe e h

pub step_shallow : (o : Option TokenKind) (text : List ℕ) (c : Option ℕ) (s t : Parser) → IsStateShallow s.place → step_by_lexeme s o text c ≡ Some t → IsStateShallow t.place
step_shallow None text c s t h e = let same : parser_with_cost c s ≡ t = cc in subst (λ u. IsStateShallow u.place) same (costed_shallow c s.place h)
step_shallow (Some g) text c s t h e = safe_some (next_at s.made s.place g text) t e (next_at_shallow s.place s.made g text h)

-- If the parser has read the lexemes before, and a step by the next lexeme leads to the state t, the parser has read
-- this lexeme too.
pub HasReadTokens-step : (bytes : List ℕ) (before : List Lexeme) (l : Lexeme) (s t : Parser) → HasReadTokens (file_tokens bytes before) s →
    step_by_lexeme s (token_kind_by l.kind (bytes_of bytes l)) (text_by l.kind (bytes_of bytes l)) (cost_of (bytes_of bytes l)) ≡ Some t → HasReadTokens (file_tokens bytes (before ++ l ∷ [])) t
HasReadTokens-step bytes before l s t h e =
    ap (λ k. parser_after start k) (reads_last bytes before l)
    ∙ HasReadTokens-append (file_tokens bytes before) (token_kind_by l.kind (bytes_of bytes l)) (text_by l.kind (bytes_of bytes l)) (cost_of (bytes_of bytes l)) s t h e

refused_sign : (before : List FileToken) (s : Parser) (o : Option TokenKind) (text : List ℕ) (c : Option ℕ) → HasReadTokens before s → step_by_lexeme s o text c ≡ None → BeginsFile (one_more before o text c) → ⊥
refused_sign before s None text c h e b = cc
refused_sign before s (Some g) text c h e b = refused before s (record { sign = g; text = text; cost = None }) h e b

refused_lexeme : (bytes : List ℕ) (before : List Lexeme) (l : Lexeme) (s : Parser) → HasReadTokens (file_tokens bytes before) s →
    step_by_lexeme s (token_kind_by l.kind (bytes_of bytes l)) (text_by l.kind (bytes_of bytes l)) (cost_of (bytes_of bytes l)) ≡ None → BeginsFile (file_tokens bytes (before ++ l ∷ [])) → ⊥
refused_lexeme bytes before l s h e b =
    refused_sign (file_tokens bytes before) s (token_kind_by l.kind (bytes_of bytes l)) (text_by l.kind (bytes_of bytes l)) (cost_of (bytes_of bytes l)) h e (subst BeginsFile (reads_last bytes before l) b)

-- If some file begins with the lexemes, one begins with each prefix of them, whatever cost follows it.
parser_after-prefix : (xs ys : List FileToken) (s : Parser) (m : Module) → run s (xs ++ ys) ≡ Some m → (t : Parser) × (parser_after s xs ≡ Some t)
parser_after-prefix [] ys s m e = (s, refl)
parser_after-prefix (x ∷ xs) ys s m e = by (next_at s.made s.place x.sign x.text) (λ u. parser_after-prefix xs ys u m) e
  where
    by : (o : Option Parser) → ((u : Parser) → run u (xs ++ ys) ≡ Some m → (t : Parser) × (parser_after u xs ≡ Some t)) →
        go_on o (λ u. run (parser_with_cost x.cost u) (xs ++ ys)) ≡ Some m → (t : Parser) × (then o (λ u. parser_after (parser_with_cost x.cost u) xs) ≡ Some t)
    by None f e = absurd (cc)
    by (Some u) f e = f (parser_with_cost x.cost u) e

begins_amended : (xs ys : List FileToken) (c : Option ℕ) → BeginsFile (amended c xs ++ ys) → BeginsFile xs
begins_amended xs ys c (zs, m, f) =
    let all = run-if_file ((amended c xs ++ ys) ++ zs) m f in
    let some = parser_after-prefix (amended c xs) (ys ++ zs) start m (ap (λ l. run start l) (sym (append_assoc (amended c xs) ys zs)) ∙ all) in
    let plain = parser_after-plain xs c start some.0 some.1 in
    begins xs plain.0 plain.1

pub BeginsFile-prefix : (bytes : List ℕ) (before after : List Lexeme) (l : Lexeme) → BeginsFile (file_tokens bytes (before ++ l ∷ after)) → BeginsFile (file_tokens bytes (before ++ l ∷ []))
BeginsFile-prefix bytes before after l b =
    let split = ap (λ k. file_tokens bytes k) (sym (append_assoc before (l ∷ []) after)) ∙ file_tokens-append bytes (before ++ l ∷ []) after in
    begins_amended (file_tokens bytes (before ++ l ∷ [])) (file_tokens bytes after) (cost_after bytes after) (subst BeginsFile split b)

-- Lexemes spell no module if no file begins with a prefix of them.
whole_begins : (bytes : List ℕ) (before after : List Lexeme) (l : Lexeme) (m : Module) → File no_module (file_tokens bytes (before ++ l ∷ after)) m → BeginsFile (file_tokens bytes (before ++ l ∷ []))
whole_begins bytes before after l m f =
    let all = file_tokens bytes (before ++ l ∷ after) in
    BeginsFile-prefix bytes before after l ([], m, subst (λ k. File no_module k m) (sym (append-nil all)) f)

-- The parser stops at the first lexeme with which no file can begin.
pub unexpected_lexeme : (bytes : List ℕ) (ls before after : List Lexeme) (l : Lexeme) (s : Parser) (place : ℕ) → ls ≡ before ++ l ∷ after → HasReadTokens (file_tokens bytes before) s →
    step_by_lexeme s (token_kind_by l.kind (bytes_of bytes l)) (text_by l.kind (bytes_of bytes l)) (cost_of (bytes_of bytes l)) ≡ None → place ≡ l.start →
    IsUnexpectedPlace bytes ls place × ((m : Module) → File no_module (file_tokens bytes ls) m → ⊥)
unexpected_lexeme bytes ls before after l s place is h e n =
    let never = refused_lexeme bytes before l s h e in (
      unexpected before after l is (begins (file_tokens bytes before) s h) never n,
      λ m f. never (whole_begins bytes before after l m (subst (λ k. File no_module (file_tokens bytes k) m) is f)),
    )

ends_run : (bytes : List ℕ) (ls : List Lexeme) (s : Parser) → HasReadTokens (file_tokens bytes ls) s → run start (file_tokens bytes ls) ≡ finish_at s.made s.place
ends_run bytes ls s h = ap (λ k. run start k) (sym (append-nil (file_tokens bytes ls))) ∙ run-HasReadTokens (file_tokens bytes ls) s h []

pub file_at_end : (bytes : List ℕ) (ls : List Lexeme) (s : Parser) (m : Module) → HasReadTokens (file_tokens bytes ls) s → finish_at s.made s.place ≡ Some m → File no_module (file_tokens bytes ls) m
file_at_end bytes ls s m h e = File-if_run (file_tokens bytes ls) m (ends_run bytes ls s h ∙ e)

pub unexpected_end : (bytes : List ℕ) (ls : List Lexeme) (s : Parser) (place : ℕ) → HasReadTokens (file_tokens bytes ls) s → finish_at s.made s.place ≡ None → place ≡ length bytes →
    IsUnexpectedPlace bytes ls place × ((m : Module) → File no_module (file_tokens bytes ls) m → ⊥)
unexpected_end bytes ls s place h e n =
    let never : (m : Module) → File no_module (file_tokens bytes ls) m → ⊥ = λ m f. not_both (run start (file_tokens bytes ls)) m (run-if_file (file_tokens bytes ls) m f) (ends_run bytes ls s h ∙ e) in
    (unfinished (begins (file_tokens bytes ls) s h) never n, never)

-- Lemmas on bytes.

-- The list of lexemes of bytes is unique, and so is their first fault.
abbrev pub LexedOnce : Type 0
LexedOnce = (bytes : List ℕ) (one two : List Lexeme) (f g : Option ℕ) → Lexes bytes one f → Lexes bytes two g → (two ≡ one) × (g ≡ f)

-- Bytes spell at most one module.
pub spelled_unique : LexedOnce → (bytes : List ℕ) (one two : Module) → Spells bytes one → Spells bytes two → one ≡ two
spelled_unique once bytes one two (ls, lx, f) (ks, ly, g) =
    file_unique (file_tokens bytes ls) one two f (subst (λ k. File no_module (file_tokens bytes k) two) (once bytes ls ks None None lx ly).0 g)

pub spelled_if_file : (bytes : List ℕ) (ls : List Lexeme) (r : Result Module SyntaxFault) → Lexes bytes ls None → IfOk r (λ m. File no_module (file_tokens bytes ls) m) → IfOk r (λ m. Spells bytes m)
spelled_if_file bytes ls (Ok m) lx f = (ls, lx, f)
spelled_if_file bytes ls (Err e) lx f = f

-- A fault that reports the place of an unexpected lexeme reports, with the line of this place, the line of the syntax
-- fault.
pub syntax_line_of_fault : LexedOnce → (bytes : List ℕ) (ls : List Lexeme) (fault : PlacedFault) → Lexes bytes ls None → ReportsUnexpectedPlace bytes ls (Err fault) → ReportsSyntaxLine bytes (Err (line_fault bytes fault))
syntax_line_of_fault once bytes ls placed.Memory lx h = tt
syntax_line_of_fault once bytes ls (placed.Syntax place) lx (halt, never) =
    (IsSyntaxLine.syntactic lx (place, halt, refl), λ m (ks, ly, f). never m (subst (λ k. File no_module (file_tokens bytes k) m) (once bytes ls ks None None lx ly).0 f))

lexical_fault : LexedOnce → (bytes : List ℕ) (line : ℕ) → (ls : List Lexeme) × (place : ℕ) × Lexes bytes ls (Some place) × (line ≡ line_at bytes place) →
    IsSyntaxLine bytes line × ((m : Module) → Spells bytes m → ⊥)
lexical_fault once bytes line (ls, place, lx, e) = (IsSyntaxLine.lexical lx e, λ m (ks, ly, f). none-some place (once bytes ls ks (Some place) None lx ly).1)

-- Lemmas on the loop of `read_lexemes`.

-- The loop continues after a lexeme.
pub HasReadTokens-at : (bytes : List ℕ) (ls : List Lexeme) (i : ℕ) (d : Lexeme) (s t : Parser) → i < length ls → HasReadTokens (file_tokens bytes (take i ls)) s →
    step_by_lexeme s (token_kind_by (get_or ls i d).kind (bytes_of bytes (get_or ls i d))) (text_by (get_or ls i d).kind (bytes_of bytes (get_or ls i d))) (cost_of (bytes_of bytes (get_or ls i d))) ≡ Some t → HasReadTokens (file_tokens bytes (take (i + 1) ls)) t
HasReadTokens-at bytes ls i d s t h g e = subst (λ k. HasReadTokens (file_tokens bytes k) t) (sym (ap (λ n. take n ls) (add-one i) ∙ take-suc ls i d h)) (HasReadTokens-step bytes (take i ls) (get_or ls i d) s t g e)

-- The loop stops at a lexeme.
pub unexpected_lexeme_at : (bytes : List ℕ) (ls : List Lexeme) (i : ℕ) (d : Lexeme) (s : Parser) (place : ℕ) → i < length ls → HasReadTokens (file_tokens bytes (take i ls)) s →
    step_by_lexeme s (token_kind_by (get_or ls i d).kind (bytes_of bytes (get_or ls i d))) (text_by (get_or ls i d).kind (bytes_of bytes (get_or ls i d))) (cost_of (bytes_of bytes (get_or ls i d))) ≡ None → place ≡ (get_or ls i d).start →
    IsUnexpectedPlace bytes ls place × ((m : Module) → File no_module (file_tokens bytes ls) m → ⊥)
unexpected_lexeme_at bytes ls i d s place h g e n = unexpected_lexeme bytes ls (take i ls) (drop (suc i) ls) (get_or ls i d) s place (split_at ls i d h) g e n

HasReadTokens-all : (bytes : List ℕ) (ls : List Lexeme) (i : ℕ) (s : Parser) → length ls ≤ i → HasReadTokens (file_tokens bytes (take i ls)) s → HasReadTokens (file_tokens bytes ls) s
HasReadTokens-all bytes ls i s h g = subst (λ k. HasReadTokens (file_tokens bytes k) s) (take_all i ls h) g

-- The loop has read all lexemes.
pub file_at_end_at : (bytes : List ℕ) (ls : List Lexeme) (i : ℕ) (s : Parser) (m : Module) → length ls ≤ i → HasReadTokens (file_tokens bytes (take i ls)) s → finish_at s.made s.place ≡ Some m → File no_module (file_tokens bytes ls) m
file_at_end_at bytes ls i s m h g e = file_at_end bytes ls s m (HasReadTokens-all bytes ls i s h g) e

pub unexpected_end_at : (bytes : List ℕ) (ls : List Lexeme) (i : ℕ) (s : Parser) (place : ℕ) → length ls ≤ i → HasReadTokens (file_tokens bytes (take i ls)) s → finish_at s.made s.place ≡ None → place ≡ length bytes →
    IsUnexpectedPlace bytes ls place × ((m : Module) → File no_module (file_tokens bytes ls) m → ⊥)
unexpected_end_at bytes ls i s place h g e n = unexpected_end bytes ls s place (HasReadTokens-all bytes ls i s h g) e n

pub shallow_at : (bytes : List ℕ) (l : Lexeme) (s t : Parser) → IsStateShallow s.place → step_by_lexeme s (token_kind_by l.kind (bytes_of bytes l)) (text_by l.kind (bytes_of bytes l)) (cost_of (bytes_of bytes l)) ≡ Some t → IsStateShallow t.place
shallow_at bytes l s t h e = step_shallow (token_kind_by l.kind (bytes_of bytes l)) (text_by l.kind (bytes_of bytes l)) (cost_of (bytes_of bytes l)) s t h e

pub syntax_line_if_lexical : LexedOnce → (bytes : List ℕ) (line other : ℕ) → other ≡ line → (ls : List Lexeme) × (place : ℕ) × Lexes bytes ls (Some place) × (line ≡ line_at bytes place) →
    IsSyntaxLine bytes other × ((m : Module) → Spells bytes m → ⊥)
syntax_line_if_lexical once bytes line other e h = subst (λ k. IsSyntaxLine bytes k × ((m : Module) → Spells bytes m → ⊥)) (sym e) (lexical_fault once bytes line h)
