-- Proves that the parser reads each module that the lexemes spell (completeness).
use Rattle.std.proofs.Math.Nat.{le-max_left, le-max_right}
use Rattle.std.proofs.lemmas.Bool.{le-leb}
use Rattle.std.proofs.Common.{◌≡◌, ◌≤◌, ◌+◌, ℕ, suc, max, List, [], ◌∷◌, ◌++◌, length, map, Option, Some, None, Bool, true, false, refl, sym, ap, ◌∙◌, arith}
use Rattle.std.specs.Option.{option_or}
use Rattle.mh_grammar.specs.declared.types.Assoc.{Assoc}
use Rattle.mh_rules.specs.declared.modules.Ref.{Ref}
use Rattle.mh_rules.specs.declared.modules.Ref.TheVariants.{Plain, Alias}
use Rattle.mh_rules.specs.declared.modules.Actual.{Actual}
use Rattle.mh_rules.specs.declared.modules.Alternative.{Alternative}
use Rattle.mh_rules.specs.declared.modules.Rule.{Rule}
use Rattle.mh_rules.specs.declared.modules.TokenDecl.{TokenDecl}
use Rattle.mh_rules.specs.declared.modules.Module.{Module}
use Rattle.mh_reader_parser.specs.declared.token_kinds.TokenKind.{TokenKind}
use Rattle.mh_reader_parser.specs.declared.token_kinds.TokenKind.TheVariants as signs
use Rattle.mh_reader_parser.specs.declared.parser_states.OpenActual.{OpenActual}
use Rattle.mh_reader_parser.specs.declared.parser_states.RuleDraft.{RuleDraft}
use Rattle.mh_reader_parser.specs.declared.parser_states.OpenList.{OpenList}
use Rattle.mh_reader_parser.specs.declared.parser_states.OpenList.TheVariants as lists
use Rattle.mh_reader_parser.specs.declared.parser_states.ActualPurpose.{ActualPurpose}
use Rattle.mh_reader_parser.specs.declared.parser_states.ActualPurpose.TheVariants as purposes
use Rattle.mh_reader_parser.specs.declared.parser_states.ParserState.{ParserState}
use Rattle.mh_reader_parser.specs.declared.parser_states.ParserState.TheVariants as places
use Rattle.mh_reader_parser.specs.declared.parser_states.Parser.{Parser}
use Rattle.mh_reader_parser.specs.TokenKinds.{FileToken, is_capital}
use Rattle.mh_reader_parser.specs.Spelling as spelling
use Rattle.mh_rules.specs.Modules.{applied, alternative}
use Rattle.mh_reader_parser.specs.Spelling.{ref_by, ref_of, suffix_of, with_prec, own_or, starts_with_bar, is_bar, Suffixed, Unsuffixed, Args, IsActual, LimitedActual, ListOf, IsAlias, IsTokenItem, IsWordItem, IsRef, OptionalType, Declaration, Semicolons, IsProducer, Producers, IsPrec, Productions, Groups, Modifiers, Formals, OptionalFormals, OptionalBar, IsRule, Rules, File}
use Rattle.mh_reader_parser.specs.code.ParserSteps as machine
use Rattle.mh_reader_parser.specs.code.ParserSteps.{at, next_at, finish_at, run, go_on, parser_with_cost, fits_in_depth, close, token_of, with_token, named, new_draft, with_production, with_producer, with_argument, with_productions, with_productions_of_prec, with_rule}
use Rattle.mh_reader_parser.proofs.FollowKinds.{IsHead, IsHead-weaker, holds_for_sign, may_follow_name, may_follow_actual, may_follow_producers, may_follow_list, may_follow_token_name, is_not_type, is_not_prec, may_begin_rule, may_follow_list_actual, may_follow_list_token_name, may_follow_list_not_type, ref_is_not_type, Suffixed-follows_name, LimitedActual-follows_actual, Producers-follow_producers, Semicolons-follow_actual, Semicolons-not_prec, IsPrec-follows_producers, ListOf-head, Rules-begin_rule, File-follows_list}

-- A run of the parser begins with the step for the first lexeme.
pub run-step : (m : Module) (p : ParserState) (x : FileToken) (xs : List FileToken) (t : Parser) → next_at m p x.sign x.text ≡ Some t → run (at m p) (x ∷ xs) ≡ run (parser_with_cost x.cost t) xs
run-step m p x xs t e = ap (λ o. go_on o (λ u. run (parser_with_cost x.cost u) xs)) e

-- Two states with the same step have the same run.
pub run-same_step : (m n : Module) (p q : ParserState) (x : FileToken) (xs : List FileToken) → next_at m p x.sign x.text ≡ next_at n q x.sign x.text → run (at m p) (x ∷ xs) ≡ run (at n q) (x ∷ xs)
run-same_step m n p q x xs e = ap (λ o. go_on o (λ u. run (parser_with_cost x.cost u) xs)) e

-- Lemmas on actuals.

Suffixed-grows : {xs rest : List FileToken} {a b : Actual} {d e : ℕ} → Suffixed a d xs rest b e → d ≤ e
Suffixed-grows spelling.Suffixed.bare = omega arith
Suffixed-grows (spelling.Suffixed.suffix f h) = let g = Suffixed-grows h in omega arith

Unsuffixed-depth : {xs rest : List FileToken} {a : Actual} {d : ℕ} → Unsuffixed xs rest a d → 1 ≤ d
Unsuffixed-depth (spelling.Unsuffixed.plain e) = omega arith
Unsuffixed-depth (spelling.Unsuffixed.with_args e o b) = omega arith

Actual-depth : {xs rest : List FileToken} {a : Actual} {d : ℕ} → IsActual xs rest a d → 1 ≤ d
Actual-depth (spelling.IsActual.actual b t) = let g = Unsuffixed-depth b in let h = Suffixed-grows t in omega arith

Args-grows : {done all : List Actual} {m e : ℕ} {xs rest : List FileToken} → Args done m xs rest all e → m ≤ e
Args-grows (spelling.Args.last {m = m} {d = d} h f) = le-max_left m d
Args-grows (spelling.Args.more {m = m} {d = d} h f t) = let g = Args-grows t in let k = le-max_left m d in omega arith

Args-depth : {done all : List Actual} {m e : ℕ} {xs rest : List FileToken} → Args done m xs rest all e → 1 ≤ e
Args-depth (spelling.Args.last {m = m} {d = d} h f) = let g = Actual-depth h in let k = le-max_right m d in omega arith
Args-depth (spelling.Args.more h f t) = Args-depth t

at_argument : (m : Module) (k : ActualPurpose) (ps : List OpenActual) (x : FileToken) (r : Ref) → ref_of x ≡ Some r → next_at m (places.Argument k ps) x.sign x.text ≡ Some (at m (places.Head k ps r))
unfolding next_at
at_argument m k ps x r e = rw e refl

at_suffix : (m : Module) (k : ActualPurpose) (ps : List OpenActual) (a : Actual) (d : ℕ) (x : FileToken) (n : List ℕ) → suffix_of x.sign ≡ Some n → fits_in_depth (suc d) ps ≡ true →
    next_at m (places.After k ps a d) x.sign x.text ≡ Some (at m (places.After k ps (applied (Plain n) (a ∷ [])) (suc d)))
unfolding next_at
at_suffix m k ps a d x n e f = ap (λ o. machine.at_optional_suffix m k ps a d o x.sign x.text) e ∙ ap (λ b. machine.with_suffix_if_fits m k ps a d b n) f

at_open : (m : Module) (k : ActualPurpose) (ps : List OpenActual) (r : Ref) (x : FileToken) → x.sign ≡ signs.Open → fits_in_depth 2 ps ≡ true →
    next_at m (places.Head k ps r) x.sign x.text ≡ Some (at m (places.Argument k (record { head = r; args = []; depth = 0 } ∷ ps)))
unfolding next_at
at_open m k ps r x e f = ap (λ g. machine.at_head m k ps r g x.text) e ∙ ap (λ b. machine.with_bracket_if_fits m k ps r b) f

at_close : (m : Module) (k : ActualPurpose) (p : OpenActual) (ps : List OpenActual) (a : Actual) (d : ℕ) (x : FileToken) → x.sign ≡ signs.Close →
    next_at m (places.After k (p ∷ ps) a d) x.sign x.text ≡ Some (at m (places.After k ps (applied p.head (p.args ++ a ∷ [])) (suc (max p.depth d))))
unfolding next_at
at_close m k p ps a d x e = rw e refl

at_comma : (m : Module) (k : ActualPurpose) (p : OpenActual) (ps : List OpenActual) (a : Actual) (d : ℕ) (x : FileToken) → x.sign ≡ signs.Comma →
    next_at m (places.After k (p ∷ ps) a d) x.sign x.text ≡ Some (at m (places.Argument k (with_argument p a d ∷ ps)))
unfolding next_at
at_comma m k p ps a d x e = rw e refl

head_step : (m : Module) (k : ActualPurpose) (ps : List OpenActual) (r : Ref) (g : TokenKind) (text : List ℕ) → may_follow_name g ≡ true → machine.at_head m k ps r g text ≡ machine.after_actual m k ps (applied r []) 1 g text
head_step m k ps r signs.Open text e = cc
head_step m k ps r _ text e = refl

at_plain : (m : Module) (k : ActualPurpose) (ps : List OpenActual) (r : Ref) (xs : List FileToken) → IsHead may_follow_name xs → run (at m (places.Head k ps r)) xs ≡ run (at m (places.After k ps (applied r []) 1)) xs
unfolding next_at finish_at
at_plain m k ps r [] h = refl
at_plain m k ps r (x ∷ xs) h = run-same_step m m (places.Head k ps r) (places.After k ps (applied r []) 1) x xs (head_step m k ps r x.sign x.text h)

again-suffixed : {xs rest : List FileToken} {a b : Actual} {d e : ℕ} → Suffixed a d xs rest b e → (m : Module) (k : ActualPurpose) (ps : List OpenActual) → e + length ps ≤ 1000 →
    run (at m (places.After k ps a d)) xs ≡ run (at m (places.After k ps b e)) rest
again-suffixed spelling.Suffixed.bare m k ps l = refl
again-suffixed (spelling.Suffixed.suffix {a = a} {d = d} {e = e} {x = x} {xs = xs} {n = n} f h) m k ps l =
    let grows = Suffixed-grows h in
    let room : suc d + length ps ≤ 1000 = omega arith in
    run-step m (places.After k ps a d) x xs _ (at_suffix m k ps a d x n f (le-leb _ _ room)) ∙ again-suffixed h m k ps l

mutual
  again-actual : {xs rest : List FileToken} {a : Actual} {d : ℕ} → IsActual xs rest a d → IsHead may_follow_actual rest → (m : Module) (k : ActualPurpose) (ps : List OpenActual) → d + length ps ≤ 1000 →
      run (at m (places.Argument k ps)) xs ≡ run (at m (places.After k ps a d)) rest
  again-actual (spelling.IsActual.actual b t) h m k ps l = let grows = Suffixed-grows t in again-base b (Suffixed-follows_name t h) m k ps (omega arith) ∙ again-suffixed t m k ps l

  again-base : {xs rest : List FileToken} {a : Actual} {d : ℕ} → Unsuffixed xs rest a d → IsHead may_follow_name rest → (m : Module) (k : ActualPurpose) (ps : List OpenActual) → d + length ps ≤ 1000 →
      run (at m (places.Argument k ps)) xs ≡ run (at m (places.After k ps a d)) rest
  again-base (spelling.Unsuffixed.plain {x = x} {xs = xs} {r = r} e) h m k ps l = run-step m (places.Argument k ps) x xs _ (at_argument m k ps x r e) ∙ at_plain m k ps r xs h
  again-base (spelling.Unsuffixed.with_args {x = x} {y = y} {xs = xs} {r = r} {d = d} e o b) h m k ps l =
      let deep = Args-depth b in
      let room : 2 + length ps ≤ 1000 = omega arith in
      run-step m (places.Argument k ps) x (y ∷ xs) _ (at_argument m k ps x r e) ∙ run-step m (places.Head k ps r) y xs _ (at_open m k ps r y o (le-leb _ _ room)) ∙ again-args b m k r ps l

  again-args : {done all : List Actual} {n e : ℕ} {xs rest : List FileToken} → Args done n xs rest all e → (m : Module) (k : ActualPurpose) (r : Ref) (ps : List OpenActual) → suc e + length ps ≤ 1000 →
      run (at m (places.Argument k (record { head = r; args = done; depth = n } ∷ ps))) xs ≡ run (at m (places.After k ps (applied r all) (suc e))) rest
  again-args (spelling.Args.last {done = done} {m = n} {d = d} {y = y} {rest = rest} {a = a} b f) m k r ps l =
      let deep = le-max_right n d in
      let p : OpenActual = record { head = r; args = done; depth = n } in
      again-actual b (holds_for_sign may_follow_actual y signs.Close f refl) m k (p ∷ ps) (omega arith) ∙ run-step m (places.After k (p ∷ ps) a d) y rest _ (at_close m k p ps a d y f)
  again-args (spelling.Args.more {done = done} {m = n} {d = d} {e = e} {y = y} {mid = mid} {a = a} b f t) m k r ps l =
      let deep = le-max_right n d in
      let grows = Args-grows t in
      let p : OpenActual = record { head = r; args = done; depth = n } in
      again-actual b (holds_for_sign may_follow_actual y signs.Comma f refl) m k (p ∷ ps) (omega arith) ∙ run-step m (places.After k (p ∷ ps) a d) y mid _ (at_comma m k p ps a d y f) ∙ again-args t m k r ps l

-- Lemmas on lists of declarations.

-- The lexeme after a list begins a declaration or the rules.
items_end : (m : Module) (l : OpenList) (g : TokenKind) (text : List ℕ) → may_follow_list g ≡ true → machine.at_items m l g text ≡ machine.declare (close m l) g
items_end m l signs.Word text e = cc
items_end m l signs.Quoted text e = cc
items_end m l signs.Comma text e = cc
items_end m l _ text e = refl

at_end : (m : Module) (l : OpenList) (xs : List FileToken) → IsHead may_follow_list xs → run (at m (places.Items l)) xs ≡ run (at (close m l) places.Declarations) xs
unfolding next_at finish_at
at_end m l [] h = refl
at_end m l (x ∷ xs) h = run-same_step m (close m l) (places.Items l) places.Declarations x xs (items_end m l x.sign x.text h)

turn_comma : (m : Module) (l : OpenList) (x : FileToken) → x.sign ≡ signs.Comma → next_at m (places.Items l) x.sign x.text ≡ Some (at m (places.Comma l))
unfolding next_at
turn_comma m l x e = rw e refl

-- A list whose items the parser reads in the same way with and without a comma before them.
module _ (A : Type 0) (X : List FileToken → List FileToken → A → Type 0) (q : TokenKind → Bool) (made : List A → Module) (l : List A → OpenList)
    (comma_q : q signs.Comma ≡ true)
    (first_q : (xs rest : List FileToken) (a : A) → X xs rest a → IsHead q xs)
    (item : (xs rest : List FileToken) (a : A) → X xs rest a → IsHead q rest → (done : List A) → run (at (made done) (places.Items (l done))) xs ≡ run (at (made (done ++ a ∷ [])) (places.Items (l (done ++ a ∷ [])))) rest)
    (later : (xs rest : List FileToken) (a : A) → X xs rest a → IsHead q rest → (done : List A) → run (at (made done) (places.Comma (l done))) xs ≡ run (at (made (done ++ a ∷ [])) (places.Items (l (done ++ a ∷ [])))) rest) where
  again-list : {done all : List A} {xs rest : List FileToken} → ListOf A X done xs rest all → IsHead q rest →
      run (at (made done) (places.Items (l done))) xs ≡ run (at (made all) (places.Items (l all))) rest
  again-list spelling.ListOf.none h = refl
  again-list (spelling.ListOf.next {done = done} {xs = xs} {mid = mid} {a = a} x t) h =
      item xs mid a x (ListOf-head q comma_q first_q t h) done ∙ again-list t h
  again-list (spelling.ListOf.comma {done = done} {y = y} {xs = xs} {mid = mid} {a = a} e x t) h =
      run-step (made done) (places.Items (l done)) y xs _ (turn_comma (made done) (l done) y e) ∙ later xs mid a x (ListOf-head q comma_q first_q t h) done ∙ again-list t h

-- Lemmas on lists of tokens.
abbrev with_tokens : Module → List TokenDecl → Module
with_tokens m ks = record m { tokens = ks }

named_word : (m : Module) (x : FileToken) → x.sign ≡ signs.Word → is_capital x.text ≡ true → next_at m (places.Items lists.Tokens) x.sign x.text ≡ Some (at m (places.TokenNamed x.text None))
unfolding next_at
named_word m x e f = ap (λ g. machine.at_items m lists.Tokens g x.text) e ∙ ap (λ b. machine.token_if_capital m b x.text) f

named_later : (m : Module) (x : FileToken) → x.sign ≡ signs.Word → is_capital x.text ≡ true → next_at m (places.Comma lists.Tokens) x.sign x.text ≡ Some (at m (places.TokenNamed x.text None))
unfolding next_at
named_later m x e f = ap (λ g. machine.at_comma m lists.Tokens g x.text) e ∙ ap (λ b. machine.token_if_capital m b x.text) f

alias_step : (m : Module) (name : List ℕ) (c : Option ℕ) (g : TokenKind) (text : List ℕ) → may_follow_token_name g ≡ true → machine.at_token m name c g text ≡ machine.at_items (with_token m (token_of name None c)) lists.Tokens g text
alias_step m name c signs.Quoted text e = cc
alias_step m name c _ text e = refl

alias_given : (m : Module) (name : List ℕ) (c : Option ℕ) (x : FileToken) → x.sign ≡ signs.Quoted → next_at m (places.TokenNamed name c) x.sign x.text ≡ Some (at m (places.TokenAliased (token_of name (Some x.text) c)))
unfolding next_at
alias_given m name c x e = rw e refl

alias_absent : (m : Module) (name : List ℕ) (c : Option ℕ) (xs : List FileToken) → IsHead may_follow_token_name xs → run (at m (places.TokenNamed name c)) xs ≡ run (at (with_token m (token_of name None c)) (places.Items lists.Tokens)) xs
unfolding next_at finish_at
alias_absent m name c [] h = refl
alias_absent m name c (x ∷ xs) h = run-same_step m (with_token m (token_of name None c)) (places.TokenNamed name c) (places.Items lists.Tokens) x xs (alias_step m name c x.sign x.text h)

-- After an alias the list continues.
aliased_end : (m : Module) (t : TokenDecl) (xs : List FileToken) → run (at m (places.TokenAliased t)) xs ≡ run (at (with_token m t) (places.Items lists.Tokens)) xs
unfolding next_at finish_at
aliased_end m t [] = refl
aliased_end m t (x ∷ xs) = run-same_step m (with_token m t) (places.TokenAliased t) (places.Items lists.Tokens) x xs refl

pub option_or-none : {X : Type 0} (o : Option X) → option_or o None ≡ o
option_or-none None = refl
option_or-none (Some x) = refl

again-alias : {xs rest : List FileToken} {o : Option (List ℕ)} {d : Option ℕ} → IsAlias xs rest o d → IsHead may_follow_token_name rest → (m : Module) (name : List ℕ) (c : Option ℕ) →
    run (at m (places.TokenNamed name c)) xs ≡ run (at (with_token m (token_of name o (option_or c d))) (places.Items lists.Tokens)) rest
again-alias (spelling.IsAlias.absent {xs = xs}) h m name c =
    alias_absent m name c xs h ∙ ap (λ d. run (at (with_token m (token_of name None d)) (places.Items lists.Tokens)) xs) (sym (option_or-none c))
again-alias (spelling.IsAlias.given {y = y} {xs = xs} e) h m name c =
    run-step m (places.TokenNamed name c) y xs _ (alias_given m name c y e) ∙ aliased_end m (token_of name (Some y.text) (option_or c y.cost)) xs

token_unquoted : (xs rest : List FileToken) (a : TokenDecl) → IsTokenItem xs rest a → IsHead may_follow_token_name xs
token_unquoted _ _ _ (spelling.IsTokenItem.token {x = x} e f o) = holds_for_sign may_follow_token_name x signs.Word e refl

token_untyped : (xs rest : List FileToken) (a : TokenDecl) → IsTokenItem xs rest a → IsHead is_not_type xs
token_untyped _ _ _ (spelling.IsTokenItem.token {x = x} e f o) = holds_for_sign is_not_type x signs.Word e refl

again-token : (m : Module) (xs rest : List FileToken) (a : TokenDecl) → IsTokenItem xs rest a → IsHead may_follow_token_name rest → (done : List TokenDecl) →
    run (at (with_tokens m done) (places.Items lists.Tokens)) xs ≡ run (at (with_tokens m (done ++ a ∷ [])) (places.Items lists.Tokens)) rest
again-token m _ rest _ (spelling.IsTokenItem.token {x = x} {xs = xs} e f o) h done =
    run-step (with_tokens m done) (places.Items lists.Tokens) x xs _ (named_word (with_tokens m done) x e f) ∙ again-alias o h (with_tokens m done) x.text x.cost

later-token : (m : Module) (xs rest : List FileToken) (a : TokenDecl) → IsTokenItem xs rest a → IsHead may_follow_token_name rest → (done : List TokenDecl) →
    run (at (with_tokens m done) (places.Comma lists.Tokens)) xs ≡ run (at (with_tokens m (done ++ a ∷ [])) (places.Items lists.Tokens)) rest
later-token m _ rest _ (spelling.IsTokenItem.token {x = x} {xs = xs} e f o) h done =
    run-step (with_tokens m done) (places.Comma lists.Tokens) x xs _ (named_later (with_tokens m done) x e f) ∙ again-alias o h (with_tokens m done) x.text x.cost

-- Lemmas on lists of starts.
abbrev with_starts : Module → List (List ℕ) → Module
with_starts m ks = record m { starts = ks }

word_untyped : (xs rest : List FileToken) (a : List ℕ) → IsWordItem xs rest a → IsHead is_not_type xs
word_untyped _ _ _ (spelling.IsWordItem.word {x = x} e) = holds_for_sign is_not_type x signs.Word e refl

start_word : (m : Module) (x : FileToken) → x.sign ≡ signs.Word → next_at m (places.Items lists.Starts) x.sign x.text ≡ Some (at (with_starts m (m.starts ++ x.text ∷ [])) (places.Items lists.Starts))
unfolding next_at
start_word m x e = rw e refl

start_later : (m : Module) (x : FileToken) → x.sign ≡ signs.Word → next_at m (places.Comma lists.Starts) x.sign x.text ≡ Some (at (with_starts m (m.starts ++ x.text ∷ [])) (places.Items lists.Starts))
unfolding next_at
start_later m x e = rw e refl

again-start : (m : Module) (xs rest : List FileToken) (a : List ℕ) → IsWordItem xs rest a → IsHead is_not_type rest → (done : List (List ℕ)) →
    run (at (with_starts m done) (places.Items lists.Starts)) xs ≡ run (at (with_starts m (done ++ a ∷ [])) (places.Items lists.Starts)) rest
again-start m _ rest _ (spelling.IsWordItem.word {x = x} {xs = xs} e) h done = run-step (with_starts m done) (places.Items lists.Starts) x xs _ (start_word (with_starts m done) x e)

later-start : (m : Module) (xs rest : List FileToken) (a : List ℕ) → IsWordItem xs rest a → IsHead is_not_type rest → (done : List (List ℕ)) →
    run (at (with_starts m done) (places.Comma lists.Starts)) xs ≡ run (at (with_starts m (done ++ a ∷ [])) (places.Items lists.Starts)) rest
later-start m _ rest _ (spelling.IsWordItem.word {x = x} {xs = xs} e) h done = run-step (with_starts m done) (places.Comma lists.Starts) x xs _ (start_later (with_starts m done) x e)

-- Lemmas on lists of names with a level.
ref_head : (xs rest : List FileToken) (r : Ref) → IsRef xs rest r → IsHead is_not_type xs
ref_head _ _ r (spelling.IsRef.reference {x = x} e) = ref_is_not_type x.sign x.text r e

name_step : (m : Module) (g : Assoc) (done : List Ref) (r : Ref) (h : TokenKind) (text : List ℕ) → ref_by h text ≡ Some r →
    machine.at_items m (lists.Levels g done) h text ≡ Some (at m (places.Items (lists.Levels g (done ++ r ∷ []))))
name_step m g done r signs.Word text e = let same : Plain text ≡ r = cc in ap (λ k. Some (at m (places.Items (lists.Levels g (done ++ k ∷ []))))) same
name_step m g done r signs.Quoted text e = let same : Alias text ≡ r = cc in ap (λ k. Some (at m (places.Items (lists.Levels g (done ++ k ∷ []))))) same
name_step m g done r _ text e = cc

name_later : (m : Module) (g : Assoc) (done : List Ref) (r : Ref) (h : TokenKind) (text : List ℕ) → ref_by h text ≡ Some r →
    machine.at_comma m (lists.Levels g done) h text ≡ Some (at m (places.Items (lists.Levels g (done ++ r ∷ []))))
name_later m g done r signs.Word text e = let same : Plain text ≡ r = cc in ap (λ k. Some (at m (places.Items (lists.Levels g (done ++ k ∷ []))))) same
name_later m g done r signs.Quoted text e = let same : Alias text ≡ r = cc in ap (λ k. Some (at m (places.Items (lists.Levels g (done ++ k ∷ []))))) same
name_later m g done r _ text e = cc

again-name : (m : Module) (g : Assoc) (xs rest : List FileToken) (r : Ref) → IsRef xs rest r → IsHead is_not_type rest → (done : List Ref) →
    run (at m (places.Items (lists.Levels g done))) xs ≡ run (at m (places.Items (lists.Levels g (done ++ r ∷ [])))) rest
unfolding next_at
again-name m g _ rest r (spelling.IsRef.reference {x = x} {xs = xs} e) h done = run-step m (places.Items (lists.Levels g done)) x xs _ (name_step m g done r x.sign x.text e)

later-name : (m : Module) (g : Assoc) (xs rest : List FileToken) (r : Ref) → IsRef xs rest r → IsHead is_not_type rest → (done : List Ref) →
    run (at m (places.Comma (lists.Levels g done))) xs ≡ run (at m (places.Items (lists.Levels g (done ++ r ∷ [])))) rest
unfolding next_at
later-name m g _ rest r (spelling.IsRef.reference {x = x} {xs = xs} e) h done = run-step m (places.Comma (lists.Levels g done)) x xs _ (name_later m g done r x.sign x.text e)

-- Lemmas on lists of actuals.
listed_step : (m : Module) (b : Bool) (done : List Actual) (r : Ref) (h : TokenKind) (text : List ℕ) → ref_by h text ≡ Some r →
    machine.at_items m (lists.Actuals b done) h text ≡ Some (at m (places.Head (purposes.Listed b done) [] r))
listed_step m b done r signs.Word text e = let same : Plain text ≡ r = cc in ap (λ k. Some (at m (places.Head (purposes.Listed b done) [] k))) same
listed_step m b done r signs.Quoted text e = let same : Alias text ≡ r = cc in ap (λ k. Some (at m (places.Head (purposes.Listed b done) [] k))) same
listed_step m b done r _ text e = cc

listed_later : (m : Module) (b : Bool) (done : List Actual) (r : Ref) (h : TokenKind) (text : List ℕ) → ref_by h text ≡ Some r →
    machine.at_comma m (lists.Actuals b done) h text ≡ Some (at m (places.Head (purposes.Listed b done) [] r))
listed_later m b done r signs.Word text e = let same : Plain text ≡ r = cc in ap (λ k. Some (at m (places.Head (purposes.Listed b done) [] k))) same
listed_later m b done r signs.Quoted text e = let same : Alias text ≡ r = cc in ap (λ k. Some (at m (places.Head (purposes.Listed b done) [] k))) same
listed_later m b done r _ text e = cc

-- The lexemes begin with a word or a string, as every actual does.
pub record Starts (xs : List FileToken) : Type 0 where
  pub x : FileToken
  pub rest : List FileToken
  pub r : Ref
  pub split : xs ≡ x ∷ rest
  pub refers : ref_of x ≡ Some r

Actual-starts : {xs rest : List FileToken} {a : Actual} {d : ℕ} → IsActual xs rest a d → Starts xs
Actual-starts (spelling.IsActual.actual (spelling.Unsuffixed.plain {x = x} {xs = xs} {r = r} e) t) = record { x = x; rest = xs; r = r; split = refl; refers = e }
Actual-starts (spelling.IsActual.actual (spelling.Unsuffixed.with_args {x = x} {y = y} {xs = xs} {r = r} e o b) t) = record { x = x; rest = y ∷ xs; r = r; split = refl; refers = e }

items_argument : (m : Module) (b : Bool) (done : List Actual) (xs : List FileToken) → Starts xs → run (at m (places.Items (lists.Actuals b done))) xs ≡ run (at m (places.Argument (purposes.Listed b done) [])) xs
unfolding next_at
items_argument m b done xs s = ap (λ l. run (at m (places.Items (lists.Actuals b done))) l) s.split
    ∙ run-step m (places.Items (lists.Actuals b done)) s.x s.rest _ (listed_step m b done s.r s.x.sign s.x.text s.refers)
    ∙ sym (run-step m (places.Argument (purposes.Listed b done) []) s.x s.rest _ (at_argument m (purposes.Listed b done) [] s.x s.r s.refers))
    ∙ ap (λ l. run (at m (places.Argument (purposes.Listed b done) [])) l) (sym s.split)

comma_argument : (m : Module) (b : Bool) (done : List Actual) (xs : List FileToken) → Starts xs → run (at m (places.Comma (lists.Actuals b done))) xs ≡ run (at m (places.Argument (purposes.Listed b done) [])) xs
unfolding next_at
comma_argument m b done xs s = ap (λ l. run (at m (places.Comma (lists.Actuals b done))) l) s.split
    ∙ run-step m (places.Comma (lists.Actuals b done)) s.x s.rest _ (listed_later m b done s.r s.x.sign s.x.text s.refers)
    ∙ sym (run-step m (places.Argument (purposes.Listed b done) []) s.x s.rest _ (at_argument m (purposes.Listed b done) [] s.x s.r s.refers))
    ∙ ap (λ l. run (at m (places.Argument (purposes.Listed b done) [])) l) (sym s.split)

step_after_actual : (m : Module) (k : ActualPurpose) (a : Actual) (d : ℕ) (g : TokenKind) (text : List ℕ) → may_follow_actual g ≡ true → machine.after_actual m k [] a d g text ≡ machine.after_whole m k a g text
step_after_actual m k a d signs.Question text e = cc
step_after_actual m k a d signs.Star text e = cc
step_after_actual m k a d signs.Plus text e = cc
step_after_actual m k a d _ text e = refl

at_listed : (m : Module) (b : Bool) (done : List Actual) (a : Actual) (d : ℕ) (xs : List FileToken) → IsHead may_follow_actual xs →
    run (at m (places.After (purposes.Listed b done) [] a d)) xs ≡ run (at m (places.Items (lists.Actuals b (done ++ a ∷ [])))) xs
unfolding next_at finish_at
at_listed m b done a d [] h = refl
at_listed m b done a d (x ∷ xs) h = run-same_step m m (places.After (purposes.Listed b done) [] a d) (places.Items (lists.Actuals b (done ++ a ∷ []))) x xs (step_after_actual m (purposes.Listed b done) a d x.sign x.text h)

LimitedActual-head : (xs rest : List FileToken) (a : Actual) → LimitedActual xs rest a → IsHead may_follow_actual xs
LimitedActual-head xs rest a h = LimitedActual-follows_actual h

top_level : (d : ℕ) → d ≤ 1000 → d + length (let ps : List OpenActual = [] in ps) ≤ 1000
top_level d l = omega arith

again-listed : (m : Module) (b : Bool) (xs rest : List FileToken) (a : Actual) → LimitedActual xs rest a → IsHead may_follow_actual rest → (done : List Actual) →
    run (at m (places.Items (lists.Actuals b done))) xs ≡ run (at m (places.Items (lists.Actuals b (done ++ a ∷ [])))) rest
again-listed m b xs rest a (spelling.LimitedActual.limited {d = d} h l) q done =
    items_argument m b done xs (Actual-starts h) ∙ again-actual h q m (purposes.Listed b done) [] (top_level d l) ∙ at_listed m b done a d rest q

later-listed : (m : Module) (b : Bool) (xs rest : List FileToken) (a : Actual) → LimitedActual xs rest a → IsHead may_follow_actual rest → (done : List Actual) →
    run (at m (places.Comma (lists.Actuals b done))) xs ≡ run (at m (places.Items (lists.Actuals b (done ++ a ∷ [])))) rest
later-listed m b xs rest a (spelling.LimitedActual.limited {d = d} h l) q done =
    comma_argument m b done xs (Actual-starts h) ∙ again-actual h q m (purposes.Listed b done) [] (top_level d l) ∙ at_listed m b done a d rest q

-- Lemmas on declarations.

declare_step : (m : Module) (x : FileToken) (g : TokenKind) → x.sign ≡ g → next_at m places.Declarations x.sign x.text ≡ machine.declare m g
unfolding next_at
declare_step m x g e = ap (λ k. machine.declare m k) e

opening_step : (m : Module) (l : OpenList) (g : TokenKind) (text : List ℕ) → is_not_type g ≡ true → machine.at_list_start m l g text ≡ machine.at_items m l g text
opening_step m l signs.TypeText text e = cc
opening_step m l _ text e = refl

at_untyped : (m : Module) (l : OpenList) (xs : List FileToken) → IsHead is_not_type xs → run (at m (places.Opening l)) xs ≡ run (at m (places.Items l)) xs
unfolding next_at finish_at
at_untyped m l [] h = refl
at_untyped m l (x ∷ xs) h = run-same_step m m (places.Opening l) (places.Items l) x xs (opening_step m l x.sign x.text h)

opening_typed : (m : Module) (l : OpenList) (x : FileToken) → x.sign ≡ signs.TypeText → next_at m (places.Opening l) x.sign x.text ≡ Some (at m (places.Items l))
unfolding next_at
opening_typed m l x e = rw e refl

again-type : {xs rest : List FileToken} → OptionalType xs rest → IsHead is_not_type rest → (m : Module) (l : OpenList) → run (at m (places.Opening l)) xs ≡ run (at m (places.Items l)) rest
again-type (spelling.OptionalType.absent {xs = xs}) h m l = at_untyped m l xs h
again-type (spelling.OptionalType.given {x = x} {xs = xs} e) h m l = run-step m (places.Opening l) x xs _ (opening_typed m l x e)

type_step : (m : Module) (x : FileToken) → x.sign ≡ signs.TypeText → next_at m places.TypeOf x.sign x.text ≡ Some (at m (places.Items (lists.Actuals false [])))
unfolding next_at
type_step m x e = rw e refl

parameter_step : (m : Module) (x : FileToken) → x.sign ≡ signs.TypeText → next_at m places.ParameterType x.sign x.text ≡ Some (at m places.Declarations)
unfolding next_at
parameter_step m x e = rw e refl

-- The parser reads a list of actuals and closes the list at the next lexeme.
again-actuals : {xs rest : List FileToken} {ks : List Actual} → ListOf Actual LimitedActual [] xs rest ks → IsHead may_follow_list rest → (m : Module) (b : Bool) →
    run (at m (places.Items (lists.Actuals b []))) xs ≡ run (at (close m (lists.Actuals b ks)) places.Declarations) rest
again-actuals {rest = rest} {ks = ks} t h m b =
    again-list Actual LimitedActual may_follow_actual (λ ks. m) (λ ks. lists.Actuals b ks) refl LimitedActual-head (again-listed m b) (later-listed m b) t (IsHead-weaker may_follow_list may_follow_actual may_follow_list_actual rest h)
    ∙ at_end m (lists.Actuals b ks) rest h

again-declaration : {m n : Module} {xs rest : List FileToken} → Declaration m xs rest n → IsHead may_follow_list rest → run (at m places.Declarations) xs ≡ run (at n places.Declarations) rest
again-declaration (spelling.Declaration.header {m = m} {x = x} {xs = xs} e) h = run-step m places.Declarations x xs _ (declare_step m x signs.Header e)
again-declaration (spelling.Declaration.semicolon {m = m} {x = x} {xs = xs} e) h = run-step m places.Declarations x xs _ (declare_step m x signs.Semicolon e)
again-declaration (spelling.Declaration.tokens {m = m} {x = x} {xs = xs} {mid = mid} {rest = rest} {ks = ks} e o t) h =
    run-step m places.Declarations x xs _ (declare_step m x signs.Token e)
    ∙ again-type o (ListOf-head is_not_type refl token_untyped t (IsHead-weaker may_follow_list is_not_type may_follow_list_not_type rest h)) m lists.Tokens
    ∙ again-list TokenDecl IsTokenItem may_follow_token_name (with_tokens m) (λ ks. lists.Tokens) refl token_unquoted (again-token m) (later-token m) t (IsHead-weaker may_follow_list may_follow_token_name may_follow_list_token_name rest h)
    ∙ at_end (with_tokens m ks) lists.Tokens rest h
again-declaration (spelling.Declaration.starts {m = m} {x = x} {xs = xs} {mid = mid} {rest = rest} {ks = ks} e o t) h =
    let quiet = IsHead-weaker may_follow_list is_not_type may_follow_list_not_type rest h in
    run-step m places.Declarations x xs _ (declare_step m x signs.Start e)
    ∙ again-type o (ListOf-head is_not_type refl word_untyped t quiet) m lists.Starts
    ∙ again-list (List ℕ) IsWordItem is_not_type (with_starts m) (λ ks. lists.Starts) refl word_untyped (again-start m) (later-start m) t quiet
    ∙ at_end (with_starts m ks) lists.Starts rest h
again-declaration (spelling.Declaration.types {m = m} {x = x} {y = y} {xs = xs} e f t) h =
    run-step m places.Declarations x (y ∷ xs) _ (declare_step m x signs.Type e) ∙ run-step m places.TypeOf y xs _ (type_step m y f) ∙ again-actuals t h m false
again-declaration (spelling.Declaration.levels {m = m} {x = x} {xs = xs} {rest = rest} {g = g} {ks = ks} e t) h =
    run-step m places.Declarations x xs _ (declare_step m x (signs.Level g) e)
    ∙ again-list Ref IsRef is_not_type (λ ks. m) (λ ks. lists.Levels g ks) refl ref_head (again-name m g) (later-name m g) t (IsHead-weaker may_follow_list is_not_type may_follow_list_not_type rest h)
    ∙ at_end m (lists.Levels g ks) rest h
again-declaration (spelling.Declaration.on_error {m = m} {x = x} {xs = xs} e t) h = run-step m places.Declarations x xs _ (declare_step m x signs.OnErrorReduce e) ∙ again-actuals t h m true
again-declaration (spelling.Declaration.parameter {m = m} {x = x} {y = y} {xs = xs} e f) h =
    run-step m places.Declarations x (y ∷ xs) _ (declare_step m x signs.Parameter e) ∙ run-step m places.ParameterType y xs _ (parameter_step m y f)
again-declaration (spelling.Declaration.attribute {m = m} {x = x} {xs = xs} e t) h = run-step m places.Declarations x xs _ (declare_step m x signs.Attribute e) ∙ again-actuals t h m false

-- Lemmas on productions.

-- Token kinds that may follow a word that is the head of a producer, not its name.
abbrev is_unnamed : TokenKind → Bool
is_unnamed signs.Equals = false
is_unnamed _ = true

name_follow_unnamed : (g : TokenKind) → may_follow_name g ≡ true → is_unnamed g ≡ true
name_follow_unnamed signs.Equals e = e
name_follow_unnamed _ e = refl

named_step : (m : Module) (d : RuleDraft) (name : List ℕ) (g : TokenKind) (text : List ℕ) → is_unnamed g ≡ true → machine.at_named m d name g text ≡ machine.at_head m (purposes.Producer d) [] (Plain name) g text
named_step m d name signs.Equals text e = cc
named_step m d name _ text e = refl

at_unnamed : (m : Module) (d : RuleDraft) (name : List ℕ) (xs : List FileToken) → IsHead is_unnamed xs → run (at m (places.Named d name)) xs ≡ run (at m (places.Head (purposes.Producer d) [] (Plain name))) xs
unfolding next_at finish_at
at_unnamed m d name [] h = refl
at_unnamed m d name (x ∷ xs) h = run-same_step m m (places.Named d name) (places.Head (purposes.Producer d) [] (Plain name)) x xs (named_step m d name x.sign x.text h)

first_word : (m : Module) (d : RuleDraft) (g : TokenKind) (text : List ℕ) (c : Option ℕ) (r : Ref) (xs : List FileToken) → IsHead is_unnamed xs → ref_by g text ≡ Some r →
    go_on (machine.in_production m d g text) (λ t. run (parser_with_cost c t) xs) ≡ run (at m (places.Head (purposes.Producer d) [] r)) xs
first_word m d signs.Word text c r xs h e = let same : Plain text ≡ r = cc in at_unnamed m d text xs h ∙ ap (λ k. run (at m (places.Head (purposes.Producer d) [] k)) xs) same
first_word m d signs.Quoted text c r xs h e = let same : Alias text ≡ r = cc in ap (λ k. run (at m (places.Head (purposes.Producer d) [] k)) xs) same
first_word m d _ text c r xs h e = cc

at_first : (m : Module) (d : RuleDraft) (x : FileToken) (xs : List FileToken) (r : Ref) → ref_of x ≡ Some r → IsHead is_unnamed xs →
    run (at m (places.Production d)) (x ∷ xs) ≡ run (at m (places.Argument (purposes.Producer d) [])) (x ∷ xs)
unfolding next_at
at_first m d x xs r e h = first_word m d x.sign x.text x.cost r xs h e ∙ sym (run-step m (places.Argument (purposes.Producer d) []) x xs _ (at_argument m (purposes.Producer d) [] x r e))

at_actual : {xs rest : List FileToken} {a : Actual} {d : ℕ} → IsActual xs rest a d → IsHead may_follow_actual rest → (m : Module) (t : RuleDraft) →
    run (at m (places.Production t)) xs ≡ run (at m (places.Argument (purposes.Producer t) [])) xs
at_actual (spelling.IsActual.actual {mid = mid} (spelling.Unsuffixed.plain {x = x} {xs = xs} {r = r} e) s) h m t = at_first m t x xs r e (IsHead-weaker may_follow_name is_unnamed name_follow_unnamed mid (Suffixed-follows_name s h))
at_actual (spelling.IsActual.actual (spelling.Unsuffixed.with_args {x = x} {y = y} {xs = xs} {r = r} e o b) s) h m t = at_first m t x (y ∷ xs) r e (holds_for_sign is_unnamed y signs.Open o refl)

at_produced : (m : Module) (t : RuleDraft) (a : Actual) (d : ℕ) (xs : List FileToken) → IsHead may_follow_actual xs →
    run (at m (places.After (purposes.Producer t) [] a d)) xs ≡ run (at m (places.Spaced (with_producer t a))) xs
unfolding next_at finish_at
at_produced m t a d [] h = refl
at_produced m t a d (x ∷ xs) h = run-same_step m m (places.After (purposes.Producer t) [] a d) (places.Spaced (with_producer t a)) x xs (step_after_actual m (purposes.Producer t) a d x.sign x.text h)

production_word : (m : Module) (t : RuleDraft) (x : FileToken) → x.sign ≡ signs.Word → next_at m (places.Production t) x.sign x.text ≡ Some (at m (places.Named t x.text))
unfolding next_at
production_word m t x e = rw e refl

named_equals : (m : Module) (t : RuleDraft) (name : List ℕ) (x : FileToken) → x.sign ≡ signs.Equals → next_at m (places.Named t name) x.sign x.text ≡ Some (at m (places.Argument (purposes.Producer t) []))
unfolding next_at
named_equals m t name x e = rw e refl

again-producer : {xs rest : List FileToken} {a : Actual} → IsProducer xs rest a → IsHead may_follow_actual rest → (m : Module) (t : RuleDraft) →
    run (at m (places.Production t)) xs ≡ run (at m (places.Spaced (with_producer t a))) rest
again-producer {rest = rest} {a = a} (spelling.IsProducer.unnamed (spelling.LimitedActual.limited {d = d} h l)) q m t =
    at_actual h q m t ∙ again-actual h q m (purposes.Producer t) [] (top_level d l) ∙ at_produced m t a d rest q
again-producer {rest = rest} {a = a} (spelling.IsProducer.named {x = x} {y = y} {xs = xs} e f (spelling.LimitedActual.limited {d = d} h l)) q m t =
    run-step m (places.Production t) x (y ∷ xs) _ (production_word m t x e) ∙ run-step m (places.Named t x.text) y xs _ (named_equals m t x.text y f)
    ∙ again-actual h q m (purposes.Producer t) [] (top_level d l) ∙ at_produced m t a d rest q

spaced_step : (m : Module) (t : RuleDraft) (g : TokenKind) (text : List ℕ) → may_follow_producers g ≡ true → machine.after_producer m t g text ≡ machine.in_production m t g text
spaced_step m t signs.Semicolon text e = cc
spaced_step m t _ text e = refl

run-after_producers : (m : Module) (t : RuleDraft) (xs : List FileToken) → IsHead may_follow_producers xs → run (at m (places.Spaced t)) xs ≡ run (at m (places.Production t)) xs
unfolding next_at finish_at
run-after_producers m t [] h = refl
run-after_producers m t (x ∷ xs) h = run-same_step m m (places.Spaced t) (places.Production t) x xs (spaced_step m t x.sign x.text h)

spaced_semicolon : (m : Module) (t : RuleDraft) (x : FileToken) → x.sign ≡ signs.Semicolon → next_at m (places.Spaced t) x.sign x.text ≡ Some (at m (places.Spaced t))
unfolding next_at
spaced_semicolon m t x e = rw e refl

again-spaces : {xs rest : List FileToken} → Semicolons xs rest → IsHead may_follow_producers rest → (m : Module) (t : RuleDraft) → run (at m (places.Spaced t)) xs ≡ run (at m (places.Production t)) rest
again-spaces (spelling.Semicolons.none {xs = xs}) h m t = run-after_producers m t xs h
again-spaces (spelling.Semicolons.more {x = x} {xs = xs} e s) h m t = run-step m (places.Spaced t) x xs _ (spaced_semicolon m t x e) ∙ again-spaces s h m t

abbrev draft : Rule → List Alternative → List Actual → RuleDraft
draft r ks ps = record { rule = r; productions = ks; producers = ps }

again-producers : {done all : List Actual} {xs rest : List FileToken} → Producers done xs rest all → IsHead may_follow_producers rest → (m : Module) (r : Rule) (ks : List Alternative) →
    run (at m (places.Production (draft r ks done))) xs ≡ run (at m (places.Production (draft r ks all))) rest
again-producers spelling.Producers.none h m r ks = refl
again-producers (spelling.Producers.more {done = done} {a = a} p s t) h m r ks =
    let firm = Producers-follow_producers t h in
    again-producer p (Semicolons-follow_actual s firm) m (draft r ks done) ∙ again-spaces s firm m (draft r ks (done ++ a ∷ [])) ∙ again-producers t h m r ks

-- Lemmas on the end of a production.
production_action : (m : Module) (t : RuleDraft) (x : FileToken) → x.sign ≡ signs.Action → next_at m (places.Production t) x.sign x.text ≡ Some (at m (places.Group (with_production t None)))
unfolding next_at
production_action m t x e = rw e refl

production_bar : (m : Module) (t : RuleDraft) (x : FileToken) → x.sign ≡ signs.Bar → next_at m (places.Production t) x.sign x.text ≡ Some (at m (places.Production (with_production t None)))
unfolding next_at
production_bar m t x e = rw e refl

production_prec : (m : Module) (t : RuleDraft) (x : FileToken) → x.sign ≡ signs.Prec → next_at m (places.Production t) x.sign x.text ≡ Some (at m (places.Prec t))
unfolding next_at
production_prec m t x e = rw e refl

prec_ref : (m : Module) (t : RuleDraft) (x : FileToken) (r : Ref) → ref_of x ≡ Some r → next_at m (places.Prec t) x.sign x.text ≡ Some (at m (places.Closed (with_production t (Some r))))
unfolding next_at
prec_ref m t x r e = rw e refl

closed_action : (m : Module) (t : RuleDraft) (x : FileToken) → x.sign ≡ signs.Action → next_at m (places.Closed t) x.sign x.text ≡ Some (at m (places.Group t))
unfolding next_at
closed_action m t x e = rw e refl

closed_bar : (m : Module) (t : RuleDraft) (x : FileToken) → x.sign ≡ signs.Bar → next_at m (places.Closed t) x.sign x.text ≡ Some (at m (places.Production (record t { producers = [] })))
unfolding next_at
closed_bar m t x e = rw e refl

again-last : {xs rest : List FileToken} {z : FileToken} {p : Option Ref} → IsPrec xs (z ∷ rest) p → z.sign ≡ signs.Action → (m : Module) (t : RuleDraft) →
    run (at m (places.Production t)) xs ≡ run (at m (places.Group (with_production t p))) rest
again-last {rest = rest} {z = z} spelling.IsPrec.absent g m t = run-step m (places.Production t) z rest _ (production_action m t z g)
again-last {rest = rest} {z = z} (spelling.IsPrec.given {x = x} {y = y} {r = r} e f) g m t =
    run-step m (places.Production t) x (y ∷ z ∷ rest) _ (production_prec m t x e) ∙ run-step m (places.Prec t) y (z ∷ rest) _ (prec_ref m t y r f)
    ∙ run-step m (places.Closed (with_production t (Some r))) z rest _ (closed_action m (with_production t (Some r)) z g)

again-more : {xs rest : List FileToken} {z : FileToken} {p : Option Ref} → IsPrec xs (z ∷ rest) p → z.sign ≡ signs.Bar → (m : Module) (t : RuleDraft) →
    run (at m (places.Production t)) xs ≡ run (at m (places.Production (with_production t p))) rest
again-more {rest = rest} {z = z} spelling.IsPrec.absent g m t = run-step m (places.Production t) z rest _ (production_bar m t z g)
again-more {rest = rest} {z = z} (spelling.IsPrec.given {x = x} {y = y} {r = r} e f) g m t =
    run-step m (places.Production t) x (y ∷ z ∷ rest) _ (production_prec m t x e) ∙ run-step m (places.Prec t) y (z ∷ rest) _ (prec_ref m t y r f)
    ∙ run-step m (places.Closed (with_production t (Some r))) z rest _ (closed_bar m (with_production t (Some r)) z g)

again-productions : {done all : List Alternative} {xs rest : List FileToken} → Productions done xs rest all → (m : Module) (r : Rule) →
    run (at m (places.Production (draft r done []))) xs ≡ run (at m (places.Group (draft r all []))) rest
again-productions (spelling.Productions.last {done = done} {y = y} {ps = ps} b c e) m r =
    again-producers b (IsPrec-follows_producers c (holds_for_sign may_follow_producers y signs.Action e refl)) m r done ∙ again-last c e m (draft r done ps)
again-productions (spelling.Productions.more {done = done} {y = y} {ps = ps} b c e t) m r =
    again-producers b (IsPrec-follows_producers c (holds_for_sign may_follow_producers y signs.Bar e refl)) m r done ∙ again-more c e m (draft r done ps) ∙ again-productions t m r

-- Lemmas on groups.

with_none : (a : Alternative) → with_prec None a ≡ a
with_none a = ap (λ k. alternative a.producers k) (own a.prec)
  where
    own : (p : Option Ref) → own_or None p ≡ p
    own None = refl
    own (Some r) = refl

pub map-without_prec : (ks : List Alternative) → map (with_prec None) ks ≡ ks
map-without_prec [] = refl
map-without_prec (a ∷ ks) = rw (with_none a, map-without_prec ks) refl

group_step : (m : Module) (t : RuleDraft) (g : TokenKind) (text : List ℕ) → is_not_prec g ≡ true → machine.at_group m t g text ≡ machine.after_group m (with_productions t) g text
group_step m t signs.Prec text e = cc
group_step m t _ text e = refl

at_unlevelled : (m : Module) (t : RuleDraft) (xs : List FileToken) → IsHead is_not_prec xs → run (at m (places.Group t)) xs ≡ run (at m (places.GroupClosed (with_productions t))) xs
unfolding next_at finish_at
at_unlevelled m t [] h = refl
at_unlevelled m t (x ∷ xs) h = run-same_step m m (places.Group t) (places.GroupClosed (with_productions t)) x xs (group_step m t x.sign x.text h)

group_prec : (m : Module) (t : RuleDraft) (x : FileToken) → x.sign ≡ signs.Prec → next_at m (places.Group t) x.sign x.text ≡ Some (at m (places.GroupPrec t))
unfolding next_at
group_prec m t x e = rw e refl

group_ref : (m : Module) (t : RuleDraft) (x : FileToken) (r : Ref) → ref_of x ≡ Some r → next_at m (places.GroupPrec t) x.sign x.text ≡ Some (at m (places.GroupClosed (with_productions_of_prec t r)))
unfolding next_at
group_ref m t x r e = rw e refl

abbrev with_alternatives : Rule → List Alternative → Rule
with_alternatives r ks = record r { alternatives = ks }

again-group : {xs rest : List FileToken} {g : Option Ref} → IsPrec xs rest g → IsHead is_not_prec rest → (m : Module) (r : Rule) (ks : List Alternative) →
    run (at m (places.Group (draft r ks []))) xs ≡ run (at m (places.GroupClosed (with_alternatives r (r.alternatives ++ map (with_prec g) ks)))) rest
again-group (spelling.IsPrec.absent {xs = xs}) h m r ks =
    at_unlevelled m (draft r ks []) xs h ∙ ap (λ l. run (at m (places.GroupClosed (with_alternatives r (r.alternatives ++ l)))) xs) (sym (map-without_prec ks))
again-group (spelling.IsPrec.given {x = x} {y = y} {xs = xs} {r = q} e f) h m r ks =
    run-step m (places.Group (draft r ks [])) x (y ∷ xs) _ (group_prec m (draft r ks []) x e) ∙ run-step m (places.GroupPrec (draft r ks [])) y xs _ (group_ref m (draft r ks []) y q f)

closed_group : (m : Module) (r : Rule) (x : FileToken) → x.sign ≡ signs.Bar → next_at m (places.GroupClosed r) x.sign x.text ≡ Some (at m (places.Production (new_draft r)))
unfolding next_at
closed_group m r x e = rw e refl

again-groups : {done all : List Alternative} {xs rest : List FileToken} → Groups done xs rest all → IsHead is_not_prec rest → (m : Module) (r : Rule) →
    run (at m (places.Production (new_draft (with_alternatives r done)))) xs ≡ run (at m (places.GroupClosed (with_alternatives r all))) rest
again-groups (spelling.Groups.last {done = done} {ks = ks} b c) h m r = again-productions b m (with_alternatives r done) ∙ again-group c h m (with_alternatives r done) ks
again-groups (spelling.Groups.more {done = done} {ks = ks} {y = y} {next = next} {g = g} b c e t) h m r =
    again-productions b m (with_alternatives r done) ∙ again-group c (holds_for_sign is_not_prec y signs.Bar e refl) m (with_alternatives r done) ks
    ∙ run-step m (places.GroupClosed (with_alternatives r (done ++ map (with_prec g) ks))) y next _ (closed_group m (with_alternatives r (done ++ map (with_prec g) ks)) y e)
    ∙ again-groups t h m r

-- Lemmas on rules.

modified_word : (m : Module) (p i : Bool) (x : FileToken) → x.sign ≡ signs.Word → next_at m (places.Modified p i) x.sign x.text ≡ Some (at m (places.RuleNamed (named p i x.text)))
unfolding next_at
modified_word m p i x e = rw e refl

modified_public : (m : Module) (p i : Bool) (x : FileToken) → x.sign ≡ signs.Public → next_at m (places.Modified p i) x.sign x.text ≡ Some (at m (places.Modified true i))
unfolding next_at
modified_public m p i x e = rw e refl

modified_inline : (m : Module) (p i : Bool) (x : FileToken) → x.sign ≡ signs.Inline → next_at m (places.Modified p i) x.sign x.text ≡ Some (at m (places.Modified p true))
unfolding next_at
modified_inline m p i x e = rw e refl

again-modifiers : {xs rest : List FileToken} {x : FileToken} {p i q j : Bool} → Modifiers p i xs (x ∷ rest) q j → x.sign ≡ signs.Word → (m : Module) →
    run (at m (places.Modified p i)) xs ≡ run (at m (places.RuleNamed (named q j x.text))) rest
again-modifiers {rest = rest} {x = x} {p = p} {i = i} spelling.Modifiers.none e m = run-step m (places.Modified p i) x rest _ (modified_word m p i x e)
again-modifiers {p = p} {i = i} (spelling.Modifiers.public {x = y} {xs = ys} f t) e m = run-step m (places.Modified p i) y ys _ (modified_public m p i y f) ∙ again-modifiers t e m
again-modifiers {p = p} {i = i} (spelling.Modifiers.inlined {x = y} {xs = ys} f t) e m = run-step m (places.Modified p i) y ys _ (modified_inline m p i y f) ∙ again-modifiers t e m

-- The tokens with which a rule without modifiers begins, or continues after its modifiers. On such a token the parser
-- steps at the beginning of a rule as it does after the modifiers of a rule.
abbrev is_modified : TokenKind → Bool
is_modified signs.Word = true
is_modified signs.Public = true
is_modified signs.Inline = true
is_modified _ = false

rules_step : (m : Module) (g : TokenKind) (text : List ℕ) → is_modified g ≡ true → machine.in_rules m g text ≡ machine.at_modified m false false g text
rules_step m signs.Word text e = refl
rules_step m signs.Public text e = refl
rules_step m signs.Inline text e = refl
rules_step m signs.Percents text e = cc
rules_step m _ text e = refl

Modifiers-head : {xs rest : List FileToken} {x : FileToken} {p i q j : Bool} → Modifiers p i xs (x ∷ rest) q j → x.sign ≡ signs.Word → IsHead is_modified xs
Modifiers-head {x = x} spelling.Modifiers.none e = holds_for_sign is_modified x signs.Word e refl
Modifiers-head (spelling.Modifiers.public {x = y} f t) e = holds_for_sign is_modified y signs.Public f refl
Modifiers-head (spelling.Modifiers.inlined {x = y} f t) e = holds_for_sign is_modified y signs.Inline f refl

at_modifier : (m : Module) (xs : List FileToken) (x : FileToken) (rest : List FileToken) (q j : Bool) → Modifiers false false xs (x ∷ rest) q j → IsHead is_modified xs →
    run (at m places.Rules) xs ≡ run (at m (places.Modified false false)) xs
unfolding next_at
at_modifier m [] x rest q j t h = absurd (never t)
  where
    never : Modifiers false false [] (x ∷ rest) q j → ⊥
    never t = elim t [ ]
at_modifier m (y ∷ ys) x rest q j t h = run-same_step m m places.Rules (places.Modified false false) y ys (rules_step m y.sign y.text h)

rule_colon : (m : Module) (r : Rule) (x : FileToken) → x.sign ≡ signs.Colon → next_at m (places.RuleNamed r) x.sign x.text ≡ Some (at m (places.Begin r))
unfolding next_at
rule_colon m r x e = rw e refl

rule_open : (m : Module) (r : Rule) (x : FileToken) → x.sign ≡ signs.Open → next_at m (places.RuleNamed r) x.sign x.text ≡ Some (at m (places.FormalsOpen r))
unfolding next_at
rule_open m r x e = rw e refl

open_close : (m : Module) (r : Rule) (x : FileToken) → x.sign ≡ signs.Close → next_at m (places.FormalsOpen r) x.sign x.text ≡ Some (at m (places.FormalsClosed r))
unfolding next_at
open_close m r x e = rw e refl

closed_colon : (m : Module) (r : Rule) (x : FileToken) → x.sign ≡ signs.Colon → next_at m (places.FormalsClosed r) x.sign x.text ≡ Some (at m (places.Begin r))
unfolding next_at
closed_colon m r x e = rw e refl

abbrev with_formals : Rule → List (List ℕ) → Rule
with_formals r fs = record r { formals = fs }

comma_word : (m : Module) (r : Rule) (done : List (List ℕ)) (x : FileToken) → x.sign ≡ signs.Word →
    next_at m (places.FormalComma (with_formals r done)) x.sign x.text ≡ Some (at m (places.FormalRead (with_formals r (done ++ x.text ∷ []))))
unfolding next_at
comma_word m r done x e = rw e refl

open_word : (m : Module) (r : Rule) (done : List (List ℕ)) (x : FileToken) → x.sign ≡ signs.Word →
    next_at m (places.FormalsOpen (with_formals r done)) x.sign x.text ≡ Some (at m (places.FormalRead (with_formals r (done ++ x.text ∷ []))))
unfolding next_at
open_word m r done x e = rw e refl

read_comma : (m : Module) (r : Rule) (x : FileToken) → x.sign ≡ signs.Comma → next_at m (places.FormalRead r) x.sign x.text ≡ Some (at m (places.FormalComma r))
unfolding next_at
read_comma m r x e = rw e refl

read_close : (m : Module) (r : Rule) (x : FileToken) → x.sign ≡ signs.Close → next_at m (places.FormalRead r) x.sign x.text ≡ Some (at m (places.FormalsClosed r))
unfolding next_at
read_close m r x e = rw e refl

again-formals : {done all : List (List ℕ)} {xs rest : List FileToken} → Formals done xs rest all → (m : Module) (r : Rule) →
    run (at m (places.FormalComma (with_formals r done))) xs ≡ run (at m (places.FormalsClosed (with_formals r all))) rest
again-formals (spelling.Formals.last {done = done} {x = x} {y = y} {xs = xs} e f) m r =
    run-step m (places.FormalComma (with_formals r done)) x (y ∷ xs) _ (comma_word m r done x e)
    ∙ run-step m (places.FormalRead (with_formals r (done ++ x.text ∷ []))) y xs _ (read_close m (with_formals r (done ++ x.text ∷ [])) y f)
again-formals (spelling.Formals.more {done = done} {x = x} {y = y} {xs = xs} e f t) m r =
    run-step m (places.FormalComma (with_formals r done)) x (y ∷ xs) _ (comma_word m r done x e)
    ∙ run-step m (places.FormalRead (with_formals r (done ++ x.text ∷ []))) y xs _ (read_comma m (with_formals r (done ++ x.text ∷ [])) y f) ∙ again-formals t m r

at_formals : {done all : List (List ℕ)} {xs rest : List FileToken} → Formals done xs rest all → (m : Module) (r : Rule) →
    run (at m (places.FormalsOpen (with_formals r done))) xs ≡ run (at m (places.FormalComma (with_formals r done))) xs
at_formals (spelling.Formals.last {done = done} {x = x} {y = y} {xs = xs} e f) m r =
    run-step m (places.FormalsOpen (with_formals r done)) x (y ∷ xs) _ (open_word m r done x e) ∙ sym (run-step m (places.FormalComma (with_formals r done)) x (y ∷ xs) _ (comma_word m r done x e))
at_formals (spelling.Formals.more {done = done} {x = x} {y = y} {xs = xs} e f t) m r =
    run-step m (places.FormalsOpen (with_formals r done)) x (y ∷ xs) _ (open_word m r done x e) ∙ sym (run-step m (places.FormalComma (with_formals r done)) x (y ∷ xs) _ (comma_word m r done x e))

again-may-formals : {done fs : List (List ℕ)} {xs rest : List FileToken} {y : FileToken} → OptionalFormals done xs (y ∷ rest) fs → y.sign ≡ signs.Colon → (m : Module) (r : Rule) →
    run (at m (places.RuleNamed (with_formals r done))) xs ≡ run (at m (places.Begin (with_formals r fs))) rest
again-may-formals {rest = rest} {y = y} (spelling.OptionalFormals.absent {done = done}) e m r = run-step m (places.RuleNamed (with_formals r done)) y rest _ (rule_colon m (with_formals r done) y e)
again-may-formals {rest = rest} {y = y} (spelling.OptionalFormals.empty {done = done} {x = x} {y = z} o c) e m r =
    run-step m (places.RuleNamed (with_formals r done)) x (z ∷ y ∷ rest) _ (rule_open m (with_formals r done) x o)
    ∙ run-step m (places.FormalsOpen (with_formals r done)) z (y ∷ rest) _ (open_close m (with_formals r done) z c)
    ∙ run-step m (places.FormalsClosed (with_formals r done)) y rest _ (closed_colon m (with_formals r done) y e)
again-may-formals {fs = fs} {rest = rest} {y = y} (spelling.OptionalFormals.given {done = done} {x = x} {xs = xs} o t) e m r =
    run-step m (places.RuleNamed (with_formals r done)) x xs _ (rule_open m (with_formals r done) x o)
    ∙ at_formals t m r ∙ again-formals t m r
    ∙ run-step m (places.FormalsClosed (with_formals r fs)) y rest _ (closed_colon m (with_formals r fs) y e)

begin_step : (m : Module) (r : Rule) (g : TokenKind) (text : List ℕ) → is_bar g ≡ false → machine.at_begin m r g text ≡ machine.in_production m (new_draft r) g text
begin_step m r signs.Bar text e = cc
begin_step m r _ text e = refl

at_no_bar : (m : Module) (r : Rule) (xs : List FileToken) → starts_with_bar xs ≡ false → run (at m (places.Begin r)) xs ≡ run (at m (places.Production (new_draft r))) xs
unfolding next_at finish_at
at_no_bar m r [] h = refl
at_no_bar m r (x ∷ xs) h = run-same_step m m (places.Begin r) (places.Production (new_draft r)) x xs (begin_step m r x.sign x.text h)

begin_bar : (m : Module) (r : Rule) (x : FileToken) → x.sign ≡ signs.Bar → next_at m (places.Begin r) x.sign x.text ≡ Some (at m (places.Production (new_draft r)))
unfolding next_at
begin_bar m r x e = rw e refl

again-bar : {xs rest : List FileToken} → OptionalBar xs rest → (m : Module) (r : Rule) → run (at m (places.Begin r)) xs ≡ run (at m (places.Production (new_draft r))) rest
again-bar (spelling.OptionalBar.absent {xs = xs} h) m r = at_no_bar m r xs h
again-bar (spelling.OptionalBar.given {x = x} {xs = xs} e) m r = run-step m (places.Begin r) x xs _ (begin_bar m r x e)

closed_step : (m : Module) (r : Rule) (g : TokenKind) (text : List ℕ) → may_begin_rule g ≡ true → machine.after_group m r g text ≡ machine.in_rules (with_rule m r) g text
closed_step m r signs.Bar text e = cc
closed_step m r signs.Semicolon text e = cc
closed_step m r _ text e = refl

at_closed_rule : (m : Module) (r : Rule) (xs : List FileToken) → IsHead may_begin_rule xs → run (at m (places.GroupClosed r)) xs ≡ run (at (with_rule m r) places.Rules) xs
unfolding next_at finish_at
at_closed_rule m r [] h = refl
at_closed_rule m r (x ∷ xs) h = run-same_step m (with_rule m r) (places.GroupClosed r) places.Rules x xs (closed_step m r x.sign x.text h)

end_step : (m : Module) (g : TokenKind) (text : List ℕ) → may_begin_rule g ≡ true → machine.at_rule_end m g text ≡ machine.in_rules m g text
end_step m signs.Semicolon text e = cc
end_step m _ text e = refl

at_ended_rule : (m : Module) (xs : List FileToken) → IsHead may_begin_rule xs → run (at m places.RuleEnd) xs ≡ run (at m places.Rules) xs
unfolding next_at finish_at
at_ended_rule m [] h = refl
at_ended_rule m (x ∷ xs) h = run-same_step m m places.RuleEnd places.Rules x xs (end_step m x.sign x.text h)

end_semicolon : (m : Module) (x : FileToken) → x.sign ≡ signs.Semicolon → next_at m places.RuleEnd x.sign x.text ≡ Some (at m places.RuleEnd)
unfolding next_at
end_semicolon m x e = rw e refl

closed_semicolon : (m : Module) (r : Rule) (x : FileToken) → x.sign ≡ signs.Semicolon → next_at m (places.GroupClosed r) x.sign x.text ≡ Some (at (with_rule m r) places.RuleEnd)
unfolding next_at
closed_semicolon m r x e = rw e refl

again-ends : {xs rest : List FileToken} → Semicolons xs rest → IsHead may_begin_rule rest → (m : Module) → run (at m places.RuleEnd) xs ≡ run (at m places.Rules) rest
again-ends (spelling.Semicolons.none {xs = xs}) h m = at_ended_rule m xs h
again-ends (spelling.Semicolons.more {x = x} {xs = xs} e s) h m = run-step m places.RuleEnd x xs _ (end_semicolon m x e) ∙ again-ends s h m

again-semicolons : {xs rest : List FileToken} → Semicolons xs rest → IsHead may_begin_rule rest → (m : Module) (r : Rule) → run (at m (places.GroupClosed r)) xs ≡ run (at (with_rule m r) places.Rules) rest
again-semicolons (spelling.Semicolons.none {xs = xs}) h m r = at_closed_rule m r xs h
again-semicolons (spelling.Semicolons.more {x = x} {xs = xs} e s) h m r = run-step m (places.GroupClosed r) x xs _ (closed_semicolon m r x e) ∙ again-ends s h (with_rule m r)

again-rule : {xs rest : List FileToken} {r : Rule} → IsRule xs rest r → IsHead may_begin_rule rest → (m : Module) → run (at m places.Rules) xs ≡ run (at (with_rule m r) places.Rules) rest
again-rule {xs = xs} (spelling.IsRule.rule {x = x} {y = y} {named = before} {p = p} {i = i} {fs = fs} {ks = ks} a e f c b g s) h m =
    at_modifier m xs x before p i a (Modifiers-head a e) ∙ again-modifiers a e m ∙ again-may-formals f c m (named p i x.text)
    ∙ again-bar b m (with_formals (named p i x.text) fs)
    ∙ again-groups g (Semicolons-not_prec s h) m (with_formals (named p i x.text) fs)
    ∙ again-semicolons s h m (with_alternatives (with_formals (named p i x.text) fs) ks)

rules_percents : (m : Module) (x : FileToken) → x.sign ≡ signs.Percents → next_at m places.Rules x.sign x.text ≡ Some (at m places.Ended)
unfolding next_at
rules_percents m x e = rw e refl

again-rules : {m out : Module} {xs : List FileToken} → Rules m xs out → run (at m places.Rules) xs ≡ Some out
unfolding finish_at
again-rules spelling.Rules.none = refl
again-rules (spelling.Rules.trailer {m = m} {x = x} e) = run-step m places.Rules x [] _ (rules_percents m x e)
again-rules (spelling.Rules.more {m = m} r t) = again-rule r (Rules-begin_rule t) m ∙ again-rules t

-- The parser reads each module that the lexemes of a file spell.
pub run-file : {m out : Module} {xs : List FileToken} → File m xs out → run (at m places.Declarations) xs ≡ Some out
run-file (spelling.File.declared d f) = again-declaration d (File-follows_list f) ∙ run-file f
run-file (spelling.File.ruled {m = m} {x = x} {xs = xs} e r) = run-step m places.Declarations x xs _ (declare_step m x signs.Percents e) ∙ again-rules r
