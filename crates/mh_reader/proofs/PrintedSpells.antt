-- Proves that the text printed for a module spells this module, if some bytes spell it.
use Rattle.std.proofs.Common.{◌≡◌, ◌≢◌, ◌+◌, ◌-◌, ◌<◌, ℕ, List, [], ◌∷◌, ◌++◌, length, take, drop, map, Option, Some, None, Bool, true, false, Result, Ok, Err, codes, decimal, refl, sym, ap, subst, ◌∙◌, append_assoc, length-append, arith}
use Rattle.std.specs.Prelude.{IfSome}
use Rattle.std.specs.Option.{option_or}
use Rattle.std.specs.List.{AllByRecursion, flat_map}
use Rattle.std.proofs.lemmas.List.{append-nil}
use Rattle.mh_grammar.proofs.Lists.{recursion-append}
use Rattle.mh_grammar.specs.declared.types.Assoc.{Assoc}
use Rattle.mh_grammar.specs.declared.types.Assoc.TheVariants.{Left, Right, Nonassoc}
use Rattle.mh_lex.specs.declared.kinds.Kind.{Kind}
use Rattle.mh_lex.specs.declared.kinds.Kind.TheVariants as kinds
use Rattle.mh_lex.specs.declared.kinds.SyntaxFault.{SyntaxFault}
use Rattle.mh_lex.specs.declared.kinds.SyntaxFault.TheVariants.{Syntax, Memory}
use Rattle.mh_lex.specs.declared.kinds.Lexeme.{Lexeme}
use Rattle.mh_lex_bytes.specs.Keywords.{keywords, is_keyword}
use Rattle.mh_lex.specs.LexemeTexts as texts
use Rattle.mh_lex.specs.LexemeTexts.{LexemeText, IsText, is_content, laid_out, laid_out_lexemes, count_of_percents, percents_in, bytes_of}
use Rattle.mh_lex.proofs.LaidOutTexts.{drop_prefix, laid_out_lexes, take_prefix}
use Rattle.mh_lex.proofs.LexemesHaveText.{lexemes_spelled}
use Rattle.mh_rules.specs.declared.modules.Ref.{Ref}
use Rattle.mh_rules.specs.declared.modules.Actual.{Actual}
use Rattle.mh_rules.specs.declared.modules.Alternative.{Alternative}
use Rattle.mh_rules.specs.declared.modules.Rule.{Rule}
use Rattle.mh_rules.specs.declared.modules.TokenDecl.{TokenDecl}
use Rattle.mh_rules.specs.declared.modules.LevelDecl.{LevelDecl}
use Rattle.mh_rules.specs.declared.modules.Module.{Module}
use Rattle.mh_reader_parser.specs.declared.token_kinds.TokenKind.TheVariants as signs
use Rattle.mh_reader_parser.specs.Costs.{cost_of}
use Rattle.mh_reader_parser.specs.TokenKinds.{FileToken, cost_at_front, cost_after, file_token_by, token_kind_by, text_by, file_tokens}
use Rattle.mh_reader_parser.specs.Spelling as spelling
use Rattle.mh_rules.specs.Modules.{no_module}
use Rattle.mh_reader_parser.specs.Spelling.{LimitedActual, ListOf, IsAlias, IsTokenItem, IsRef, Declaration, Producers, IsPrec, Productions, Groups, Modifiers, Formals, OptionalFormals, IsRule, Rules, File, Spells}
use Rattle.mh_reader_parser.specs.Faults.{IsReadResult}
use Rattle.mh_reader_parser.specs.code.Pieces.{Piece, word, mark, ref_piece, bracket_end, actual_pieces}
use Rattle.mh_reader.specs.code.Printed.{keyword, percents, action, prec_pieces, alternative_pieces, modifier_pieces, formals_pieces, rule_pieces, alias_pieces, cost_text, cost_pieces, token_pieces, start_pieces, assoc_word, level_pieces, on_error_pieces, module_pieces}
use Rattle.mh_grammar.specs.Costs.{IsCost}
use Rattle.mh_reader_parser.proofs.CostText.{cost_printed, decimal_is_digits}
use Rattle.mh_reader_parser.proofs.ParserComplete.{map-without_prec, option_or-none}
use Rattle.mh_reader_parser.proofs.FitsModule.{quoted_content, lexemes_fit, FitsRef, FitsContent, FitsPrec, is_plain, FitsPiece, Printable, reads, reads-append, reads-ref, ref_of_read, FitsPiece-ref, FitsPiece-mark, FitsActual, FitsToken, FitsAlternative, FitsRule, FitsLevel, FitsModule, FitsModule-spelled}

-- Lemmas on lists in declarations.

refs_again : (ks done : List Ref) (rest : List FileToken) → ListOf Ref IsRef done (reads (map ref_piece ks) rest) rest (done ++ ks)
refs_again [] done rest = subst (λ l. ListOf Ref IsRef done rest rest l) (sym (append-nil done)) spelling.ListOf.none
refs_again (r ∷ ks) done rest =
    subst (λ l. ListOf Ref IsRef done (reads (map ref_piece (r ∷ ks)) rest) rest l) (append_assoc done (r ∷ []) ks)
    (subst (λ xs. ListOf Ref IsRef done xs rest ((done ++ r ∷ []) ++ ks)) (sym (reads-ref r (map ref_piece ks) rest))
    (spelling.ListOf.next (spelling.IsRef.reference (ref_of_read r)) (refs_again ks (done ++ r ∷ []) rest)))

actuals_again : (ks done : List Actual) (rest : List FileToken) → AllByRecursion FitsActual ks → ListOf Actual LimitedActual done (reads (flat_map actual_pieces ks) rest) rest (done ++ ks)
actuals_again [] done rest h = subst (λ l. ListOf Actual LimitedActual done rest rest l) (sym (append-nil done)) spelling.ListOf.none
actuals_again (a ∷ ks) done rest h =
    subst (λ l. ListOf Actual LimitedActual done (reads (flat_map actual_pieces (a ∷ ks)) rest) rest l) (append_assoc done (a ∷ []) ks)
    (subst (λ xs. ListOf Actual LimitedActual done xs rest ((done ++ a ∷ []) ++ ks)) (sym (reads-append (actual_pieces a) (flat_map actual_pieces ks) rest))
    (spelling.ListOf.next (h.0.reads_back (reads (flat_map actual_pieces ks) rest)) (actuals_again ks (done ++ a ∷ []) rest h.1)))

-- Lemmas on declarations.

-- Each item is one declaration, which adds the item to those before it.
declared_again : {A : Type 0} (pieces : A → List Piece) (P : A → Type 0) (made : List A → Module) →
    ((done : List A) (a : A) (rest : List FileToken) → P a → Declaration (made done) (reads (pieces a) rest) rest (made (done ++ a ∷ []))) →
    (ks done : List A) (rest : List FileToken) (out : Module) → AllByRecursion P ks → File (made (done ++ ks)) rest out → File (made done) (reads (flat_map pieces ks) rest) out
declared_again pieces P made one [] done rest out h f = subst (λ l. File (made l) rest out) (append-nil done) f
declared_again pieces P made one (a ∷ ks) done rest out h f =
    subst (λ xs. File (made done) xs out) (sym (reads-append (pieces a) (flat_map pieces ks) rest))
    (spelling.File.declared (one done a (reads (flat_map pieces ks) rest) h.0)
    (declared_again pieces P made one ks (done ++ a ∷ []) rest out h.1 (subst (λ l. File (made l) rest out) (sym (append_assoc done (a ∷ []) ks)) f)))

start_again : (m : Module) (done : List (List ℕ)) (n : List ℕ) (rest : List FileToken) → LexemeText kinds.Word n →
    Declaration (record m { starts = done }) (reads (start_pieces n) rest) rest (record m { starts = done ++ n ∷ [] })
unfolding keywords
start_again m done n rest h = spelling.Declaration.starts refl spelling.OptionalType.absent (spelling.ListOf.next (spelling.IsWordItem.word refl) spelling.ListOf.none)

level_again : (m : Module) (done : List LevelDecl) (l : LevelDecl) (rest : List FileToken) → FitsLevel l →
    Declaration (record m { levels = done }) (reads (level_pieces l) rest) rest (record m { levels = done ++ l ∷ [] })
unfolding keywords
level_again m done l rest h = by l.assoc
  where
    by : (g : Assoc) → Declaration (record m { levels = done }) (reads (keyword (assoc_word g) ∷ map ref_piece l.names) rest) rest (record m { levels = done ++ record { assoc = g; names = l.names } ∷ [] })
    by Left = spelling.Declaration.levels refl (refs_again l.names [] rest)
    by Right = spelling.Declaration.levels refl (refs_again l.names [] rest)
    by Nonassoc = spelling.Declaration.levels refl (refs_again l.names [] rest)

on_error_again : (m : Module) (done : List (List Actual)) (ks : List Actual) (rest : List FileToken) → AllByRecursion FitsActual ks →
    Declaration (record m { on_error = done }) (reads (on_error_pieces ks) rest) rest (record m { on_error = done ++ ks ∷ [] })
unfolding keywords
on_error_again m done ks rest h = spelling.Declaration.on_error refl (actuals_again ks [] rest h)

-- Lemmas on rules.

producers_again : (ks done : List Actual) (rest : List FileToken) → AllByRecursion FitsActual ks → Producers done (reads (flat_map actual_pieces ks) rest) rest (done ++ ks)
producers_again [] done rest h = subst (λ l. Producers done rest rest l) (sym (append-nil done)) spelling.Producers.none
producers_again (a ∷ ks) done rest h =
    subst (λ l. Producers done (reads (flat_map actual_pieces (a ∷ ks)) rest) rest l) (append_assoc done (a ∷ []) ks)
    (subst (λ xs. Producers done xs rest ((done ++ a ∷ []) ++ ks)) (sym (reads-append (actual_pieces a) (flat_map actual_pieces ks) rest))
    (spelling.Producers.more (spelling.IsProducer.unnamed (h.0.reads_back (reads (flat_map actual_pieces ks) rest))) spelling.Semicolons.none (producers_again ks (done ++ a ∷ []) rest h.1)))

prec_again : (p : Option Ref) (rest : List FileToken) → IsPrec (reads (prec_pieces p) rest) rest p
unfolding keywords
prec_again None rest = spelling.IsPrec.absent
prec_again (Some r) rest =
    subst (λ xs. IsPrec (reads (keyword (codes "prec") ∷ []) xs) rest (Some r)) (sym (reads-ref r [] rest)) (spelling.IsPrec.given refl (ref_of_read r))

-- The lexemes of an alternative after its bar.
abbrev pieces_after_bar : Alternative → List Piece
pieces_after_bar a = flat_map actual_pieces a.producers ++ (prec_pieces a.prec ++ action ∷ [])

production_again : (a : Alternative) (rest : List FileToken) → FitsAlternative a → Productions [] (reads (pieces_after_bar a) rest) rest (a ∷ [])
production_again a rest h =
    let ended = reads (action ∷ []) rest in
    let split : reads (pieces_after_bar a) rest ≡ reads (flat_map actual_pieces a.producers) (reads (prec_pieces a.prec) ended) =
    reads-append (flat_map actual_pieces a.producers) (prec_pieces a.prec ++ action ∷ []) rest ∙
    ap (λ xs. reads (flat_map actual_pieces a.producers) xs) (reads-append (prec_pieces a.prec) (action ∷ []) rest) in
    subst (λ xs. Productions [] xs rest (a ∷ [])) (sym split)
    (spelling.Productions.last (producers_again a.producers [] (reads (prec_pieces a.prec) ended) h.producers) (prec_again a.prec ended) refl)

groups_again : (a : Alternative) (ks done : List Alternative) (rest : List FileToken) → FitsAlternative a → AllByRecursion FitsAlternative ks →
    Groups done (reads (pieces_after_bar a ++ flat_map alternative_pieces ks) rest) rest (done ++ a ∷ ks)
groups_again a [] done rest h k =
    subst (λ xs. Groups done xs rest (done ++ a ∷ [])) (sym (reads-append (pieces_after_bar a) [] rest))
    (subst (λ l. Groups done (reads (pieces_after_bar a) rest) rest (done ++ l)) (map-without_prec (a ∷ [])) (spelling.Groups.last (production_again a rest h) spelling.IsPrec.absent))
groups_again a (b ∷ ks) done rest h k =
    let later = reads (pieces_after_bar b ++ flat_map alternative_pieces ks) rest in
    subst (λ xs. Groups done xs rest (done ++ a ∷ b ∷ ks)) (sym (reads-append (pieces_after_bar a) (flat_map alternative_pieces (b ∷ ks)) rest))
    (subst (λ l. Groups done (reads (pieces_after_bar a) (reads (mark 124 ∷ []) later)) rest l) (append_assoc done (a ∷ []) (b ∷ ks))
    (spelling.Groups.more (production_again a (reads (mark 124 ∷ []) later) h) spelling.IsPrec.absent refl
    (subst (λ l. Groups (done ++ l) later rest ((done ++ a ∷ []) ++ b ∷ ks)) (sym (map-without_prec (a ∷ []))) (groups_again b ks (done ++ a ∷ []) rest k.0 k.1))))

modifiers_again : (p i : Bool) (ys : List Piece) (rest : List FileToken) →
    Modifiers false false (reads ((modifier_pieces p (codes "public") ++ modifier_pieces i (codes "inline")) ++ ys) rest) (reads ys rest) p i
unfolding keywords
modifiers_again true true ys rest = spelling.Modifiers.public refl (spelling.Modifiers.inlined refl spelling.Modifiers.none)
modifiers_again true false ys rest = spelling.Modifiers.public refl spelling.Modifiers.none
modifiers_again false true ys rest = spelling.Modifiers.inlined refl spelling.Modifiers.none
modifiers_again false false ys rest = spelling.Modifiers.none

others_again : (n : List ℕ) (ns done : List (List ℕ)) (rest : List FileToken) →
    Formals done (reads (word n ∷ bracket_end (map (λ m. word m ∷ []) ns)) rest) rest (done ++ n ∷ ns)
others_again n [] done rest = spelling.Formals.last refl refl
others_again n (m ∷ ns) done rest =
    subst (λ l. Formals done (reads (word n ∷ bracket_end (map (λ k. word k ∷ []) (m ∷ ns))) rest) rest l) (append_assoc done (n ∷ []) (m ∷ ns))
    (spelling.Formals.more refl refl (others_again m ns (done ++ n ∷ []) rest))

formals_again : (ns : List (List ℕ)) (rest : List FileToken) → OptionalFormals [] (reads (formals_pieces ns) rest) rest ns
formals_again [] rest = spelling.OptionalFormals.absent
formals_again (n ∷ ns) rest = spelling.OptionalFormals.given refl (others_again n ns [] rest)

rule_again : (p i : Bool) (name : List ℕ) (formals : List (List ℕ)) (a : Alternative) (ks : List Alternative) (rest : List FileToken) → FitsAlternative a → AllByRecursion FitsAlternative ks →
    let r : Rule = record { public = p; inlined = i; name = name; formals = formals; alternatives = a ∷ ks } in IsRule (reads (rule_pieces r) rest) rest r
rule_again p i name formals a ks rest h k =
    let body = mark 58 ∷ flat_map alternative_pieces (a ∷ ks) in
    let named = word name ∷ formals_pieces formals ++ body in
    let split : reads named rest ≡ reads (word name ∷ []) (reads (formals_pieces formals) (reads body rest)) = ap (λ xs. reads (word name ∷ []) xs) (reads-append (formals_pieces formals) body rest) in
    spelling.IsRule.rule
    (subst (λ xs. Modifiers false false (reads ((modifier_pieces p (codes "public") ++ modifier_pieces i (codes "inline")) ++ named) rest) xs p i) split (modifiers_again p i named rest))
    refl (formals_again formals (reads body rest)) refl (spelling.OptionalBar.given refl) (groups_again a ks [] rest h k) spelling.Semicolons.none

rule_of_fitting : (r : Rule) (rest : List FileToken) → FitsRule r → IsRule (reads (rule_pieces r) rest) rest r
rule_of_fitting r rest h = by r.alternatives h.some h.alternatives
  where
    by : (ks : List Alternative) → ks ≢ [] → AllByRecursion FitsAlternative ks → IsRule (reads (rule_pieces (record r { alternatives = ks })) rest) rest (record r { alternatives = ks })
    by [] e k = absurd (e refl)
    by (a ∷ ks) e k = rule_again r.public r.inlined r.name r.formals a ks rest k.0 k.1

rules_again : (m : Module) (ks done : List Rule) → AllByRecursion FitsRule ks → Rules (record m { rules = done }) (reads (flat_map rule_pieces ks) []) (record m { rules = done ++ ks })
rules_again m [] done h = subst (λ l. Rules (record m { rules = done }) [] (record m { rules = l })) (sym (append-nil done)) spelling.Rules.none
rules_again m (r ∷ ks) done h =
    subst (λ xs. Rules (record m { rules = done }) xs (record m { rules = done ++ r ∷ ks })) (sym (reads-append (rule_pieces r) (flat_map rule_pieces ks) []))
    (subst (λ l. Rules (record m { rules = done }) (reads (rule_pieces r) (reads (flat_map rule_pieces ks) [])) (record m { rules = l })) (append_assoc done (r ∷ []) ks)
    (spelling.Rules.more (rule_of_fitting r (reads (flat_map rule_pieces ks) []) h.0) (rules_again m ks (done ++ r ∷ []) h.1)))

-- The printed lexemes are lexeme texts.

pieces_printable : {X : Type 0} (pieces : X → List Piece) (P : X → Type 0) → ((x : X) → P x → Printable (pieces x)) → (xs : List X) → AllByRecursion P xs → Printable (flat_map pieces xs)
pieces_printable pieces P one [] h = tt
pieces_printable pieces P one (x ∷ xs) h = recursion-append FitsPiece (pieces x) (flat_map pieces xs) (one x h.0) (pieces_printable pieces P one xs h.1)

actuals_printable : (ks : List Actual) → AllByRecursion FitsActual ks → Printable (flat_map actual_pieces ks)
actuals_printable ks h = pieces_printable actual_pieces FitsActual (λ a k. k.printable) ks h

keyword_printable : (w : List ℕ) → is_keyword w ≡ true → FitsPiece (keyword w)
keyword_printable w h = (texts.LexemeText.keyword h, refl)

alias_printable : (o : Option (List ℕ)) → FitsContent o → Printable (alias_pieces o)
alias_printable None h = tt
alias_printable (Some s) h = ((texts.LexemeText.quoted s h, refl), tt)

start_printable : (n : List ℕ) → LexemeText kinds.Word n → Printable (start_pieces n)
unfolding keywords
start_printable n h = (keyword_printable (codes "start") refl, ((h, refl), tt))

refs_printable : (ks : List Ref) → AllByRecursion FitsRef ks → Printable (map ref_piece ks)
refs_printable [] h = tt
refs_printable (r ∷ ks) h = (FitsPiece-ref r h.0, refs_printable ks h.1)

assoc_printable : (g : Assoc) → FitsPiece (keyword (assoc_word g))
unfolding keywords
assoc_printable Left = keyword_printable (codes "left") refl
assoc_printable Right = keyword_printable (codes "right") refl
assoc_printable Nonassoc = keyword_printable (codes "nonassoc") refl

level_printable : (l : LevelDecl) → FitsLevel l → Printable (level_pieces l)
level_printable l h = (assoc_printable l.assoc, refs_printable l.names h)

on_error_printable : (ks : List Actual) → AllByRecursion FitsActual ks → Printable (on_error_pieces ks)
unfolding keywords
on_error_printable ks h = (keyword_printable (codes "on_error_reduce") refl, actuals_printable ks h)

prec_printable : (p : Option Ref) → FitsPrec p → Printable (prec_pieces p)
unfolding keywords
prec_printable None h = tt
prec_printable (Some r) h = (keyword_printable (codes "prec") refl, (FitsPiece-ref r h, tt))

alternative_printable : (a : Alternative) → FitsAlternative a → Printable (alternative_pieces a)
alternative_printable a h = (
  FitsPiece-mark 124 refl,
  recursion-append FitsPiece (flat_map actual_pieces a.producers) (prec_pieces a.prec ++ action ∷ []) (actuals_printable a.producers h.producers)
      (recursion-append FitsPiece (prec_pieces a.prec) (action ∷ []) (prec_printable a.prec h.prec) ((texts.LexemeText.empty_action, refl), tt)),
)

modifier_printable : (b : Bool) (w : List ℕ) → is_keyword w ≡ true → Printable (modifier_pieces b w)
modifier_printable true w h = (keyword_printable w h, tt)
modifier_printable false w h = tt

others_printable : (ns : List (List ℕ)) → AllByRecursion (LexemeText kinds.Word) ns → Printable (bracket_end (map (λ n. word n ∷ []) ns))
others_printable [] h = (FitsPiece-mark 41 refl, tt)
others_printable (n ∷ ns) h = (FitsPiece-mark 44 refl, ((h.0, refl), others_printable ns h.1))

formals_printable : (ns : List (List ℕ)) → AllByRecursion (LexemeText kinds.Word) ns → Printable (formals_pieces ns)
formals_printable [] h = tt
formals_printable (n ∷ ns) h = (FitsPiece-mark 40 refl, ((h.0, refl), others_printable ns h.1))

rule_printable : (r : Rule) → FitsRule r → Printable (rule_pieces r)
unfolding keywords
rule_printable r h =
    let body = mark 58 ∷ flat_map alternative_pieces r.alternatives in
    recursion-append FitsPiece (modifier_pieces r.public (codes "public") ++ modifier_pieces r.inlined (codes "inline")) (word r.name ∷ formals_pieces r.formals ++ body)
    (recursion-append FitsPiece (modifier_pieces r.public (codes "public")) (modifier_pieces r.inlined (codes "inline")) (modifier_printable r.public (codes "public") refl) (modifier_printable r.inlined (codes "inline") refl)) (
      (h.name, refl),
      recursion-append FitsPiece (formals_pieces r.formals) body (formals_printable r.formals h.formals)
          (FitsPiece-mark 58 refl, pieces_printable alternative_pieces FitsAlternative alternative_printable r.alternatives h.alternatives),
    )

-- A lexeme of a plain kind adds nothing to the count of the lexemes `%%`.
percents_in_plain : (k : Kind) → is_plain k ≡ true → percents_in k ≡ 0
percents_in_plain kinds.Percents e = absurd (cc)
percents_in_plain _ e = refl

-- The texts are lexemes, and at most n of them are `%%`.
record Mixed (n : ℕ) (ts : List Piece) : Type 0 where
  texts : AllByRecursion IsText ts
  count : count_of_percents ts ≡ n

printable_mixed : (ts us : List Piece) (n : ℕ) → Printable ts → Mixed n us → Mixed n (ts ++ us)
printable_mixed [] us n h k = k
printable_mixed (t ∷ ts) us n h k =
    let later = printable_mixed ts us n h.1 k in
    record { texts = (h.0.0, later.texts); count = ap (λ m. m + count_of_percents (ts ++ us)) (percents_in_plain t.0 h.0.1) ∙ (omega (arith, later.count)) }

-- The pieces of a token, of its alias and of its cost are lexemes.
alias_texts : (o : Option (List ℕ)) → FitsContent o → (us : List Piece) (n : ℕ) → Mixed n us → Mixed n (alias_pieces o ++ us)
alias_texts o h us n k = printable_mixed (alias_pieces o) us n (alias_printable o h) k

cost_texts : (c : Option ℕ) → IfSome c IsCost → (us : List Piece) (n : ℕ) → Mixed n us → Mixed n (cost_pieces c ++ us)
cost_texts None h us n k = k
cost_texts (Some c) h us n k = record { texts = (texts.LexemeText.cost (decimal c) (decimal_is_digits c h.1), k.texts); count = omega (arith, k.count) }

token_texts : (t : TokenDecl) → FitsToken t → (us : List Piece) (n : ℕ) → Mixed n us → Mixed n (token_pieces t ++ us)
unfolding keywords
token_texts t h us n k =
    let inner = subst (Mixed n) (sym (append_assoc (alias_pieces t.alias) (cost_pieces t.cost) us))
    (alias_texts t.alias h.alias (cost_pieces t.cost ++ us) n (cost_texts t.cost h.cost us n k)) in
    record { texts = (texts.LexemeText.keyword refl, (h.name, inner.texts)); count = omega (arith, inner.count) }

tokens_texts : (ts : List TokenDecl) → AllByRecursion FitsToken ts → (us : List Piece) (n : ℕ) → Mixed n us → Mixed n (flat_map token_pieces ts ++ us)
tokens_texts [] h us n k = k
tokens_texts (t ∷ ts) h us n k =
    subst (Mixed n) (sym (append_assoc (token_pieces t) (flat_map token_pieces ts) us)) (token_texts t h.0 (flat_map token_pieces ts ++ us) n (tokens_texts ts h.1 us n k))

nothing_mixed : Mixed 0 []
nothing_mixed = record { texts = tt; count = refl }

module_mixed : (m : Module) → FitsModule m → Mixed 1 (module_pieces m)
module_mixed m h =
    let rules = percents ∷ flat_map rule_pieces m.rules in
    let on_error = flat_map on_error_pieces m.on_error in
    let levels = flat_map level_pieces m.levels in
    let starts = flat_map start_pieces m.starts in
    let behind : Mixed 0 (flat_map rule_pieces m.rules) = subst (λ l. Mixed 0 l) (append-nil (flat_map rule_pieces m.rules))
    (printable_mixed (flat_map rule_pieces m.rules) [] 0 (pieces_printable rule_pieces FitsRule rule_printable m.rules h.rules) nothing_mixed) in
    let ruled : Mixed 1 rules = record { texts = (texts.LexemeText.percents, behind.texts); count = omega (arith, behind.count) } in
    tokens_texts m.tokens h.tokens (starts ++ (levels ++ (on_error ++ rules))) 1
    (printable_mixed starts (levels ++ (on_error ++ rules)) 1 (pieces_printable start_pieces (LexemeText kinds.Word) start_printable m.starts h.starts)
    (printable_mixed levels (on_error ++ rules) 1 (pieces_printable level_pieces FitsLevel level_printable m.levels h.levels)
    (printable_mixed on_error rules 1 (pieces_printable on_error_pieces (AllByRecursion FitsActual) on_error_printable m.on_error h.on_error) ruled)))

-- Lemmas on costs.

-- The cost of the first cost attribute among the attributes with which the lexemes begin.
abbrev cost_before : List Piece → Option ℕ
cost_before [] = None
cost_before (t ∷ ts) = cost_at_front (token_kind_by t.0 t.1) t.1 (cost_before ts)

-- The token kinds, texts and costs that the grammar of grammar files reads from these lexemes.
abbrev reads_with_costs : List Piece → List FileToken
reads_with_costs [] = []
reads_with_costs (t ∷ ts) = file_token_by (token_kind_by t.0 t.1) (text_by t.0 t.1) (cost_before ts) ++ reads_with_costs ts

abbrev is_attribute : Kind → Bool
is_attribute kinds.Attribute = true
is_attribute _ = false

abbrev IsNoAttribute : Piece → Type 0
IsNoAttribute t = is_attribute t.0 ≡ false

plain_other : (ts : List Piece) → Printable ts → AllByRecursion IsNoAttribute ts
plain_other [] h = tt
plain_other (t ∷ ts) h = (plain_no t.0 h.0.1, plain_other ts h.1)
  where
    plain_no : (k : Kind) → is_plain k ≡ true → is_attribute k ≡ false
    plain_no kinds.Attribute e = cc
    plain_no _ e = refl

cost_at_front-other : (k : Kind) (t : List ℕ) (c : Option ℕ) → is_attribute k ≡ false → cost_at_front (token_kind_by k t) t c ≡ None
cost_at_front-other kinds.Attribute t c e = absurd (cc)
cost_at_front-other _ t c e = refl

no_cost : (ts : List Piece) → AllByRecursion IsNoAttribute ts → cost_before ts ≡ None
no_cost [] h = refl
no_cost (t ∷ ts) h = cost_at_front-other t.0 t.1 (cost_before ts) h.0

-- Without attributes there are no costs.
without_costs : (ts : List Piece) → AllByRecursion IsNoAttribute ts → reads_with_costs ts ≡ reads ts []
without_costs [] h = refl
without_costs (t ∷ ts) h =
    ap (λ c. file_token_by (token_kind_by t.0 t.1) (text_by t.0 t.1) c ++ reads_with_costs ts) (no_cost ts h.1) ∙ ap (λ l. file_token_by (token_kind_by t.0 t.1) (text_by t.0 t.1) None ++ l) (without_costs ts h.1)

-- Lemmas on tokens.

token_again : (m : Module) (done : List TokenDecl) (t : TokenDecl) (us : List Piece) → FitsToken t → cost_before us ≡ None →
    Declaration (record m { tokens = done }) (reads_with_costs (token_pieces t ++ us)) (reads_with_costs us) (record m { tokens = done ++ t ∷ [] })
unfolding keywords
token_again m done t us h e = by t.alias t.cost h.cost
  where
    made : Option (List ℕ) → Option ℕ → TokenDecl
    made o c = record { name = t.name; alias = o; cost = c }

    declared : (o : Option (List ℕ)) (c : Option ℕ) (xs : List FileToken) → IsTokenItem xs (reads_with_costs us) (made o c) →
        Declaration (record m { tokens = done }) (record { sign = signs.Token; text = 37 ∷ codes "token"; cost = None } ∷ xs) (reads_with_costs us) (record m { tokens = done ++ made o c ∷ [] })
    declared o c xs x = spelling.Declaration.tokens refl spelling.OptionalType.absent (spelling.ListOf.next x spelling.ListOf.none)

    word_read : Option ℕ → FileToken
    word_read c = record { sign = signs.Word; text = t.name; cost = c }

    bare : (c d : Option ℕ) → c ≡ d → IsTokenItem (word_read c ∷ reads_with_costs us) (reads_with_costs us) (made None d)
    bare c d same = subst (λ k. IsTokenItem (word_read c ∷ reads_with_costs us) (reads_with_costs us) (made None k)) (option_or-none c ∙ same) (spelling.IsTokenItem.token refl h.capital spelling.IsAlias.absent)

    aliased : (s : List ℕ) (c d : Option ℕ) → c ≡ d →
        IsTokenItem (word_read None ∷ record { sign = signs.Quoted; text = text_by kinds.Quoted (34 ∷ s ++ 34 ∷ []); cost = c } ∷ reads_with_costs us) (reads_with_costs us) (made (Some s) d)
    aliased s c d same =
        subst (λ k. IsTokenItem (word_read None ∷ record { sign = signs.Quoted; text = text_by kinds.Quoted (34 ∷ s ++ 34 ∷ []); cost = c } ∷ reads_with_costs us) (reads_with_costs us) (made (Some s) k)) same
        (subst (λ l. IsTokenItem (word_read None ∷ record { sign = signs.Quoted; text = text_by kinds.Quoted (34 ∷ s ++ 34 ∷ []); cost = c } ∷ reads_with_costs us) (reads_with_costs us) (made (Some l) c)) (quoted_content s)
        (spelling.IsTokenItem.token refl h.capital (spelling.IsAlias.given refl)))

    own : (n : ℕ) → IsCost n → option_or (cost_of (cost_text n)) (cost_before us) ≡ Some n
    own n k = ap (λ c. option_or c (cost_before us)) (cost_printed n k)

    by : (o : Option (List ℕ)) (c : Option ℕ) → IfSome c IsCost →
        Declaration (record m { tokens = done }) (reads_with_costs ((keyword (codes "token") ∷ word t.name ∷ (alias_pieces o ++ cost_pieces c)) ++ us)) (reads_with_costs us) (record m { tokens = done ++ made o c ∷ [] })
    by None None k = declared None None _ (bare (cost_before us) None e)
    by None (Some n) k = declared None (Some n) _ (bare (option_or (cost_of (cost_text n)) (cost_before us)) (Some n) (own n k))
    by (Some s) None k = declared (Some s) None _ (aliased s (cost_before us) None e)
    by (Some s) (Some n) k = declared (Some s) (Some n) _ (aliased s (option_or (cost_of (cost_text n)) (cost_before us)) (Some n) (own n k))

tokens_before : (ks : List TokenDecl) (us : List Piece) → cost_before us ≡ None → cost_before (flat_map token_pieces ks ++ us) ≡ None
tokens_before [] us e = e
tokens_before (t ∷ ks) us e = refl

tokens_again : (m : Module) (ks done : List TokenDecl) (us : List Piece) (out : Module) → AllByRecursion FitsToken ks → cost_before us ≡ None →
    File (record m { tokens = done ++ ks }) (reads_with_costs us) out → File (record m { tokens = done }) (reads_with_costs (flat_map token_pieces ks ++ us)) out
tokens_again m [] done us out h e f = subst (λ l. File (record m { tokens = l }) (reads_with_costs us) out) (append-nil done) f
tokens_again m (t ∷ ks) done us out h e f =
    let later = flat_map token_pieces ks ++ us in
    subst (λ l. File (record m { tokens = done }) (reads_with_costs l) out) (sym (append_assoc (token_pieces t) (flat_map token_pieces ks) us))
    (spelling.File.declared (token_again m done t later h.0 (tokens_before ks us e))
    (tokens_again m ks (done ++ t ∷ []) us out h.1 e (subst (λ l. File (record m { tokens = l }) (reads_with_costs us) out) (sym (append_assoc done (t ∷ []) ks)) f)))

-- Lemmas on the whole module.

others_plain : (m : Module) → FitsModule m →
    AllByRecursion IsNoAttribute (flat_map start_pieces m.starts ++ (flat_map level_pieces m.levels ++ (flat_map on_error_pieces m.on_error ++ percents ∷ flat_map rule_pieces m.rules)))
others_plain m h =
    let rules = percents ∷ flat_map rule_pieces m.rules in
    let on_error = flat_map on_error_pieces m.on_error in
    let levels = flat_map level_pieces m.levels in
    let starts = flat_map start_pieces m.starts in
    recursion-append IsNoAttribute starts (levels ++ (on_error ++ rules)) (plain_other starts (pieces_printable start_pieces (LexemeText kinds.Word) start_printable m.starts h.starts))
    (recursion-append IsNoAttribute levels (on_error ++ rules) (plain_other levels (pieces_printable level_pieces FitsLevel level_printable m.levels h.levels))
    (recursion-append IsNoAttribute on_error rules (plain_other on_error (pieces_printable on_error_pieces (AllByRecursion FitsActual) on_error_printable m.on_error h.on_error))
    (refl, plain_other (flat_map rule_pieces m.rules) (pieces_printable rule_pieces FitsRule rule_printable m.rules h.rules))))

module_again : (m : Module) → FitsModule m → File no_module (reads_with_costs (module_pieces m)) m
module_again m h =
    let rules = percents ∷ flat_map rule_pieces m.rules in
    let on_error = flat_map on_error_pieces m.on_error in
    let levels = flat_map level_pieces m.levels in
    let starts = flat_map start_pieces m.starts in
    let others = starts ++ (levels ++ (on_error ++ rules)) in
    let with_tokens : Module = record no_module { tokens = m.tokens } in
    let with_starts : Module = record with_tokens { starts = m.starts } in
    let with_levels : Module = record with_starts { levels = m.levels } in
    let with_on_error : Module = record with_levels { on_error = m.on_error } in
    let one = spelling.File.ruled refl (rules_again with_on_error m.rules [] h.rules) in
    let two = declared_again on_error_pieces (AllByRecursion FitsActual) (λ ks. record with_levels { on_error = ks }) (on_error_again with_levels) m.on_error [] (reads rules []) m h.on_error one in
    let three = declared_again level_pieces FitsLevel (λ ks. record with_starts { levels = ks }) (level_again with_starts) m.levels [] (reads on_error (reads rules [])) m h.levels two in
    let four = declared_again start_pieces (LexemeText kinds.Word) (λ ks. record with_tokens { starts = ks }) (start_again with_tokens) m.starts [] (reads levels (reads on_error (reads rules []))) m h.starts three in
    let plain = others_plain m h in
    let split : reads_with_costs others ≡ reads starts (reads levels (reads on_error (reads rules []))) =
    without_costs others plain ∙ reads-append starts (levels ++ (on_error ++ rules)) [] ∙
    ap (λ xs. reads starts xs) (reads-append levels (on_error ++ rules) [] ∙ ap (λ xs. reads levels xs) (reads-append on_error rules [])) in
    tokens_again no_module m.tokens [] others m h.tokens (no_cost others plain) (subst (λ xs. File with_tokens xs m) (sym split) four)

-- The lexemes of the printed text are read as they were printed.
record Laid (bytes : List ℕ) (at : ℕ) (ts : List Piece) : Type 0 where
  costs : cost_after bytes (laid_out_lexemes at ts) ≡ cost_before ts
  reads : file_tokens bytes (laid_out_lexemes at ts) ≡ reads_with_costs ts

laid_reads : (bytes pre : List ℕ) (at : ℕ) (ts : List Piece) → bytes ≡ pre ++ laid_out ts → at ≡ length pre → Laid bytes at ts
laid_reads bytes pre at [] e n = record { costs = refl; reads = refl }
laid_reads bytes pre at (t ∷ ts) e n =
    let l : Lexeme = record { kind = t.0; start = at; end = at + length t.1 } in
    let size : (at + length t.1) - at ≡ length t.1 = omega arith in
    let tail : drop at bytes ≡ t.1 ++ 32 ∷ laid_out ts = ap (λ k. drop k bytes) n ∙ ap (λ k. drop (length pre) k) e ∙ drop_prefix pre (t.1 ++ 32 ∷ laid_out ts) in
    let own : bytes_of bytes l ≡ t.1 = ap (λ k. take k (drop at bytes)) size ∙ ap (λ k. take (length t.1) k) tail ∙ take_prefix t.1 (32 ∷ laid_out ts) in
    let next : bytes ≡ (pre ++ (t.1 ++ 32 ∷ [])) ++ laid_out ts = e ∙ ap (λ k. pre ++ k) (sym (append_assoc t.1 (32 ∷ []) (laid_out ts))) ∙ sym (append_assoc pre (t.1 ++ 32 ∷ []) (laid_out ts)) in
    let place : at + length t.1 + 1 ≡ length (pre ++ (t.1 ++ 32 ∷ [])) = omega (arith, n, length-append pre (t.1 ++ 32 ∷ []), length-append t.1 (32 ∷ [])) in
    let later = laid_reads bytes (pre ++ (t.1 ++ 32 ∷ [])) (at + length t.1 + 1) ts next place in
    let behind = laid_out_lexemes (at + length t.1 + 1) ts in
    record {
      costs = ap (λ k. cost_at_front (token_kind_by t.0 k) k (cost_after bytes behind)) own ∙ ap (λ c. cost_at_front (token_kind_by t.0 t.1) t.1 c) later.costs;
      reads = ap (λ k. file_token_by (token_kind_by t.0 k) (text_by t.0 k) (cost_after bytes behind) ++ file_tokens bytes behind) own ∙
          ap (λ c. file_token_by (token_kind_by t.0 t.1) (text_by t.0 t.1) c ++ file_tokens bytes behind) later.costs ∙ ap (λ k. file_token_by (token_kind_by t.0 t.1) (text_by t.0 t.1) (cost_before ts) ++ k) later.reads;
    }

pub printed_spells : (bytes : List ℕ) (m : Module) → Spells bytes m → Spells (laid_out (module_pieces m)) m
printed_spells bytes m h =
    let fitting = FitsModule-spelled h.2 (lexemes_fit bytes h.0 (lexemes_spelled bytes h.0 None h.1)) in
    let mixed = module_mixed m fitting in
    let few : count_of_percents (module_pieces m) < 2 = omega (arith, mixed.count) in (
      laid_out_lexemes 0 (module_pieces m),
      laid_out_lexes (module_pieces m) mixed.texts few,
      subst (λ xs. File no_module xs m) (sym (laid_reads (laid_out (module_pieces m)) [] 0 (module_pieces m) refl refl).reads) (module_again m fitting),
    )

-- Reading bytes that spell a module gives this module.
pub printed_read : (text : List ℕ) (m : Module) (answer : Result Module SyntaxFault) → ((bytes : List ℕ) (one two : Module) → Spells bytes one → Spells bytes two → one ≡ two) →
    Spells text m → IsReadResult text answer → answer ≢ Err Memory → answer ≡ Ok m
printed_read text m (Ok n) once h r e = ap Ok (once text n m r.0 h)
printed_read text m (Err (Syntax line)) once h r e = absurd (r.1.1 m h)
printed_read text m (Err Memory) once h r e = absurd (e refl)
