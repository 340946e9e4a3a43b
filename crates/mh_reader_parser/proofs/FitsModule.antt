-- Proves that a spelled module can be printed: its names are words, its aliases are contents of strings, its actuals
-- are not too deep, and each rule has an alternative.
use Rattle.std.proofs.Common.{◌≡◌, ◌≢◌, ◌-◌, ◌==◌, ℕ, suc, max, List, [], ◌∷◌, ◌++◌, length, take, drop, map, Option, Some, None, Bool, true, false, cond, refl, sym, ap, subst, ◌∙◌, append_assoc, arith, length-append}
use Rattle.std.specs.Prelude.{IfSome}
use Rattle.std.specs.Option.{option_or}
use Rattle.std.specs.List.{AllByRecursion}
use Rattle.mh_grammar.proofs.Lists.{recursion-append, recursion-push, map_some}
use Rattle.mh_grammar.specs.declared.types.Assoc.TheVariants.{Left, Right, Nonassoc}
use Rattle.mh_lex_bytes.specs.declared.keywords.Keyword.{Keyword}
use Rattle.mh_lex_bytes.specs.declared.keywords.Keyword.TheVariants as keywords
use Rattle.mh_lex.specs.declared.kinds.Kind.{Kind}
use Rattle.mh_lex.specs.declared.kinds.Kind.TheVariants as kinds
use Rattle.mh_lex.specs.declared.kinds.Lexeme.{Lexeme}
use Rattle.mh_lex_bytes.specs.Keywords.{keyword_named}
use Rattle.mh_lex.specs.LexemeTexts as texts
use Rattle.mh_lex.specs.LexemeTexts.{LexemeText, is_content, HasText, HasTextOfKind, bytes_of, percents_in}
use Rattle.mh_lex_bytes.specs.Bytes.{byte_at, is_mark}
use Rattle.mh_lex.proofs.LaidOutTexts.{take_prefix}
use Rattle.mh_rules.specs.declared.modules.Ref.{Ref}
use Rattle.mh_rules.specs.declared.modules.Ref.TheVariants.{Plain, Alias}
use Rattle.mh_rules.specs.declared.modules.Actual.{Actual}
use Rattle.mh_rules.specs.declared.modules.Actual.TheFolds.{fold-roll-Actual}
use Rattle.mh_rules.specs.declared.modules.Alternative.{Alternative}
use Rattle.mh_rules.specs.declared.modules.Rule.{Rule}
use Rattle.mh_rules.specs.declared.modules.TokenDecl.{TokenDecl}
use Rattle.mh_rules.specs.declared.modules.LevelDecl.{LevelDecl}
use Rattle.mh_rules.specs.declared.modules.Module.{Module}
use Rattle.mh_reader_parser.specs.declared.token_kinds.TokenKind.{TokenKind}
use Rattle.mh_reader_parser.specs.declared.token_kinds.TokenKind.TheVariants as signs
use Rattle.mh_reader_parser.specs.Costs.{cost_of}
use Rattle.mh_reader_parser.specs.TokenKinds.{FileToken, cost_at_front, cost_after, file_token_by, token_kind_by, text_by, kind_of_mark, kind_of_keyword, kind_or_unknown, file_tokens, file_tokens_of, is_capital}
use Rattle.mh_reader_parser.specs.Spelling as spelling
use Rattle.mh_rules.specs.Modules.{applied, alternative, no_module}
use Rattle.mh_rules.specs.Ready.{IsTokenReady}
use Rattle.mh_reader_parser.specs.Spelling.{ref_by, ref_of, suffix_of, with_prec, own_or, Suffixed, Unsuffixed, Args, IsActual, LimitedActual, ListOf, IsAlias, IsTokenItem, IsWordItem, IsRef, OptionalType, Declaration, Semicolons, IsProducer, Producers, IsPrec, Productions, Groups, Modifiers, Formals, OptionalFormals, OptionalBar, IsRule, Rules, File}
use Rattle.mh_grammar.specs.Costs.{IsCost}
use Rattle.mh_reader_parser.proofs.CostText.{cost_of_is_cost}
use Rattle.mh_reader_parser.specs.code.Pieces.{Piece, mark, ref_piece, bracketed, bracket_end, actual_pieces}

-- Lemmas on lexemes.

-- The text of a word or of a string of a file.
abbrev pub fits : TokenKind → List ℕ → Type 0
fits signs.Word t = LexemeText kinds.Word t
fits signs.Quoted t = is_content false t ≡ true
fits _ t = Unit {0}

-- The text fits its token kind, and the cost, if there is one, is in range.
abbrev pub Fits : FileToken → Type 0
Fits x = fits x.sign x.text × IfSome x.cost IsCost

abbrev pub AllFit : List FileToken → Type 0
AllFit = AllByRecursion Fits

-- A token kind that is neither a word nor a string; its text is arbitrary.
record IsFree (g : TokenKind) : Type 0 where
  any : (t : List ℕ) → fits g t

free_cond : {g h : TokenKind} (b : Bool) → IsFree g → IsFree h → IsFree (cond b g h)
free_cond true f k = f
free_cond false f k = k

free : (g : TokenKind) → ((t : List ℕ) → fits g t) → IsFree g
free g f = record { any = f }

mark_free : (b : ℕ) → IsFree (kind_of_mark b)
mark_free b =
    free_cond (b == 58) (free signs.Colon (λ t. tt)) (free_cond (b == 124) (free signs.Bar (λ t. tt)) (free_cond (b == 61) (free signs.Equals (λ t. tt))
    (free_cond (b == 44) (free signs.Comma (λ t. tt)) (free_cond (b == 59) (free signs.Semicolon (λ t. tt)) (free_cond (b == 40) (free signs.Open (λ t. tt))
    (free_cond (b == 41) (free signs.Close (λ t. tt)) (free_cond (b == 63) (free signs.Question (λ t. tt)) (free_cond (b == 42) (free signs.Star (λ t. tt))
    (free_cond (b == 43) (free signs.Plus (λ t. tt)) (free signs.Unknown (λ t. tt)))))))))))

keyword_free : (o : Option Keyword) → IsFree (kind_or_unknown o)
keyword_free None = free signs.Unknown (λ t. tt)
keyword_free (Some keyword) = by keyword
  where
    by : (k : Keyword) → IsFree (kind_of_keyword k)
    by keywords.Token = free signs.Token (λ t. tt)
    by keywords.Start = free signs.Start (λ t. tt)
    by keywords.Type = free signs.Type (λ t. tt)
    by keywords.Left = free (signs.Level Left) (λ t. tt)
    by keywords.Right = free (signs.Level Right) (λ t. tt)
    by keywords.Nonassoc = free (signs.Level Nonassoc) (λ t. tt)
    by keywords.OnErrorReduce = free signs.OnErrorReduce (λ t. tt)
    by keywords.Parameter = free signs.Parameter (λ t. tt)
    by keywords.Attribute = free signs.Attribute (λ t. tt)
    by keywords.Public = free signs.Public (λ t. tt)
    by keywords.Inline = free signs.Inline (λ t. tt)
    by keywords.Prec = free signs.Prec (λ t. tt)

-- The content of a printed string is the string.
pub quoted_content : (s : List ℕ) → text_by kinds.Quoted (34 ∷ s ++ 34 ∷ []) ≡ s
quoted_content s =
    let n : length (34 ∷ s ++ 34 ∷ []) - 2 ≡ length s = omega (arith, length-append s (34 ∷ [])) in
    ap (λ k. take k (s ++ 34 ∷ [])) n ∙ take_prefix s (34 ∷ [])

text_fits : (k : Kind) (t : List ℕ) → LexemeText k t → k ≡ kinds.Quoted → is_content false (text_by kinds.Quoted t) ≡ true
text_fits k t (texts.LexemeText.word h all) e = absurd (cc)
text_fits k t (texts.LexemeText.mark h) e = absurd (cc)
text_fits k t texts.LexemeText.percents e = absurd (cc)
text_fits k t (texts.LexemeText.keyword h) e = absurd (cc)
text_fits k t (texts.LexemeText.quoted s h) e = subst (λ l. is_content false l ≡ true) (sym (quoted_content s)) h
text_fits k t texts.LexemeText.empty_action e = absurd (cc)
text_fits k t (texts.LexemeText.cost ds h) e = absurd (cc)

spelled_fits : (k : Kind) (t : List ℕ) (c : Option ℕ) → HasText k t → IfSome c IsCost → AllFit (file_token_by (token_kind_by k t) (text_by k t) c)
spelled_fits kinds.Word t c h i = ((h, i), tt)
spelled_fits kinds.Mark t c h i = (((mark_free (byte_at t 0)).any t, i), tt)
spelled_fits kinds.Percents t c h i = ((tt, i), tt)
spelled_fits kinds.Keyword t c h i = (((keyword_free (keyword_named (drop 1 t))).any t, i), tt)
spelled_fits kinds.Quoted t c h i = ((text_fits kinds.Quoted t h refl, i), tt)
spelled_fits kinds.Header t c h i = ((tt, i), tt)
spelled_fits kinds.Action t c h i = ((tt, i), tt)
spelled_fits kinds.TypeText t c h i = ((tt, i), tt)
spelled_fits kinds.Attribute t c h i = tt

-- The first of two optional costs in range is in range.
option_or-is_cost : (a b : Option ℕ) → IfSome a IsCost → IfSome b IsCost → IfSome (option_or a b) IsCost
option_or-is_cost None b h k = k
option_or-is_cost (Some n) b h k = h

cost_at_front-is_cost : (o : Option TokenKind) (t : List ℕ) (c : Option ℕ) → IfSome c IsCost → IfSome (cost_at_front o t c) IsCost
cost_at_front-is_cost None t c h = option_or-is_cost (cost_of t) c (cost_of_is_cost t) h
cost_at_front-is_cost (Some g) t c h = tt

cost_after-is_cost : (bytes : List ℕ) (ls : List Lexeme) → IfSome (cost_after bytes ls) IsCost
cost_after-is_cost bytes [] = tt
cost_after-is_cost bytes (l ∷ ls) = cost_at_front-is_cost (token_kind_by l.kind (bytes_of bytes l)) (bytes_of bytes l) (cost_after bytes ls) (cost_after-is_cost bytes ls)

pub lexemes_fit : (bytes : List ℕ) (ls : List Lexeme) → AllByRecursion (HasTextOfKind bytes) ls → AllFit (file_tokens bytes ls)
lexemes_fit bytes [] h = tt
lexemes_fit bytes (l ∷ ls) h =
    recursion-append Fits (file_tokens_of bytes l (cost_after bytes ls)) (file_tokens bytes ls) (spelled_fits l.kind (bytes_of bytes l) (cost_after bytes ls) h.0 (cost_after-is_cost bytes ls)) (lexemes_fit bytes ls h.1)

-- Lemmas on names.

abbrev pub FitsRef : Ref → Type 0
FitsRef (Plain t) = LexemeText kinds.Word t
FitsRef (Alias s) = is_content false s ≡ true

abbrev pub FitsContent : Option (List ℕ) → Type 0
FitsContent None = Unit {0}
FitsContent (Some s) = is_content false s ≡ true

abbrev pub FitsPrec : Option Ref → Type 0
FitsPrec None = Unit {0}
FitsPrec (Some r) = FitsRef r

sign_fits : (x : FileToken) (g : TokenKind) → x.sign ≡ g → Fits x → fits g x.text
sign_fits x g e h = subst (λ k. fits k x.text) e h.0

ref_fits_by : (g : TokenKind) (t : List ℕ) (r : Ref) → ref_by g t ≡ Some r → fits g t → FitsRef r
ref_fits_by signs.Word t r e h = let same : Plain t ≡ r = cc in subst FitsRef same h
ref_fits_by signs.Quoted t r e h = let same : Alias t ≡ r = cc in subst FitsRef same h
ref_fits_by _ t r e h = absurd (cc)

ref_fits : (x : FileToken) (r : Ref) → ref_of x ≡ Some r → Fits x → FitsRef r
ref_fits x r e h = ref_fits_by x.sign x.text r e h.0

-- Lemmas on printed lexemes.

-- The kind is neither `%%` nor an attribute.
abbrev pub is_plain : Kind → Bool
is_plain kinds.Percents = false
is_plain kinds.Attribute = false
is_plain _ = true

-- The text, if a space follows it, is one lexeme of its kind, which is neither `%%` nor an attribute.
abbrev pub FitsPiece : Piece → Type 0
FitsPiece t = LexemeText t.0 t.1 × (is_plain t.0 ≡ true)

abbrev pub Printable : List Piece → Type 0
Printable = AllByRecursion FitsPiece

-- What the grammar of grammar files reads from printed lexemes without costs, followed by these tokens.
abbrev pub reads : List Piece → List FileToken → List FileToken
reads [] rest = rest
reads (t ∷ ts) rest = file_token_by (token_kind_by t.0 t.1) (text_by t.0 t.1) None ++ reads ts rest

pub reads-append : (ts us : List Piece) (rest : List FileToken) → reads (ts ++ us) rest ≡ reads ts (reads us rest)
reads-append [] us rest = refl
reads-append (t ∷ ts) us rest = ap (λ k. file_token_by (token_kind_by t.0 t.1) (text_by t.0 t.1) None ++ k) (reads-append ts us rest)

abbrev pub ref_read : Ref → FileToken
ref_read (Plain t) = record { sign = signs.Word; text = t; cost = None }
ref_read (Alias s) = record { sign = signs.Quoted; text = text_by kinds.Quoted (34 ∷ s ++ 34 ∷ []); cost = None }

pub reads-ref : (r : Ref) (ts : List Piece) (rest : List FileToken) → reads (ref_piece r ∷ ts) rest ≡ ref_read r ∷ reads ts rest
reads-ref (Plain t) ts rest = refl
reads-ref (Alias s) ts rest = refl

pub ref_of_read : (r : Ref) → ref_of (ref_read r) ≡ Some r
ref_of_read (Plain t) = refl
ref_of_read (Alias s) = ap (λ k. Some (Alias k)) (quoted_content s)

pub FitsPiece-ref : (r : Ref) → FitsRef r → FitsPiece (ref_piece r)
FitsPiece-ref (Plain t) h = (h, refl)
FitsPiece-ref (Alias s) h = (texts.LexemeText.quoted s h, refl)

-- Lemmas on actuals.

-- The printed lexemes of the actual are an actual of this depth.
record Prints (a : Actual) (d : ℕ) : Type 0 where
  printable : Printable (actual_pieces a)
  reads_back : (rest : List FileToken) → IsActual (reads (actual_pieces a) rest) rest a d

-- The printed lexemes of one or more arguments are arguments after those in `done`.
record PrintsArgs (done : List Actual) (m : ℕ) (all : List Actual) (d : ℕ) : Type 0 where
  first : Actual
  others : List Actual
  split : all ≡ done ++ first ∷ others
  printable : Printable (actual_pieces first ++ bracket_end (map actual_pieces others))
  reads_back : (rest : List FileToken) → Args done m (reads (actual_pieces first ++ bracket_end (map actual_pieces others)) rest) rest all d

pub FitsPiece-mark : (b : ℕ) → is_mark b ≡ true → FitsPiece (mark b)
FitsPiece-mark b h = (texts.LexemeText.mark h, refl)

roll_pieces : (r : Ref) (ks : List Actual) → actual_pieces (applied r ks) ≡ ref_piece r ∷ bracketed (map actual_pieces ks)
roll_pieces r ks = fold-roll-Actual (List Piece) (λ l. ref_piece l.head ∷ bracketed l.args) (record { head = r; args = ks })

prints_plain : (r : Ref) → FitsRef r → Prints (applied r []) 1
prints_plain r h = record {
  printable = subst Printable (sym (roll_pieces r [])) (FitsPiece-ref r h, tt);
  reads_back = λ rest. subst (λ ts. IsActual (reads ts rest) rest (applied r []) 1) (sym (roll_pieces r []))
      (subst (λ xs. IsActual xs rest (applied r []) 1) (sym (reads-ref r [] rest)) (spelling.IsActual.actual (spelling.Unsuffixed.plain (ref_of_read r)) spelling.Suffixed.bare));
}

prints_applied : (r : Ref) (ks : List Actual) (d : ℕ) → FitsRef r → PrintsArgs [] 0 ks d → Prints (applied r ks) (suc d)
prints_applied r ks d h p =
    let inner = actual_pieces p.first ++ bracket_end (map actual_pieces p.others) in
    let whole : actual_pieces (applied r ks) ≡ ref_piece r ∷ mark 40 ∷ inner = roll_pieces r ks ∙ ap (λ l. ref_piece r ∷ bracketed (map actual_pieces l)) p.split in
    record {
      printable = subst Printable (sym whole) (FitsPiece-ref r h, (FitsPiece-mark 40 refl, p.printable));
      reads_back = λ rest. subst (λ ts. IsActual (reads ts rest) rest (applied r ks) (suc d)) (sym whole)
          (subst (λ xs. IsActual xs rest (applied r ks) (suc d)) (sym (reads-ref r (mark 40 ∷ inner) rest))
          (spelling.IsActual.actual (spelling.Unsuffixed.with_args (ref_of_read r) refl (p.reads_back rest)) spelling.Suffixed.bare));
    }

prints_last : (done : List Actual) (m : ℕ) (a : Actual) (d : ℕ) → Prints a d → PrintsArgs done m (done ++ a ∷ []) (max m d)
prints_last done m a d p = record {
  first = a;
  others = [];
  split = refl;
  printable = recursion-append FitsPiece (actual_pieces a) (mark 41 ∷ []) p.printable (FitsPiece-mark 41 refl, tt);
  reads_back = λ rest. subst (λ xs. Args done m xs rest (done ++ a ∷ []) (max m d)) (sym (reads-append (actual_pieces a) (mark 41 ∷ []) rest)) (spelling.Args.last (p.reads_back _) refl);
}

prints_more : (done all : List Actual) (m : ℕ) (a : Actual) (d e : ℕ) → Prints a d → PrintsArgs (done ++ a ∷ []) (max m d) all e → PrintsArgs done m all e
prints_more done all m a d e p q =
    let later = mark 44 ∷ actual_pieces q.first ++ bracket_end (map actual_pieces q.others) in
    record {
      first = a;
      others = q.first ∷ q.others;
      split = q.split ∙ append_assoc done (a ∷ []) (q.first ∷ q.others);
      printable = recursion-append FitsPiece (actual_pieces a) later p.printable (FitsPiece-mark 44 refl, q.printable);
      reads_back = λ rest. subst (λ xs. Args done m xs rest all e) (sym (reads-append (actual_pieces a) later rest)) (spelling.Args.more (p.reads_back _) refl (q.reads_back rest));
    }

suffix_word : (g : TokenKind) (n : List ℕ) → suffix_of g ≡ Some n → LexemeText kinds.Word n
suffix_word signs.Question n e = let same : 111 ∷ 112 ∷ 116 ∷ 105 ∷ 111 ∷ 110 ∷ [] ≡ n = cc in subst (λ k. LexemeText kinds.Word k) same (texts.LexemeText.word refl (refl, (refl, (refl, (refl, (refl, tt))))))
suffix_word signs.Star n e = let same : 108 ∷ 105 ∷ 115 ∷ 116 ∷ [] ≡ n = cc in subst (λ k. LexemeText kinds.Word k) same (texts.LexemeText.word refl (refl, (refl, (refl, tt))))
suffix_word signs.Plus n e =
    let same : 110 ∷ 111 ∷ 110 ∷ 101 ∷ 109 ∷ 112 ∷ 116 ∷ 121 ∷ 95 ∷ 108 ∷ 105 ∷ 115 ∷ 116 ∷ [] ≡ n = cc in
    subst (λ k. LexemeText kinds.Word k) same (texts.LexemeText.word refl (refl, (refl, (refl, (refl, (refl, (refl, (refl, (refl, (refl, (refl, (refl, (refl, tt)))))))))))))
suffix_word _ n e = absurd (cc)

Suffixed-prints : {xs rest : List FileToken} {a b : Actual} {d e : ℕ} → Suffixed a d xs rest b e → Prints a d → AllFit xs → Prints b e × AllFit rest
Suffixed-prints spelling.Suffixed.bare p h = (p, h)
Suffixed-prints (spelling.Suffixed.suffix {a = a} {d = d} {x = x} {n = n} f s) p h =
    Suffixed-prints s (prints_applied (Plain n) (a ∷ []) d (suffix_word x.sign n f) (subst (λ k. PrintsArgs [] 0 (a ∷ []) k) (omega arith) (prints_last [] 0 a d p))) h.1

mutual
  Actual-prints : {xs rest : List FileToken} {a : Actual} {d : ℕ} → IsActual xs rest a d → AllFit xs → Prints a d × AllFit rest
  Actual-prints (spelling.IsActual.actual b s) h = let p = Unsuffixed-prints b h in Suffixed-prints s p.0 p.1

  Unsuffixed-prints : {xs rest : List FileToken} {a : Actual} {d : ℕ} → Unsuffixed xs rest a d → AllFit xs → Prints a d × AllFit rest
  Unsuffixed-prints (spelling.Unsuffixed.plain {x = x} {r = r} e) h = (prints_plain r (ref_fits x r e h.0), h.1)
  Unsuffixed-prints (spelling.Unsuffixed.with_args {x = x} {r = r} {ks = ks} {d = d} e o b) h = let p = Args-prints b h.1.1 in (prints_applied r ks d (ref_fits x r e h.0) p.0, p.1)

  Args-prints : {done all : List Actual} {m e : ℕ} {xs rest : List FileToken} → Args done m xs rest all e → AllFit xs → PrintsArgs done m all e × AllFit rest
  Args-prints (spelling.Args.last {done = done} {m = m} {d = d} {a = a} b e) h = let p = Actual-prints b h in (prints_last done m a d p.0, p.1.1)
  Args-prints (spelling.Args.more {done = done} {all = all} {m = m} {d = d} {e = e} {a = a} b f t) h =
      let p = Actual-prints b h in let q = Args-prints t p.1.1 in (prints_more done all m a d e p.0 q.0, q.1)

-- The printed lexemes of the actual are an actual that is not too deep.
pub record FitsActual (a : Actual) : Type 0 where
  pub printable : Printable (actual_pieces a)
  pub reads_back : (rest : List FileToken) → LimitedActual (reads (actual_pieces a) rest) rest a

LimitedActual-fits : {xs rest : List FileToken} {a : Actual} → LimitedActual xs rest a → AllFit xs → FitsActual a × AllFit rest
LimitedActual-fits (spelling.LimitedActual.limited b l) h =
    let p = Actual-prints b h in (record { printable = p.0.printable; reads_back = λ rest. spelling.LimitedActual.limited (p.0.reads_back rest) l }, p.1)

-- Lemmas on modules.

pub record FitsToken (t : TokenDecl) : Type 0 where
  pub name : LexemeText kinds.Word t.name
  pub capital : is_capital t.name ≡ true
  pub alias : FitsContent t.alias
  pub cost : IsTokenReady t

pub record FitsAlternative (a : Alternative) : Type 0 where
  pub producers : AllByRecursion FitsActual a.producers
  pub prec : FitsPrec a.prec

pub record FitsRule (r : Rule) : Type 0 where
  pub name : LexemeText kinds.Word r.name
  pub formals : AllByRecursion (LexemeText kinds.Word) r.formals
  pub some : r.alternatives ≢ []
  pub alternatives : AllByRecursion FitsAlternative r.alternatives

abbrev pub FitsLevel : LevelDecl → Type 0
FitsLevel l = AllByRecursion FitsRef l.names

pub record FitsModule (m : Module) : Type 0 where
  pub tokens : AllByRecursion FitsToken m.tokens
  pub starts : AllByRecursion (LexemeText kinds.Word) m.starts
  pub levels : AllByRecursion FitsLevel m.levels
  pub on_error : AllByRecursion (AllByRecursion FitsActual) m.on_error
  pub rules : AllByRecursion FitsRule m.rules

Alias-fits : {xs rest : List FileToken} {o : Option (List ℕ)} {c : Option ℕ} → IsAlias xs rest o c → AllFit xs → FitsContent o × IfSome c IsCost × AllFit rest
Alias-fits spelling.IsAlias.absent h = (tt, tt, h)
Alias-fits (spelling.IsAlias.given {y = y} e) h = (sign_fits y signs.Quoted e h.0, h.0.1, h.1)

Token-fits : (xs rest : List FileToken) (t : TokenDecl) → IsTokenItem xs rest t → AllFit xs → FitsToken t × AllFit rest
Token-fits xs rest t (spelling.IsTokenItem.token {x = x} {c = d} e c a) h =
    let p = Alias-fits a h.1 in (record { name = sign_fits x signs.Word e h.0; capital = c; alias = p.0; cost = option_or-is_cost x.cost d h.0.1 p.1 }, p.2)

Word-fits : (xs rest : List FileToken) (n : List ℕ) → IsWordItem xs rest n → AllFit xs → LexemeText kinds.Word n × AllFit rest
Word-fits xs rest n (spelling.IsWordItem.word {x = x} e) h = (sign_fits x signs.Word e h.0, h.1)

Ref-fits : (xs rest : List FileToken) (r : Ref) → IsRef xs rest r → AllFit xs → FitsRef r × AllFit rest
Ref-fits xs rest r (spelling.IsRef.reference {x = x} e) h = (ref_fits x r e h.0, h.1)

Listed-fits : (xs rest : List FileToken) (a : Actual) → LimitedActual xs rest a → AllFit xs → FitsActual a × AllFit rest
Listed-fits xs rest a b h = LimitedActual-fits b h

List-fits : {A : Type 0} {X : List FileToken → List FileToken → A → Type 0} (P : A → Type 0) → ((xs rest : List FileToken) (a : A) → X xs rest a → AllFit xs → P a × AllFit rest) →
    {done all : List A} {xs rest : List FileToken} → ListOf A X done xs rest all → AllFit xs → AllByRecursion P done → AllByRecursion P all × AllFit rest
List-fits P f spelling.ListOf.none h k = (k, h)
List-fits P f (spelling.ListOf.next {done = done} {a = a} b t) h k = let p = f _ _ a b h in List-fits P f t p.1 (recursion-push P done a k p.0)
List-fits P f (spelling.ListOf.comma {done = done} {a = a} e b t) h k = let p = f _ _ a b h.1 in List-fits P f t p.1 (recursion-push P done a k p.0)

OptionalType-fits : {xs rest : List FileToken} → OptionalType xs rest → AllFit xs → AllFit rest
OptionalType-fits spelling.OptionalType.absent h = h
OptionalType-fits (spelling.OptionalType.given e) h = h.1

Declaration-fits : {m n : Module} {xs rest : List FileToken} → Declaration m xs rest n → AllFit xs → FitsModule m → FitsModule n × AllFit rest
Declaration-fits (spelling.Declaration.header e) h k = (k, h.1)
Declaration-fits (spelling.Declaration.semicolon e) h k = (k, h.1)
Declaration-fits (spelling.Declaration.tokens e t l) h k = let p = List-fits FitsToken Token-fits l (OptionalType-fits t h.1) k.tokens in (record { tokens = p.0; starts = k.starts; levels = k.levels; on_error = k.on_error; rules = k.rules }, p.1)
Declaration-fits (spelling.Declaration.starts e t l) h k = let p = List-fits (LexemeText kinds.Word) Word-fits l (OptionalType-fits t h.1) k.starts in (record { tokens = k.tokens; starts = p.0; levels = k.levels; on_error = k.on_error; rules = k.rules }, p.1)
Declaration-fits (spelling.Declaration.types e f l) h k = let p = List-fits FitsActual Listed-fits l h.1.1 tt in (k, p.1)
Declaration-fits (spelling.Declaration.levels {m = m} {g = g} {ks = ks} e l) h k =
    let p = List-fits FitsRef Ref-fits l h.1 tt in (record { tokens = k.tokens; starts = k.starts; levels = recursion-push FitsLevel m.levels (record { assoc = g; names = ks }) k.levels p.0; on_error = k.on_error; rules = k.rules }, p.1)
Declaration-fits (spelling.Declaration.on_error {m = m} {ks = ks} e l) h k =
    let p = List-fits FitsActual Listed-fits l h.1 tt in (record { tokens = k.tokens; starts = k.starts; levels = k.levels; on_error = recursion-push (AllByRecursion FitsActual) m.on_error ks k.on_error p.0; rules = k.rules }, p.1)
Declaration-fits (spelling.Declaration.parameter e f) h k = (k, h.1.1)
Declaration-fits (spelling.Declaration.attribute e l) h k = let p = List-fits FitsActual Listed-fits l h.1 tt in (k, p.1)

Semicolons-fit : {xs rest : List FileToken} → Semicolons xs rest → AllFit xs → AllFit rest
Semicolons-fit spelling.Semicolons.none h = h
Semicolons-fit (spelling.Semicolons.more e t) h = Semicolons-fit t h.1

Producer-fits : {xs rest : List FileToken} {a : Actual} → IsProducer xs rest a → AllFit xs → FitsActual a × AllFit rest
Producer-fits (spelling.IsProducer.unnamed b) h = LimitedActual-fits b h
Producer-fits (spelling.IsProducer.named e f b) h = LimitedActual-fits b h.1.1

Producers-fit : {done all : List Actual} {xs rest : List FileToken} → Producers done xs rest all → AllFit xs → AllByRecursion FitsActual done → AllByRecursion FitsActual all × AllFit rest
Producers-fit spelling.Producers.none h k = (k, h)
Producers-fit (spelling.Producers.more {done = done} {a = a} b s t) h k =
    let p = Producer-fits b h in Producers-fit t (Semicolons-fit s p.1) (recursion-push FitsActual done a k p.0)

Prec-fits : {xs rest : List FileToken} {p : Option Ref} → IsPrec xs rest p → AllFit xs → FitsPrec p × AllFit rest
Prec-fits spelling.IsPrec.absent h = (tt, h)
Prec-fits (spelling.IsPrec.given {y = y} {r = r} e f) h = (ref_fits y r f h.1.0, h.1.1)

Productions-fit : {done all : List Alternative} {xs rest : List FileToken} → Productions done xs rest all → AllFit xs → AllByRecursion FitsAlternative done →
    AllByRecursion FitsAlternative all × AllFit rest
Productions-fit (spelling.Productions.last {done = done} {ps = ps} {p = p} b q e) h k =
    let x = Producers-fit b h tt in let y = Prec-fits q x.1 in
    (recursion-push FitsAlternative done (alternative ps p) k (record { producers = x.0; prec = y.0 }), y.1.1)
Productions-fit (spelling.Productions.more {done = done} {ps = ps} {p = p} b q e t) h k =
    let x = Producers-fit b h tt in let y = Prec-fits q x.1 in
    Productions-fit t y.1.1 (recursion-push FitsAlternative done (alternative ps p) k (record { producers = x.0; prec = y.0 }))

own_fits : (g p : Option Ref) → FitsPrec g → FitsPrec p → FitsPrec (own_or g p)
own_fits g None h k = h
own_fits g (Some r) h k = k

group_fits : (g : Option Ref) (ks : List Alternative) → FitsPrec g → AllByRecursion FitsAlternative ks → AllByRecursion FitsAlternative (map (with_prec g) ks)
group_fits g [] h k = tt
group_fits g (a ∷ ks) h k = (record { producers = k.0.producers; prec = own_fits g a.prec h k.0.prec }, group_fits g ks h k.1)

Groups-fit : {done all : List Alternative} {xs rest : List FileToken} → Groups done xs rest all → AllFit xs → AllByRecursion FitsAlternative done →
    AllByRecursion FitsAlternative all × AllFit rest
Groups-fit (spelling.Groups.last {done = done} {ks = ks} {g = g} b q) h k =
    let x = Productions-fit b h tt in let y = Prec-fits q x.1 in
    (recursion-append FitsAlternative done (map (with_prec g) ks) k (group_fits g ks y.0 x.0), y.1)
Groups-fit (spelling.Groups.more {done = done} {ks = ks} {g = g} b q e t) h k =
    let x = Productions-fit b h tt in let y = Prec-fits q x.1 in
    Groups-fit t y.1.1 (recursion-append FitsAlternative done (map (with_prec g) ks) k (group_fits g ks y.0 x.0))

joined_some : {X : Type 0} (xs ys : List X) → ys ≢ [] → xs ++ ys ≢ []
joined_some [] ys h e = h e
joined_some (x ∷ xs) ys h e = absurd (cc)

Productions-some : {done all : List Alternative} {xs rest : List FileToken} → Productions done xs rest all → all ≢ []
Productions-some (spelling.Productions.last {done = done} {ps = ps} {p = p} b q e) = joined_some done (alternative ps p ∷ []) (λ e. absurd (cc))
Productions-some (spelling.Productions.more b q e t) = Productions-some t

Groups-some : {done all : List Alternative} {xs rest : List FileToken} → Groups done xs rest all → all ≢ []
Groups-some (spelling.Groups.last {done = done} {ks = ks} {g = g} b q) = joined_some done (map (with_prec g) ks) (map_some (with_prec g) ks (Productions-some b))
Groups-some (spelling.Groups.more b q e t) = Groups-some t

Modifiers-fit : {p i q j : Bool} {xs rest : List FileToken} → Modifiers p i xs rest q j → AllFit xs → AllFit rest
Modifiers-fit spelling.Modifiers.none h = h
Modifiers-fit (spelling.Modifiers.public e t) h = Modifiers-fit t h.1
Modifiers-fit (spelling.Modifiers.inlined e t) h = Modifiers-fit t h.1

Formals-fit : {done all : List (List ℕ)} {xs rest : List FileToken} → Formals done xs rest all → AllFit xs → AllByRecursion (LexemeText kinds.Word) done →
    AllByRecursion (LexemeText kinds.Word) all × AllFit rest
Formals-fit (spelling.Formals.last {done = done} {x = x} e f) h k = (recursion-push (LexemeText kinds.Word) done x.text k (sign_fits x signs.Word e h.0), h.1.1)
Formals-fit (spelling.Formals.more {done = done} {x = x} e f t) h k = Formals-fit t h.1.1 (recursion-push (LexemeText kinds.Word) done x.text k (sign_fits x signs.Word e h.0))

OptionalFormals-fit : {done all : List (List ℕ)} {xs rest : List FileToken} → OptionalFormals done xs rest all → AllFit xs → AllByRecursion (LexemeText kinds.Word) done →
    AllByRecursion (LexemeText kinds.Word) all × AllFit rest
OptionalFormals-fit spelling.OptionalFormals.absent h k = (k, h)
OptionalFormals-fit (spelling.OptionalFormals.empty e f) h k = (k, h.1.1)
OptionalFormals-fit (spelling.OptionalFormals.given e t) h k = Formals-fit t h.1 k

OptionalBar-fits : {xs rest : List FileToken} → OptionalBar xs rest → AllFit xs → AllFit rest
OptionalBar-fits (spelling.OptionalBar.absent e) h = h
OptionalBar-fits (spelling.OptionalBar.given e) h = h.1

Rule-fits : {xs rest : List FileToken} {r : Rule} → IsRule xs rest r → AllFit xs → FitsRule r × AllFit rest
Rule-fits (spelling.IsRule.rule {x = x} ms e fs f b gs s) h =
    let named = Modifiers-fit ms h in
    let formals = OptionalFormals-fit fs named.1 tt in
    let groups = Groups-fit gs (OptionalBar-fits b formals.1.1) tt in
    (record { name = sign_fits x signs.Word e named.0; formals = formals.0; some = Groups-some gs; alternatives = groups.0 }, Semicolons-fit s groups.1)

Rules-fit : {m out : Module} {xs : List FileToken} → Rules m xs out → AllFit xs → FitsModule m → FitsModule out
Rules-fit spelling.Rules.none h k = k
Rules-fit (spelling.Rules.trailer e) h k = k
Rules-fit (spelling.Rules.more {m = m} {r = r} b t) h k = let p = Rule-fits b h in Rules-fit t p.1 (record { tokens = k.tokens; starts = k.starts; levels = k.levels; on_error = k.on_error; rules = recursion-push FitsRule m.rules r k.rules p.0 })

File-fits : {m out : Module} {xs : List FileToken} → File m xs out → AllFit xs → FitsModule m → FitsModule out
File-fits (spelling.File.declared d t) h k = let p = Declaration-fits d h k in File-fits t p.1 p.0
File-fits (spelling.File.ruled e t) h k = Rules-fit t h.1 k

-- A module that the lexemes of a file spell can be printed.
pub FitsModule-spelled : {m : Module} {xs : List FileToken} → File no_module xs m → AllFit xs → FitsModule m
FitsModule-spelled f h = File-fits f h (record { tokens = tt; starts = tt; levels = tt; on_error = tt; rules = tt })
