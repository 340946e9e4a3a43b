-- The tokens of a grammar that modules give have distinct names, none of which is the name of the end of the stream.
use Rattle.std.proofs.Common.{◌≡◌, ◌<◌, ◌∙◌, ◌||◌, ℕ, zero, suc, Bool, true, false, true≢false, List, [], ◌∷◌, ◌++◌, map, length, Option, Some, refl, sym, ap, subst, codes, get_or, if◌then◌else◌}
use Rattle.std.specs.List.{All, Contains, flat_map, list_any, slice_get}
use Rattle.std.specs.Option.{option_map, unwrap_or}
use Rattle.std.proofs.Math.Bool.{or-true}
use Rattle.std.proofs.lemmas.List.{length-map}
use Rattle.std.proofs.lemmas.Option.{slice_get-get_or, slice_get-map}
use Rattle.std.proofs.lemmas.List.Elements.{All-head, All-nil, All-push, All-tail, All-contains, All-map, All-append}
use Rattle.mh_grammar.specs.Names.{token_name}
use Rattle.mh_grammar.specs.Numbering.{AreDistinct}
use Rattle.mh_grammar.specs.declared.types.Grammar.{Grammar}
use Rattle.mh_grammar.specs.declared.types.TokenInfo.{TokenInfo}
use Rattle.mh_grammar.proofs.Lists.{at_contains, contains_at}
use Rattle.mh_grammar.proofs.NumberingInvariant.{AreDistinct-push}
use Rattle.mh_grammar.proofs.TextEquality.{same_refl}
use Rattle.mh_rules.specs.declared.modules.Module.{Module}
use Rattle.mh_rules.specs.declared.modules.TokenDecl.{TokenDecl}
use Rattle.mh_join_names.specs.Names.{same, token_names, tokens_in, insert_all, insert_key}
use Rattle.mh_join_names.specs.Faults.{Meanings, meanings}
use Rattle.mh_join_names.specs.Joining.{token_info}
use Rattle.mh_reader_parser.specs.TokenKinds.{is_capital}
use Rattle.mh_front.specs.Stages.{IsGrammarOfModules}
use Rattle.mh_validate_valid.specs.Valid.{AreTokenNamesDistinct}
use Rattle.mh_grammar.specs.Text.{Text}
use Rattle.mh_top_load.specs.code.CapitalTokens.{HasCapitalTokens}

-- A list contains the name at each of its indices.
found_at : (k : Text) (ks : List Text) (i : ℕ) → slice_get ks i ≡ Some k → list_any (same k) ks ≡ true
found_at k [] i e = absurd (cc)
found_at k (x ∷ xs) zero e =
    let here : x ≡ k = cc in
    ap (λ (b : Bool). b || list_any (same k) xs) (ap (same k) here ∙ same_refl k)
found_at k (x ∷ xs) (suc i) e = ap (λ (b : Bool). same k x || b) (found_at k xs i e) ∙ or-true (same k x)

found_there : (k : Text) (ks : List Text) → list_any (same k) ks ≡ false → Contains ks k → ⊥
found_there k ks none there = let at = at_contains ks k there in true≢false (sym (found_at k ks at.0 at.1) ∙ none)

abbrev Capital : Text → Type 0
Capital x = is_capital x ≡ true

-- ---- The list of distinct names (`insert_all`) has no name twice, and keeps each property of all names.
module _ {X : Type 0} (eq : X → X → Bool) (P : X → Type 0) where
  put_all : (ks : List X) (x : X) → All P ks → P x → All P (insert_key eq ks x)
  put_all ks x h p = by (list_any (eq x) ks)
    where
      by : (b : Bool) → All P (if b then ks else ks ++ x ∷ [])
      by true = h
      by false = All-push P ks x h p

  pub firsts_all : (ks xs : List X) → All P ks → All P xs → All P (insert_all eq ks xs)
  firsts_all ks [] h k = h
  firsts_all ks (x ∷ xs) h k = firsts_all (insert_key eq ks x) xs (put_all ks x h (All-head P x xs k)) (All-tail P x xs k)

put_distinct : (ks : List Text) (x : Text) → AreDistinct ks → AreDistinct (insert_key same ks x)
put_distinct ks x d = by (list_any (same x) ks) refl
  where
    by : (b : Bool) → list_any (same x) ks ≡ b → AreDistinct (if b then ks else ks ++ x ∷ [])
    by true e = d
    by false e = AreDistinct-push ks x d (found_there x ks e)

pub firsts_distinct : (ks xs : List Text) → AreDistinct ks → AreDistinct (insert_all same ks xs)
firsts_distinct ks [] d = d
firsts_distinct ks (x ∷ xs) d = firsts_distinct (insert_key same ks x) xs (put_distinct ks x d)

pub none_distinct : AreDistinct {X = Text} []
none_distinct = record { same = λ i j x e f. absurd (cc) }

names_capital : (m : Module) → HasCapitalTokens m → All Capital (tokens_in m)
names_capital m h = All-map Capital (λ (t : TokenDecl). t.name) m.tokens h

capitals : (ms : List Module) → All HasCapitalTokens ms → All Capital (flat_map tokens_in ms)
capitals [] h = All-nil Capital
capitals (m ∷ ms) h = All-append Capital (tokens_in m) (flat_map tokens_in ms) (names_capital m (All-head HasCapitalTokens m ms h)) (capitals ms (All-tail HasCapitalTokens m ms h))

-- ---- Grammars whose tokens have the names of a given list.
module _ (w : Meanings) (names : List Text) (g : Grammar) (is : g.tokens ≡ map (token_info w) names) where
  pub name_is : (z : ℕ) (x : Text) → slice_get names z ≡ Some x → token_name g z ≡ x
  unfolding token_name
  name_is z x at = ap (λ (ts : List TokenInfo). unwrap_or (option_map (λ (i : TokenInfo). i.name) (slice_get ts z)) []) is
      ∙ ap (λ (o : Option TokenInfo). unwrap_or (option_map (λ (i : TokenInfo). i.name) o) []) (slice_get-map (token_info w) names z ∙ ap (option_map (token_info w)) at)

  pub named : (z : ℕ) → z < length g.tokens → (x : Text) × (slice_get names z ≡ Some x)
  named z lt =
      let lengths : length g.tokens ≡ length names = ap length is ∙ length-map names (token_info w) in
      (get_or names z [], slice_get-get_or names z [] (rw lengths at lt))

  apart_by : AreDistinct names → All Capital names → AreTokenNamesDistinct g
  apart_by d c = record {
    distinct = λ y z ly lz e.
        let a = named y ly in
        let b = named z lz in
        let one : a.0 ≡ b.0 = sym (name_is y a.0 a.1) ∙ e ∙ name_is z b.0 b.1 in
        d.same y z a.0 a.1 (b.1 ∙ ap Some (sym one));
    no_end = λ z lz e.
        let a = named z lz in
        let hash : a.0 ≡ codes "#" = sym (name_is z a.0 a.1) ∙ e in
        let capital : is_capital a.0 ≡ true = All-contains Capital names a.0 c (contains_at names z a.0 a.1) in
        true≢false (sym (subst (λ (x : Text). is_capital x ≡ true) hash capital));
  }

pub names_apart : (prelude : Bool) (ms : List Module) (g : Grammar) → All HasCapitalTokens ms → IsGrammarOfModules prelude ms g → AreTokenNamesDistinct g
names_apart prelude ms g h o =
    let tokens : g.tokens ≡ map (token_info (meanings prelude ms)) (token_names ms) = o.grammar.grammar.inlined.tokens ∙ o.grammar.expands.tokens ∙ o.joins.1.tokens_are in
    apart_by (meanings prelude ms) (token_names ms) g tokens (firsts_distinct [] (flat_map tokens_in ms) none_distinct) (firsts_all same Capital [] (flat_map tokens_in ms) (All-nil Capital) (capitals ms h))
