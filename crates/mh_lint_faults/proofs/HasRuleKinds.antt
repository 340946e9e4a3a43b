-- Tables with the meanings that files define know the kinds of names.
use Rattle.std.proofs.Common.{◌≡◌, ◌||◌, ◌++◌, ◌⊎◌, Bool, true, false, List, [], ◌∷◌, Option, Some, None, flat_map, if◌then◌else◌, refl, sym, ap, subst, ◌∙◌, inl, inr}
use Rattle.std.specs.List.{Contains, list_any}
use Rattle.std.proofs.lemmas.List.Elements.{Contains-append_cases}
use Rattle.std.proofs.lemmas.List.Folds.{list_any-append}
use Rattle.std.proofs.lemmas.Map.Views.{Contains-from_lookup}
use Rattle.mh_grammar.specs.Text.{Text}
use Rattle.mh_grammar.proofs.Lists.{contains_cases, contains_flat_map, contains_map, contains_none, flat_map_contains}
use Rattle.mh_grammar.proofs.TextEquality.{equal_from_same, same_refl}
use Rattle.mh_rules.specs.declared.modules.Module.{Module}
use Rattle.mh_rules.specs.declared.modules.Rule.{Rule}
use Rattle.mh_rules.specs.declared.modules.TokenDecl.{TokenDecl}
use Rattle.mh_join_names.specs.Faults.{Meanings, agrees, kind_of, kinds_in, same_kind}
use Rattle.mh_join_names.specs.Names.{insert_all, insert_key, same, token_names, tokens_in}
use Rattle.mh_join_names.specs.code.SymbolTables.{HasMeanings, meanings_in}
use Rattle.mh_join_names.specs.declared.kinds.NameKind.{NameKind}
use Rattle.mh_join_names.specs.declared.kinds.NameKind.TheVariants as kinds
use Rattle.mh_join_names.specs.declared.names.SymbolTables.{SymbolTables}
use Rattle.mh_lint_faults.specs.code.RuleKinds.{HasRuleKinds}

-- ---- A list with names inserted has each of its names, and each that was inserted.

has_last : (x : Text) (xs : List Text) → list_any (same x) (xs ++ x ∷ []) ≡ true
has_last x xs = list_any-append (same x) xs (x ∷ []) ∙ ap (λ b. list_any (same x) xs || (b || false)) (same_refl x) ∙ last (list_any (same x) xs)
  where
    last : (b : Bool) → (b || (true || false)) ≡ true
    last true = refl
    last false = refl

keeps : (x : Text) (xs : List Text) (y : Text) → list_any (same x) xs ≡ true → list_any (same x) (insert_key same xs y) ≡ true
keeps x xs y h = go (list_any (same y) xs)
  where
    go : (b : Bool) → list_any (same x) (if b then xs else xs ++ y ∷ []) ≡ true
    go true = h
    go false = list_any-append (same x) xs (y ∷ []) ∙ ap (λ b. b || list_any (same x) (y ∷ [])) h

has_inserted : (xs : List Text) (y : Text) → list_any (same y) (insert_key same xs y) ≡ true
has_inserted xs y = go (list_any (same y) xs) refl
  where
    go : (b : Bool) → list_any (same y) xs ≡ b → list_any (same y) (if b then xs else xs ++ y ∷ []) ≡ true
    go true e = e
    go false e = has_last y xs

keeps_all : (x : Text) (xs ys : List Text) → list_any (same x) xs ≡ true → list_any (same x) (insert_all same xs ys) ≡ true
keeps_all x xs [] h = h
keeps_all x xs (y ∷ ys) h = keeps_all x (insert_key same xs y) ys (keeps x xs y h)

has_each : (x : Text) (xs ys : List Text) → Contains ys x → list_any (same x) (insert_all same xs ys) ≡ true
has_each x xs [] c = absurd (contains_none x c)
has_each x xs (y ∷ ys) c = elim (contains_cases y ys x c) [
  | inl e ↦ keeps_all x (insert_key same xs y) ys (subst (λ z. list_any (same z) (insert_key same xs y) ≡ true) e (has_inserted xs y))
  | inr d ↦ has_each x (insert_key same xs y) ys d
]

-- ---- A name of the kind of tokens is declared as a token.

declared : (m : Module) (x : Text) → Contains (kinds_in m) (x, kinds.Token) → Contains (tokens_in m) x
declared m x c = elim (Contains-append_cases (flat_map (λ (t : TokenDecl). (t.name, kinds.Token) ∷ []) m.tokens) (flat_map (λ (r : Rule). (r.name, kinds.Rule) ∷ []) m.rules) (x, kinds.Token) c) [
  | inl a ↦
      let t = flat_map_contains (λ (t : TokenDecl). (t.name, kinds.Token) ∷ []) m.tokens (x, kinds.Token) a in
      elim (contains_cases (t.0.name, kinds.Token) [] (x, kinds.Token) t.2) [
        | inl e ↦ subst (λ n. Contains (tokens_in m) n) (ap (λ (p : Text × NameKind). p.0) e) (contains_map (λ (t : TokenDecl). t.name) m.tokens t.0 t.1)
        | inr n ↦ absurd (contains_none (x, kinds.Token) n)
      ]
  | inr b ↦
      let r = flat_map_contains (λ (r : Rule). (r.name, kinds.Rule) ∷ []) m.rules (x, kinds.Token) b in
      elim (contains_cases (r.0.name, kinds.Rule) [] (x, kinds.Token) r.2) [
        | inl e ↦ (let k : kinds.Rule ≡ kinds.Token = ap (λ (p : Text × NameKind). p.1) e in cc)
        | inr n ↦ absurd (contains_none (x, kinds.Token) n)
      ]
]

rule_kind : (ms : List Module) (x : Text) → list_any (same x) (token_names ms) ≡ false → agrees same_kind (kind_of ms x) kinds.Rule ≡ true
rule_kind ms x none = go (kind_of ms x) refl
  where
    go : (k : Option NameKind) → kind_of ms x ≡ k → agrees same_kind k kinds.Rule ≡ true
    go None e = refl
    go (Some kinds.Rule) e = refl
    go (Some kinds.Token) e =
        let m = flat_map_contains kinds_in ms (x, kinds.Token) (Contains-from_lookup equal_from_same x kinds.Token (flat_map kinds_in ms) e) in
        let has : list_any (same x) (token_names ms) ≡ true = has_each x [] (flat_map tokens_in ms) (contains_flat_map tokens_in ms m.0 x m.1 (declared m.0 x m.2)) in
        let bad : false ≡ true = sym none ∙ has in cc

pub rule_kinds : (p : Bool) (ms : List Module) (n : SymbolTables) → HasMeanings p ms n → HasRuleKinds n
rule_kinds p ms n h x none =
    let tokens : n.tokens.keys ≡ token_names ms = ap (λ (w : Meanings). w.tokens) h.meanings_are in
    let kind : (meanings_in n).kind x ≡ kind_of ms x = ap (λ (w : Meanings). w.kind x) h.meanings_are in
    subst (λ k. agrees same_kind k kinds.Rule ≡ true) (sym kind) (rule_kind ms x (ap (list_any (same x)) (sym tokens) ∙ none))
