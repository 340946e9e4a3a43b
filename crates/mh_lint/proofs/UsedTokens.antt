-- The tokens that alternatives have, as flags.
use Rattle.std.proofs.Common.{◌≡◌, ◌⊎◌, ℕ, zero, suc, ◌+◌, ◌<◌, ◌≤◌, Bool, false, List, [], ◌∷◌, ◌++◌, length, map, get_or, replicate, take, drop, arith, refl, sym, ap, subst, ◌∙◌, inl, inr}
use Rattle.std.specs.List.{All, AllByRecursion, Any, Contains, flat_map}
use Rattle.std.proofs.Math.ListN.{drop_of_length-le}
use Rattle.std.proofs.lemmas.List.{append-nil, length-replicate, take_all}
use Rattle.std.proofs.lemmas.List.Folds.{length-flat_map-take}
use Rattle.std.proofs.lemmas.List.Elements.{All-contains}
use Rattle.mh_grammar.proofs.Lists.{contains_cases, contains_flat_map, contains_here, contains_there, flat_map_contains, recursion_contains}
use Rattle.mh_rules.specs.Ready.{IsAppliedBelow, IsHeadBelow, IsJoinedReady, IsRuleReady}
use Rattle.mh_rules.specs.declared.joined.Head.{Head}
use Rattle.mh_rules.specs.declared.joined.Head.TheVariants as heads
use Rattle.mh_rules.specs.declared.joined.Applied.{Applied}
use Rattle.mh_rules.specs.declared.joined.Applied.TheFolds.{every_here-Applied, every_held-Applied, ind-Applied}
use Rattle.mh_rules.specs.declared.joined.Applied.TheViews.{out-Applied, out-roll-Applied, roll-Applied}
use Rattle.mh_rules.specs.declared.joined.Joined.{Joined}
use Rattle.mh_rules.specs.declared.joined.JoinedAlternative.{JoinedAlternative}
use Rattle.mh_rules.specs.declared.joined.JoinedRule.{JoinedRule}
use Rattle.mh_lint_faults.specs.Terms.{heads as heads_of}
use Rattle.mh_lint_faults.proofs.Heads.{heads_out}
use Rattle.mh_lint_states.specs.code.Marks.{AreMarked, Marks}
use Rattle.mh_lint_states.proofs.MarkedFlags.{marked_from, marks_none, marks_same, marks_then}
use Rattle.mh_lint.specs.Uses.{IsTokenUsed}
use Rattle.mh_lint.specs.code.Uses.{TokensBelow}
use Rattle.mh_lint.proofs.Gains.{AnyOf, all_any, any_all, any_cases, any_more, any_none, any_of, of_any}

-- The heads of an actual.

pub head_in : (a : Applied) → Contains (heads_of a) (out-Applied a).head
head_in a = subst (λ hs. Contains hs (out-Applied a).head) (sym (heads_out a)) (contains_here (out-Applied a).head (flat_map heads_of (out-Applied a).args))

pub arg_in : (a x : Applied) (h : Head) → Contains (out-Applied a).args x → Contains (heads_of x) h → Contains (heads_of a) h
arg_in a x h there c = subst (λ hs. Contains hs h) (sym (heads_out a)) (contains_there (out-Applied a).head (flat_map heads_of (out-Applied a).args) h (contains_flat_map heads_of (out-Applied a).args x h there c))

pub heads_cases : (a : Applied) (h : Head) → Contains (heads_of a) h → ((out-Applied a).head ≡ h) ⊎ Any (λ x. Contains (heads_of x) h) (out-Applied a).args
heads_cases a h c = elim (contains_cases (out-Applied a).head (flat_map heads_of (out-Applied a).args) h (subst (λ hs. Contains hs h) (heads_out a) c)) [
  | inl same ↦ inl same
  | inr later ↦ (let one = flat_map_contains heads_of (out-Applied a).args h later in inr (any_of (λ x. Contains (heads_of x) h) (out-Applied a).args one.0 one.1 one.2))
]

-- The number of heads in an actual is one more than the number of heads in its arguments.
pub size_out : (a : Applied) → length (heads_of a) ≡ suc (length (flat_map heads_of (out-Applied a).args))
size_out a = ap length (heads_out a)

pub size_item : (actuals : List Applied) (i : ℕ) (a : Applied) → i < length actuals → a ≡ get_or actuals i a → length (heads_of a) ≤ length (flat_map heads_of actuals)
size_item actuals i a l at = omega (arith, length-flat_map-take heads_of actuals i a l, ap (λ k. length (heads_of k)) at)

-- Heads below their counts have tokens below the count of tokens.
token_below : (f k r z : ℕ) (h : Head) → IsHeadBelow f k r h → h ≡ heads.Token z → z < k
token_below f k r z (heads.Token n) below e = let same : n ≡ z = cc in subst (λ m. m < k) same below
token_below f k r z (heads.Formal n) below e = cc
token_below f k r z (heads.Rule n) below e = cc

-- What implies B of each element of a list implies B of the elements that have it.
both : {X : Type 0} (E B : X → Type 0) (ys : List ((x : X) × (E x → B x))) (zs : List ((x : X) × E x)) → map (λ e. e.0) ys ≡ map (λ e. e.0) zs → (x : X) → Contains (map (λ e. e.0) ys) x → B x
both E B ys zs e x c = recursion_contains B (map (λ v. v.0) ys) (go ys zs e) x c
  where
    go : (ys : List ((x : _) × (E x → B x))) (zs : List ((x : _) × E x)) → map (λ e. e.0) ys ≡ map (λ e. e.0) zs → AllByRecursion B (map (λ e. e.0) ys)
    go [] zs e = tt
    go (y ∷ ys) [] e = cc
    go (y ∷ ys) (z ∷ zs) e =
        let same : y.0 ≡ z.0 = cc in
        let rest : map (λ v. v.0) ys ≡ map (λ v. v.0) zs = cc in
        (y.1 (rw same z.1), go ys zs rest)

pub tokens_below : (f k r : ℕ) (a : Applied) → IsAppliedBelow f k r a → TokensBelow k a
tokens_below f k r = ind-Applied (λ a. IsAppliedBelow f k r a → TokensBelow k a) (λ x y is below z there.
    let a = roll-Applied x in
    let whole = out-roll-Applied x in
    let held = every_held-Applied (λ b. IsHeadBelow f k r b.head) a below in
    let args : map (λ e. e.0) held.0.args ≡ x.args = ap (λ v. v.args) (held.1 ∙ whole) in
    let mine : map (λ e. e.0) y.args ≡ x.args = ap (λ v. v.args) is in
    let outer : (out-Applied a).args ≡ x.args = ap (λ v. v.args) whole in
    elim (heads_cases a (heads.Token z) there) [
      | inl here ↦ token_below f k r z (out-Applied a).head (every_here-Applied (λ b. IsHeadBelow f k r b.head) a below) here
      | inr later ↦ (
          let one = of_any (λ b. Contains (heads_of b) (heads.Token z)) (out-Applied a).args later in
          both (IsAppliedBelow f k r) (λ b. TokensBelow k b) y.args held.0.args (mine ∙ sym args) one.0 (subst (λ ys. Contains ys one.0) (outer ∙ sym mine) one.1) z one.2)
    ])

-- Flags for the tokens of an actual.

abbrev pub HasToken : Applied → ℕ → Type 0
HasToken a z = Contains (heads_of a) (heads.Token z)

abbrev pub HaveToken : JoinedAlternative → ℕ → Type 0
HaveToken a z = Any (λ p. HasToken p z) a.producers

abbrev pub RuleHasToken : JoinedRule → ℕ → Type 0
RuleHasToken r z = Any (λ a. HaveToken a z) r.alternatives

pub actual_marked : (a : Applied) (args : List Applied) (old mid new : List Bool) → args ≡ (out-Applied a).args → Marks (λ z. (out-Applied a).head ≡ heads.Token z) old mid → Marks (λ z. Any (λ x. HasToken x z) args) mid new → Marks (HasToken a) old new
actual_marked a args old mid new same first later = marks_same (λ z. ((out-Applied a).head ≡ heads.Token z) ⊎ Any (λ x. HasToken x z) args) (HasToken a) old new to back (marks_then (λ z. (out-Applied a).head ≡ heads.Token z) (λ z. Any (λ x. HasToken x z) args) old mid new first later)
  where
    to : (z : ℕ) → ((out-Applied a).head ≡ heads.Token z) ⊎ Any (λ x. HasToken x z) args → HasToken a z
    to z (inl e) = subst (λ h. Contains (heads_of a) h) e (head_in a)
    to z (inr some) = let one = of_any (λ x. HasToken x z) args some in arg_in a one.0 (heads.Token z) (subst (λ ys. Contains ys one.0) same one.1) one.2

    back : (z : ℕ) → HasToken a z → ((out-Applied a).head ≡ heads.Token z) ⊎ Any (λ x. HasToken x z) args
    back z c = elim (heads_cases a (heads.Token z) c) [ inl e ↦ inl e | inr some ↦ inr (subst (λ ys. Any (λ x. HasToken x z) ys) (sym same) some) ]

-- The flags of the elements of a list, one after another.
module _ {X : Type 0} (P : X → ℕ → Type 0) (xs : List X) where
  pub list_unmarked : (flags : List Bool) → Marks (AnyOf P xs 0) flags flags
  list_unmarked flags = marks_none (AnyOf P xs 0) flags (any_none P xs)

  pub list_marked_next : (n : ℕ) (x : X) (old mid new : List Bool) → n < length xs → x ≡ get_or xs n x → Marks (AnyOf P xs n) old mid → Marks (P x) mid new → Marks (AnyOf P xs (n + 1)) old new
  list_marked_next n x old mid new l at g h = marks_same (λ z. AnyOf P xs n z ⊎ P x z) (AnyOf P xs (n + 1)) old new (any_more P xs n x l at) (any_cases P xs n x l at) (marks_then (AnyOf P xs n) (P x) old mid new g h)

  pub list_marked : (n : ℕ) (old new : List Bool) → length xs ≤ n → Marks (AnyOf P xs n) old new → Marks (λ z. Any (λ x. P x z) xs) old new
  list_marked n old new le g = marks_same (AnyOf P xs n) (λ z. Any (λ x. P x z) xs) old new (any_all P xs n le) (all_any P xs n le) g

-- All tokens.

-- A slice that is written whole.
pub slice_written : {X : Type 0} (n : ℕ) (old new : List X) → length new ≡ length old → length old ≡ n → take n (new ++ drop (length new) old) ≡ new
slice_written n old new same len =
    ap (λ rest. take n (new ++ rest)) (drop_of_length-le old (omega (arith, same)))
    ∙ ap (take n) (append-nil new) ∙ take_all n new (omega (arith, same, len))

no_flag : (n i : ℕ) → get_or (replicate n false) i false ≡ false
no_flag zero i = refl
no_flag (suc n) zero = refl
no_flag (suc n) (suc i) = no_flag n i

pub used_length : (j : Joined) (n : ℕ) (used : List Bool) → Marks (AnyOf RuleHasToken j.rules n) (replicate (length j.tokens) false) used → length used ≡ length j.tokens
used_length j n used g = g.len ∙ length-replicate (length j.tokens) false

pub tokens_marked : (j : Joined) (n : ℕ) (used : List Bool) → length j.rules ≤ n → Marks (AnyOf RuleHasToken j.rules n) (replicate (length j.tokens) false) used → AreMarked (IsTokenUsed j) used
tokens_marked j n used le g = marked_from (IsTokenUsed j) (replicate (length j.tokens) false) used (no_flag (length j.tokens)) (marks_same (AnyOf RuleHasToken j.rules n) (IsTokenUsed j) (replicate (length j.tokens) false) used to back g)
  where
    to : (z : ℕ) → AnyOf RuleHasToken j.rules n z → IsTokenUsed j z
    to z h =
        let r = of_any (λ r. RuleHasToken r z) j.rules (any_all RuleHasToken j.rules n le z h) in
        let a = of_any (λ a. HaveToken a z) (r.0).alternatives r.2 in
        let p = of_any (λ p. HasToken p z) (a.0).producers a.2 in
        record { rule = r.0; alternative = a.0; producer = p.0; of_rules = r.1; of_rule = a.1; of_alternative = p.1; head = p.2 }

    back : (z : ℕ) → IsTokenUsed j z → AnyOf RuleHasToken j.rules n z
    back z u = all_any RuleHasToken j.rules n le z (any_of (λ r. RuleHasToken r z) j.rules u.rule u.of_rules (any_of (λ a. HaveToken a z) u.rule.alternatives u.alternative u.of_rule (any_of (λ p. HasToken p z) u.alternative.producers u.producer u.of_alternative u.head)))

-- The tokens of the alternatives of ready rules are below the count of tokens.
pub rule_below : (j : Joined) → IsJoinedReady j → (r : JoinedRule) → Contains j.rules r → All (λ (a : JoinedAlternative). All (TokensBelow (length j.tokens)) a.producers) r.alternatives
rule_below j ready r there k d l i e m =
    let one = All-contains (IsRuleReady (length j.tokens) (length j.rules)) j.rules r ready.rules_ready there in
    tokens_below r.formals (length j.tokens) (length j.rules) _ (one.heads_below k d l i e m)
