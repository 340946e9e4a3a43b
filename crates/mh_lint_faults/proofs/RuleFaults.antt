-- The fault of the name of a rule, and the context after the name.
use Rattle.std.proofs.Common.{◌≡◌, ℕ, zero, suc, ◌+◌, ◌<◌, ◌≤◌, ◌||◌, ◌&&◌, ◌⊎◌, ◌↔◌, Bool, true, false, List, [], ◌∷◌, ◌++◌, Option, None, Some, take, length, get_or, refl, sym, ap, subst, ◌∙◌, inl, inr, arith}
use Rattle.std.specs.Prelude.{Result, IfOk, not, if◌then◌else◌}
use Rattle.std.specs.List.{Contains, list_any, slice_get}
use Rattle.std.specs.HashMap.{get}
use Rattle.std.specs.HashSet.{contains}
use Rattle.std.proofs.Math.Bool.{or-false}
use Rattle.std.proofs.lemmas.Bool.{cases_Bool}
use Rattle.std.proofs.lemmas.List.{take_all}
use Rattle.std.proofs.lemmas.List.Folds.{list_any-append}
use Rattle.std.proofs.lemmas.Option.{get_or_from_slice_get, slice_get_within}
use Rattle.std.proofs.lemmas.Result.{IfOk-weaker}
use Rattle.mh_grammar.specs.Text.{Text}
use Rattle.mh_grammar.proofs.Lists.{take_step, get_within}
use Rattle.mh_grammar.proofs.TextEquality.{same_cases}
use Rattle.mh_rules.specs.declared.modules.Module.{Module}
use Rattle.mh_rules.specs.declared.modules.Rule.{Rule}
use Rattle.mh_join_names.specs.Names.{same, formal_number, is_public}
use Rattle.mh_join_names.specs.Faults.{Meanings, agrees, other_kind, other_shape, same_kind, same_shape, text_of, unless}
use Rattle.mh_join_names.specs.declared.fault.JoinFault.{JoinFault}
use Rattle.mh_join_names.specs.declared.fault.JoinFault.TheVariants as faults
use Rattle.mh_join_names.specs.declared.kinds.NameKind.TheVariants as kinds
use Rattle.mh_reader_places.specs.declared.mentions.Mention.{Mention}
use Rattle.mh_reader_places.specs.declared.mentions.Role.TheVariants as roles
use Rattle.mh_lint_faults.specs.NameFaults.{formals_of, has_own_prec, private_again, rule_faults, rule_numbered, rules_in}
use Rattle.mh_lint_faults.specs.code.FoundFaults.{listed}
use Rattle.mh_lint_faults.specs.code.MentionContexts.{IsContext, has_lent, rule_agrees}
use Rattle.mh_lint_faults.specs.declared.name_faults.Context.{Context}
use Rattle.mh_lint_faults.proofs.IsContext.{IsContextWith, context_after}

-- Of several tests that report one fault only the first fault is reported.
one_fault : (kind public shape seen : Bool) (e : JoinFault) → take 1 (unless kind e ++ unless (public || not seen) e ++ (if public then unless shape e else [])) ≡ unless (rule_agrees public shape seen && kind) e
one_fault true true true seen e = refl
one_fault true true false seen e = refl
one_fault true false shape true e = refl
one_fault true false shape false e = refl
one_fault false true true seen e = refl
one_fault false true false seen e = refl
one_fault false false shape true e = refl
one_fault false false shape false e = refl

-- For a public rule the private rules before do not matter.
seen_matters : (public shape seen other kind : Bool) (e : JoinFault) → (public ≡ false → seen ≡ other) → unless (rule_agrees public shape seen && kind) e ≡ unless (rule_agrees public shape other && kind) e
seen_matters true shape seen other kind e h = refl
seen_matters false shape seen other kind e h = ap (λ b. unless (rule_agrees false shape b && kind) e) (h refl)

-- The fault that the code finds is that of the definition.
pub rule_fault_is : (w : Meanings) (m : Module) (n : ℕ) (r : Rule) (seen : Bool) (found : List JoinFault) → (is_public w.starts m.rules r.name ≡ false → seen ≡ list_any (λ (q : Rule). same r.name q.name) (take n m.rules))
    → found ≡ unless (rule_agrees (is_public w.starts m.rules r.name) (agrees same_shape (w.joined r.name) r) seen && agrees same_kind (w.kind r.name) kinds.Rule) (faults.Duplicate r.name) → found ≡ rule_faults w m n (Some r)
rule_fault_is w m n r seen found h e =
    let public = is_public w.starts m.rules r.name in
    let shape = agrees same_shape (w.joined r.name) r in
    let kind = agrees same_kind (w.kind r.name) kinds.Rule in
    let other = list_any (λ (q : Rule). same r.name q.name) (take n m.rules) in
    e ∙ seen_matters public shape seen other kind (faults.Duplicate r.name) h ∙ sym (one_fault kind public shape other (faults.Duplicate r.name))

-- The same for the result of a call that finds at most one fault, and for another test of public names.
pub rule_fault_found : {E : Type 0} (w : Meanings) (m : Module) (n : ℕ) (r : Rule) (public seen : Bool) (result : Result (Option JoinFault) E) → public ≡ is_public w.starts m.rules r.name → (is_public w.starts m.rules r.name ≡ false → seen ≡ list_any (λ (q : Rule). same r.name q.name) (take n m.rules))
    → IfOk result (λ found. listed found ≡ unless (rule_agrees public (agrees same_shape (w.joined r.name) r) seen && agrees same_kind (w.kind r.name) kinds.Rule) (faults.Duplicate r.name)) → IfOk result (λ found. listed found ≡ rule_faults w m n (Some r))
rule_fault_found w m n r public seen result e h f = IfOk-weaker result _ _ (λ found is. rule_fault_is w m n r seen (listed found) h (is ∙ ap (λ b. unless (rule_agrees b (agrees same_shape (w.joined r.name) r) seen && agrees same_kind (w.kind r.name) kinds.Rule) (faults.Duplicate r.name)) e)) f

-- A private name is not that of a public rule.
not_public : (starts : List Text) (rs : List Rule) (x y : Text) → is_public starts rs x ≡ true → is_public starts rs y ≡ false → same y x ≡ false
not_public starts rs x y p q = elim (same_cases y x) [
  | inl e ↦ (let bad : true ≡ false = sym p ∙ ap (is_public starts rs) (sym e) ∙ q in cc)
  | inr apart ↦ apart.0
]

-- Private rules before, with one more rule.
own_more : (starts : List Text) (rs : List Rule) (n : ℕ) (r : Rule) (y : Text) (old new : Bool) → slice_get rs n ≡ Some r → is_public starts rs y ≡ false → old ≡ list_any (λ (q : Rule). same y q.name) (take n rs) → new ≡ (old || (not (is_public starts rs r.name) && same y r.name)) → new ≡ list_any (λ (q : Rule). same y q.name) (take (suc n) rs)
own_more starts rs n r y old new at private before e =
    let l = slice_get_within rs n r at in
    let step : take (suc n) rs ≡ take n rs ++ r ∷ [] = ap (λ k. take k rs) (let e : suc n ≡ n + 1 = omega arith in e) ∙ take_step rs n r l (sym (get_or_from_slice_get rs n r r at)) in
    let whole : list_any (λ (q : Rule). same y q.name) (take (suc n) rs) ≡ (list_any (λ (q : Rule). same y q.name) (take n rs) || same y r.name) =
    ap (list_any (λ (q : Rule). same y q.name)) step ∙ list_any-append (λ (q : Rule). same y q.name) (take n rs) (r ∷ []) ∙ ap (λ b. list_any (λ (q : Rule). same y q.name) (take n rs) || b) (or-false (same y r.name)) in
    let last : (not (is_public starts rs r.name) && same y r.name) ≡ same y r.name = elim (cases_Bool (is_public starts rs r.name)) [
      | inl p ↦ ap (λ b. not b && same y r.name) p ∙ sym (not_public starts rs r.name y p private)
      | inr q ↦ ap (λ b. not b && same y r.name) q
    ] in
    e ∙ ap (λ b. old || b) last ∙ ap (λ b. b || same y r.name) before ∙ sym whole

-- The context after the name of a rule.
pub rule_next : (starts : List Text) (m : Module) (before : List Mention) (x : Mention) (c new : Context) (r : Rule) → x.role ≡ roles.Rule → slice_get m.rules (rules_in before) ≡ Some r → IsContext starts m before c
    → new.rules ≡ c.rules + 1 → new.token ≡ c.token → new.precs ≡ c.precs → ((y : Text) → contains same new.seen y ≡ false) → ((y : Text) → get same new.formals y ≡ formal_number r.formals y)
    → ((y : Text) → has_lent new.own y ≡ (has_lent c.own y || (not (is_public starts m.rules r.name) && same y r.name))) → IsContext starts m (before ++ x ∷ []) new
rule_next starts m before x c new r e at h rules token precs seen formals own =
    context_after starts m before x new (subst (λ role. IsContextWith starts m before (text_of x.name) role new) (sym e) (record {
      token = token ∙ h.token;
      rules = omega (arith, rules, h.rules);
      own = λ y private. own_more starts m.rules (rules_in before) r y (has_lent c.own y) (has_lent new.own y) at private (h.own y private) (own y);
      seen = seen;
      formals = λ y. formals y ∙ ap (λ o. formal_number (formals_of o) y) (sym at);
      precs = λ n. (λ l. or-false (has_own_prec before n) ∙ (h.precs n).0 (subst (λ s. Contains s.keys n) precs l), λ f. subst (λ s. Contains s.keys n) (sym precs) ((h.precs n).1 (sym (or-false (has_own_prec before n)) ∙ f)));
    }))

-- The context after the name of a rule that the module does not have.
pub rule_past : (starts : List Text) (m : Module) (before : List Mention) (x : Mention) (c new : Context) → x.role ≡ roles.Rule → slice_get m.rules (rules_in before) ≡ None → IsContext starts m before c
    → new.rules ≡ c.rules + 1 → new.token ≡ c.token → new.precs ≡ c.precs → new.own ≡ c.own → ((y : Text) → contains same new.seen y ≡ false) → ((y : Text) → get same new.formals y ≡ formal_number [] y) → IsContext starts m (before ++ x ∷ []) new
rule_past starts m before x c new e none h rules token precs own seen formals =
    let few : length m.rules ≤ rules_in before = past m.rules (rules_in before) none in
    let all : take (rules_in before) m.rules ≡ take (suc (rules_in before)) m.rules = take_all (rules_in before) m.rules few ∙ sym (take_all (suc (rules_in before)) m.rules (omega (arith, few))) in
    context_after starts m before x new (subst (λ role. IsContextWith starts m before (text_of x.name) role new) (sym e) (record {
      token = token ∙ h.token;
      rules = omega (arith, rules, h.rules);
      own = λ y private. ap (λ s. has_lent s y) own ∙ h.own y private ∙ ap (list_any (λ (q : Rule). same y q.name)) all;
      seen = seen;
      formals = λ y. formals y ∙ ap (λ o. formal_number (formals_of o) y) (sym none);
      precs = λ n. (λ l. or-false (has_own_prec before n) ∙ (h.precs n).0 (subst (λ s. Contains s.keys n) precs l), λ f. subst (λ s. Contains s.keys n) (sym precs) ((h.precs n).1 (sym (or-false (has_own_prec before n)) ∙ f)));
    }))
  where
    past : (rs : List Rule) (n : ℕ) → slice_get rs n ≡ None → length rs ≤ n
    past [] n f = omega arith
    past (r ∷ rs) zero f = cc
    past (r ∷ rs) (suc n) f = omega (arith, past rs n f)
