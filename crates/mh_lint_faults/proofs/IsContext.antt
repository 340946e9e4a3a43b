-- The context of the next mention, after each kind of mention.
use Rattle.std.proofs.Common.{◌≡◌, ℕ, suc, ◌+◌, ◌<◌, ◌≤◌, ◌||◌, ◌↔◌, ◌⊎◌, Bool, true, false, List, [], ◌∷◌, ◌++◌, Option, None, Some, take, length, get_or, refl, sym, ap, subst, ◌∙◌, inl, inr, arith}
use Rattle.std.specs.Borrow.{Bor}
use Rattle.std.specs.Prelude.{Result, Ok, Err, OnOk, not, ◌==◌}
use Rattle.std.specs.List.{Contains, list_any, slice_get}
use Rattle.std.specs.HashMap.{get}
use Rattle.std.specs.HashSet.{contains}
use Rattle.std.proofs.Math.Bool.{or-false, or-true}
use Rattle.std.proofs.lemmas.Bool.{or_cases}
use Rattle.std.proofs.lemmas.Grind.{common_steps}
use Rattle.std.proofs.lemmas.List.Folds.{list_any-append}
use Rattle.mh_grammar.specs.Text.{Text}
use Rattle.mh_grammar.specs.declared.name.Name.{Name}
use Rattle.mh_grammar.proofs.Lists.{contains_none}
use Rattle.mh_join_names.specs.Names.{same, formal_number, is_public}
use Rattle.mh_rules.specs.declared.modules.Module.{Module}
use Rattle.mh_rules.specs.declared.modules.Rule.{Rule}
use Rattle.mh_join_names.specs.Faults.{text_of}
use Rattle.mh_reader_places.specs.declared.mentions.Mention.{Mention}
use Rattle.mh_reader_places.specs.declared.mentions.Role.{Role}
use Rattle.mh_reader_places.specs.declared.mentions.Role.TheVariants as roles
use Rattle.mh_lint_faults.specs.NameFaults.{formals_after, formals_at, formals_of, formals_with, has_own_prec, is_own_prec, last_token, rule_numbered, rules_in, rules_with, token_with}
use Rattle.mh_lint_faults.specs.code.MentionContexts.{HasOwnPrecs, IsContext, has_lent}
use Rattle.mh_lint_faults.specs.declared.name_faults.Context.{Context}
use Rattle.mh_lint_faults.proofs.MentionSteps.{rules_step, formals_step, token_step, own_step}

-- The context of the first mention.
pub context_none : (starts : List Text) (m : Module) (c : Context) → c.token ≡ [] → c.rules ≡ 0 → c.own.keys ≡ [] → c.seen.keys ≡ [] → ((y : Text) → get same c.formals y ≡ formal_number [] y) → c.precs.keys ≡ [] → IsContext starts m [] c
context_none starts m c token rules own seen formals precs = record {
  token = token;
  rules = rules;
  own = λ y private. ap (list_any (λ (k : Bor Name). same y k.now)) own;
  seen = λ y. ap (list_any (same y)) seen;
  formals = formals;
  precs = λ n. (λ l. absurd (contains_none n (subst (λ ks. Contains ks n) precs l)), λ e. absurd (let bad : false ≡ true = e in cc));
}

-- The parts of the context after a mention with this name and this role.
pub record IsContextWith (starts : List Text) (m : Module) (before : List Mention) (name : Text) (role : Role) (c : Context) : Type 0 where
  pub token : c.token ≡ token_with (last_token before) name role
  pub rules : c.rules ≡ rules_with (rules_in before) role
  pub own : (y : Text) → is_public starts m.rules y ≡ false → has_lent c.own y ≡ list_any (λ (r : Rule). same y r.name) (take (rules_with (rules_in before) role) m.rules)
  pub seen : (y : Text) → contains same c.seen y ≡ list_any (same y) (formals_with (formals_after before) name role)
  pub formals : (y : Text) → get same c.formals y ≡ formal_number (formals_of (rule_numbered m.rules (rules_with (rules_in before) role))) y
  pub precs : (n : ℕ) → Contains c.precs.keys n ↔ ((has_own_prec before n || is_own_prec n role) ≡ true)

pub context_after : (starts : List Text) (m : Module) (before : List Mention) (x : Mention) (c : Context) → IsContextWith starts m before (text_of x.name) x.role c → IsContext starts m (before ++ x ∷ []) c
context_after starts m before x c h = record {
  token = h.token ∙ sym (token_step before x);
  rules = h.rules ∙ sym (rules_step before x);
  own = λ y private. h.own y private ∙ ap (λ n. list_any (λ (r : Rule). same y r.name) (take n m.rules)) (sym (rules_step before x));
  seen = λ y. h.seen y ∙ ap (list_any (same y)) (sym (formals_step before x));
  formals = λ y. h.formals y ∙ ap (λ n. formal_number (formals_of (rule_numbered m.rules n)) y) (sym (rules_step before x));
  precs = λ n. (λ l. own_step before x n ∙ (h.precs n).0 l, λ e. (h.precs n).1 (sym (own_step before x n) ∙ e));
}

-- A role that leaves all counts and lists as they are.
pub record IsPlain (role : Role) : Type 0 where
  pub rules : (n : ℕ) → rules_with n role ≡ n
  pub formals : (found : List Text) (name : Text) → formals_with found name role ≡ found
  pub token : (found name : Text) → token_with found name role ≡ found
  pub precs : (n : ℕ) → is_own_prec n role ≡ false

pub plain_kept : (starts : List Text) (m : Module) (before : List Mention) (x : Mention) (c : Context) → IsPlain x.role → IsContext starts m before c → IsContext starts m (before ++ x ∷ []) c
plain_kept starts m before x c plain h = context_after starts m before x c (record {
  token = h.token ∙ sym (plain.token (last_token before) (text_of x.name));
  rules = h.rules ∙ sym (plain.rules (rules_in before));
  own = λ y private. h.own y private ∙ ap (λ n. list_any (λ (r : Rule). same y r.name) (take n m.rules)) (sym (plain.rules (rules_in before)));
  seen = λ y. h.seen y ∙ ap (list_any (same y)) (sym (plain.formals (formals_after before) (text_of x.name)));
  formals = λ y. h.formals y ∙ ap (λ n. formal_number (formals_of (rule_numbered m.rules n)) y) (sym (plain.rules (rules_in before)));
  precs = λ n.
      (let none : (has_own_prec before n || is_own_prec n x.role) ≡ has_own_prec before n = ap (λ b. has_own_prec before n || b) (plain.precs n) ∙ or-false (has_own_prec before n) in
      (λ l. none ∙ (h.precs n).0 l, λ e. (h.precs n).1 (sym none ∙ e)));
})

plain_if : (one other : Role) → one ≡ other → IsPlain other → IsPlain one
plain_if one other e = subst IsPlain (sym e)

pub alias_kept : (starts : List Text) (m : Module) (before : List Mention) (x : Mention) (c : Context) → x.role ≡ roles.Alias → IsContext starts m before c → IsContext starts m (before ++ x ∷ []) c
alias_kept starts m before x c e = plain_kept starts m before x c (plain_if x.role roles.Alias e (record { rules = λ n. refl; formals = λ found name. refl; token = λ found name. refl; precs = λ n. refl }))

pub start_kept : (starts : List Text) (m : Module) (before : List Mention) (x : Mention) (c : Context) → x.role ≡ roles.Start → IsContext starts m before c → IsContext starts m (before ++ x ∷ []) c
start_kept starts m before x c e = plain_kept starts m before x c (plain_if x.role roles.Start e (record { rules = λ n. refl; formals = λ found name. refl; token = λ found name. refl; precs = λ n. refl }))

pub level_kept : (starts : List Text) (m : Module) (before : List Mention) (x : Mention) (c : Context) (rank : ℕ) → x.role ≡ roles.Level rank → IsContext starts m before c → IsContext starts m (before ++ x ∷ []) c
level_kept starts m before x c rank e = plain_kept starts m before x c (plain_if x.role (roles.Level rank) e (record { rules = λ n. refl; formals = λ found name. refl; token = λ found name. refl; precs = λ n. refl }))

pub on_error_kept : (starts : List Text) (m : Module) (before : List Mention) (x : Mention) (c : Context) (rank item : ℕ) → x.role ≡ roles.OnError rank item → IsContext starts m before c → IsContext starts m (before ++ x ∷ []) c
on_error_kept starts m before x c rank item e = plain_kept starts m before x c (plain_if x.role (roles.OnError rank item) e (record { rules = λ n. refl; formals = λ found name. refl; token = λ found name. refl; precs = λ n. refl }))

pub head_kept : (starts : List Text) (m : Module) (before : List Mention) (x : Mention) (c : Context) (alternative producer : ℕ) → x.role ≡ roles.Head alternative producer → IsContext starts m before c → IsContext starts m (before ++ x ∷ []) c
head_kept starts m before x c alternative producer e = plain_kept starts m before x c (plain_if x.role (roles.Head alternative producer) e (record { rules = λ n. refl; formals = λ found name. refl; token = λ found name. refl; precs = λ n. refl }))

pub group_kept : (starts : List Text) (m : Module) (before : List Mention) (x : Mention) (c : Context) (low high : ℕ) → x.role ≡ roles.GroupPrec low high → IsContext starts m before c → IsContext starts m (before ++ x ∷ []) c
group_kept starts m before x c low high e = plain_kept starts m before x c (plain_if x.role (roles.GroupPrec low high) e (record { rules = λ n. refl; formals = λ found name. refl; token = λ found name. refl; precs = λ n. refl }))

-- After the name of a token, the token is the last one.
pub token_next : (starts : List Text) (m : Module) (before : List Mention) (x : Mention) (c : Context) (token : Text) → x.role ≡ roles.Token → token ≡ text_of x.name → IsContext starts m before c → IsContext starts m (before ++ x ∷ []) (record c { token = token })
token_next starts m before x c token e is h =
    context_after starts m before x (record c { token = token }) (subst (λ role. IsContextWith starts m before (text_of x.name) role (record c { token = token })) (sym e) (record {
      token = is;
      rules = h.rules;
      own = h.own;
      seen = h.seen;
      formals = h.formals;
      precs = λ n. (λ l. or-false (has_own_prec before n) ∙ (h.precs n).0 l, λ f. (h.precs n).1 (sym (or-false (has_own_prec before n)) ∙ f));
    }))

-- After a formal, the formal is one of the formals so far.
pub formal_next : (starts : List Text) (m : Module) (before : List Mention) (x : Mention) (c new : Context) → x.role ≡ roles.Formal → ((y : Text) → contains same new.seen y ≡ (contains same c.seen y || same y (text_of x.name))) → new.token ≡ c.token → new.rules ≡ c.rules → new.own ≡ c.own → new.formals ≡ c.formals → new.precs ≡ c.precs → IsContext starts m before c → IsContext starts m (before ++ x ∷ []) new
formal_next starts m before x c new e seen token rules own formals precs h =
    context_after starts m before x new (subst (λ role. IsContextWith starts m before (text_of x.name) role new) (sym e) (record {
      token = token ∙ h.token;
      rules = rules ∙ h.rules;
      own = λ y private. ap (λ s. has_lent s y) own ∙ h.own y private;
      seen = λ y. seen y ∙ ap (λ b. b || same y (text_of x.name)) (h.seen y) ∙ sym (list_any-append (same y) (formals_after before) (text_of x.name ∷ []) ∙ ap (λ b. list_any (same y) (formals_after before) || b) (or-false (same y (text_of x.name))));
      formals = λ y. ap (λ s. get same s y) formals ∙ h.formals y;
      precs = λ n. (λ l. or-false (has_own_prec before n) ∙ (h.precs n).0 (subst (λ s. Contains s.keys n) precs l), λ f. subst (λ s. Contains s.keys n) (sym precs) ((h.precs n).1 (sym (or-false (has_own_prec before n)) ∙ f)));
    }))

same_number : (m n : ℕ) → (m == n) ≡ true → m ≡ n
same_number m n e = grind (arith, common_steps)

number_same : (m n : ℕ) → m ≡ n → (m == n) ≡ true
number_same m n e = grind (arith, common_steps)

-- After the `%prec` of an alternative, the alternative is one of those with a `%prec` of their own.
pub prec_next : (starts : List Text) (m : Module) (before : List Mention) (x : Mention) (c new : Context) (alternative : ℕ) → x.role ≡ roles.Prec alternative → ((n : ℕ) → Contains new.precs.keys n ↔ (Contains c.precs.keys n ⊎ (n ≡ alternative))) → new.token ≡ c.token → new.rules ≡ c.rules → new.own ≡ c.own → new.seen ≡ c.seen → new.formals ≡ c.formals → IsContext starts m before c → IsContext starts m (before ++ x ∷ []) new
prec_next starts m before x c new alternative e puts token rules own seen formals h =
    context_after starts m before x new (subst (λ role. IsContextWith starts m before (text_of x.name) role new) (sym e) (record {
      token = token ∙ h.token;
      rules = rules ∙ h.rules;
      own = λ y private. ap (λ s. has_lent s y) own ∙ h.own y private;
      seen = λ y. ap (λ s. contains same s y) seen ∙ h.seen y;
      formals = λ y. ap (λ s. get same s y) formals ∙ h.formals y;
      precs = λ n. (
        λ l. elim ((puts n).0 l) [
          | inl o ↦ ap (λ b. b || (n == alternative)) ((h.precs n).0 o)
          | inr same_one ↦ ap (λ b. has_own_prec before n || b) (number_same n alternative same_one) ∙ or-true (has_own_prec before n)
        ],
        λ f. elim (or_cases (has_own_prec before n) (n == alternative) f) [
          | inl o ↦ (puts n).1 (inl ((h.precs n).1 o))
          | inr last ↦ (puts n).1 (inr (same_number n alternative last))
        ],
      );
    }))

-- A context that does not depend on the result of a call.
pub on_ok : {T E P : Type 0} (r : Result T E) → P → OnOk r P
on_ok (Ok x) p = p
on_ok (Err e) p = tt
