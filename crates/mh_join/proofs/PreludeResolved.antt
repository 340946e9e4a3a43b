-- Proves that all names in the rules of the prelude are defined.
use Rattle.std.proofs.Common.{◌≡◌, ℕ, ◌+◌, Bool, true, false, List, [], ◌∷◌, ◌++◌, Option, Some, None, length, map, refl, sym, ap, ◌∙◌}
use Rattle.std.specs.Prelude.{◌&&◌, ◌||◌, if◌then◌else◌, is_some, option_map, codes}
use Rattle.std.specs.List.{list_any, list_all, flat_map}
use Rattle.std.specs.Option.{option_or}
use Rattle.std.proofs.Math.Bool.{or-false, or-true, or_assoc}
use Rattle.std.proofs.lemmas.Bool.Decides.{Decides-eqb}
use Rattle.std.proofs.lemmas.List.{map-append}
use Rattle.std.proofs.lemmas.List.Concat.{flat_map-append}
use Rattle.std.proofs.lemmas.List.Folds.{list_any-append, flat_map-map}
use Rattle.mh_rules.specs.declared.modules.Ref.{Ref}
use Rattle.mh_rules.specs.declared.modules.Ref.TheVariants.{Plain}
use Rattle.mh_rules.specs.declared.modules.Actual.{Actual}
use Rattle.mh_rules.specs.declared.modules.Actual.TheFolds.{fold-roll-Actual}
use Rattle.mh_rules.specs.declared.modules.Rule.{Rule}
use Rattle.mh_rules.specs.declared.modules.Module.{Module}
use Rattle.mh_rules.specs.declared.joined.Head.{Head}
use Rattle.mh_rules.specs.declared.joined.Head.TheVariants as heads
use Rattle.mh_join_names.specs.declared.outlines.Outline.{Outline}
use Rattle.mh_join_names.specs.declared.fault.JoinFault.TheVariants as faults
use Rattle.mh_join_names.specs.Prelude.{call, words, plain, optional, in_order, texts, prelude_rules, separated_items, list_rule, nonempty_list_rule, separated_list_rule, separated_nonempty_list_rule, option_rules, pair_rules, list_rules, other_rules}
use Rattle.mh_grammar.specs.Text.{Text}
use Rattle.mh_join_names.specs.Names.{same, files, formal_number, definitions, definitions_from, definitions_in, prelude_definitions, outline_of, same_owner, is_rule, same_rule, rules, rule_number, start_names, insert_all, insert_key}
use Rattle.mh_join_names.specs.Faults.{Meanings, meant_by, refs, refs_step, unless, undefined, undefined_in_actual}
use Rattle.mh_join_parts.specs.code.CanJoin.{unresolved, unresolved_in_rule, unresolved_in_rules}
use Rattle.mh_grammar.proofs.TextEquality.{equal_from_same}
use Rattle.mh_join_names.proofs.Lists.{is_some-position}
use Rattle.mh_join_names.proofs.Refs.{flat_refs}

-- EACH RULE IN THE LIST HAS A NUMBER

module _ (p : Outline → Bool) (respects : (a b : Outline) → same_rule a b ≡ true → p a ≡ true → p b ≡ true) where
  any_of : (ks : List Outline) (x : Outline) → list_any (same_rule x) ks ≡ true → p x ≡ true → list_any p ks ≡ true
  any_of [] x h e = h
  any_of (k ∷ ks) x h e = go (same_rule x k) refl h (λ t. any_of ks x t e)
    where
      go : (b : Bool) → same_rule x k ≡ b → (b || list_any (same_rule x) ks) ≡ true → (list_any (same_rule x) ks ≡ true → list_any p ks ≡ true) → (p k || list_any p ks) ≡ true
      go true is t rest = ap (λ b. b || list_any p ks) (respects x k is e)
      go false is t rest = ap (λ b. p k || b) (rest t) ∙ or-true (p k)

  any_put : (ks : List Outline) (x : Outline) → (list_any p ks || p x) ≡ true → list_any p (insert_key same_rule ks x) ≡ true
  any_put ks x h = go (list_any (same_rule x) ks) refl
    where
      there : list_any (same_rule x) ks ≡ true → (b : Bool) → p x ≡ b → (list_any p ks || b) ≡ true → list_any p ks ≡ true
      there has true e t = any_of ks x has e
      there has false e t = sym (or-false (list_any p ks)) ∙ t

      go : (b : Bool) → list_any (same_rule x) ks ≡ b → list_any p (if b then ks else ks ++ x ∷ []) ≡ true
      go true has = there has (p x) refl h
      go false has = list_any-append p ks (x ∷ []) ∙ ap (λ b. list_any p ks || b) (or-false (p x)) ∙ h

  step : (ks : List Outline) (x : Outline) (c : Bool) → (list_any p ks || (p x || c)) ≡ true → (list_any p (insert_key same_rule ks x) || c) ≡ true
  step ks x c h = go (list_any p ks || p x) refl
    where
      go : (b : Bool) → (list_any p ks || p x) ≡ b → (list_any p (insert_key same_rule ks x) || c) ≡ true
      go true e = ap (λ b. b || c) (any_put ks x e)
      go false e = ap (λ b. list_any p (insert_key same_rule ks x) || b) (sym (ap (λ b. b || c) e) ∙ or_assoc (list_any p ks) (p x) c ∙ h) ∙ or-true (list_any p (insert_key same_rule ks x))

  pub any-insert_all : (ks xs : List Outline) → (list_any p ks || list_any p xs) ≡ true → list_any p (insert_all same_rule ks xs) ≡ true
  any-insert_all ks [] h = sym (or-false (list_any p ks)) ∙ h
  any-insert_all ks (x ∷ xs) h = any-insert_all (insert_key same_rule ks x) xs (step ks x (list_any p xs) h)

pub and_left : (a b : Bool) → (a && b) ≡ true → a ≡ true
and_left true b h = refl
and_left false b h = h

pub and_right : (a b : Bool) → (a && b) ≡ true → b ≡ true
and_right true b h = h
and_right false b h = let bad : false ≡ true = h in cc

pub owner_is : (m n : Option ℕ) → same_owner m n ≡ true → m ≡ n
owner_is None None h = refl
owner_is None (Some n) h = let bad : false ≡ true = h in cc
owner_is (Some m) None h = let bad : false ≡ true = h in cc
owner_is (Some m) (Some n) h = ap Some ((Decides-eqb m n).0 h)

respects_rule : (owner : Option ℕ) (x : Text) (a b : Outline) → same_rule a b ≡ true → is_rule owner x a ≡ true → is_rule owner x b ≡ true
respects_rule owner x a b s h =
    ap (λ o. same_owner owner o && same x b.name) (sym (owner_is a.owner b.owner (and_left (same_owner a.owner b.owner) (same a.name b.name) s)))
    ∙ ap (λ n. same_owner owner a.owner && same x n) (sym (equal_from_same a.name b.name (and_right (same_owner a.owner b.owner) (same a.name b.name) s))) ∙ h

prelude_has : (x : Text) (n : ℕ) (rs : List Rule) → list_any (is_rule (Some 0) x) (map outline_of (definitions_from (λ y. Some 0) 0 n rs)) ≡ list_any (λ r. same x r.name) rs
prelude_has x n [] = refl
prelude_has x n (r ∷ rs) = ap (λ b. same x r.name || b) (prelude_has x (n + length r.alternatives) rs)

-- Each rule of the prelude has a number.
pub number_known : (p : Bool) (ms : List Module) (x : Text) → list_any (λ r. same x r.name) (prelude_rules p) ≡ true → is_some (rule_number p ms (Some 0) x) ≡ true
number_known p ms x h =
    let test = is_rule (Some 0) x in
    let from_files = flat_map (definitions_in (start_names ms)) (files ms) in let from_prelude = prelude_definitions (prelude_rules p) in
    is_some-position test (rules p ms)
    ∙ any-insert_all test (respects_rule (Some 0) x) [] (map outline_of (definitions p ms))
    (ap (list_any test) (map-append outline_of from_files from_prelude) ∙ list_any-append test (map outline_of from_files) (map outline_of from_prelude)
    ∙ ap (λ b. list_any test (map outline_of from_files) || b) (prelude_has x 0 (prelude_rules p) ∙ h) ∙ or-true (list_any test (map outline_of from_files)))

-- NAMES THAT ARE DEFINED

both_nil : {A : Type 0} (xs ys : List A) → xs ≡ [] → ys ≡ [] → xs ++ ys ≡ []
both_nil xs ys e f = ap (λ k. k ++ ys) e ∙ f

module _ (meant : Ref → Option Head) where
  refs_call : (x : Text) (ks : List Actual) → refs (call x ks) ≡ Plain x ∷ flat_map refs ks
  refs_call x ks = fold-roll-Actual (List Ref) refs_step (record { head = Plain x; args = ks }) ∙ ap (λ k. Plain x ∷ k) (flat_map-map (λ (rs : List Ref). rs) refs ks)

  call_resolves : (x : Text) (ks : List Actual) → is_some (meant (Plain x)) ≡ true → flat_map (undefined_in_actual false meant) ks ≡ [] → undefined_in_actual false meant (call x ks) ≡ []
  call_resolves x ks known rest =
      ap (flat_map (undefined false meant)) (refs_call x ks) ∙ ap (λ k. undefined false meant (Plain x) ++ k) (flat_refs (undefined false meant) ks ∙ rest)
      ∙ ap (λ b. unless b (faults.Undefined x) ++ []) known

  words_resolve : (xs : List Text) → list_all (λ x. is_some (meant (Plain x))) xs ≡ true → flat_map (undefined_in_actual false meant) (words xs) ≡ []
  words_resolve [] h = refl
  words_resolve (x ∷ xs) h =
      both_nil (undefined_in_actual false meant (call x [])) (flat_map (undefined_in_actual false meant) (words xs))
      (call_resolves x [] (and_left (is_some (meant (Plain x))) (list_all (λ y. is_some (meant (Plain y))) xs) h) refl)
      (words_resolve xs (and_right (is_some (meant (Plain x))) (list_all (λ y. is_some (meant (Plain y))) xs) h))

module _ (w : Meanings) (fs : List Text) where
  formal_resolves : (o rest : Option Head) → is_some o ≡ true → is_some (option_or o rest) ≡ true
  formal_resolves None rest h = let bad : false ≡ true = h in cc
  formal_resolves (Some x) rest h = refl

  mapped : (o : Option ℕ) → is_some o ≡ true → is_some (option_map heads.Formal o) ≡ true
  mapped None h = h
  mapped (Some x) h = refl

  formals_resolve : (xs : List Text) → list_all (λ x. is_some (formal_number fs x)) xs ≡ true → list_all (λ x. is_some (meant_by w 0 (formal_number fs) (Plain x))) xs ≡ true
  formals_resolve [] h = refl
  formals_resolve (x ∷ xs) h =
      ap (λ b. b && list_all (λ y. is_some (meant_by w 0 (formal_number fs) (Plain y))) xs) (formal_resolves (option_map heads.Formal (formal_number fs x)) _ (mapped (formal_number fs x) (and_left (is_some (formal_number fs x)) (list_all (λ y. is_some (formal_number fs y)) xs) h)))
      ∙ formals_resolve xs (and_right (is_some (formal_number fs x)) (list_all (λ y. is_some (formal_number fs y)) xs) h)

  names_resolve : (xs : List Text) → list_all (λ x. is_some (formal_number fs x)) xs ≡ true → flat_map (undefined_in_actual false (meant_by w 0 (formal_number fs))) (words xs) ≡ []
  names_resolve xs h = words_resolve (meant_by w 0 (formal_number fs)) xs (formals_resolve xs h)

-- The function is empty at each element of the list.
abbrev AllNil : {A B : Type 0} → (A → List B) → List A → Type 0
AllNil f [] = Unit {0}
AllNil f (x ∷ xs) = (f x ≡ []) × AllNil f xs

all_nil : {A B : Type 0} (f : A → List B) (xs : List A) → AllNil f xs → flat_map f xs ≡ []
all_nil f [] h = refl
all_nil f (x ∷ xs) h = ap (λ k. k ++ flat_map f xs) h.0 ∙ all_nil f xs h.1

rule_some : (o : Option ℕ) → is_some o ≡ true → is_some (option_or (option_map heads.Rule o) None) ≡ true
rule_some None h = h
rule_some (Some n) h = refl

abbrev one_formal : List Text
one_formal = texts ("X" ∷ [])

abbrev two_formals : List Text
two_formals = texts ("separator" ∷ "X" ∷ [])

abbrev meant_in : Meanings → List Text → Ref → Option Head
meant_in w fs r = meant_by w 0 (formal_number fs) r

in_order_resolves : (w : Meanings) (inlined : Bool) (name : Text) (fs : List Text) → list_all (λ x. is_some (formal_number fs x)) fs ≡ true → unresolved_in_rule w 0 (in_order inlined name fs) ≡ []
in_order_resolves w inlined name fs h = all_nil (unresolved (meant_in w fs)) (plain (words fs) ∷ []) (names_resolve w fs fs h, tt)

optional_resolves : (w : Meanings) (inlined : Bool) (name : Text) → unresolved_in_rule w 0 (optional inlined name) ≡ []
optional_resolves w inlined name = all_nil (unresolved (meant_in w one_formal)) (plain [] ∷ plain (words one_formal) ∷ []) (refl, (names_resolve w one_formal one_formal refl, tt))

-- Each rule of the prelude has a number by these look-ups.
record NumbersPrelude (w : Meanings) : Type 0 where
  list : is_some (w.numbers.rule (Some 0) (codes "list")) ≡ true
  nonempty_list : is_some (w.numbers.rule (Some 0) (codes "nonempty_list")) ≡ true
  loption : is_some (w.numbers.rule (Some 0) (codes "loption")) ≡ true
  separated_nonempty_list : is_some (w.numbers.rule (Some 0) (codes "separated_nonempty_list")) ≡ true

module _ (w : Meanings) (knows : NumbersPrelude w) where
  list_resolves : unresolved_in_rule w 0 list_rule ≡ []
  list_resolves =
      let x : undefined_in_actual false (meant_in w one_formal) (call (codes "X") []) ≡ [] = call_resolves (meant_in w one_formal) (codes "X") [] refl refl in
      let more : undefined_in_actual false (meant_in w one_formal) (call (codes "list") (words one_formal)) ≡ [] =
      call_resolves (meant_in w one_formal) (codes "list") (words one_formal) (rule_some (w.numbers.rule (Some 0) (codes "list")) knows.list) (names_resolve w one_formal one_formal refl) in
      all_nil (unresolved (meant_in w one_formal)) list_rule.alternatives (refl, (all_nil (undefined_in_actual false (meant_in w one_formal)) (call (codes "X") [] ∷ call (codes "list") (words one_formal) ∷ []) (x, (more, tt)), tt))

  nonempty_list_resolves : unresolved_in_rule w 0 nonempty_list_rule ≡ []
  nonempty_list_resolves =
      let x : undefined_in_actual false (meant_in w one_formal) (call (codes "X") []) ≡ [] = call_resolves (meant_in w one_formal) (codes "X") [] refl refl in
      let more : undefined_in_actual false (meant_in w one_formal) (call (codes "nonempty_list") (words one_formal)) ≡ [] =
      call_resolves (meant_in w one_formal) (codes "nonempty_list") (words one_formal) (rule_some (w.numbers.rule (Some 0) (codes "nonempty_list")) knows.nonempty_list) (names_resolve w one_formal one_formal refl) in
      all_nil (unresolved (meant_in w one_formal)) nonempty_list_rule.alternatives
      (names_resolve w one_formal one_formal refl, (all_nil (undefined_in_actual false (meant_in w one_formal)) (call (codes "X") [] ∷ call (codes "nonempty_list") (words one_formal) ∷ []) (x, (more, tt)), tt))

  items_resolve : undefined_in_actual false (meant_in w two_formals) separated_items ≡ []
  items_resolve =
      call_resolves (meant_in w two_formals) (codes "separated_nonempty_list") (words two_formals) (rule_some (w.numbers.rule (Some 0) (codes "separated_nonempty_list")) knows.separated_nonempty_list) (names_resolve w two_formals two_formals refl)

  separated_list_resolves : unresolved_in_rule w 0 separated_list_rule ≡ []
  separated_list_resolves =
      let inner : flat_map (undefined_in_actual false (meant_in w two_formals)) (separated_items ∷ []) ≡ [] = all_nil (undefined_in_actual false (meant_in w two_formals)) (separated_items ∷ []) (items_resolve, tt) in
      let outer : undefined_in_actual false (meant_in w two_formals) (call (codes "loption") (separated_items ∷ [])) ≡ [] =
      call_resolves (meant_in w two_formals) (codes "loption") (separated_items ∷ []) (rule_some (w.numbers.rule (Some 0) (codes "loption")) knows.loption) inner in
      all_nil (unresolved (meant_in w two_formals)) separated_list_rule.alternatives (all_nil (undefined_in_actual false (meant_in w two_formals)) (call (codes "loption") (separated_items ∷ []) ∷ []) (outer, tt), tt)

  separated_nonempty_list_resolves : unresolved_in_rule w 0 separated_nonempty_list_rule ≡ []
  separated_nonempty_list_resolves =
      let x : undefined_in_actual false (meant_in w two_formals) (call (codes "X") []) ≡ [] = call_resolves (meant_in w two_formals) (codes "X") [] refl refl in
      let separator : undefined_in_actual false (meant_in w two_formals) (call (codes "separator") []) ≡ [] = call_resolves (meant_in w two_formals) (codes "separator") [] refl refl in
      all_nil (unresolved (meant_in w two_formals)) separated_nonempty_list_rule.alternatives (
        all_nil (undefined_in_actual false (meant_in w two_formals)) (call (codes "X") [] ∷ []) (x, tt),
        (all_nil (undefined_in_actual false (meant_in w two_formals)) (call (codes "X") [] ∷ call (codes "separator") [] ∷ separated_items ∷ []) (x, (separator, (items_resolve, tt))), tt),
      )

  options_resolve : flat_map (unresolved_in_rule w 0) option_rules ≡ []
  options_resolve = all_nil (unresolved_in_rule w 0) option_rules (optional_resolves w false (codes "option"), (optional_resolves w true (codes "ioption"), (optional_resolves w false (codes "boption"), (optional_resolves w false (codes "loption"), tt))))

  pairs_resolve : flat_map (unresolved_in_rule w 0) pair_rules ≡ []
  pairs_resolve =
      all_nil (unresolved_in_rule w 0) pair_rules (
        in_order_resolves w true (codes "pair") (texts ("X" ∷ "Y" ∷ [])) refl,
        (
          in_order_resolves w true (codes "separated_pair") (texts ("X" ∷ "sep" ∷ "Y" ∷ [])) refl,
          (
            in_order_resolves w true (codes "preceded") (texts ("opening" ∷ "X" ∷ [])) refl,
            (
              in_order_resolves w true (codes "terminated") (texts ("X" ∷ "closing" ∷ [])) refl,
              (in_order_resolves w true (codes "delimited") (texts ("opening" ∷ "X" ∷ "closing" ∷ [])) refl, tt),
            ),
          ),
        ),
      )

  lists_resolve : flat_map (unresolved_in_rule w 0) list_rules ≡ []
  lists_resolve = all_nil (unresolved_in_rule w 0) list_rules (list_resolves, (nonempty_list_resolves, (separated_list_resolves, (separated_nonempty_list_resolves, tt))))

  others_resolve : flat_map (unresolved_in_rule w 0) other_rules ≡ []
  others_resolve =
      all_nil (unresolved_in_rule w 0) other_rules (
        in_order_resolves w true (codes "rev") (texts ("XS" ∷ [])) refl,
        (
          in_order_resolves w true (codes "flatten") (texts ("XSS" ∷ [])) refl,
          (
            in_order_resolves w true (codes "append") (texts ("XS" ∷ "YS" ∷ [])) refl,
            (
              in_order_resolves w true (codes "endrule") (texts ("X" ∷ [])) refl,
              (in_order_resolves w false (codes "midrule") (texts ("X" ∷ [])) refl, tt),
            ),
          ),
        ),
      )

pub flat_map_nil_append : {A B : Type 0} (f : A → List B) (xs ys : List A) → flat_map f xs ≡ [] → flat_map f ys ≡ [] → flat_map f (xs ++ ys) ≡ []
flat_map_nil_append f xs ys p q = flat_map-append f xs ys ∙ ap (λ k. k ++ flat_map f ys) p ∙ q

known_rules : (w : Meanings) → ((x : Text) → list_any (λ r. same x r.name) (prelude_rules true) ≡ true → is_some (w.numbers.rule (Some 0) x) ≡ true) → NumbersPrelude w
unfolding prelude_rules
known_rules w knows = record {
  list = knows (codes "list") refl;
  nonempty_list = knows (codes "nonempty_list") refl;
  loption = knows (codes "loption") refl;
  separated_nonempty_list = knows (codes "separated_nonempty_list") refl;
}

whole_resolves : (w : Meanings) → NumbersPrelude w → flat_map (unresolved_in_rule w 0) (option_rules ++ (pair_rules ++ (list_rules ++ other_rules))) ≡ []
whole_resolves w knows =
    flat_map_nil_append (unresolved_in_rule w 0) option_rules (pair_rules ++ (list_rules ++ other_rules)) (options_resolve w knows)
    (flat_map_nil_append (unresolved_in_rule w 0) pair_rules (list_rules ++ other_rules) (pairs_resolve w knows) (flat_map_nil_append (unresolved_in_rule w 0) list_rules other_rules (lists_resolve w knows) (others_resolve w knows)))

by_parts : (w : Meanings) → NumbersPrelude w → unresolved_in_rules w 0 (prelude_rules true) ≡ []
unfolding prelude_rules
by_parts w knows = whole_resolves w knows

without : (w : Meanings) → unresolved_in_rules w 0 (prelude_rules false) ≡ []
unfolding prelude_rules
without w = refl

pub prelude_resolved : (p : Bool) (w : Meanings) → ((x : Text) → list_any (λ r. same x r.name) (prelude_rules p) ≡ true → is_some (w.numbers.rule (Some 0) x) ≡ true) → unresolved_in_rules w 0 (prelude_rules p) ≡ []
prelude_resolved true w knows = by_parts w (known_rules w knows)
prelude_resolved false w knows = without w
