-- Proves that actuals and alternatives whose names all have a meaning are resolved.
use Rattle.std.proofs.Common.{◌≡◌, ℕ, zero, suc, ◌+◌, ◌≤◌, Bool, true, false, List, [], ◌∷◌, ◌++◌, Option, Some, None, length, map, refl, sym, ap, subst, ◌∙◌, arith}
use Rattle.std.specs.Prelude.{is_some, if◌then◌else◌}
use Rattle.std.specs.List.{flat_map, enumerate_from}
use Rattle.std.specs.Option.{option_map}
use Rattle.std.proofs.lemmas.List.{map-append, length-append}
use Rattle.std.proofs.lemmas.List.Concat.{flat_map-append}
use Rattle.mh_grammar.proofs.Lists.{nil_parts}
use Rattle.mh_grammar.specs.Text.{Text}
use Rattle.mh_rules.specs.declared.modules.Ref.{Ref}
use Rattle.mh_rules.specs.declared.modules.Actual.{Actual}
use Rattle.mh_rules.specs.declared.modules.Actual.TheViews.{out-Actual}
use Rattle.mh_rules.specs.declared.modules.Alternative.{Alternative}
use Rattle.mh_rules.specs.declared.modules.Rule.{Rule}
use Rattle.mh_rules.specs.declared.modules.Module.{Module}
use Rattle.mh_rules.specs.declared.joined.Head.{Head}
use Rattle.mh_rules.specs.declared.joined.Applied.{Applied}
use Rattle.mh_rules.specs.declared.joined.JoinedAlternative.{JoinedAlternative}
use Rattle.mh_join_names.specs.declared.fault.JoinFault.{JoinFault}
use Rattle.mh_join_names.specs.Names.{Definition, formal_number, definitions_from, definitions_in, owner_in}
use Rattle.mh_join_names.specs.Faults.{Meanings, meant_by, refs, undefined_in_actual, undefined_in_on_error}
use Rattle.mh_join_names.specs.Joining.{applied_to, resolved, all_of, all_resolved, alternative_with, prec_by, alternative_by, alternatives_by, has_number, alternatives_for, on_error_in}
use Rattle.mh_join_names.proofs.Refs.{size_out}
use Rattle.mh_join_names.proofs.Resolved.{head_resolved, args_resolved, resolved_with, all_somes}
use Rattle.mh_join_parts.specs.code.CanJoin.{unresolved, unresolved_in_rule, unresolved_in_rules, unresolved_in_file, unresolved_on_error}

-- Each of these optional values is some value.
abbrev pub HaveValues : {X : Type 0} → List (Option X) → Type 0
HaveValues {X} os = (xs : List X) × (map Some xs ≡ os)

-- The optional value is some value.
abbrev pub HasValue : {X : Type 0} → Option X → Type 0
HasValue {X} o = (x : X) × (Some x ≡ o)

pub HasValue-some : {X : Type 0} (o : Option X) → is_some o ≡ true → HasValue o
HasValue-some None e = cc
HasValue-some (Some x) e = (x, refl)

HaveValues-more : {X : Type 0} (o : Option X) (os : List (Option X)) → HasValue o → HaveValues os → HaveValues (o ∷ os)
HaveValues-more o os (x, e) (xs, f) = (x ∷ xs, ap (λ p. p ∷ map Some xs) e ∙ ap (λ ps. o ∷ ps) f)

pub HaveValues-append : {X : Type 0} (os ps : List (Option X)) → HaveValues os → HaveValues ps → HaveValues (os ++ ps)
HaveValues-append os ps (xs, e) (ys, f) = (xs ++ ys, map-append Some xs ys ∙ ap (λ k. k ++ map Some ys) e ∙ ap (λ k. os ++ k) f)

-- If no item has a fault, each item has a value.
pub HaveValues-map : {A B X : Type 0} (f : A → Option X) (g : A → List B) → ((a : A) → g a ≡ [] → HasValue (f a)) → (ks : List A) → flat_map g ks ≡ [] → HaveValues (map f ks)
HaveValues-map f g by [] e = ([], refl)
HaveValues-map f g by (a ∷ ks) e = let parts = nil_parts (g a) (flat_map g ks) e in HaveValues-more (f a) (map f ks) (by a parts.0) (HaveValues-map f g by ks parts.1)

pub HaveValues-flat_map : {A B X : Type 0} (f : A → List (Option X)) (g : A → List B) → ((a : A) → g a ≡ [] → HaveValues (f a)) → (ks : List A) → flat_map g ks ≡ [] → HaveValues (flat_map f ks)
HaveValues-flat_map f g by [] e = ([], refl)
HaveValues-flat_map f g by (a ∷ ks) e = let parts = nil_parts (g a) (flat_map g ks) e in HaveValues-append (f a) (flat_map f ks) (by a parts.0) (HaveValues-flat_map f g by ks parts.1)

-- Actuals.

module _ (meant : Ref → Option Head) where
  actuals_by : (n : ℕ) → ((a : Actual) → length (refs a) ≤ n → undefined_in_actual false meant a ≡ [] → HasValue (resolved meant a)) → (ks : List Actual) → length (flat_map refs ks) ≤ n → flat_map (undefined_in_actual false meant) ks ≡ [] → HaveValues (map (resolved meant) ks)
  actuals_by n f [] l e = ([], refl)
  actuals_by n f (a ∷ ks) l e =
      let parts = nil_parts (undefined_in_actual false meant a) (flat_map (undefined_in_actual false meant) ks) e in
      let sizes = length-append (refs a) (flat_map refs ks) in
      HaveValues-more (resolved meant a) (map (resolved meant) ks) (f a (omega (arith, l, sizes)) parts.0) (actuals_by n f ks (omega (arith, l, sizes)) parts.1)

  actual_by : (n : ℕ) (a : Actual) → length (refs a) ≤ n → undefined_in_actual false meant a ≡ [] → HasValue (resolved meant a)
  actual_by zero a l e = absurd (omega (arith, size_out a))
  actual_by (suc n) a l e =
      let head = HasValue-some (meant (out-Actual a).head) (head_resolved meant a e) in
      let args = actuals_by n (actual_by n) (out-Actual a).args (omega (arith, size_out a)) (args_resolved meant a e) in
      (applied_to head.0 args.0, resolved_with meant a head.0 args.0 head.1 args.1)

  actual_has_value : (a : Actual) → undefined_in_actual false meant a ≡ [] → HasValue (resolved meant a)
  actual_has_value a e = actual_by (length (refs a)) a (omega arith) e

  pub actuals_have_value : (ks : List Actual) → flat_map (undefined_in_actual false meant) ks ≡ [] → HasValue (all_resolved meant ks)
  actuals_have_value ks e = let found = HaveValues-map (resolved meant) (undefined_in_actual false meant) actual_has_value ks e in (found.0, sym (all_somes found.0) ∙ ap all_of found.1)

-- Alternatives.

module _ (w : Meanings) where
  alternative_has_value : (k : ℕ) (meant : Ref → Option Head) (n : ℕ) (a : Alternative) → unresolved meant a ≡ [] → HasValue (alternative_by w k meant (n, a))
  alternative_has_value k meant n a e =
      let ps = actuals_have_value meant a.producers e in
      (alternative_with k n (prec_by w.aliased w.level a.prec) ps.0, ap (option_map (alternative_with k n (prec_by w.aliased w.level a.prec))) ps.1)

  numbered_have_values : (k : ℕ) (meant : Ref → Option Head) (n : ℕ) (ks : List Alternative) → flat_map (unresolved meant) ks ≡ [] → HaveValues (map (alternative_by w k meant) (enumerate_from n ks))
  numbered_have_values k meant n [] e = ([], refl)
  numbered_have_values k meant n (a ∷ ks) e =
      let parts = nil_parts (unresolved meant a) (flat_map (unresolved meant) ks) e in
      HaveValues-more (alternative_by w k meant (n, a)) (map (alternative_by w k meant) (enumerate_from (n + 1) ks)) (alternative_has_value k meant n a parts.0) (numbered_have_values k meant (n + 1) ks parts.1)

  module _ (i : ℕ) where
    definition_has_values : (d : Definition) → unresolved_in_rule w d.file d.rule ≡ [] → HaveValues (alternatives_for w i d)
    definition_has_values d e = go (has_number i (w.numbers.rule d.owner d.rule.name))
      where
        go : (b : Bool) → HaveValues (if b then alternatives_by w d else [])
        go true = numbered_have_values d.file (meant_by w d.file (formal_number d.rule.formals)) d.place d.rule.alternatives e
        go false = ([], refl)

    pub rules_have_values : (owner : Text → Option ℕ) (k n : ℕ) (rs : List Rule) → unresolved_in_rules w k rs ≡ [] → HaveValues (flat_map (alternatives_for w i) (definitions_from owner k n rs))
    rules_have_values owner k n [] e = ([], refl)
    rules_have_values owner k n (r ∷ rs) e =
        let parts = nil_parts (unresolved_in_rule w k r) (flat_map (unresolved_in_rule w k) rs) e in
        let d : Definition = record { file = k; owner = owner r.name; place = n; rule = r } in
        HaveValues-append (alternatives_for w i d) (flat_map (alternatives_for w i) (definitions_from owner k (n + length r.alternatives) rs)) (definition_has_values d parts.0) (rules_have_values owner k (n + length r.alternatives) rs parts.1)

    pub files_have_values : (starts : List Text) (fs : List (ℕ × Module)) → flat_map (unresolved_in_file w) fs ≡ [] → HaveValues (flat_map (alternatives_for w i) (flat_map (definitions_in starts) fs))
    files_have_values starts [] e = ([], refl)
    files_have_values starts (f ∷ fs) e =
        let parts = nil_parts (unresolved_in_file w f) (flat_map (unresolved_in_file w) fs) e in
        subst HaveValues (sym (flat_map-append (alternatives_for w i) (definitions_in starts f) (flat_map (definitions_in starts) fs)))
        (HaveValues-append (flat_map (alternatives_for w i) (definitions_in starts f)) (flat_map (alternatives_for w i) (flat_map (definitions_in starts) fs)) (rules_have_values (owner_in starts f.0 f.1.rules) f.0 0 f.1.rules parts.0) (files_have_values starts fs parts.1))

  pub on_error_has_values : (f : ℕ × Module) → unresolved_on_error w f ≡ [] → HaveValues (on_error_in w f)
  on_error_has_values f e = HaveValues-map (all_resolved (meant_by w f.0 (formal_number []))) (undefined_in_on_error (meant_by w f.0 (formal_number []))) (λ ks e. actuals_have_value (meant_by w f.0 (formal_number [])) ks e) f.1.on_error e
