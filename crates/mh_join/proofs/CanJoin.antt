-- Proves that files without a fault can be joined.
use Rattle.std.proofs.Common.{◌≡◌, ℕ, ◌+◌, ◌<◌, ◌≤◌, Bool, true, false, List, [], ◌∷◌, ◌++◌, Option, Some, length, refl, sym, ap, subst, ◌∙◌, ◌⊎◌, inl, inr}
use Rattle.std.specs.Prelude.{◌||◌, not, is_some, if◌then◌else◌}
use Rattle.std.specs.List.{All, flat_map, enumerate_from, list_any}
use Rattle.std.proofs.lemmas.Bool.{cases_lt, lt-ltb}
use Rattle.std.proofs.lemmas.List.Concat.{flat_map-append}
use Rattle.mh_grammar.proofs.Lists.{nil_parts}
use Rattle.mh_rules.specs.Limits.{max_tokens}
use Rattle.mh_rules.specs.declared.modules.Ref.{Ref}
use Rattle.mh_rules.specs.declared.modules.Actual.{Actual}
use Rattle.mh_rules.specs.declared.modules.Alternative.{Alternative}
use Rattle.mh_rules.specs.declared.modules.Rule.{Rule}
use Rattle.mh_rules.specs.declared.modules.Module.{Module}
use Rattle.mh_rules.specs.declared.joined.Head.{Head}
use Rattle.mh_rules.specs.declared.joined.Joined.{Joined}
use Rattle.mh_rules.specs.Depth.{AreProducersShallow}
use Rattle.mh_rules.specs.Ready.{AreModulesReady}
use Rattle.mh_join_names.specs.declared.fault.JoinFault.{JoinFault}
use Rattle.mh_join_names.specs.declared.fault.JoinFault.TheVariants as faults
use Rattle.mh_join_names.specs.declared.names.SymbolTables.{SymbolTables}
use Rattle.mh_join_names.specs.declared.outlines.Outline.{Outline}
use Rattle.mh_join_names.specs.Prelude.{prelude_rules}
use Rattle.mh_grammar.specs.Text.{Text}
use Rattle.mh_join_names.specs.Names.{same, files, formal_number, start_names, definitions, definitions_in, prelude_definitions, is_elsewhere, rules, insert_all, insert_key}
use Rattle.mh_join_names.specs.Faults.{Meanings, meant_by, refs, is_error, text_of, unless, undefined, undefined_in_actual, undefined_in_alternative, undefined_prec, undefined_in_rule, undefined_start, undefined_in_level, undefined_in_on_error, undefined_in_declarations, undefined_in_file, duplicates, has_some, error_token, errors_in_actual, errors_in_alternative, errors_in_rule, errors_in_file, unlevelled_in_file, many_tokens, other_faults, faults_by}
use Rattle.mh_join_names.specs.Joining.{IsJoinedBy, IsJoined}
use Rattle.mh_join_names.specs.code.SymbolTables.{meanings_in, elsewhere_in, HasMeanings}
use Rattle.mh_join_parts.specs.code.CanJoin.{unresolved, unresolved_in_rule, unresolved_in_rules, unresolved_in_file, unresolved_on_error, CanJoin, definitions_by}
use Rattle.mh_join.proofs.PreludeResolved.{number_known, prelude_resolved}
use Rattle.mh_join.proofs.PreludeDepth.{prelude_shallow}

-- If f (x) is empty for every element x, and g (x) is empty whenever f (x) is, then g (x) is empty for every element x.
pub nil_by : {A B C : Type 0} (f : A → List B) (g : A → List C) → ((x : A) → f x ≡ [] → g x ≡ []) → (xs : List A) → flat_map f xs ≡ [] → flat_map g xs ≡ []
nil_by f g by [] e = refl
nil_by f g by (x ∷ xs) e = ap (λ k. k ++ flat_map g xs) (by x (nil_parts (f x) (flat_map f xs) e).0) ∙ nil_by f g by xs (nil_parts (f x) (flat_map f xs) e).1

pub nil_by_two : {A B C : Type 0} (f g : A → List B) (h : A → List C) → ((x : A) → f x ≡ [] → g x ≡ [] → h x ≡ []) → (xs : List A) → flat_map f xs ≡ [] → flat_map g xs ≡ [] → flat_map h xs ≡ []
nil_by_two f g h by [] e d = refl
nil_by_two f g h by (x ∷ xs) e d =
    ap (λ k. k ++ flat_map h xs) (by x (nil_parts (f x) (flat_map f xs) e).0 (nil_parts (g x) (flat_map g xs) d).0) ∙ nil_by_two f g h by xs (nil_parts (f x) (flat_map f xs) e).1 (nil_parts (g x) (flat_map g xs) d).1

numbered : {B : Type 0} (g : Module → List B) (n : ℕ) (ms : List Module) → flat_map (λ f. g f.1) (enumerate_from n ms) ≡ flat_map g ms
numbered g n [] = refl
numbered g n (m ∷ ms) = ap (λ k. g m ++ k) (numbered g (n + 1) ms)

-- HEADS

no_error : (b c : Bool) (e f g : JoinFault) → unless (b || c) e ≡ [] → unless (not b) f ≡ [] → unless c g ≡ []
no_error true true e f g p q = refl
no_error true false e f g p q = let bad : f ∷ [] ≡ [] = q in cc
no_error false true e f g p q = refl
no_error false false e f g p q = let bad : e ∷ [] ≡ [] = p in cc

ref_resolves : (meant : Ref → Option Head) (r : Ref) → undefined true meant r ≡ [] → error_token r ≡ [] → undefined false meant r ≡ []
ref_resolves meant r p q = no_error (is_error r) (is_some (meant r)) (faults.Undefined (text_of r)) faults.ErrorToken (faults.Undefined (text_of r)) p q

actual_resolves : (meant : Ref → Option Head) (a : Actual) → undefined_in_actual true meant a ≡ [] → errors_in_actual a ≡ [] → undefined_in_actual false meant a ≡ []
actual_resolves meant a = nil_by_two (undefined true meant) error_token (undefined false meant) (ref_resolves meant) (refs a)

alternative_resolves : (aliased : Text → Option Text) (meant : Ref → Option Head) (a : Alternative) → undefined_in_alternative aliased meant a ≡ [] → errors_in_alternative a ≡ [] → unresolved meant a ≡ []
alternative_resolves aliased meant a p q =
    nil_by_two (undefined_in_actual true meant) errors_in_actual (undefined_in_actual false meant) (actual_resolves meant) a.producers
    (nil_parts (flat_map (undefined_in_actual true meant) a.producers) (undefined_prec aliased a.prec) p).0 q

module _ (w : Meanings) where
  rule_resolves : (k : ℕ) (r : Rule) → undefined_in_rule w k r ≡ [] → errors_in_rule r ≡ [] → unresolved_in_rule w k r ≡ []
  rule_resolves k r = nil_by_two (undefined_in_alternative w.aliased (meant_by w k (formal_number r.formals))) errors_in_alternative (unresolved (meant_by w k (formal_number r.formals))) (alternative_resolves w.aliased (meant_by w k (formal_number r.formals))) r.alternatives

  file_resolves : (f : ℕ × Module) → undefined_in_file w f ≡ [] → errors_in_file f.1 ≡ [] → unresolved_in_file w f ≡ []
  file_resolves f p q =
      nil_by_two (undefined_in_rule w f.0) errors_in_rule (unresolved_in_rule w f.0) (rule_resolves f.0) f.1.rules
      (nil_parts (undefined_in_declarations w f.0 f.1) (flat_map (undefined_in_rule w f.0) f.1.rules) p).1 q

  on_error_resolves : (f : ℕ × Module) → undefined_in_file w f ≡ [] → unresolved_on_error w f ≡ []
  on_error_resolves f p =
      let declared = (nil_parts (undefined_in_declarations w f.0 f.1) (flat_map (undefined_in_rule w f.0) f.1.rules) p).0 in
      (nil_parts (flat_map (undefined_in_level w) f.1.levels) (flat_map (undefined_in_on_error (meant_by w f.0 (formal_number []))) f.1.on_error)
      (nil_parts (flat_map (undefined_start w) f.1.starts) (flat_map (undefined_in_level w) f.1.levels ++ flat_map (undefined_in_on_error (meant_by w f.0 (formal_number []))) f.1.on_error) declared).1).1

  starts_are_defined : (f : ℕ × Module) → undefined_in_file w f ≡ [] → flat_map (undefined_start w) f.1.starts ≡ []
  starts_are_defined f p =
      (nil_parts (flat_map (undefined_start w) f.1.starts) (flat_map (undefined_in_level w) f.1.levels ++ flat_map (undefined_in_on_error (meant_by w f.0 (formal_number []))) f.1.on_error)
      (nil_parts (undefined_in_declarations w f.0 f.1) (flat_map (undefined_in_rule w f.0) f.1.rules) p).0).0

-- If f gives the empty list for each element of ks and of xs, f gives the empty list for each element of their union.
flat_map-insert_all_nil : {B : Type 0} (f : Text → List B) (ks xs : List Text) → flat_map f ks ≡ [] → flat_map f xs ≡ [] → flat_map f (insert_all same ks xs) ≡ []
flat_map-insert_all_nil f ks [] p q = p
flat_map-insert_all_nil {B = B} f ks (x ∷ xs) p q = flat_map-insert_all_nil f (insert_key same ks x) xs (go (list_any (same x) ks)) (nil_parts (f x) (flat_map f xs) q).1
  where
    go : (b : Bool) → flat_map f (if b then ks else ks ++ x ∷ []) ≡ []
    go true = p
    go false = flat_map-append f ks (x ∷ []) ∙ ap (λ k. k ++ (f x ++ [])) p ∙ ap (λ k. k ++ []) (nil_parts (f x) (flat_map f xs) q).0

pub few_tokens : (n : ℕ) → many_tokens n ≡ [] → n ≤ max_tokens
few_tokens n h = go (cases_lt max_tokens n)
  where
    go : (max_tokens < n) ⊎ (n ≤ max_tokens) → n ≤ max_tokens
    go (inl more) = let bad : faults.TooManyTokens n ∷ [] ≡ [] = sym (ap (λ b. unless (not b) (faults.TooManyTokens n)) (lt-ltb max_tokens n more)) ∙ h in cc
    go (inr few) = few

flat_starts : (f : Text → List JoinFault) (ms : List Module) → flat_map (λ (m : Module). flat_map f m.starts) ms ≡ flat_map f (flat_map (λ m. m.starts) ms)
flat_starts f [] = refl
flat_starts f (m ∷ ms) = ap (λ k. flat_map f m.starts ++ k) (flat_starts f ms) ∙ sym (flat_map-append f m.starts (flat_map (λ m. m.starts) ms))

pub can_join : (p : Bool) (ms : List Module) (n : SymbolTables) (from_prelude : List Rule) → HasMeanings p ms n → AreModulesReady ms → from_prelude ≡ prelude_rules p → faults_by (meanings_in n) ms ≡ [] → CanJoin n ms from_prelude
can_join p ms n from_prelude named ready is none = record {
  few = few_tokens (length (meanings_in n).tokens) (nil_parts (flat_map (unlevelled_in_file (meanings_in n)) ms) (many_tokens (length (meanings_in n).tokens)) (nil_parts (flat_map errors_in_file ms) (flat_map (unlevelled_in_file (meanings_in n)) ms ++ many_tokens (length (meanings_in n).tokens)) later).1).1;
  starts = subst (λ ks. flat_map (undefined_start (meanings_in n)) ks ≡ []) (sym (ap (λ (v : Meanings). v.starts) named.meanings_are))
      (flat_map-insert_all_nil (undefined_start (meanings_in n)) [] (flat_map (λ m. m.starts) ms) refl (sym (flat_starts (undefined_start (meanings_in n)) ms) ∙ sym (numbered (λ (m : Module). flat_map (undefined_start (meanings_in n)) m.starts) 1 ms) ∙ nil_by (undefined_in_file (meanings_in n)) (λ (f : ℕ × Module). flat_map (undefined_start (meanings_in n)) f.1.starts) (starts_are_defined (meanings_in n)) (files ms) undefined_none));
  on_error = nil_by (undefined_in_file (meanings_in n)) (unresolved_on_error (meanings_in n)) (on_error_resolves (meanings_in n)) (files ms) undefined_none;
  rules = nil_by_two (undefined_in_file (meanings_in n)) (λ (f : ℕ × Module). errors_in_file f.1) (unresolved_in_file (meanings_in n)) (file_resolves (meanings_in n)) (files ms) undefined_none
      (numbered errors_in_file 1 ms ∙ (nil_parts (flat_map errors_in_file ms) (flat_map (unlevelled_in_file (meanings_in n)) ms ++ many_tokens (length (meanings_in n).tokens)) later).0);
  prelude = ap (unresolved_in_rules (meanings_in n) 0) is ∙ prelude_resolved p (meanings_in n) (λ x h. ap (λ (v : Meanings). is_some (v.numbers.rule (Some 0) x)) named.meanings_are ∙ number_known p ms x h);
  files_ready = ready;
  prelude_shallow = subst (All AreProducersShallow) (sym is) (prelude_shallow p);
}
  where
    undefined_none : flat_map (undefined_in_file (meanings_in n)) (files ms) ≡ []
    undefined_none = (nil_parts (flat_map (undefined_in_file (meanings_in n)) (files ms)) (duplicates (meanings_in n) ms ++ other_faults (meanings_in n) ms) none).0

    later : flat_map errors_in_file ms ++ (flat_map (unlevelled_in_file (meanings_in n)) ms ++ many_tokens (length (meanings_in n).tokens)) ≡ []
    later = (nil_parts (unless (has_some (meanings_in n).starts) faults.NoStart) (flat_map errors_in_file ms ++ (flat_map (unlevelled_in_file (meanings_in n)) ms ++ many_tokens (length (meanings_in n).tokens)))
        (nil_parts (duplicates (meanings_in n) ms) (other_faults (meanings_in n) ms) (nil_parts (flat_map (undefined_in_file (meanings_in n)) (files ms)) (duplicates (meanings_in n) ms ++ other_faults (meanings_in n) ms) none).1).1).1

-- A value joined with the tables of names is the joined value of the definition.
pub joined_by : (p : Bool) (ms : List Module) (n : SymbolTables) (from_prelude : List Rule) (j : Joined) → HasMeanings p ms n → from_prelude ≡ prelude_rules p → IsJoinedBy (meanings_in n) (elsewhere_in n) n.numbering.rules.items (definitions_by n ms from_prelude) ms j → IsJoined p ms j
joined_by p ms n from_prelude j named is by =
    subst (λ (w : Meanings). IsJoinedBy w (is_elsewhere ms) (rules p ms) (definitions p ms) ms j) named.meanings_are
    (subst (λ (e : ℕ → Text → Bool). IsJoinedBy (meanings_in n) e (rules p ms) (definitions p ms) ms j) named.elsewhere_is
    (subst (λ (os : List Outline). IsJoinedBy (meanings_in n) (elsewhere_in n) os (definitions p ms) ms j) named.rules_are
    (subst (λ ds. IsJoinedBy (meanings_in n) (elsewhere_in n) n.numbering.rules.items ds ms j) definitions_are by)))
  where
    definitions_are : definitions_by n ms from_prelude ≡ definitions p ms
    definitions_are =
        ap (λ starts. flat_map (definitions_in starts) (files ms) ++ prelude_definitions from_prelude) (ap (λ (v : Meanings). v.starts) named.meanings_are)
        ∙ ap (λ rs. flat_map (definitions_in (start_names ms)) (files ms) ++ prelude_definitions rs) is
