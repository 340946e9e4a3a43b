-- Proves that files are joined or have a first fault.
use Rattle.std.proofs.Common.{◌≡◌, ℕ, zero, suc, ◌+◌, ◌⊎◌, inl, inr, Bool, true, List, [], ◌∷◌, ◌++◌, Option, Some, None, length, map, refl, sym, ap, subst, ◌∙◌, arith, Ok}
use Rattle.std.specs.Prelude.{is_some}
use Rattle.std.specs.List.{slice_get, flat_map}
use Rattle.std.proofs.lemmas.List.Concat.{flat_map-append}
use Rattle.mh_grammar.proofs.Lists.{nil_parts}
use Rattle.mh_grammar.specs.Text.{Text}
use Rattle.mh_rules.specs.declared.modules.Module.{Module}
use Rattle.mh_rules.specs.declared.joined.Joined.{Joined}
use Rattle.mh_rules.specs.declared.joined.JoinedAlternative.{JoinedAlternative}
use Rattle.mh_rules.specs.declared.joined.JoinedRule.{JoinedRule}
use Rattle.mh_join_names.specs.declared.outlines.Outline.{Outline}
use Rattle.mh_join_names.specs.declared.fault.JoinFault.{JoinFault}
use Rattle.mh_join_names.specs.declared.fault.JoinFault.TheVariants as faults
use Rattle.mh_join_names.specs.Prelude.{prelude_rules}
use Rattle.mh_join_names.specs.Names.{files, Definition, definitions, definitions_in, prelude_definitions, start_names, is_elsewhere, rules}
use Rattle.mh_join_names.specs.Faults.{Meanings, meanings, undefined_start, undefined_in_file, duplicates, unless, has_some, errors_in_file, unlevelled_in_file, many_tokens, other_faults, faults_by, join_faults, first}
use Rattle.mh_join_names.specs.Joining.{Joins, IsJoined, AreRules, alternatives_for, rule_of_outline, without_alternatives, token_info, on_error_in}
use Rattle.mh_join_names.proofs.Resolved.{known_unless}
use Rattle.mh_join_parts.specs.code.CanJoin.{unresolved_in_rules, unresolved_in_file, unresolved_on_error}
use Rattle.mh_join.proofs.CanJoin.{nil_by, nil_by_two}
use Rattle.mh_join.proofs.PreludeResolved.{number_known, prelude_resolved}
use Rattle.mh_front.proofs.DefinitionsAre.{numbered, file_resolves, on_error_resolves, starts_are_defined, flat_map-insert_all_nil, flat_starts}
use Rattle.mh_front.proofs.NamesResolve.{HaveValues, HasValue-some, HaveValues-append, HaveValues-map, HaveValues-flat_map, rules_have_values, files_have_values, on_error_has_values}

-- The joined rules that are made from outlines (an outline is a rule without its alternatives), with the resolved
-- alternatives from the definitions. The first outline has index n.
record Ruled (w : Meanings) (elsewhere : ℕ → Text → Bool) (ds : List Definition) (n : ℕ) (outlines : List Outline) : Type 0 where
  made : List JoinedRule
  same : map without_alternatives made ≡ map (rule_of_outline elsewhere) outlines
  each : (i : ℕ) (r : JoinedRule) → slice_get made i ≡ Some r → map Some r.alternatives ≡ flat_map (alternatives_for w (n + i)) ds

abbrev with_alternatives : (ℕ → Text → Bool) → Outline → List JoinedAlternative → JoinedRule
with_alternatives elsewhere o alternatives = record (rule_of_outline elsewhere o) { alternatives = alternatives }

more : (w : Meanings) (elsewhere : ℕ → Text → Bool) (ds : List Definition) (n : ℕ) (o : Outline) (outlines : List Outline) → HaveValues (flat_map (alternatives_for w n) ds) → Ruled w elsewhere ds (suc n) outlines → Ruled w elsewhere ds n (o ∷ outlines)
more w elsewhere ds n o outlines alternatives rest = record { made = with_alternatives elsewhere o alternatives.0 ∷ rest.made; same = ap (λ rs. rule_of_outline elsewhere o ∷ rs) rest.same; each = at }
  where
    at : (i : ℕ) (r : JoinedRule) → slice_get (with_alternatives elsewhere o alternatives.0 ∷ rest.made) i ≡ Some r → map Some r.alternatives ≡ flat_map (alternatives_for w (n + i)) ds
    at zero r e =
        let one : with_alternatives elsewhere o alternatives.0 ≡ r = cc in
        let place : n ≡ n + 0 = omega arith in
        ap (λ (q : JoinedRule). map Some q.alternatives) (sym one) ∙ alternatives.1 ∙ ap (λ (i : ℕ). flat_map (alternatives_for w i) ds) place
    at (suc i) r e = let place : suc n + i ≡ n + suc i = omega arith in rest.each i r e ∙ ap (λ (i : ℕ). flat_map (alternatives_for w i) ds) place

ruled : (w : Meanings) (elsewhere : ℕ → Text → Bool) (ds : List Definition) → ((i : ℕ) → HaveValues (flat_map (alternatives_for w i) ds)) → (n : ℕ) (outlines : List Outline) → Ruled w elsewhere ds n outlines
ruled w elsewhere ds there n [] = record { made = []; same = refl; each = λ i r e. cc }
ruled w elsewhere ds there n (o ∷ outlines) = more w elsewhere ds n o outlines (there n) (ruled w elsewhere ds there (suc n) outlines)

module _ (p : Bool) (ms : List Module) (none : join_faults p ms ≡ []) where
  abbrev w : Meanings
  w = meanings p ms

  undefined_none : flat_map (undefined_in_file w) (files ms) ≡ []
  undefined_none = (nil_parts (flat_map (undefined_in_file w) (files ms)) (duplicates w ms ++ other_faults w ms) none).0

  later : flat_map errors_in_file ms ++ (flat_map (unlevelled_in_file w) ms ++ many_tokens (length w.tokens)) ≡ []
  later = (nil_parts (unless (has_some w.starts) faults.NoStart) (flat_map errors_in_file ms ++ (flat_map (unlevelled_in_file w) ms ++ many_tokens (length w.tokens)))
      (nil_parts (duplicates w ms) (other_faults w ms) (nil_parts (flat_map (undefined_in_file w) (files ms)) (duplicates w ms ++ other_faults w ms) none).1).1).1

  rules_resolve : flat_map (unresolved_in_file w) (files ms) ≡ []
  rules_resolve = nil_by_two (undefined_in_file w) (λ (f : ℕ × Module). errors_in_file f.1) (unresolved_in_file w) (file_resolves w) (files ms) undefined_none
      (numbered errors_in_file 1 ms ∙ (nil_parts (flat_map errors_in_file ms) (flat_map (unlevelled_in_file w) ms ++ many_tokens (length w.tokens)) later).0)

  prelude_resolve : unresolved_in_rules w 0 (prelude_rules p) ≡ []
  prelude_resolve = prelude_resolved p w (number_known p ms)

  all_starts_are_defined : flat_map (undefined_start w) w.starts ≡ []
  all_starts_are_defined = flat_map-insert_all_nil (undefined_start w) [] (flat_map (λ m. m.starts) ms) refl (sym (flat_starts (undefined_start w) ms) ∙ sym (numbered (λ (m : Module). flat_map (undefined_start w) m.starts) 1 ms) ∙ nil_by (undefined_in_file w) (λ (f : ℕ × Module). flat_map (undefined_start w) f.1.starts) (starts_are_defined w) (files ms) undefined_none)

  alternatives : (i : ℕ) → HaveValues (flat_map (alternatives_for w i) (definitions p ms))
  alternatives i =
      subst HaveValues (sym (flat_map-append (alternatives_for w i) (flat_map (definitions_in (start_names ms)) (files ms)) (prelude_definitions (prelude_rules p))))
      (HaveValues-append (flat_map (alternatives_for w i) (flat_map (definitions_in (start_names ms)) (files ms))) (flat_map (alternatives_for w i) (prelude_definitions (prelude_rules p))) (files_have_values w i (start_names ms) (files ms) rules_resolve) (rules_have_values w i (λ x. Some 0) 0 0 (prelude_rules p) prelude_resolve))

  start_numbers : HaveValues (map (w.numbers.rule None) w.starts)
  start_numbers = HaveValues-map (w.numbers.rule None) (undefined_start w) (λ x e. HasValue-some (w.numbers.rule None x) (known_unless (is_some (w.numbers.rule None x)) (faults.Undefined x) e)) w.starts all_starts_are_defined

  on_errors : HaveValues (flat_map (on_error_in w) (files ms))
  on_errors = HaveValues-flat_map (on_error_in w) (unresolved_on_error w) (on_error_has_values w) (files ms) (nil_by (undefined_in_file w) (unresolved_on_error w) (on_error_resolves w) (files ms) undefined_none)

  all_rules : Ruled w (is_elsewhere ms) (definitions p ms) 0 (rules p ms)
  all_rules = ruled w (is_elsewhere ms) (definitions p ms) alternatives 0 (rules p ms)

  are_rules : AreRules w (is_elsewhere ms) (rules p ms) (definitions p ms) all_rules.made
  are_rules = record {
    outlines_are = all_rules.same;
    alternatives_are = λ i r e. let place : 0 + i ≡ i = omega arith in all_rules.each i r e ∙ ap (λ (i : ℕ). flat_map (alternatives_for w i) (definitions p ms)) place;
  }

  pub joins : (j : Joined) × IsJoined p ms j
  joins = (
    record { tokens = map (token_info w) w.tokens; starts = start_numbers.0; on_error = on_errors.0; rules = all_rules.made },
    record { tokens_are = refl; starts_are = start_numbers.1; on_error_is = on_errors.1; rules_are = are_rules },
  )

pub joined_or_fault : (p : Bool) (ms : List Module) → ((joined : Joined) × Joins p ms (Ok joined)) ⊎ ((fault : JoinFault) × (first (join_faults p ms) ≡ Some fault))
joined_or_fault p ms = by (join_faults p ms) refl
  where
    by : (es : List JoinFault) → join_faults p ms ≡ es → ((joined : Joined) × Joins p ms (Ok joined)) ⊎ ((fault : JoinFault) × (first (join_faults p ms) ≡ Some fault))
    by [] e = let j = joins p ms e in inl (j.0, (e, j.1))
    by (fault ∷ es) e = inr (fault, ap first e)
