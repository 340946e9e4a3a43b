-- The lines for the faults of names of all files, and of all files together.
use Rattle.std.proofs.Common.{◌≡◌, ◌↔◌, ℕ, suc, ◌+◌, ◌-◌, ◌<◌, ◌≤◌, Bool, true, false, cond, List, [], ◌∷◌, ◌++◌, Some, drop, length, get_or, map, flat_map, refl, sym, ap, subst, ◌∙◌, arith, append_assoc}
use Rattle.std.specs.Prelude.{not, nat_lt}
use Rattle.std.specs.List.{enumerate_from, slice_get}
use Rattle.std.proofs.lemmas.List.{append-nil, drop_all}
use Rattle.std.proofs.lemmas.Option.{get_or_from_slice_get, slice_get_within}
use Rattle.mh_grammar.proofs.Lists.{drop_step}
use Rattle.mh_grammar.specs.Text.{Text}
use Rattle.mh_front.specs.Texts.{join_text}
use Rattle.mh_join_names.specs.Faults.{Meanings, has_some, many_tokens, unless}
use Rattle.mh_join_names.specs.declared.fault.JoinFault.{JoinFault}
use Rattle.mh_join_names.specs.declared.fault.JoinFault.TheVariants as faults
use Rattle.mh_rules.specs.Limits.{max_tokens}
use Rattle.mh_rules.specs.declared.modules.Module.{Module}
use Rattle.mh_reader_places.specs.declared.mentions.Mention.{Mention}
use Rattle.mh_reader_places.specs.declared.reading.PlacedModule.{PlacedModule}
use Rattle.mh_lint_findings.specs.Lines.{Line, line}
use Rattle.mh_lint_findings.specs.declared.findings.Position.TheVariants.{OfFile}
use Rattle.mh_lint_faults.specs.FaultLines.{fault_lines, grammar_lines, name_lines}
use Rattle.mh_lint_faults.specs.NameFaults.{grammar_faults, name_faults}

module _ (w : Meanings) (found : List PlacedModule) where
  abbrev pub names_left : ℕ → List Line
  names_left n = flat_map (name_lines w) (enumerate_from n (drop n found))

  -- The lines of one more file are written; what is written and what is left are the whole.
  pub names_written : (n : ℕ) (p : PlacedModule) (k : ℕ) (m : Module) (xs : List Mention) (all now new : List Line) → slice_get found n ≡ Some p → k ≡ n + 1 → m ≡ p.module → xs ≡ p.mentions → new ≡ now ++ fault_lines (k - 1) (name_faults w k m xs)
      → now ++ names_left n ≡ all → new ++ names_left (n + 1) ≡ all
  names_written n p k m xs all now new at ek em ex is whole =
      let here : fault_lines (k - 1) (name_faults w k m xs) ≡ name_lines w (n, p) =
      ap (λ j. fault_lines (j - 1) (name_faults w j m xs)) ek ∙ ap (λ j. fault_lines j (name_faults w (n + 1) m xs)) (let e : n + 1 - 1 ≡ n = omega arith in e)
      ∙ ap (λ c. fault_lines n (name_faults w (n + 1) c xs)) em ∙ ap (λ ys. fault_lines n (name_faults w (n + 1) p.module ys)) ex in
      let step : names_left n ≡ name_lines w (n, p) ++ names_left (n + 1) = ap (λ ps. flat_map (name_lines w) (enumerate_from n ps)) (drop_step found n p (slice_get_within found n p at) (sym (get_or_from_slice_get found n p p at))) in
      ap (λ ls. ls ++ names_left (n + 1)) (is ∙ ap (λ ls. now ++ ls) here) ∙ append_assoc now (name_lines w (n, p)) (names_left (n + 1)) ∙ ap (λ ls. now ++ ls) (sym step) ∙ whole

  pub names_end : (n : ℕ) (all now : List Line) → length found ≤ n → now ++ names_left n ≡ all → now ≡ all
  names_end n all now l whole = sym (append-nil now) ∙ ap (λ ps. now ++ flat_map (name_lines w) (enumerate_from n ps)) (sym (drop_all n found l)) ∙ whole

-- ---- Faults of all files together.

abbrev one_line : JoinFault → List Line
one_line fault = line (OfFile 0) (join_text fault) ∷ []

no_start : (starts : List Text) (empty : Bool) → ((empty ≡ true) ↔ (length starts ≡ 0)) → cond empty (one_line faults.NoStart) [] ≡ map (λ (f : JoinFault). line (OfFile 0) (join_text f)) (unless (has_some starts) faults.NoStart)
no_start [] true h = refl
no_start [] false h = let bad = h.1 refl in cc
no_start (x ∷ xs) true h = let bad = h.0 refl in absurd (omega (arith, bad))
no_start (x ∷ xs) false h = refl

too_many : (n : ℕ) (many : Bool) → cond many (one_line (faults.TooManyTokens n)) [] ≡ map (λ (f : JoinFault). line (OfFile 0) (join_text f)) (unless (not many) (faults.TooManyTokens n))
too_many n true = refl
too_many n false = refl

mapped : (xs ys : List JoinFault) → map (λ (f : JoinFault). line (OfFile 0) (join_text f)) (xs ++ ys) ≡ map (λ (f : JoinFault). line (OfFile 0) (join_text f)) xs ++ map (λ (f : JoinFault). line (OfFile 0) (join_text f)) ys
mapped [] ys = refl
mapped (x ∷ xs) ys = ap (λ ls. line (OfFile 0) (join_text x) ∷ ls) (mapped xs ys)

pub grammar_written : (w : Meanings) (empty many : Bool) (old mid new : List Line) → ((empty ≡ true) ↔ (length w.starts ≡ 0)) → many ≡ nat_lt max_tokens (length w.tokens) → mid ≡ old ++ cond empty (line (OfFile 0) (join_text faults.NoStart) ∷ []) []
    → new ≡ mid ++ cond many (line (OfFile 0) (join_text (faults.TooManyTokens (length w.tokens))) ∷ []) [] → new ≡ old ++ grammar_lines w
grammar_written w empty many old mid new starts tokens first second =
    let a = map (λ (f : JoinFault). line (OfFile 0) (join_text f)) (unless (has_some w.starts) faults.NoStart) in
    let b = map (λ (f : JoinFault). line (OfFile 0) (join_text f)) (many_tokens (length w.tokens)) in
    second ∙ ap (λ ls. ls ++ cond many (one_line (faults.TooManyTokens (length w.tokens))) []) (first ∙ ap (λ ls. old ++ ls) (no_start w.starts empty starts))
    ∙ ap (λ ls. (old ++ a) ++ ls) (too_many (length w.tokens) many ∙ ap (λ m. map (λ (f : JoinFault). line (OfFile 0) (join_text f)) (unless (not m) (faults.TooManyTokens (length w.tokens)))) tokens)
    ∙ append_assoc old a b ∙ ap (λ ls. old ++ ls) (sym (mapped (unless (has_some w.starts) faults.NoStart) (many_tokens (length w.tokens))))
