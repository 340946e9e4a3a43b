-- The lines for the faults of names, file by file, and for those of all files together.
use Rattle.std.proofs.Common.{◌≡◌, ◌↔◌, ℕ, ◌+◌, ◌-◌, ◌<◌, ◌≤◌, Bool, true, false, cond, IsTrue, List, [], ◌∷◌, ◌++◌, drop, length, get_or, map, flat_map, refl, sym, ap, ◌∙◌, append_assoc, arith}
use Rattle.std.specs.Prelude.{nat_lt, not}
use Rattle.std.specs.List.{enumerate_from}
use Rattle.std.proofs.lemmas.List.{append-nil, drop_all, length-map, map-append}
use Rattle.std.proofs.lemmas.Option.{get_or_from_slice_get, slice_get_within}
use Rattle.mh_front.specs.Texts.{join_text}
use Rattle.mh_grammar.proofs.Lists.{drop_step}
use Rattle.mh_grammar.specs.Text.{Text}
use Rattle.mh_join_names.specs.Faults.{Meanings, has_some, many_tokens, unless}
use Rattle.mh_join_names.specs.declared.fault.JoinFault.{JoinFault}
use Rattle.mh_join_names.specs.declared.fault.JoinFault.TheVariants as joining
use Rattle.mh_reader_places.specs.declared.mentions.Mention.{Mention}
use Rattle.mh_reader_places.specs.declared.reading.PlacedModule.{PlacedModule}
use Rattle.mh_rules.specs.Limits.{max_tokens}
use Rattle.mh_rules.specs.declared.modules.Module.{Module}
use Rattle.mh_lint_findings.specs.Lines.{Line, line}
use Rattle.mh_lint_findings.specs.declared.findings.Position.TheVariants.{OfFile}
use Rattle.mh_lint_faults.specs.FaultLines.{fault_lines, grammar_lines, name_lines}
use Rattle.mh_lint_faults.specs.NameFaults.{name_faults}
use Rattle.mh_lint_faults.specs.code.ReadFiles.{IsSplit}
use Rattle.mh_lint_faults.specs.declared.reading.ReadFiles.{ReadFiles}
use Rattle.mh_lint_faults.proofs.SplitFiles.{file_at, mentions_at, module_at}

module _ (w : Meanings) (found : List PlacedModule) (read : ReadFiles) (split : IsSplit found read) where
  -- The lines of the files from number i on.
  abbrev pub lines_from : ℕ → List Line
  lines_from i = flat_map (name_lines w) (enumerate_from i (drop i found))

  -- What is written and what is left are the whole, after one more file.
  pub file_written : (i number : ℕ) (m : Module) (ms : List Mention) (d : Module) (e : List Mention) (all now new : List Line) → i < length read.modules.items → number ≡ i + 1 → m ≡ get_or read.modules.items i d → ms ≡ get_or read.mentions.items i e
      → new ≡ now ++ fault_lines (number - 1) (name_faults w number m ms) → now ++ lines_from i ≡ all → new ++ lines_from (i + 1) ≡ all
  file_written i number m ms d e all now new l number_is made names written whole =
      let one = file_at found read split i l in
      let p = one.0 in
      let module_is : m ≡ p.module = made ∙ module_at found read split i p d one.1 in
      let mentions_are : ms ≡ p.mentions = names ∙ mentions_at found read split i p e one.1 in
      let dropped : drop i found ≡ p ∷ drop (i + 1) found = drop_step found i p (slice_get_within found i p one.1) (sym (get_or_from_slice_get found i p p one.1)) in
      let before : i + 1 - 1 ≡ i = omega arith in
      let here : fault_lines (number - 1) (name_faults w number m ms) ≡ name_lines w (i, p) = ap (λ k. fault_lines (k - 1) (name_faults w k m ms)) number_is
      ∙ ap (λ j. fault_lines j (name_faults w (i + 1) m ms)) before ∙ ap (λ x. fault_lines i (name_faults w (i + 1) x ms)) module_is ∙ ap (λ x. fault_lines i (name_faults w (i + 1) p.module x)) mentions_are in
      let rest : lines_from i ≡ name_lines w (i, p) ++ lines_from (i + 1) = ap (λ ps. flat_map (name_lines w) (enumerate_from i ps)) dropped in
      ap (λ ls. ls ++ lines_from (i + 1)) (written ∙ ap (λ ls. now ++ ls) here) ∙ append_assoc now (name_lines w (i, p)) (lines_from (i + 1)) ∙ ap (λ ls. now ++ ls) (sym rest) ∙ whole

  pub files_end : (i : ℕ) (all now : List Line) → length read.modules.items ≤ i → now ++ lines_from i ≡ all → now ≡ all
  files_end i all now l whole =
      let count : length found ≤ i = omega (arith, l, ap length split.modules, length-map found (λ (p : PlacedModule). p.module)) in
      sym (append-nil now) ∙ ap (λ ps. now ++ flat_map (name_lines w) (enumerate_from i ps)) (sym (drop_all i found count)) ∙ whole

-- ---- Faults of all files together.

abbrev all_line : JoinFault → Line
all_line f = line (OfFile 0) (join_text f)

start_line : (xs : List Text) (b : Bool) → IsTrue b ↔ (length xs ≡ 0) → cond b (all_line joining.NoStart ∷ []) [] ≡ map all_line (unless (has_some xs) joining.NoStart)
start_line [] true h = refl
start_line [] false h = let bad : false ≡ true = h.1 refl in cc
start_line (x ∷ xs) true h = absurd (omega (arith, h.0 refl))
start_line (x ∷ xs) false h = refl

count_line : (n : ℕ) (b : Bool) → cond b (all_line (joining.TooManyTokens n) ∷ []) [] ≡ map all_line (unless (not b) (joining.TooManyTokens n))
count_line n true = refl
count_line n false = refl

pub grammar_written : (w : Meanings) (b : Bool) (old now new : List Line) → IsTrue b ↔ (length w.starts ≡ 0) → now ≡ old ++ cond b (all_line joining.NoStart ∷ []) [] → new ≡ now ++ cond (nat_lt max_tokens (length w.tokens)) (all_line (joining.TooManyTokens (length w.tokens)) ∷ []) [] → new ≡ old ++ grammar_lines w
grammar_written w b old now new none first later =
    later ∙ ap (λ ls. ls ++ cond (nat_lt max_tokens (length w.tokens)) (all_line (joining.TooManyTokens (length w.tokens)) ∷ []) []) first ∙ append_assoc old (cond b (all_line joining.NoStart ∷ []) []) (cond (nat_lt max_tokens (length w.tokens)) (all_line (joining.TooManyTokens (length w.tokens)) ∷ []) [])
    ∙ ap (λ ls. old ++ (ls ++ cond (nat_lt max_tokens (length w.tokens)) (all_line (joining.TooManyTokens (length w.tokens)) ∷ []) [])) (start_line w.starts b none)
    ∙ ap (λ ls. old ++ (map all_line (unless (has_some w.starts) joining.NoStart) ++ ls)) (count_line (length w.tokens) (nat_lt max_tokens (length w.tokens)))
    ∙ ap (λ ls. old ++ ls) (sym (map-append all_line (unless (has_some w.starts) joining.NoStart) (many_tokens (length w.tokens))))
