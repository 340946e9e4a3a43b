-- The walk over the mentions of a file: its first mention, each mention, and what is left after the last.
use Rattle.std.proofs.Common.{◌≡◌, ℕ, ◌+◌, ◌<◌, ◌≤◌, false, List, [], Some, length, get_or, take, drop, suc, arith, sym, ap, subst, ◌∙◌}
use Rattle.std.specs.List.{Contains, enumerate_from, slice_get}
use Rattle.std.specs.HashSet.{contains}
use Rattle.std.proofs.lemmas.List.{length-map, take_all}
use Rattle.std.proofs.lemmas.Option.{same_Some}
use Rattle.std.proofs.lemmas.List.FromFn.{length-enumerate_from}
use Rattle.mh_grammar.specs.declared.types.Grammar.{Grammar}
use Rattle.mh_grammar.proofs.Lists.{contains_none, split_at}
use Rattle.mh_join_names.specs.Names.{same}
use Rattle.mh_rules.specs.declared.modules.Module.{Module}
use Rattle.mh_reader_places.specs.declared.mentions.Mention.{Mention}
use Rattle.mh_reader_places.specs.declared.reading.PlacedModule.{PlacedModule}
use Rattle.mh_lint_findings.specs.Lines.{Line}
use Rattle.mh_lint_findings.specs.LinesInOrder.{AreInOrder}
use Rattle.mh_lint_findings.specs.code.AppendedLines.{AppendsLines}
use Rattle.mh_lint_findings.specs.declared.findings.Finding.{Finding}
use Rattle.mh_lint_findings.proofs.AppendsLines.{appends_more}
use Rattle.mh_lint_faults.proofs.SplitFiles.{costs_at, file_at, mentions_at, module_at}
use Rattle.mh_lint_faults.specs.code.MentionContexts.{HasOwnPrecs}
use Rattle.mh_lint_faults.specs.declared.front.AcceptedFiles.{AcceptedFiles}
use Rattle.mh_lint_states.specs.declared.all_states.ShownByStates.{ShownByStates}
use Rattle.mh_lint.specs.MentionWarnings.{declarations_before}
use Rattle.mh_lint.specs.Warnings.{AreFileLines, AreLinesOfFile}
use Rattle.mh_lint.specs.code.MentionUses.{AreLinesOfFileAt, AreStagesOf, AreUses, AreUsesAfterFile, AreUsesBut, Checked, IsBefore, IsBeforeFile, IsInFile, IsShownBy, next_file}
use Rattle.mh_lint.specs.code.Declarations.{declared}
use Rattle.mh_lint.specs.code.Uses.{HasPlace}
use Rattle.mh_lint.specs.declared.levels.UsedLevels.{UsedLevels}
use Rattle.mh_lint.specs.declared.warning_walk.Uses.{Uses}
use Rattle.mh_lint.proofs.AreFileLines.{AreFirstLines}
use Rattle.mh_lint.proofs.AreNameLines.{enumerated}
use Rattle.mh_lint.proofs.HasOwnPrecs.{no_own}
use Rattle.mh_lint.proofs.IsBeforeFile.{declarations_next, declarations_within, uses_next}

-- The uses and the lines after the first i mentions of a file.
pub record IsWalked (c : Checked) (ms : List Mention) (all : List ℕ) (i : ℕ) (costs : List ℕ) (u : Uses) (old new : List Finding) : Type 0 where
  pub uses : AreUses c.stages c.built c.meanings c.file (take i ms) u
  pub lines : AppendsLines (AreFirstLines c.stages c.built c.meanings c.file ms all i costs) old new

-- The stages do not depend on the number of the file.
pub stages_at : (c : Checked) (files : AcceptedFiles) (n : ℕ) → AreStagesOf c files → AreStagesOf (record c { file = n }) files
stages_at c files n h = record { read = h.read; names = h.names; joined = h.joined; expanded = h.expanded; declarations = h.declarations }

pub shown_at : (c : Checked) (files : AcceptedFiles) (g : Grammar) (shown : ShownByStates) (n : ℕ) → IsShownBy c files g shown → IsShownBy (record c { file = n }) files g shown
shown_at c files g shown n h = record { stages = stages_at c files n h.stages; grammar_is = h.grammar_is; is_shown = h.is_shown }

module _ (c : Checked) (files : AcceptedFiles) where
  -- The first mention of a file.
  pub enter_file : (at k : ℕ) (m : Module) (old new : Uses) → at < length files.read.modules.items → m ≡ get_or files.read.modules.items at m → k ≡ at + 1 → new.tokens.items ≡ old.tokens.items → new.rules.items ≡ old.rules.items → new.levels ≡ old.levels → new.declarations.keys ≡ old.declarations.keys → new.declarations_before ≡ old.declarations_before → new.own.keys ≡ [] → new.actuals.keys ≡ [] → IsBeforeFile c files at old → IsInFile c files k m [] new
  enter_file at k m old new l is number tokens rules levels declarations count own actuals h =
      let p = file_at c.stages.found files.read h.stages.read at l in
      record {
        stages = h.stages;
        number = number ∙ ap (λ n. n + 1) (sym h.file_is);
        placed = p.0;
        of_files = ap (slice_get c.stages.found) h.file_is ∙ p.1;
        module_is = sym (is ∙ module_at c.stages.found files.read h.stages.read at p.0 m p.1);
        uses = record {
          but = subst (λ n. AreUsesBut c.stages c.built c.meanings n [] new) (sym h.file_is) but;
          own = subst (λ ks. HasOwnPrecs [] ks) (sym own) no_own;
          actuals = λ rank item. (λ d. absurd (contains_none _ (subst (λ ks. Contains ks (record { rank = rank; item = item })) actuals d)), λ e. absurd (contains_none e.0 e.1));
        };
      }
    where
      but : AreUsesBut c.stages c.built c.meanings at [] new
      but = record {
        token_flags = ap length tokens ∙ h.uses.token_flags;
        tokens = λ z name e. (λ f. (h.uses.tokens z name e).0 (ap (λ fs. get_or fs z false) (sym tokens) ∙ f), λ f. ap (λ fs. get_or fs z false) tokens ∙ (h.uses.tokens z name e).1 f);
        rule_flags = ap length rules ∙ h.uses.rule_flags;
        rules = λ n r e. (λ f. (h.uses.rules n r e).0 (ap (λ fs. get_or fs n false) (sym rules) ∙ f), λ f. ap (λ fs. get_or fs n false) rules ∙ (h.uses.rules n r e).1 f);
        names = λ x. (λ f. (h.uses.names x).0 (ap (λ (v : UsedLevels). contains same v.names x) (sym levels) ∙ f), λ f. ap (λ (v : UsedLevels). contains same v.names x) levels ∙ (h.uses.names x).1 f);
        alternatives = λ j n. (λ f. (h.uses.alternatives j n).0 (subst (λ (v : UsedLevels). HasPlace v.alternatives.keys (j + 1) n) levels f), λ f. subst (λ (v : UsedLevels). HasPlace v.alternatives.keys (j + 1) n) (sym levels) ((h.uses.alternatives j n).1 f));
        declarations = λ n name. (λ f. (h.uses.declarations n name).0 (subst (λ ks. Contains ks (declared n name)) declarations f), λ f. subst (λ ks. Contains ks (declared n name)) (sym declarations) ((h.uses.declarations n name).1 f));
        declarations_are = count ∙ h.uses.declarations_are;
      }

  module _ (k : ℕ) (m : Module) (first : Uses) (h : IsInFile c files k m [] first) where
    placed_at : (at : ℕ) → k ≡ at + 1 → slice_get c.stages.found at ≡ Some h.placed
    placed_at at number = (let here : c.file ≡ at = (let a = h.number in omega (arith, a, number)) in subst (λ n. slice_get c.stages.found n ≡ Some h.placed) here h.of_files)

    -- A mention of the file.
    pub at_mention : (ms : List Mention) (i : ℕ) (x : Mention) (u : Uses) → ms ≡ h.placed.mentions → i < length ms → x ≡ get_or ms i x → AreUses c.stages c.built c.meanings c.file (take i ms) u → IsBefore c files k m (take i ms) x u
    at_mention ms i x u same l at are = record {
      stages = h.stages;
      number = h.number;
      of_file = record { placed = h.placed; after = drop (suc i) ms; of_files = h.of_files; split = sym same ∙ split_at ms i x l at };
      module_is = h.module_is;
      uses = are;
    }

    -- After the last mention.
    pub after_mentions : (ms : List Mention) (i : ℕ) (u : Uses) → ms ≡ h.placed.mentions → length ms ≤ i → AreUses c.stages c.built c.meanings c.file (take i ms) u → AreUsesAfterFile c u
    after_mentions ms i u is past are p at =
        let same : ms ≡ p.mentions = is ∙ ap (λ (q : PlacedModule). q.mentions) (same_Some _ _ (sym h.of_files ∙ at)) in
        subst (λ ys. AreUses c.stages c.built c.meanings c.file ys u) (take_all i ms past ∙ same) are

    -- The lines of the file.
    pub lines_of_file : (ms : List Mention) (costs : List ℕ) (at : ℕ) (ls : List Line) → ms ≡ h.placed.mentions → costs ≡ h.placed.bad_costs → k ≡ at + 1 → AreFileLines c.stages c.built c.meanings c.file [] ms costs ls → AreLinesOfFileAt c at ls
    lines_of_file ms costs at ls mentions bad number are p is =
        let here : c.file ≡ at = (let a = h.number in omega (arith, a, number)) in
        let placed : h.placed ≡ p = same_Some _ _ (sym h.of_files ∙ ap (slice_get c.stages.found) here ∙ is) in
        subst (λ n. AreFileLines c.stages c.built c.meanings n [] p.mentions p.bad_costs ls) here
        (subst (λ ys. AreFileLines c.stages c.built c.meanings c.file [] ys p.bad_costs ls) (mentions ∙ ap (λ (q : PlacedModule). q.mentions) placed)
        (subst (λ ys. AreFileLines c.stages c.built c.meanings c.file [] ms ys ls) (bad ∙ ap (λ (q : PlacedModule). q.bad_costs) placed) are))

    -- The lists of the file, as they were read.
    pub mentions_are : (at : ℕ) (ms : List Mention) → k ≡ at + 1 → ms ≡ get_or files.read.mentions.items at ms → ms ≡ h.placed.mentions
    mentions_are at ms number is = is ∙ mentions_at c.stages.found files.read h.stages.read at h.placed ms (placed_at at number)

    pub costs_are : (at : ℕ) (costs : List ℕ) → k ≡ at + 1 → costs ≡ get_or files.read.bad_costs.items at costs → costs ≡ h.placed.bad_costs
    costs_are at costs number is = is ∙ costs_at c.stages.found files.read h.stages.read at h.placed costs (placed_at at number)

    -- The uses before the next file.
    pub leave_file : (at : ℕ) (mid new : Uses) → k ≡ at + 1 → AreUsesAfterFile c mid → new.tokens.items ≡ mid.tokens.items → new.rules.items ≡ mid.rules.items → new.levels ≡ mid.levels → new.declarations.keys ≡ mid.declarations.keys → (mid.declarations_before + length m.on_error ≤ length files.joined.on_error → new.declarations_before ≡ mid.declarations_before + length m.on_error) → IsBeforeFile (next_file c) files (at + 1) new
    leave_file at mid new number are tokens rules levels declarations count =
        let here : c.file ≡ at = (let a = h.number in omega (arith, a, number)) in
        let after = are h.placed h.of_files in
        let before : mid.declarations_before ≡ declarations_before c.stages.found c.file = after.but.declarations_are in
        let own : length h.placed.module.on_error ≡ length m.on_error = ap (λ (v : Module). length v.on_error) h.module_is in
        let few = declarations_within c.stages c.built c.meanings c.file h.placed h.of_files in
        let all = h.stages.declarations in
        let next = declarations_next c.stages c.built c.meanings c.file h.placed h.of_files in
        let sum = count (omega (arith, few, all, before, own)) in
        let counted : new.declarations_before ≡ declarations_before c.stages.found (c.file + 1) = omega (arith, sum, next, before, own) in
        record {
          stages = stages_at c files (c.file + 1) h.stages;
          file_is = ap (λ n. n + 1) here;
          uses = subst (λ n. AreUsesBut c.stages c.built c.meanings (n + 1) [] new) here (uses_next c.stages c.built c.meanings c.file h.placed h.of_files mid new after.but tokens rules levels declarations counted);
        }

-- ---- All files.

module _ (c : Checked) (files : AcceptedFiles) (h : AreStagesOf c files) where
  abbrev Of : ℕ × PlacedModule → List Line → Type 0
  Of = AreLinesOfFile c.stages c.built c.meanings

  pub more_files : (at : ℕ) (x y z : List Finding) → at < length files.read.modules.items → AppendsLines (AreInOrder Of (take at (enumerate_from 0 c.stages.found))) x y → AppendsLines (AreLinesOfFileAt (record c { file = at }) at) y z → AppendsLines (AreInOrder Of (take (at + 1) (enumerate_from 0 c.stages.found))) x z
  more_files at x y z l first next =
      let p = file_at c.stages.found files.read h.read at l in
      let one = enumerated c.stages.found at p.0 p.1 in
      appends_more Of (enumerate_from 0 c.stages.found) at (at, p.0) x y z one.0 one.1 first (record { lines = next.lines; are = next.are p.0 p.1; is = next.is })

  pub all_files : (at : ℕ) (x y : List Finding) → length files.read.modules.items ≤ at → AppendsLines (AreInOrder Of (take at (enumerate_from 0 c.stages.found))) x y → AppendsLines (AreInOrder Of (enumerate_from 0 c.stages.found)) x y
  all_files at x y past whole =
      let count = ap length h.read.modules ∙ length-map c.stages.found (λ (p : PlacedModule). p.module) in
      let few : length (enumerate_from 0 c.stages.found) ≤ at = (let n = length-enumerate_from 0 c.stages.found in omega (arith, past, n, count)) in
      subst (λ xs. AppendsLines (AreInOrder Of xs) x y) (take_all at (enumerate_from 0 c.stages.found) few) whole
