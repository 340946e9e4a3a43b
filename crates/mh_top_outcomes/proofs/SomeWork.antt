-- Proves, as a double negation, that all words and files ask for some work, as each stage of the work has an outcome.
use Rattle.mh_grammar.specs.NotLacking.{NotLacking}
use Rattle.mh_grammar.proofs.NotLacking.{given, chain, decided, tabled}
use Rattle.mh_reader.proofs.SpellsOrSyntaxLine.{read_always}
use Rattle.mh_front.proofs.SomeGrammar.{some_grammar}
use Rattle.mh_canon.proofs.SomeCanonical as canon
use Rattle.mh_pager.proofs.SomeMerged as merging
use Rattle.mh_validate.proofs.SomeParts.{some_parts}
use Rattle.mh_validate.proofs.ValidOrInvalid as valid
use Rattle.mh_tables.proofs.HaltsOrLoops.{halts_or_loops}
use Rattle.mh_tabfile.proofs.FileOrBadLine.{read_or_bad}
use Rattle.mh_top_outcomes.proofs.SomeConflicts.{some_conflicts}
use Rattle.mh_top_claims.proofs.VerdictClaims.{automaton_so}
use Rattle.std.proofs.Common.{◌≡◌, ℕ, ◌+◌, ◌≤◌, inl, inr, Bool, List, [], ◌∷◌, length, Option, Some, None, refl, subst, arith}
use Rattle.std.specs.Prelude.{slice_index_or}
use Rattle.mh_outside.specs.Shelf.{Files, Long, found_file}
use Rattle.mh_grammar.specs.Text.{Text}
use Rattle.mh_grammar.specs.declared.types.Grammar.{Grammar}
use Rattle.mh_grammar.specs.Plain.{plain_of, IsInRange}
use Rattle.mh_lex.proofs.LexesTotal.{lexes_always}
use Rattle.mh_lex.proofs.LexesUnique.{LexesFrom-unique}
use Rattle.mh_rules.specs.declared.modules.Module.{Module}
use Rattle.mh_rules.specs.Ready.{AreModulesReady}
use Rattle.mh_top_drive.specs.StageResults.{StageResult, Go, Halt, AfterStage, Then, Gives}
use Rattle.mh_top_drive.specs.declared.stop.Cause.TheVariants.{Refused}
use Rattle.mh_top_drive.specs.FileContents.{IsFileContent, IsLoaded, AreFileContents}
use Rattle.mh_top_drive.specs.Limits.{file_limit}
use Rattle.mh_opts.specs.declared.order.Order.{Order}
use Rattle.mh_top_load.specs.Order.{staged_order}
use Rattle.mh_top_load.specs.GrammarFile.{IsModule}
use Rattle.mh_top_load.specs.GrammarStage.{IsGrammarStage}
use Rattle.mh_top_load.specs.Modules.{AreModules, AreModulesBy, sample_of, sample_file}
use Rattle.mh_top_load.specs.OrderAndGrammar.{IsOrderAndGrammar}
use Rattle.mh_top_load.specs.Texts.{syntax_error, refusal}
use Rattle.mh_top_load.proofs.AreModulesReady.{modules_ready}
use Rattle.mh_sample.specs.Texts.{grammar_text}
use Rattle.mh_top_drive.specs.declared.front.OrderAndGrammar.{OrderAndGrammar}
use Rattle.mh_top_prepare.specs.AutomatonSources.{IsAutomatonSource, IsAutomatonSourceBy, source_to_build}
use Rattle.mh_top_prepare.specs.TableFileContent.{IsTableFile}
use Rattle.mh_top_prepare.specs.TableFileTexts.{table_fault_line}
use Rattle.mh_top_prepare.specs.declared.sources.AutomatonSource.{AutomatonSource}
use Rattle.mh_top_prepare.specs.declared.sources.AutomatonSource.TheVariants.{Canonical, Merged, File}
use Rattle.mh_tabfile_form.specs.declared.types.RawTable.{RawTable}
use Rattle.mh_tabfile_read.specs.declared.reading.TabFault.TheVariants.{Version, TabShape}
use Rattle.mh_tabfile_read.specs.Reading.{IsOtherVersion}
use Rattle.mh_items_kernels.specs.KernelTypes.{Automaton}
use Rattle.mh_items_kernels.specs.Automaton.{IsAutomaton, kernel_at}
use Rattle.mh_canon.specs.Canonical.{CanonicalExceeds}
use Rattle.mh_canon.specs.Limits.{max_states}
use Rattle.mh_pager.specs.MergeSteps.{MergingExceeds}
use Rattle.mh_tables_core.specs.Table.{TableData, table_data, no_state}
use Rattle.mh_tables_core.specs.declared.parts.StateParts.{StateParts}
use Rattle.mh_resolve_cells.specs.declared.kinds.Mode.{Mode}
use Rattle.mh_resolve_cells.specs.States.{state_of, IsResolved, AreResolved, IsTableOf}
use Rattle.mh_resolve_cells.proofs.AreResolved.{Facts-resolved}
use Rattle.mh_top_prepare.specs.ResolvedStage.{IsResolvedStage}
use Rattle.mh_top_prepare.specs.Loops.{loops_line}
use Rattle.mh_msgfile.specs.Sentences.{token_names}
use Rattle.mh_top_drive.specs.Shapes.{Prepared, TabledAutomaton}
use Rattle.mh_top_prepare.specs.TableStage.{IsAutomatonStage, IsTableStage, mode_of}
use Rattle.mh_top_prepare.specs.TableTexts.{too_many_states, invalid_line}
use Rattle.mh_top_prepare.specs.PreparedStage.{IsPreparedFromSource, IsPreparedFromFiles}
use Rattle.mh_top_prepare.proofs.HasNumberedStates.{source_numbered}
use Rattle.mh_top_claims.specs.Preparing.{IsPrepared}
use Rattle.mh_top_claims.proofs.IsGrammarReady.{IsGrammarReady, front_ready}

pub then_some : {A B : Type 0} (First : StageResult A → Type 0) (Next : A → StageResult B → Type 0) → NotLacking ((f : StageResult A) × First f) → ((x : A) → First (Go x) → NotLacking ((s : StageResult B) × Next x s)) → NotLacking ((s : StageResult B) × Then First Next s)
then_some {A = A} {B = B} First Next some next = chain some (λ f. by f.0 f.1)
  where
    by : (f : StageResult A) → First f → NotLacking ((s : StageResult B) × Then First Next s)
    by (Go x) is = chain (next x is) (λ s. given (s.0, (Go x, is, s.1)))
    by (Halt cause) is = given (Halt cause, (Halt cause, is, refl))

-- Each file, and each list of files, has a result of its stage.

module _ {A : Type 0} (Stage : Text → Text → StageResult A → Type 0) (some : (name bytes : Text) → NotLacking ((s : StageResult A) × Stage name bytes s)) where
  loads : (files : Option Files) (name : Text) → (s : StageResult Text) × IsLoaded files name s
  loads None name = (_, (Long, tt, refl))
  loads (Some fs) name = (_, (found_file fs name file_limit, refl, refl))

  some_file : (files : Option Files) (name : Text) → NotLacking ((s : StageResult A) × IsFileContent files Stage name s)
  some_file files name = then_some (IsLoaded files name) (Stage name) (given (loads files name)) (λ bytes is. some name bytes)

  some_files : (files : Option Files) (names : List Text) → NotLacking ((s : StageResult (List A)) × AreFileContents files Stage names s)
  some_files files [] = given (Go [], refl)
  some_files files (name ∷ names) = then_some (IsFileContent files Stage name) (λ x. Then (AreFileContents files Stage names) (λ xs. Gives (x ∷ xs))) (some_file files name) (λ x is. then_some (AreFileContents files Stage names) (λ xs. Gives (x ∷ xs)) (some_files files names) (λ xs are. given (Go (x ∷ xs), refl)))

some_module : (name bytes : Text) → NotLacking ((s : StageResult Module) × IsModule name bytes s)
some_module name bytes = elim (read_always (λ b. lexes_always b) (λ b one two f g x y. LexesFrom-unique x y) bytes) [
  | inl m ↦ given (Go m.0, m.1)
  | inr line ↦ given (Halt (Refused (syntax_error name line.0)), record { line = line.0; stops = line.1; spelled = line.2; cause_is = refl })
]

some_modules_by : (sample : Option ℕ) (files : Option Files) (names : List Text) → NotLacking ((s : StageResult (List Module)) × AreModulesBy sample files names s)
some_modules_by None files names = some_files IsModule some_module files names
some_modules_by (Some number) files names = then_some (IsModule sample_file (grammar_text number)) (λ m. Gives (m ∷ [])) (some_module sample_file (grammar_text number)) (λ m is. given (Go (m ∷ []), refl))

-- The stages up to the grammar have a result.

some_grammar_stage : (prelude : Bool) (modules : List Module) → AreModulesReady modules → NotLacking ((s : StageResult Grammar) × IsGrammarStage prelude modules s)
some_grammar_stage prelude modules ready = chain (some_grammar prelude modules ready) (λ r. elim r [
  | inl g ↦ given (Go g.0, g.1)
  | inr fault ↦ given (Halt (Refused (refusal fault.0)), (fault.0, fault.1, refl))
])

some_front : (words : List Text) (files : Option Files) → NotLacking ((s : StageResult OrderAndGrammar) × IsOrderAndGrammar words files s)
some_front words files = at (staged_order words)
  where
    at : (o : StageResult Order) → NotLacking ((s : StageResult OrderAndGrammar) × AfterStage o (λ order. Then (AreModules files order) (λ modules. Then (IsGrammarStage order.stdlib modules) (λ grammar. Gives (record { order = order; grammar = grammar })))) s)
    at (Halt cause) = given (Halt cause, refl)
    at (Go order) = then_some (AreModules files order) (λ modules. Then (IsGrammarStage order.stdlib modules) (λ grammar. Gives (record { order = order; grammar = grammar }))) (some_modules_by (sample_of order.job) files order.grammars) (λ modules are.
        then_some (IsGrammarStage order.stdlib modules) (λ grammar. Gives (record { order = order; grammar = grammar })) (some_grammar_stage order.stdlib modules (modules_ready files (sample_of order.job) order.grammars modules are)) (λ g is. given (Go (record { order = order; grammar = g }), refl)))

-- The stages up to the table have a result.

some_table_file : (name bytes : Text) → NotLacking ((s : StageResult RawTable) × IsTableFile name bytes s)
some_table_file name bytes = elim (read_or_bad bytes) [
  | inl raw ↦ given (Go raw.0, raw.1)
  | inr line ↦ chain (decided (IsOtherVersion bytes)) (λ d. elim d [
    | inl other ↦ given (Halt (Refused (table_fault_line name Version)), record { fault = Version; has_fault = other; cause_is = refl })
    | inr not ↦ given (Halt (Refused (table_fault_line name (TabShape line.0))), record { fault = TabShape line.0; has_fault = (not, line.1); cause_is = refl })
  ])
]

some_source : (files : Option Files) (tables : Option Text) (canonical : Bool) → NotLacking ((s : StageResult AutomatonSource) × IsAutomatonSourceBy tables canonical files s)
some_source files None canonical = given (Go (source_to_build canonical), refl)
some_source files (Some name) canonical = then_some (IsFileContent files IsTableFile name) (λ raw. Gives (File name raw)) (some_file IsTableFile some_table_file files name) (λ raw is. given (Go (File name raw), refl))

module _ (g : Grammar) (range : IsInRange (plain_of g)) where
  few_starts : length g.starts ≤ max_states
  few_starts = let l = range.few_starts in omega (arith, l)

  some_automaton : (source : AutomatonSource) → NotLacking ((s : StageResult Automaton) × IsAutomatonStage source g s)
  some_automaton Merged = chain (decided (MergingExceeds (plain_of g) max_states)) (λ d. elim d [
    | inl over ↦ given (Halt (Refused too_many_states), (over, refl))
    | inr not ↦ chain (merging.merged_or_exceeds (plain_of g) range max_states few_starts) (λ r. elim r [ inl a ↦ given (Go a.0, (not, a.1)) | inr over ↦ absurd (not over) ])
  ])
  some_automaton Canonical = chain (decided (CanonicalExceeds (plain_of g) max_states)) (λ d. elim d [
    | inl over ↦ given (Halt (Refused too_many_states), (over, refl))
    | inr not ↦ chain (canon.canonical_or_exceeds (plain_of g) max_states range few_starts) (λ r. elim r [ inl a ↦ given (Go a.0, (not, a.1)) | inr over ↦ absurd (not over) ])
  ])
  some_automaton (File name raw) = chain (valid.valid_or_invalid g raw) (λ r. elim r [
    | inl v ↦ given (Go v.0, (v.1, v.2))
    | inr i ↦ given (Halt (Refused (invalid_line name i.0 i.1)), record { state = i.0; reason = i.1; first = i.2; cause_is = refl })
  ])

module _ (mode : Mode) (g : Grammar) (a : Automaton) (ready : IsGrammarReady g) (automaton : IsAutomaton (plain_of g) a) where
  some_states : NotLacking ((states : List StateParts) × AreResolved g a mode states)
  some_states = chain (tabled no_state (λ s parts. IsResolved mode (state_of g a s) (kernel_at a s) parts) 0 (length a.kernels) (λ i l. some_parts mode (state_of g a (0 + i)) (kernel_at a (0 + i)))) (λ t. given (
    t.0,
    record {
      count = t.1;
      each = λ s l. subst (λ (k : ℕ). IsResolved mode (state_of g a k) (kernel_at a k) (slice_index_or t.0 s no_state)) (let e : 0 + s ≡ s = omega arith in e) (t.2 s l);
    },
  ))

  some_resolved : NotLacking ((s : StageResult TabledAutomaton) × IsResolvedStage mode g a s)
  some_resolved = chain some_states (λ states.
      let t : TableData = table_data g states.0 in
      let table : IsTableOf g a mode t = record { grammar = refl; costs = refl; states = states.1 } in
      elim (halts_or_loops t (Facts-resolved g a mode states.0 ready.range ready.costs automaton states.1)) [
        | inl halts ↦ chain (some_conflicts g a ready.range automaton) (λ c. given (Go (record { automaton = a; halting = t; conflicts = c.0; mode = mode }), record { automaton = refl; table = table; conflicts = c.1; halts = halts; resolved_in = refl }))
        | inr l ↦ given (Halt (Refused (loops_line (token_names g) l.0 l.1 l.2)), record { found = t; table = table; below = l.0; state = l.1; look = l.2; loops = l.3; cause_is = refl })
      ])

pub some_tabled : (files : Option Files) (front : OrderAndGrammar) → IsGrammarReady front.grammar → NotLacking ((s : StageResult Prepared) × IsPreparedFromFiles files front s)
some_tabled files front ready = then_some (IsAutomatonSource files front.order) (IsPreparedFromSource front) (some_source files front.order.tables front.order.canonical) (λ source is.
    then_some (IsTableStage source front.grammar) (λ tabled. Gives (record { order = front.order; grammar = front.grammar; tabled = tabled }))
    (then_some (IsAutomatonStage source front.grammar) (IsResolvedStage (mode_of source) front.grammar) (some_automaton front.grammar ready.range source) (λ a stage.
    some_resolved (mode_of source) front.grammar a ready (automaton_so source front.grammar a ready.range (source_numbered files front.order.tables front.order.canonical source is) stage)))
    (λ t is. given (Go (record { order = front.order; grammar = front.grammar; tabled = t }), refl)))

pub some_prepared : (words : List Text) (files : Option Files) → NotLacking ((s : StageResult Prepared) × IsPrepared words files s)
some_prepared words files = then_some (IsOrderAndGrammar words files) (IsPreparedFromFiles files) (some_front words files) (λ front is. some_tabled files front (front_ready words files front is))
