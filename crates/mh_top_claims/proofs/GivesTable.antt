-- The table that is prepared for an order is the one that the words and the files give, and accepted grammars are those
-- that are prepared and not refused.
use Rattle.std.proofs.Common.{◌≡◌, inl, inr, Bool, true, false, ℕ, List, Option, None, Some, refl, sym, ◌∙◌, ap, subst}
use Rattle.mh_grammar.specs.Costs.{costs_of}
use Rattle.mh_grammar.specs.Text.{Text}
use Rattle.mh_grammar.specs.Plain.{plain_of}
use Rattle.mh_grammar.specs.declared.types.Grammar.{Grammar}
use Rattle.mh_outside.specs.Shelf.{Files, Bytes}
use Rattle.mh_opts.specs.declared.order.Order.{Order}
use Rattle.mh_items_kernels.specs.KernelTypes.{Automaton}
use Rattle.mh_items_kernels.specs.Automaton.{IsAutomaton}
use Rattle.mh_resolve_cells.specs.States.{IsTableOf}
use Rattle.mh_resolve_cells.specs.declared.kinds.Mode.{Mode}
use Rattle.mh_resolve_cells.proofs.OneResolution.{resolved_states_once}
use Rattle.mh_tables_core.specs.declared.parts.StateParts.{StateParts}
use Rattle.mh_tables_core.specs.Table.{TableData}
use Rattle.mh_tabfile.specs.Versions.{with_costs}
use Rattle.mh_tabfile.proofs.Versions.{valid_is_written}
use Rattle.mh_tabfile_form.specs.declared.types.RawTable.{RawTable}
use Rattle.mh_tabfile_form.specs.Form.{IsFileOf, table_text}
use Rattle.mh_tabfile_form.specs.TableContent.{raw_of}
use Rattle.mh_validate_valid.specs.Valid.{AreCostsOf, IsValidFor}
use Rattle.mh_validate_valid.proofs.ValidIsAutomaton.{resolved_of}
use Rattle.mh_top_drive.specs.StageResults.{StageResult, Go, Halt, AfterStage, Then, Gives}
use Rattle.mh_top_drive.specs.FileContents.{IsFileContent, IsFound, IsLoaded}
use Rattle.mh_top_load.specs.Modules.{AreModules, sample_of}
use Rattle.mh_top_load.specs.GrammarStage.{IsGrammarStage}
use Rattle.mh_top_load.specs.Order.{order_result, staged_order}
use Rattle.mh_top_load.specs.OrderAndGrammar.{IsOrderAndGrammar}
use Rattle.mh_top_prepare.specs.AutomatonSources.{IsAutomatonSource, IsAutomatonSourceBy, source_to_build}
use Rattle.mh_top_prepare.specs.ResolvedStage.{IsTabledAutomaton}
use Rattle.mh_top_prepare.specs.TableFileContent.{IsTableFile}
use Rattle.mh_top_prepare.specs.TableStage.{IsAutomatonStage, mode_of}
use Rattle.mh_top_prepare.specs.declared.sources.AutomatonSource.{AutomatonSource}
use Rattle.mh_top_prepare.specs.declared.sources.AutomatonSource.TheVariants.{Canonical, File, Merged}
use Rattle.mh_top_drive.specs.Shapes.{Prepared, TabledAutomaton}
use Rattle.mh_top_drive.specs.declared.front.OrderAndGrammar.{OrderAndGrammar}
use Rattle.mh_top_claims.specs.GivesTable.{GivesTable, IsAccepted, IsAcceptedAutomaton, BuiltMerged, BuiltCanonical, ReadValid, IsAutomatonOf, IsTableFileOf, without_costs}
use Rattle.mh_top_claims.specs.GivesTable as given
use Rattle.mh_top_claims.specs.Preparing.{IsPrepared}
use Rattle.mh_top_claims.proofs.PreparationStages.{found_bytes, grammars_read, grammars_spell, stages}
use Rattle.mh_top_claims.proofs.VerdictClaims.{prepared_runs}

-- ---- The table of a table file.

-- A valid table file has the bytes that are written of its automaton and table.
table_file_of : (g : Grammar) (a : Automaton) (raw : RawTable) (t : TableData) (parts : List StateParts) (bytes : Text) → IsFileOf bytes raw → IsValidFor g raw a parts → IsTableOf g a raw.mode t → IsTableFileOf g a raw.mode t bytes
table_file_of g a raw t parts bytes file valid table = by raw.costs refl valid.header.costs
  where
    whole : with_costs g raw ≡ raw_of g a raw.mode t.states
    whole = valid_is_written g raw a parts valid ∙ ap (raw_of g a raw.mode) (resolved_states_once g a raw.mode parts t.states (resolved_of g raw a parts valid) table.states)

    by : (costs : Option (List ℕ)) → raw.costs ≡ costs → AreCostsOf g costs → IsTableFileOf g a raw.mode t bytes
    by None e is =
        let bare : raw ≡ without_costs (with_costs g raw) = (λ i. record { mode = raw.mode; tokens = raw.tokens; costs = e i; starts = raw.starts; productions = raw.productions; states = raw.states }) in
        inr (file.bytes_are ∙ ap table_text (bare ∙ ap without_costs whole))
    by (Some costs) e is =
        let with_all : raw.costs ≡ Some (costs_of g.tokens) = e ∙ ap Some is in
        let full : raw ≡ with_costs g raw = (λ i. record { mode = raw.mode; tokens = raw.tokens; costs = with_all i; starts = raw.starts; productions = raw.productions; states = raw.states }) in
        inl (file.bytes_are ∙ ap table_text (full ∙ whole))

module _ (files : Option Files) (order : Order) (g : Grammar) (a : Automaton) (t : TableData) (is_automaton : IsAutomaton (plain_of g) a) where
  of_content : (name bytes : Text) (raw : RawTable) → order.tables ≡ Some name → IsFound files name (Bytes bytes) → IsFileOf bytes raw → IsAutomatonStage (File name raw) g (Go a) → IsTableOf g a raw.mode t → IsAutomatonOf files order g a t raw.mode
  of_content name bytes raw named found file stage table = given.OfFile raw.mode name bytes named found is_automaton (table_file_of g a raw t stage.0 bytes file stage.1 table)

  of_table_file : (name : Text) (source : AutomatonSource) → order.tables ≡ Some name → (s : StageResult RawTable) → IsFileContent files IsTableFile name s → AfterStage s (λ raw. Gives (File name raw)) (Go source) → IsAutomatonStage source g (Go a) → IsTableOf g a (mode_of source) t → IsAutomatonOf files order g a t (mode_of source)
  of_table_file name source named (Halt cause) content same = absurd (cc)
  of_table_file name source named (Go raw) content same =
      let one : source ≡ File name raw = cc in
      subst (λ (k : AutomatonSource). IsAutomatonStage k g (Go a) → IsTableOf g a (mode_of k) t → IsAutomatonOf files order g a t (mode_of k)) (sym one) (λ stage table. at content.0 content.1 content.2 stage table)
    where
      at : (read : StageResult Text) → IsLoaded files name read → AfterStage read (IsTableFile name) (Go raw) → IsAutomatonStage (File name raw) g (Go a) → IsTableOf g a raw.mode t → IsAutomatonOf files order g a t raw.mode
      at (Go bytes) loads file stage table = of_content name bytes raw named (found_bytes files name bytes loads) file stage table
      at (Halt cause) loads same stage table = absurd (cc)

  -- The automaton from the source of an order is the automaton of the order.
  of_source : (tables : Option Text) (canonical : Bool) (source : AutomatonSource) → order.tables ≡ tables → order.canonical ≡ canonical → IsAutomatonSourceBy tables canonical files (Go source) → IsAutomatonStage source g (Go a) → IsTableOf g a (mode_of source) t → IsAutomatonOf files order g a t (mode_of source)
  of_source None false source none is from =
      let one : source ≡ Merged = cc in
      subst (λ (k : AutomatonSource). IsAutomatonStage k g (Go a) → IsTableOf g a (mode_of k) t → IsAutomatonOf files order g a t (mode_of k)) (sym one) (λ stage table. given.Merged none is stage.1)
  of_source None true source none is from =
      let one : source ≡ Canonical = cc in
      subst (λ (k : AutomatonSource). IsAutomatonStage k g (Go a) → IsTableOf g a (mode_of k) t → IsAutomatonOf files order g a t (mode_of k)) (sym one) (λ stage table. given.Canonical none is stage.1)
  of_source (Some name) canonical source named is from = of_table_file name source named from.0 from.1 from.2

-- ---- The prepared table is the one that the words and the files give (`GivesTable`).

module _ (words : List Text) (files : Option Files) where
  pub prepared_gives : (p : Prepared) → IsPrepared words files (Go p) → sample_of p.order.job ≡ None → GivesTable words files p.order p.grammar p.tabled.automaton p.tabled.halting
  prepared_gives p is none =
      let s = stages words files p is in
      let back : s.automaton ≡ p.tabled.automaton = sym s.resolved.automaton in
      let stage : IsAutomatonStage s.source p.grammar (Go p.tabled.automaton) = subst (λ (k : Automaton). IsAutomatonStage s.source p.grammar (Go k)) back s.stage in
      let table : IsTableOf p.grammar p.tabled.automaton (mode_of s.source) p.tabled.halting = subst (λ (k : Automaton). IsTableOf p.grammar k (mode_of s.source) p.tabled.halting) back s.resolved.table in
      record {
        order_is = s.order_is;
        grammar = record {
          modules = s.modules;
          joined = s.grammar.joined;
          instances = s.grammar.grammar.expanded;
          spelled = grammars_spell files p.order s.modules none s.read;
          joins = s.grammar.joins.1;
          expands = s.grammar.grammar.expands;
          inlines = s.grammar.grammar.grammar.inlined;
        };
        mode = mode_of s.source;
        automaton = of_source files p.order p.grammar p.tabled.automaton p.tabled.halting (prepared_runs words files p is).consistent.automaton p.order.tables p.order.canonical s.source refl refl s.from stage table;
        table = table;
      }

-- ---- Accepted grammars.

module _ (words : List Text) (files : Option Files) (order : Order) (g : Grammar) (a : Automaton) (t : TableData) where
  -- The source of an accepted automaton.
  record HasSource (mode : Mode) : Type 0 where
    source : AutomatonSource
    from : IsAutomatonSource files order (Go source)
    stage : IsAutomatonStage source g (Go a)
    mode_is : mode_of source ≡ mode

  source_of : (mode : Mode) → IsAcceptedAutomaton files order g a mode → HasSource mode
  source_of mode (BuiltMerged none is few merged) = record {
    source = Merged;
    from = subst (λ (o : Option Text). IsAutomatonSourceBy o order.canonical files (Go Merged)) (sym none) (ap (λ (b : Bool). Go (source_to_build b)) (sym is));
    stage = (few, merged);
    mode_is = refl;
  }
  source_of mode (BuiltCanonical none is few canonical) = record {
    source = Canonical;
    from = subst (λ (o : Option Text). IsAutomatonSourceBy o order.canonical files (Go Canonical)) (sym none) (ap (λ (b : Bool). Go (source_to_build b)) (sym is));
    stage = (few, canonical);
    mode_is = refl;
  }
  source_of mode (ReadValid name bytes raw parts named found file valid) = record {
    source = File name raw;
    from = subst (λ (o : Option Text). IsAutomatonSourceBy o order.canonical files (Go (File name raw))) (sym named) (Go raw, (Go bytes, (Bytes bytes, found, refl), file), refl);
    stage = (parts, valid);
    mode_is = refl;
  }

  module _ (is : IsAccepted words files order g a t) where
    abbrev tabled : TabledAutomaton
    tabled = record { automaton = a; halting = t; conflicts = is.conflicts; mode = is.mode }

    -- The accepted grammar with its order and its table.
    abbrev pub accepted : Prepared
    accepted = record { order = order; grammar = g; tabled = tabled }

    front_is : sample_of order.job ≡ None → IsOrderAndGrammar words files (Go (record { order = order; grammar = g }))
    front_is none =
        let on : staged_order words ≡ Go order = ap order_result is.order_is in
        let front : OrderAndGrammar = record { order = order; grammar = g } in
        subst (λ (s : StageResult Order). AfterStage s (λ o. Then (AreModules files o) (λ modules. Then (IsGrammarStage o.stdlib modules) (λ grammar. Gives (record { order = o; grammar = grammar })))) (Go front)) (sym on)
        (Go is.modules, grammars_read files order is.modules none is.spelled, (Go g, is.grammar, refl))

    pub accepted_prepared : sample_of order.job ≡ None → IsPrepared words files (Go accepted)
    accepted_prepared none =
        let from = source_of is.mode is.automaton in
        let resolved : IsTabledAutomaton (mode_of from.source) g a tabled = record {
          automaton = refl;
          table = subst (λ (mode : Mode). IsTableOf g a mode t) (sym from.mode_is) is.table;
          conflicts = is.are_conflicts;
          halts = is.halts;
          resolved_in = sym from.mode_is;
        } in
        (Go (record { order = order; grammar = g }), front_is none, (Go from.source, from.from, (Go tabled, (Go a, from.stage, resolved), refl)))
