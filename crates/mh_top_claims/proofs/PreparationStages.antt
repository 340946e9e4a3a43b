-- The stages of the work that lead to a prepared table, each with its success.
use Rattle.std.proofs.Common.{◌≡◌, ℕ, List, [], ◌∷◌, Option, None, Result, Ok, Err, refl, sym, ap, subst}
use Rattle.std.specs.List.{AllZip}
use Rattle.mh_grammar.specs.Text.{Text}
use Rattle.mh_grammar.specs.declared.types.Grammar.{Grammar}
use Rattle.mh_rules.specs.declared.modules.Module.{Module}
use Rattle.mh_items_kernels.specs.KernelTypes.{Automaton}
use Rattle.mh_front.specs.Stages.{IsGrammarOfModules}
use Rattle.mh_opts.specs.Orders.{order_of}
use Rattle.mh_opts.specs.declared.order.Order.{Order}
use Rattle.mh_opts.specs.declared.order.UsageFault.{UsageFault}
use Rattle.mh_outside.specs.Shelf.{Files, FileFound, NoFile, Long, Bytes}
use Rattle.mh_top_drive.specs.StageResults.{StageResult, Go, Halt, AfterStage, Then, Gives}
use Rattle.mh_top_drive.specs.FileContents.{AreFileContents, IsFileContent, IsFound, IsLoaded, loaded}
use Rattle.mh_top_load.specs.GrammarFile.{IsModule}
use Rattle.mh_top_load.specs.GrammarStage.{IsGrammarStage}
use Rattle.mh_top_load.specs.Modules.{AreModules, AreModulesBy, sample_of}
use Rattle.mh_top_load.specs.Order.{order_result, staged_order}
use Rattle.mh_top_load.specs.OrderAndGrammar.{IsOrderAndGrammar}
use Rattle.mh_top_prepare.specs.AutomatonSources.{IsAutomatonSource}
use Rattle.mh_top_prepare.specs.PreparedStage.{IsPreparedFromFiles, IsPreparedFromSource}
use Rattle.mh_top_prepare.specs.ResolvedStage.{IsResolvedStage, IsTabledAutomaton}
use Rattle.mh_top_prepare.specs.TableStage.{IsAutomatonStage, mode_of}
use Rattle.mh_top_prepare.specs.declared.sources.AutomatonSource.{AutomatonSource}
use Rattle.mh_top_drive.specs.Shapes.{Prepared, TabledAutomaton}
use Rattle.mh_top_drive.specs.declared.front.OrderAndGrammar.{OrderAndGrammar}
use Rattle.mh_top_claims.specs.GivesTable.{HasModule}
use Rattle.mh_top_claims.specs.Preparing.{IsPrepared}

order_is_spelled : (r : Result Order UsageFault) (order : Order) → order_result r ≡ Go order → r ≡ Ok order
order_is_spelled (Ok o) order e = let same : o ≡ order = cc in ap Ok same
order_is_spelled (Err fault) order e = absurd (cc)

-- The bytes that were read are those that the shelf has under the name.
pub found_bytes : (files : Option Files) (name bytes : Text) → IsLoaded files name (Go bytes) → IsFound files name (Bytes bytes)
found_bytes files name bytes is = at is.0 is.1 is.2
  where
    at : (what : FileFound) → IsFound files name what → Go bytes ≡ loaded name what → IsFound files name (Bytes bytes)
    at NoFile found same = absurd (cc)
    at Long found same = absurd (cc)
    at (Bytes read) found same = let one : read ≡ bytes = cc in subst (λ (b : Text). IsFound files name (Bytes b)) one found

-- ---- The modules of the grammar files are those that the files spell (`HasModule`).

module _ (files : Option Files) where
  has_module : (name : Text) (m : Module) → IsFileContent files IsModule name (Go m) → HasModule files name m
  has_module name m is = at is.0 is.1 is.2
    where
      at : (read : StageResult Text) → IsLoaded files name read → AfterStage read (IsModule name) (Go m) → HasModule files name m
      at (Go bytes) loads spells = (bytes, found_bytes files name bytes loads, spells)
      at (Halt cause) loads same = absurd (cc)

  with_rest : (name : Text) (names : List Text) (m : Module) (modules : List Module) → HasModule files name m → ((ms : List Module) → AreFileContents files IsModule names (Go ms) → AllZip (HasModule files) names ms) → (s : StageResult (List Module)) → AreFileContents files IsModule names s
      → AfterStage s (λ xs. Gives (m ∷ xs)) (Go modules) → AllZip (HasModule files) (name ∷ names) modules
  with_rest name names m modules has later (Go ms) are same = let one : modules ≡ m ∷ ms = cc in subst (AllZip (HasModule files) (name ∷ names)) (sym one) (has, later ms are)
  with_rest name names m modules has later (Halt cause) are same = absurd (cc)

  with_first : (name : Text) (names : List Text) (modules : List Module) → ((ms : List Module) → AreFileContents files IsModule names (Go ms) → AllZip (HasModule files) names ms) → (s : StageResult Module) → IsFileContent files IsModule name s
      → AfterStage s (λ x. Then (AreFileContents files IsModule names) (λ xs. Gives (x ∷ xs))) (Go modules) → AllZip (HasModule files) (name ∷ names) modules
  with_first name names modules later (Go m) is more = with_rest name names m modules (has_module name m is) later more.0 more.1 more.2
  with_first name names modules later (Halt cause) is same = absurd (cc)

  files_spell : (names : List Text) (modules : List Module) → AreFileContents files IsModule names (Go modules) → AllZip (HasModule files) names modules
  files_spell [] modules is = let none : modules ≡ [] = cc in subst (AllZip (HasModule files) []) (sym none) tt
  files_spell (name ∷ names) modules is = with_first name names modules (λ ms are. files_spell names ms are) is.0 is.1 is.2

  -- The grammar files of an order that asks for no sample spell its modules.
  pub grammars_spell : (order : Order) (modules : List Module) → sample_of order.job ≡ None → AreModules files order (Go modules) → AllZip (HasModule files) order.grammars modules
  grammars_spell order modules none are = files_spell order.grammars modules (subst (λ (n : Option ℕ). AreModulesBy n files order.grammars (Go modules)) none are)

  -- Files that spell modules are read as these modules.
  read_modules : (names : List Text) (modules : List Module) → AllZip (HasModule files) names modules → AreFileContents files IsModule names (Go modules)
  read_modules [] [] all = refl
  read_modules [] (m ∷ ms) all = absurd all
  read_modules (name ∷ names) [] all = absurd all
  read_modules (name ∷ names) (m ∷ ms) all = (Go m, (Go all.0.0, (Bytes all.0.0, all.0.1, refl), all.0.2), (Go ms, read_modules names ms all.1, refl))

  pub grammars_read : (order : Order) (modules : List Module) → sample_of order.job ≡ None → AllZip (HasModule files) order.grammars modules → AreModules files order (Go modules)
  grammars_read order modules none all = subst (λ (n : Option ℕ). AreModulesBy n files order.grammars (Go modules)) (sym none) (read_modules order.grammars modules all)

-- ---- The stages.

module _ (words : List Text) (files : Option Files) where
  record FrontStages (front : OrderAndGrammar) : Type 0 where
    order_is : order_of words ≡ Ok front.order
    modules : List Module
    read : AreModules files front.order (Go modules)
    grammar : IsGrammarOfModules front.order.stdlib modules front.grammar

  front_stages : (front : OrderAndGrammar) → IsOrderAndGrammar words files (Go front) → FrontStages front
  front_stages front is = at (staged_order words) refl is
    where
      of_grammar : (order : Order) → staged_order words ≡ Go order → (modules : List Module) → AreModules files order (Go modules) → (s : StageResult Grammar) → IsGrammarStage order.stdlib modules s → AfterStage s (λ grammar. Gives (record { order = order; grammar = grammar })) (Go front) → FrontStages front
      of_grammar order on modules are (Go g) stage same =
          let one : front ≡ record { order = order; grammar = g } = cc in
          subst FrontStages (sym one) (record { order_is = order_is_spelled (order_of words) order on; modules = modules; read = are; grammar = stage })
      of_grammar order on modules are (Halt cause) stage same = absurd (cc)

      of_modules : (order : Order) → staged_order words ≡ Go order → (s : StageResult (List Module)) → AreModules files order s → AfterStage s (λ modules. Then (IsGrammarStage order.stdlib modules) (λ grammar. Gives (record { order = order; grammar = grammar }))) (Go front) → FrontStages front
      of_modules order on (Go modules) are rest = of_grammar order on modules are rest.0 rest.1 rest.2
      of_modules order on (Halt cause) are same = absurd (cc)

      at : (s : StageResult Order) → staged_order words ≡ s → AfterStage s (λ order. Then (AreModules files order) (λ modules. Then (IsGrammarStage order.stdlib modules) (λ grammar. Gives (record { order = order; grammar = grammar })))) (Go front) → FrontStages front
      at (Go order) on rest = of_modules order on rest.0 rest.1 rest.2
      at (Halt cause) on same = absurd (cc)

  -- The stages that lead to the prepared table.
  pub record AreStages (p : Prepared) : Type 0 where
    pub order_is : order_of words ≡ Ok p.order
    pub modules : List Module
    pub read : AreModules files p.order (Go modules)
    pub grammar : IsGrammarOfModules p.order.stdlib modules p.grammar
    pub source : AutomatonSource
    pub from : IsAutomatonSource files p.order (Go source)
    pub automaton : Automaton
    pub stage : IsAutomatonStage source p.grammar (Go automaton)
    pub resolved : IsTabledAutomaton (mode_of source) p.grammar automaton p.tabled

  pub stages : (p : Prepared) → IsPrepared words files (Go p) → AreStages p
  stages p is = at is.0 is.1 is.2
    where
      of_table : (front : OrderAndGrammar) → FrontStages front → (source : AutomatonSource) → IsAutomatonSource files front.order (Go source) → (first : StageResult Automaton) → IsAutomatonStage source front.grammar first → (s : StageResult TabledAutomaton) → AfterStage first (IsResolvedStage (mode_of source) front.grammar) s
          → AfterStage s (λ tabled. Gives (record { order = front.order; grammar = front.grammar; tabled = tabled })) (Go p) → AreStages p
      of_table front so source from (Go a) stage (Go x) resolved same =
          let one : p ≡ record { order = front.order; grammar = front.grammar; tabled = x } = cc in
          subst AreStages (sym one) (record {
            order_is = so.order_is;
            modules = so.modules;
            read = so.read;
            grammar = so.grammar;
            source = source;
            from = from;
            automaton = a;
            stage = stage;
            resolved = resolved;
          })
      of_table front so source from (Go a) stage (Halt cause) resolved same = absurd (cc)
      of_table front so source from (Halt cause) stage (Go x) halted same = absurd (cc)
      of_table front so source from (Halt cause) stage (Halt other) halted same = absurd (cc)

      of_source : (front : OrderAndGrammar) → FrontStages front → (s : StageResult AutomatonSource) → IsAutomatonSource files front.order s → AfterStage s (IsPreparedFromSource front) (Go p) → AreStages p
      of_source front so (Go source) from rest = of_table front so source from rest.1.0 rest.1.1 rest.0 rest.1.2 rest.2
      of_source front so (Halt cause) from same = absurd (cc)

      at : (s : StageResult OrderAndGrammar) → IsOrderAndGrammar words files s → AfterStage s (IsPreparedFromFiles files) (Go p) → AreStages p
      at (Go front) here rest = of_source front (front_stages front here) rest.0 rest.1 rest.2
      at (Halt cause) here same = absurd (cc)
