-- The prepared table has a source, and the prepared grammar meets the preconditions of the table.
use Rattle.std.proofs.Common.{◌≡◌, List, Option, None, sym, subst}
use Rattle.mh_opts.specs.Orders.{IsWithinLimits}
use Rattle.mh_opts.specs.declared.order.Order.{Order}
use Rattle.mh_outside.specs.Shelf.{Files}
use Rattle.mh_grammar.specs.Text.{Text}
use Rattle.mh_top_drive.specs.StageResults.{StageResult, Go, Halt, AfterStage, Gives}
use Rattle.mh_top_load.specs.Order.{staged_order}
use Rattle.mh_top_load.specs.OrderAndGrammar.{IsOrderAndGrammar}
use Rattle.mh_top_drive.specs.declared.front.OrderAndGrammar.{OrderAndGrammar}
use Rattle.mh_top_claims.proofs.IsGrammarReady.{IsGrammarReady, front_limits, front_order, front_ready}
use Rattle.mh_top_drive.specs.Shapes.{Prepared, TabledAutomaton}
use Rattle.mh_top_claims.specs.Preparing.{IsPrepared}
use Rattle.mh_top_prepare.specs.PreparedStage.{IsPreparedFromSource, IsPreparedFromFiles}
use Rattle.mh_top_prepare.specs.code.SourceFacts.{IsBuilt, HasNumberedStates}
use Rattle.mh_top_prepare.specs.TableStage.{IsTableStage}
use Rattle.mh_top_prepare.specs.AutomatonSources.{IsAutomatonSource}
use Rattle.mh_top_prepare.specs.declared.sources.AutomatonSource.{AutomatonSource}
use Rattle.mh_top_prepare.proofs.HasNumberedStates.{source_built, source_numbered}

module _ (words : List Text) (files : Option Files) where
  -- The source of the automaton, and the invariants of the grammar.
  pub record IsMade (p : Prepared) : Type 0 where
    pub order : staged_order words ≡ Go p.order
    pub source : AutomatonSource
    pub numbered : HasNumberedStates source
    pub built : ((order : Order) → staged_order words ≡ Go order → order.tables ≡ None) → IsBuilt source
    pub ready : IsGrammarReady p.grammar
    pub limits : IsWithinLimits p.order.job
    pub stage : IsTableStage source p.grammar (Go p.tabled)

  pub made : (p : Prepared) → IsPrepared words files (Go p) → IsMade p
  made p is = at is.0 is.1 is.2
    where
      of_table : (front : OrderAndGrammar) → IsOrderAndGrammar words files (Go front) → (source : AutomatonSource) → IsAutomatonSource files front.order (Go source) → (s : StageResult TabledAutomaton) → IsTableStage source front.grammar s
          → AfterStage s (λ tabled. Gives (record { order = front.order; grammar = front.grammar; tabled = tabled })) (Go p) → IsMade p
      of_table front here source from (Halt cause) stage same = absurd (cc)
      of_table front here source from (Go x) stage same =
          let one : p ≡ record { order = front.order; grammar = front.grammar; tabled = x } = cc in
          subst IsMade (sym one) (record {
            order = front_order words files front here;
            source = source;
            numbered = source_numbered files front.order.tables front.order.canonical source from;
            built = λ none. source_built files front.order.tables front.order.canonical source (none front.order (front_order words files front here)) from;
            ready = front_ready words files front here;
            limits = front_limits words files front here;
            stage = stage;
          })

      of_source : (front : OrderAndGrammar) → IsOrderAndGrammar words files (Go front) → (s : StageResult AutomatonSource) → IsAutomatonSource files front.order s → AfterStage s (IsPreparedFromSource front) (Go p) → IsMade p
      of_source front here (Go source) from rest = of_table front here source from rest.0 rest.1 rest.2
      of_source front here (Halt cause) from same = absurd (cc)

      at : (s : StageResult OrderAndGrammar) → IsOrderAndGrammar words files s → AfterStage s (IsPreparedFromFiles files) (Go p) → IsMade p
      at (Go front) here rest = of_source front here rest.0 rest.1 rest.2
      at (Halt cause) here same = absurd (cc)
