-- Invariants of the grammar of an order: its numbers and costs are in range, the names of its tokens are distinct, its
-- names are those of files, it has a start symbol, and the job of the order is within its limits.
use Rattle.std.proofs.Common.{◌≡◌, ◌<◌, List, Option, Result, Ok, Err, length, ◌∙◌, ap, sym, refl, subst}
use Rattle.std.specs.List.{All}
use Rattle.mh_grammar.specs.declared.types.Grammar.{Grammar}
use Rattle.mh_grammar.specs.Costs.{HaveCosts}
use Rattle.mh_grammar.specs.Plain.{plain_of, IsInRange}
use Rattle.mh_opts.specs.Orders.{IsWithinLimits, order_of}
use Rattle.mh_opts.specs.declared.order.Order.{Order}
use Rattle.mh_opts.specs.declared.order.UsageFault.{UsageFault}
use Rattle.mh_opts.proofs.OrderFiles.{order_limits}
use Rattle.mh_outside.specs.Shelf.{Files}
use Rattle.mh_rules.specs.declared.modules.Module.{Module}
use Rattle.mh_rules.specs.Ready.{AreModulesReady}
use Rattle.mh_front.proofs.GrammarUnique.{has_start, have_costs, in_range}
use Rattle.mh_validate_valid.specs.Valid.{AreTokenNamesDistinct}
use Rattle.mh_grammar.specs.Text.{Text}
use Rattle.mh_top_drive.specs.StageResults.{StageResult, Go, Halt, AfterStage, Then, Gives}
use Rattle.mh_top_load.specs.GrammarNames.{HasFileNames}
use Rattle.mh_top_load.specs.GrammarStage.{IsGrammarStage}
use Rattle.mh_top_load.specs.Modules.{AreModules, sample_of}
use Rattle.mh_top_load.specs.code.CapitalTokens.{HasCapitalTokens}
use Rattle.mh_top_load.specs.code.ModuleNames.{HasWordsAsNames}
use Rattle.mh_top_load.specs.Order.{order_result, staged_order}
use Rattle.mh_top_load.specs.OrderAndGrammar.{IsOrderAndGrammar}
use Rattle.mh_top_drive.specs.declared.front.OrderAndGrammar.{OrderAndGrammar}
use Rattle.mh_top_load.proofs.AreNamesApart.{names_apart}
use Rattle.mh_top_load.proofs.HasFileNames.{has_file_names}
use Rattle.mh_top_load.proofs.AreModulesReady.{modules_capital, modules_named, modules_ready}

pub record IsGrammarReady (g : Grammar) : Type 0 where
  pub range : IsInRange (plain_of g)
  pub start : 0 < length g.starts
  pub costs : HaveCosts g.tokens
  pub distinct_names : AreTokenNamesDistinct g
  pub names : HasFileNames g

staged_limits : (r : Result Order UsageFault) (order : Order) → order_result r ≡ Go order → ((o : Order) → r ≡ Ok o → IsWithinLimits o.job) → IsWithinLimits order.job
staged_limits (Ok o) order e all = let same : o ≡ order = cc in subst (λ (x : Order). IsWithinLimits x.job) same (all o refl)
staged_limits (Err fault) order e all = absurd (cc)

module _ (words : List Text) (files : Option Files) where
  pub front_ready : (front : OrderAndGrammar) → IsOrderAndGrammar words files (Go front) → IsGrammarReady front.grammar
  front_ready front is = at (staged_order words) refl is
    where
      of_grammar : (order : Order) (modules : List Module) → AreModulesReady modules → All HasCapitalTokens modules → All HasWordsAsNames modules → (s : StageResult Grammar) → IsGrammarStage order.stdlib modules s → AfterStage s (λ grammar. Gives (record { order = order; grammar = grammar })) (Go front) → IsGrammarReady front.grammar
      of_grammar order modules some capitals words (Halt cause) stage same = absurd (cc)
      of_grammar order modules some capitals words (Go g) stage same =
          let one : front ≡ record { order = order; grammar = g } = cc in
          subst (λ (f : OrderAndGrammar). IsGrammarReady f.grammar) (sym one) (record {
            range = in_range order.stdlib modules g some stage;
            start = has_start order.stdlib modules g stage;
            costs = have_costs order.stdlib modules g some stage;
            distinct_names = names_apart order.stdlib modules g capitals stage;
            names = has_file_names order.stdlib modules g capitals words stage;
          })

      of_modules : (order : Order) (s : StageResult (List Module)) → AreModules files order s → AfterStage s (λ modules. Then (IsGrammarStage order.stdlib modules) (λ grammar. Gives (record { order = order; grammar = grammar }))) (Go front) → IsGrammarReady front.grammar
      of_modules order (Go modules) are rest =
          of_grammar order modules (modules_ready files (sample_of order.job) order.grammars modules are) (modules_capital files (sample_of order.job) order.grammars modules are)
          (modules_named files (sample_of order.job) order.grammars modules are) rest.0 rest.1 rest.2
      of_modules order (Halt cause) are same = absurd (cc)

      at : (s : StageResult Order) → staged_order words ≡ s → AfterStage s (λ order. Then (AreModules files order) (λ modules. Then (IsGrammarStage order.stdlib modules) (λ grammar. Gives (record { order = order; grammar = grammar })))) (Go front) → IsGrammarReady front.grammar
      at (Go order) on rest = of_modules order rest.0 rest.1 rest.2
      at (Halt cause) on same = absurd (cc)

  pub front_order : (front : OrderAndGrammar) → IsOrderAndGrammar words files (Go front) → staged_order words ≡ Go front.order
  front_order front is = at (staged_order words) refl is
    where
      of_grammar : (order : Order) (s : StageResult Grammar) → AfterStage s (λ grammar. Gives (record { order = order; grammar = grammar })) (Go front) → front.order ≡ order
      of_grammar order (Go g) same = let one : front ≡ record { order = order; grammar = g } = cc in ap (λ (f : OrderAndGrammar). f.order) one
      of_grammar order (Halt cause) same = absurd (cc)

      of_modules : (order : Order) (s : StageResult (List Module)) → AfterStage s (λ modules. Then (IsGrammarStage order.stdlib modules) (λ grammar. Gives (record { order = order; grammar = grammar }))) (Go front) → front.order ≡ order
      of_modules order (Go modules) rest = of_grammar order rest.0 rest.2
      of_modules order (Halt cause) same = absurd (cc)

      at : (s : StageResult Order) → staged_order words ≡ s → AfterStage s (λ order. Then (AreModules files order) (λ modules. Then (IsGrammarStage order.stdlib modules) (λ grammar. Gives (record { order = order; grammar = grammar })))) (Go front) → staged_order words ≡ Go front.order
      at (Go order) on rest = on ∙ ap Go (sym (of_modules order rest.0 rest.2))
      at (Halt cause) on same = absurd (cc)

  pub front_limits : (front : OrderAndGrammar) → IsOrderAndGrammar words files (Go front) → IsWithinLimits front.order.job
  front_limits front is = staged_limits (order_of words) front.order (front_order front is) (order_limits words)
