-- Lemmas on the stages up to the grammar: the code's result of one stage is a result of all of them together.
use Rattle.std.proofs.Common.{◌≡◌, List, Option, refl, subst, sym}
use Rattle.std.specs.Prelude.{Result, Ok, Err}
use Rattle.mh_grammar.specs.declared.types.Grammar.{Grammar}
use Rattle.mh_opts.specs.declared.order.Order.{Order}
use Rattle.mh_outside.specs.Shelf.{Files}
use Rattle.mh_rules.specs.declared.modules.Module.{Module}
use Rattle.mh_grammar.specs.Text.{Text}
use Rattle.mh_top_drive.specs.StageResults.{StageResult, Go, Halt, AfterStage, Then, Gives}
use Rattle.mh_top_drive.specs.code.StageCalls.{FileStageGives, StageGives}
use Rattle.mh_top_drive.specs.declared.stop.Cause.{Cause}
use Rattle.mh_top_drive.specs.declared.stop.Stop.{Stop}
use Rattle.mh_top_drive.specs.declared.stop.Stop.TheVariants.{Halted, ShelfFailed, InputFailed, WriteFailed, OutOfMemory}
use Rattle.mh_top_drive.proofs.Then.{names_wider, no_names, then_on, then_stops}
use Rattle.mh_top_drive.specs.NextFile.{IsNextFile}
use Rattle.mh_top_load.specs.Order.{staged_order}
use Rattle.mh_top_load.specs.GrammarFile.{IsModule}
use Rattle.mh_top_load.specs.Modules.{AreModules, grammar_files}
use Rattle.mh_top_load.specs.code.NextGrammarFile.{IsNextGrammarFile}
use Rattle.mh_top_load.specs.GrammarStage.{IsGrammarStage}
use Rattle.mh_top_load.specs.OrderAndGrammar.{IsOrderAndGrammar, IsWithGrammar}
use Rattle.mh_top_drive.specs.declared.front.OrderAndGrammar.{OrderAndGrammar}

-- The grammar of an order.
module _ (files : Option Files) (order : Order) where
  abbrev DueOf : Text → Type 0
  DueOf = IsNextFile files IsModule (grammar_files order)

  abbrev AfterModules : List Module → StageResult OrderAndGrammar → Type 0
  AfterModules modules = Then (IsGrammarStage order.stdlib modules) (λ grammar. Gives (record { order = order; grammar = grammar }))

  pub files_stop : (stop : Stop) → FileStageGives {A = List Module} (AreModules files order) DueOf (Err stop) → FileStageGives {A = OrderAndGrammar} (IsWithGrammar order files) DueOf (Err stop)
  files_stop stop has = then_stops (AreModules files order) AfterModules DueOf stop has

  pub grammar_stops : (modules : List Module) (stop : Stop) → AreModules files order (Go modules) → StageGives (IsGrammarStage order.stdlib modules) (Err stop) → FileStageGives {A = OrderAndGrammar} (IsWithGrammar order files) DueOf (Err stop)
  grammar_stops modules stop are has =
      then_on (AreModules files order) AfterModules DueOf modules (Err stop) are
      (then_stops (IsGrammarStage order.stdlib modules) (λ grammar. Gives (record { order = order; grammar = grammar })) DueOf stop (no_names (IsGrammarStage order.stdlib modules) DueOf (Err stop) has))

  pub front_made : (modules : List Module) (grammar : Grammar) → AreModules files order (Go modules) → IsGrammarStage order.stdlib modules (Go grammar) → IsWithGrammar order files (Go (record { order = order; grammar = grammar }))
  front_made modules grammar are is = (Go modules, are, (Go grammar, is, refl))

-- The grammar of the order that words spell.
module _ (words : List Text) (files : Option Files) where
  abbrev Due : Text → Type 0
  Due = IsNextGrammarFile words files

  abbrev AfterOrder : Order → StageResult OrderAndGrammar → Type 0
  AfterOrder order = IsWithGrammar order files

  -- If the words spell the order, the result of the later stages is one of all stages.
  pub of_words : (order : Order) (r : Result OrderAndGrammar Stop) → staged_order words ≡ Go order → FileStageGives (AfterOrder order) (IsNextFile files IsModule (grammar_files order)) r → FileStageGives (IsOrderAndGrammar words files) Due r
  of_words order r on has =
      subst (λ (o : StageResult Order). FileStageGives (λ s. AfterStage o AfterOrder s) Due r) (sym on) (names_wider (AfterOrder order) (IsNextFile files IsModule (grammar_files order)) Due r (λ name turn. (order, on, turn)) has)

  halts_first : (cause : Cause) → staged_order words ≡ Halt cause → IsOrderAndGrammar words files (Halt cause)
  halts_first cause is = subst (λ (o : StageResult Order). AfterStage o AfterOrder (Halt cause)) (sym is) refl

  pub order_stops : (stop : Stop) → StageGives {A = Order} (λ s. staged_order words ≡ s) (Err stop) → FileStageGives {A = OrderAndGrammar} (IsOrderAndGrammar words files) Due (Err stop)
  order_stops (Halted cause) has = halts_first cause has
  order_stops (ShelfFailed name) has = absurd has
  order_stops OutOfMemory has = tt
  order_stops InputFailed has = absurd has
  order_stops WriteFailed has = absurd has
