-- The result of the stages up to the grammar is unique over known files.
use Rattle.std.proofs.Common.{ℕ, Bool, List, [], ◌∷◌, Option, None, Some, sym, ◌∙◌, ap}
use Rattle.mh_outside.specs.Shelf.{Files}
use Rattle.mh_front.proofs.GrammarUnique.{one_grammar, one_fault, not_grammar_and_fault}
use Rattle.mh_rules.specs.declared.modules.Module.{Module}
use Rattle.mh_sample.specs.Texts.{grammar_text}
use Rattle.mh_reader_parser.proofs.SyntaxLine.{syntax_line_unique, spelled_module_unique}
use Rattle.mh_grammar.specs.Text.{Text}
use Rattle.mh_top_drive.specs.StageResults.{StageResult, Go, Halt, Then, Gives}
use Rattle.mh_top_drive.specs.declared.stop.Cause.TheVariants.{Refused}
use Rattle.mh_top_drive.proofs.Then.{IsOne, on_once, then_once}
use Rattle.mh_top_drive.specs.FileContents.{AreFileContents, IsFileContent, IsLoaded}
use Rattle.mh_top_drive.proofs.LoadedUnique.{gives_once, loaded_once}
use Rattle.mh_top_load.specs.Order.{staged_order}
use Rattle.mh_top_load.specs.GrammarFile.{IsModule}
use Rattle.mh_top_load.specs.Modules.{AreModules, AreModulesBy, sample_file, sample_of}
use Rattle.mh_top_load.specs.GrammarStage.{IsGrammarStage}
use Rattle.mh_top_load.specs.Texts.{refusal, syntax_error}
use Rattle.mh_top_load.specs.OrderAndGrammar.{IsOrderAndGrammar}

-- ---- The grammar files determine the modules.

module_once : (name bytes : Text) → IsOne (IsModule name bytes)
module_once name bytes (Go m) (Go n) p q = ap Go (spelled_module_unique bytes m n p q)
module_once name bytes (Go m) (Halt cause) p q = absurd (q.spelled m p)
module_once name bytes (Halt cause) (Go m) p q = absurd (p.spelled m q)
module_once name bytes (Halt cause) (Halt cause') p q =
    ap Halt (p.cause_is ∙ ap (λ (l : ℕ). Refused (syntax_error name l)) (syntax_line_unique bytes p.line q.line p.stops q.stops) ∙ sym q.cause_is)

-- If the content of each file is unique, so are the contents of known files.
module _ {A : Type 0} (Spelled : Text → Text → StageResult A → Type 0) (once : (name bytes : Text) → IsOne (Spelled name bytes)) (files : Files) where
  content_once : (name : Text) → IsOne (IsFileContent (Some files) Spelled name)
  content_once name = then_once (IsLoaded (Some files) name) (Spelled name) (loaded_once files name) (once name)

  pub contents_once : (names : List Text) → IsOne (AreFileContents (Some files) Spelled names)
  contents_once [] = gives_once []
  contents_once (name ∷ names) =
      then_once (IsFileContent (Some files) Spelled name) (λ x. Then (AreFileContents (Some files) Spelled names) (λ xs. Gives (x ∷ xs))) (content_once name)
      (λ x. then_once (AreFileContents (Some files) Spelled names) (λ xs. Gives (x ∷ xs)) (contents_once names) (λ xs. gives_once (x ∷ xs)))

modules_once : (files : Files) (sample : Option ℕ) (names : List Text) → IsOne (AreModulesBy sample (Some files) names)
modules_once files None names = contents_once IsModule module_once files names
modules_once files (Some number) names = then_once (IsModule sample_file (grammar_text number)) (λ m. Gives (m ∷ [])) (module_once sample_file (grammar_text number)) (λ m. gives_once (m ∷ []))

-- ---- The modules determine the grammar, or the cause of the refusal.

grammar_once : (prelude : Bool) (modules : List Module) → IsOne (IsGrammarStage prelude modules)
grammar_once prelude modules (Go g) (Go h) p q = ap Go (one_grammar prelude modules g h p q)
grammar_once prelude modules (Go g) (Halt cause) p q = absurd (not_grammar_and_fault prelude modules g q.0 p q.1)
grammar_once prelude modules (Halt cause) (Go g) p q = absurd (not_grammar_and_fault prelude modules g p.0 q p.1)
grammar_once prelude modules (Halt cause) (Halt cause') p q =
    ap Halt (p.2 ∙ ap (λ f. Refused (refusal f)) (one_fault prelude modules p.0 q.0 p.1 q.1) ∙ sym q.2)

-- ---- The words and the files determine the result of all stages up to the grammar.

pub order_and_grammar_once : (words : List Text) (files : Files) → IsOne (IsOrderAndGrammar words (Some files))
order_and_grammar_once words files =
    on_once (staged_order words) (λ order. Then (AreModules (Some files) order) (λ modules. Then (IsGrammarStage order.stdlib modules) (λ grammar. Gives (record { order = order; grammar = grammar }))))
    (λ order. then_once (AreModules (Some files) order) (λ modules. Then (IsGrammarStage order.stdlib modules) (λ grammar. Gives (record { order = order; grammar = grammar }))) (modules_once files (sample_of order.job) order.grammars)
    (λ modules. then_once (IsGrammarStage order.stdlib modules) (λ grammar. Gives (record { order = order; grammar = grammar })) (grammar_once order.stdlib modules) (λ grammar. gives_once (record { order = order; grammar = grammar }))))
