-- The grammar of accepted files is ready for an automaton: its numbers are in range, it has a start symbol, and its
-- tokens have costs and distinct names.
use Rattle.std.proofs.Common.{◌<◌, ◌≤◌, Bool, List, [], ◌∷◌, length}
use Rattle.std.specs.List.{All}
use Rattle.std.proofs.lemmas.List.Elements.{All-cons, All-nil}
use Rattle.mh_front.proofs.GrammarUnique.{few_tokens, has_start, have_costs, in_range}
use Rattle.mh_front.specs.Stages.{IsGrammarOfModules}
use Rattle.mh_grammar.specs.Costs.{HaveCosts}
use Rattle.mh_grammar.specs.Plain.{plain_of, IsInRange}
use Rattle.mh_grammar.specs.Text.{Text}
use Rattle.mh_lint_faults.specs.Stages.{AreAccepted, AreRead, Stages, modules_of}
use Rattle.mh_lint_findings.specs.declared.findings.GrammarFile.{GrammarFile}
use Rattle.mh_reader_parser.proofs.ModuleReady.{spelled_ready}
use Rattle.mh_reader_parser.specs.Spelling.{Spells}
use Rattle.mh_reader_places.specs.declared.reading.PlacedModule.{PlacedModule}
use Rattle.mh_rules.specs.Limits.{max_tokens}
use Rattle.mh_rules.specs.Ready.{AreModulesReady, IsModuleReady}
use Rattle.mh_rules.specs.declared.modules.Module.{Module}
use Rattle.mh_top_load.proofs.AreModulesReady.{spelled_capitals}
use Rattle.mh_top_load.proofs.AreNamesApart.{names_apart}
use Rattle.mh_top_load.specs.code.CapitalTokens.{HasCapitalTokens}
use Rattle.mh_validate_valid.specs.Valid.{AreTokenNamesDistinct}

-- A property of all modules that bytes spell is one of all modules that are read.
pub read_modules : (P : Module → Type 0) → ((bytes : Text) (m : Module) → Spells bytes m → P m) → (files : List GrammarFile) (found : List PlacedModule) → AreRead files found → All P (modules_of found)
read_modules P each [] [] read = All-nil P
read_modules P each [] (p ∷ ps) read = absurd read
read_modules P each (f ∷ fs) [] read = absurd read
read_modules P each (f ∷ fs) (p ∷ ps) read =
    All-cons P p.module (modules_of ps) (each f.bytes p.module (read.0.lexemes, read.0.lexes, read.0.file)) (read_modules P each fs ps read.1)

pub modules_ready : (files : List GrammarFile) (found : List PlacedModule) → AreRead files found → AreModulesReady (modules_of found)
modules_ready files found read = read_modules IsModuleReady spelled_ready files found read

module _ (prelude : Bool) (files : List GrammarFile) (s : Stages) (accepted : AreAccepted prelude files s) where
  pub of_modules : IsGrammarOfModules prelude (modules_of s.found) s.grammar
  of_modules = record { joined = s.joined; joins = accepted.joined.joins; grammar = record { expanded = s.expanded; expands = accepted.expanded; grammar = accepted.grammar } }

  ready : AreModulesReady (modules_of s.found)
  ready = modules_ready files s.found accepted.joined.read

  pub range : IsInRange (plain_of s.grammar)
  range = in_range prelude (modules_of s.found) s.grammar ready of_modules

  pub start : 0 < length s.grammar.starts
  start = has_start prelude (modules_of s.found) s.grammar of_modules

  pub costs : HaveCosts s.grammar.tokens
  costs = have_costs prelude (modules_of s.found) s.grammar ready of_modules

  pub distinct_names : AreTokenNamesDistinct s.grammar
  distinct_names = names_apart prelude (modules_of s.found) s.grammar (read_modules HasCapitalTokens spelled_capitals files s.found accepted.joined.read) of_modules

  pub tokens : length s.grammar.tokens ≤ max_tokens
  tokens = few_tokens prelude (modules_of s.found) s.grammar ready of_modules
