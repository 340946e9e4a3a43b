-- The files of a grammar as their examination finds them: their modules with places, and the stages of an accepted
-- grammar.
use Rattle.std.specs.Prelude.{◌≡◌, ◌++◌, ℕ, Bool, List, ◌∷◌, map, Some, Ok, slice_get}
use Rattle.std.specs.List.{AllZip}
use Rattle.mh_grammar.specs.declared.types.Grammar.{Grammar}
use Rattle.mh_rules.specs.declared.modules.Module.{Module}
use Rattle.mh_rules.specs.declared.joined.Joined.{Joined}
use Rattle.mh_rules.specs.declared.instances.Expanded.{Expanded}
use Rattle.mh_join_names.specs.Joining.{Joins}
use Rattle.mh_expand.specs.Expansion.{IsExpanded}
use Rattle.mh_inline.specs.GrammarOfInstances.{IsGrammarOf}
use Rattle.mh_reader_places.specs.Places.{ReadsPlaced}
use Rattle.mh_reader_places.specs.declared.mentions.Mention.{Mention}
use Rattle.mh_reader_places.specs.declared.reading.PlacedModule.{PlacedModule}
use Rattle.mh_lint_findings.specs.declared.findings.GrammarFile.{GrammarFile}

-- Each file spells a module with these places.
abbrev pub AreRead : List GrammarFile → List PlacedModule → Type 0
AreRead files found = AllZip (λ (f : GrammarFile) (p : PlacedModule). ReadsPlaced f.bytes p) files found

abbrev pub modules_of : List PlacedModule → List Module
modules_of found = map (λ (p : PlacedModule). p.module) found

-- The files, and what they are at each stage of an accepted grammar.
pub record Stages : Type 0 where
  pub found : List PlacedModule
  pub joined : Joined
  pub expanded : Expanded
  pub grammar : Grammar

-- The files are read and joined.
pub record AreJoined (prelude : Bool) (files : List GrammarFile) (found : List PlacedModule) (joined : Joined) : Type 0 where
  pub read : AreRead files found
  pub joins : Joins prelude (modules_of found) (Ok joined)

-- The files have this grammar.
pub record AreAccepted (prelude : Bool) (files : List GrammarFile) (s : Stages) : Type 0 where
  pub joined : AreJoined prelude files s.found s.joined
  pub expanded : IsExpanded s.joined s.expanded
  pub grammar : IsGrammarOf s.expanded s.grammar

-- File `file`, counted from 0, has this mention, and these are the mentions before it.
pub record Mentions (found : List PlacedModule) (file : ℕ) (before : List Mention) (x : Mention) : Type 0 where
  pub placed : PlacedModule
  pub after : List Mention
  pub of_files : slice_get found file ≡ Some placed
  pub split : placed.mentions ≡ before ++ x ∷ after
