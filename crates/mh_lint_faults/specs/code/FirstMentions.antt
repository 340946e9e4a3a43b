-- The first mention of a kind, in one file and in all files.
use Rattle.std.specs.Prelude.{◌≡◌, ◌++◌, ℕ, List, ◌∷◌, Option, None, Some}
use Rattle.std.specs.List.{Contains}
use Rattle.mh_join_names.specs.Faults.{Meanings}
use Rattle.mh_reader_places.specs.declared.mentions.Mention.{Mention}
use Rattle.mh_reader_places.specs.declared.reading.PlacedModule.{PlacedModule}
use Rattle.mh_lint_findings.specs.declared.findings.Position.{Position}
use Rattle.mh_lint_findings.specs.declared.findings.Position.TheVariants.{InFile}
use Rattle.mh_lint_faults.specs.FaultLines.{IsDefinition, IsFirstDefinition, IsFirstWrongTerm, IsWrongTerm}
use Rattle.mh_rules.specs.declared.joined.Joined.{Joined}
use Rattle.mh_grammar.specs.Text.{Text}

-- The start is that of the first mention that `Is` accepts, or `Is` accepts none.
pub data IsFirstWith (Is : Mention → Type 0) (mentions : List Mention) : Option ℕ → Type 0 where
  none : ((x : Mention) → Contains mentions x → Is x → ⊥) → IsFirstWith Is mentions None
  first : (before after : List Mention) (x : Mention) → mentions ≡ before ++ x ∷ after → ((y : Mention) → Contains before y → Is y → ⊥) → Is x → IsFirstWith Is mentions (Some x.start)

-- The position is that of the first definition of the rule, or no file defines the rule.
pub data IsDefinedAt (w : Meanings) (found : List PlacedModule) (number : ℕ) : Option Position → Type 0 where
  none : ((file : ℕ) (before : List Mention) (x : Mention) → IsDefinition w found file before x number → ⊥) → IsDefinedAt w found number None
  first : (file : ℕ) (before : List Mention) (x : Mention) → IsFirstDefinition w found file before x number → IsDefinedAt w found number (Some (InFile file x.start))

-- The position is that of the first term with this printed name and a wrong number of arguments, or no file has one.
pub data IsWrongAt (found : List PlacedModule) (joined : Joined) (printed : Text) : Option Position → Type 0 where
  none : ((file : ℕ) (before : List Mention) (x : Mention) → IsWrongTerm found joined file before x printed → ⊥) → IsWrongAt found joined printed None
  first : (file : ℕ) (before : List Mention) (x : Mention) → IsFirstWrongTerm found joined file before x printed → IsWrongAt found joined printed (Some (InFile file x.start))
