-- The files that define a rule of some name.
use Rattle.std.specs.Prelude.{◌≡◌, ◌==◌, ◌&&◌, ◌||◌, ℕ, not, Option, Some, None, Bool, true, false}
use Rattle.std.specs.HashMap.{HashMap, get}
use Rattle.mh_join_names.specs.declared.names.DefiningFiles.{DefiningFiles}
use Rattle.mh_join_names.specs.declared.names.DefiningFiles.TheVariants as definers
use Rattle.mh_grammar.specs.Text.{Text}
use Rattle.mh_join_names.specs.Names.{same}

-- A file other than file k is among these files.
abbrev pub elsewhere_by : Option DefiningFiles → ℕ → Bool
elsewhere_by None k = false
elsewhere_by (Some (definers.One j)) k = not (j == k)
elsewhere_by (Some definers.Several) k = true

-- The new map also says that the given file defines the given names.
pub record AddsDefiningFile {S : Type 0} (file : ℕ) (names : Text → Bool) (old new : HashMap Text DefiningFiles S) : Type 0 where
  pub elsewhere : (k : ℕ) (x : Text) → elsewhere_by (get same new x) k ≡ (elsewhere_by (get same old x) k || (not (file == k) && names x))
