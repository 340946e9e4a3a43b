-- Insertion of a name into a set in which it may not occur already.
use Rattle.std.specs.Prelude.{◌≡◌, ◌||◌, ◌⊎◌, Bool, true, false, Result, Ok, Err}
use Rattle.std.specs.HashSet.{HashSet, contains}
use Rattle.mh_join_names.specs.declared.fault.JoinFault.{JoinFault}
use Rattle.mh_join_names.specs.declared.fault.JoinFault.TheVariants as faults
use Rattle.mh_grammar.specs.Text.{Text}
use Rattle.mh_join_names.specs.Names.{same}

-- The name is new and has been inserted, or it is reported as a duplicate.
abbrev pub InsertsUnique : {S X : Type 0} → HashSet Text S → Text → HashSet Text S → Result X JoinFault → Type 0
InsertsUnique old x new (Ok _) = ((y : Text) → contains same new y ≡ (contains same old y || same y x)) × (contains same old x ≡ false)
InsertsUnique old x new (Err e) = (e ≡ faults.Memory) ⊎ ((e ≡ faults.Duplicate x) × (contains same old x ≡ true))

-- The same if the rule is private; a public rule changes nothing.
abbrev pub InsertsPrivate : {S X : Type 0} → Bool → HashSet Text S → Text → HashSet Text S → Result X JoinFault → Type 0
InsertsPrivate true old x new (Ok _) = new.keys ≡ old.keys
InsertsPrivate true old x new (Err e) = e ≡ faults.Memory
InsertsPrivate false old x new r = InsertsUnique old x new r
