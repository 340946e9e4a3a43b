-- A fault that may have been found, as a list.
use Rattle.std.specs.Prelude.{List, [], ◌∷◌, Option, None, Some}
use Rattle.mh_join_names.specs.declared.fault.JoinFault.{JoinFault}

abbrev pub listed : Option JoinFault → List JoinFault
listed None = []
listed (Some fault) = fault ∷ []
