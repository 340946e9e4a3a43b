-- Constructors of modules and their parts.
use Rattle.std.specs.Prelude.{List, [], Option}
use Rattle.mh_rules.specs.declared.modules.Ref.{Ref}
use Rattle.mh_rules.specs.declared.modules.Actual.{Actual, roll-Actual}
use Rattle.mh_rules.specs.declared.modules.Alternative.{Alternative}
use Rattle.mh_rules.specs.declared.modules.Module.{Module}

abbrev pub applied : Ref → List Actual → Actual
applied r ks = roll-Actual (record { head = r; args = ks })

abbrev pub alternative : List Actual → Option Ref → Alternative
alternative ps p = record { producers = ps; prec = p }

abbrev pub no_module : Module
no_module = record { tokens = []; starts = []; levels = []; on_error = []; rules = [] }
