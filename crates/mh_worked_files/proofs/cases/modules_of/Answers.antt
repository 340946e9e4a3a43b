use Rattle.std.proofs.Common.{sym, subst}
use Rattle.std.proofs.lemmas.List.Elements.{All-push}
use Rattle.mh_rules.specs.Ready.{IsModuleReady, AreModulesReady}
use Rattle.mh_worked_files.proofs.cases.modules_of.Goals as goal

pub loop-file-preserved : goal.loop-file-preserved
loop-file-preserved c =
    let more = All-push IsModuleReady c.loop-file.modules.items c.in_ok-module_of.field-0 c.loop-file.invariant c.in_ok-module_of.ensures in
    subst AreModulesReady (sym c.in_ok-push.ensures.items) more
