use Rattle.std.proofs.Common.{◌∙◌}
use Rattle.mh_top_load.proofs.SampleModules.{sample_made, sample_stops}
use Rattle.mh_top_load.proofs.modules.sample_modules.Goals as goal

pub returns-in-Ok : goal.returns-in-Ok
returns-in-Ok c = sample_made c.args.number c.deref.result.now (c.deref.ensures.value ∙ c.in_ok-text.ensures.text) c.in-Ok.made c.in_ok-alone-in-Ok.field-0.items c.in_ok-alone-in-Ok.ensures c.in-Ok.ensures

pub returns : goal.returns
returns c = sample_stops c.args.number c.deref.result.now (c.deref.ensures.value ∙ c.in_ok-text.ensures.text) c.in-Err.stop c.in-Err.ensures
