use Rattle.std.proofs.Common.{refl}
use Rattle.std.specs.List.{each_same}
use Rattle.mh_expand.proofs.applications.Application.copied.Goals as goal

pub returns : goal.returns
returns c = rw (each_same c.args.self.now.args c.in_ok-clone.field-0 c.in_ok-clone.ensures.cases) refl
