use Rattle.std.proofs.Common.{◌≡◌, refl}
use Rattle.mh_lint.specs.code.LevelUses.{NoPlace}
use Rattle.mh_lint.proofs.AddsUses.{name_added}
use Rattle.mh_lint.proofs.levels.UsedLevels.put_name.Goals as goal

pub returns : goal.returns
returns c =
    let old = c.args.self.now in
    let new = record old { names = c.put_name.new.names } in
    name_added (λ x. x ≡ c.args.name.now) NoPlace old new c.args.name.now c.in_ok-put_name.ensures.names refl refl (λ x e. e) (λ file n p. p)
