use Rattle.std.proofs.Common.{ap, ◌∙◌}
use Rattle.std.specs.Prelude.{◌||◌, ◌==◌, not}
use Rattle.mh_join_names.specs.code.DefiningFiles.{elsewhere_by}
use Rattle.mh_join_parts.proofs.AddsDefiningFile.{AddsDefiningFile-one}
use Rattle.mh_join_parts.proofs.definers.add_definer.Goals as goal

pub returns : goal.returns
returns c = AddsDefiningFile-one c.args.definers.now c.insert.new.self c.args.file c.args.name.now c.with_definer-more.result
    (λ k. c.with_definer-more.ensures k ∙ ap (λ o. elsewhere_by o k || not (c.args.file == k)) (c.copied.ensures ∙ c.get.ensures.value))
    (rw c.in_ok-clone.ensures.cases at c.in_ok-insert.ensures.updates.0)
