use Rattle.std.proofs.Common.{sym, ap, ◌∙◌}
use Rattle.std.specs.Prelude.{◌&&◌, ◌||◌}
use Rattle.std.specs.HashSet.{contains}
use Rattle.mh_join_names.specs.Names.{same}
use Rattle.mh_join_names.proofs.publics.mark_public.Goals as goal

pub returns : goal.returns
returns c = λ x. c.in_ok-put_name.ensures.names x ∙ ap (λ b. contains same c.args.marked.now x || (b && same x c.args.rule.now.name)) (sym c.if-not-rule.false)
