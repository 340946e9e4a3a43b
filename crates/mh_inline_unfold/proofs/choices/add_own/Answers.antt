use Rattle.std.proofs.Common.{◌++◌, ap, ◌∙◌}
use Rattle.mh_inline_unfold.proofs.choices.add_own.Goals as goal

pub returns : goal.returns
returns c = c.in_ok-append.ensures.items ∙ ap (λ l. c.args.all.now.items ++ l) c.with_own-added.ensures
