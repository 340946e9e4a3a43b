use Rattle.std.proofs.Common.{◌≡◌, ◌≤◌, ◌++◌, ◌∷◌, ◌-◌, ◌+◌, drop, length, sym, ap, ◌∙◌, arith}
use Rattle.std.proofs.lemmas.List.{drop_all, drop_more}
use Rattle.mh_inline_unfold.proofs.double_ended.push_all_front.Goals as goal

pub loop-done-init : goal.loop-done-init
loop-done-init g c = let n : length c.args.items.now ≤ length c.args.items.now - 0 = omega arith in ap (λ l. l ++ c.args.list.now.items) (sym (drop_all (length c.args.items.now - 0) c.args.items.now n))
