use Rattle.std.proofs.Common.{◌∷◌, [], sym, ap, ◌∙◌, arith}
use Rattle.std.proofs.lemmas.Result.{on_ok_weaker}
use Rattle.mh_inline_unfold.specs.Unfoldings.{choices, joined}
use Rattle.mh_inline_unfold.proofs.Monoid.{choices-one_right}
use Rattle.mh_inline_unfold.proofs.ChangedUnfoldings.{all_changed}
use Rattle.mh_inline_unfold.proofs.choices.put_part.Goals as goal

pub returns : goal.returns
returns c =
    let items = c.args.all.now.items in
    let last = c.in_ok-last.last in
    on_ok_weaker c.append_to_each.result (λ e. all_changed (λ u. joined u last) c.append_to_each.new.all _ items c.args.all.now.len (omega arith) c.deref_mut.ensures.value e ∙ sym (choices-one_right items last) ∙ ap (λ u. choices items (u ∷ [])) c.in_ok-last.ensures) c.append_to_each.ensures
