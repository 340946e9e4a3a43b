use Rattle.std.proofs.Common.{◌++◌, ◌∷◌, [], take, map, sym, ap, ◌∙◌, arith}
use Rattle.std.proofs.lemmas.List.{take_more, take_all}
use Rattle.mh_inline_unfold.specs.Unfoldings.{choices, joined}
use Rattle.mh_inline_unfold.proofs.Monoid.{choices-push}
use Rattle.mh_inline_unfold.proofs.choices.all_choices.Goals as goal

pub loop-first-init : goal.loop-first-init
loop-first-init c = c.new-all.ensures.items

pub loop-first-preserved : goal.loop-first-preserved
loop-first-preserved c =
    let us = c.args.left.now in
    let i = c.loop-first.first-index in
    let u = c.first-item.result in
    let more = take_more us i u c.loop-first-test.true ∙ ap (λ v. take i us ++ v ∷ []) (sym c.first-item.is) in
    c.in_ok-add_joined_with_each.ensures ∙ ap (λ l. l ++ map (joined u) c.args.right.now) c.loop-first.invariant ∙ sym (choices-push (take i us) u c.args.right.now) ∙ ap (λ l. choices l c.args.right.now) (sym more)

pub returns : goal.returns
returns c = c.loop-first.invariant ∙ ap (λ l. choices l c.args.right.now) (take_all c.loop-first.first-index c.args.left.now (omega arith))
