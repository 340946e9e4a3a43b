use Rattle.std.proofs.Common.{◌≡◌, ◌∷◌, ◌++◌, [], drop, suc, sym, ap, ◌∙◌, subst}
use Rattle.std.proofs.lemmas.Option.{slice_get_within}
use Rattle.std.proofs.lemmas.Result.{IfOk-weaker}
use Rattle.mh_rules.specs.declared.instances.Part.TheVariants.{Instance as Applied}
use Rattle.mh_inline_unfold.specs.Unfoldings.{choices, Unfolds}
use Rattle.mh_inline.proofs.MovedUnfoldings.{no_items, known_prefix, known_rest, side_done, side_ends}
use Rattle.mh_inline.proofs.moving.unfold_around.Goals as goal

pub front_to-front-requires : goal.front_to-front-requires
front_to-front-requires c = slice_get_within c.args.producers.now c.args.last_use.producer (Applied c.args.last_use.number) c.requires.at

pub rest_from-behind-requires : goal.rest_from-behind-requires
rest_from-behind-requires c = slice_get_within c.args.producers.now c.args.last_use.producer (Applied c.args.last_use.number) c.requires.at

pub unfold_to_last-requires-clause-front : goal.unfold_to_last-requires-clause-front
unfold_to_last-requires-clause-front c = rw c.front_to-front.ensures (known_prefix c.args.expanded.now.instances c.args.known.now.items c.args.producers.now c.args.last_use.producer c.requires.known)

pub unfold_to_last-requires-clause-last : goal.unfold_to_last-requires-clause-last
unfold_to_last-requires-clause-last c = c.requires.known.each c.args.last_use.producer c.args.last_use.number c.requires.at c.requires.inlined

pub unfold_side-requires : goal.unfold_side-requires
unfold_side-requires c = rw (c.deref.ensures.value, c.rest_from-behind.ensures) (known_rest c.args.expanded.now.instances c.args.known.now.items c.args.producers.now (suc c.args.last_use.producer) c.requires.known)

pub returns-then-is_empty-clause-unfolds : goal.returns-then-is_empty-clause-unfolds
returns-then-is_empty-clause-unfolds c =
    let is = c.args.expanded.now.instances in
    let Xs = c.args.producers.now in
    let last_use = c.args.last_use in
    let none : drop (suc last_use.producer) Xs ≡ [] = sym c.rest_from-behind.ensures ∙ no_items c.rest_from-behind.result.now (sym c.is_empty.ensures ∙ c.if-is_empty.true) in
    IfOk-weaker c.unfold_to_last.result (λ all. Unfolds is (c.front_to-front.result.now ++ Applied last_use.number ∷ []) all.items) (λ all. Unfolds is Xs all.items) (λ all f. side_ends is Xs last_use.producer last_use.number all.items c.requires.at none (rw c.front_to-front.ensures at f)) c.unfold_to_last.ensures.unfolds

pub returns-clause-unfolds : goal.returns-clause-unfolds
returns-clause-unfolds c =
    let is = c.args.expanded.now.instances in
    let Xs = c.args.producers.now in
    let last_use = c.args.last_use in
    let seconds = c.in_ok-seconds.seconds.items in
    let all = c.in_ok-all.all.items in
    let front = rw c.front_to-front.ensures at c.in_ok-all.ensures.unfolds in
    let rest = rw c.rest_from-behind.ensures at c.in_ok-seconds.ensures in
    subst (Unfolds is Xs) (sym (c.in_ok-put_after.ensures ∙ ap (choices all) c.as_slice.ensures.value)) (side_done is Xs last_use.producer last_use.number all seconds c.requires.at front rest)
