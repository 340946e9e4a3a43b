use Rattle.std.proofs.Common.{◌≡◌, ◌∷◌, ◌++◌, [], sym, ap, ◌∙◌, subst}
use Rattle.std.proofs.lemmas.Option.{slice_get_within}
use Rattle.mh_rules.specs.declared.instances.Part.TheVariants.{Instance as Applied}
use Rattle.mh_inline_unfold.specs.Unfoldings.{choices, Unfolds}
use Rattle.mh_inline.proofs.MovedUnfoldings.{no_items, one_unfolds, known_unfolds, Unfolds-append}
use Rattle.mh_inline.proofs.moving.unfold_to_last.Goals as goal

pub moved_out-requires : goal.moved_out-requires
moved_out-requires c = slice_get_within c.args.known.now.items c.args.number c.requires.last.unfoldings c.requires.last.at

pub moved_out-all-requires : goal.moved_out-all-requires
moved_out-all-requires c = slice_get_within c.args.known.now.items c.args.number c.requires.last.unfoldings c.requires.last.at

pub unfold_side-requires : goal.unfold_side-requires
unfold_side-requires c = rw c.deref.ensures.value c.requires.front

pub returns-then-is_empty-clause-unfolds : goal.returns-then-is_empty-clause-unfolds
returns-then-is_empty-clause-unfolds c =
    let is = c.args.expanded.now.instances in
    let none : c.args.front.now ≡ [] = no_items c.args.front.now (sym c.is_empty.ensures ∙ c.if-is_empty.true) in
    subst (λ l. Unfolds is (l ++ Applied c.args.number ∷ []) c.moved_out.result.items) (sym none) (one_unfolds is (Applied c.args.number) c.moved_out.result.items (known_unfolds is c.args.known.now.items c.args.number c.moved_out.result.items c.requires.last c.moved_out.ensures.taken))

pub returns-clause-unfolds : goal.returns-clause-unfolds
returns-clause-unfolds c =
    let is = c.args.expanded.now.instances in
    let firsts = c.in_ok-firsts.firsts.items in
    let moved = c.moved_out-all.result.items in
    let last = one_unfolds is (Applied c.args.number) moved (known_unfolds is c.args.known.now.items c.args.number moved c.requires.last c.moved_out-all.ensures.taken) in
    subst (Unfolds is (c.args.front.now ++ Applied c.args.number ∷ [])) (sym (c.in_ok-put_in_front.ensures ∙ ap (λ l. choices l moved) c.as_slice.ensures.value)) (Unfolds-append is c.args.front.now (Applied c.args.number ∷ []) firsts moved c.in_ok-firsts.ensures last)
