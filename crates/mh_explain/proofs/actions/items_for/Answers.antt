use Rattle.std.proofs.Common.{[], ◌∷◌, ◌++◌, ap, rules, ◌∙◌}
use Rattle.std.proofs.lemmas.List.Elements.{All-from_recursion}
use Rattle.mh_grammar.proofs.Lists.{all_at}
use Rattle.mh_grammar.specs.Plain.{plain_of}
use Rattle.mh_items_kernels.specs.Kernels.{IsKernelItem}
use Rattle.mh_tables_core.specs.declared.parts.Place.{Place}
use Rattle.mh_explain.specs.code.ChosenItems.{GivesAction}
use Rattle.mh_explain.proofs.ChosenItems.{chosen_all, chosen_none, item_chosen, item_not_chosen}
use Rattle.mh_explain.proofs.actions.items_for.Goals.{then-has_action+in_ok-push, else-has_action}
use Rattle.mh_explain.proofs.actions.items_for.Goals as goal

pub has_action-requires : goal.has_action-requires
has_action-requires g c =
    let Is = IsKernelItem (plain_of c.args.grammar.now) in (
      search rules,
      (c.requires.fits, (all_at Is c.args.items.now c.loop-item.item-index c.item-item.result (All-from_recursion Is c.args.items.now c.requires.items.items) c.loop-item-test.true c.item-item.is, c.requires.look)),
    )

pub loop-item-init : goal.loop-item-init
loop-item-init g c = rw c.new-places.ensures.items (chosen_none (GivesAction c.args.kind c.args.grammar.now c.args.look))

pub loop-item-preserved : goal.loop-item-preserved
loop-item-preserved g c =
    elim c.if-has_action.branch [
      | then-has_action+in_ok-push w ↦
          rw w.places-is
          (item_chosen (GivesAction c.args.kind c.args.grammar.now c.args.look) c.args.items.now c.loop-item.item-index c.item-item.result c.loop-item-test.true c.item-item.is c.loop-item.places.items _ w.if-has_action.ensures c.requires.items.rising c.loop-item.invariant
          (w.in_ok-push.ensures.items ∙ ap (λ (x : Place). c.loop-item.places.items ++ x ∷ []) (λ i. record { production = w.place_of.ensures.production i; dot = w.place_of.ensures.dot i })))
      | else-has_action w ↦
          rw w.places-is (item_not_chosen (GivesAction c.args.kind c.args.grammar.now c.args.look) c.args.items.now c.loop-item.item-index c.item-item.result c.loop-item-test.true c.item-item.is c.loop-item.places.items w.if-has_action.ensures c.loop-item.invariant)
    ]

pub returns : goal.returns
returns g c = chosen_all (GivesAction c.args.kind c.args.grammar.now c.args.look) c.args.items.now c.loop-item.item-index c.loop-item.places.items c.loop-item-test.false c.loop-item.invariant
