use Rattle.std.proofs.Common.{rules}
use Rattle.std.proofs.lemmas.List.{take_all}
use Rattle.mh_grammar.proofs.Lists.{all_at}
use Rattle.mh_grammar.specs.Plain.{plain_of}
use Rattle.mh_items_kernels.specs.Kernels.{IsKernelItem}
use Rattle.mh_lint_states.proofs.MarkedPairs.{items_more, items_passed, pairs_flags}
use Rattle.mh_lint_states.proofs.comparisons.mark_state.Goals.{then-is_complete, else-is_complete}
use Rattle.mh_lint_states.proofs.comparisons.mark_state.Goals as goal

pub mark_item-requires : goal.mark_item-requires
mark_item-requires g c =
    let Is = IsKernelItem (plain_of c.args.grammar.now) in (
      search rules,
      (c.requires.few, (c.loop-item.invariant.flags, (c.requires.shifts, all_at Is c.args.items.now c.loop-item.item-index c.item-item.result c.requires.items c.loop-item-test.true c.item-item.is))),
    )

pub loop-item-preserved : goal.loop-item-preserved
loop-item-preserved g c =
    let i = c.loop-item.item-index in
    elim c.if-is_complete.branch [
      | then-is_complete w ↦ record {
        pairs = rw w.compared-is (items_more c.args.grammar.now c.args.shifts.now c.args.items.now i c.item-item.result c.loop-item-test.true c.item-item.is c.args.compared.now c.loop-item.compared c.loop-item.invariant.pairs w.mark_item.new.compared (c.is_complete.ensures.0 w.if-is_complete.true) w.mark_item.ensures);
        flags = rw w.compared-is (pairs_flags _ _ _ c.loop-item.compared w.mark_item.new.compared c.loop-item.invariant.flags w.mark_item.ensures);
      }
      | else-is_complete w ↦ record {
        pairs = rw w.compared-is (items_passed c.args.grammar.now c.args.shifts.now c.args.items.now i c.item-item.result c.loop-item-test.true c.item-item.is c.args.compared.now c.loop-item.compared c.loop-item.invariant.pairs (λ is. (let both = c.is_complete.ensures.1 is in let not = w.if-is_complete.false in absurd cc)));
        flags = rw w.compared-is c.loop-item.invariant.flags;
      }
    ]

pub returns : goal.returns
returns g c = rw (take_all c.loop-item.item-index c.args.items.now c.loop-item-test.false) at c.loop-item.invariant.pairs
