use Rattle.std.proofs.Common.{◌≡◌, ℕ, ap, sym, refl, ◌∙◌, ◌++◌, ◌∷◌, [], ◌-◌, length, drop, arith}
use Rattle.mh_grammar.specs.Trees.{SyntaxTree}
use Rattle.mh_engine.specs.declared.stack.Cell.{Cell}
use Rattle.mh_engine.specs.code.Cells.{pairs_of, pushed, without_last}
use Rattle.mh_engine.specs.Positions.{Pairs}
use Rattle.mh_engine.proofs.StackSplit.{SplitInvariant-start, SplitInvariant-step, SplitInvariant-not_empty, SplitInvariant-below, SplitInvariant-found}
use Rattle.mh_engine.proofs.stack.Stack.split.Goals as goal

pub loop-init : goal.loop-init
loop-init c = SplitInvariant-start c.args.self.now _ c.in_ok-trees.ensures.items

pub unreachable-requires : goal.unreachable-requires
unreachable-requires c =
    SplitInvariant-not_empty c.loop.counter c.args.count c.args.self.now c.loop.below.now c.loop.trees.items c.loop-test.true c.requires c.loop.invariant
    (ap (λ (p : Pairs). p.trees) (sym c.below.view_is ∙ ap pairs_of c.in-Bottom.is))

pub loop-preserved : goal.loop-preserved
loop-preserved c =
    SplitInvariant-step c.loop.counter c.args.self.now c.loop.below.now c.deref-in-Above.result.now.below c.loop.trees.items c.push.new.self.items c.in-Above.cell.value.state c.in-Above.cell.value.tree
    (ap (λ (x : Cell). pushed x.below c.in-Above.cell.value.state c.in-Above.cell.value.tree) c.deref-in-Above.ensures ∙ ap pairs_of (sym c.in-Above.is) ∙ c.below.view_is)
    (c.in_ok-push-in-Above.ensures.items ∙ ap (λ (t : SyntaxTree). c.loop.trees.items ++ t ∷ []) (c.in_ok-share-in-Above.ensures ∙ ap (λ (x : Cell). x.tree) c.deref.ensures))
    c.loop.invariant

pub returns-clause-below : goal.returns-clause-below
returns-clause-below c =
    let end : c.loop.counter ≡ c.args.count = omega (arith, c.loop-test.false, c.loop.auto.counter-end) in
    c.in_ok-share.ensures ∙ SplitInvariant-below c.loop.counter c.args.self.now c.loop.below.now c.loop.trees.items c.loop.invariant ∙ ap (λ (n : ℕ). without_last n c.args.self.now) end

pub returns-clause-trees : goal.returns-clause-trees
returns-clause-trees c =
    let end : c.loop.counter ≡ c.args.count = omega (arith, c.loop-test.false, c.loop.auto.counter-end) in
    c.reverse.ensures.items ∙ SplitInvariant-found c.loop.counter c.args.self.now c.loop.below.now c.loop.trees.items c.loop.invariant ∙ ap (λ (n : ℕ). drop (length c.args.self.now.trees - n) c.args.self.now.trees) end
