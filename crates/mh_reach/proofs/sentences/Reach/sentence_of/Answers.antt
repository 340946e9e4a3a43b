use Rattle.std.proofs.Common.{arith, sym, ◌∙◌, Some, None, ap, subst}
use Rattle.std.proofs.lemmas.Result.{IfOk-weaker}
use Rattle.mh_tables_core.specs.Table.{TableData}
use Rattle.mh_tables_core.specs.Failing.{FailsFirst, FailsWithinMaxCost}
use Rattle.mh_reach.specs.code.Candidates.{IsBestCandidate}
use Rattle.mh_reach.proofs.FailsFirst.{best_first, best_numbered, index_at}
use Rattle.mh_reach.proofs.sentences.Reach.sentence_of.Goals as goal

pub unreachable-requires : goal.unreachable-requires
unreachable-requires c =
    let known = rw (sym c.self.view_is) at c.requires.state in
    let cheap : FailsWithinMaxCost c.self.inside.table.now c.args.state = rw (sym c.self.view_is) at c.requires.within_max_cost in
    let at = index_at c.self.inside.best.items c.args.state c.index.result.now (let l = c.self.invariant.len in omega (arith, l, known)) c.index.ensures in
    c.self.invariant.each c.args.state None (at ∙ ap Some c.in-None.is) (cheap.0, cheap.1, cheap.2)

pub sentence_at-requires : goal.sentence_at-requires
sentence_at-requires c =
    let known = rw (sym c.self.view_is) at c.requires.state in
    let cheap : FailsWithinMaxCost c.self.inside.table.now c.args.state = rw (sym c.self.view_is) at c.requires.within_max_cost in
    let at = index_at c.self.inside.best.items c.args.state c.index.result.now (let l = c.self.invariant.len in omega (arith, l, known)) c.index.ensures in
    let ok : IsBestCandidate c.self.inside.table.now c.self.inside.spots.book c.args.state c.in-Some.best = c.self.invariant.each c.args.state (Some c.in-Some.best) (at ∙ ap Some c.in-Some.is) in
    (ok.label, best_numbered c.self.inside.table.now c.self.inside.spots.book c.args.state c.in-Some.best ok cheap)

pub returns : goal.returns
returns c =
    let known = rw (sym c.self.view_is) at c.requires.state in
    let cheap : FailsWithinMaxCost c.self.inside.table.now c.args.state = rw (sym c.self.view_is) at c.requires.within_max_cost in
    let at = index_at c.self.inside.best.items c.args.state c.index.result.now (let l = c.self.invariant.len in omega (arith, l, known)) c.index.ensures in
    let ok : IsBestCandidate c.self.inside.table.now c.self.inside.spots.book c.args.state c.in-Some.best = c.self.invariant.each c.args.state (Some c.in-Some.best) (at ∙ ap Some c.in-Some.is) in
    let number = best_numbered c.self.inside.table.now c.self.inside.spots.book c.args.state c.in-Some.best ok cheap in
    IfOk-weaker c.sentence_at.result _ _ (λ sentence written. (
    let is = written ok.label number in
    subst (λ (t : TableData). FailsFirst t sentence.start sentence.tokens c.args.state) c.self.view_is (best_first c.self.inside.table.now c.self.inside.spots.book c.args.state c.in-Some.best ok cheap sentence.start sentence.tokens is.0 is.1))) c.sentence_at.ensures
