use Rattle.std.proofs.Common.{◌≡◌, append-nil, sym, ◌∙◌, Some, None, subst}
use Rattle.std.proofs.lemmas.Result.{IfOk-weaker}
use Rattle.mh_tables_core.specs.Table.{TableData}
use Rattle.mh_reach.specs.Coming.{FirstComing, ComesWithinMaxCost}
use Rattle.mh_reach_spots.specs.code.Spots.{arrival_at}
use Rattle.mh_reach.specs.code.Candidates.{spot_of}
use Rattle.mh_reach.proofs.ComingLabel.{arrival_sentence, arrival_there, coming_first}
use Rattle.mh_reach.proofs.sentences.Reach.sentence_to.Goals as goal

pub spot_of-spot-requires-clause-sized : goal.spot_of-spot-requires-clause-sized
spot_of-spot-requires-clause-sized c = rw c.table-table.ensures.table c.self.invariant.sized

pub unreachable-requires : goal.unreachable-requires
unreachable-requires c =
    let known = rw (sym c.self.view_is) at c.requires.token in
    let cheap : ComesWithinMaxCost c.self.inside.table.now c.args.state c.args.token = rw (sym c.self.view_is) at c.requires.cheap in
    let k = spot_of c.self.inside.classes c.args.state c.args.token in
    let there = arrival_there c.self.inside.table.now c.self.inside.spots.book c.self.inside.spots.spots c.self.invariant.label_assignment k c.args.state c.args.token (c.self.invariant.comings c.args.state c.args.token known) cheap in
    let e : arrival_at c.self.inside.spots.spots k ≡ None = rw c.spot_of-spot.ensures at (sym c.arrival_at.ensures ∙ c.in-None.is) in
    let y : None ≡ Some there.0 = sym e ∙ there.1 in
    cc

pub sentence_at-requires : goal.sentence_at-requires
sentence_at-requires c =
    let known = rw (sym c.self.view_is) at c.requires.token in
    let cheap : ComesWithinMaxCost c.self.inside.table.now c.args.state c.args.token = rw (sym c.self.view_is) at c.requires.cheap in
    let k = spot_of c.self.inside.classes c.args.state c.args.token in
    let e : arrival_at c.self.inside.spots.spots k ≡ Some c.in-Some.arrival = rw c.spot_of-spot.ensures at (sym c.arrival_at.ensures ∙ c.in-Some.is) in
    let at = arrival_sentence c.self.inside.table.now c.self.inside.spots.book c.self.inside.spots.spots c.self.invariant.label_assignment k c.args.state c.args.token (c.self.invariant.comings c.args.state c.args.token known) cheap c.in-Some.arrival e in
    (at.0, at.2)

pub returns : goal.returns
returns c =
    let known = rw (sym c.self.view_is) at c.requires.token in
    let cheap : ComesWithinMaxCost c.self.inside.table.now c.args.state c.args.token = rw (sym c.self.view_is) at c.requires.cheap in
    let k = spot_of c.self.inside.classes c.args.state c.args.token in
    let e : arrival_at c.self.inside.spots.spots k ≡ Some c.in-Some.arrival = rw c.spot_of-spot.ensures at (sym c.arrival_at.ensures ∙ c.in-Some.is) in
    let at = arrival_sentence c.self.inside.table.now c.self.inside.spots.book c.self.inside.spots.spots c.self.invariant.label_assignment k c.args.state c.args.token (c.self.invariant.comings c.args.state c.args.token known) cheap c.in-Some.arrival e in
    IfOk-weaker c.sentence_at.result _ _ (λ sentence written. (
    let is = written at.0 at.2 in
    subst (λ (t : TableData). FirstComing t sentence.start sentence.tokens c.args.state c.args.token) c.self.view_is (coming_first c.self.inside.table.now c.args.state c.args.token sentence.start sentence.tokens at.0 at.1 cheap is.0 (is.1 ∙ append-nil (at.0).word)))) c.sentence_at.ensures
