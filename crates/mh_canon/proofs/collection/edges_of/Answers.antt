use Rattle.std.proofs.Common.{◌≡◌, Some, sym, ap, ◌∙◌, rules}
use Rattle.std.specs.List.{slice_get}
use Rattle.std.proofs.lemmas.List.Elements.{All-get_or}
use Rattle.std.proofs.lemmas.Option.{slice_get-get_or}
use Rattle.std.proofs.lemmas.Result.{IfOk-weaker}
use Rattle.mh_grammar.specs.Plain.{plain_of}
use Rattle.mh_canon.specs.code.FoundStates.{IsCanonicalState}
use Rattle.mh_canon.proofs.AreCanonicalStates.{IsStateClosure-close}
use Rattle.mh_canon.proofs.collection.edges_of.Goals as goal

pub moves-requires : goal.moves-requires
moves-requires g c =
    let kernels = c.args.kernels.now.set.keys in
    let k = c.index-all-state.result in
    let is = rw c.all.ensures at c.index-all-state.is in
    let state : IsCanonicalState (plain_of c.args.grammar.now) k = rw is (All-get_or (IsCanonicalState (plain_of c.args.grammar.now)) kernels c.args.state k c.requires.state c.requires.states.each) in
    (search rules, (search rules, (c.requires.fits, (c.requires.mover, state.kernel))))

pub place_all-requires : goal.place_all-requires
place_all-requires g c = (search rules, (search rules, (c.requires.fits.few, (c.requires.states, c.requires.few))))

pub returns-clause-ok : goal.returns-clause-ok
returns-clause-ok g c =
    let kernels = c.args.kernels.now.set.keys in
    let k = c.index-all-state.result in
    let is = rw c.all.ensures at c.index-all-state.is in
    let at : slice_get kernels c.args.state ≡ Some k = slice_get-get_or kernels c.args.state k c.requires.state ∙ ap Some (sym is) in
    let of = c.in_ok-moves.ensures.moves in
    IfOk-weaker c.place_all.result _ _ (λ row places. record { kernel = k; at = at; moves = c.in_ok-moves.moves.items; are_moves = of; edges = places of.closed of.are }) c.place_all.ensures.ok

pub returns-clause-exceeds : goal.returns-clause-exceeds
returns-clause-exceeds g c over =
    let kernels = c.args.kernels.now.set.keys in
    let k = c.index-all-state.result in
    let is = rw c.all.ensures at c.index-all-state.is in
    let state : IsCanonicalState (plain_of c.args.grammar.now) k = rw is (All-get_or (IsCanonicalState (plain_of c.args.grammar.now)) kernels c.args.state k c.requires.state c.requires.states.each) in
    let of = c.in_ok-moves.ensures.moves in
    c.place_all.ensures.exceeds over of.closed (IsStateClosure-close (plain_of c.args.grammar.now) k of.closed state of.valid of.same) of.are
