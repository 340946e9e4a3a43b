use Rattle.std.proofs.Common.{refl, rules}
use Rattle.std.proofs.lemmas.List.Filters.{dedup_is}
use Rattle.std.proofs.lemmas.Result.{IfOk-weaker}
use Rattle.mh_grammar.specs.Plain.{plain_of}
use Rattle.mh_items.proofs.AreRowsOfMoves.{gathered-ready}
use Rattle.mh_items.proofs.AreMoves.{are_moves}
use Rattle.mh_items.proofs.all_moves.moves.Goals as goal

pub taken-requires : goal.taken-requires
taken-requires g c =
    let ready = gathered-ready (plain_of c.args.grammar.now) c.as_slice.result.now c.gather.new.rows (record { rows = c.gather.new.rows.rows; filled = c.dedup.new.self }) c.sort_unstable.new.self.items c.in_ok-gather.ensures refl c.sort_unstable.ensures.permutation c.sort_unstable.ensures.sorted (dedup_is _ _ _ c.dedup.ensures.filtered) in
    (search rules, (search rules, (c.requires.fits, ready)))

pub returns-clause-moves : goal.returns-clause-moves
returns-clause-moves g c =
    let plain = plain_of c.args.grammar.now in
    let gathered = rw c.as_slice.ensures at c.in_ok-gather.ensures in
    let ready = gathered-ready plain c.args.closed.now.items c.gather.new.rows (record { rows = c.gather.new.rows.rows; filled = c.dedup.new.self }) c.sort_unstable.new.self.items gathered refl c.sort_unstable.ensures.permutation c.sort_unstable.ensures.sorted (dedup_is _ _ _ c.dedup.ensures.filtered) in
    IfOk-weaker c.taken.result _ _ (λ v is. rw is (are_moves plain c.requires.fits.range c.args.closed.now c.requires.kernel _ gathered.rows ready)) c.taken.ensures.moves
