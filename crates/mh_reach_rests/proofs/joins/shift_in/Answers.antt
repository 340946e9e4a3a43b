use Rattle.std.proofs.Common.{◌≡◌, ℕ, [], ◌∷◌, ap, sym, ◌∙◌}
use Rattle.std.proofs.lemmas.Result.{on_ok_weaker}
use Rattle.mh_tables_core.specs.Run.{Shifts, run_move_of}
use Rattle.mh_facts.proofs.Edges.{one_shift}
use Rattle.mh_facts.proofs.QueueGains.{gains_by, gains_none}
use Rattle.mh_reach_rests.specs.code.RestRules.{FollowsToken, IsConcluded, after_token}
use Rattle.mh_reach_rests.proofs.RestRanges.{token_range}
use Rattle.mh_reach_rests.proofs.joins.shift_in.Goals as goal

pub returns-then-end-rest : goal.returns-then-end-rest
returns-then-end-rest c =
    let r = c.args.rest.0 in
    let x = c.args.rest.1 in
    let move : run_move_of c.args.table.now c.args.state (x ∷ []) ≡ Shifts c.in-Shift.end = sym (rw c.in-Shift.is at c.choose.ensures) in
    gains_none (FollowsToken c.args.table.now c.args.classes.now r x c.args.state) c.args.queue.now.buckets.items (λ cost o h. c.if-end-rest.true (one_shift c.in-Shift.end r.key.from (sym move ∙ h.0)))

pub conclude-requires-clause-range : goal.conclude-requires-clause-range
conclude-requires-clause-range c =
    let r = c.args.rest.0 in
    let x = c.args.rest.1 in
    let move : run_move_of c.args.table.now c.args.state (x ∷ []) ≡ Shifts r.key.from = sym (rw c.in-Shift.is at c.choose.ensures) ∙ ap (λ (j : ℕ). Shifts j) c.if-end-rest.false in
    rw c.after_token-conclusion.ensures (token_range c.args.table.now c.facts.ensures c.args.classes.now c.requires.classes r c.args.state x c.requires.rest c.requires.state c.requires.symbol move)

pub returns-else-end-rest : goal.returns-else-end-rest
returns-else-end-rest c =
    let t = c.args.table.now in
    let r = c.args.rest.0 in
    let x = c.args.rest.1 in
    let move : run_move_of t c.args.state (x ∷ []) ≡ Shifts r.key.from = sym (rw c.in-Shift.is at c.choose.ensures) ∙ ap (λ (j : ℕ). Shifts j) c.if-end-rest.false in
    on_ok_weaker c.conclude.result
    (gains_by (IsConcluded t c.args.classes.now (after_token t c.args.classes.now r c.args.state x)) (FollowsToken t c.args.classes.now r x c.args.state) c.args.queue.now.buckets.items c.conclude.new.queue.buckets.items (λ cost o h. (move, h)) (λ cost o h. h.1))
    (rw c.after_token-conclusion.ensures at c.conclude.ensures)
