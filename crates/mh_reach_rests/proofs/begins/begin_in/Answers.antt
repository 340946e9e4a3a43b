use Rattle.std.proofs.Common.{◌≡◌, ℕ, List, arith, subst, sym, true, ◌∙◌}
use Rattle.std.specs.List.{Contains}
use Rattle.std.specs.Prelude.{is_some}
use Rattle.std.proofs.lemmas.Result.{on_ok_weaker}
use Rattle.mh_tables_core.specs.Table.{fallback_of}
use Rattle.mh_facts.proofs.QueueGains.{Below-step, below_begins}
use Rattle.mh_reach_rests.specs.code.RestRules.{IsEndWordOn}
use Rattle.mh_reach_rests.proofs.EndWords.{default_gains}
use Rattle.mh_reach_rests.proofs.begins.begin_in.Goals as goal

pub begin_on_each-requires-clause-tokens : goal.begin_on_each-requires-clause-tokens
begin_on_each-requires-clause-tokens c x there = (c.requires.classes.list_only c.args.state x (subst (λ (l : List ℕ). Contains l x) c.representatives_of-tokens.ensures there)).0

pub returns-then-is_some : goal.returns-then-is_some
returns-then-is_some c =
    let some : is_some (fallback_of c.args.table.now c.args.state) ≡ true = rw c.fallback.ensures at (sym c.is_some.ensures ∙ c.if-is_some.true) in
    on_ok_weaker c.begin_on_each.result (default_gains c.args.table.now c.args.classes.now c.requires.classes c.args.state c.requires.state some c.args.queue.now.buckets.items c.begin_on_each.new.queue.buckets.items) (rw c.representatives_of-tokens.ensures at c.begin_on_each.ensures)

pub loop-token-init : goal.loop-token-init
loop-token-init c = below_begins (IsEndWordOn c.args.table.now c.args.classes.now c.args.state) c.args.queue.now.buckets.items

pub loop-token-preserved : goal.loop-token-preserved
loop-token-preserved c = Below-step (IsEndWordOn c.args.table.now c.args.classes.now c.args.state) c.loop-token.token c.args.queue.now.buckets.items c.loop-token.queue.buckets.items c.begin_on.new.queue.buckets.items c.loop-token.invariant c.in_ok-begin_on.ensures

pub returns : goal.returns
returns c = let e : c.loop-token.token ≡ c.args.table.now.grammar.tokens = (let a = c.loop-token-test.false in let b = c.loop-token.auto.token-end in let d = c.tokens-token-end.ensures in omega arith) in rw e at c.loop-token.invariant
