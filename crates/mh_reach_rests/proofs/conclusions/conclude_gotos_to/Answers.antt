use Rattle.std.proofs.Common.{◌≡◌, ℕ, List, ap, arith, get_or, length, subst}
use Rattle.std.specs.List.{Contains}
use Rattle.std.proofs.lemmas.List.Elements.{Contains-get_or}
use Rattle.mh_grammar.specs.declared.types.Symbol.TheVariants.{N}
use Rattle.mh_grammar.specs.Plain.{lhs_of}
use Rattle.mh_facts.specs.code.TokenClasses.{representatives_at}
use Rattle.mh_facts.proofs.QueueGains.{first_all, first_next}
use Rattle.mh_reach_rests.specs.code.RestRules.{IsGotoOf}
use Rattle.mh_reach_rests.proofs.conclusions.conclude_gotos_to.Goals as goal

pub representatives_of-next-items-requires-clause-state : goal.representatives_of-next-items-requires-clause-state
representatives_of-next-items-requires-clause-state c = c.facts.ensures.each_target c.args.path.key.from (N (lhs_of c.args.table.now.grammar c.args.path.key.production)) c.args.target c.requires.edge

pub conclude_goto-requires-clause-next : goal.conclude_goto-requires-clause-next
conclude_goto-requires-clause-next c =
    let xs = c.representatives_of-next-items.result.now in
    let x = get_or xs c.loop-next.next-index 0 in
    let there : Contains xs x = Contains-get_or xs c.loop-next.next-index 0 c.loop-next-test.true in
    (c.requires.classes.list_only c.args.target x (subst (λ (l : List ℕ). Contains l x) c.representatives_of-next-items.ensures there)).0

pub loop-next-preserved : goal.loop-next-preserved
loop-next-preserved c =
    let same = c.representatives_of-next-items.ensures in
    first_next (IsGotoOf c.args.table.now c.args.classes.now c.args.path c.args.target) (representatives_at c.args.classes.now c.args.target) c.loop-next.next-index 0 c.args.queue.now.buckets.items c.loop-next.queue.buckets.items c.conclude_goto.new.queue.buckets.items
    (rw same at c.loop-next-test.true) c.loop-next.invariant (rw same at c.in_ok-conclude_goto.ensures)

pub returns : goal.returns
returns c =
    let same = c.representatives_of-next-items.ensures in
    first_all (IsGotoOf c.args.table.now c.args.classes.now c.args.path c.args.target) (representatives_at c.args.classes.now c.args.target) c.loop-next.next-index c.args.queue.now.buckets.items c.loop-next.queue.buckets.items
    (let l : length c.representatives_of-next-items.result.now ≡ length (representatives_at c.args.classes.now c.args.target) = ap length same in let a = c.loop-next-test.false in let b = c.loop-next.auto.next-index-end in omega arith) c.loop-next.invariant
