use Rattle.std.proofs.Common.{◌≡◌, ◌<◌, ◌≤◌, arith, refl, inl, inr}
use Rattle.mh_facts.specs.Costs.{cap}
use Rattle.mh_reach.proofs.BetterCandidate.{either_first, left_first, right_first}
use Rattle.mh_reach.proofs.candidates.sooner_of.Goals as goal

pub returns-then-left-right : goal.returns-then-left-right
returns-then-left-right c = inl (refl, inl c.if-left-right.true)

pub returns-then-right-left : goal.returns-then-right-left
returns-then-right-left c = inr (refl, inl c.if-right-left.true)

pub returns-then-left-ge-CAP : goal.returns-then-left-ge-CAP
returns-then-left-ge-CAP c =
    let same : c.args.left.cost ≡ c.args.right.cost = (let a = c.if-left-right.false in let b = c.if-right-left.false in omega arith) in
    let ge : cap ≤ c.args.left.cost = (let a = c.if-left-ge-CAP.true in omega arith) in
    either_first c.args.spots.now.book c.args.left c.args.right same ge

pub comes_later-requires-clause-left : goal.comes_later-requires-clause-left
comes_later-requires-clause-left c =
    let lt : c.args.left.cost < cap = (let a = c.if-left-ge-CAP.false in omega arith) in
    c.requires.left lt

pub comes_later-requires-clause-right : goal.comes_later-requires-clause-right
comes_later-requires-clause-right c =
    let lt : c.args.right.cost < cap = (let a = c.if-left-ge-CAP.false in let b = c.if-left-right.false in let d = c.if-right-left.false in omega arith) in
    c.requires.right lt

pub returns-then-branch : goal.returns-then-branch
returns-then-branch c =
    let same : c.args.left.cost ≡ c.args.right.cost = (let a = c.if-left-right.false in let b = c.if-right-left.false in omega arith) in
    right_first c.args.spots.now.book c.args.left c.args.right same _ c.in_ok-comes_later.ensures c.if-branch.true

pub returns-else-branch : goal.returns-else-branch
returns-else-branch c =
    let same : c.args.left.cost ≡ c.args.right.cost = (let a = c.if-left-right.false in let b = c.if-right-left.false in omega arith) in
    left_first c.args.spots.now.book c.args.left c.args.right same _ c.in_ok-comes_later.ensures c.if-branch.false
