use Rattle.std.proofs.Common.{◌≡◌, ◌≤◌, ◌<◌, ◌⊎◌, ℕ, List, ap, arith, drop, inl, inr, length, length-append, map, refl}
use Rattle.std.proofs.lemmas.Result.{IfOk-weaker}
use Rattle.mh_facts.specs.Costs.{cap}
use Rattle.mh_facts.specs.code.Queues.{row_of}
use Rattle.mh_reach_rests.specs.code.RestNumbers.{KeepsNumbers, token_alone}
use Rattle.mh_reach_rests.proofs.RestNumbers.{between, length_drop, made_known, made_numbered, made_prefix_free, plain_numbered, max_one_of_positive, tokens_alone_length}
use Rattle.mh_reach_rests.proofs.numbering.numbers_of.Goals as goal
use Rattle.mh_reach_rests.proofs.numbering.numbers_of.Goals.{then-cost-eq0-via-then-cost-eq0, then-cost-eq0-via-else-cost-eq0+then-cost-eq-CAP}

pub returns-then-cost-eq0 : goal.returns-then-cost-eq0
returns-then-cost-eq0 c =
    let plain : (c.args.cost ≡ 0) ⊎ (c.args.cost ≡ cap) = elim c.then-cost-eq0.branch [
      | then-cost-eq0-via-then-cost-eq0 w ↦ inl w.if-cost-eq0.true
      | then-cost-eq0-via-else-cost-eq0+then-cost-eq-CAP w ↦ inr w.if-cost-eq-CAP.true
    ] in
    IfOk-weaker c.no_numbers.result _ _ (λ numbers h. plain_numbered c.args.table.now c.facts.ensures c.args.settled.now c.args.words.now c.args.cost c.args.items.now numbers.items c.rising.ensures plain h) c.no_numbers.ensures

apart : (c : goal.After-as_slice) → (0 < c.args.cost) × (c.args.cost < cap)
apart c = between c.args.cost c.requires.most (λ plain. elim plain [ inl none ↦ c.if-cost-eq0.false none | inr most ↦ c.if-cost-eq-CAP.false most ])

pub number_all-requires-clause-known : goal.number_all-requires-clause-known
number_all-requires-clause-known c =
    rw (c.as_slice.ensures.value, c.in_ok-add_tokens.ensures, c.tokens_of-tokens.ensures) (made_known c.args.table.now c.facts.ensures c.args.settled.now c.args.words.now c.rising.ensures c.args.cost (apart c).1 c.args.items.now c.in_ok-made.made.items c.in_ok-made.ensures c.requires)

pub number_all-requires-clause-prefix_free : goal.number_all-requires-clause-prefix_free
number_all-requires-clause-prefix_free c =
    rw (c.as_slice.ensures.value, c.in_ok-add_tokens.ensures, c.tokens_of-tokens.ensures) (made_prefix_free c.args.table.now c.facts.ensures c.args.settled.now c.args.words.now c.rising.ensures c.args.cost (apart c).1 c.args.items.now c.in_ok-made.made.items c.in_ok-made.ensures c.requires)

pub number_all-requires-clause-fresh : goal.number_all-requires-clause-fresh
number_all-requires-clause-fresh c = λ n lt. (let less = c.requires.below n lt in let most = max_one_of_positive c.args.cost (apart c).0 in omega (arith, less, most))

pub after-of_tokens-requires : goal.after-of_tokens-requires
after-of_tokens-requires c =
    let a = c.in_ok-numbers.ensures.numbered.len in
    let b = ap length c.as_slice.ensures.value in
    let d = ap length c.in_ok-add_tokens.ensures in
    let e = length-append c.in_ok-made.made.items (map token_alone c.tokens_of-tokens.result.now) in
    let f = c.in_ok-made.ensures.len in
    let g = ap length c.as_slice-2.ensures.value in
    omega (arith, a, b, d, e, f, g)

pub keep_numbers-requires-clause-known : goal.keep_numbers-requires-clause-known
keep_numbers-requires-clause-known c x there = rw c.requires.tokens.len (c.requires.tokens.by_cost.known c.args.cost x (rw c.tokens_of-tokens.ensures at there)).0

pub keep_numbers-requires-clause-numbers : goal.keep_numbers-requires-clause-numbers
keep_numbers-requires-clause-numbers c =
    let toks = c.tokens_of-tokens.result.now in
    let a = c.in_ok-numbers.ensures.numbered.len in
    let b = ap length c.as_slice.ensures.value in
    let d = ap length c.in_ok-add_tokens.ensures in
    let e = length-append c.in_ok-made.made.items (map token_alone toks) in
    let f = c.in_ok-made.ensures.len in
    let g = ap length c.as_slice-2.ensures.value in
    let i = ap length c.after-of_tokens.ensures in
    let j = tokens_alone_length toks in
    let long : length c.args.items.now ≤ length c.as_slice-2.result.now = omega (arith, a, b, d, e, f, g) in
    let k = length_drop (length c.args.items.now) c.as_slice-2.result.now long in
    omega (arith, a, b, d, e, f, g, i, j, k)

pub returns : goal.returns
returns c =
    let apart : (0 < c.args.cost) × (c.args.cost < cap) = between c.args.cost c.requires.most (λ plain. elim plain [ inl none ↦ c.if-cost-eq0.false none | inr most ↦ c.if-cost-eq-CAP.false most ]) in
    let given : List ℕ = row_of c.args.words.now.by_cost.buckets.items c.args.cost in
    let keeps : KeepsNumbers given (drop (length c.args.items.now) c.in_ok-numbers.numbers.items) (length given) c.args.words.now.tokens.items c.keep_numbers.new.tokens.items = rw (c.tokens_of-tokens.ensures, c.after-of_tokens.ensures, c.as_slice-2.ensures.value) at c.keep_numbers.ensures in
    rw c.truncate.ensures.items
    (made_numbered c.args.table.now c.facts.ensures c.args.settled.now c.args.words.now c.rising.ensures c.args.cost apart.1 c.args.items.now c.in_ok-made.made.items c.in_ok-made.ensures c.requires (record { book = c.number_all.new.self; tokens = c.keep_numbers.new.tokens; by_cost = c.args.words.now.by_cost }) c.in_ok-numbers.numbers.items
    (rw (c.as_slice.ensures.value, c.in_ok-add_tokens.ensures, c.tokens_of-tokens.ensures) at c.in_ok-numbers.ensures.numbered) keeps refl)
