use Rattle.std.proofs.Common.{◌≡◌, ◌≤◌, ℕ, List, [], length, ◌∙◌, arith}
use Rattle.std.proofs.lemmas.List.Elements.{All-contains}
use Rattle.mh_grammar.proofs.Lists.{contains_at}
use Rattle.mh_grammar.specs.Plain.{plain_of}
use Rattle.mh_items.proofs.AreFirsts.{NumbersSoFar-start, NumbersSoFar-all, has_row, numbers_set}
use Rattle.mh_items.proofs.gathering.all_productions.Goals as goal

pub loop-place-init : goal.loop-place-init
loop-place-init c =
    let rows = c.in_ok-rows.rows.items in
    record {
      len = c.in_ok-rows.ensures.len ∙ c.len.ensures;
      numbers = λ n row at. (let none : row ≡ [] = All-contains (λ (r : List ℕ). r ≡ []) rows row c.in_ok-rows.ensures.empty (contains_at rows n row at) in rw none (NumbersSoFar-start (plain_of c.args.grammar.now) n));
    }

pub loop-place-preserved : goal.loop-place-preserved
loop-place-preserved c =
    let g = plain_of c.args.grammar.now in
    let i = c.loop-place.place in
    let p = c.production-item.result in
    let rows = c.loop-place.rows in
    let here = has_row g c.requires.range _ c.as_slice-production-items.ensures (length rows.items) i p (omega (arith, c.loop-place.invariant.len, rows.ok.0)) c.loop-place-test.true c.production-item.is in
    record {
      len = c.loop-place.invariant.len;
      numbers = rw (c.in_ok-push.ensures.ok, c.from.ensures, c.len-starts.ensures) (numbers_set g rows.items i p c.index_mut.result.now here.at here.within (rw c.from.ensures at c.index_mut.ensures.value) c.loop-place.invariant.numbers);
    }

pub returns-clause-exact : goal.returns-clause-exact
returns-clause-exact c =
    let g = plain_of c.args.grammar.now in
    let all : length g.productions ≤ c.loop-place.place = rw c.as_slice-production-items.ensures at c.loop-place-test.false in
    λ n row at. NumbersSoFar-all g n row c.loop-place.place all (c.loop-place.invariant.numbers n row (rw c.from_vec.ensures at at))
