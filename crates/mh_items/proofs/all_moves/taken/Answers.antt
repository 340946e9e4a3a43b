use Rattle.std.proofs.Common.{◌≡◌, ◌<◌, [], ℕ, length, get_or, set, ap, refl, ◌∙◌, arith, rules}
use Rattle.std.proofs.lemmas.List.{get_or_read}
use Rattle.std.specs.List.Sorted.{IsStrictlyIncreasing}
use Rattle.mh_grammar.specs.Plain.{plain_of}
use Rattle.mh_items.specs.code.SymbolRows.{row_at}
use Rattle.mh_items.proofs.AreMoves.{listed_place, TakenSoFar-step, TakenSoFar-all}
use Rattle.mh_items.proofs.all_moves.taken.Goals as goal

pub index_mut-requires : goal.index_mut-requires
index_mut-requires g c =
    let same : c.as_slice-place-items.result.now ≡ c.args.rows.now.filled.items = search rules in
    (listed_place (plain_of c.args.grammar.now) c.args.rows.now c.loop-place.rows c.as_slice-place-items.result.now c.loop-place.place-index c.loop-place.moves.items same c.requires.rows c.loop-place.invariant c.loop-place-test.true).0

pub symbol_at_place-requires-clause-place : goal.symbol_at_place-requires-clause-place
symbol_at_place-requires-clause-place g c =
    let same : c.as_slice-place-items.result.now ≡ c.args.rows.now.filled.items = search rules in
    (listed_place (plain_of c.args.grammar.now) c.args.rows.now c.loop-place.rows c.as_slice-place-items.result.now c.loop-place.place-index c.loop-place.moves.items same c.requires.rows c.loop-place.invariant c.loop-place-test.true).1

pub loop-place-preserved : goal.loop-place-preserved
loop-place-preserved g c =
    let old = c.args.rows.now in
    let mid = c.loop-place.rows in
    let filled = c.as_slice-place-items.result.now in
    let i = c.loop-place.place-index in
    let place : ℕ = get_or filled i 0 in
    let same : filled ≡ old.filled.items = search rules in
    let known = (listed_place (plain_of c.args.grammar.now) old mid filled i c.loop-place.moves.items same c.requires.rows c.loop-place.invariant c.loop-place-test.true).0 in
    let within : place < length mid.rows.items = omega (arith, known, mid.rows.ok.0) in
    let rising : IsStrictlyIncreasing filled = rw same c.requires.rows.rising in
    let row : c.replace-items.result ≡ row_at mid place = c.replace-items.ensures.value ∙ get_or_read mid.rows.items place c.index_mut.result.now within c.index_mut.ensures.value [] in
    let bare : c.replace-items.new.dest ≡ [] = search rules in
    TakenSoFar-step (length c.args.grammar.now.tokens) old filled i mid _ c.loop-place.moves.items c.push.new.self.items (record { symbol = c.symbol_at_place.result; kernel = record { items = c.replace-items.result } }) rising c.loop-place-test.true within c.loop-place.invariant
    (ap (set mid.rows.items place) bare) refl c.in_ok-push.ensures.items (λ k. record { symbol = c.symbol_at_place.ensures k; kernel = record { items = row k } })

pub returns-clause-empty : goal.returns-clause-empty
returns-clause-empty g c =
    let same : c.as_slice-place-items.result.now ≡ c.args.rows.now.filled.items = search rules in
    TakenSoFar-all (plain_of c.args.grammar.now) c.args.rows.now c.as_slice-place-items.result.now c.loop-place.place-index c.loop-place.rows c.loop-place.moves.items same c.requires.rows c.loop-place-test.false c.loop-place.invariant
