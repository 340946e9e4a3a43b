use Rattle.std.proofs.Common.{◌≡◌, ◌≤◌, Some, length, refl, arith, rules, inl, inr}
use Rattle.std.specs.List.{slice_get}
use Rattle.std.proofs.lemmas.Bool.{cases_eq}
use Rattle.std.proofs.lemmas.Option.{slice_get_read, slice_get_within}
use Rattle.mh_grammar.proofs.Lists.{at_contains, get_unique}
use Rattle.mh_grammar.specs.Plain.{plain_of}
use Rattle.mh_items.proofs.AddsComplete.{HasNoMarkedSymbol, complete_there}
use Rattle.mh_items.proofs.ItemAt.{item_is}
use Rattle.mh_items.proofs.closure_builder.ClosureBuilder.adds_complete.Goals as goal

pub loop-item-init : goal.loop-item-init
loop-item-init g c = λ k n item l. absurd (omega arith)

pub has_marked_symbol-requires : goal.has_marked_symbol-requires
has_marked_symbol-requires g c =
    let item = item_is _ _ c.as_slice-item-items.ensures _ _ c.loop-item-test.true c.item-item.is (plain_of c.args.grammar.now) c.requires.kernel.items in
    let marks : length c.as_slice.result.now ≡ length c.args.grammar.now.nonterminals = rw c.as_slice.ensures.value (omega (arith, c.requires.closer.marks, c.args.self.now.empties.ok.0)) in
    (search rules, (c.requires.fits, (item, marks)))

pub loop-item-preserved : goal.loop-item-preserved
loop-item-preserved g c = λ k n item l at stands.
    let items = c.as_slice-item-items.result.now in
    let i = c.loop-item.item-index in
    let y = c.item-item.result in
    let there : slice_get items i ≡ Some y = slice_get_read items (length items) i y refl c.loop-item-test.true c.item-item.is in
    elim (cases_eq k i) [
      | inl here ↦ (let one = get_unique items i item y (rw here at at) there in
          rw c.as_slice.ensures.value at (c.has_marked_symbol.ensures c.if-has_marked_symbol.false n (rw one at stands)))
      | inr other ↦ c.loop-item.invariant k n item (omega arith) at stands
    ]

pub returns : goal.returns
returns g c _ =
    let grammar = plain_of c.args.grammar.now in
    let kernel = c.args.kernel.now in
    let marks = c.args.self.now.empties.items in
    let all : length kernel.items ≤ c.loop-item.item-index = rw c.as_slice-item-items.ensures at c.loop-item-test.false in
    let asks : HasNoMarkedSymbol grammar kernel marks = record {
      none = λ p d n look held at.
          let place = at_contains kernel.items held.0 held.1 in
          let before = slice_get_within kernel.items place.0 held.0 place.1 in
          c.loop-item.invariant place.0 n held.0 (omega arith) (rw c.as_slice-item-items.ensures place.1) (rw (held.2, held.3) at);
    } in
    complete_there grammar kernel marks c.requires.closer.empties asks
