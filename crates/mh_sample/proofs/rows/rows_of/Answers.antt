use Rattle.std.proofs.Common.{◌≡◌, ◌∙◌, ◌<◌, ◌+◌, ◌++◌, ◌∷◌, Some, [], length, refl, sym, ap, arith, subst, get_or}
use Rattle.std.specs.List.{slice_get}
use Rattle.std.proofs.lemmas.List.{get_or_default}
use Rattle.std.proofs.lemmas.List.Elements.{All-get_or}
use Rattle.std.proofs.lemmas.Option.{slice_get_read}
use Rattle.mh_grammar.specs.Plain.{plain_of, IsProductionBelow}
use Rattle.mh_sample.specs.declared.rows.Choice.{Choice}
use Rattle.mh_sample.specs.code.Rows.{lengths_in, IsRow}
use Rattle.mh_sample.proofs.IsRow.{rows_after}
use Rattle.mh_sample.proofs.rows.rows_of.Goals as goal

pub loop-production-preserved : goal.loop-production-preserved
loop-production-preserved c =
    let g = plain_of c.args.grammar.now in
    let ps = c.args.grammar.now.productions in
    let p = c.production-item.result in
    let i = c.loop-production.production-index in
    let within : i < length ps = omega (arith, c.loop-production-test.true, ap length c.as_slice-production-items.ensures) in
    let read : p ≡ get_or ps i p = rw c.as_slice-production-items.ensures at c.production-item.is in
    let at = subst (λ j. slice_get ps j ≡ Some p) (sym c.loop-production.invariant.place) (slice_get_read ps (length ps) i p refl within read) in
    let below = subst (IsProductionBelow g.tokens g.nonterminals) (sym read) (All-get_or (IsProductionBelow g.tokens g.nonterminals) ps i p within c.requires.range.productions) in
    let rows = c.loop-production.rows.items in
    let there : p.lhs < length rows = omega (arith, below.lhs, c.loop-production.invariant.len, c.loop-production.rows.ok.0) in
    let there' : c.from.result < length rows = omega (arith, there, c.from.ensures) in
    let choice : Choice = record { place = c.loop-production.place; length = c.length_of_all-length.result } in
    let old = c.index_mut.ensures.value ∙ get_or_default rows c.from.result c.index_mut.result.now [] there' in
    let pushed : c.push.new.self ≡ get_or rows c.from.result [] ++ choice ∷ [] = c.in_ok-push.ensures.ok ∙ ap (λ l. l ++ choice ∷ []) old in
    record {
      len = c.loop-production.invariant.len;
      place = omega (arith, c.loop-production.invariant.place);
      rows = rows_after g c.args.lengths.now rows c.loop-production.place p choice c.loop-production.invariant.rows at refl (c.length_of_all-length.ensures ∙ ap (lengths_in c.args.lengths.now) c.as_slice.ensures) there c.from.result c.push.new.self c.from.ensures pushed;
    }

pub returns-clause-rows : goal.returns-clause-rows
returns-clause-rows c = λ n. subst (λ i. IsRow (plain_of c.args.grammar.now) c.args.lengths.now i n (get_or c.loop-production.rows.items n [])) (omega (arith, c.loop-production.invariant.place, c.loop-production-test.false, c.loop-production.auto.production-index-end, ap length c.as_slice-production-items.ensures)) (c.loop-production.invariant.rows n)
