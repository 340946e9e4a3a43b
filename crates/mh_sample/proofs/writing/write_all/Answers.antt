use Rattle.std.proofs.Common.{◌≡◌, ◌-◌, [], reverse, refl, sym, ap, arith, subst}
use Rattle.std.proofs.lemmas.List.{nil_from_length}
use Rattle.mh_grammar.specs.Plain.{plain_of}
use Rattle.mh_sample.specs.Random as random
use Rattle.mh_sample.specs.Random.{Writes}
use Rattle.mh_sample.specs.declared.writing.Writing.{Writing}
use Rattle.mh_sample.proofs.Treats.{popped_is}
use Rattle.mh_sample.proofs.writing.write_all.Goals as goal

pub treat-requires-clause-popped : goal.treat-requires-clause-popped
treat-requires-clause-popped c =
    let old = c.loop-symbol.writing in
    let new : Writing = record { generator = old.generator; draws = old.draws; written = old.written; pending = c.pop.new.self; needed = old.needed - c.length_of.result } in
    popped_is c.args.guide.now c.in-Some.symbol old new c.loop-symbol.invariant.writing c.in-Some.ensures.items refl refl refl (ap (λ n. old.needed - n) c.length_of.ensures)

pub returns : goal.returns
returns c =
    let guide = c.args.guide.now in
    let w = c.loop-symbol.writing in
    let empty : w.pending.items ≡ [] = nil_from_length w.pending.items (omega (arith, c.in_default.ensures.cases.0, w.pending.ok.0)) in
    c.loop-symbol.invariant.ends w.written.items (subst (λ p. Writes (plain_of guide.grammar.now) guide.seed guide.limit w.draws w.written.items (reverse p) w.written.items) (sym empty) random.Writes.ended)
