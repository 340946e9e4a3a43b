use Rattle.std.proofs.Common.{◌≡◌, ◌∙◌, ◌<◌, ◌+◌, ◌-◌, ◌%◌, ◌^◌, ◌++◌, List, Some, length, reverse, refl, sym, ap, arith, subst}
use Rattle.std.specs.List.{slice_get}
use Rattle.std.proofs.lemmas.List.Elements.{All-get_or}
use Rattle.std.proofs.lemmas.Result.{on_ok_weaker}
use Rattle.std.proofs.lemmas.Option.{slice_get_read}
use Rattle.rand_pcg.specs.Pcg.{pcg32}
use Rattle.mh_grammar.specs.declared.types.Production.{Production}
use Rattle.mh_sample.specs.declared.rows.Choice.{Choice}
use Rattle.mh_sample.specs.declared.writing.Writing.{Writing}
use Rattle.mh_sample.proofs.Treats.{fitting_is, kept_by_draw, place_below, rounds_fall, some_candidate, treats_by_draw, within_room}
use Rattle.mh_sample.proofs.writing.draw_production.Goals as goal

pub drawn-choice-requires : goal.drawn-choice-requires
drawn-choice-requires c =
    let guide = c.args.guide.now in
    let old = c.args.writing.now in
    let x = c.args.nonterminal in
    let k = c.requires.guide in
    let h = c.requires.popped in
    let fit = fitting_is guide k x old h c.from.result (guide.limit - c.len.result - old.needed) c.as_slice-row.result.now c.index-guide-from.result c.in_ok-candidates.candidates.items c.as_slice.result.now c.from.ensures c.as_slice-row.ensures (omega (arith, c.len.ensures, old.written.ok.0)) c.in_ok-candidates.ensures c.as_slice.ensures.value in
    some_candidate guide k x old h c.as_slice.result.now fit

pub overflow_add-writing-2 : goal.overflow_add-writing-2
overflow_add-writing-2 c =
    let guide = c.args.guide.now in
    let old = c.args.writing.now in
    let x = c.args.nonterminal in
    let k = c.requires.guide in
    let h = c.requires.popped in
    let fit = fitting_is guide k x old h c.from.result (guide.limit - c.len.result - old.needed) c.as_slice-row.result.now c.index-guide-from.result c.in_ok-candidates.candidates.items c.as_slice.result.now c.from.ensures c.as_slice-row.ensures (omega (arith, c.len.ensures, old.written.ok.0)) c.in_ok-candidates.ensures c.as_slice.ensures.value in
    let number = (pcg32 old.generator).0 in
    let choice = c.drawn-choice.result in
    let at = subst (λ (l : List Choice). slice_get l (number % length l) ≡ Some choice) fit c.drawn-choice.ensures.choice in
    omega (arith, within_room guide k x old h number choice at, h.fits_limit, k.few)

pub index-production-requires : goal.index-production-requires
index-production-requires c =
    let guide = c.args.guide.now in
    let old = c.args.writing.now in
    let x = c.args.nonterminal in
    let k = c.requires.guide in
    let h = c.requires.popped in
    let fit = fitting_is guide k x old h c.from.result (guide.limit - c.len.result - old.needed) c.as_slice-row.result.now c.index-guide-from.result c.in_ok-candidates.candidates.items c.as_slice.result.now c.from.ensures c.as_slice-row.ensures (omega (arith, c.len.ensures, old.written.ok.0)) c.in_ok-candidates.ensures c.as_slice.ensures.value in
    let number = (pcg32 old.generator).0 in
    let choice = c.drawn-choice.result in
    let at = subst (λ (l : List Choice). slice_get l (number % length l) ≡ Some choice) fit c.drawn-choice.ensures.choice in
    place_below guide k x old h number choice at

pub returns-clause-keeps : goal.returns-clause-keeps
returns-clause-keeps c =
    let guide = c.args.guide.now in
    let old = c.args.writing.now in
    let x = c.args.nonterminal in
    let k = c.requires.guide in
    let h = c.requires.popped in
    let fit = fitting_is guide k x old h c.from.result (guide.limit - c.len.result - old.needed) c.as_slice-row.result.now c.index-guide-from.result c.in_ok-candidates.candidates.items c.as_slice.result.now c.from.ensures c.as_slice-row.ensures (omega (arith, c.len.ensures, old.written.ok.0)) c.in_ok-candidates.ensures c.as_slice.ensures.value in
    let number = (pcg32 old.generator).0 in
    let choice = c.drawn-choice.result in
    let at = subst (λ (l : List Choice). slice_get l (number % length l) ≡ Some choice) fit c.drawn-choice.ensures.choice in
    let ps = guide.grammar.now.productions in
    let p = c.index-production.result.now in
    let below = place_below guide k x old h number choice at in
    let found = slice_get_read ps (length ps) choice.place p refl below c.index-production.ensures in
    let new : Writing = record { generator = c.drawn-choice.new.generator; draws = old.draws + 1; written = old.written; pending = c.put_front.new.pending; needed = old.needed + choice.length } in
    let front = λ (e : c.put_front.new.pending.items ≡ old.pending.items ++ reverse c.as_slice-2.result.now). e ∙ ap (λ l. old.pending.items ++ reverse l) c.as_slice-2.ensures in
    on_ok_weaker c.put_front.result (λ e. kept_by_draw guide k x old h number choice p refl at found new c.drawn-choice.ensures.generator refl refl refl (front e) c.requires.draws) c.put_front.ensures

pub returns-clause-treats : goal.returns-clause-treats
returns-clause-treats c =
    let guide = c.args.guide.now in
    let old = c.args.writing.now in
    let x = c.args.nonterminal in
    let k = c.requires.guide in
    let h = c.requires.popped in
    let fit = fitting_is guide k x old h c.from.result (guide.limit - c.len.result - old.needed) c.as_slice-row.result.now c.index-guide-from.result c.in_ok-candidates.candidates.items c.as_slice.result.now c.from.ensures c.as_slice-row.ensures (omega (arith, c.len.ensures, old.written.ok.0)) c.in_ok-candidates.ensures c.as_slice.ensures.value in
    let number = (pcg32 old.generator).0 in
    let choice = c.drawn-choice.result in
    let at = subst (λ (l : List Choice). slice_get l (number % length l) ≡ Some choice) fit c.drawn-choice.ensures.choice in
    let ps = guide.grammar.now.productions in
    let p = c.index-production.result.now in
    let below = place_below guide k x old h number choice at in
    let found = slice_get_read ps (length ps) choice.place p refl below c.index-production.ensures in
    let new : Writing = record { generator = c.drawn-choice.new.generator; draws = old.draws + 1; written = old.written; pending = c.put_front.new.pending; needed = old.needed + choice.length } in
    let front = λ (e : c.put_front.new.pending.items ≡ old.pending.items ++ reverse c.as_slice-2.result.now). e ∙ ap (λ l. old.pending.items ++ reverse l) c.as_slice-2.ensures in
    on_ok_weaker c.put_front.result (λ e. treats_by_draw guide k x old h number choice p refl at found new c.drawn-choice.ensures.generator refl refl refl (front e) c.requires.draws) c.put_front.ensures

pub returns-clause-ends : goal.returns-clause-ends
returns-clause-ends c =
    let guide = c.args.guide.now in
    let old = c.args.writing.now in
    let x = c.args.nonterminal in
    let k = c.requires.guide in
    let h = c.requires.popped in
    let fit = fitting_is guide k x old h c.from.result (guide.limit - c.len.result - old.needed) c.as_slice-row.result.now c.index-guide-from.result c.in_ok-candidates.candidates.items c.as_slice.result.now c.from.ensures c.as_slice-row.ensures (omega (arith, c.len.ensures, old.written.ok.0)) c.in_ok-candidates.ensures c.as_slice.ensures.value in
    let number = (pcg32 old.generator).0 in
    let choice = c.drawn-choice.result in
    let at = subst (λ (l : List Choice). slice_get l (number % length l) ≡ Some choice) fit c.drawn-choice.ensures.choice in
    let ps = guide.grammar.now.productions in
    let p = c.index-production.result.now in
    let below = place_below guide k x old h number choice at in
    let found = slice_get_read ps (length ps) choice.place p refl below c.index-production.ensures in
    let new : Writing = record { generator = c.drawn-choice.new.generator; draws = old.draws + 1; written = old.written; pending = c.put_front.new.pending; needed = old.needed + choice.length } in
    let front = λ (e : c.put_front.new.pending.items ≡ old.pending.items ++ reverse c.as_slice-2.result.now). e ∙ ap (λ l. old.pending.items ++ reverse l) c.as_slice-2.ensures in
    let short = subst (λ (q : Production). length q.rhs < 2 ^ 32) (sym c.index-production.ensures) (All-get_or (λ (q : Production). length q.rhs < 2 ^ 32) ps choice.place p below k.range.short) in
    on_ok_weaker c.put_front.result (λ e. rounds_fall old new p.rhs c.requires.draws refl (front e) short) c.put_front.ensures
