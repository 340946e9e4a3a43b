use Rattle.std.proofs.Common.{◌≡◌, Bool, None, Option, Some, ap, false, get_or, slice_get, sym, true, unwrap_or, ◌∙◌}
use Rattle.std.proofs.lemmas.Bool.{false≢true}
use Rattle.std.proofs.lemmas.Option.{slice_get-get_or}
use Rattle.mh_lint.specs.declared.sources.LevelSource.TheVariants as sources
use Rattle.mh_lint.proofs.AddsUses.{none_below}
use Rattle.mh_lint.proofs.AreUsedLevels.{SourceNameAt, SourcePlaceAt, all_sources, source_more, source_skipped}
use Rattle.mh_lint.proofs.levels.UsedLevels.put_sources.Goals as goal
use Rattle.mh_lint.proofs.levels.UsedLevels.put_sources.Goals.{then-is_set+in_ok-put_source, else-is_set}

flag_set : (o : Option Bool) → unwrap_or o false ≡ true → o ≡ Some true
flag_set None e = absurd (false≢true e)
flag_set (Some b) e = ap Some e

pub loop-production-init : goal.loop-production-init
loop-production-init c = none_below (SourceNameAt c.args.tokens.now c.args.sources.now c.args.compared.now) (SourcePlaceAt c.args.tokens.now c.args.sources.now c.args.compared.now) c.args.self.now

pub loop-production-preserved : goal.loop-production-preserved
loop-production-preserved c =
    let tokens = c.args.tokens.now in
    let all = c.args.sources.now in
    let compared = c.args.compared.now in
    let i = c.loop-production.production in
    let source = get_or all i sources.None in
    elim c.if-is_set.branch [
      | then-is_set+in_ok-put_source w ↦ rw w.self-is (source_more tokens all compared i source c.args.self.now c.loop-production.self w.put_source.new.self (slice_get-get_or all i sources.None c.loop-production-test.true) (flag_set (slice_get compared i) (sym c.is_set.ensures ∙ w.if-is_set.true)) c.loop-production.invariant w.in_ok-put_source.ensures)
      | else-is_set w ↦ rw w.self-is (source_skipped tokens all compared i c.args.self.now c.loop-production.self (λ e. false≢true (sym w.if-is_set.false ∙ c.is_set.ensures ∙ ap (λ o. unwrap_or o false) e)) c.loop-production.invariant)
    ]

pub returns : goal.returns
returns c = all_sources c.args.tokens.now c.args.sources.now c.args.compared.now c.loop-production.production c.args.self.now c.loop-production.self c.loop-production-test.false c.loop-production.invariant
