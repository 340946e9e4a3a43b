use Rattle.std.proofs.Common.{take, get_or, sym, ap, ◌∙◌}
use Rattle.std.proofs.lemmas.List.{take_more}
use Rattle.mh_rules.specs.declared.instances.Part.TheVariants.{Token}
use Rattle.mh_inline.specs.Inlined.{last_token}
use Rattle.mh_inline.specs.code.ProductionParts.{token_else}
use Rattle.mh_inline.proofs.MadeProductions.{last_token-push}
use Rattle.mh_inline.proofs.productions.last_token_of.Goals as goal

pub loop-part-preserved : goal.loop-part-preserved
loop-part-preserved c =
    let Xs = c.args.parts.now in
    let i = c.loop-part.part-index in
    let X = get_or Xs i (Token 0) in
    c.token_or-last.ensures ∙ ap (token_else X) c.loop-part.invariant ∙ sym (last_token-push (take i Xs) X) ∙ ap last_token (sym (take_more Xs i (Token 0) c.loop-part-test.true))
