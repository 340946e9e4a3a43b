use Rattle.std.proofs.Common.{◌++◌, Option, Some, ap, subst, sym, ◌∙◌}
use Rattle.std.specs.Prelude.{codes}
use Rattle.mh_grammar.specs.Text.{Text}
use Rattle.mh_lint.specs.code.MentionUses as uses
use Rattle.mh_lint.proofs.warning_walk.prec_warning.Goals as goal

pub returns-then-is_used : goal.returns-then-is_used
returns-then-is_used c = record { warning = uses.IsUnusedPrec.used (c.has_prec-is_used.ensures.0 c.if-is_used.true); own = c.in_ok-put_own.ensures }

pub returns : goal.returns
returns c = record {
  warning = subst (λ (o : Option Text). uses.IsUnusedPrec c.args.levels.now.alternatives.keys c.args.file c.args.own.now.keys c.args.mention.now o) (sym (ap Some c.with_name.ensures ∙ ap (λ (n : Text). Some (codes "level without use: %prec " ++ n)) (c.as_slice.ensures ∙ c.text_of-name.ensures))) (uses.IsUnusedPrec.unused (λ used. (let bad = sym c.if-is_used.false ∙ c.has_prec-is_used.ensures.1 used in cc)));
  own = c.in_ok-put_own.ensures;
}
