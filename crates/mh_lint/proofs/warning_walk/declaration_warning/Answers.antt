use Rattle.std.proofs.Common.{◌≡◌, ◌++◌, Option, Some, ap, refl, subst, sym, ◌∙◌}
use Rattle.std.specs.Prelude.{codes}
use Rattle.mh_grammar.specs.Text.{Text}
use Rattle.mh_lint.specs.code.MentionUses.{IsUnusedDeclaration}
use Rattle.mh_lint.proofs.IsUnusedDeclaration.{no_actual, unused_actual, used_actual}
use Rattle.mh_lint.proofs.warning_walk.declaration_warning.Goals as goal

pub returns-in_default : goal.returns-in_default
returns-in_default c = no_actual c.args.joined.now c.args.declarations.now.keys c.args.before c.args.actual.rank c.args.actual.item (rw c.in_default.is at c.in_ok-found.ensures)

pub returns-then-has_key : goal.returns-then-has_key
returns-then-has_key c = used_actual c.args.joined.now c.args.declarations.now.keys c.args.before c.args.actual.rank c.args.actual.item c.in-Some.found (rw c.in-Some.is at c.in_ok-found.ensures) (c.if-has_key.ensures.0 refl)

pub returns : goal.returns
returns c =
    let words = codes "reduction on errors without use: " in
    let is : c.from_vec.result ≡ words ++ c.in-Some.found.name = c.from_vec.ensures ∙ c.in_ok-extend_from_slice-2.ensures.items ∙ (λ i. (c.in_ok-extend_from_slice.ensures.items ∙ ap (λ (xs : Text). xs ++ words) c.new-text.ensures.items) i ++ c.as_slice.ensures i) in
    subst (λ (o : Option Text). IsUnusedDeclaration c.args.joined.now c.args.declarations.now.keys c.args.before c.args.actual.rank c.args.actual.item o) (sym (ap Some is))
    (unused_actual c.args.joined.now c.args.declarations.now.keys c.args.before c.args.actual.rank c.args.actual.item c.in-Some.found (rw c.in-Some.is at c.in_ok-found.ensures) (λ has. (let bad = c.if-has_key.ensures.1 has in cc)))
