use Rattle.std.proofs.Common.{◌≡◌, ◌+◌, ◌<◌, ◌++◌, None, Some, ap, length, refl, subst, sym, ◌∙◌}
use Rattle.std.specs.List.{slice_get}
use Rattle.std.proofs.lemmas.Option.{slice_get_read}
use Rattle.mh_expand.specs.Terms.{term_of, text}
use Rattle.mh_lint.specs.code.Declarations.{IsDeclaredAt}
use Rattle.mh_lint.specs.code.Declarations as declarations
use Rattle.mh_lint.proofs.DeclaredActuals.{actual_at, none_declared, number_none, number_some, some_declared}
use Rattle.mh_lint.proofs.on_error.declared_name.Goals as goal

pub returns-in_default : goal.returns-in_default
returns-in_default c =
    let j = c.args.joined.now in
    none_declared j c.args.before c.args.rank c.args.item (number_none (length j.on_error) (c.args.before + c.args.rank) c.in_default.ensures)

pub returns-in_default-get : goal.returns-in_default-get
returns-in_default-get c =
    let j = c.args.joined.now in
    let number = c.args.before + c.args.rank in
    let both = number_some (length j.on_error) number c.in-Some.number c.in-Some.ensures in
    let here : slice_get j.on_error c.in-Some.number ≡ Some c.index.result.now = slice_get_read j.on_error (length j.on_error) c.in-Some.number c.index.result.now refl (subst (λ k. k < length j.on_error) (sym both.0) both.1) c.index.ensures in
    let at : slice_get j.on_error number ≡ Some c.index.result.now = subst (λ k. slice_get j.on_error k ≡ Some c.index.result.now) both.0 here in
    declarations.IsDeclaredAt.none (actual_at j c.args.before c.args.rank c.args.item c.index.result.now None at (sym c.in_default-get.ensures.value))

pub returns : goal.returns
returns c =
    let j = c.args.joined.now in
    let number = c.args.before + c.args.rank in
    let actual = c.in-Some-get.actual.now in
    let both = number_some (length j.on_error) number c.in-Some.number c.in-Some.ensures in
    let here : slice_get j.on_error c.in-Some.number ≡ Some c.index.result.now = slice_get_read j.on_error (length j.on_error) c.in-Some.number c.index.result.now refl (subst (λ k. k < length j.on_error) (sym both.0) both.1) c.index.ensures in
    let at : slice_get j.on_error number ≡ Some c.index.result.now = subst (λ k. slice_get j.on_error k ≡ Some c.index.result.now) both.0 here in
    let name : c.in_ok-from_bytes.field-0 ≡ text j (term_of actual) = c.in_ok-from_bytes.ensures ∙ c.as_slice.ensures.value ∙ c.in_ok-write_term.ensures ∙ ap (λ xs. xs ++ text j (term_of actual)) c.new-name.ensures.items in
    some_declared j c.args.before c.args.rank c.args.item actual c.in-Some.number c.in_ok-from_bytes.field-0 (actual_at j c.args.before c.args.rank c.args.item c.index.result.now (Some actual) at (sym c.in-Some-get.ensures.value)) both.0 name
