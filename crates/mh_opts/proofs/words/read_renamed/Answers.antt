use Rattle.std.proofs.Common.{◌≡◌, [], Err, map, true, ap, sym, subst, ◌∙◌, if◌then◌else◌, string_bytes}
use Rattle.clap.specs.Words.{HasKind, HasMatchesOf, app_of, fault_of, found_of, is_simple_and_free, matches_of, rows_of}
use Rattle.clap.specs.Walk.{is_empty}
use Rattle.mh_opts.specs.declared.order.UsageFault.TheVariants.{Parse}
use Rattle.mh_opts.specs.App.{menhir_app}
use Rattle.mh_opts.specs.Orders.{EqualsUnlessMemory, order_in, order_renamed}
use Rattle.mh_opts.proofs.SimpleCommand.{menhir_is_simple_and_free, not_empty_if_refused, menhir_is_simple}
use Rattle.mh_opts.proofs.words.read_renamed.Goals as goal

pub returns-in-Ok : goal.returns-in-Ok
returns-in-Ok c =
    let words = map string_bytes c.args.words.now in
    let app : app_of c.in_ok-command.command ≡ menhir_app = c.in_ok-command.ensures in
    let rows : rows_of (found_of c.in-Ok.matches) ≡ matches_of menhir_app words = (subst (λ a. HasMatchesOf a words c.in-Ok.matches) app c.in-Ok.ensures.matches menhir_is_simple).0 in
    let taken : fault_of menhir_app words ≡ [] = subst (λ a. is_simple_and_free a ≡ true → fault_of a words ≡ []) app c.in-Ok.ensures.kinds menhir_is_simple_and_free in
    let wanted : order_renamed words ≡ order_in (rows_of (found_of c.in-Ok.matches)) =
    ap (λ k. if is_empty k then order_in (matches_of menhir_app words) else Err Parse) taken ∙ ap order_in (sym rows) in
    subst (λ o. EqualsUnlessMemory o c.matched_order.result) (sym wanted) c.matched_order.ensures

pub returns : goal.returns
returns c =
    let words = map string_bytes c.args.words.now in
    let app : app_of c.in_ok-command.command ≡ menhir_app = c.in_ok-command.ensures in
    let has : HasKind (fault_of menhir_app words) c.in-Err.error =
    subst (λ a. is_simple_and_free a ≡ true → HasKind (fault_of a words) c.in-Err.error) app c.in-Err.ensures.kinds menhir_is_simple_and_free in
    let some = not_empty_if_refused (fault_of menhir_app words) c.in-Err.error has (λ memory. c.in_default.not-OutOfMemory (c.kind.ensures ∙ memory)) in
    ap (λ empty. if empty then order_in (matches_of menhir_app words) else Err Parse) some
