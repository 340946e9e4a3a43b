use Rattle.std.proofs.Common.{◌≡◌, ◌||◌, ap, flat_map, sym, ◌∙◌}
use Rattle.std.specs.List.{list_any}
use Rattle.mh_rules.specs.declared.joined.Applied.TheViews.{out-Applied}
use Rattle.mh_lint_faults.specs.Terms.{heads, is_formal}
use Rattle.mh_lint_faults.proofs.Heads.{has_formals_out, no_formals_more, some_formals}
use Rattle.mh_lint_faults.proofs.terms.+formals.Goals as goal

pub has_formals-returns-else-is_formal : goal.has_formals-returns-else-is_formal
has_formals-returns-else-is_formal t c =
    c.have_formals.ensures ∙ ap (λ xs. list_any is_formal (flat_map heads xs)) c.as_slice.ensures
    ∙ sym (has_formals_out c.args.term.now ∙ ap (λ b. b || list_any is_formal (flat_map heads (out-Applied c.args.term.now).args)) (sym c.is_formal.ensures ∙ c.if-is_formal.false))

pub have_formals-loop-term-preserved : goal.have_formals-loop-term-preserved
have_formals-loop-term-preserved t c = no_formals_more c.args.terms.now c.loop-term.term-index c.term-item.result c.loop-term-test.true c.term-item.is c.loop-term.invariant (sym c.has_formals.ensures ∙ c.if-has_formals.false)

pub have_formals-returns-then-has_formals : goal.have_formals-returns-then-has_formals
have_formals-returns-then-has_formals t c = sym (some_formals c.args.terms.now c.loop-term.term-index c.term-item.result c.loop-term-test.true c.term-item.is (sym c.has_formals.ensures ∙ c.if-has_formals.true))
