use Rattle.std.proofs.Common.{◌<◌, ◌≤◌, ap, arith, get_or, length, subst, sym}
use Rattle.std.specs.List.{Contains, flat_map}
use Rattle.std.proofs.lemmas.List.Elements.{Contains-get_or}
use Rattle.mh_rules.specs.declared.joined.Head.TheVariants as heads
use Rattle.mh_lint_faults.specs.Terms.{heads as heads_of}
use Rattle.mh_grammar.proofs.Lists.{all_at}
use Rattle.mh_lint.specs.code.Uses.{TokensBelow}
use Rattle.mh_lint.proofs.UsedTokens.{HasToken, actual_marked, arg_in, head_in, list_marked, list_marked_next, list_unmarked, size_item, size_out}
use Rattle.mh_lint.proofs.uses.+tokens.Goals as goal

pub mark_actual-mark_head-requires : goal.mark_actual-mark_head-requires
mark_actual-mark_head-requires t c z e = c.requires z (subst (λ h. Contains (heads_of c.args.actual.now) h) e (head_in c.args.actual.now))

pub mark_actual-mark_actuals-requires : goal.mark_actual-mark_actuals-requires
mark_actual-mark_actuals-requires t c = (
  omega (arith, size_out c.args.actual.now, ap (λ ys. length (flat_map heads_of ys)) c.as_slice.ensures, c.decreases),
  λ k d l z there. subst (λ n. z < n) (sym c.mark_head.ensures.len)
      (c.requires z (arg_in c.args.actual.now (get_or c.as_slice.result.now k d) (heads.Token z) (subst (λ ys. Contains ys (get_or c.as_slice.result.now k d)) c.as_slice.ensures (Contains-get_or c.as_slice.result.now k d l)) there)),
)

pub mark_actual-returns : goal.mark_actual-returns
mark_actual-returns t c = actual_marked c.args.actual.now c.as_slice.result.now c.args.used.now c.mark_head.new.used c.mark_actuals.new.used c.as_slice.ensures c.mark_head.ensures c.mark_actuals.ensures

pub mark_actuals-loop-actual-init : goal.mark_actuals-loop-actual-init
mark_actuals-loop-actual-init t c = list_unmarked HasToken c.args.actuals.now c.args.used.now

pub mark_actuals-mark_actual-requires : goal.mark_actuals-mark_actual-requires
mark_actuals-mark_actual-requires t c = (
  omega (arith, size_item c.args.actuals.now c.loop-actual.actual-index c.actual-item.result c.loop-actual-test.true c.actual-item.is, c.decreases),
  λ z there. subst (λ n. z < n) (sym c.loop-actual.invariant.len) (all_at (TokensBelow (length c.args.used.now)) c.args.actuals.now c.loop-actual.actual-index c.actual-item.result c.requires c.loop-actual-test.true c.actual-item.is z there),
)

pub mark_actuals-loop-actual-preserved : goal.mark_actuals-loop-actual-preserved
mark_actuals-loop-actual-preserved t c = list_marked_next HasToken c.args.actuals.now c.loop-actual.actual-index c.actual-item.result c.args.used.now c.loop-actual.used c.mark_actual.new.used c.loop-actual-test.true c.actual-item.is c.loop-actual.invariant c.mark_actual.ensures

pub mark_actuals-returns : goal.mark_actuals-returns
mark_actuals-returns t c = list_marked HasToken c.args.actuals.now c.loop-actual.actual-index c.args.used.now c.loop-actual.used (let past : length c.args.actuals.now ≤ c.loop-actual.actual-index = (let a = c.loop-actual-test.false in omega (arith, a)) in past) c.loop-actual.invariant
