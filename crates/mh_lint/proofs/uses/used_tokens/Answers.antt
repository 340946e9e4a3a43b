use Rattle.std.proofs.Common.{◌≡◌, ◌+◌, ◌≤◌, Bool, List, ap, arith, false, length, replicate, subst, sym, ◌∙◌}
use Rattle.std.specs.List.{All, Contains}
use Rattle.mh_rules.specs.declared.joined.JoinedAlternative.{JoinedAlternative}
use Rattle.mh_lint_states.specs.code.Marks.{Marks}
use Rattle.mh_lint.specs.code.Uses.{TokensBelow}
use Rattle.mh_lint.proofs.Gains.{AnyOf}
use Rattle.mh_lint.proofs.UsedTokens.{RuleHasToken, list_marked_next, list_unmarked, rule_below, slice_written, tokens_marked, used_length}
use Rattle.mh_lint.proofs.uses.used_tokens.Goals as goal

pub loop-rule-init : goal.loop-rule-init
loop-rule-init c =
    let none : List Bool = replicate (length c.args.joined.now.tokens) false in
    let e = c.in_ok-used.ensures.items_if_clones_equal (λ y e. e) in
    subst (λ ys. Marks (AnyOf RuleHasToken c.args.joined.now.rules 0) none ys) (sym (e ∙ ap (λ n. replicate n false) c.len.ensures)) (list_unmarked RuleHasToken c.args.joined.now.rules none)

pub mark_alternatives-requires : goal.mark_alternatives-requires
mark_alternatives-requires c =
    let j = c.args.joined.now in
    let there : Contains j.rules c.rule-item.result = subst (λ ys. Contains ys c.rule-item.result) c.as_slice-rule-items.ensures (c.loop-rule.rule-index, c.loop-rule-test.true, sym c.rule-item.is) in
    let lengths : length j.tokens ≡ length c.deref_mut.result.now = sym (ap length c.deref_mut.ensures.value ∙ used_length j c.loop-rule.rule-index c.loop-rule.used.items c.loop-rule.invariant) in
    let all : All (λ (a : JoinedAlternative). All (TokensBelow (length j.tokens)) a.producers) c.as_slice.result.now =
    subst (λ ys. All (λ (a : JoinedAlternative). All (TokensBelow (length j.tokens)) a.producers) ys) (sym c.as_slice.ensures) (rule_below j c.requires c.rule-item.result there) in
    subst (λ n. All (λ (a : JoinedAlternative). All (TokensBelow n) a.producers) c.as_slice.result.now) lengths all

pub loop-rule-preserved : goal.loop-rule-preserved
loop-rule-preserved c =
    let j = c.args.joined.now in
    let none : List Bool = replicate (length j.tokens) false in
    let new = c.mark_alternatives.new.used in
    let old = c.loop-rule.used.items in
    let marks : Marks (RuleHasToken c.rule-item.result) old new = rw (c.as_slice.ensures, c.deref_mut.ensures.value) at c.mark_alternatives.ensures in
    let len : length old ≡ c.loop-rule.used.len = (let o = c.loop-rule.used.ok in omega (arith, o.0)) in
    subst (λ ys. Marks (AnyOf RuleHasToken j.rules (c.loop-rule.rule-index + 1)) none ys) (sym (slice_written c.loop-rule.used.len old new marks.len len))
    (list_marked_next RuleHasToken j.rules c.loop-rule.rule-index c.rule-item.result none old new (rw c.as_slice-rule-items.ensures at c.loop-rule-test.true) (rw c.as_slice-rule-items.ensures at c.rule-item.is) c.loop-rule.invariant marks)

pub returns-clause-len : goal.returns-clause-len
returns-clause-len c = used_length c.args.joined.now c.loop-rule.rule-index c.loop-rule.used.items c.loop-rule.invariant

pub returns-clause-used : goal.returns-clause-used
returns-clause-used c =
    let past : length c.args.joined.now.rules ≤ c.loop-rule.rule-index = (let a = c.loop-rule-test.false in let b = ap length c.as_slice-rule-items.ensures in omega (arith, a, b)) in
    tokens_marked c.args.joined.now c.loop-rule.rule-index c.loop-rule.used.items past c.loop-rule.invariant
