use Rattle.std.proofs.Common.{◌≡◌, ℕ, List, Bool, true, false, ap, subst, sym, ◌∙◌, arith}
use Rattle.mh_tables_core.specs.Table.{TableData}
use Rattle.mh_expected.specs.code.Trials.{IsTried, AreTried}
use Rattle.mh_expected.proofs.AreTried.{tried_shifted, tried_not}
use Rattle.mh_expected.proofs.trial.tokens_shifted.Goals.{then-branch+in_ok-push, else-branch}
use Rattle.mh_expected.proofs.trial.tokens_shifted.Goals as goal

pub loop-token-preserved : goal.loop-token-preserved
loop-token-preserved c =
    let t = c.args.table.now in
    let states = c.args.states.now in
    let z = c.loop-token.token in
    let tried : IsTried t states z c.in_ok-is_shifted.field-0 = subst (λ (l : List ℕ). IsTried t l z c.in_ok-is_shifted.field-0) c.loop-token.invariant.1 c.in_ok-is_shifted.ensures.tried in (
      elim c.if-branch.branch [
        | then-branch+in_ok-push w ↦
            rw w.shifted-is (tried_shifted t states c.loop-token.shifted.items z c.loop-token.invariant.0 _ (subst (IsTried t states z) w.if-branch.true tried) w.in_ok-push.ensures.items)
        | else-branch w ↦ rw w.shifted-is (tried_not t states c.loop-token.shifted.items z c.loop-token.invariant.0 (subst (IsTried t states z) w.if-branch.false tried))
      ],
      c.in_ok-is_shifted.ensures.base ∙ c.loop-token.invariant.1,
    )

pub returns : goal.returns
returns c =
    let t = c.args.table.now in
    let all : c.loop-token.token ≡ t.grammar.tokens = let e : c.table.result.now.grammar.tokens ≡ t.grammar.tokens = ap (λ (x : TableData). x.grammar.tokens) c.table.ensures.table in omega (arith, c.loop-token-test.false, c.loop-token.auto.token-end, c.tokens-token-end.ensures) in
    subst (AreTried t c.args.states.now c.from_vec.result) all (subst (λ (l : List ℕ). AreTried t c.args.states.now l c.loop-token.token) (sym c.from_vec.ensures) c.loop-token.invariant.0)
