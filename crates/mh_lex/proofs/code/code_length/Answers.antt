use Rattle.std.proofs.Common.{◌≡◌, ◌+◌, arith, drop, subst}
use Rattle.mh_lex.specs.declared.code.CodeStep.TheVariants.{Closes, Passes, Nests, Remark, Stuck}
use Rattle.mh_lex.specs.CodeSteps.{step}
use Rattle.mh_lex.proofs.CodeLevels as levels
use Rattle.mh_lex.proofs.code.code_length.Goals as goal

pub loop-length-init : goal.loop-length-init
loop-length-init c = record { inside = levels.Inside-start c.args.code c.args.rest.now; within = omega arith; below = omega arith }

pub loop-length-preserved-then-remarks-gt0 : goal.loop-length-preserved-then-remarks-gt0
loop-length-preserved-then-remarks-gt0 c =
    let told = subst (λ e. Closes c.in-Closes.length ≡ step e (drop c.loop-length.at c.args.rest.now)) c.innermost.ensures c.in-Closes.ensures.value in
    let around = levels.closes_at c.args.code c.args.rest.now c.loop-length.at c.loop-length.outer c.loop-length.remarks c.loop-length.invariant.inside c.in-Closes.length told in
    record {
      inside = levels.around_comment c.args.code c.args.rest.now (drop (c.loop-length.at + c.in-Closes.length) c.args.rest.now) c.loop-length.outer c.loop-length.remarks (omega (arith, c.if-remarks-gt0.true)) around;
      within = omega (arith, c.in-Closes.ensures.within.1);
      below = omega (arith, c.in-Closes.ensures.within.0);
    }

pub loop-length-preserved-then-outer-gt0 : goal.loop-length-preserved-then-outer-gt0
loop-length-preserved-then-outer-gt0 c =
    let told = subst (λ e. Closes c.in-Closes.length ≡ step e (drop c.loop-length.at c.args.rest.now)) c.innermost.ensures c.in-Closes.ensures.value in
    let around = levels.closes_at c.args.code c.args.rest.now c.loop-length.at c.loop-length.outer c.loop-length.remarks c.loop-length.invariant.inside c.in-Closes.length told in
    record {
      inside = levels.around_level c.args.code c.args.rest.now (drop (c.loop-length.at + c.in-Closes.length) c.args.rest.now) c.loop-length.outer c.loop-length.remarks
          (omega (arith, c.if-remarks-gt0.false)) (omega (arith, c.if-outer-gt0.true)) around;
      within = omega (arith, c.in-Closes.ensures.within.1);
      below = omega (arith, c.in-Closes.ensures.within.0);
    }

pub returns-else-outer-gt0-clause-some : goal.returns-else-outer-gt0-clause-some
returns-else-outer-gt0-clause-some c =
    let told = subst (λ e. Closes c.in-Closes.length ≡ step e (drop c.loop-length.at c.args.rest.now)) c.innermost.ensures c.in-Closes.ensures.value in
    let around = levels.closes_at c.args.code c.args.rest.now c.loop-length.at c.loop-length.outer c.loop-length.remarks c.loop-length.invariant.inside c.in-Closes.length told in (
      omega (arith, c.in-Closes.ensures.within.1),
      levels.around_all c.args.code c.args.rest.now (drop (c.loop-length.at + c.in-Closes.length) c.args.rest.now) c.loop-length.outer c.loop-length.remarks
          (omega (arith, c.if-remarks-gt0.false)) (omega (arith, c.if-outer-gt0.false)) around,
    )

pub loop-length-preserved-in-Passes : goal.loop-length-preserved-in-Passes
loop-length-preserved-in-Passes c =
    let told = subst (λ e. Passes c.in-Passes.length ≡ step e (drop c.loop-length.at c.args.rest.now)) c.innermost.ensures c.in-Passes.ensures.value in
    record {
      inside = levels.passes_at c.args.code c.args.rest.now c.loop-length.at c.loop-length.outer c.loop-length.remarks c.loop-length.invariant.inside c.in-Passes.length told;
      within = omega (arith, c.in-Passes.ensures.within.1);
      below = omega (arith, c.in-Passes.ensures.within.0);
    }

pub loop-length-preserved-in-Nests : goal.loop-length-preserved-in-Nests
loop-length-preserved-in-Nests c =
    let told = subst (λ e. Nests ≡ step e (drop c.loop-length.at c.args.rest.now)) c.innermost.ensures c.in-Nests.ensures.value in
    record {
      inside = levels.nests_at c.args.code c.args.rest.now c.loop-length.at c.loop-length.outer c.loop-length.remarks c.loop-length.invariant.inside told;
      within = omega (arith, c.in-Nests.ensures.within);
      below = omega arith;
    }

pub loop-length-preserved : goal.loop-length-preserved
loop-length-preserved c =
    let told = subst (λ e. Remark ≡ step e (drop c.loop-length.at c.args.rest.now)) c.innermost.ensures c.in-Remark.ensures.value in
    record {
      inside = levels.remark_at c.args.code c.args.rest.now c.loop-length.at c.loop-length.outer c.loop-length.remarks c.loop-length.invariant.inside told;
      within = omega (arith, c.in-Remark.ensures.within);
      below = omega arith;
    }

pub returns-in-Stuck-clause-none : goal.returns-in-Stuck-clause-none
returns-in-Stuck-clause-none c =
    levels.stuck_at c.args.code c.args.rest.now c.loop-length.at c.loop-length.outer c.loop-length.remarks c.loop-length.invariant.inside
    (subst (λ e. Stuck ≡ step e (drop c.loop-length.at c.args.rest.now)) c.innermost.ensures c.in-Stuck.ensures.value)
