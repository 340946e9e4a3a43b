use Rattle.std.proofs.Common.{◌≡◌, ◌-◌, ◌+◌, ap, arith, suc, refl, rules, sym, ◌∙◌}
use Rattle.mh_top_drive.specs.ModeBehavior.{max_lines}
use Rattle.mh_top_drive.proofs.AskLoop.{all_taken, line_ends, line_stops, none_each, first_each, one_more, past_ran, started}
use Rattle.mh_top_drive.proofs.driving.ask.Goals as goal

pub loop-init : goal.loop-init
loop-init g c = record {
  so_far = λ plan is. let same = ap max_lines (c.asks-asks.ensures plan is) in (plan, is, started g.M.Mode.behavior plan _ _ _ (omega (arith, same)));
  asks = λ plan is. c.asks-asks.ensures plan is;
  may_read = c.requires.may_read;
  may_write = c.requires.may_write;
  input_calm = refl;
  out_calm = refl;
}

pub take_line-requires : goal.take_line-requires
take_line-requires g c =
    let p = c.requires.some in
    let q = c.loop.invariant.so_far p.0 p.1 in record {
      some = (q.0, q.1);
      may_read = c.loop.invariant.may_read;
      may_write = c.loop.invariant.may_write;
    }

pub loop-preserved : goal.loop-preserved
loop-preserved g c = record {
  so_far = λ plan is.
      let q = c.loop.invariant.so_far plan is in
      let r = (rw c.in-Ok-true.field-0-test at c.in-Ok-true.ensures.ran) q.0 q.1 in
      let more : max_lines c.asks-asks.result - c.loop.counter ≡ suc (max_lines c.asks-asks.result - (c.loop.counter + 1)) = omega (arith, c.most-end.ensures) in
      (r.0, r.1, one_more g.M.Mode.behavior plan q.0 r.0 _ _ _ _ _ _ _ _ more q.2 r.2);
  asks = c.loop.invariant.asks;
  may_read = c.in-Ok-true.ensures.may_read_on;
  may_write = c.in-Ok-true.ensures.may_write_on;
  input_calm = search rules;
  out_calm = search rules;
}

pub returns-in-Ok-false-clause-ran : goal.returns-in-Ok-false-clause-ran
returns-in-Ok-false-clause-ran g c = λ plan is.
    let q = c.loop.invariant.so_far plan is in
    let r = (rw c.in-Ok-false.field-0-test at c.in-Ok-false.ensures.ran) q.0 q.1 in
    let more : max_lines c.asks-asks.result - c.loop.counter ≡ suc (max_lines c.asks-asks.result - (c.loop.counter + 1)) = omega (arith, c.most-end.ensures) in
    (r.0, r.1, line_ends g.M.Mode.behavior plan q.0 _ _ more _ _ _ _ _ _ q.2 r.0 r.2)

pub returns-in-Err-clause-ran : goal.returns-in-Err-clause-ran
returns-in-Err-clause-ran g c = λ plan is.
    let q = c.loop.invariant.so_far plan is in
    let r = c.in-Err.ensures.ran q.0 q.1 in
    let more : max_lines c.asks-asks.result - c.loop.counter ≡ suc (max_lines c.asks-asks.result - (c.loop.counter + 1)) = omega (arith, c.most-end.ensures) in
    (r.0, r.1, line_stops g.M.Mode.behavior plan q.0 _ _ more _ _ _ _ _ _ q.2 r.0 c.in-Err.stop r.2)

pub returns-in-EachLine-clause-ran : goal.returns-in-EachLine-clause-ran
returns-in-EachLine-clause-ran g c = λ plan is.
    let q = c.loop.invariant.so_far plan is in
    let last : max_lines c.asks-asks.result - c.loop.counter ≡ 0 = omega (arith, c.most-end.ensures) in
    (q.0, q.1, past_ran g.M.Mode.behavior plan q.0 _ last (sym (c.loop.invariant.asks plan is) ∙ c.in-EachLine.is) _ _ _ _ _ q.2 c.past_last.result c.past_last.ensures.ran)

pub returns-in-NoLine-clause-ran : goal.returns-in-NoLine-clause-ran
returns-in-NoLine-clause-ran g c = λ plan is.
    let q = c.loop.invariant.so_far plan is in
    let last : max_lines c.asks-asks.result - c.loop.counter ≡ 0 = omega (arith, c.most-end.ensures) in
    (q.0, q.1, all_taken g.M.Mode.behavior plan q.0 _ _ _ _ _ q.2 last (none_each g.M.Mode.behavior _ (sym (c.loop.invariant.asks plan is) ∙ c.in-NoLine.is)))

pub returns-in-FirstLine-clause-ran : goal.returns-in-FirstLine-clause-ran
returns-in-FirstLine-clause-ran g c = λ plan is.
    let q = c.loop.invariant.so_far plan is in
    let last : max_lines c.asks-asks.result - c.loop.counter ≡ 0 = omega (arith, c.most-end.ensures) in
    (q.0, q.1, all_taken g.M.Mode.behavior plan q.0 _ _ _ _ _ q.2 last (first_each g.M.Mode.behavior _ (sym (c.loop.invariant.asks plan is) ∙ c.in-FirstLine.is)))
