use Rattle.std.proofs.Common.{◌≤◌, length, arith, refl}
use Rattle.mh_lint_findings.proofs.AppendsLines.{appends_none}
use Rattle.mh_lint.specs.Warnings.{AreNameLines}
use Rattle.mh_lint.proofs.AreNameLines.{all_names, more_first, more_names, name_at, name_put, names_of, none_first}
use Rattle.mh_lint.proofs.warning_walk.put_repeated.Goals as goal

pub loop-number-init : goal.loop-number-init
loop-number-init c = record {
  seen = none_first (names_of c.args.named.now) c.new-seen.result (λ x. rw c.new-seen.ensures.empty refl);
  lines = appends_none (AreNameLines (names_of c.args.named.now)) c.args.findings.now.items;
}

pub loop-number-preserved : goal.loop-number-preserved
loop-number-preserved c =
    let files = c.args.named.now in
    let n = c.loop-number.number in
    let f = c.index-named-number.result in
    let at = name_at files n f c.loop-number-test.true c.index-named-number.is in
    record {
      seen = more_first (names_of files) n f.name c.loop-number.seen c.put_if_repeated.new.seen at c.loop-number.invariant.seen c.in_ok-put_if_repeated.ensures.names;
      lines = more_names (names_of files) n f.name c.args.findings.now.items c.loop-number.findings.items c.put_if_repeated.new.findings.items at c.loop-number.invariant.lines
          (name_put (names_of files) n f.name c.loop-number.seen c.loop-number.findings.items c.put_if_repeated.new.findings.items at c.loop-number.invariant.seen c.in_ok-put_if_repeated.ensures.lines);
    }

pub returns : goal.returns
returns c =
    let past : length c.args.named.now ≤ c.loop-number.number = (let a = c.loop-number-test.false in omega (arith, a)) in
    all_names c.args.named.now c.loop-number.number c.args.findings.now.items c.loop-number.findings.items past c.loop-number.invariant.lines
