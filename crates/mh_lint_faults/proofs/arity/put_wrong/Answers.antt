use Rattle.std.proofs.Common.{◌≡◌, ◌≤◌, ◌<◌, Some, ap, arith, get_or, length, refl, sym, true, false, ◌∙◌}
use Rattle.std.specs.Prelude.{slice_get}
use Rattle.std.proofs.lemmas.Option.{slice_get_read}
use Rattle.mh_lint_faults.proofs.WrongProducers.{all_wrong, right_next, wrong_next}
use Rattle.mh_lint_faults.proofs.arity.put_wrong.Goals as goal
use Rattle.mh_lint_faults.proofs.arity.put_wrong.Goals.{then-branch+in_ok-put_key, else-branch}

pub loop-producer-preserved : goal.loop-producer-preserved
loop-producer-preserved c =
    let j = c.args.joined.now in
    let a = c.args.alternative.now in
    let printed = c.args.printed.now in
    let terms = a.producers in
    let n = c.loop-producer.producer in
    let is : c.term-item.result ≡ get_or terms n c.term-item.result = c.term-item.is ∙ ap (λ xs. get_or xs n c.term-item.result) c.as_slice-term-items.ensures in
    let lt : n < length terms = (let t = c.loop-producer-test.true in let e = ap length c.as_slice-term-items.ensures in omega (arith, t, e)) in
    let at : slice_get terms n ≡ Some c.term-item.result = slice_get_read terms (length terms) n c.term-item.result refl lt is in
    elim c.if-branch.branch [
      | then-branch+in_ok-put_key w ↦ rw w.found-is (wrong_next j printed a c.args.found.now.keys c.loop-producer.found.keys w.put_key.new.set.keys n c.term-item.result at (c.in_ok-is_wrong.ensures.0 w.if-branch.true) c.loop-producer.invariant w.in_ok-put_key.ensures.keys)
      | else-branch w ↦ rw w.found-is (right_next j printed a c.args.found.now.keys c.loop-producer.found.keys n c.term-item.result at (λ is. let both : true ≡ false = sym (c.in_ok-is_wrong.ensures.1 is) ∙ w.if-branch.false in cc) c.loop-producer.invariant)
    ]

pub returns : goal.returns
returns c =
    let a = c.args.alternative.now in
    let le : length a.producers ≤ c.loop-producer.producer = (let t = c.loop-producer-test.false in let e = ap length c.as_slice-term-items.ensures in omega (arith, t, e)) in
    all_wrong c.args.joined.now c.args.printed.now a c.args.found.now.keys c.loop-producer.found.keys c.loop-producer.producer le c.loop-producer.invariant
