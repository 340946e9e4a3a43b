use Rattle.std.proofs.Common.{◌≡◌, ◌+◌, ◌<◌, ◌≤◌, Some, ap, arith, get_or, length, subst, ◌∙◌}
use Rattle.std.proofs.lemmas.List.{length-map}
use Rattle.mh_reader_places.specs.declared.mentions.Mention.{Mention}
use Rattle.mh_reader_places.specs.declared.reading.PlacedModule.{PlacedModule}
use Rattle.mh_lint_faults.specs.code.FirstMentions.{IsFirstWith}
use Rattle.mh_lint_faults.specs.code.Producers.{IsProducerMention}
use Rattle.mh_lint_faults.proofs.FirstMentions.{none_in_more}
use Rattle.mh_lint_faults.proofs.IsWrongAt.{Heads, wrong_at, wrong_nowhere}
use Rattle.mh_lint_faults.proofs.NumberTests.{no_number}
use Rattle.mh_lint_faults.proofs.SplitFiles.{file_at, has_places, mentions_at}
use Rattle.mh_lint_faults.proofs.arity.term_position.Goals as goal

pub returns-in-Some : goal.returns-in-Some
returns-in-Some c = λ found split.
    let keys = c.in_ok-found.found.keys in
    let at = c.loop-at.at in
    let lt : at < length c.args.read.now.modules.items = (let a = c.loop-at-test.true in let b = ap length c.deref-mentions-items.ensures.value in let d = (has_places found c.args.read.now split).mentions in omega (arith, a, b, d)) in
    let f = file_at found c.args.read.now split at lt in
    let ex = c.as_slice.ensures ∙ c.mentions-item.is ∙ ap (λ xs. get_or xs at c.mentions-item.result) c.deref-mentions-items.ensures.value ∙ mentions_at found c.args.read.now split at f.0 c.mentions-item.result f.1 in
    wrong_at c.args.joined.now c.args.printed.now keys c.in_ok-found.ensures found at f.0 c.in-Some.start f.1 (c.loop-at.invariant found split)
    (subst (λ xs. IsFirstWith (IsProducerMention keys (at + 1)) xs (Some c.in-Some.start)) ex c.in-Some.ensures)

pub loop-at-preserved : goal.loop-at-preserved
loop-at-preserved c = λ found split.
    let keys = c.in_ok-found.found.keys in
    let at = c.loop-at.at in
    let lt : at < length c.args.read.now.modules.items = (let a = c.loop-at-test.true in let b = ap length c.deref-mentions-items.ensures.value in let d = (has_places found c.args.read.now split).mentions in omega (arith, a, b, d)) in
    let f = file_at found c.args.read.now split at lt in
    let ex = c.as_slice.ensures ∙ c.mentions-item.is ∙ ap (λ xs. get_or xs at c.mentions-item.result) c.deref-mentions-items.ensures.value ∙ mentions_at found c.args.read.now split at f.0 c.mentions-item.result f.1 in
    none_in_more found (Heads c.args.joined.now c.args.printed.now keys c.in_ok-found.ensures) at f.0 f.1 (c.loop-at.invariant found split)
    (rw (no_number c.first_in_file.result c.in_default.not-Some) at (subst (λ xs. IsFirstWith (IsProducerMention keys (at + 1)) xs c.first_in_file.result) ex c.first_in_file.ensures))

pub returns : goal.returns
returns c = λ found split.
    let le : length found ≤ c.loop-at.at = (let a = c.loop-at-test.false in let b = ap length c.deref-mentions-items.ensures.value in let d = ap length split.mentions in let e = length-map found (λ (p : PlacedModule). p.mentions) in omega (arith, a, b, d, e)) in
    wrong_nowhere c.args.joined.now c.args.printed.now c.in_ok-found.found.keys c.in_ok-found.ensures found c.loop-at.at le (c.loop-at.invariant found split)
