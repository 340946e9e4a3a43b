use Rattle.std.proofs.Common.{◌≡◌, ◌++◌, ◌∷◌, []}
use Rattle.mh_msgfile.specs.Sentences.{vocabulary_in, runs}
use Rattle.mh_msgfile.specs.Lines.{is_blank_line}
use Rattle.mh_msgfile.proofs.ReadsEntries.{ok_from_test, loop_no_fault, loop_entry, loop_fault}
use Rattle.mh_msgfile.proofs.messages.put_blocks.Goals as goal

pub loop-block-preserved : goal.loop-block-preserved
loop-block-preserved c =
    let v = vocabulary_in c.args.lexicon.now in
    let lines = c.args.lines.now in
    let bs = runs (is_blank_line lines) c.args.numbers.now in
    let rs = runs (is_blank_line lines) c.loop-block.rest.now in
    let behind = runs (is_blank_line lines) c.in-Some.behind.now in
    let rest = runs (is_blank_line lines) c.in-Some-first_block.behind.now in
    let so_far = c.loop-block.invariant in
    let added : c.push.new.self ≡ c.loop-block.entries ++ c.in-Ok.entry ∷ [] = ok_from_test c.push.result c.is_err.result _ c.is_err.ensures.value c.if-is_err.false c.push.ensures.ok in
    record {
      none = loop_no_fault v lines bs rs behind c.in-Some.block.now c.in-Some.ensures.0 so_far.none c.in-Some-first_block.message.now rest c.in-Some-first_block.ensures.0 c.in-Ok.ensures.0;
      so_far = loop_entry v lines bs rs behind c.in-Some.block.now c.in-Some.ensures.0 so_far.none c.in-Some-first_block.message.now rest c.in-Some-first_block.ensures.0 c.loop-block.entries c.push.new.self _ c.in-Ok.entry so_far.so_far added c.in-Ok.ensures.1;
    }

pub returns-in-Err : goal.returns-in-Err
returns-in-Err c =
    let v = vocabulary_in c.args.lexicon.now in
    let lines = c.args.lines.now in
    loop_fault v lines (runs (is_blank_line lines) c.args.numbers.now) (runs (is_blank_line lines) c.loop-block.rest.now) (runs (is_blank_line lines) c.in-Some.behind.now) c.in-Some.block.now c.in-Some.ensures.0 c.loop-block.invariant.none
    c.in-Some-first_block.message.now (runs (is_blank_line lines) c.in-Some-first_block.behind.now) c.in-Some-first_block.ensures.0 c.in-Err.fault c.in-Err.ensures
