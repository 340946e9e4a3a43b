use Rattle.std.proofs.Common.{ℕ, List, [], ap, ◌∙◌, length, Bor}
use Rattle.mh_tabfile_form.proofs.Pieces.{joined_step, bounds_step, pieces_all, bounds_all}
use Rattle.mh_tabfile_form.proofs.names.Names.from_words.Goals as goal

pub loop-word-preserved : goal.loop-word-preserved
loop-word-preserved c =
    let none : Bor (List ℕ) = record { ref_ptr = (0, 0); now = [] } in
    let bytes = c.in_ok-extend_from_slice.ensures.items in
    let count = c.len.ensures ∙ c.extend_from_slice.new.self.ok.0 ∙ ap length bytes in (
      joined_step (λ (w : Bor (List ℕ)). w.now) c.args.words.now c.loop-word.word-index none c.loop-word.bytes.items c.extend_from_slice.new.self.items c.loop-word-test.true c.loop-word.invariant.0 bytes,
      bounds_step (λ (w : Bor (List ℕ)). w.now) c.args.words.now c.loop-word.word-index none c.loop-word.bytes.items c.loop-word.bounds.items c.push-in-loop-word.new.self.items c.len.result c.loop-word-test.true c.loop-word.invariant.0 c.loop-word.invariant.1 count c.in_ok-push-2.ensures.items,
    )

pub invariant_of-result : goal.invariant_of-result
invariant_of-result c = bounds_all (λ (w : Bor (List ℕ)). w.now) c.args.words.now c.loop-word.word-index c.loop-word.bytes.items c.loop-word.bounds.items c.loop-word.invariant.0 c.loop-word.invariant.1

pub returns : goal.returns
returns c = pieces_all (λ (w : Bor (List ℕ)). w.now) c.args.words.now c.loop-word.word-index c.loop-word.bytes.items c.loop-word.bounds.items c.loop-word-test.false c.loop-word.invariant.0 c.loop-word.invariant.1
