use Rattle.std.proofs.Common.{◌≡◌, ℕ, ◌<◌, [], Some, length, get_or, vec_len, refl, sym, ap, ◌∙◌, arith, rules, lit<}
use Rattle.std.specs.List.{slice_get}
use Rattle.std.proofs.lemmas.List.{get_or_read}
use Rattle.std.proofs.lemmas.Option.{slice_get_read}
use Rattle.mh_grammar.specs.Plain.{PlainGrammar, plain_of}
use Rattle.mh_items.specs.declared.pending_looks.PendingLooks.{PendingLooks}
use Rattle.mh_items.specs.declared.first_sets.Firsts.{Firsts}
use Rattle.mh_items.specs.Firsts.{AreFirsts}
use Rattle.mh_items.specs.code.PendingLooks.{looks_at}
use Rattle.mh_items.proofs.AreClosureLooks.{SpreadSoFar, SpreadSoFar-start, SpreadSoFar-step, work_decreases, table_mid, are_closure_looks, none_waiting, next_known}
use Rattle.mh_items.proofs.spreading.spread.Goals as goal

-- The code visits the nonterminal n next.
pub record Visits {W : ℕ} (g : PlainGrammar) (f : Firsts W) (s : PendingLooks W) (done n : ℕ) : Type 0 where
  pub at : slice_get s.queue.items done ≡ Some n
  pub known : n < g.nonterminals
  pub flag : n < length s.waiting.items
  pub rows : n < vec_len s.waiting
  pub looks : n < vec_len s.looks
  pub links : n < length f.links

visits : {W : ℕ} (g : PlainGrammar) (f : Firsts W) (old s : PendingLooks W) (done n read : ℕ) → AreFirsts g f → SpreadSoFar g f old s done → done < vec_len s.queue → n ≡ read → read ≡ get_or s.queue.items done read → Visits g f s done n
visits g f old s done n read firsts h l e r =
    let at : slice_get s.queue.items done ≡ Some n = slice_get_read s.queue.items (length s.queue.items) done read refl (omega (arith, s.queue.ok.0)) r ∙ ap Some (sym e) in
    let known = next_known g f old s done n h (omega (arith, s.looks.ok.0)) at in
    record {
      at = at;
      known = known;
      flag = omega (arith, h.size, h.table.rows, s.waiting.ok.0);
      rows = omega (arith, h.size, h.table.rows);
      looks = omega (arith, h.size);
      links = omega (arith, firsts.len);
    }

pub loop-done-init : goal.loop-done-init
loop-done-init g c = SpreadSoFar-start (plain_of c.args.grammar.now) c.args.firsts.now c.args.set.now c.requires.table c.requires.size c.requires.queued c.requires.seeds

pub index_mut-requires : goal.index_mut-requires
index_mut-requires g c = (visits (plain_of c.args.grammar.now) c.args.firsts.now c.args.set.now c.loop-done.set c.loop-done.done c.from-n.result c.index.result.now c.requires.firsts c.loop-done.invariant (rw c.len.ensures at c.loop-done-test.true) c.from-n.ensures c.index.ensures).rows

pub index-requires-in-loop-done : goal.index-requires-in-loop-done
index-requires-in-loop-done g c = (visits (plain_of c.args.grammar.now) c.args.firsts.now c.args.set.now c.loop-done.set c.loop-done.done c.from-n.result c.index.result.now c.requires.firsts c.loop-done.invariant (rw c.len.ensures at c.loop-done-test.true) c.from-n.ensures c.index.ensures).looks

pub index-requires-in-loop-done-2 : goal.index-requires-in-loop-done-2
index-requires-in-loop-done-2 g c = (visits (plain_of c.args.grammar.now) c.args.firsts.now c.args.set.now c.loop-done.set c.loop-done.done c.from-n.result c.index.result.now c.requires.firsts c.loop-done.invariant (rw c.len.ensures at c.loop-done-test.true) c.from-n.ensures c.index.ensures).links

pub visit-requires : goal.visit-requires
visit-requires g c =
    let v = visits (plain_of c.args.grammar.now) c.args.firsts.now c.args.set.now c.loop-done.set c.loop-done.done c.from-n.result c.index.result.now c.requires.firsts c.loop-done.invariant (rw c.len.ensures at c.loop-done-test.true) c.from-n.ensures c.index.ensures in
    let f = c.args.firsts.now in
    let n = c.from-n.result in
    let there = slice_get_read f.links (length f.links) n c.index-in-loop-done-2.result.now refl v.links c.index-in-loop-done-2.ensures in
    let row = c.requires.firsts.links n c.index-in-loop-done-2.result.now there in
    let size = c.loop-done.invariant.size in
    let same = c.as_slice.ensures in (
      lit< tt,
      (
        search rules,
        (
          search rules,
          (
            c.requires.few,
            (
              (λ k d l. let below = (rw same at l) in let t = row.below k d below in rw same (omega arith)),
              table_mid (plain_of c.args.grammar.now) f c.args.set.now c.loop-done.set _ c.loop-done.set c.loop-done.done n c.index-in-loop-done-2.result.now c.requires.firsts c.loop-done.invariant v.at there refl v.flag refl refl refl,
            ),
          ),
        ),
      ),
    )

pub loop-done-preserved : goal.loop-done-preserved
loop-done-preserved g c =
    let v = visits (plain_of c.args.grammar.now) c.args.firsts.now c.args.set.now c.loop-done.set c.loop-done.done c.from-n.result c.index.result.now c.requires.firsts c.loop-done.invariant (rw c.len.ensures at c.loop-done-test.true) c.from-n.ensures c.index.ensures in
    let f = c.args.firsts.now in
    let n = c.from-n.result in
    let there = slice_get_read f.links (length f.links) n c.index-in-loop-done-2.result.now refl v.links c.index-in-loop-done-2.ensures in
    let s = c.loop-done.set in
    let within : n < length s.looks.items = omega (arith, v.looks, s.looks.ok.0) in
    let was : c.copied-looks.result ≡ looks_at s n = c.copied-looks.ensures ∙ get_or_read s.looks.items n c.index-in-loop-done.result.now within c.index-in-loop-done.ensures [] in
    let added = rw (c.as_slice.ensures, was) at c.in_ok-visit.ensures in
    SpreadSoFar-step (plain_of c.args.grammar.now) f c.args.set.now s _ c.visit.new.self c.loop-done.done n c.index-in-loop-done-2.result.now c.requires.firsts c.loop-done.invariant v.at there refl v.flag refl refl refl added

pub loop-done-smaller : goal.loop-done-smaller
loop-done-smaller g c =
    let v = visits (plain_of c.args.grammar.now) c.args.firsts.now c.args.set.now c.loop-done.set c.loop-done.done c.from-n.result c.index.result.now c.requires.firsts c.loop-done.invariant (rw c.len.ensures at c.loop-done-test.true) c.from-n.ensures c.index.ensures in
    let f = c.args.firsts.now in
    let n = c.from-n.result in
    let there = slice_get_read f.links (length f.links) n c.index-in-loop-done-2.result.now refl v.links c.index-in-loop-done-2.ensures in
    let s = c.loop-done.set in
    let within : n < length s.looks.items = omega (arith, v.looks, s.looks.ok.0) in
    let was : c.copied-looks.result ≡ looks_at s n = c.copied-looks.ensures ∙ get_or_read s.looks.items n c.index-in-loop-done.result.now within c.index-in-loop-done.ensures [] in
    let added = rw (c.as_slice.ensures, was) at c.in_ok-visit.ensures in
    work_decreases (plain_of c.args.grammar.now) f c.args.set.now s _ c.visit.new.self c.loop-done.done n c.index-in-loop-done-2.result.now c.requires.firsts c.loop-done.invariant v.at there refl v.flag refl refl refl added

pub returns-clause-wanted : goal.returns-clause-wanted
returns-clause-wanted g c = λ kernel seeds. are_closure_looks (plain_of c.args.grammar.now) c.args.firsts.now kernel c.args.set.now c.loop-done.set c.loop-done.done c.requires.firsts c.loop-done.invariant
    (omega (arith, c.loop-done-test.false, c.len.ensures, c.loop-done.set.queue.ok.0)) (omega (arith, c.loop-done.set.looks.ok.0)) seeds

pub returns-clause-none_waits : goal.returns-clause-none_waits
returns-clause-none_waits g c = none_waiting (plain_of c.args.grammar.now) c.args.firsts.now c.args.set.now c.loop-done.set c.loop-done.done c.loop-done.invariant (omega (arith, c.loop-done-test.false, c.len.ensures, c.loop-done.set.queue.ok.0))
