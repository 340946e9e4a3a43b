use Rattle.std.proofs.Common.{◌≡◌, ◌∷◌, ◌++◌, ◌+◌, List, [], Some, length, refl, sym, ap, ◌∙◌}
use Rattle.std.specs.List.{slice_get}
use Rattle.std.proofs.lemmas.List.{length_push}
use Rattle.std.proofs.lemmas.Option.{slice_get_read, slice_get_within}
use Rattle.mh_grammar.specs.declared.edges.Edge.{Edge}
use Rattle.mh_pager.proofs.IsCoreIndex.{indexed_append}
use Rattle.mh_pager.proofs.worklist.Worklist.push.Goals as goal

pub returns-clause-ok : goal.returns-clause-ok
returns-clause-ok g c = record {
  last = refl;
  kernels = c.in_ok-push.ensures.items;
  rows = c.in_ok-push-3.ensures.items ∙ ap (λ (row : List Edge). c.args.self.now.rows.items ++ row ∷ []) c.new.ensures;
  queue = c.in_ok-add.ensures.states ∙ ap (λ n. c.args.self.now.queue.states.items ++ n ∷ []) c.requires.kept.flags;
}

pub returns-clause-kept : goal.returns-clause-kept
returns-clause-kept g c =
    let kernels = c.args.self.now.kernels in
    let index = c.args.self.now.index in
    let group = c.requires.group in
    let states = index.states.items in
    let read : slice_get states c.args.core ≡ Some c.index_mut.result.now = slice_get_read states (length states) c.args.core c.index_mut.result.now refl (slice_get_within states c.args.core group.group group.group_is) c.index_mut.ensures.value in
    let both : Some c.index_mut.result.now ≡ Some group.group = sym read ∙ group.group_is in
    let same : c.index_mut.result.now ≡ group.group = cc in
    let count : c.len-count.result ≡ length kernels.items = c.len-count.ensures ∙ kernels.ok.0 in
    let row : c.push-2.new.self ≡ group.group ++ length kernels.items ∷ [] = rw (same, count) at c.in_ok-push-2.ensures.ok in
    record {
      flagged = c.in_ok-add.ensures.flagged;
      flags = c.in_ok-add.ensures.len ∙ ap (λ n. n + 1) c.requires.kept.flags ∙ sym (length_push kernels.items c.args.kernel) ∙ ap length (sym c.in_ok-push.ensures.items);
      indexed = rw (c.in_ok-push.ensures.items, row) (indexed_append kernels.items index.places.entries states c.requires.kept.indexed c.args.kernel c.args.core group.group group.at group.group_is);
    }
