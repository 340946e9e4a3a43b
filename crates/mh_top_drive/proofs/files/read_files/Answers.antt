use Rattle.std.proofs.Common.{◌∙◌, arith, refl}
use Rattle.std.proofs.lemmas.List.{drop_all}
use Rattle.mh_top_drive.proofs.ReadFilesLoop.{so_far_ends, so_far_halts, so_far_next, so_far_start}
use Rattle.mh_top_drive.proofs.files.read_files.Goals as goal

pub loop-name-init : goal.loop-name-init
loop-name-init g c = record { so_far = rw c.new-items.ensures.items (so_far_start _ _ _); still = λ other may. may; may = c.requires.asked; kept = refl; calm = refl }

pub returns-in-Err-clause-items : goal.returns-in-Err-clause-items
returns-in-Err-clause-items g c =
    so_far_halts _ _ c.args.names.now _ c.loop-name.name-index c.name-item.result _ c.loop-name.invariant.kept (c.as_slice.ensures ∙ c.name-item.is) (omega arith) _ c.in-Err.stop
    c.loop-name.invariant.so_far c.in-Err.ensures.item

pub loop-name-preserved : goal.loop-name-preserved
loop-name-preserved g c = record {
  so_far = rw c.in_ok-push-in-Ok.ensures.items (so_far_next _ _ c.args.names.now _ c.loop-name.name-index c.name-item.result _ c.loop-name.invariant.kept (c.as_slice.ensures ∙ c.name-item.is) (omega arith) _ c.in-Ok.item c.loop-name.invariant.so_far c.in-Ok.ensures.item);
  still = λ other may. c.in-Ok.ensures.may_ask other (c.loop-name.invariant.still other may);
  may = λ k d lt. c.in-Ok.ensures.may_ask _ (c.loop-name.invariant.may k d lt);
  kept = c.in-Ok.ensures.kept ∙ c.loop-name.invariant.kept;
  calm = c.in-Ok.ensures.counts ∙ c.loop-name.invariant.calm;
}

pub returns-clause-items : goal.returns-clause-items
returns-clause-items g c = so_far_ends _ _ c.args.names.now _ _ (drop_all c.loop-name.name-index c.args.names.now c.loop-name-test.false) c.loop-name.invariant.so_far
