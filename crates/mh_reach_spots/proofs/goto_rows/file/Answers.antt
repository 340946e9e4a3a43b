use Rattle.std.proofs.Common.{◌<◌, ◌∙◌, ◌++◌, ◌∷◌, [], ap, arith, length, refl}
use Rattle.std.specs.Global.{Vec}
use Rattle.mh_facts.proofs.QueueRows.{adds_to_row}
use Rattle.mh_reach_spots.specs.declared.goto_rows.NumberedGoto.{NumberedGoto}
use Rattle.mh_reach_spots.specs.code.GotoRows.{numbered_goto}
use Rattle.mh_reach_spots.proofs.GotoRows.{files_one}
use Rattle.mh_reach_spots.proofs.goto_rows.file.Goals as goal

pub index_mut-requires : goal.index_mut-requires
index_mut-requires c = let a = c.class_of-place.ensures.within in let b = c.requires.rows in omega arith

pub returns : goal.returns
returns c =
    let lt : c.class_of-place.result.place < length c.args.rows.now.items = (let a = c.class_of-place.ensures.within in let b = c.requires.rows in omega arith) in
    let g = numbered_goto c.args.settled.now c.args.goto in
    files_one c.args.classes.now c.args.settled.now c.args.goto c.args.rows.now.items _
    (rw (← c.class_of-place.ensures.place) (adds_to_row c.args.rows.now.items _ c.class_of-place.result.place _ c.push.new.self lt refl g (rw c.numbered.ensures at c.in_ok-push.ensures.items ∙ ap (λ (v : Vec NumberedGoto). v.items ++ g ∷ []) c.index_mut.ensures.value)))
