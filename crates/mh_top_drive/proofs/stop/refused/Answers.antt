use Rattle.mh_top_drive.proofs.stop.refused.Goals as goal

pub returns-in-Err : goal.returns-in-Err
returns-in-Err c = tt
