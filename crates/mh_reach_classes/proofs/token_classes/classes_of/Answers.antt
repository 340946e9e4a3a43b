use Rattle.mh_reach_classes.proofs.token_classes.classes_of.Goals as goal

pub returns : goal.returns
returns c = c.tested_classes.ensures
