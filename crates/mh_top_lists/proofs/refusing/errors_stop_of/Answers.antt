use Rattle.mh_top_lists.proofs.refusing.errors_stop_of.Goals as goal

pub returns-in-TooLong : goal.returns-in-TooLong
returns-in-TooLong c = rw c.in-TooLong.is c.too_long.ensures
