use Rattle.std.proofs.Common.{refl}
use Rattle.std.proofs.lemmas.Result.{on_ok_weaker}
use Rattle.mh_reach_words.proofs.PartStacks.{opens_empty, opens_entry}
use Rattle.mh_reach_words.proofs.comparing.open.Goals as goal

pub returns-in-None : goal.returns-in-None
returns-in-None c = opens_empty c.args.entries.now c.args.number c.args.parts.now.items c.args.parts.now.items c.in-None.ensures refl

pub returns-in-Some : goal.returns-in-Some
returns-in-Some c =
    let h = c.in-Some.ensures in
    on_ok_weaker c.put_parts.result (opens_entry c.args.entries.now c.args.number c.args.parts.now.items c.put_parts.new.parts.items h.0 c.in-Some.entry c.requires.sound c.requires.known h.1 h.2) c.put_parts.ensures
