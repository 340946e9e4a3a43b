use Rattle.std.proofs.Common.{◌<◌, ◌++◌, ◌∷◌, [], length, Some, None, arith}
use Rattle.mh_check.specs.Checks.{BreaksSoundness, FirstFault}
use Rattle.mh_check.specs.code.Places.{entry_sentence, without_entries}
use Rattle.mh_check.proofs.ArePlaces.{shares, placed_more, breaks, ReportsCheckFault-weaker, at_place}
use Rattle.mh_check.proofs.places.place_sentence.Goals as goal

pub returns-in-Err-clause-places : goal.returns-in-Err-clause-places
returns-in-Err-clause-places c = λ done placed.
    let t = c.args.table.now in
    let here = entry_sentence c.args.entry c.args.sentence.now in
    ReportsCheckFault-weaker c.in-Err.fault (BreaksSoundness t (without_entries done) c.args.sentence.now) (FirstFault t (without_entries (done ++ here ∷ [])))
    (λ f broken. breaks t done here c.args.places.now.items f placed broken) (c.in-Err.ensures.fails (without_entries done))

pub returns-in-Some-clause-places : goal.returns-in-Some-clause-places
returns-in-Some-clause-places c = λ done placed.
    let here = entry_sentence c.args.entry c.args.sentence.now in
    let within : c.in-Ok.state < length c.args.places.now.items = omega (arith, c.in-Ok.ensures.known, c.requires.size) in
    shares c.args.table.now done here c.in-Ok.state c.args.places.now.items placed c.in-Ok.ensures.fails within c.in-Some.earlier
    (at_place c.args.places.now.items c.in-Ok.state (Some c.in-Some.earlier) c.index.result.now c.index.ensures within c.in-Some.is)

pub returns-in-None-clause-places : goal.returns-in-None-clause-places
returns-in-None-clause-places c = λ done placed.
    let here = entry_sentence c.args.entry c.args.sentence.now in
    let within : c.in-Ok.state < length c.args.places.now.items = omega (arith, c.in-Ok.ensures.known, c.requires.size) in
    placed_more c.args.table.now done here c.in-Ok.state c.args.places.now.items placed c.in-Ok.ensures.fails within (at_place c.args.places.now.items c.in-Ok.state None c.index.result.now c.index.ensures within c.in-None.is)
