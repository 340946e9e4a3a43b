use Rattle.std.proofs.Common.{◌<◌, ◌≤◌, ℕ, length, take, arith}
use Rattle.std.proofs.lemmas.List.Elements.{All-take, recursion_from_All}
use Rattle.mh_tables_core.proofs.RefusalIsCut.{verdict_cut}
use Rattle.mh_expected.proofs.Overshoots.{refused_overshoots}
use Rattle.mh_top_modes.proofs.judging.refused_answer.Goals as goal

pub write_expected-requires-clause-at : goal.write_expected-requires-clause-at
write_expected-requires-clause-at c =
    let s = c.args.sentence.now in
    let early : c.args.at < length s.tokens = (verdict_cut c.args.by.now.halting.now s.start s.tokens c.args.at c.args.state c.requires.refused).0 in omega arith

pub write_expected-requires-clause-overshoots : goal.write_expected-requires-clause-overshoots
write_expected-requires-clause-overshoots c =
    let s = c.args.sentence.now in
    let t = c.args.by.now.halting.now in
    refused_overshoots t s.start s.tokens c.args.at c.args.state c.requires.refused c.table-rows.ensures.facts c.requires.sentence.start
    (recursion_from_All (λ (z : ℕ). z < t.grammar.tokens) (take c.args.at s.tokens) (All-take (λ (z : ℕ). z < t.grammar.tokens) c.args.at s.tokens c.requires.sentence.tokens))
