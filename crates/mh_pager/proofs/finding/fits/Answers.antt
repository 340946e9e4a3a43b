use Rattle.std.proofs.Common.{rules}
use Rattle.mh_grammar.specs.Plain.{plain_of}
use Rattle.mh_pager.proofs.HaveSameCoreList.{have_one_core}
use Rattle.mh_pager.proofs.finding.fits.Goals as goal

pub weakly_compatible-requires : goal.weakly_compatible-requires
weakly_compatible-requires g c =
    let p = plain_of c.args.grammar.now in
    (search rules, (c.requires.few, have_one_core p c.args.state.now c.args.kernel.now c.requires.state c.requires.kernel c.requires.core))

pub returns-in-Compatible : goal.returns-in-Compatible
returns-in-Compatible g c = rw c.in-Compatible.is c.weakly_compatible.ensures
