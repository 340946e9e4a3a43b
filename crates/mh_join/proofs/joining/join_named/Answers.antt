use Rattle.std.proofs.Common.{◌≡◌, [], subst}
use Rattle.std.specs.Prelude.{Ok}
use Rattle.mh_join_names.specs.Faults.{Meanings, faults_by}
use Rattle.mh_join_names.specs.Joining.{Joins}
use Rattle.mh_join_names.proofs.ReportsFirst.{IsFirstOrMemory}
use Rattle.mh_join.proofs.CanJoin.{can_join, joined_by}
use Rattle.mh_join.proofs.JoinedReady.{ready_if_joined}
use Rattle.mh_join.proofs.joining.join_named.Goals as goal

pub joined-requires : goal.joined-requires
joined-requires c = can_join c.args.prelude c.args.modules.now c.args.names.now c.args.from_prelude.now c.requires.named c.requires.ready c.requires.from_prelude c.in-Ok.ensures

pub returns-in-Ok-joined-clause-joins : goal.returns-in-Ok-joined-clause-joins
returns-in-Ok-joined-clause-joins c = (
  subst (λ (w : Meanings). faults_by w c.args.modules.now ≡ []) c.requires.named.meanings_are c.in-Ok.ensures,
  joined_by c.args.prelude c.args.modules.now c.args.names.now c.args.from_prelude.now c.in-Ok-joined.joined c.requires.named c.requires.from_prelude c.in-Ok-joined.ensures,
)

pub returns-in-Ok-joined-clause-ready : goal.returns-in-Ok-joined-clause-ready
returns-in-Ok-joined-clause-ready c =
    let joins : Joins c.args.prelude c.args.modules.now (Ok c.in-Ok-joined.joined) = (
      subst (λ (w : Meanings). faults_by w c.args.modules.now ≡ []) c.requires.named.meanings_are c.in-Ok.ensures,
      joined_by c.args.prelude c.args.modules.now c.args.names.now c.args.from_prelude.now c.in-Ok-joined.joined c.requires.named c.requires.from_prelude c.in-Ok-joined.ensures,
    ) in
    ready_if_joined c.args.prelude c.args.modules.now (Ok c.in-Ok-joined.joined) joins c.requires.ready

pub returns-in-Err-clause-joins : goal.returns-in-Err-clause-joins
returns-in-Err-clause-joins c = subst (λ (w : Meanings). IsFirstOrMemory (faults_by w c.args.modules.now) c.in-Err.fault) c.requires.named.meanings_are c.in-Err.ensures
