use Rattle.mh_top_drive.proofs.Then.{then_on, then_stops}
use Rattle.mh_grammar.specs.Text.{Text}
use Rattle.mh_top_plans.specs.MessagesFiles.{AreMessagesOf, IsMessagesFile}
use Rattle.mh_top_plans.proofs.messages.messages_in.Goals as goal

pub returns-in-Ok : goal.returns-in-Ok
returns-in-Ok c = then_on (IsMessagesFile c.args.files.now.grammar.now c.args.name.now c.args.bytes.now) (AreMessagesOf c.args.files.now.table.now c.args.name.now) (λ (other : Text). ⊥) c.in-Ok.file c.messages_of.result c.in-Ok.ensures.stage c.messages_of.ensures

pub returns-in-Err : goal.returns-in-Err
returns-in-Err c = then_stops (IsMessagesFile c.args.files.now.grammar.now c.args.name.now c.args.bytes.now) (AreMessagesOf c.args.files.now.table.now c.args.name.now) (λ (other : Text). ⊥) c.in-Err.stop c.in-Err.ensures.stage
