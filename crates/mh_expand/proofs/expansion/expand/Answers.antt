use Rattle.std.proofs.lemmas.Result.{IfOk-weaker}
use Rattle.mh_rules.specs.Ready.{IsExpandedReady}
use Rattle.mh_expand.specs.declared.fault.ExpandFault.{ExpandFault}
use Rattle.mh_expand.specs.Expansion.{IsExpanded, IsFirstFault}
use Rattle.mh_expand.specs.Sentences.{HasSameSentences}
use Rattle.mh_expand.specs.code.Contract.{ExpandContract}
use Rattle.mh_expand.proofs.expansion.expand.Goals as goal

pub returns-clause-ok : goal.returns-clause-ok
returns-clause-ok c =
    let j = c.args.joined.now in
    IfOk-weaker c.expand_with.result (ExpandContract j) (IsExpanded j) (λ e w. w.expanded) c.expand_with.ensures.ok

pub returns-clause-ready : goal.returns-clause-ready
returns-clause-ready c =
    let j = c.args.joined.now in
    IfOk-weaker c.expand_with.result (ExpandContract j) IsExpandedReady (λ e w. w.ready c.requires) c.expand_with.ensures.ok

pub returns-clause-sentences : goal.returns-clause-sentences
returns-clause-sentences c =
    let j = c.args.joined.now in
    IfOk-weaker c.expand_with.result (ExpandContract j) (HasSameSentences j) (λ e w. w.sentences) c.expand_with.ensures.ok

pub returns-clause-no_fault : goal.returns-clause-no_fault
returns-clause-no_fault c =
    let j = c.args.joined.now in
    IfOk-weaker c.expand_with.result (ExpandContract j) (λ _. (fault : ExpandFault) → IsFirstFault j fault → ⊥) (λ e w. w.no_fault) c.expand_with.ensures.ok
