-- The contract of the expansion, as one record.
use Rattle.mh_rules.specs.declared.joined.Joined.{Joined}
use Rattle.mh_rules.specs.declared.instances.Expanded.{Expanded}
use Rattle.mh_rules.specs.Ready.{IsJoinedReady, IsExpandedReady}
use Rattle.mh_expand.specs.declared.fault.ExpandFault.{ExpandFault}
use Rattle.mh_expand.specs.Expansion.{IsExpanded, IsFirstFault}
use Rattle.mh_expand.specs.Sentences.{HasSameSentences}

-- The expanded grammar is right: it is the expansion, its parts are in range, it has the sentences of the joined rules,
-- and the joined rules have no fault.
pub record ExpandContract (j : Joined) (e : Expanded) : Type 0 where
  pub expanded : IsExpanded j e
  pub ready : IsJoinedReady j → IsExpandedReady e
  pub sentences : HasSameSentences j e
  pub no_fault : (fault : ExpandFault) → IsFirstFault j fault → ⊥
