use Rattle.std.proofs.Common.{◌≤◌, length, sym, subst}
use Rattle.std.proofs.lemmas.Result.{IfOk-weaker, IfErr-weaker}
use Rattle.mh_grammar.specs.Costs.{HaveCosts}
use Rattle.mh_grammar.specs.Numbering.{AreDistinct}
use Rattle.mh_grammar.specs.Plain.{plain_of, IsInRange}
use Rattle.mh_rules.specs.Limits.{max_tokens}
use Rattle.mh_front.specs.Sentences.{HasSentencesOfModules}
use Rattle.mh_front.specs.Stages.{HasCauseOrMemory, IsGrammarOfJoined, IsGrammarOfModules, IsGrammarFault, IsJoinedFault}
use Rattle.mh_front.proofs.GrammarUnique as one
use Rattle.mh_front.proofs.StageFaults.{join_fault, later_fault}
use Rattle.mh_front.proofs.front.grammar_of.Goals as goal

pub returns-in-Ok-clause-tokens : goal.returns-in-Ok-clause-tokens
returns-in-Ok-clause-tokens c =
    let ms = c.args.modules.items in
    IfOk-weaker c.grammar_of_joined.result (IsGrammarOfJoined c.in-Ok.joined) (λ g. length g.tokens ≤ max_tokens) (λ g o. one.few_tokens c.args.prelude ms g c.requires (record { joined = c.in-Ok.joined; joins = (rw c.as_slice.ensures.value at c.in-Ok.ensures.joins); grammar = o })) c.grammar_of_joined.ensures.grammar

pub returns-in-Ok-clause-range : goal.returns-in-Ok-clause-range
returns-in-Ok-clause-range c =
    let ms = c.args.modules.items in
    IfOk-weaker c.grammar_of_joined.result (IsGrammarOfJoined c.in-Ok.joined) (λ g. IsInRange (plain_of g)) (λ g o. one.in_range c.args.prelude ms g c.requires (record { joined = c.in-Ok.joined; joins = (rw c.as_slice.ensures.value at c.in-Ok.ensures.joins); grammar = o })) c.grammar_of_joined.ensures.grammar

pub returns-in-Ok-clause-costs : goal.returns-in-Ok-clause-costs
returns-in-Ok-clause-costs c =
    let ms = c.args.modules.items in
    IfOk-weaker c.grammar_of_joined.result (IsGrammarOfJoined c.in-Ok.joined) (λ g. HaveCosts g.tokens) (λ g o. one.have_costs c.args.prelude ms g c.requires (record { joined = c.in-Ok.joined; joins = (rw c.as_slice.ensures.value at c.in-Ok.ensures.joins); grammar = o })) c.grammar_of_joined.ensures.grammar

pub returns-in-Ok-clause-distinct : goal.returns-in-Ok-clause-distinct
returns-in-Ok-clause-distinct c =
    let ms = c.args.modules.items in
    IfOk-weaker c.grammar_of_joined.result (IsGrammarOfJoined c.in-Ok.joined) (λ g. AreDistinct g.starts) (λ g o. one.distinct c.args.prelude ms g c.requires (record { joined = c.in-Ok.joined; joins = (rw c.as_slice.ensures.value at c.in-Ok.ensures.joins); grammar = o })) c.grammar_of_joined.ensures.grammar

pub returns-in-Ok-clause-sentences : goal.returns-in-Ok-clause-sentences
returns-in-Ok-clause-sentences c =
    let ms = c.args.modules.items in
    IfOk-weaker c.grammar_of_joined.result (IsGrammarOfJoined c.in-Ok.joined) (HasSentencesOfModules c.args.prelude ms) (λ g o. one.sentences c.args.prelude ms g c.requires (record { joined = c.in-Ok.joined; joins = (rw c.as_slice.ensures.value at c.in-Ok.ensures.joins); grammar = o })) c.grammar_of_joined.ensures.grammar

pub returns-in-Ok-clause-grammar : goal.returns-in-Ok-clause-grammar
returns-in-Ok-clause-grammar c = IfOk-weaker c.grammar_of_joined.result (IsGrammarOfJoined c.in-Ok.joined) (IsGrammarOfModules c.args.prelude c.args.modules.items) (λ g o. record { joined = c.in-Ok.joined; joins = (rw c.as_slice.ensures.value at c.in-Ok.ensures.joins); grammar = o }) c.grammar_of_joined.ensures.grammar

pub returns-in-Ok-clause-fault : goal.returns-in-Ok-clause-fault
returns-in-Ok-clause-fault c = IfErr-weaker c.grammar_of_joined.result (HasCauseOrMemory (IsJoinedFault c.in-Ok.joined)) (HasCauseOrMemory (IsGrammarFault c.args.prelude c.args.modules.items)) (λ f e. later_fault c.args.prelude c.args.modules.items c.in-Ok.joined f (rw c.as_slice.ensures.value at c.in-Ok.ensures.joins) e) c.grammar_of_joined.ensures.fault

pub returns-in-Err-clause-fault : goal.returns-in-Err-clause-fault
returns-in-Err-clause-fault c = subst (HasCauseOrMemory (IsGrammarFault c.args.prelude c.args.modules.items)) (sym c.from.ensures) (join_fault c.args.prelude c.args.modules.items c.in-Err.fault (rw c.as_slice.ensures.value at c.in-Err.ensures.joins))
