use Rattle.std.proofs.Common.{sym, subst}
use Rattle.std.proofs.lemmas.Result.{IfOk-weaker}
use Rattle.mh_grammar.specs.Numbering.{AreDistinct}
use Rattle.mh_grammar.specs.Plain.{plain_of, IsInRange}
use Rattle.mh_inline.specs.GrammarOfInstances.{IsGrammarOf}
use Rattle.mh_inline.specs.Sentences.{KeepsSentences}
use Rattle.mh_inline.proofs.Ranges.{in_range, distinct_starts}
use Rattle.mh_inline.proofs.Sentences.{keeps_sentences}
use Rattle.mh_inline.proofs.inlining.inline_rules.Goals as goal

pub returns-clause-range : goal.returns-clause-range
returns-clause-range c = IfOk-weaker c.inline_searched.result (IsGrammarOf c.args.expanded.now) (λ g. IsInRange (plain_of g)) (λ g o. in_range c.args.expanded.now c.requires o.kept g o.inlined o.within_limits) c.inline_searched.ensures.grammar

pub returns-clause-distinct : goal.returns-clause-distinct
returns-clause-distinct c = IfOk-weaker c.inline_searched.result (IsGrammarOf c.args.expanded.now) (λ g. AreDistinct g.starts) (λ g o. subst AreDistinct (sym o.inlined.starts) (distinct_starts c.args.expanded.now c.requires o.kept)) c.inline_searched.ensures.grammar

pub returns-clause-sentences : goal.returns-clause-sentences
returns-clause-sentences c = IfOk-weaker c.inline_searched.result (IsGrammarOf c.args.expanded.now) (KeepsSentences c.args.expanded.now) (λ g o. keeps_sentences c.args.expanded.now c.requires g o.inlined o.kept) c.inline_searched.ensures.grammar
