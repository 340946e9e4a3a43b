-- Proves that sentences are kept by all stages together, because each stage keeps them.
use Rattle.std.proofs.Common.{◌<◌, length, get_or, sym, ap, subst, ◌∙◌}
use Rattle.std.proofs.lemmas.Option.{slice_get_within, slice_get-get_or}
use Rattle.std.proofs.lemmas.List.{length-map}
use Rattle.mh_grammar.specs.declared.types.Grammar.{Grammar}
use Rattle.mh_rules.specs.declared.joined.Joined.{Joined}
use Rattle.mh_rules.specs.declared.instances.Expanded.{Expanded}
use Rattle.mh_expand.specs.Sentences.{HasSameSentences}
use Rattle.mh_inline.specs.Kept.{nonterminal_number}
use Rattle.mh_inline.specs.Inlined.{IsInlined}
use Rattle.mh_inline.specs.Sentences.{KeepsSentences}
use Rattle.mh_front.specs.Sentences.{HasSentencesOf}

pub has_sentences : (j : Joined) (e : Expanded) (g : Grammar) → HasSameSentences j e → IsInlined e g → KeepsSentences e g → HasSentencesOf j g
has_sentences j e g s i k = record {
  starts = ap length i.starts ∙ length-map e.starts (nonterminal_number e.instances) ∙ s.starts;
  same = λ start rule w at.
      let within : start < length e.starts = subst (λ n. start < n) (sym s.starts) (slice_get_within j.starts start rule at) in
      let there = slice_get-get_or e.starts start 0 within in
      let terms = s.same start rule (get_or e.starts start 0) w at there in
      let parts = k start (get_or e.starts start 0) w there in
      ((λ t. parts.0 (terms.0 t)), (λ t. terms.1 (parts.1 t)));
}
