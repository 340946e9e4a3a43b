-- Proves that modules have one grammar or one first fault, and that the numbers of the grammar are in range.
use Rattle.std.proofs.Common.{◌≡◌, ◌<◌, ◌≤◌, ◌⊎◌, Bool, List, [], ◌∷◌, ◌++◌, None, Some, Ok, flat_map, length, refl, sym, ap, subst, ◌∙◌, inl, inr, arith}
use Rattle.std.proofs.lemmas.List.{length-map}
use Rattle.mh_grammar.proofs.Lists.{nil_parts}
use Rattle.mh_grammar.specs.declared.types.Grammar.{Grammar}
use Rattle.mh_grammar.specs.Costs.{HaveCosts}
use Rattle.mh_grammar.specs.Numbering.{AreDistinct}
use Rattle.mh_grammar.specs.Plain.{plain_of, IsInRange}
use Rattle.mh_rules.specs.declared.modules.Module.{Module}
use Rattle.mh_join_names.specs.declared.fault.JoinFault.{JoinFault}
use Rattle.mh_join_names.specs.declared.fault.JoinFault.TheVariants as joining
use Rattle.mh_rules.specs.declared.joined.Joined.{Joined}
use Rattle.mh_grammar.specs.Text.{Text}
use Rattle.mh_join_names.specs.Names.{files}
use Rattle.mh_join_names.specs.Faults.{meanings, undefined_in_file, errors_in_file, unlevelled_in_file, many_tokens, other_faults, duplicates, join_faults, first, has_some, unless}
use Rattle.mh_join_names.specs.Joining.{Joins}
use Rattle.mh_rules.specs.Limits.{max_tokens}
use Rattle.mh_rules.specs.Ready.{AreModulesReady, IsExpandedReady}
use Rattle.mh_join.proofs.JoinedReady as joins
use Rattle.mh_expand.specs.declared.fault.ExpandFault.{ExpandFault}
use Rattle.mh_expand.specs.Expansion.{IsFirstFault}
use Rattle.mh_expand.proofs.MaxInstances.{few_instances}
use Rattle.mh_expand.proofs.UniqueOrder as order
use Rattle.mh_expand.proofs.InstancesInRange.{IsExpandedReady-expanded}
use Rattle.mh_expand.proofs.HasSameSentences.{has_same_sentences}
use Rattle.mh_inline.specs.declared.fault.InlineFault.{InlineFault}
use Rattle.mh_inline.specs.Kept.{nonterminal_number}
use Rattle.mh_inline.specs.GrammarOfInstances.{IsGrammarOf}
use Rattle.mh_inline.specs.Faults.{IsFault}
use Rattle.mh_inline.proofs.UniqueGrammar as only
use Rattle.mh_inline.proofs.Ranges as ranges
use Rattle.mh_inline.proofs.Sentences.{keeps_sentences}
use Rattle.mh_front.specs.declared.fault.GrammarFault.{GrammarFault}
use Rattle.mh_front.specs.declared.fault.GrammarFault.TheVariants.{Join, Expand, Inline, Memory}
use Rattle.mh_front.specs.Stages.{IsGrammarOfJoined, IsInstancesFault, IsJoinedFault, IsGrammarOfModules, IsGrammarFault, IsLaterFault}
use Rattle.mh_front.specs.Sentences.{HasSentencesOf, HasSentencesOfModules}
use Rattle.mh_front.proofs.SentencesKept.{has_sentences}

-- Lemmas on joined rules.

-- A fault of joined rules, by the stage that finds it.
record FromExpansion (j : Joined) (f : GrammarFault) : Type 0 where
  fault : ExpandFault
  first : IsFirstFault j fault
  is : Expand fault ≡ f

record FromInlining (j : Joined) (f : GrammarFault) : Type 0 where
  fault : InlineFault
  faulty : IsInstancesFault j fault
  is : Inline fault ≡ f

stage : (j : Joined) (f : GrammarFault) → IsJoinedFault j f → FromExpansion j f ⊎ FromInlining j f
stage j (Join fault) h = absurd h
stage j (Expand fault) h = inl (record { fault = fault; first = h; is = refl })
stage j (Inline fault) h = inr (record { fault = fault; faulty = h; is = refl })
stage j Memory h = absurd h

module _ (j : Joined) where
  one_of_joined : (g h : Grammar) → IsGrammarOfJoined j g → IsGrammarOfJoined j h → g ≡ h
  one_of_joined g h a b =
      let same = order.expanded_unique j b.expanded a.expanded b.expands a.expands in
      let again : IsGrammarOf a.expanded h = subst (λ e. IsGrammarOf e h) same b.grammar in
      only.one_grammar a.expanded g h a.grammar.inlined again.inlined

  one_inlining : (e f : InlineFault) → IsInstancesFault j e → IsInstancesFault j f → e ≡ f
  one_inlining e f a b =
      let same = order.expanded_unique j b.expanded a.expanded b.expands a.expands in
      only.one_fault a.expanded e f a.is_fault (subst (λ x. IsFault x f) same b.is_fault) a.not_memory b.not_memory

  one_joined_fault : (e f : GrammarFault) → IsJoinedFault j e → IsJoinedFault j f → e ≡ f
  one_joined_fault e f a b = elim (stage j e a) [
    | inl x ↦ elim (stage j f b) [
      | inl y ↦ sym x.is ∙ ap Expand (order.fault_unique j x.fault y.fault x.first y.first) ∙ y.is
      | inr y ↦ absurd (order.expanded_has_no_fault j y.faulty.expanded y.faulty.expands x.fault x.first)
    ]
    | inr x ↦ elim (stage j f b) [
      | inl y ↦ absurd (order.expanded_has_no_fault j x.faulty.expanded x.faulty.expands y.fault y.first)
      | inr y ↦ sym x.is ∙ ap Inline (one_inlining x.fault y.fault x.faulty y.faulty) ∙ y.is
    ]
  ]

  joined_or_fault : (g : Grammar) (f : GrammarFault) → IsGrammarOfJoined j g → IsJoinedFault j f → ⊥
  joined_or_fault g f a b = elim (stage j f b) [
    | inl x ↦ order.expanded_has_no_fault j a.expanded a.expands x.fault x.first
    | inr x ↦ (
        let same = order.expanded_unique j x.faulty.expanded a.expanded x.faulty.expands a.expands in
        only.grammar_excludes_fault a.expanded g x.fault a.grammar (subst (λ e. IsFault e x.fault) same x.faulty.is_fault) x.faulty.not_memory
        )
  ]

-- Lemmas on modules.

-- The fault f of a grammar is the first fault of joining the modules `ms`.
record FromJoining (p : Bool) (ms : List Module) (f : GrammarFault) : Type 0 where
  fault : JoinFault
  is_first : first (join_faults p ms) ≡ Some fault
  is : Join fault ≡ f

module _ (p : Bool) (ms : List Module) where
  stage_of_modules : (f : GrammarFault) → IsGrammarFault p ms f → FromJoining p ms f ⊎ IsLaterFault p ms f
  stage_of_modules (Join fault) h = inl (record { fault = fault; is_first = h; is = refl })
  stage_of_modules (Expand fault) h = inr h
  stage_of_modules (Inline fault) h = inr h
  stage_of_modules Memory h = absurd h

  no_join_fault : (j : Joined) (f : JoinFault) → Joins p ms (Ok j) → first (join_faults p ms) ≡ Some f → ⊥
  no_join_fault j f a e = let none : first (join_faults p ms) ≡ first {X = JoinFault} [] = ap first a.0 in cc

  pub one_grammar : (g h : Grammar) → IsGrammarOfModules p ms g → IsGrammarOfModules p ms h → g ≡ h
  one_grammar g h a b =
      let same = joins.one_joined p ms b.joined a.joined b.joins a.joins in
      one_of_joined a.joined g h a.grammar (subst (λ j. IsGrammarOfJoined j h) same b.grammar)

  pub one_fault : (e f : GrammarFault) → IsGrammarFault p ms e → IsGrammarFault p ms f → e ≡ f
  one_fault e f a b = elim (stage_of_modules e a) [
    | inl x ↦ elim (stage_of_modules f b) [
      | inl y ↦ (let both : Some x.fault ≡ Some y.fault = sym x.is_first ∙ y.is_first in let same : x.fault ≡ y.fault = cc in sym x.is ∙ ap Join same ∙ y.is)
      | inr y ↦ absurd (no_join_fault y.joined x.fault y.joins x.is_first)
    ]
    | inr x ↦ elim (stage_of_modules f b) [
      | inl y ↦ absurd (no_join_fault x.joined y.fault x.joins y.is_first)
      | inr y ↦ (
          let same = joins.one_joined p ms y.joined x.joined y.joins x.joins in
          one_joined_fault x.joined e f x.is_fault (subst (λ j. IsJoinedFault j f) same y.is_fault)
          )
    ]
  ]

  pub not_grammar_and_fault : (g : Grammar) (f : GrammarFault) → IsGrammarOfModules p ms g → IsGrammarFault p ms f → ⊥
  not_grammar_and_fault g f a b = elim (stage_of_modules f b) [
    | inl x ↦ no_join_fault a.joined x.fault a.joins x.is_first
    | inr x ↦ (
        let same = joins.one_joined p ms x.joined a.joined x.joins a.joins in
        joined_or_fault a.joined g f a.grammar (subst (λ j. IsJoinedFault j f) same x.is_fault)
        )
  ]

  -- Lemmas on properties of the grammar.

  some_start : (xs : List Text) → unless (has_some xs) joining.NoStart ≡ [] → 0 < length xs
  some_start [] e = cc
  some_start (x ∷ xs) e = omega arith

  pub has_start : (g : Grammar) → IsGrammarOfModules p ms g → 0 < length g.starts
  has_start g o =
      let w = meanings p ms in
      let j = o.joined in
      let e = o.grammar.expanded in
      let others = (nil_parts (duplicates w ms) (other_faults w ms) (nil_parts (flat_map (undefined_in_file w) (files ms)) (duplicates w ms ++ other_faults w ms) o.joins.0).1).1 in
      let named = (nil_parts (unless (has_some w.starts) joining.NoStart) (flat_map errors_in_file ms ++ (flat_map (unlevelled_in_file w) ms ++ many_tokens (length w.tokens))) others).0 in
      let some = some_start w.starts named in
      let of_joined = sym (length-map j.starts Some) ∙ ap length o.joins.1.starts_are ∙ length-map w.starts (w.numbers.rule None) in
      let of_expanded = (has_same_sentences j e o.grammar.expands).starts in
      let of_grammar = ap length o.grammar.grammar.inlined.starts ∙ length-map e.starts (nonterminal_number e.instances) in
      omega arith

  module _ (g : Grammar) (some : AreModulesReady ms) (o : IsGrammarOfModules p ms g) where
    expanded_ready : IsExpandedReady o.grammar.expanded
    expanded_ready =
        let j = o.joined in
        let e = o.grammar.expanded in
        let x = o.grammar.expands in
        IsExpandedReady-expanded j e x (joins.ready p ms j some o.joins) (few_instances j e x)

    pub few_tokens : length g.tokens ≤ max_tokens
    few_tokens =
        let same = ap length (o.grammar.grammar.inlined.tokens ∙ o.grammar.expands.tokens) in
        subst (λ n. n ≤ max_tokens) (sym same) (joins.ready p ms o.joined some o.joins).few_tokens

    pub have_costs : HaveCosts g.tokens
    have_costs = subst HaveCosts (sym o.grammar.grammar.inlined.tokens) expanded_ready.costs

    pub in_range : IsInRange (plain_of g)
    in_range = let i = o.grammar.grammar in ranges.in_range o.grammar.expanded expanded_ready i.kept g i.inlined i.within_limits

    pub distinct : AreDistinct g.starts
    distinct = let i = o.grammar.grammar in subst AreDistinct (sym i.inlined.starts) (ranges.distinct_starts o.grammar.expanded expanded_ready i.kept)

    pub sentences : HasSentencesOfModules p ms g
    sentences = λ j joined.
        let e = o.grammar.expanded in
        let i = o.grammar.grammar in
        let here = has_sentences o.joined e g (has_same_sentences o.joined e o.grammar.expands) i.inlined (keeps_sentences e expanded_ready g i.inlined i.kept) in
        subst (λ k. HasSentencesOf k g) (joins.one_joined p ms o.joined j o.joins joined) here
