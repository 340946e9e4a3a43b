-- Proves that expanded instances have at most one grammar and at most one first fault.
use Rattle.std.proofs.Common.{◌≡◌, ℕ, ◌≤◌, false, List, length, refl, sym, ap, ◌∙◌, arith, inl, inr, subst}
use Rattle.std.specs.Option.{option_map}
use Rattle.std.specs.List.{slice_get, All}
use Rattle.std.proofs.lemmas.Bool.{false≢true, cases_lt}
use Rattle.std.proofs.lemmas.List.Elements.{All-contains}
use Rattle.std.proofs.lemmas.Option.{same_Some, slice_get_within, get_or_from_slice_get, slice_get-map}
use Rattle.mh_grammar.specs.declared.types.Production.{Production}
use Rattle.mh_grammar.specs.declared.types.Grammar.{Grammar}
use Rattle.mh_grammar.specs.Plain.{plain_of, IsProductive}
use Rattle.mh_grammar.proofs.NumberingInvariant.{contains_at}
use Rattle.mh_grammar.proofs.Lists.{rising_same}
use Rattle.mh_rules.specs.declared.instances.Expanded.{Expanded}
use Rattle.mh_rules.specs.declared.instances.Instance.{Instance}
use Rattle.mh_inline.specs.declared.fault.InlineFault.{InlineFault}
use Rattle.mh_inline.specs.declared.fault.InlineFault.TheVariants.{InlineCycle, InlineStart, TooManyProductions, EmptyLanguage, Memory}
use Rattle.mh_inline.specs.declared.origins.Origin.{Origin}
use Rattle.mh_inline_unfold.specs.Instances.{is_inlined}
use Rattle.mh_inline.specs.Kept.{nonterminal_number, IsOriginBefore}
use Rattle.mh_inline.specs.Inlined.{AreProductions, IsInlined}
use Rattle.mh_inline.specs.Cycles.{IsFirstCyclicAt}
use Rattle.mh_inline.specs.GrammarOfInstances.{HasNoInlineStart, IsWithinLimits, IsGrammarOf}
use Rattle.mh_inline.specs.Faults.{IsFault, IsFirstInlineStartAt, IsFirstEmptyAt, IsInstanceNamed, IsNotMemory, ExceedsLimits}
use Rattle.mh_inline.proofs.Limits.{productions_unique}

before_once : (x y : Origin) → IsOriginBefore x y → IsOriginBefore y x → ⊥
before_once x y (inl a) (inl b) = omega arith
before_once x y (inl a) (inr b) = let e = b.0 in omega arith
before_once x y (inr a) (inl b) = let e = a.0 in omega arith
before_once x y (inr (e, inl a)) (inr (f, inl b)) = omega arith
before_once x y (inr (e, inl a)) (inr (f, inr b)) = let g = b.0 in omega arith
before_once x y (inr (e, inr a)) (inr (f, inl b)) = let g = a.0 in omega arith
before_once x y (inr (e, inr (f, inl a))) (inr (g, inr (h, inl b))) = omega arith
before_once x y (inr (e, inr (f, inl a))) (inr (g, inr (h, inr b))) = let k = b.0 in omega arith
before_once x y (inr (e, inr (f, inr a))) (inr (g, inr (h, inl b))) = let k = a.0 in omega arith
before_once x y (inr (e, inr (f, inr a))) (inr (g, inr (h, inr b))) = let k = a.1 in let l = b.1 in omega arith

grammar_same : (g h : Grammar) → g.tokens ≡ h.tokens → g.nonterminals ≡ h.nonterminals → g.productions ≡ h.productions → g.starts ≡ h.starts → g ≡ h
grammar_same g h a b c d = λ i. record { tokens = a i; nonterminals = b i; productions = c i; starts = d i }

module _ (e : Expanded) where
  pub one_grammar : (g h : Grammar) → IsInlined e g → IsInlined e h → g ≡ h
  one_grammar g h i j =
      let origins = rising_same IsOriginBefore before_once i.origins j.origins i.ordered.rising j.ordered.rising (λ x. ((λ c. (j.ordered.exact x).1 ((i.ordered.exact x).0 c)), (λ c. (i.ordered.exact x).1 ((j.ordered.exact x).0 c)))) in
      let again = subst (λ xs. AreProductions e.tokens e.instances xs h.productions) (sym origins) j.productions in
      grammar_same g h (i.tokens ∙ sym j.tokens) (i.nonterminals ∙ sym j.nonterminals) (productions_unique e.tokens e.instances i.origins g.productions h.productions i.productions again) (i.starts ∙ sym j.starts)

  small_not_over : (g : Grammar) → IsWithinLimits g → ExceedsLimits g → ⊥
  small_not_over g s (inl o) = let f = s.few in omega arith
  small_not_over g s (inr a) = let short = All-contains (λ (p : Production). length p.rhs ≤ 10000) g.productions a.1 s.short (a.0, a.2, a.3) in let long = a.4 in omega arith

  kept_start : HasNoInlineStart e → (n : ℕ) → IsFirstInlineStartAt e n → ⊥
  kept_start k n f = false≢true (sym (subst (λ s. is_inlined e.instances s ≡ false) (get_or_from_slice_get e.starts f.place n n f.at) (k f.place n (slice_get_within e.starts f.place n f.at))) ∙ f.inlined)

  productive_start : (g : Grammar) → IsInlined e g → All (IsProductive (plain_of g)) g.starts → (n : ℕ) → IsFirstEmptyAt e g n → ⊥
  productive_start g i all n f =
      let at = ap (λ xs. slice_get xs f.place) i.starts ∙ slice_get-map (nonterminal_number e.instances) e.starts f.place ∙ ap (option_map (nonterminal_number e.instances)) f.at in
      f.not_productive (All-contains (IsProductive (plain_of g)) g.starts (nonterminal_number e.instances n) all (contains_at g.starts f.place (nonterminal_number e.instances n) at))

  pub grammar_excludes_fault : (g : Grammar) (f : InlineFault) → IsGrammarOf e g → IsFault e f → IsNotMemory f → ⊥
  grammar_excludes_fault g (InlineCycle name) o f m = o.acyclic f.number f.first.cyclic
  grammar_excludes_fault g (InlineStart name) o f m = kept_start o.kept f.1.number f.1.first
  grammar_excludes_fault g TooManyProductions o f m = small_not_over f.2 (subst IsWithinLimits (one_grammar g f.2 o.inlined f.3) o.within_limits) f.4
  grammar_excludes_fault g (EmptyLanguage name) o f m =
      let same = one_grammar g f.2 o.inlined f.3 in
      productive_start f.2 f.3 (subst (λ (h : Grammar). All (IsProductive (plain_of h)) h.starts) same o.productive) f.5.number f.5.first
  grammar_excludes_fault g Memory o f m = m

  named_once : (n m : ℕ) (a b : List ℕ) → n ≡ m → IsInstanceNamed e n a → IsInstanceNamed e m b → a ≡ b
  named_once n m a b same p q =
      let one = same_Some p.instance q.instance (sym p.at ∙ ap (slice_get e.instances) same ∙ q.at) in
      sym p.name_is ∙ ap (λ (i : Instance). i.name) one ∙ q.name_is

  cycle_once : (n m : ℕ) → IsFirstCyclicAt e n → IsFirstCyclicAt e m → n ≡ m
  cycle_once n m p q = elim (cases_lt n m) [
    | inl l ↦ absurd (q.first n l p.cyclic)
    | inr k ↦ elim (cases_lt m n) [ inl l ↦ absurd (p.first m l q.cyclic) | inr l ↦ omega arith ]
  ]

  start_once : (n m : ℕ) → IsFirstInlineStartAt e n → IsFirstInlineStartAt e m → n ≡ m
  start_once n m p q = elim (cases_lt p.place q.place) [
    | inl l ↦ absurd (false≢true (sym (q.first p.place n l p.at) ∙ p.inlined))
    | inr k ↦ elim (cases_lt q.place p.place) [
      | inl l ↦ absurd (false≢true (sym (p.first q.place m l q.at) ∙ q.inlined))
      | inr l ↦ (let same : p.place ≡ q.place = omega arith in same_Some n m (sym p.at ∙ ap (slice_get e.starts) same ∙ q.at))
    ]
  ]

  empty_once : (g h : Grammar) (n m : ℕ) → g ≡ h → IsFirstEmptyAt e g n → IsFirstEmptyAt e h m → n ≡ m
  empty_once g h n m one p q' =
      let q = subst (λ (k : Grammar). IsFirstEmptyAt e k m) (sym one) q' in
      elim (cases_lt p.place q.place) [
        | inl l ↦ absurd (p.not_productive (q.first p.place n l p.at))
        | inr k ↦ elim (cases_lt q.place p.place) [
          | inl l ↦ absurd (q.not_productive (p.first q.place m l q.at))
          | inr l ↦ (let same : p.place ≡ q.place = omega arith in same_Some n m (sym p.at ∙ ap (slice_get e.starts) same ∙ q.at))
        ]
      ]

  pub one_fault : (f h : InlineFault) → IsFault e f → IsFault e h → IsNotMemory f → IsNotMemory h → f ≡ h
  one_fault (InlineCycle a) (InlineCycle b) p q m n = ap InlineCycle (named_once p.number q.number a b (cycle_once p.number q.number p.first q.first) p.named q.named)
  one_fault (InlineCycle a) (InlineStart b) p q m n = absurd (q.0 p.number p.first.cyclic)
  one_fault (InlineCycle a) TooManyProductions p q m n = absurd (q.0 p.number p.first.cyclic)
  one_fault (InlineCycle a) (EmptyLanguage b) p q m n = absurd (q.0 p.number p.first.cyclic)
  one_fault (InlineCycle a) Memory p q m n = absurd n
  one_fault (InlineStart a) (InlineCycle b) p q m n = absurd (p.0 q.number q.first.cyclic)
  one_fault (InlineStart a) (InlineStart b) p q m n = ap InlineStart (named_once p.1.number q.1.number a b (start_once p.1.number q.1.number p.1.first q.1.first) p.1.named q.1.named)
  one_fault (InlineStart a) TooManyProductions p q m n = absurd (kept_start q.1 p.1.number p.1.first)
  one_fault (InlineStart a) (EmptyLanguage b) p q m n = absurd (kept_start q.1 p.1.number p.1.first)
  one_fault (InlineStart a) Memory p q m n = absurd n
  one_fault TooManyProductions (InlineCycle b) p q m n = absurd (p.0 q.number q.first.cyclic)
  one_fault TooManyProductions (InlineStart b) p q m n = absurd (kept_start p.1 q.1.number q.1.first)
  one_fault TooManyProductions TooManyProductions p q m n = refl
  one_fault TooManyProductions (EmptyLanguage b) p q m n = absurd (small_not_over p.2 (subst IsWithinLimits (one_grammar q.2 p.2 q.3 p.3) q.4) p.4)
  one_fault TooManyProductions Memory p q m n = absurd n
  one_fault (EmptyLanguage a) (InlineCycle b) p q m n = absurd (p.0 q.number q.first.cyclic)
  one_fault (EmptyLanguage a) (InlineStart b) p q m n = absurd (kept_start p.1 q.1.number q.1.first)
  one_fault (EmptyLanguage a) TooManyProductions p q m n = absurd (small_not_over q.2 (subst IsWithinLimits (one_grammar p.2 q.2 p.3 q.3) p.4) q.4)
  one_fault (EmptyLanguage a) (EmptyLanguage b) p q m n = ap EmptyLanguage (named_once p.5.number q.5.number a b (empty_once p.2 q.2 p.5.number q.5.number (one_grammar p.2 q.2 p.3 q.3) p.5.first q.5.first) p.5.named q.5.named)
  one_fault (EmptyLanguage a) Memory p q m n = absurd n
  one_fault Memory h p q m n = absurd m
