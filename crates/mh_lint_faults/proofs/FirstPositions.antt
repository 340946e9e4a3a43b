-- The first mention of a kind is unique, and so is the position at which a fault of instances is reported.
use Rattle.std.proofs.Common.{◌≡◌, ℕ, ◌<◌, List, ◌∷◌, ◌++◌, refl, sym, ap, subst, ◌∙◌, inl, inr, arith}
use Rattle.std.proofs.lemmas.Bool.{cases_lt}
use Rattle.std.proofs.lemmas.Option.{none-some, same_Some}
use Rattle.mh_expand.proofs.UniqueOrder.{compare_splits}
use Rattle.mh_expand.specs.declared.fault.ExpandFault.TheVariants as expanding
use Rattle.mh_front.specs.declared.fault.GrammarFault.{GrammarFault}
use Rattle.mh_front.specs.declared.fault.GrammarFault.TheVariants as front
use Rattle.mh_grammar.specs.Text.{Text}
use Rattle.mh_inline.specs.declared.fault.InlineFault.TheVariants as inlining
use Rattle.mh_join_names.specs.Faults.{Meanings}
use Rattle.mh_reader_places.specs.declared.mentions.Mention.{Mention}
use Rattle.mh_reader_places.specs.declared.reading.PlacedModule.{PlacedModule}
use Rattle.mh_rules.specs.declared.joined.Joined.{Joined}
use Rattle.mh_lint_findings.specs.declared.findings.Position.{Position}
use Rattle.mh_lint_findings.specs.declared.findings.Position.TheVariants.{InFile}
use Rattle.mh_lint_faults.specs.FaultLines.{IsDefinition, IsFaultAt, IsFirstDefinition, IsFirstWrongTerm, IsRulePosition, IsWrongTerm, named_instance}
use Rattle.mh_lint_faults.specs.FaultLines as faults
use Rattle.mh_lint_faults.specs.Stages.{Mentions}

-- ---- The first mention of a kind in the order of files and texts.

module _ (found : List PlacedModule) (Is : ℕ → List Mention → Mention → Type 0) (of_file : (file : ℕ) (before : List Mention) (x : Mention) → Is file before x → Mentions found file before x) where
  record IsEarliest (file : ℕ) (before : List Mention) (x : Mention) : Type 0 where
    is : Is file before x
    first_here : (earlier : List Mention) (y : Mention) (later : List Mention) → before ≡ earlier ++ y ∷ later → Is file earlier y → ⊥
    first_file : (other : ℕ) (others : List Mention) (y : Mention) → other < file → Is other others y → ⊥

  same_mention : (file : ℕ) (before others : List Mention) (x y : Mention) → IsEarliest file before x → IsEarliest file others y → x ≡ y
  same_mention file before others x y a b =
      let m = of_file file before x a.is in
      let n = of_file file others y b.is in
      let placed : m.placed ≡ n.placed = same_Some m.placed n.placed (sym m.of_files ∙ n.of_files) in
      let split : before ++ x ∷ m.after ≡ others ++ y ∷ n.after = sym m.split ∙ ap (λ (p : PlacedModule). p.mentions) placed ∙ n.split in
      elim (compare_splits before others x y m.after n.after split) [
        | inl same ↦ same.1
        | inr apart ↦ elim apart [
          | inl h ↦ absurd (b.first_here before x h.0 h.1 a.is)
          | inr h ↦ absurd (a.first_here others y h.0 h.1 b.is)
        ]
      ]

  earliest_once : (file other : ℕ) (before others : List Mention) (x y : Mention) → IsEarliest file before x → IsEarliest other others y → InFile file x.start ≡ InFile other y.start
  earliest_once file other before others x y a b = elim (cases_lt file other) [
    | inl less ↦ absurd (b.first_file file before x less a.is)
    | inr le ↦ elim (cases_lt other file) [
      | inl less ↦ absurd (a.first_file other others y less b.is)
      | inr ge ↦ (
          let same : other ≡ file = omega (arith, le, ge) in
          let one : x ≡ y = same_mention file before others x y a (subst (λ k. IsEarliest k others y) same b) in
          ap (λ k. InFile k x.start) (sym same) ∙ ap (λ (z : Mention). InFile other z.start) one
          )
    ]
  ]

module _ (w : Meanings) (found : List PlacedModule) (j : Joined) where
  definition_once : (number file other : ℕ) (before others : List Mention) (x y : Mention) → IsFirstDefinition w found file before x number → IsFirstDefinition w found other others y number → InFile file x.start ≡ InFile other y.start
  definition_once number file other before others x y a b =
      earliest_once found (λ k ms z. IsDefinition w found k ms z number) (λ k ms z d. d.of_file) file other before others x y
      (record { is = a.is; first_here = a.first_here; first_file = a.first_file }) (record { is = b.is; first_here = b.first_here; first_file = b.first_file })

  term_once : (printed : Text) (file other : ℕ) (before others : List Mention) (x y : Mention) → IsFirstWrongTerm found j file before x printed → IsFirstWrongTerm found j other others y printed → InFile file x.start ≡ InFile other y.start
  term_once printed file other before others x y a b =
      earliest_once found (λ k ms z. IsWrongTerm found j k ms z printed) (λ k ms z d. d.of_file) file other before others x y
      (record { is = a.is; first_here = a.first_here; first_file = a.first_file }) (record { is = b.is; first_here = b.first_here; first_file = b.first_file })

  -- ---- The position of a rule.

  rule_position_once : (printed : Text) (a b : Position) → IsRulePosition w found j printed a → IsRulePosition w found j printed b → a ≡ b
  rule_position_once printed a b (faults.IsRulePosition.at_definition file number before x named earliest is) (faults.IsRulePosition.at_definition other second others y called first so) =
      elim (cases_lt number second) [
        | inl less ↦ absurd (first file number before x less named is.is)
        | inr le ↦ elim (cases_lt second number) [
          | inl less ↦ absurd (earliest other second others y less called so.is)
          | inr ge ↦ (let same : second ≡ number = omega (arith, le, ge) in definition_once number file other before others x y is (subst (λ n. IsFirstDefinition w found other others y n) same so))
        ]
      ]
  rule_position_once printed a b (faults.IsRulePosition.at_definition file number before x named earliest is) (faults.IsRulePosition.of_all none) = absurd (none file number before x named is.is)
  rule_position_once printed a b (faults.IsRulePosition.of_all none) (faults.IsRulePosition.at_definition file number before x named earliest is) = absurd (none file number before x named is.is)
  rule_position_once printed a b (faults.IsRulePosition.of_all none) (faults.IsRulePosition.of_all never) = refl

  -- ---- The position of a fault.

  same_printed : (p q : Text) → front.Expand (expanding.Arity p) ≡ front.Expand (expanding.Arity q) → p ≡ q
  same_printed p q e = cc

  pub fault_position_once : (fault : GrammarFault) (a b : Position) → IsFaultAt w found j fault a → IsFaultAt w found j fault b → a ≡ b
  fault_position_once fault a b (faults.IsFaultAt.at_term file before x printed e is) (faults.IsFaultAt.at_term other others y name f so) =
      term_once printed file other before others x y is (subst (λ p. IsFirstWrongTerm found j other others y p) (same_printed name printed (sym f ∙ e)) so)
  fault_position_once fault a b (faults.IsFaultAt.at_term file before x printed e is) (faults.IsFaultAt.at_rule name at none f so) = absurd (none (printed, e, file, before, x, is.is))
  fault_position_once fault a b (faults.IsFaultAt.at_term file before x printed e is) (faults.IsFaultAt.of_grammar f) = absurd (let both : front.Expand (expanding.Arity printed) ≡ front.Inline inlining.TooManyProductions = sym e ∙ f in cc)
  fault_position_once fault a b (faults.IsFaultAt.at_rule name at none f so) (faults.IsFaultAt.at_term file before x printed e is) = absurd (none (printed, e, file, before, x, is.is))
  fault_position_once fault a b (faults.IsFaultAt.at_rule name at none f so) (faults.IsFaultAt.at_rule printed there never e is) =
      rule_position_once name at there so (subst (λ p. IsRulePosition w found j p there) (same_Some printed name (sym e ∙ f)) is)
  fault_position_once fault a b (faults.IsFaultAt.at_rule name at none f so) (faults.IsFaultAt.of_grammar e) = absurd (none-some name (ap named_instance (sym e) ∙ f))
  fault_position_once fault a b (faults.IsFaultAt.of_grammar f) (faults.IsFaultAt.at_term file before x printed e is) = absurd (let both : front.Expand (expanding.Arity printed) ≡ front.Inline inlining.TooManyProductions = sym e ∙ f in cc)
  fault_position_once fault a b (faults.IsFaultAt.of_grammar e) (faults.IsFaultAt.at_rule name at none f so) = absurd (none-some name (ap named_instance (sym e) ∙ f))
  fault_position_once fault a b (faults.IsFaultAt.of_grammar e) (faults.IsFaultAt.of_grammar f) = refl
