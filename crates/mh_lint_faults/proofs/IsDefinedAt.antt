-- The first definition of a rule.
use Rattle.std.proofs.Common.{◌≡◌, ℕ, ◌+◌, ◌<◌, ◌≤◌, List, Option, None, Some, length, sym, subst, arith}
use Rattle.std.specs.List.{slice_get}
use Rattle.std.proofs.lemmas.Option.{slice_get_within}
use Rattle.mh_rules.specs.declared.modules.Module.{Module}
use Rattle.mh_join_names.specs.Faults.{Meanings}
use Rattle.mh_reader_places.specs.declared.mentions.Mention.{Mention}
use Rattle.mh_reader_places.specs.declared.reading.PlacedModule.{PlacedModule}
use Rattle.mh_lint_findings.specs.declared.findings.Position.TheVariants.{InFile}
use Rattle.mh_grammar.specs.Text.{Text}
use Rattle.mh_rules.specs.declared.joined.Joined.{Joined}
use Rattle.mh_lint_findings.specs.declared.findings.Position.{Position}
use Rattle.mh_lint_faults.specs.FaultLines.{IsDefinition, IsFirstDefinition, IsFirstNamed, IsRuleNamed, IsRulePosition, rule_at}
use Rattle.mh_lint_faults.specs.FaultLines as faults
use Rattle.mh_lint_faults.specs.code.FirstMentions.{IsDefinedAt, IsFirstWith}
use Rattle.mh_lint_faults.specs.code.FirstMentions as first
use Rattle.mh_lint_faults.proofs.FirstMentions.{IsFirst, IsMention, NoneIn, first_in}

module _ (w : Meanings) (number : ℕ) where
  -- The mention is the name of a definition of the rule.
  abbrev pub Defines : ℕ → PlacedModule → Mention → Type 0
  Defines file placed x = rule_at w (file + 1) placed.module x ≡ Some number

  -- What was found in the module of a file was found in the file.
  pub found_in_file : (file : ℕ) (placed : PlacedModule) (k : ℕ) (m : Module) (xs : List Mention) (r : Option ℕ) → k ≡ file + 1 → m ≡ placed.module → xs ≡ placed.mentions → IsFirstWith (λ x. rule_at w k m x ≡ Some number) xs r → IsFirstWith (Defines file placed) placed.mentions r
  found_in_file file placed k m xs r ek em ex h =
      subst (λ ys. IsFirstWith (Defines file placed) ys r) ex
      (subst (λ n. IsFirstWith (λ x. rule_at w (file + 1) n x ≡ Some number) xs r) em (subst (λ j. IsFirstWith (λ x. rule_at w j m x ≡ Some number) xs r) ek h))

  module _ (found : List PlacedModule) where
    as_mention : (file : ℕ) (before : List Mention) (x : Mention) → IsDefinition w found file before x number → IsMention found Defines file before x
    as_mention file before x d = record { of_file = d.of_file; is = d.number_is }

    pub defined_at : (file : ℕ) (placed : PlacedModule) (start : ℕ) → slice_get found file ≡ Some placed → NoneIn found Defines file → IsFirstWith (Defines file placed) placed.mentions (Some start) → IsDefinedAt w found number (Some (InFile file start))
    defined_at file placed start at none is =
        let one = first_in found Defines file placed start at none is in
        let f = one.2 in
        subst (λ s. IsDefinedAt w found number (Some (InFile file s))) (sym one.3)
        (first.IsDefinedAt.first file one.0 one.1 (record {
          is = record { of_file = f.here.of_file; number_is = f.here.is };
          first_here = λ earlier y later e d. f.first_here earlier y later e (as_mention file earlier y d);
          first_file = λ other others y l d. f.first_file other others y l (as_mention other others y d);
        }))

    pub defined_nowhere : (n : ℕ) → length found ≤ n → NoneIn found Defines n → IsDefinedAt w found number None
    defined_nowhere n l none = first.IsDefinedAt.none (λ file before x d. none file before x (omega (arith, l, slice_get_within found file d.of_file.placed d.of_file.of_files)) (as_mention file before x d))

-- The position of the first rule that begins the printed name is that of its first definition.
pub at_rule : (w : Meanings) (found : List PlacedModule) (joined : Joined) (printed : Text) (number : ℕ) (at : Position) → IsRuleNamed joined printed number → IsFirstNamed w found joined printed number → IsDefinedAt w found number (Some at) → IsRulePosition w found joined printed at
at_rule w found joined printed number at named earliest (first.IsDefinedAt.first file before x is) = faults.IsRulePosition.at_definition file number before x named earliest is

pub undefined : (w : Meanings) (found : List PlacedModule) (number : ℕ) → IsDefinedAt w found number None → (file : ℕ) (before : List Mention) (x : Mention) → IsDefinition w found file before x number → ⊥
undefined w found number (first.IsDefinedAt.none none) = none
