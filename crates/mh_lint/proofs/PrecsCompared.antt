-- The `%prec` whose levels are compared, by a list of the alternatives whose levels are.
use Rattle.std.proofs.Common.{◌≡◌, ◌↔◌, ◌+◌, ℕ, true, false, List, sym, ◌∙◌, inl, inr}
use Rattle.std.proofs.lemmas.Bool.{cases_Bool}
use Rattle.mh_reader_places.specs.declared.mentions.Mention.{Mention}
use Rattle.mh_lint_faults.specs.NameFaults.{has_own_prec}
use Rattle.mh_lint_faults.specs.Stages.{Stages}
use Rattle.mh_lint_faults.specs.code.MentionContexts.{HasOwnPrecs}
use Rattle.mh_lint.specs.Built.{Built}
use Rattle.mh_lint.specs.MentionWarnings.{IsAlternativeCompared, IsPrecCompared}
use Rattle.mh_lint.specs.MentionWarnings as warnings
use Rattle.mh_lint.specs.code.LevelUses.{IsPrecUsed}
use Rattle.mh_lint.specs.code.LevelUses as levels
use Rattle.mh_lint.specs.code.Uses.{HasPlace}
use Rattle.mh_lint.specs.declared.alternatives.AlternativeOf.{AlternativeOf}

module _ (s : Stages) (b : Built) (file : ℕ) (before : List Mention) (x : Mention) (alternatives : List AlternativeOf) (own : List ℕ) (are : (n : ℕ) → HasPlace alternatives (file + 1) n ↔ IsAlternativeCompared s b file n) (owned : HasOwnPrecs before own) where
  -- The `%prec` is used exactly if the level is compared.
  pub prec_used : IsPrecUsed alternatives (file + 1) own x.role → IsPrecCompared s b file before x
  prec_used (levels.IsPrecUsed.of_one n role has) = warnings.IsPrecCompared.own n role ((are n).0 has)
  prec_used (levels.IsPrecUsed.of_group low high n role l m free has) = warnings.IsPrecCompared.of_group low high n role l m (elim (cases_Bool (has_own_prec before n)) [ inl had ↦ absurd (free ((owned n).1 had)) | inr lacks ↦ lacks ]) ((are n).0 has)

  pub prec_compared : IsPrecCompared s b file before x → IsPrecUsed alternatives (file + 1) own x.role
  prec_compared (warnings.IsPrecCompared.own n role is) = levels.IsPrecUsed.of_one n role ((are n).1 is)
  prec_compared (warnings.IsPrecCompared.of_group low high n role l m lacks is) = levels.IsPrecUsed.of_group low high n role l m (λ c. (let bad : false ≡ true = sym lacks ∙ (owned n).0 c in cc)) ((are n).1 is)
