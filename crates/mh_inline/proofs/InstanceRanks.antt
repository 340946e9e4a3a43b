-- Proves that an instance with a rank above the ranks of all instances that it uses is on no cycle.
use Rattle.std.proofs.Common.{◌≡◌, ℕ, ◌+◌, ◌<◌, ◌≤◌, ◌↔◌, false, [], List, length, arith, sym, ◌∙◌}
use Rattle.std.specs.Prelude.{slice_index_or}
use Rattle.std.specs.List.{All, Contains}
use Rattle.std.proofs.lemmas.Bool.{false≢true}
use Rattle.std.proofs.lemmas.List.Elements.{All-contains}
use Rattle.mh_rules.specs.declared.instances.Instance.{Instance}
use Rattle.mh_inline_unfold.specs.Instances.{is_inlined, Inlines, Reaches}
use Rattle.mh_inline_unfold.specs.Instances.Reaches.{one, more}
use Rattle.mh_inline_unfold.specs.code.UsedInstances.{UsesInline}
use Rattle.mh_inline.specs.code.InstanceRanks.{IsRanked, AreRanked, IsRankedAbove}
use Rattle.mh_inline_unfold.proofs.InlineProducers.{inline_instance}

module _ (is : List Instance) (ranks : List ℕ) where
  made_by : (n m : ℕ) → Inlines is n m → UsesInline is n m
  made_by n m x = record { place = x.place; production = x.production; alternative = x.alternative; among = record { producer = x.producer; at = x.at; used = x.used_inlined } }

  lower : (n m : ℕ) → AreRanked is ranks → IsRankedAbove is ranks n (slice_index_or ranks n 0) → Reaches is n m → slice_index_or ranks m 0 < slice_index_or ranks n 0
  lower n m right above (one x) = above.each m (made_by n m x)
  lower n m right above (more {m = k} r x) = let a = lower n k right above r in let b = (right k).each m x in omega arith

  -- An instance with a higher rank than all inline instances that it uses does not reach itself.
  pub no_cycle : (n : ℕ) → AreRanked is ranks → IsRankedAbove is ranks n (slice_index_or ranks n 0) → Reaches is n n → ⊥
  no_cycle n right above r = let a = lower n n right above r in omega arith

  pub above_all : (n rank : ℕ) (ns : List ℕ) → ((m : ℕ) → Contains ns m ↔ UsesInline is n m) → All (λ m. slice_index_or ranks m 0 < rank) ns → IsRankedAbove is ranks n rank
  above_all n rank ns h below = record { each = λ m x. All-contains (λ k. slice_index_or ranks k 0 < rank) ns m below ((h m).1 x) }

  pub ranked_by : (n bound : ℕ) → bound ≤ slice_index_or ranks n 0 + 1 → IsRankedAbove is ranks n bound → IsRanked is ranks n
  ranked_by n bound h above = record { each = λ m x. let a = above.each m (made_by n m x) in omega arith }

  pub ranked_kept : (n : ℕ) → is_inlined is n ≡ false → IsRanked is ranks n
  ranked_kept n e = record { each = λ m x. absurd (false≢true (sym e ∙ x.user_inlined)) }

  -- All numbers are ranked if the numbers below the number of instances are ranked.
  pub all_ranked : ((n : ℕ) → n < length is → IsRanked is ranks n) → AreRanked is ranks
  all_ranked h n = record { each = λ m x. (h n (inline_instance is n x.user_inlined).within).each m x }

-- An empty list of ranks gives all instances the same rank.
pub none_ranked : (is : List Instance) → AreRanked is []
none_ranked is n = record { each = λ m x. omega arith }
