-- A file of those that were read: its module, with its places.
use Rattle.std.proofs.Common.{◌≡◌, ℕ, ◌<◌, List, Some, length, get_or, map, sym, ap, ◌∙◌, arith}
use Rattle.std.specs.List.{slice_get}
use Rattle.std.specs.Option.{option_map}
use Rattle.std.proofs.lemmas.Option.{get_or_from_slice_get, slice_get-map}
use Rattle.std.proofs.lemmas.List.{length-map}
use Rattle.mh_grammar.proofs.Lists.{get_within}
use Rattle.mh_rules.specs.declared.modules.Module.{Module}
use Rattle.mh_reader_places.specs.declared.mentions.Mention.{Mention}
use Rattle.mh_reader_places.specs.declared.reading.PlacedModule.{PlacedModule}
use Rattle.mh_lint_faults.specs.code.ReadFiles.{HasPlaces, IsSplit}
use Rattle.mh_lint_faults.specs.declared.reading.ReadFiles.{ReadFiles}

pub has_places : (found : List PlacedModule) (read : ReadFiles) → IsSplit found read → HasPlaces read
has_places found read split =
    let count = ap length split.modules ∙ length-map found (λ (p : PlacedModule). p.module) in
    record {
      mentions = ap length split.mentions ∙ length-map found (λ (p : PlacedModule). p.mentions) ∙ sym count;
      bad_costs = ap length split.bad_costs ∙ length-map found (λ (p : PlacedModule). p.bad_costs) ∙ sym count;
    }

-- An element of a mapped list.
mapped_at : {A B : Type 0} (f : A → B) (xs : List A) (ys : List B) (n : ℕ) (x : A) (d : B) → ys ≡ map f xs → slice_get xs n ≡ Some x → get_or ys n d ≡ f x
mapped_at f xs ys n x d e at = get_or_from_slice_get ys n (f x) d (ap (λ zs. slice_get zs n) e ∙ slice_get-map f xs n ∙ ap (option_map f) at)

module _ (found : List PlacedModule) (read : ReadFiles) (split : IsSplit found read) where
  pub file_at : (n : ℕ) → n < length read.modules.items → (placed : PlacedModule) × (slice_get found n ≡ Some placed)
  file_at n l = get_within found n (omega (arith, l, ap length split.modules, length-map found (λ (p : PlacedModule). p.module)))

  pub module_at : (n : ℕ) (placed : PlacedModule) (d : Module) → slice_get found n ≡ Some placed → get_or read.modules.items n d ≡ placed.module
  module_at n placed d at = mapped_at (λ (p : PlacedModule). p.module) found read.modules.items n placed d split.modules at

  pub mentions_at : (n : ℕ) (placed : PlacedModule) (d : List Mention) → slice_get found n ≡ Some placed → get_or read.mentions.items n d ≡ placed.mentions
  mentions_at n placed d at = mapped_at (λ (p : PlacedModule). p.mentions) found read.mentions.items n placed d split.mentions at

  pub costs_at : (n : ℕ) (placed : PlacedModule) (d : List ℕ) → slice_get found n ≡ Some placed → get_or read.bad_costs.items n d ≡ placed.bad_costs
  costs_at n placed d at = mapped_at (λ (p : PlacedModule). p.bad_costs) found read.bad_costs.items n placed d split.bad_costs at
