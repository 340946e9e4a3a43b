use Rattle.std.proofs.Common.{◌≡◌, ℕ, ◌∷◌, length, sym, ◌∙◌, refl, rules}
use Rattle.std.specs.List.{Contains}
use Rattle.std.specs.List.Sorted.{IsPermutation}
use Rattle.mh_items_kernels.proofs.KernelEquality.{item_Decides, kernel_Decides}
use Rattle.mh_pager.specs.code.Cores.{core_of}
use Rattle.mh_pager.proofs.IsCoreIndex.{found_is_placed, absent_not_placed, group_known, group_new, indexed_new}
use Rattle.mh_pager.proofs.index.CoreIndex.place.Goals as goal

pub returns-in-Some-clause-group : goal.returns-in-Some-clause-group
returns-in-Some-clause-group g c =
    let old = c.args.self.now in
    let found = found_is_placed c.in_ok-core.core _ old.places.entries c.in-Some.at (sym (c.copied.ensures ∙ c.get.ensures.value) ∙ c.in-Some.is) (λ k. kernel_Decides _ (λ p q. item_Decides _ (λ x y. search rules) p q _ refl) c.in_ok-core.core k _ refl) in
    group_known old.places.entries old.states.items (core_of c.args.kernel.now) c.in-Some.at c.requires.placed (rw c.in_ok-core.ensures at found)

pub returns-clause-group : goal.returns-clause-group
returns-clause-group g c =
    let old = c.args.self.now in
    let core = core_of c.args.kernel.now in
    let none = sym (c.copied.ensures ∙ c.get.ensures.value) ∙ c.in_default.is in
    let absent : (n : ℕ) → Contains old.places.entries (core, n) → ⊥ = (λ n h. absent_not_placed c.in_ok-core.core _ old.places.entries n none (λ k. kernel_Decides _ (λ p q. item_Decides _ (λ x y. search rules) p q _ refl) c.in_ok-core.core k _ refl) (rw (← c.in_ok-core.ensures) at h)) in
    let count : c.len-at.result ≡ length old.states.items = c.len-at.ensures ∙ old.states.ok.0 in
    let put : IsPermutation ((core, length old.states.items) ∷ old.places.entries) c.insert.new.self.entries = rw (c.in_ok-core.ensures, count) at (rw (c.in_ok-insert.ensures.old ∙ none) at c.in_ok-insert.ensures.entries) in
    rw (c.in_ok-push.ensures.items, c.new-2.ensures, count) (group_new old.places.entries c.insert.new.self.entries old.states.items core c.requires.placed absent put)

pub returns-clause-indexed : goal.returns-clause-indexed
returns-clause-indexed g c =
    let old = c.args.self.now in
    let core = core_of c.args.kernel.now in
    let none = sym (c.copied.ensures ∙ c.get.ensures.value) ∙ c.in_default.is in
    let absent : (n : ℕ) → Contains old.places.entries (core, n) → ⊥ = (λ n h. absent_not_placed c.in_ok-core.core _ old.places.entries n none (λ k. kernel_Decides _ (λ p q. item_Decides _ (λ x y. search rules) p q _ refl) c.in_ok-core.core k _ refl) (rw (← c.in_ok-core.ensures) at h)) in
    let count : c.len-at.result ≡ length old.states.items = c.len-at.ensures ∙ old.states.ok.0 in
    let put : IsPermutation ((core, length old.states.items) ∷ old.places.entries) c.insert.new.self.entries = rw (c.in_ok-core.ensures, count) at (rw (c.in_ok-insert.ensures.old ∙ none) at c.in_ok-insert.ensures.entries) in
    rw (c.in_ok-push.ensures.items, c.new-2.ensures) (indexed_new old.places.entries c.insert.new.self.entries old.states.items core c.requires.placed absent put)
