-- Proves that the merged automaton, and the canonical one, has a conflict exactly if a path reaches one.
use Rattle.std.proofs.Common.{◌↔◌, ◌^◌, ◌<◌, ℕ, List, [], length, sym, subst, inl, inr}
use Rattle.mh_grammar.specs.declared.types.Symbol.{Symbol}
use Rattle.mh_grammar.specs.Plain.{PlainGrammar}
use Rattle.mh_grammar.specs.ItemSets.{ItemSet, PathItems}
use Rattle.mh_items_kernels.specs.KernelTypes.{Automaton}
use Rattle.mh_items_kernels.specs.Automaton.{kernel_at, kernel_of}
use Rattle.mh_items_kernels.specs.Collection.{HasItem}
use Rattle.mh_canon.specs.Canonical.{IsCanonical}
use Rattle.mh_canon.proofs.ItemSets.{HasItem-close}
use Rattle.mh_items_kernels.specs.Conflicts.{HasConflict, shift_reduce, reduce_reduce, shift, reduce, HasAnyConflict, AutomatonHasConflict, AutomatonHasAnyConflict}
use Rattle.mh_pager.specs.MergeSteps.{IsMerged}
use Rattle.mh_pager.specs.ReachedConflicts.{ReachesConflict, ReachesAnyConflict}
use Rattle.mh_pager.specs.CoversPaths.{CoversPaths}
use Rattle.mh_pager.proofs.CoversPaths.{covers_paths}
use Rattle.mh_pager.proofs.MergedIsAutomaton.{old_number, IsAutomaton-merged}
use Rattle.mh_pager.proofs.After.{reach_is_after}
use Rattle.mh_pager.proofs.NoNewConflict.{IsConflictKind, conflict_is_kind, any_conflict_is_kind, StartLeadsToBad, bad_from_start_only}

clash_has : (g : PlainGrammar) (I : ItemSet) → HasConflict g I → HasItem I
clash_has g I (shift_reduce s r) = HasItem-close g I _ _ _ r
clash_has g I (reduce_reduce n r s) = HasItem-close g I _ _ _ r

fault_has : (g : PlainGrammar) (I : ItemSet) → HasAnyConflict g I → HasItem I
fault_has g I (inl c) = clash_has g I c
fault_has g I (inr (shift r s)) = HasItem-close g I _ _ _ r
fault_has g I (inr (reduce n r s)) = HasItem-close g I _ _ _ r

module _ (g : PlainGrammar) (Bad : ItemSet → Type 0) (t : IsConflictKind g Bad) (has : (I : ItemSet) → Bad I → HasItem I) where
  abbrev IsBad : Automaton → Type 0
  IsBad a = (s : ℕ) × (s < length a.kernels) × Bad (kernel_of a s)

  -- Some item set of the canonical collection has the property Bad.
  abbrev IsReached : Type 0
  IsReached = (i : ℕ) × (path : List Symbol) × (i < length g.starts) × Bad (PathItems g i path)

  start_reached : StartLeadsToBad g Bad → IsReached
  start_reached s = (s.0, s.2.0, s.1, subst Bad (sym (reach_is_after g s.0 s.2.0)) s.2.1)

  reached_bad : (a : Automaton) → CoversPaths g a → IsReached → IsBad a
  reached_bad a covers r =
      let s = covers r.0 r.1 r.2 (has (PathItems g r.0 r.1) r.3) in
      (s.0, s.1, t.grows (kernel_of a s.0) (PathItems g r.0 r.1) s.3 r.3)

  canonical_reached : (c : Automaton) → IsCanonical g c → IsBad c → IsReached
  canonical_reached c is b =
      let r = is.sound b.0 b.1 in
      (r.start, r.path, r.known, t.grows (PathItems g r.start r.path) (kernel_of c b.0) (λ p d look h. (r.same p d look).0 h) b.2)

  reached_canonical : (c : Automaton) → IsCanonical g c → IsReached → IsBad c
  reached_canonical c is r =
      let s = is.complete r.0 r.1 r.2 (has (PathItems g r.0 r.1) r.3) in
      (s.0, s.1, t.grows (kernel_of c s.0) (PathItems g r.0 r.1) (λ p d look h. (s.2 p d look).1 h) r.3)

  merged_reached : (a : Automaton) → IsMerged g a → IsBad a → IsReached
  merged_reached a m b =
      let n = old_number g a m b.0 b.1 in
      start_reached (bad_from_start_only g Bad t m.first m.last m.is_initial m.steps n.0 (kernel_at a b.0) n.1.kernel ([], b.2))

  pub merged_agrees : (a : Automaton) → IsMerged g a → CoversPaths g a → IsBad a ↔ IsReached
  merged_agrees a m covers = (merged_reached a m, reached_bad a covers)

  pub canonical_agrees : (c : Automaton) → IsCanonical g c → IsBad c ↔ IsReached
  canonical_agrees c is = (canonical_reached c is, reached_canonical c is)

-- The merged automaton has a conflict exactly if paths reach an item set with a conflict.
module _ (g : PlainGrammar) (a : Automaton) (m : IsMerged g a) (few : length a.kernels < 2 ^ 32) where
  pub merged_reaches : AutomatonHasConflict g a ↔ ReachesConflict g
  merged_reaches = merged_agrees g (HasConflict g) (conflict_is_kind g) (clash_has g) a m (covers_paths g a (IsAutomaton-merged g a m few))

  pub merged_reaches_any : AutomatonHasAnyConflict g a ↔ ReachesAnyConflict g
  merged_reaches_any = merged_agrees g (HasAnyConflict g) (any_conflict_is_kind g) (fault_has g) a m (covers_paths g a (IsAutomaton-merged g a m few))

-- The same of the canonical automaton.
module _ (g : PlainGrammar) (c : Automaton) (is : IsCanonical g c) where
  pub canonical_reaches : AutomatonHasConflict g c ↔ ReachesConflict g
  canonical_reaches = canonical_agrees g (HasConflict g) (conflict_is_kind g) (clash_has g) c is

  pub canonical_reaches_any : AutomatonHasAnyConflict g c ↔ ReachesAnyConflict g
  canonical_reaches_any = canonical_agrees g (HasAnyConflict g) (any_conflict_is_kind g) (fault_has g) c is

module _ (g : PlainGrammar) (a c : Automaton) (m : IsMerged g a) (few : length a.kernels < 2 ^ 32) (is : IsCanonical g c) where
  pub conflicts_agree : AutomatonHasConflict g a ↔ AutomatonHasConflict g c
  conflicts_agree = ((λ h. (canonical_reaches g c is).1 ((merged_reaches g a m few).0 h)), λ h. (merged_reaches g a m few).1 ((canonical_reaches g c is).0 h))

  pub any_conflicts_agree : AutomatonHasAnyConflict g a ↔ AutomatonHasAnyConflict g c
  any_conflicts_agree = ((λ h. (canonical_reaches_any g c is).1 ((merged_reaches_any g a m few).0 h)), λ h. (merged_reaches_any g a m few).1 ((canonical_reaches_any g c is).0 h))
