-- Proves that no state of the construction leads to a conflict if no start kernel does.
use Rattle.std.proofs.Common.{◌≡◌, ◌⊎◌, ◌<◌, ℕ, List, [], ◌∷◌, Some, length, sym, ◌∙◌, inl, inr}
use Rattle.std.specs.List.{slice_get}
use Rattle.std.proofs.lemmas.Option.{slice_get_within}
use Rattle.mh_grammar.specs.declared.types.Symbol.{Symbol}
use Rattle.mh_grammar.specs.Plain.{PlainGrammar}
use Rattle.mh_grammar.specs.ItemSets.{ItemSet, Close, Moved, StartItems}
use Rattle.mh_items_kernels.specs.KernelTypes.{Kernel}
use Rattle.mh_items_kernels.specs.Kernels.{Holds}
use Rattle.mh_items_kernels.specs.Automaton.{start_kernel}
use Rattle.mh_items_kernels.specs.Collection.{targets_of, After, edge_symbols}
use Rattle.mh_canon.proofs.ItemSets.{Holds-start}
use Rattle.mh_pager.specs.WeakCompatibility.{HaveSameCore, Covers, AreCompatible, IsJoin}
use Rattle.mh_items_kernels.specs.Conflicts.{HasConflict, HasAnyConflict, LeadsToBad}
use Rattle.mh_pager.specs.MergeSteps.{MergeState, PlacesMove, IsMoveOf, PlacesMoves, IsMergeStep, MergeSteps, none, more, IsInitial}
use Rattle.mh_pager.proofs.JoinConflicts.{conflict_of_join, any_conflict_of_join}
use Rattle.mh_pager.proofs.After.{after_covers, more_conflicts, more_any_conflicts, move_leads_to_bad}
use Rattle.mh_pager.proofs.PlacesMove.{KernelOrigin, stays, joins, fresh, kernel_origin}

-- A kind of conflict, as the proof needs it: it is monotone in the item set, and a join of compatible sets leads to it
-- only if one of them does.
pub record IsConflictKind (g : PlainGrammar) (Bad : ItemSet → Type 0) : Type 1 where
  pub grows : (I J : ItemSet) → Covers I J → Bad J → Bad I
  pub splits : (A B J : ItemSet) → HaveSameCore A B → AreCompatible A B → IsJoin A B J → (path : List Symbol) → Bad (After g J path) → Bad (After g A path) ⊎ Bad (After g B path)

pub conflict_is_kind : (g : PlainGrammar) → IsConflictKind g (HasConflict g)
conflict_is_kind g = record { grows = more_conflicts g; splits = conflict_of_join g }

pub any_conflict_is_kind : (g : PlainGrammar) → IsConflictKind g (HasAnyConflict g)
any_conflict_is_kind g = record { grows = more_any_conflicts g; splits = any_conflict_of_join g }

-- Some start kernel leads to the conflict.
abbrev pub StartLeadsToBad : PlainGrammar → (ItemSet → Type 0) → Type 0
StartLeadsToBad g Bad = (i : ℕ) × (i < length g.starts) × LeadsToBad g Bad (StartItems i)

module _ (g : PlainGrammar) (Bad : ItemSet → Type 0) (t : IsConflictKind g Bad) where
  troubled_covers : (I J : ItemSet) → Covers I J → LeadsToBad g Bad J → LeadsToBad g Bad I
  troubled_covers I J h x = (x.0, t.grows (After g I x.0) (After g J x.0) (after_covers g I J h x.0) x.1)

  joined_troubled : (A B J : ItemSet) → HaveSameCore A B → AreCompatible A B → IsJoin A B J → LeadsToBad g Bad J → LeadsToBad g Bad A ⊎ LeadsToBad g Bad B
  joined_troubled A B J core weak join x = elim (t.splits A B J core weak join x.0 x.1) [ inl b ↦ inl (x.0, b) | inr b ↦ inr (x.0, b) ]

  -- Each kernel of the list leads to the conflict only if some start kernel does.
  abbrev pub LeadToBadFromStartOnly : List Kernel → Type 0
  LeadToBadFromStartOnly kernels = (n : ℕ) (k : Kernel) → slice_get kernels n ≡ Some k → LeadsToBad g Bad (Holds k) → StartLeadsToBad g Bad

  put_quiet : (move : Kernel) (old new : MergeState) (n : ℕ) → PlacesMove g move old new n → (LeadsToBad g Bad (Holds move) → StartLeadsToBad g Bad) → LeadToBadFromStartOnly old.kernels → LeadToBadFromStartOnly new.kernels
  put_quiet move old new n p bad_from_start_only before m k at x = go (kernel_origin g move old new n p m k at)
    where
      go : KernelOrigin g move old new m k → StartLeadsToBad g Bad
      go (stays e) = before m k e x
      go (joins j e takes valid join q) = elim (joined_troubled (Holds j) (Holds move) (Holds k) takes.0 takes.1 join x) [ inl y ↦ before m j e y | inr y ↦ bad_from_start_only y ]
      go (fresh e same q) = bad_from_start_only (rw same at x)

  move_quiet : (k move : Kernel) (X : Symbol) → IsMoveOf g k X move → (LeadsToBad g Bad (Holds k) → StartLeadsToBad g Bad) → LeadsToBad g Bad (Holds move) → StartLeadsToBad g Bad
  move_quiet k move X m bad_from_start_only x = bad_from_start_only (move_leads_to_bad g Bad (Holds k) X (troubled_covers (Moved g (Close g (Holds k)) X) (Holds move) (λ p d a h. (m.same p d a).0 h) x))

  all_put_quiet : (k : Kernel) → (LeadsToBad g Bad (Holds k) → StartLeadsToBad g Bad) → (symbols : List Symbol) (targets : List ℕ) (old new : MergeState) → PlacesMoves g k symbols targets old new → LeadToBadFromStartOnly old.kernels → LeadToBadFromStartOnly new.kernels
  all_put_quiet k bad_from_start_only [] [] old new p before = rw p before
  all_put_quiet k bad_from_start_only [] (n ∷ targets) old new p before = absurd p
  all_put_quiet k bad_from_start_only (X ∷ symbols) [] old new p before = absurd p
  all_put_quiet k bad_from_start_only (X ∷ symbols) (n ∷ targets) old new p before =
      all_put_quiet k bad_from_start_only symbols targets p.1 new p.4 (put_quiet p.0 old p.1 n p.3 (move_quiet k p.0 X p.2 bad_from_start_only) before)

  step_quiet : (old new : MergeState) → IsMergeStep g old new → LeadToBadFromStartOnly old.kernels → LeadToBadFromStartOnly new.kernels
  step_quiet old new s before =
      let after : LeadToBadFromStartOnly s.placed.kernels = all_put_quiet s.kernel (before s.state s.kernel s.at) (edge_symbols s.row) (targets_of s.row) (record { kernels = old.kernels; rows = old.rows; queue = s.waiting }) s.placed s.moves_placed before in
      rw s.after after

  steps_quiet : (first last : MergeState) → MergeSteps g first last → LeadToBadFromStartOnly first.kernels → LeadToBadFromStartOnly last.kernels
  steps_quiet first last none before = before
  steps_quiet first last (more {old} s step) before = step_quiet old last step (steps_quiet first old s before)

  begun_quiet : (first : MergeState) → IsInitial g first → LeadToBadFromStartOnly first.kernels
  begun_quiet first b n k at x =
      let l : n < length g.starts = rw (← b.kernels.len) (slice_get_within first.kernels n k at) in
      let one : Some k ≡ Some (start_kernel n) = sym at ∙ b.kernels.each n l in
      let same : k ≡ start_kernel n = cc in
      (n, l, troubled_covers (StartItems n) (Holds (start_kernel n)) (λ p d a h. (Holds-start n p d a).0 h) (rw same at x))

  -- After any number of steps, no kernel leads to the conflict unless a start kernel does.
  pub bad_from_start_only : (first last : MergeState) → IsInitial g first → MergeSteps g first last → LeadToBadFromStartOnly last.kernels
  bad_from_start_only first last b s = steps_quiet first last s (begun_quiet first b)
