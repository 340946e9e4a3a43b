-- Lemmas on the items after a path of symbols: more items before the path give more items after the path, and a path
-- after a move is a path with one symbol more.
use Rattle.std.proofs.Common.{◌≡◌, ℕ, List, [], ◌∷◌, ◌++◌, refl, ap, subst, inl, inr}
use Rattle.mh_grammar.specs.declared.types.Symbol.{Symbol}
use Rattle.mh_grammar.specs.Plain.{PlainGrammar}
use Rattle.mh_grammar.specs.ItemSets.{ItemSet, Close, Moved, StartItems, PathItems}
use Rattle.mh_canon.proofs.ItemSets.{moved_within, Close-monotone}
use Rattle.mh_pager.specs.WeakCompatibility.{Covers}
use Rattle.mh_items_kernels.specs.Collection.{After}
use Rattle.mh_items_kernels.specs.Conflicts.{ShiftsOn, HasConflict, shift_reduce, reduce_reduce, HasStreamConflict, shift, reduce, HasAnyConflict, LeadsToBad}

pub after_covers : (g : PlainGrammar) (I J : ItemSet) → Covers I J → (path : List Symbol) → Covers (After g I path) (After g J path)
after_covers g I J h [] = h
after_covers g I J h (X ∷ path) = moved_within g (Close g (After g J path)) (Close g (After g I path)) X (Close-monotone g (After g J path) (After g I path) (after_covers g I J h path))

pub reach_is_after : (g : PlainGrammar) (i : ℕ) (path : List Symbol) → PathItems g i path ≡ After g (StartItems i) path
reach_is_after g i [] = refl
reach_is_after g i (X ∷ path) = ap (λ (I : ItemSet). Moved g (Close g I) X) (reach_is_after g i path)

-- A path after a move is a path with one symbol more.
pub after_move : (g : PlainGrammar) (I : ItemSet) (X : Symbol) (path : List Symbol) → After g (Moved g (Close g I) X) path ≡ After g I (path ++ X ∷ [])
after_move g I X [] = refl
after_move g I X (Y ∷ path) = ap (λ (J : ItemSet). Moved g (Close g J) Y) (after_move g I X path)

module _ (g : PlainGrammar) (I J : ItemSet) (covers : Covers I J) where
  more_shifts : (z : ℕ) → ShiftsOn g J z → ShiftsOn g I z
  more_shifts z s = record { production = s.production; dot = s.dot; look = s.look; rest = s.rest; item = Close-monotone g J I covers s.production s.dot s.look s.item; token_next = s.token_next }

  -- A larger item set has each conflict of a smaller one.
  pub more_conflicts : HasConflict g J → HasConflict g I
  more_conflicts (shift_reduce {z} s r) = shift_reduce (more_shifts z s) (Close-monotone g J I covers _ _ _ r)
  more_conflicts (reduce_reduce n r s) = reduce_reduce n (Close-monotone g J I covers _ _ _ r) (Close-monotone g J I covers _ _ _ s)

  more_ends : HasStreamConflict g J → HasStreamConflict g I
  more_ends (shift {z} r s) = shift (Close-monotone g J I covers _ _ _ r) (more_shifts z s)
  more_ends (reduce n r s) = reduce n (Close-monotone g J I covers _ _ _ r) (Close-monotone g J I covers _ _ _ s)

  pub more_any_conflicts : HasAnyConflict g J → HasAnyConflict g I
  more_any_conflicts (inl c) = inl (more_conflicts c)
  more_any_conflicts (inr c) = inr (more_ends c)

-- If a path leads from the move of a set to a conflict, some path leads from the set to a conflict.
pub move_leads_to_bad : (g : PlainGrammar) (Bad : ItemSet → Type 0) (I : ItemSet) (X : Symbol) → LeadsToBad g Bad (Moved g (Close g I) X) → LeadsToBad g Bad I
move_leads_to_bad g Bad I X t = (t.0 ++ X ∷ [], subst Bad (after_move g I X t.0) t.1)
