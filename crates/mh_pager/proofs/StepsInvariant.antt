-- Proves the invariants of the construction.
use Rattle.std.proofs.Common.{◌≡◌, ◌+◌, ◌<◌, ◌≤◌, ℕ, List, [], ◌∷◌, Some, length, refl, sym, ap, ◌∙◌, arith, inl, inr}
use Rattle.std.specs.List.{slice_get}
use Rattle.std.proofs.lemmas.List.{length-replicate}
use Rattle.std.proofs.lemmas.List.FromFn.{length-range_with_len, get_or-range_with_len}
use Rattle.std.proofs.lemmas.Option.{slice_get_within, slice_get-get_or}
use Rattle.mh_grammar.specs.declared.types.Symbol.{Symbol}
use Rattle.mh_grammar.specs.declared.types.Look.{Look}
use Rattle.mh_grammar.specs.declared.types.Look.TheVariants.{End}
use Rattle.mh_grammar.specs.declared.edges.Edge.{Edge}
use Rattle.mh_grammar.specs.Plain.{PlainGrammar}
use Rattle.mh_grammar.specs.ItemSets as items
use Rattle.mh_grammar.specs.ItemSets.{ItemSet, Close, Moved, StartItems}
use Rattle.mh_grammar.proofs.Lists.{contains_at}
use Rattle.mh_items_kernels.specs.KernelTypes.{Kernel}
use Rattle.mh_items_kernels.specs.Kernels.{Holds, IsItemList}
use Rattle.mh_items_kernels.specs.Automaton.{start_kernel}
use Rattle.mh_items_kernels.specs.Collection.{HasItem, targets_of, edge_symbols}
use Rattle.mh_canon.proofs.PartialCollection.{IsItemList-start}
use Rattle.mh_canon.proofs.ItemSets.{Holds-start, Moved-positive_dot}
use Rattle.mh_pager.specs.WeakCompatibility.{IsInCore, IsJoin}
use Rattle.mh_pager.specs.MergeSteps.{MergeState, IsCompatibleWithMove, PlacesMove, IsMoveOf, PlacesMoves, IsMergeStep, MergeSteps, none, more, IsInitial, start_numbers}
use Rattle.mh_pager.proofs.PlacesMove.{KernelOrigin, stays, joins, fresh, kernel_origin, put_grows, join_extends}
use Rattle.mh_pager.proofs.HasItsEdges.{HaveEdgesOrAreQueued, step_length, step_settled}

-- Each item of a start production has the end of the stream as its look.
abbrev pub StartLooksAreEnd : PlainGrammar → ItemSet → Type 0
StartLooksAreEnd g I = (p d : ℕ) (a : Look) → I p d a → p < length g.starts → a ≡ End

-- The kernel may be that of a state: a nonempty item list whose start productions have the end of the stream as look.
pub record IsSound (g : PlainGrammar) (k : Kernel) : Type 0 where
  pub valid : IsItemList g k
  pub some : HasItem (Holds k)
  pub at_end : StartLooksAreEnd g (Holds k)

-- No dot is at the beginning of a right side.
abbrev pub HasNoDotAtBeginning : ItemSet → Type 0
HasNoDotAtBeginning I = (p d : ℕ) → IsInCore I p d → 0 < d

pub record AreSound (g : PlainGrammar) (kernels : List Kernel) : Type 0 where
  pub each : (n : ℕ) (k : Kernel) → slice_get kernels n ≡ Some k → IsSound g k
  pub starts : (i : ℕ) → i < length g.starts → slice_get kernels i ≡ Some (start_kernel i)
  pub moved : (n : ℕ) (k : Kernel) → slice_get kernels n ≡ Some k → length g.starts ≤ n → HasNoDotAtBeginning (Holds k)

close_at_end : (g : PlainGrammar) (I : ItemSet) → StartLooksAreEnd g I → StartLooksAreEnd g (Close g I)
close_at_end g I h p d a (items.Close.given i) l = h p d a i l
close_at_end g I h q d b (items.Close.added c e f m) l = absurd (omega (arith, f.ordinary))

moved_at_end : (g : PlainGrammar) (I : ItemSet) (X : Symbol) → StartLooksAreEnd g I → StartLooksAreEnd g (Moved g I X)
moved_at_end g I X h p d a (items.Moved.moved {d = d'} i e) l = h p d' a i l

-- A move of a sound kernel is sound, and no dot of the move is at the beginning.
pub move_sound : (g : PlainGrammar) (k move : Kernel) (X : Symbol) → IsMoveOf g k X move → IsSound g k → IsSound g move × HasNoDotAtBeginning (Holds move)
move_sound g k move X m s = (
  record {
    valid = m.valid;
    some = m.has_item;
    at_end = λ p d a h l. moved_at_end g (Close g (Holds k)) X (close_at_end g (Holds k) s.at_end) p d a ((m.same p d a).0 h) l;
  },
  λ p d h. Moved-positive_dot g (Close g (Holds k)) X p d h.0 ((m.same p d h.0).0 h.1),
)

-- A start kernel is not weakly compatible with a move.
start_takes_none : (i : ℕ) (move : Kernel) → IsCompatibleWithMove move (start_kernel i) → HasItem (Holds move) → HasNoDotAtBeginning (Holds move) → ⊥
start_takes_none i move t h dots =
    let back = (t.0 h.production h.dot).1 (h.look, h.holds) in
    let l = dots h.production h.dot (h.look, h.holds) in
    zero_dot h.production h.dot back.0 ((Holds-start i h.production h.dot back.0).0 back.1) l
  where
    zero_dot : (p d : ℕ) (a : Look) → StartItems i p d a → 0 < d → ⊥
    zero_dot p d a items.StartItems.begin l = omega arith

module _ (g : PlainGrammar) where
  joined_sound : (j move k : Kernel) → IsItemList g k → IsJoin (Holds j) (Holds move) (Holds k) → IsSound g j → IsSound g move → IsSound g k
  joined_sound j move k valid join s t = record {
    valid = valid;
    some = record { production = s.some.production; dot = s.some.dot; look = s.some.look; holds = (join s.some.production s.some.dot s.some.look).1 (inl s.some.holds) };
    at_end = λ p d a h l. elim ((join p d a).0 h) [ inl i ↦ s.at_end p d a i l | inr i ↦ t.at_end p d a i l ];
  }

  module _ (move : Kernel) (old new : MergeState) (n : ℕ) (p : PlacesMove g move old new n) (s : IsSound g move) (dots : HasNoDotAtBeginning (Holds move)) (before : AreSound g old.kernels) where
    each : (m : ℕ) (k : Kernel) → KernelOrigin g move old new m k → IsSound g k
    each m k (stays e) = before.each m k e
    each m k (joins j e takes valid join q) = joined_sound j move k valid join (before.each m j e) s
    each m k (fresh e same q) = rw same s

    start : (i : ℕ) (j : Kernel) → i < length g.starts → slice_get new.kernels i ≡ Some j → KernelOrigin g move old new i j → slice_get new.kernels i ≡ Some (start_kernel i)
    start i j l at (stays e) = at ∙ sym e ∙ before.starts i l
    start i j l at (joins h e takes valid join q) = absurd (
        let one : Some h ≡ Some (start_kernel i) = sym e ∙ before.starts i l in
        let same : h ≡ start_kernel i = cc in
        start_takes_none i move (rw same at takes) s.some dots)
    start i j l at (fresh e same q) = absurd (omega (arith, e, slice_get_within old.kernels i (start_kernel i) (before.starts i l)))

    moves : (m : ℕ) (k : Kernel) → length g.starts ≤ m → KernelOrigin g move old new m k → HasNoDotAtBeginning (Holds k)
    moves m k l (stays e) = before.moved m k e l
    moves m k l (joins j e takes valid join q) = λ r d h. before.moved m j e l r d (((join_extends (Holds j) (Holds move) (Holds k) takes.0 join).0.0 r d).1 h)
    moves m k l (fresh e same q) = rw same dots

    -- After a move is placed, the kernels are still sound.
    pub placed_sound : AreSound g new.kernels
    placed_sound = record {
      each = λ m k at. each m k (kernel_origin g move old new n p m k at);
      starts = λ i l. let j = put_grows g move old new n p i (start_kernel i) (before.starts i l) in start i j.0 l j.1 (kernel_origin g move old new n p i j.0 j.1);
      moved = λ m k at l. moves m k l (kernel_origin g move old new n p m k at);
    }

  -- After all moves of a kernel are placed, the kernels are still sound.
  all_placed_sound : (k : Kernel) → IsSound g k → (symbols : List Symbol) (targets : List ℕ) (old new : MergeState) → PlacesMoves g k symbols targets old new → AreSound g old.kernels → AreSound g new.kernels
  all_placed_sound k s [] [] old new p before = rw p before
  all_placed_sound k s [] (n ∷ targets) old new p before = absurd p
  all_placed_sound k s (X ∷ symbols) [] old new p before = absurd p
  all_placed_sound k s (X ∷ symbols) (n ∷ targets) old new p before =
      let m = move_sound g k p.0 X p.2 s in
      all_placed_sound k s symbols targets p.1 new p.4 (placed_sound p.0 old p.1 n p.3 m.0 m.1 before)

  step_sound : (old new : MergeState) → IsMergeStep g old new → AreSound g old.kernels → AreSound g new.kernels
  step_sound old new s before =
      let after : AreSound g s.placed.kernels = all_placed_sound s.kernel (before.each s.state s.kernel s.at) (edge_symbols s.row) (targets_of s.row) (record { kernels = old.kernels; rows = old.rows; queue = s.waiting }) s.placed s.moves_placed before in
      rw s.after after

-- The invariant of the steps.
pub record StepsInvariant (g : PlainGrammar) (w : MergeState) : Type 0 where
  pub len : length w.rows ≡ length w.kernels
  pub sound : AreSound g w.kernels
  pub settled : HaveEdgesOrAreQueued g w

pub step_keeps_invariant : (g : PlainGrammar) (old new : MergeState) → IsMergeStep g old new → StepsInvariant g old → StepsInvariant g new
step_keeps_invariant g old new s r = record {
  len = step_length g old new s r.len;
  sound = step_sound g old new s r.sound;
  settled = step_settled g old new s r.len r.settled;
}

start_sound : (g : PlainGrammar) (i : ℕ) → i < length g.starts → IsSound g (start_kernel i)
start_sound g i l = record {
  valid = IsItemList-start g i l;
  some = record { production = i; dot = 0; look = End; holds = (Holds-start i i 0 End).1 items.StartItems.begin };
  at_end = λ p d a h m. alone p d a ((Holds-start i p d a).0 h);
}
  where
    alone : (p d : ℕ) (a : Look) → StartItems i p d a → a ≡ End
    alone p d a items.StartItems.begin = refl

pub start_numbers_at : (g : PlainGrammar) (i : ℕ) → i < length g.starts → slice_get (start_numbers g) i ≡ Some i
start_numbers_at g i l =
    let m : i < length (start_numbers g) = rw (length-range_with_len 0 (length g.starts)) l in
    let e : 0 + i ≡ i = omega arith in
    slice_get-get_or (start_numbers g) i i m ∙ ap Some (get_or-range_with_len 0 (length g.starts) i i l ∙ e)

pub initial_invariant : (g : PlainGrammar) (w : MergeState) → IsInitial g w → StepsInvariant g w
initial_invariant g w b = record {
  len = ap length b.rows ∙ length-replicate {A = List Edge} (length g.starts) [] ∙ sym b.kernels.len;
  sound = record {
    each = λ n k at. rw (same n k at) (start_sound g n (within n k at));
    starts = b.kernels.each;
    moved = λ n k at l. absurd (omega (arith, within n k at, l));
  };
  settled = λ n k at. inl (rw b.queue (contains_at (start_numbers g) n n (start_numbers_at g n (within n k at))));
}
  where
    within : (n : ℕ) (k : Kernel) → slice_get w.kernels n ≡ Some k → n < length g.starts
    within n k at = rw (← b.kernels.len) (slice_get_within w.kernels n k at)

    same : (n : ℕ) (k : Kernel) → slice_get w.kernels n ≡ Some k → k ≡ start_kernel n
    same n k at = let one : Some k ≡ Some (start_kernel n) = sym at ∙ b.kernels.each n (within n k at) in cc

pub steps_invariant : (g : PlainGrammar) (first last : MergeState) → IsInitial g first → MergeSteps g first last → StepsInvariant g last
steps_invariant g first last b none = initial_invariant g first b
steps_invariant g first last b (more {old} s step) = step_keeps_invariant g old last step (steps_invariant g first old b s)
