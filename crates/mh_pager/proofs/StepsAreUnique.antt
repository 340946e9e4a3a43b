-- Proves that the steps are deterministic and have only one end.
use Rattle.std.proofs.Common.{◌≡◌, ◌⊎◌, ◌<◌, ◌≤◌, ℕ, List, [], ◌∷◌, ◌++◌, Some, set, length, refl, sym, ap, ◌∙◌, arith, inl, inr}
use Rattle.std.specs.List.{slice_get}
use Rattle.std.proofs.lemmas.Bool.{cases_lt}
use Rattle.std.proofs.lemmas.List.{length-set, length_push}
use Rattle.mh_grammar.proofs.Lists.{rising_same, cons_same}
use Rattle.mh_grammar.specs.declared.types.Symbol.{Symbol}
use Rattle.mh_grammar.specs.Plain.{PlainGrammar}
use Rattle.mh_grammar.specs.Edges.{IsSymbolBefore}
use Rattle.mh_grammar.specs.ItemSets.{ItemSet, Close, Moved}
use Rattle.mh_grammar.proofs.NumberingUnique.{equal_by_elements}
use Rattle.mh_items_kernels.specs.KernelTypes.{Kernel}
use Rattle.mh_items_kernels.specs.Kernels.{Holds, IsItemList}
use Rattle.mh_items_kernels.proofs.UniqueItemList.{kernel_same}
use Rattle.mh_canon.proofs.OneCanonical.{edges_unique}
use Rattle.mh_items_kernels.specs.Collection.{targets_of, edge_symbols}
use Rattle.mh_canon.proofs.ItemSets.{AreSameItems-sym, AreSameItems-trans}
use Rattle.mh_pager.specs.WeakCompatibility.{IsJoin}
use Rattle.mh_pager.specs.FirstState.{IsFirst}
use Rattle.mh_pager.specs.MergeSteps.{MergeState, ContainsMove, IsCompatibleWithMove, Enqueues, PlacesMove, IsMoveOf, PlacesMoves, AreMoveSymbols, IsMergeStep, MergeSteps, none, more, IsInitial, StepExceeds, MergingExceeds}
use Rattle.mh_grammar.proofs.EdgeOrder.{symbol_order_asymmetric}

-- Two moments with equal parts are equal.
one_work : (v w : MergeState) → v.kernels ≡ w.kernels → v.rows ≡ w.rows → v.queue ≡ w.queue → v ≡ w
one_work v w k r q = λ i. record { kernels = k i; rows = r i; queue = q i }

first_one : (P : Kernel → Type 0) (kernels : List Kernel) (m n : ℕ) (j k : Kernel) → IsFirst P kernels m j → IsFirst P kernels n k → (m ≡ n) × (j ≡ k)
first_one P kernels m n j k a b = (place, same)
  where
    place : m ≡ n
    place = elim (cases_lt m n) [
      | inl l ↦ absurd (b.earlier m j l a.at a.holds)
      | inr l ↦ elim (cases_lt n m) [ inl s ↦ absurd (a.earlier n k s b.at b.holds) | inr s ↦ omega arith ]
    ]

    same : j ≡ k
    same = let one : Some j ≡ Some k = sym a.at ∙ ap (slice_get kernels) place ∙ b.at in cc

queues_one : (old new other : List ℕ) (n : ℕ) → Enqueues old n new → Enqueues old n other → new ≡ other
queues_one old new other n (inl q) (inl r) = q.1 ∙ sym r.1
queues_one old new other n (inl q) (inr r) = absurd (r.0 q.0)
queues_one old new other n (inr q) (inl r) = absurd (q.0 r.0)
queues_one old new other n (inr q) (inr r) = q.1 ∙ sym r.1

join_one : (g : PlainGrammar) (A B : ItemSet) (j k : Kernel) → IsItemList g j → IsItemList g k → IsJoin A B (Holds j) → IsJoin A B (Holds k) → j ≡ k
join_one g A B j k valid_j valid_k a b = kernel_same g j k valid_j valid_k (λ p d x. ((λ h. (b p d x).1 ((a p d x).0 h)), (λ h. (a p d x).1 ((b p d x).0 h))))

module _ (g : PlainGrammar) where
  -- The target of a move and the next moment are unique.
  put_one : (move : Kernel) (old v w : MergeState) (m n : ℕ) → PlacesMove g move old v m → PlacesMove g move old w n → (v ≡ w) × (m ≡ n)
  put_one move old v w m n (inl a) (inl b) = (a.same ∙ sym b.same, (first_one (ContainsMove move) old.kernels m n a.kernel b.kernel a.first b.first).0)
  put_one move old v w m n (inl a) (inr (inl b)) = absurd (b.none_contains m a.kernel a.first.at a.first.holds)
  put_one move old v w m n (inl a) (inr (inr b)) = absurd (b.none_contains m a.kernel a.first.at a.first.holds)
  put_one move old v w m n (inr (inl a)) (inl b) = absurd (a.none_contains n b.kernel b.first.at b.first.holds)
  put_one move old v w m n (inr (inr a)) (inl b) = absurd (a.none_contains n b.kernel b.first.at b.first.holds)
  put_one move old v w m n (inr (inl a)) (inr (inl b)) =
      let f = first_one (IsCompatibleWithMove move) old.kernels m n a.kernel b.kernel a.first b.first in
      let join : IsJoin (Holds a.kernel) (Holds move) (Holds b.joined) = rw (← f.1) at b.join in
      let joined : a.joined ≡ b.joined = join_one g (Holds a.kernel) (Holds move) a.joined b.joined a.valid b.valid a.join join in
      let queue : Enqueues old.queue m w.queue = rw (← f.0) at b.queue in
      (one_work v w (a.kernels ∙ (λ i. set old.kernels (f.0 i) (joined i)) ∙ sym b.kernels) (a.rows ∙ sym b.rows) (queues_one old.queue v.queue w.queue m a.queue queue), f.0)
  put_one move old v w m n (inr (inl a)) (inr (inr b)) = absurd (b.none_compatible m a.kernel a.first.at a.first.holds)
  put_one move old v w m n (inr (inr a)) (inr (inl b)) = absurd (a.none_compatible n b.kernel b.first.at b.first.holds)
  put_one move old v w m n (inr (inr a)) (inr (inr b)) =
      let e : m ≡ n = a.last ∙ sym b.last in
      (one_work v w (a.kernels ∙ sym b.kernels) (a.rows ∙ sym b.rows) (a.queue ∙ ap (λ k. old.queue ++ k ∷ []) e ∙ sym b.queue), e)

  move_one : (k j m : Kernel) (X : Symbol) → IsMoveOf g k X j → IsMoveOf g k X m → j ≡ m
  move_one k j m X a b = kernel_same g j m a.valid b.valid (AreSameItems-trans (Holds j) (Moved g (Close g (Holds k)) X) (Holds m) a.same (AreSameItems-sym (Holds m) (Moved g (Close g (Holds k)) X) b.same))

  put_from : (move other : Kernel) (old v w : MergeState) (m n : ℕ) → move ≡ other → PlacesMove g move old v m → PlacesMove g other old w n → (v ≡ w) × (m ≡ n)
  put_from move other old v w m n e p q = put_one move old v w m n p (rw (← e) at q)

  -- The targets of several moves and the next moment are unique.
  pub all_put_unique : (k : Kernel) (symbols : List Symbol) (xs ys : List ℕ) (old v w : MergeState) → PlacesMoves g k symbols xs old v → PlacesMoves g k symbols ys old w → (v ≡ w) × (xs ≡ ys)
  all_put_unique k [] [] [] old v w p q = (p ∙ sym q, refl)
  all_put_unique k [] [] (n ∷ ys) old v w p q = absurd q
  all_put_unique k [] (m ∷ xs) ys old v w p q = absurd p
  all_put_unique k (X ∷ symbols) [] ys old v w p q = absurd p
  all_put_unique k (X ∷ symbols) (m ∷ xs) [] old v w p q = absurd q
  all_put_unique k (X ∷ symbols) (m ∷ xs) (n ∷ ys) old v w p q =
      let first = put_from p.0 q.0 old p.1 q.1 m n (move_one k p.0 q.0 X p.2 q.2) p.3 q.3 in
      let others : PlacesMoves g k symbols ys p.1 w = rw (← first.0) at q.4 in
      let rest = all_put_unique k symbols xs ys p.1 v w p.4 others in
      (rest.0, cons_same m n xs ys first.1 rest.1)

  -- Moves on the symbols of a concatenation: first those of the first list, then those of the second.
  pub all_put_split : (k : Kernel) (symbols rest : List Symbol) (targets : List ℕ) (old new : MergeState) → PlacesMoves g k (symbols ++ rest) targets old new → (mid : MergeState) × (xs ys : List ℕ) × PlacesMoves g k symbols xs old mid × PlacesMoves g k rest ys mid new
  all_put_split k [] rest targets old new p = (old, [], targets, refl, p)
  all_put_split k (X ∷ symbols) rest [] old new p = absurd p
  all_put_split k (X ∷ symbols) rest (n ∷ targets) old new p =
      let r = all_put_split k symbols rest targets p.1 new p.4 in
      (r.0, n ∷ r.1, r.2, (p.0, p.1, p.2, p.3, r.3), r.4)

  pub put_longer : (move : Kernel) (old new : MergeState) (n : ℕ) → PlacesMove g move old new n → length old.kernels ≤ length new.kernels
  put_longer move old new n (inl f) = rw f.same (omega arith)
  put_longer move old new n (inr (inl j)) = rw (j.kernels, length-set old.kernels n j.joined) (omega arith)
  put_longer move old new n (inr (inr a)) = rw (a.kernels, length_push old.kernels move) (omega arith)

  pub all_put_longer : (k : Kernel) (symbols : List Symbol) (targets : List ℕ) (old new : MergeState) → PlacesMoves g k symbols targets old new → length old.kernels ≤ length new.kernels
  all_put_longer k [] [] old new p = rw p (omega arith)
  all_put_longer k [] (n ∷ targets) old new p = absurd p
  all_put_longer k (X ∷ symbols) [] old new p = absurd p
  all_put_longer k (X ∷ symbols) (n ∷ targets) old new p = omega (arith, put_longer p.0 old p.1 n p.3, all_put_longer k symbols targets p.1 new p.4)

  pub step_longer : (old new : MergeState) → IsMergeStep g old new → length old.kernels ≤ length new.kernels
  step_longer old new s = rw s.after (all_put_longer s.kernel (edge_symbols s.row) (targets_of s.row) (record { kernels = old.kernels; rows = old.rows; queue = s.waiting }) s.placed s.moves_placed)

  pub steps_longer : (first last : MergeState) → MergeSteps g first last → length first.kernels ≤ length last.kernels
  steps_longer first last none = omega arith
  steps_longer first last (more {old} s step) = omega (arith, steps_longer first old s, step_longer old last step)

symbols_one : (g : PlainGrammar) (k : Kernel) (xs ys : List Symbol) → AreMoveSymbols g k xs → AreMoveSymbols g k ys → xs ≡ ys
symbols_one g k xs ys a b = rising_same IsSymbolBefore symbol_order_asymmetric xs ys a.rising b.rising (λ X. ((λ c. (b.exact X).1 ((a.exact X).0 c)), (λ c. (a.exact X).1 ((b.exact X).0 c))))

module _ (g : PlainGrammar) (old : MergeState) (state other : ℕ) (waiting others : List ℕ) (k j : Kernel) where
  -- The oldest state of the queue is unique.
  turn_one : old.queue ≡ state ∷ waiting → slice_get old.kernels state ≡ Some k → old.queue ≡ other ∷ others → slice_get old.kernels other ≡ Some j → (state ≡ other) × (waiting ≡ others) × (k ≡ j)
  turn_one q at r to =
      let both : state ∷ waiting ≡ other ∷ others = sym q ∙ r in
      let s : state ≡ other = cc in
      let w : waiting ≡ others = cc in
      let one : Some k ≡ Some j = sym at ∙ ap (slice_get old.kernels) s ∙ to in
      (s, w, cc)

module _ (g : PlainGrammar) where
  abbrev with_queue : MergeState → List ℕ → MergeState
  with_queue w queue = record { kernels = w.kernels; rows = w.rows; queue = queue }

  -- Two steps from one moment are equal.
  step_one : (old v w : MergeState) → IsMergeStep g old v → IsMergeStep g old w → v ≡ w
  step_one old v w a b =
      let t = turn_one g old a.state b.state a.waiting b.waiting a.kernel b.kernel a.oldest a.at b.oldest b.at in
      let moving : AreMoveSymbols g a.kernel (edge_symbols b.row) = rw (← t.2) at b.moving in
      let symbols : edge_symbols a.row ≡ edge_symbols b.row = symbols_one g a.kernel (edge_symbols a.row) (edge_symbols b.row) a.moving moving in
      let put : PlacesMoves g a.kernel (edge_symbols a.row) (targets_of b.row) (with_queue old a.waiting) b.placed = rw (t.2, t.1, symbols) b.moves_placed in
      let one = all_put_unique g a.kernel (edge_symbols a.row) (targets_of a.row) (targets_of b.row) (with_queue old a.waiting) a.placed b.placed a.moves_placed put in
      let row = edges_unique a.row b.row symbols one.1 in
      a.after ∙ (λ i. record { kernels = (one.0 i).kernels; rows = set (one.0 i).rows (t.0 i) (row i); queue = (one.0 i).queue }) ∙ sym b.after

  -- The two moments are equal, or a first step and further steps lead from the first to the second.
  abbrev First : MergeState → MergeState → Type 0
  First u w = (u ≡ w) ⊎ ((v : MergeState) × IsMergeStep g u v × MergeSteps g v w)

  first_of_steps : (u w : MergeState) → MergeSteps g u w → First u w
  first_of_steps u w none = inl refl
  first_of_steps u w (more {old} s step) = elim (first_of_steps u old s) [
    | inl e ↦ inr (w, rw e step, none)
    | inr f ↦ inr (f.0, f.1, more f.2 step)
  ]

  -- Each moment that the steps reach leads to the end.
  pub steps_from_middle : (first last : MergeState) → MergeSteps g first last → last.queue ≡ [] → (v : MergeState) → MergeSteps g first v → MergeSteps g v last
  steps_from_middle first last s done v none = s
  steps_from_middle first last s done v (more {old} t step) = elim (first_of_steps old last (steps_from_middle first last s done old t)) [
    | inl e ↦ absurd (let both : step.state ∷ step.waiting ≡ [] = sym step.oldest ∙ ap (λ (w : MergeState). w.queue) e ∙ done in cc)
    | inr f ↦ (let one : f.0 ≡ v = step_one old f.0 v f.1 step in rw (← one) f.2)
  ]

  -- Two ends of the steps are equal.
  pub end_unique : (first v w : MergeState) → MergeSteps g first v → v.queue ≡ [] → MergeSteps g first w → w.queue ≡ [] → v ≡ w
  end_unique first v w s done t over = elim (first_of_steps v w (steps_from_middle first w t over v s)) [
    | inl e ↦ e
    | inr f ↦ absurd (let step = f.1 in let both : step.state ∷ step.waiting ≡ [] = sym step.oldest ∙ done in cc)
  ]

  pub initial_unique : (v w : MergeState) → IsInitial g v → IsInitial g w → v ≡ w
  initial_unique v w a b = one_work v w
      (equal_by_elements v.kernels w.kernels (a.kernels.len ∙ sym b.kernels.len) (λ i l. let m : i < length g.starts = rw (← a.kernels.len) l in a.kernels.each i m ∙ sym (b.kernels.each i m)))
      (a.rows ∙ sym b.rows)
      (a.queue ∙ sym b.queue)

  -- If the construction ends within the limit, it never exceeded the limit.
  pub not_exceeding : (first last : MergeState) → IsInitial g first → MergeSteps g first last → last.queue ≡ [] → (limit : ℕ) → length last.kernels ≤ limit → MergingExceeds g limit → ⊥
  not_exceeding first last begun s done limit few swollen = go swollen.last swollen.step_exceeds (steps_from_middle swollen.first last (rw (initial_unique swollen.first first swollen.is_initial begun) s) done swollen.last swollen.steps)
    where
      last_not : (old : MergeState) → StepExceeds g limit old → old ≡ last → ⊥
      last_not old x e = let both : x.state ∷ x.waiting ≡ [] = sym x.oldest ∙ ap (λ (w : MergeState). w.queue) e ∙ done in cc

      on_the_way : (old next : MergeState) → StepExceeds g limit old → IsMergeStep g old next → length next.kernels ≤ limit → ⊥
      on_the_way old next x step within =
          let t = turn_one g old x.state step.state x.waiting step.waiting x.kernel step.kernel x.oldest x.at step.oldest step.at in
          let moving : AreMoveSymbols g x.kernel (edge_symbols step.row) = rw (← t.2) at step.moving in
          let symbols : x.symbols ++ x.rest ≡ edge_symbols step.row = symbols_one g x.kernel (x.symbols ++ x.rest) (edge_symbols step.row) x.moving moving in
          let put : PlacesMoves g x.kernel (x.symbols ++ x.rest) (targets_of step.row) (with_queue old x.waiting) step.placed = rw (t.2, t.1, symbols) step.moves_placed in
          let parts = all_put_split g x.kernel x.symbols x.rest (targets_of step.row) (with_queue old x.waiting) step.placed put in
          let one = all_put_unique g x.kernel x.symbols x.targets parts.1 (with_queue old x.waiting) x.placed parts.0 x.moves_placed parts.3 in
          let same = ap (λ (w : MergeState). length w.kernels) one.0 in
          let more_later = all_put_longer g x.kernel x.rest parts.2 parts.0 step.placed parts.4 in
          let kept : length next.kernels ≡ length step.placed.kernels = ap (λ (w : MergeState). length w.kernels) step.after in
          omega (arith, x.exceeds, same, more_later, kept, within)

      go : (old : MergeState) → StepExceeds g limit old → MergeSteps g old last → ⊥
      go old x t = elim (first_of_steps old last t) [
        | inl e ↦ last_not old x e
        | inr f ↦ on_the_way old f.0 x f.1 (omega (arith, steps_longer g f.0 last f.2, few))
      ]
