-- Proves that the construction ends: each step decreases a measure.
use Rattle.std.proofs.Common.{◌≡◌, ◌+◌, ◌-◌, ◌*◌, ◌<◌, ◌≤◌, ℕ, zero, suc, List, [], ◌∷◌, ◌++◌, Some, set, length, refl, ap, ◌∙◌, arith, inl, inr}
use Rattle.std.specs.List.{slice_get}
use Rattle.std.proofs.lemmas.Bool.{cases_lt}
use Rattle.std.proofs.lemmas.List.{length-set, length_push}
use Rattle.mh_grammar.specs.declared.types.Symbol.{Symbol}
use Rattle.mh_grammar.specs.declared.edges.Edge.{Edge}
use Rattle.mh_grammar.specs.Plain.{PlainGrammar}
use Rattle.mh_items_kernels.specs.KernelTypes.{Kernel}
use Rattle.mh_items_kernels.specs.Collection.{targets_of, edge_symbols}
use Rattle.mh_pager.specs.MergeSteps.{MergeState, Enqueues, JoinsState, AppendsState, PlacesMove, PlacesMoves, IsMergeStep}
use Rattle.mh_pager.proofs.StepsAreUnique.{all_put_longer}
use Rattle.mh_pager.proofs.KernelSize.{size, max_size, size_within_max, size_covers}

-- The number of triples that the kernels lack, summed over all kernels.
pub gaps : PlainGrammar → List Kernel → ℕ
gaps g [] = 0
gaps g (k ∷ ks) = (max_size g - size g k) + gaps g ks

gaps_push : (g : PlainGrammar) (ks : List Kernel) (m : Kernel) → gaps g (ks ++ m ∷ []) ≡ gaps g ks + (max_size g - size g m)
unfolding gaps
gaps_push g [] m = omega arith
gaps_push g (k ∷ ks) m = omega (arith, gaps_push g ks m)

gaps_set : (g : PlainGrammar) (ks : List Kernel) (n : ℕ) (k j : Kernel) → slice_get ks n ≡ Some k → gaps g (set ks n j) + (max_size g - size g k) ≡ gaps g ks + (max_size g - size g j)
unfolding gaps
gaps_set g [] n k j e = cc
gaps_set g (i ∷ ks) zero k j e = let same : i ≡ k = cc in let sizes = ap (size g) same in omega arith
gaps_set g (i ∷ ks) (suc n) k j e = omega (arith, gaps_set g ks n k j e)

-- The measure of a moment of the construction, if the list may hold `limit` states.
pub weight : PlainGrammar → ℕ → MergeState → ℕ
weight g limit w = (suc limit - length w.kernels) * (max_size g + max_size g + 2) + (gaps g w.kernels + gaps g w.kernels) + length w.queue

queues_length : (old new : List ℕ) (n : ℕ) → Enqueues old n new → length new ≤ suc (length old)
queues_length old new n (inl q) = rw q.1 (omega arith)
queues_length old new n (inr q) = rw (q.1, length_push old n) (omega arith)

-- The join with a move that the state did not contain is larger than the state.
joined_more : (g : PlainGrammar) (move : Kernel) (old new : MergeState) (n : ℕ) (j : JoinsState g move old new n) → size g j.kernel < size g j.joined
joined_more g move old new n j = elim (cases_lt (size g j.kernel) (size g j.joined)) [
  | inl l ↦ l
  | inr l ↦ absurd (
      let covers = size_covers g j.joined j.kernel j.valid (λ p d a h. (j.join p d a).1 (inl h)) l in
      j.none_contains n j.kernel j.first.at (j.first.holds.0, λ p d a h. covers p d a ((j.join p d a).1 (inr h))))
]

module _ (g : PlainGrammar) (limit : ℕ) where
  joins_weight : (move : Kernel) (old new : MergeState) (n : ℕ) → JoinsState g move old new n → weight g limit new ≤ weight g limit old
  unfolding weight
  joins_weight move old new n j =
      let len : length new.kernels ≡ length old.kernels = ap length j.kernels ∙ length-set old.kernels n j.joined in
      let product : (suc limit - length new.kernels) * (max_size g + max_size g + 2) ≡ (suc limit - length old.kernels) * (max_size g + max_size g + 2) = ap (λ x. (suc limit - x) * (max_size g + max_size g + 2)) len in
      let is : gaps g new.kernels ≡ gaps g (set old.kernels n j.joined) = ap (gaps g) j.kernels in
      let gap = gaps_set g old.kernels n j.kernel j.joined j.first.at in
      omega (arith, product, is, gap, joined_more g move old new n j, size_within_max g j.joined, queues_length old.queue new.queue n j.queue)

  appends_weight : (move : Kernel) (old new : MergeState) (n : ℕ) → AppendsState move old new n → length new.kernels ≤ limit → weight g limit new ≤ weight g limit old
  unfolding weight
  appends_weight move old new n a few =
      let len : length new.kernels ≡ length old.kernels + 1 = ap length a.kernels ∙ length_push old.kernels move in
      let step : suc limit - length old.kernels ≡ suc (suc limit - length new.kernels) = omega arith in
      let product : (suc limit - length old.kernels) * (max_size g + max_size g + 2) ≡ (suc limit - length new.kernels) * (max_size g + max_size g + 2) + (max_size g + max_size g + 2) = (rw step (omega arith)) in
      let gap : gaps g new.kernels ≡ gaps g old.kernels + (max_size g - size g move) = ap (gaps g) a.kernels ∙ gaps_push g old.kernels move in
      let queue : length new.queue ≡ length old.queue + 1 = ap length a.queue ∙ length_push old.queue n in
      omega (arith, product, gap, queue, size_within_max g move)

  put_weight : (move : Kernel) (old new : MergeState) (n : ℕ) → PlacesMove g move old new n → length new.kernels ≤ limit → weight g limit new ≤ weight g limit old
  put_weight move old new n (inl f) few = rw f.same (omega arith)
  put_weight move old new n (inr (inl j)) few = joins_weight move old new n j
  put_weight move old new n (inr (inr a)) few = appends_weight move old new n a few

  all_put_weight : (k : Kernel) (symbols : List Symbol) (targets : List ℕ) (old new : MergeState) → PlacesMoves g k symbols targets old new → length new.kernels ≤ limit → weight g limit new ≤ weight g limit old
  all_put_weight k [] [] old new p few = rw p (omega arith)
  all_put_weight k [] (n ∷ targets) old new p few = absurd p
  all_put_weight k (X ∷ symbols) [] old new p few = absurd p
  all_put_weight k (X ∷ symbols) (n ∷ targets) old new p few =
      let later = all_put_longer g k symbols targets p.1 new p.4 in
      omega (arith, put_weight p.0 old p.1 n p.3 (omega arith), all_put_weight k symbols targets p.1 new p.4 few)

  weight_taken : (kernels : List Kernel) (rows others : List (List Edge)) (n : ℕ) (queue : List ℕ) → weight g limit (record { kernels = kernels; rows = rows; queue = queue }) < weight g limit (record { kernels = kernels; rows = others; queue = n ∷ queue })
  unfolding weight
  weight_taken kernels rows others n queue = omega arith

  weight_rows : (kernels : List Kernel) (rows others : List (List Edge)) (queue : List ℕ) → weight g limit (record { kernels = kernels; rows = rows; queue = queue }) ≡ weight g limit (record { kernels = kernels; rows = others; queue = queue })
  unfolding weight
  weight_rows kernels rows others queue = refl

  -- A step decreases the measure.
  pub step_weight : (old new : MergeState) → IsMergeStep g old new → length new.kernels ≤ limit → weight g limit new < weight g limit old
  step_weight old new s few =
      let placed : length s.placed.kernels ≤ limit = rw s.after at few in
      let put = all_put_weight s.kernel (edge_symbols s.row) (targets_of s.row) (record { kernels = old.kernels; rows = old.rows; queue = s.waiting }) s.placed s.moves_placed placed in
      let taken = weight_taken old.kernels old.rows old.rows s.state s.waiting in
      let now : weight g limit new ≡ weight g limit s.placed = ap (weight g limit) s.after ∙ weight_rows s.placed.kernels (set s.placed.rows s.state s.row) s.placed.rows s.placed.queue in
      let before : weight g limit old ≡ weight g limit (record { kernels = old.kernels; rows = old.rows; queue = s.state ∷ s.waiting }) = ap (λ (q : List ℕ). weight g limit (record { kernels = old.kernels; rows = old.rows; queue = q })) s.oldest in
      omega arith
