-- Proves that the steps keep the preconditions of the code.
use Rattle.std.proofs.Common.{◌≡◌, ◌<◌, ℕ, List, [], ◌∷◌, ◌++◌, set, length, refl, ap, ◌∙◌, arith, inl, inr}
use Rattle.std.specs.List.{Contains}
use Rattle.std.proofs.lemmas.List.{length-set, length_push}
use Rattle.std.proofs.lemmas.List.Elements.{Contains-append_cases}
use Rattle.std.proofs.lemmas.Option.{slice_get_within}
use Rattle.mh_grammar.specs.declared.types.Symbol.{Symbol}
use Rattle.mh_grammar.specs.declared.edges.Edge.{Edge}
use Rattle.mh_grammar.specs.Plain.{PlainGrammar}
use Rattle.mh_grammar.proofs.Lists.{contains_there, contains_one}
use Rattle.mh_items_kernels.specs.KernelTypes.{Kernel}
use Rattle.mh_items_kernels.specs.Kernels.{IsItemList}
use Rattle.mh_items_kernels.specs.Collection.{targets_of, edge_symbols}
use Rattle.mh_pager.specs.code.ReachedByMerging.{IsWellFormed}
use Rattle.mh_pager.specs.MergeSteps.{MergeState, Enqueues, PlacesMove, IsMoveOf, PlacesMoves, IsMergeStep}
use Rattle.mh_pager.proofs.PlacesMove.{KernelOrigin, stays, joins, fresh, kernel_origin, put_length}

module _ (g : PlainGrammar) (move : Kernel) (old new : MergeState) (n : ℕ) (valid : IsItemList g move) (ready : IsWellFormed g old) where
  of_came : (m : ℕ) (k : Kernel) → KernelOrigin g move old new m k → IsItemList g k
  of_came m k (stays e) = ready.valid m k e
  of_came m k (joins j e takes is join q) = is
  of_came m k (fresh e same q) = rw same valid

  queued_more : Enqueues old.queue n new.queue → n < length old.kernels → length new.kernels ≡ length old.kernels → (m : ℕ) → Contains new.queue m → m < length new.kernels
  queued_more (inl q) l len m c = omega (arith, ready.queued m (rw q.1 at c), len)
  queued_more (inr q) l len m c = elim (Contains-append_cases old.queue (n ∷ []) m (rw q.1 at c)) [
    | inl d ↦ omega (arith, ready.queued m d, len)
    | inr d ↦ (let e = contains_one n m d in omega (arith, len))
  ]

  put_queued : PlacesMove g move old new n → (m : ℕ) → Contains new.queue m → m < length new.kernels
  put_queued (inl f) = rw f.same ready.queued
  put_queued (inr (inl j)) = queued_more j.queue (slice_get_within old.kernels n j.kernel j.first.at) (ap length j.kernels ∙ length-set old.kernels n j.joined)
  put_queued (inr (inr a)) = λ m c. elim (Contains-append_cases old.queue (n ∷ []) m (rw a.queue at c)) [
    | inl d ↦ omega (arith, ready.queued m d, ap length a.kernels, length_push old.kernels move)
    | inr d ↦ (let e = contains_one n m d in omega (arith, a.last, ap length a.kernels, length_push old.kernels move))
  ]

  pub put_well_formed : PlacesMove g move old new n → IsWellFormed g new
  put_well_formed p = record {
    valid = λ m k at. of_came m k (kernel_origin g move old new n p m k at);
    len = put_length g move old new n p ready.len;
    queued = put_queued p;
  }

pub all_put_well_formed : (g : PlainGrammar) (k : Kernel) (symbols : List Symbol) (targets : List ℕ) (old new : MergeState) → PlacesMoves g k symbols targets old new → IsWellFormed g old → IsWellFormed g new
all_put_well_formed g k [] [] old new p ready = rw p ready
all_put_well_formed g k [] (n ∷ targets) old new p ready = absurd p
all_put_well_formed g k (X ∷ symbols) [] old new p ready = absurd p
all_put_well_formed g k (X ∷ symbols) (n ∷ targets) old new p ready = all_put_well_formed g k symbols targets p.1 new p.4 (put_well_formed g p.0 old p.1 n p.2.valid ready p.3)

-- One more move is placed.
pub all_put_push : (g : PlainGrammar) (k : Kernel) (symbols : List Symbol) (targets : List ℕ) (old mid new : MergeState) (X : Symbol) (n : ℕ) (move : Kernel) → PlacesMoves g k symbols targets old mid → IsMoveOf g k X move → PlacesMove g move mid new n → PlacesMoves g k (symbols ++ X ∷ []) (targets ++ n ∷ []) old new
all_put_push g k [] [] old mid new X n move p m q = (move, new, m, rw p at q, refl)
all_put_push g k [] (t ∷ targets) old mid new X n move p m q = absurd p
all_put_push g k (Y ∷ symbols) [] old mid new X n move p m q = absurd p
all_put_push g k (Y ∷ symbols) (t ∷ targets) old mid new X n move p m q = (p.0, p.1, p.2, p.3, all_put_push g k symbols targets p.1 mid new X n move p.4 m q)

-- The precondition holds after the oldest state was taken from the queue.
pub rest_well_formed : (g : PlainGrammar) (kernels : List Kernel) (rows : List (List Edge)) (n : ℕ) (queue : List ℕ) → IsWellFormed g (record { kernels = kernels; rows = rows; queue = n ∷ queue }) → IsWellFormed g (record { kernels = kernels; rows = rows; queue = queue })
rest_well_formed g kernels rows n queue r = record { valid = r.valid; len = r.len; queued = λ m c. r.queued m (contains_there n queue m c) }

pub step_well_formed : (g : PlainGrammar) (old new : MergeState) → IsMergeStep g old new → IsWellFormed g old → IsWellFormed g new
step_well_formed g old new s ready =
    let oldest : IsWellFormed g (record { kernels = old.kernels; rows = old.rows; queue = s.state ∷ s.waiting }) = record { valid = ready.valid; len = ready.len; queued = λ n c. ready.queued n (rw s.oldest c) } in
    let placed = all_put_well_formed g s.kernel (edge_symbols s.row) (targets_of s.row) (record { kernels = old.kernels; rows = old.rows; queue = s.waiting }) s.placed s.moves_placed (rest_well_formed g old.kernels old.rows s.state s.waiting oldest) in
    let after : IsWellFormed g (record { kernels = s.placed.kernels; rows = set s.placed.rows s.state s.row; queue = s.placed.queue }) = record { valid = placed.valid; len = length-set s.placed.rows s.state s.row ∙ placed.len; queued = placed.queued } in
    rw s.after after
