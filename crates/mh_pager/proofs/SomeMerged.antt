-- Proves the double negation (`NotLacking`) of: a grammar has a merged automaton within a limit, or a list of more
-- states than the limit.
use Rattle.mh_pager.specs.code.MergeStep.{IsPlacedRow, ExceedsAtPrefix}
use Rattle.mh_pager.specs.code.ReachedByMerging.{IsWellFormed, IsReachedByMerging}
use Rattle.mh_items_kernels.specs.code.KernelMoves.{IsAfterDot}
use Rattle.std.proofs.Common.{◌≡◌, ℕ, zero, suc, ◌+◌, ◌<◌, ◌≤◌, ◌⊎◌, inl, inr, List, [], ◌∷◌, ◌++◌, Some, length, set, replicate, refl, sym, ap, subst, ◌∙◌, append_assoc, arith}
use Rattle.std.specs.List.{slice_get, Contains, All, AllByRecursion, AllZip}
use Rattle.std.proofs.lemmas.Bool.{cases_lt}
use Rattle.std.proofs.lemmas.List.{append-nil, length_push}
use Rattle.std.proofs.lemmas.List.Elements.{recursion_from_All}
use Rattle.mh_grammar.specs.declared.types.Symbol.{Symbol}
use Rattle.mh_grammar.specs.declared.edges.Edge.{Edge}
use Rattle.mh_grammar.specs.Plain.{PlainGrammar, IsInRange}
use Rattle.mh_grammar.specs.ItemSets.{AreSameItems, Close}
use Rattle.mh_grammar.proofs.Lists.{get_left, get_last, get_after_prefix, get_within, contains_at, contains_here, contains_there}
use Rattle.mh_items_kernels.specs.KernelTypes.{Kernel, Automaton}
use Rattle.mh_items_kernels.specs.Kernels.{Holds, IsItemList}
use Rattle.mh_items_kernels.specs.Automaton.{start_kernel}
use Rattle.mh_items_kernels.specs.Collection.{AreStarts}
use Rattle.mh_canon.proofs.PartialCollection.{AreStarts-none}
use Rattle.mh_pager.specs.MergeSteps.{MergeState, IsMergeStep, MergeSteps, none, more, IsInitial, StepExceeds, IsMerged, MergingExceeds, start_numbers}
use Rattle.mh_pager.proofs.IsMerged.{starts_within, AreTargetsInRange-list, IsMerged-list, few_list}
use Rattle.mh_pager.proofs.StepsInvariant.{steps_invariant}
use Rattle.mh_pager.proofs.IsPlacedRow.{IsPlacedRow-none, IsPlacedRow-push, ExceedsAtPrefix-push, has_move_if_after_dot, merge_step_of_row, step_exceeds, row_ready}
use Rattle.mh_pager.proofs.TerminationMeasure.{weight, step_weight}
use Rattle.mh_pager.proofs.IsReachedByMerging.{is_well_formed}
use Rattle.mh_grammar.specs.NotLacking.{NotLacking}
use Rattle.mh_grammar.proofs.NotLacking.{given, chain}
use Rattle.mh_canon.proofs.MovedKernels.{Moving, moving, move}
use Rattle.mh_pager.proofs.PlacedOnce.{put}
use Rattle.mh_pager.proofs.SomeRenumbering.{reached, pick}

starts : (n : ℕ) → (kernels : List Kernel) × AreStarts n kernels
starts zero = ([], AreStarts-none)
starts (suc n) =
    let s = starts n in (
      s.0 ++ start_kernel n ∷ [],
      record {
        len = (let l = s.1.len in omega (arith, length_push s.0 (start_kernel n), l));
        each = λ i l. elim (cases_lt i n) [
          | inl m ↦ get_left s.0 (start_kernel n ∷ []) i (start_kernel i) (s.1.each i m)
          | inr m ↦ (let one : n ≡ i = omega arith in subst (λ (k : ℕ). slice_get (s.0 ++ start_kernel n ∷ []) k ≡ Some (start_kernel k)) one (get_last s.0 (start_kernel n) n (sym s.1.len)))
        ];
      },
    )

module _ (g : PlainGrammar) (range : IsInRange g) (limit : ℕ) where
  module _ (k : Kernel) (m : Moving g k) (begin : MergeState) (ready : IsWellFormed g begin) where
    abbrev Gone : Type 0
    Gone = ((row : List Edge) × (new : MergeState) × IsPlacedRow g m.closed m.symbols row begin new × (length new.kernels ≤ limit)) ⊎ ExceedsAtPrefix g m.closed m.symbols begin limit

    behind : (front rest : List Symbol) (X : Symbol) → m.symbols ≡ front ++ X ∷ rest → IsAfterDot g m.closed X
    behind front rest X is = (m.exact X).0 (subst (λ (ss : List Symbol). Contains ss X) (sym is) (contains_at (front ++ X ∷ rest) (length front) X (get_after_prefix front X rest)))

    rows : (rest front : List Symbol) (mid : MergeState) (row : List Edge) → m.symbols ≡ front ++ rest → IsPlacedRow g m.closed front row begin mid → length mid.kernels ≤ limit → NotLacking Gone
    rows [] front mid row is r few = given (inl (row, mid, subst (λ (ss : List Symbol). IsPlacedRow g m.closed ss row begin mid) (sym (is ∙ append-nil front)) r, few))
    rows (X ∷ rest) front mid row is r few =
        let some = has_move_if_after_dot g m.closed X m.valid (behind front rest X is) in
        let next : m.symbols ≡ (front ++ X ∷ []) ++ rest = is ∙ sym (append_assoc front (X ∷ []) rest) in
        chain (move g range m.closed m.valid X) (λ v. chain (put g range v.0 mid v.1.kernel (row_ready g k m.closed m.same front row begin mid r ready)) (λ p. elim (cases_lt limit (length p.1.kernels)) [
          | inl over ↦ given (inr (ExceedsAtPrefix-push g m.closed v.0 X v.1.kernel v.1.same some front row begin mid p.1 r p.0 p.2 rest m.symbols next limit over))
          | inr fits ↦ rows rest (front ++ X ∷ []) p.1 (row ++ record { symbol = X; target = p.0 } ∷ []) next (IsPlacedRow-push g m.closed v.0 X v.1.kernel v.1.same some front row begin mid p.1 r p.0 p.2) fits
        ]))

  abbrev Listed : Type 0
  Listed = ((last : MergeState) × IsReachedByMerging g last × (last.queue ≡ []) × (length last.kernels ≤ limit)) ⊎ MergingExceeds g limit

  taken_ready : (w : MergeState) (state : ℕ) (waiting : List ℕ) → w.queue ≡ state ∷ waiting → IsWellFormed g w → IsWellFormed g (record { kernels = w.kernels; rows = w.rows; queue = waiting })
  taken_ready w state waiting e ready = record {
    valid = ready.valid;
    len = ready.len;
    queued = λ n c. ready.queued n (subst (λ (q : List ℕ). Contains q n) (sym e) (contains_there state waiting n c));
  }

  first_in : (w : MergeState) (state : ℕ) (waiting : List ℕ) → w.queue ≡ state ∷ waiting → IsWellFormed g w → state < length w.kernels
  first_in w state waiting e ready = ready.queued state (subst (λ (q : List ℕ). Contains q state) (sym e) (contains_here state waiting))

  list : (fuel : ℕ) (w : MergeState) (q : List ℕ) → w.queue ≡ q → IsReachedByMerging g w → length w.kernels ≤ limit → weight g limit w < fuel → NotLacking Listed
  list zero w q e l few enough = absurd (omega arith)
  list (suc fuel) w [] e l few enough = given (inl (w, l, e, few))
  list (suc fuel) w (state ∷ waiting) e l few enough =
      let ready = is_well_formed g w l in
      let k = get_within w.kernels state (first_in w state waiting e ready) in
      chain (moving g range k.0 (ready.valid state k.0 k.1)) (λ m. chain (rows k.0 m (record { kernels = w.kernels; rows = w.rows; queue = waiting }) (taken_ready w state waiting e ready) m.symbols [] (record { kernels = w.kernels; rows = w.rows; queue = waiting }) [] refl (IsPlacedRow-none g m.closed (record { kernels = w.kernels; rows = w.rows; queue = waiting })) few) (λ r. elim r [
        | inl gone ↦ (
            let new : MergeState = record { kernels = gone.1.kernels; rows = set gone.1.rows state gone.0; queue = gone.1.queue } in
            let made : IsMergeStep g w new = merge_step_of_row g k.0 m.closed m.valid m.same m.symbols m.rising m.exact w state waiting e k.1 gone.0 gone.1 gone.2 in
            let less = step_weight g limit w new made gone.3 in
            list fuel new new.queue refl (record { first = l.first; is_initial = l.is_initial; steps = more l.steps made }) gone.3 (omega (arith, less)))
        | inr over ↦ given (inr (record { first = l.first; last = w; is_initial = l.is_initial; steps = l.steps; step_exceeds = step_exceeds g k.0 m.closed m.valid m.same m.symbols m.rising m.exact w state waiting e k.1 limit over }))
      ]))

  abbrev HasMerged : Type 0
  HasMerged = ((a : Automaton) × IsMerged g a × (length a.kernels ≤ limit)) ⊎ MergingExceeds g limit

  numbered : (w : MergeState) → IsReachedByMerging g w → w.queue ≡ [] → length w.kernels ≤ limit → NotLacking HasMerged
  numbered w l done few =
      let run = steps_invariant g l.first w l.is_initial l.steps in
      chain (reached (length g.starts) w.rows (AreTargetsInRange-list g w l done) (starts_within g w l done)) (λ r.
      let below : AllByRecursion (λ n. n < length w.kernels) r.0 = subst (λ (n : ℕ). AllByRecursion (λ m. m < n) r.0) run.len (recursion_from_All (λ n. n < length w.rows) r.0 r.2.below) in
      let ks = pick w.kernels r.0 below in
      let a : Automaton = record { kernels = ks.0; edges = r.1 } in
      given (inl (a, IsMerged-list g w l done a r.0 r.2 ks.1, few_list g w l done a r.0 r.2 ks.1 limit few)))

  pub merged_or_exceeds : length g.starts ≤ limit → NotLacking HasMerged
  merged_or_exceeds few =
      let s = starts (length g.starts) in
      let len = s.1.len in
      let w : MergeState = record { kernels = s.0; rows = replicate (length g.starts) []; queue = start_numbers g } in
      let begun : IsInitial g w = record { kernels = s.1; rows = refl; queue = refl } in
      chain (list (suc (weight g limit w)) w w.queue refl (record { first = w; is_initial = begun; steps = none }) (omega (arith, len)) (omega arith)) (λ r. elim r [
        | inl last ↦ numbered last.0 last.1 last.2 last.3
        | inr swollen ↦ given (inr swollen)
      ])
