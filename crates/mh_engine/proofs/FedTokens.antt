-- Lemmas on the loop that feeds tokens to a checkpoint.
use Rattle.std.proofs.Common.{◌≡◌, ◌⊎◌, ℕ, suc, ◌+◌, ◌-◌, ◌<◌, ◌≤◌, Bool, true, false, List, [], ◌∷◌, ◌++◌, length, drop, get_or, refl, sym, ap, subst, ◌∙◌, arith, inl, inr}
use Rattle.std.proofs.lemmas.Bool.{cases_lt}
use Rattle.std.proofs.lemmas.List.{drop_more, drop_all, length_push}
use Rattle.mh_tables_core.specs.Table.{TableData}
use Rattle.mh_tables_core.specs.TooDeep.{too_deep}
use Rattle.mh_engine.specs.Branches.{Branch, HasPosition, position_of, with_token}
use Rattle.mh_engine.specs.Feeding.{Feeding, feeding_of, moved_in, phase_in, after_moves, HasStopped, IsFed, IsFedTooDeep}
use Rattle.mh_engine.specs.Phases.{phase_of, phase_if_refused, CanOffer, CanResume}
use Rattle.mh_engine.specs.Positions.{Position}
use Rattle.mh_engine.specs.Steps.{offered, resumed}
use Rattle.mh_engine.specs.code.FedTokens.{IsTokenFed, AreFedSoFar, FeedsSoFar, FeedsTo}
use Rattle.mh_engine.specs.code.Settling.{CheckpointFacts, StepsLeadTo, SettlesTo, SettlesTooDeep}
use Rattle.mh_engine.specs.declared.phase.Phase.{Phase}
use Rattle.mh_engine.specs.declared.phase.Phase.TheVariants as phases
use Rattle.mh_engine.proofs.BranchPosition.{HasPosition-token}
use Rattle.mh_engine.proofs.IsFed.{moves_add, stays_stopped}
use Rattle.mh_engine.proofs.OneMoreStep.{table_after}
use Rattle.mh_engine.proofs.Resumed.{asking_left, resumed_shift}
use Rattle.mh_engine.proofs.SentenceTokens.{StepsLeadTo-append, SettlesTooDeep-step, deep_join, phase_at_end, shifting}
use Rattle.mh_engine.proofs.SettleLoop.{leads_more}
use Rattle.mh_engine.proofs.Walks.{Walks, walks_to, walks_to_deep, walk_moves, walk_position, branch_position}

-- One token, at a position that asks for a token.

not_refused_where : (b : Bool) (c : Position) → CanOffer (phase_if_refused b c) → b ≡ false
not_refused_where true c a = absurd a
not_refused_where false c a = refl

pub asking_not_refused : (c : Position) → CanOffer (phase_of c) → c.refused ≡ false
unfolding phase_of
asking_not_refused c a = not_refused_where c.refused c a

pub asking_settled : (c : Position) → CanOffer (phase_of c) → (s p : ℕ) → phase_of c ≡ phases.AboutToReduce s p → ⊥
asking_settled c a s p e = subst CanOffer e a

module _ (c : Position) (z : ℕ) (a : CanOffer (phase_of c)) (settled : Position) (s : SettlesTo (offered c z) settled) where
  offered_not_refused : settled.refused ≡ false
  offered_not_refused = s.not_refused (asking_not_refused c a)

  offered_left : settled.left ≡ z ∷ []
  offered_left = s.left ∙ ap (λ (l : List ℕ). l ++ z ∷ []) (asking_left c a)

  -- The token is not shifted.
  pub IsTokenFed-stopped : ((q y : ℕ) → phase_of settled ≡ phases.Shifting q y → ⊥) → IsTokenFed c z settled
  IsTokenFed-stopped none = record { steps = s.steps; leads = s.leads; not_refused = offered_not_refused; settled = s.settled; left = inr (offered_left, none) }

  module _ (q y : ℕ) (e : phase_of settled ≡ phases.Shifting q y) where
    can_shift : CanResume (phase_of settled)
    can_shift = subst CanResume (sym e) tt

    shifted_position : resumed settled ≡ record { table = settled.table; pairs = (resumed settled).pairs; left = []; refused = false }
    shifted_position =
        let m = shifting settled q y e in
        let is = resumed_shift settled m.0 z m.1 offered_left in
        is ∙ ap (λ (p : Position). record { table = settled.table; pairs = p.pairs; left = []; refused = false }) (sym is)

    pub IsTokenFed-shifted : (next end : Position) → next ≡ resumed settled → too_deep (resumed settled).pairs.trees ≡ false → SettlesTo next end → IsTokenFed c z end
    IsTokenFed-shifted next end is fits r =
        let here : next ≡ record { table = settled.table; pairs = (resumed settled).pairs; left = []; refused = false } = is ∙ shifted_position in
        let leads : StepsLeadTo (suc s.steps) (offered c z) next = subst (StepsLeadTo (suc s.steps) (offered c z)) (sym is) (leads_more s.steps (offered c z) settled s.leads can_shift fits) in
        record {
          steps = suc s.steps + r.steps;
          leads = StepsLeadTo-append (suc s.steps) r.steps (offered c z) next end leads r.leads;
          not_refused = r.not_refused (ap (λ (p : Position). p.refused) here);
          settled = r.settled;
          left = inl (r.left ∙ ap (λ (p : Position). p.left) here);
        }

    pub shift_too_deep : too_deep (resumed settled).pairs.trees ≡ true → SettlesTooDeep (offered c z)
    shift_too_deep deep = deep_join s.steps (offered c z) settled s.leads (SettlesTooDeep-step settled can_shift deep)

    pub end_too_deep : (next : Position) → next ≡ resumed settled → too_deep (resumed settled).pairs.trees ≡ false → SettlesTooDeep next → SettlesTooDeep (offered c z)
    end_too_deep next is fits deep =
        deep_join (suc s.steps) (offered c z) next (subst (StepsLeadTo (suc s.steps) (offered c z)) (sym is) (leads_more s.steps (offered c z) settled s.leads can_shift fits)) deep

-- The tokens so far.

-- Feeding has come to its end.
pub feeding_ends : (t : TableData) (b : Branch) (tokens : List ℕ) (i k : ℕ) (c : Position) → c.table ≡ t → AreFedSoFar t b tokens i c → HasStopped (phase_of c) (drop i tokens) → k + length c.left ≡ i → (next : Branch) × HasPosition next c × IsFed t b tokens next k
feeding_ends t b tokens i k c same r stop count =
    let at : position_of t r.branch ≡ c = branch_position t r.branch c same r.has_position in
    let first : Feeding = feeding_of b tokens in
    let phase_is : HasStopped (phase_in t (feeding_of r.branch (drop i tokens))) (drop i tokens) = subst (λ (p : Position). HasStopped (phase_of p) (drop i tokens)) (sym at) stop in
    let stopped : HasStopped (phase_in t (after_moves t r.moves first)) (after_moves t r.moves first).waiting = subst (λ (f : Feeding). HasStopped (phase_in t f) f.waiting) (sym r.reaches) phase_is in (
      r.branch,
      r.has_position,
      record {
        moves = r.moves;
        reaches = ap (λ (f : Feeding). f.branch) r.reaches;
        stops = stopped;
        count = let left : length (position_of t r.branch).left ≡ length c.left = ap (λ (p : Position). length p.left) at in let all = r.count in omega arith;
        fits = λ deep. elim (cases_lt r.moves deep.0) [
          | inl lt ↦ (
              let e : deep.0 ≡ r.moves + (deep.0 - r.moves) = omega arith in
              let there : after_moves t deep.0 first ≡ after_moves t r.moves first = ap (λ (m : ℕ). after_moves t m first) e ∙ moves_add t r.moves (deep.0 - r.moves) first ∙ stays_stopped t (deep.0 - r.moves) (after_moves t r.moves first) stopped in
              let both = sym deep.1 ∙ ap (λ (f : Feeding). too_deep (position_of t f.branch).pairs.trees) there ∙ r.fits r.moves (omega arith) in
              cc)
          | inr ge ↦ (let both = sym deep.1 ∙ r.fits deep.0 (omega arith) in cc)
        ];
      },
    )

module _ (t : TableData) (b : Branch) (tokens : List ℕ) (i z s : ℕ) (c : Position) (same : c.table ≡ t) (r : AreFedSoFar t b tokens i c) (asks : phase_of c ≡ phases.InputNeeded s) (lt : i < length tokens) (token : z ≡ get_or tokens i 0) where
  rest : drop i tokens ≡ z ∷ drop (i + 1) tokens
  rest = drop_more tokens i 0 lt ∙ ap (λ (y : ℕ). y ∷ drop (i + 1) tokens) (sym token)

  -- The branch with the token offered.
  abbrev fed : Branch
  fed = with_token r.branch z

  offer_moves : (n : ℕ) → after_moves t (r.moves + suc n) (feeding_of b tokens) ≡ after_moves t n (feeding_of fed (drop (i + 1) tokens))
  offer_moves n =
      let at : phase_in t (feeding_of r.branch (drop i tokens)) ≡ phases.InputNeeded s = ap phase_of (branch_position t r.branch c same r.has_position) ∙ asks in
      moves_add t r.moves (suc n) (feeding_of b tokens) ∙ ap (after_moves t (suc n)) r.reaches ∙ ap (λ (p : Phase). after_moves t n (moved_in p (feeding_of r.branch (drop i tokens)))) at
      ∙ ap (λ (l : List ℕ). after_moves t n (moved_in (phases.InputNeeded s) (feeding_of r.branch l))) rest

  has_offered : HasPosition fed (offered c z)
  has_offered = HasPosition-token r.branch c z r.has_position

  one_more : (d : Position) → IsTokenFed c z d → AreFedSoFar t b tokens (i + 1) d
  one_more d k =
      let walks : Walks k.steps (offered c z) = walks_to k.steps (offered c z) k.leads.can_step (ap (λ (p : Position). p.refused) k.leads.reaches ∙ k.not_refused) in
      let there = walk_moves t (drop (i + 1) tokens) k.steps fed (offered c z) same has_offered walks in
      record {
        moves = r.moves + suc k.steps;
        branch = there.0;
        reaches = offer_moves k.steps ∙ there.1;
        has_position = subst (HasPosition there.0) k.leads.reaches there.2;
        count = let l : length there.0.offered ≡ length (r.branch.offered ++ z ∷ []) = ap length there.3 in let before = r.count in omega (arith, l, before, length_push r.branch.offered z);
        fits = λ m le. elim (cases_lt r.moves m) [
          | inl more ↦ (
              let j : ℕ = m - suc r.moves in
              let e : m ≡ r.moves + suc j = omega arith in
              ap (λ (n : ℕ). too_deep (position_of t (after_moves t n (feeding_of b tokens)).branch).pairs.trees) e ∙ ap (λ (f : Feeding). too_deep (position_of t f.branch).pairs.trees) (offer_moves j)
              ∙ ap (λ (p : Position). too_deep p.pairs.trees) (walk_position t (drop (i + 1) tokens) k.steps j fed (offered c z) same has_offered walks (omega arith)) ∙ k.leads.not_too_deep j (omega arith))
          | inr few ↦ r.fits m (omega arith)
        ];
      }

  token_too_deep : SettlesTooDeep (offered c z) → IsFedTooDeep t b tokens
  token_too_deep d =
      let walks = walks_to_deep d.steps (offered c z) d.can_step d.deep in (
        r.moves + suc walks.0,
        ap (λ (f : Feeding). too_deep (position_of t f.branch).pairs.trees) (offer_moves walks.0)
            ∙ ap (λ (p : Position). too_deep p.pairs.trees) (walk_position t (drop (i + 1) tokens) walks.0 walks.0 fed (offered c z) same has_offered walks.1 (omega arith)) ∙ walks.2,
      )

-- The loop.

pub FeedsSoFar-start : (c : Position) (tokens : List ℕ) → CanOffer (phase_of c) → CheckpointFacts c → FeedsSoFar c tokens 0 c
FeedsSoFar-start c tokens a k = record {
  table = refl;
  empty = asking_left c a;
  not_refused = asking_not_refused c a;
  settled = asking_settled c a;
  within = omega arith;
  fed = λ b h. record {
    moves = 0;
    branch = b;
    reaches = refl;
    has_position = h;
    count = omega arith;
    fits = λ m le. let e : m ≡ 0 = omega arith in rw e (ap (λ (p : Position). too_deep p.pairs.trees) (branch_position c.table b c refl h) ∙ k.sound.not_too_deep);
  };
}

fed_table : (c : Position) (z : ℕ) (d : Position) → IsTokenFed c z d → d.table ≡ c.table
fed_table c z d k = ap (λ (p : Position). p.table) (sym k.leads.reaches) ∙ table_after k.steps (offered c z)

module _ (first : Position) (tokens : List ℕ) (i : ℕ) (c : Position) (r : FeedsSoFar first tokens i c) where
  -- The run asks for a token or has accepted.
  stopped_where : (phase_of c ≡ phases.Accepted) ⊎ (length tokens ≤ i) → ((s : ℕ) × (phase_of c ≡ phases.InputNeeded s)) ⊎ (phase_of c ≡ phases.Accepted) → HasStopped (phase_of c) (drop i tokens)
  stopped_where why (inr accepts) = subst (λ (p : Phase). HasStopped p (drop i tokens)) (sym accepts) tt
  stopped_where (inl accepts) (inl asks) = subst (λ (p : Phase). HasStopped p (drop i tokens)) (sym accepts) tt
  stopped_where (inr all) (inl asks) = subst (λ (p : Phase). HasStopped p (drop i tokens)) (sym asks.1) (drop_all i tokens all)

  ends_with : (k : ℕ) → k ≡ i → HasStopped (phase_of c) (drop i tokens) → FeedsTo first tokens c k
  ends_with k e stop = λ b h. feeding_ends first.table b tokens i k c r.table (r.fed b h) stop (let l : length c.left ≡ 0 = ap length r.empty in omega arith)

  -- The run has accepted before the next token.
  pub feeds_to_acceptance : ((s : ℕ) → phase_of c ≡ phases.InputNeeded s → ⊥) → FeedsTo first tokens c i
  feeds_to_acceptance none = ends_with i refl (elim (phase_at_end c r.empty r.not_refused r.settled) [ inl asks ↦ absurd (none asks.0 asks.1) | inr accepts ↦ stopped_where (inl accepts) (inr accepts) ])

  -- All tokens are shifted.
  pub feeds_all : (k : ℕ) → k ≡ length tokens → length tokens ≤ i → FeedsTo first tokens c k
  feeds_all k e all = let within = r.within in ends_with k (omega arith) (stopped_where (inr all) (phase_at_end c r.empty r.not_refused r.settled))

  module _ (z s : ℕ) (asks : phase_of c ≡ phases.InputNeeded s) (lt : i < length tokens) (token : z ≡ get_or tokens i 0) where
    pub fed_keeps_table : (d : Position) → IsTokenFed c z d → d.table ≡ first.table
    fed_keeps_table d k = fed_table c z d k ∙ r.table

    fed_more : (d : Position) → IsTokenFed c z d → (b : Branch) → HasPosition b first → AreFedSoFar first.table b tokens (i + 1) d
    fed_more d k b h = one_more first.table b tokens i z s c r.table (r.fed b h) asks lt token d k

    -- The token is shifted.
    pub feeds_next : (d : Position) → IsTokenFed c z d → d.left ≡ [] → FeedsSoFar first tokens (i + 1) d
    feeds_next d k empty = record { table = fed_keeps_table d k; empty = empty; not_refused = k.not_refused; settled = k.settled; within = omega arith; fed = fed_more d k }

    waits : (d : Position) → IsTokenFed c z d → (d.left ≡ [] → ⊥) → (d.left ≡ z ∷ []) × ((q y : ℕ) → phase_of d ≡ phases.Shifting q y → ⊥)
    waits d k some = elim k.left [ inl empty ↦ absurd (some empty) | inr waiting ↦ waiting ]

    stops_at : (d : Position) → IsTokenFed c z d → (d.left ≡ [] → ⊥) → (p : Phase) → phase_of d ≡ p → HasStopped p (drop (i + 1) tokens)
    stops_at d k some (phases.InputNeeded q) e = absurd (some (asking_left d (subst CanOffer (sym e) tt)))
    stops_at d k some (phases.Shifting q y) e = absurd ((waits d k some).1 q y e)
    stops_at d k some (phases.AboutToReduce q p) e = absurd (k.settled q p e)
    stops_at d k some (phases.HandlingError q) e = tt
    stops_at d k some phases.Accepted e = tt
    stops_at d k some phases.Rejected e = tt

    -- The token is refused, or the run accepts before the token.
    pub feeds_to_stop : (d : Position) → IsTokenFed c z d → (d.left ≡ [] → ⊥) → FeedsTo first tokens d i
    feeds_to_stop d k some = λ b h.
        feeding_ends first.table b tokens (i + 1) i d (fed_keeps_table d k) (fed_more d k b h) (stops_at d k some (phase_of d) refl) (let l : length d.left ≡ 1 = ap length (waits d k some).0 in omega arith)

    pub feeds_too_deep : SettlesTooDeep (offered c z) → (b : Branch) → HasPosition b first → IsFedTooDeep first.table b tokens
    feeds_too_deep deep b h = token_too_deep first.table b tokens i z s c r.table (r.fed b h) asks lt token deep
