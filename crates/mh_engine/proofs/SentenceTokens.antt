-- Lemmas on the run of a sentence whose tokens are offered one by one.
use Rattle.std.proofs.Common.{◌≡◌, ℕ, zero, suc, ◌+◌, ◌-◌, ◌<◌, ◌≤◌, List, [], ◌∷◌, ◌++◌, length, take, drop, get_or, Bool, true, false, refl, ap, sym, subst, arith, ◌∙◌, ◌⊎◌, inl, inr, length-append, append_assoc, append-nil}
use Rattle.std.proofs.lemmas.Bool.{cases_lt}
use Rattle.std.proofs.lemmas.List.{take_more, take-append-drop, length-drop}
use Rattle.std.proofs.Math.Seq.{take-length}
use Rattle.mh_tables_core.specs.Table.{TableData}
use Rattle.mh_tables_core.specs.Run.{RunMove, Accepts as Accepting, Asks, Refuses, Shifts, Reduces, run_move_of, top_of}
use Rattle.mh_tables_core.proofs.MoveCases.{no_refusal_at_end}
use Rattle.mh_tables_core.proofs.Reductions.{no_shift_at_end}
use Rattle.mh_grammar.specs.Trees.{SyntaxTree}
use Rattle.mh_engine.specs.Positions.{Position}
use Rattle.mh_engine.specs.Phases.{next_move, phase_of, phase_by, phase_if_refused, CanOffer, CanResume}
use Rattle.mh_engine.specs.Steps.{initial_position, offered, resumed}
use Rattle.mh_engine.specs.code.ManySteps.{after_steps, CanMakeSteps}
use Rattle.mh_tables_core.specs.TooDeep.{too_deep}
use Rattle.mh_engine.specs.code.Settling.{StepsLeadTo, SettlesTo, SettlesTooDeep}
use Rattle.mh_engine.specs.code.SentenceOutcomes.{ReachesPhase, AcceptsWithTree, IsReachedOutcome, IsBeforeToken, IsAcceptOutcome}
use Rattle.mh_engine.specs.declared.phase.Phase.{Phase}
use Rattle.mh_engine.specs.declared.phase.Phase.TheVariants as phases
use Rattle.mh_engine.specs.declared.sentence.TreeOutcome.{TreeOutcome}
use Rattle.mh_engine.specs.declared.sentence.TreeOutcome.TheVariants as outcomes
use Rattle.mh_engine.proofs.PhaseMoves.{accepted_moves}
use Rattle.mh_engine.proofs.Resumed.{asking_left, resumed_shift}
use Rattle.mh_engine.proofs.OneMoreStep.{steps_offered, phase_offered, move_offered, table_after}

-- Sequences of steps, one after another.

after_add : (n m : ℕ) (c : Position) → after_steps (n + m) c ≡ after_steps m (after_steps n c)
after_add zero m c = let e : zero + m ≡ m = omega arith in rw e refl
after_add (suc n) m c = let e : suc n + m ≡ suc (n + m) = omega arith in rw e (after_add n m (resumed c))

can_add : (n m : ℕ) (c : Position) → CanMakeSteps n c → CanMakeSteps m (after_steps n c) → CanMakeSteps (n + m) c
can_add zero m c h k = let e : zero + m ≡ m = omega arith in rw e k
can_add (suc n) m c h k = let e : suc n + m ≡ suc (n + m) = omega arith in rw e (h.0, can_add n m (resumed c) h.1 k)

can_front : (m n : ℕ) (c : Position) → m ≤ n → CanMakeSteps n c → CanMakeSteps m c
can_front zero n c le h = tt
can_front (suc m) zero c le h = absurd (omega arith)
can_front (suc m) (suc n) c le h = (h.0, can_front m n (resumed c) (omega arith) h.1)

pub StepsLeadTo-append : (n m : ℕ) (a b c : Position) → StepsLeadTo n a b → StepsLeadTo m b c → StepsLeadTo (n + m) a c
StepsLeadTo-append n m a b c l k = record {
  can_step = can_add n m a l.can_step (subst (CanMakeSteps m) (sym l.reaches) k.can_step);
  reaches = after_add n m a ∙ ap (after_steps m) l.reaches ∙ k.reaches;
  not_too_deep = λ j le. elim (cases_lt j n) [
    | inl lt ↦ l.not_too_deep j (omega arith)
    | inr ge ↦ (
        let e : j ≡ n + (j - n) = omega arith in
        ap (λ (i : ℕ). too_deep (after_steps i a).pairs.trees) e ∙ ap (λ (p : Position). too_deep p.pairs.trees) (after_add n (j - n) a ∙ ap (after_steps (j - n)) l.reaches) ∙ k.not_too_deep (j - n) (omega arith))
  ];
}

-- The position with more tokens after the tokens to come.
abbrev pub with_left : Position → List ℕ → Position
with_left c zs = record { table = c.table; pairs = c.pairs; left = c.left ++ zs; refused = c.refused }

with_none : (c : Position) → with_left c [] ≡ c
with_none c = ap (λ (l : List ℕ). record { table = c.table; pairs = c.pairs; left = l; refused = c.refused }) (append-nil c.left)

with_more : (c : Position) (z : ℕ) (zs : List ℕ) → with_left (offered c z) zs ≡ with_left c (z ∷ zs)
with_more c z zs = ap (λ (l : List ℕ). record { table = c.table; pairs = c.pairs; left = l; refused = c.refused }) (append_assoc c.left (z ∷ []) zs)

after_rest : (zs : List ℕ) (n : ℕ) (a : Position) → CanMakeSteps n a → CanMakeSteps n (with_left a zs) × (after_steps n (with_left a zs) ≡ with_left (after_steps n a) zs)
after_rest [] n a h = (subst (CanMakeSteps n) (sym (with_none a)) h, ap (after_steps n) (with_none a) ∙ sym (with_none (after_steps n a)))
after_rest (z ∷ zs) n a h =
    let one = steps_offered n a z h in
    let rest = after_rest zs n (offered a z) one.0 in
    (subst (CanMakeSteps n) (with_more a z zs) rest.0, ap (after_steps n) (sym (with_more a z zs)) ∙ rest.1 ∙ ap (λ (p : Position). with_left p zs) one.1 ∙ with_more (after_steps n a) z zs)

leads_rest : (zs : List ℕ) (n : ℕ) (a b : Position) → StepsLeadTo n a b → StepsLeadTo n (with_left a zs) (with_left b zs)
leads_rest zs n a b l =
    let all = after_rest zs n a l.can_step in
    record {
      can_step = all.0;
      reaches = all.1 ∙ ap (λ (p : Position). with_left p zs) l.reaches;
      not_too_deep = λ m le. ap (λ (p : Position). too_deep p.pairs.trees) (after_rest zs m a (can_front m n a le l.can_step)).1 ∙ l.not_too_deep m le;
    }

deep_rest : (zs : List ℕ) (a : Position) → SettlesTooDeep a → SettlesTooDeep (with_left a zs)
deep_rest zs a d =
    let all = after_rest zs d.steps a d.can_step in
    record { steps = d.steps; can_step = all.0; deep = ap (λ (p : Position). too_deep p.pairs.trees) all.1 ∙ d.deep }

pub deep_join : (n : ℕ) (a b : Position) → StepsLeadTo n a b → SettlesTooDeep b → SettlesTooDeep a
deep_join n a b l d = record {
  steps = n + d.steps;
  can_step = can_add n d.steps a l.can_step (subst (CanMakeSteps d.steps) (sym l.reaches) d.can_step);
  deep = ap (λ (p : Position). too_deep p.pairs.trees) (after_add n d.steps a ∙ ap (after_steps d.steps) l.reaches) ∙ d.deep;
}

phase_rest : (zs : List ℕ) (c : Position) → (next_move c ≡ Asks → ⊥) → phase_of (with_left c zs) ≡ phase_of c
phase_rest [] c h = ap phase_of (with_none c)
phase_rest (z ∷ zs) c h = ap phase_of (sym (with_more c z zs)) ∙ phase_rest zs (offered c z) (λ e. h (sym (move_offered c z h) ∙ e)) ∙ phase_offered c z h

-- Before and after the token at an index of the sentence.

-- The token z at index i is offered and not shifted yet; all earlier tokens are shifted.
pub record IsTokenOffered (t : TableData) (start : ℕ) (w : List ℕ) (i z : ℕ) (c : Position) : Type 0 where
  pub steps : ℕ
  pub leads : StepsLeadTo steps (initial_position t start (take (i + 1) w)) c
  pub waits : c.left ≡ z ∷ []
  pub not_refused : c.refused ≡ false
  pub within : i < length w

-- The initial position is before the first token.
pub IsBeforeToken-start : (t : TableData) (start : ℕ) (w : List ℕ) (c : Position) → c ≡ initial_position t start [] → IsBeforeToken t start w 0 c
IsBeforeToken-start t start w c e = subst (IsBeforeToken t start w 0) (sym e) (record {
  steps = 0;
  leads = record { can_step = tt; reaches = refl; not_too_deep = λ m le. let z : m ≡ 0 = omega arith in rw z refl };
  empty = refl;
  not_refused = refl;
  within = omega arith;
})

-- Reductions keep a position before its token.
pub IsBeforeToken-settled : (t : TableData) (start : ℕ) (w : List ℕ) (i : ℕ) (c d : Position) → IsBeforeToken t start w i c → SettlesTo c d → IsBeforeToken t start w i d
IsBeforeToken-settled t start w i c d r s = record { steps = r.steps + s.steps; leads = StepsLeadTo-append r.steps s.steps (initial_position t start (take i w)) c d r.leads s.leads; empty = s.left ∙ r.empty; not_refused = s.not_refused r.not_refused; within = r.within }

-- Offering the token with index i, in a position before this token, leads to a position in which the token is offered.
pub IsTokenOffered-offered : (t : TableData) (start : ℕ) (w : List ℕ) (i z k : ℕ) (c d : Position) → IsBeforeToken t start w i c → i < length w → z ≡ get_or w i k → d ≡ offered c z → IsTokenOffered t start w i z d
IsTokenOffered-offered t start w i z k c d r lt is e =
    let front : take i w ++ z ∷ [] ≡ take (i + 1) w = ap (λ (x : ℕ). take i w ++ x ∷ []) is ∙ sym (take_more w i k lt) in
    subst (IsTokenOffered t start w i z) (sym e) (record {
      steps = r.steps;
      leads = subst (λ (l : List ℕ). StepsLeadTo r.steps (initial_position t start l) (offered c z)) front (leads_one r.steps (initial_position t start (take i w)) c z r.leads);
      waits = ap (λ (l : List ℕ). l ++ z ∷ []) r.empty;
      not_refused = r.not_refused;
      within = lt;
    })
  where
    leads_one : (n : ℕ) (a b : Position) (z : ℕ) → StepsLeadTo n a b → StepsLeadTo n (offered a z) (offered b z)
    leads_one n a b z l = leads_rest (z ∷ []) n a b l

-- Reductions keep a token offered.
pub IsTokenOffered-settled : (t : TableData) (start : ℕ) (w : List ℕ) (i z : ℕ) (c d : Position) → IsTokenOffered t start w i z c → SettlesTo c d → IsTokenOffered t start w i z d
IsTokenOffered-settled t start w i z c d r s = record { steps = r.steps + s.steps; leads = StepsLeadTo-append r.steps s.steps (initial_position t start (take (i + 1) w)) c d r.leads s.leads; waits = s.left ∙ r.waits; not_refused = s.not_refused r.not_refused; within = r.within }

-- Steps of the run on a prefix are steps of the run on the whole sentence.
whole : (t : TableData) (start : ℕ) (w : List ℕ) (i n : ℕ) (c : Position) → StepsLeadTo n (initial_position t start (take i w)) c → StepsLeadTo n (initial_position t start w) (with_left c (drop i w))
whole t start w i n c l = subst (λ (x : List ℕ). StepsLeadTo n (initial_position t start x) (with_left c (drop i w))) (take-append-drop i w) (leads_rest (drop i w) n (initial_position t start (take i w)) c l)

whole_deep : (t : TableData) (start : ℕ) (w : List ℕ) (i : ℕ) → SettlesTooDeep (initial_position t start (take i w)) → SettlesTooDeep (initial_position t start w)
whole_deep t start w i d = subst (λ (x : List ℕ). SettlesTooDeep (initial_position t start x)) (take-append-drop i w) (deep_rest (drop i w) (initial_position t start (take i w)) d)

pub IsBeforeToken-too_deep : (t : TableData) (start : ℕ) (w : List ℕ) (i : ℕ) (c : Position) → IsBeforeToken t start w i c → SettlesTooDeep c → SettlesTooDeep (initial_position t start w)
IsBeforeToken-too_deep t start w i c r d = whole_deep t start w i (deep_join r.steps (initial_position t start (take i w)) c r.leads d)

pub IsTokenOffered-too_deep : (t : TableData) (start : ℕ) (w : List ℕ) (i z : ℕ) (c : Position) → IsTokenOffered t start w i z c → SettlesTooDeep c → SettlesTooDeep (initial_position t start w)
IsTokenOffered-too_deep t start w i z c r d = whole_deep t start w (i + 1) (deep_join r.steps (initial_position t start (take (i + 1) w)) c r.leads d)

pub SettlesTooDeep-step : (c : Position) → CanResume (phase_of c) → too_deep (resumed c).pairs.trees ≡ true → SettlesTooDeep c
SettlesTooDeep-step c g d = record { steps = 1; can_step = (g, tt); deep = d }

abbrev reaches_at : (t : TableData) (start : ℕ) (w : List ℕ) (i n read : ℕ) (c : Position) (p : Phase) → StepsLeadTo n (initial_position t start (take i w)) c → i ≤ length w → phase_of c ≡ p → (next_move c ≡ Asks → ⊥) → read + length c.left ≡ i → ReachesPhase t start w p read
reaches_at t start w i n read c p l le e h k = record {
  steps = n;
  position = with_left c (drop i w);
  leads = whole t start w i n c l;
  phase_is = phase_rest (drop i w) c h ∙ e;
  count = omega (arith, length-append c.left (drop i w), length-drop i w);
}

accepts_not : (c : Position) → phase_of c ≡ phases.Accepted → next_move c ≡ Asks → ⊥
accepts_not c e a = let m = accepted_moves c e in let both = sym m ∙ a in cc

outcome_of : (t : TableData) (start : ℕ) (w : List ℕ) (read : ℕ) (trees : List SyntaxTree) (o : TreeOutcome) (r : ReachesPhase t start w phases.Accepted read) → r.position.pairs.trees ≡ trees → IsAcceptOutcome trees read o → IsReachedOutcome t start w o
outcome_of t start w read trees (outcomes.Accept n tree) r e a = subst (λ (k : ℕ). AcceptsWithTree t start w k tree) (sym a.0) (record { reaches = r; one_tree = e ∙ a.1 })
outcome_of t start w read trees (outcomes.Overshoot s) r e a = absurd a
outcome_of t start w read trees (outcomes.Reject at s) r e a = absurd a
outcome_of t start w read trees outcomes.TooDeep r e a = absurd a

pub IsBeforeToken-accept : (t : TableData) (start : ℕ) (w : List ℕ) (i : ℕ) (c : Position) (o : TreeOutcome) → IsBeforeToken t start w i c → phase_of c ≡ phases.Accepted → IsAcceptOutcome c.pairs.trees i o → IsReachedOutcome t start w o
IsBeforeToken-accept t start w i c o r e a =
    outcome_of t start w i c.pairs.trees o (reaches_at t start w i r.steps i c phases.Accepted r.leads r.within e (accepts_not c e) (let l : length c.left ≡ 0 = ap length r.empty in omega arith)) refl a

pub IsTokenOffered-accept : (t : TableData) (start : ℕ) (w : List ℕ) (i z : ℕ) (c : Position) (o : TreeOutcome) → IsTokenOffered t start w i z c → phase_of c ≡ phases.Accepted → IsAcceptOutcome c.pairs.trees i o → IsReachedOutcome t start w o
IsTokenOffered-accept t start w i z c o r e a =
    let lt = r.within in
    outcome_of t start w i c.pairs.trees o (reaches_at t start w (i + 1) r.steps i c phases.Accepted r.leads (omega arith) e (accepts_not c e) (let l : length c.left ≡ 1 = ap length r.waits in omega arith)) refl a

handling_by : (m : RunMove) (s : ℕ) (left : List ℕ) (q : ℕ) → phase_by m s left ≡ phases.HandlingError q → (m ≡ Refuses) × (s ≡ q)
handling_by Accepting s left q e = cc
handling_by Asks s left q e = cc
handling_by Refuses s left q e = (refl, cc)
handling_by (Shifts j) s left q e = cc
handling_by (Reduces p) s left q e = cc

handling_where : (b : Bool) (c : Position) (q : ℕ) → phase_if_refused b c ≡ phases.HandlingError q → (next_move c ≡ Refuses) × (top_of c.pairs.states ≡ q)
handling_where true c q e = cc
handling_where false c q e = handling_by (next_move c) (top_of c.pairs.states) c.left q e

pub error_phase_refuses : (c : Position) (q : ℕ) → phase_of c ≡ phases.HandlingError q → (next_move c ≡ Refuses) × (top_of c.pairs.states ≡ q)
unfolding phase_of
error_phase_refuses c q e = handling_where c.refused c q e

pub IsTokenOffered-reject : (t : TableData) (start : ℕ) (w : List ℕ) (i z s : ℕ) (c : Position) → IsTokenOffered t start w i z c → phase_of c ≡ phases.HandlingError s → ReachesPhase t start w (phases.HandlingError s) i
IsTokenOffered-reject t start w i z s c r e =
    let lt = r.within in
    reaches_at t start w (i + 1) r.steps i c (phases.HandlingError s) r.leads (omega arith) e (λ a. let m = (error_phase_refuses c s e).0 in let both = sym m ∙ a in cc) (let l : length c.left ≡ 1 = ap length r.waits in omega arith)

pub IsBeforeToken-overshoot : (t : TableData) (start : ℕ) (w : List ℕ) (i s : ℕ) (c : Position) → IsBeforeToken t start w i c → length w ≤ i → phase_of c ≡ phases.InputNeeded s → ReachesPhase t start w (phases.InputNeeded s) (length w)
IsBeforeToken-overshoot t start w i s c r ge e =
    let le = r.within in
    let all : take i w ≡ w = ap (λ (n : ℕ). take n w) (let same : i ≡ length w = omega arith in same) ∙ take-length w in
    record { steps = r.steps; position = c; leads = subst (λ (x : List ℕ). StepsLeadTo r.steps (initial_position t start x) c) all r.leads; phase_is = e; count = let l : length c.left ≡ 0 = ap length r.empty in omega arith }

shifting_by : (m : RunMove) (s : ℕ) (left : List ℕ) (q z : ℕ) → phase_by m s left ≡ phases.Shifting q z → (j : ℕ) × (m ≡ Shifts j)
shifting_by Accepting s left q z e = cc
shifting_by Asks s left q z e = cc
shifting_by Refuses s left q z e = cc
shifting_by (Shifts j) s left q z e = (j, refl)
shifting_by (Reduces p) s left q z e = cc

shifting_where : (b : Bool) (c : Position) (q z : ℕ) → phase_if_refused b c ≡ phases.Shifting q z → (j : ℕ) × (next_move c ≡ Shifts j)
shifting_where true c q z e = cc
shifting_where false c q z e = shifting_by (next_move c) (top_of c.pairs.states) c.left q z e

pub shifting : (c : Position) (q z : ℕ) → phase_of c ≡ phases.Shifting q z → (j : ℕ) × (next_move c ≡ Shifts j)
unfolding phase_of
shifting c q z e = shifting_where c.refused c q z e

pub IsBeforeToken-next : (t : TableData) (start : ℕ) (w : List ℕ) (i z s y : ℕ) (c d : Position) → IsTokenOffered t start w i z c → phase_of c ≡ phases.Shifting s y → d ≡ resumed c → too_deep (resumed c).pairs.trees ≡ false → IsBeforeToken t start w (i + 1) d
IsBeforeToken-next t start w i z s y c d r e is fits =
    let m = shifting c s y e in
    let new = resumed_shift c m.0 z m.1 r.waits in
    let go : CanResume (phase_of c) = subst CanResume (sym e) tt in
    let lt = r.within in
    let one : StepsLeadTo 1 c (resumed c) = record { can_step = (go, tt); reaches = refl; not_too_deep = λ k le. elim (cases_lt k 1) [ inl low ↦ (let z0 : k ≡ 0 = omega arith in rw z0 (subst (λ (p : Position). too_deep p.pairs.trees ≡ false) r.leads.reaches (r.leads.not_too_deep r.steps (omega arith)))) | inr high ↦ (let o1 : k ≡ 1 = omega arith in rw o1 fits) ] } in
    subst (IsBeforeToken t start w (i + 1)) (sym is) (record {
      steps = r.steps + 1;
      leads = StepsLeadTo-append r.steps 1 (initial_position t start (take (i + 1) w)) c (resumed c) r.leads one;
      empty = ap (λ (p : Position). p.left) new;
      not_refused = ap (λ (p : Position). p.refused) new;
      within = omega arith;
    })

-- Phases that cannot occur.

-- With no token to come and no reduction next, the run asks for a token or accepts.
pub phase_at_end : (c : Position) → c.left ≡ [] → c.refused ≡ false → ((s p : ℕ) → phase_of c ≡ phases.AboutToReduce s p → ⊥) → ((s : ℕ) × (phase_of c ≡ phases.InputNeeded s)) ⊎ (phase_of c ≡ phases.Accepted)
unfolding phase_of
phase_at_end c l r none = go (next_move c) refl
  where
    go : (m : RunMove) → next_move c ≡ m → ((s : ℕ) × (phase_if_refused c.refused c ≡ phases.InputNeeded s)) ⊎ (phase_if_refused c.refused c ≡ phases.Accepted)
    go Accepting e = inr (rw (r, e) refl)
    go Asks e = inl (top_of c.pairs.states, rw (r, e) refl)
    go Refuses e = absurd (no_refusal_at_end c.table (top_of c.pairs.states) (subst (λ (left : List ℕ). run_move_of c.table (top_of c.pairs.states) left ≡ Refuses) l e))
    go (Shifts j) e = absurd (no_shift_at_end c.table (top_of c.pairs.states) j (subst (λ (left : List ℕ). run_move_of c.table (top_of c.pairs.states) left ≡ Shifts j) l e))
    go (Reduces p) e = absurd (none (top_of c.pairs.states) p (rw (r, e) refl))

-- With no token to come and no reduction next, no phase but these two is possible.
pub no_other_phase_at_end : (c : Position) → c.left ≡ [] → c.refused ≡ false → ((s p : ℕ) → phase_of c ≡ phases.AboutToReduce s p → ⊥) → ((s : ℕ) → phase_of c ≡ phases.InputNeeded s → ⊥) → (phase_of c ≡ phases.Accepted → ⊥) → ⊥
no_other_phase_at_end c l r none asks accepts = elim (phase_at_end c l r none) [ inl a ↦ asks a.0 a.1 | inr a ↦ accepts a ]

never_rejected : (c : Position) → c.refused ≡ false → phase_of c ≡ phases.Rejected → ⊥
unfolding phase_of
never_rejected c r e = rejected_by (next_move c) (top_of c.pairs.states) c.left (sym (ap (λ (b : Bool). phase_if_refused b c) r) ∙ e)
  where
    rejected_by : (m : RunMove) (s : ℕ) (left : List ℕ) → phase_by m s left ≡ phases.Rejected → ⊥
    rejected_by Accepting s left e = cc
    rejected_by Asks s left e = cc
    rejected_by Refuses s left e = cc
    rejected_by (Shifts j) s left e = cc
    rejected_by (Reduces p) s left e = cc

-- With a token to come, one of these phases holds.
pub no_other_phase_at_token : (c : Position) (z : ℕ) → c.left ≡ z ∷ [] → c.refused ≡ false → ((s p : ℕ) → phase_of c ≡ phases.AboutToReduce s p → ⊥) → ((s y : ℕ) → phase_of c ≡ phases.Shifting s y → ⊥) → ((s : ℕ) → phase_of c ≡ phases.HandlingError s → ⊥)
    → (phase_of c ≡ phases.Accepted → ⊥) → ⊥
no_other_phase_at_token c z l r none shifts handles accepts = go (phase_of c) refl
  where
    go : (p : Phase) → phase_of c ≡ p → ⊥
    go (phases.InputNeeded s) e = let none_left : c.left ≡ [] = asking_left c (subst CanOffer (sym e) tt) in let both = sym none_left ∙ l in cc
    go (phases.Shifting s y) e = shifts s y e
    go (phases.AboutToReduce s p) e = none s p e
    go (phases.HandlingError s) e = handles s e
    go phases.Accepted e = accepts e
    go phases.Rejected e = never_rejected c r e

pub IsBeforeToken-table : (t : TableData) (start : ℕ) (w : List ℕ) (i : ℕ) (c : Position) → IsBeforeToken t start w i c → c.table ≡ t
IsBeforeToken-table t start w i c r = ap (λ (p : Position). p.table) (sym r.leads.reaches) ∙ table_after r.steps (initial_position t start (take i w))

pub settles_table : (c d : Position) → SettlesTo c d → d.table ≡ c.table
settles_table c d s = ap (λ (p : Position). p.table) (sym s.leads.reaches) ∙ table_after s.steps c

pub can_offer_at_ask : (c : Position) (s : ℕ) → phase_of c ≡ phases.InputNeeded s → CanOffer (phase_of c)
can_offer_at_ask c s e = subst CanOffer (sym e) tt

pub can_resume_at_shift : (c : Position) (s y : ℕ) → phase_of c ≡ phases.Shifting s y → CanResume (phase_of c)
can_resume_at_shift c s y e = subst CanResume (sym e) tt
