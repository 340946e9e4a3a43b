-- Proves what follows from a settled rest, and from a settled goto fact: the words that the rules give wait in the
-- queue and are sound, and no others are added.
use Rattle.std.proofs.Common.{◌≡◌, ℕ, suc, ◌-◌, ◌<◌, ◌⊎◌, inl, inr, List, [], ◌∷◌, ◌++◌, length, Option, Some, refl, ap, sym, subst, arith, ◌∙◌}
use Rattle.std.specs.Prelude.{slice_get}
use Rattle.std.specs.List.{Contains}
use Rattle.std.specs.Global.{Vec}
use Rattle.mh_grammar.specs.declared.types.Symbol.TheVariants.{T, N}
use Rattle.mh_grammar.specs.Plain.{rhs_of}
use Rattle.mh_tables_core.specs.Table.{TableData, edge_of}
use Rattle.mh_tables_core.specs.Facts.{Facts}
use Rattle.mh_tables_core.specs.Run.{Shifts, run_move_of}
use Rattle.mh_facts.specs.declared.store.FactKey.{FactKey}
use Rattle.mh_facts.specs.declared.goto_fact.GotoFact.{GotoFact}
use Rattle.mh_facts.specs.declared.classes.TokenClasses.{TokenClasses}
use Rattle.mh_facts.specs.code.BestFirst.{key}
use Rattle.mh_facts.specs.code.Queues.{Waits, row_of}
use Rattle.mh_facts.specs.code.TokenClasses.{AreTokenClasses, rep_of, place_of}
use Rattle.mh_facts.specs.code.WordCosts.{WordNoLater}
use Rattle.mh_facts.proofs.Edges.{shift_target}
use Rattle.mh_facts.proofs.WordCosts.{option_unique}
use Rattle.mh_reach_rests.specs.declared.conclusions.Conclusion.{Conclusion}
use Rattle.mh_reach_rests.specs.declared.sought.Sought.{Sought}
use Rattle.mh_reach_rests.specs.declared.sought.Sought.TheVariants as soughts
use Rattle.mh_reach_rests.specs.declared.waiting.WaitingWord.{WaitingWord}
use Rattle.mh_reach_rests.specs.declared.waiting.SettledRest.{SettledRest}
use Rattle.mh_reach_rests.specs.declared.waiting.SettledGoto.{SettledGoto}
use Rattle.mh_reach_rests.specs.declared.waiting.RestData.{RestData}
use Rattle.mh_reach_rests.specs.code.RestLevels.{ExpandsGoto, WaitsFor, as_goto, as_rest}
use Rattle.mh_reach_rests.specs.code.RestRules.{AreSources, ExpandsRest, FitsRest, FollowsBoth, FollowsToken, IsConcluded, after_goto, after_token, gotos_in, rests_in}
use Rattle.mh_reach_rests.specs.code.RestSearch.{Concludes, IsPendingBefore, Settled, goto, gotos_of, rests_of}
use Rattle.mh_reach_rests.proofs.ConcludedItems.{concluded_pending}
use Rattle.mh_reach_rests.proofs.DerivedConclusions.{IsDerivedFrom, IsSettledGoto, IsSettledRest, goto_from, rest_from, token_from}
use Rattle.mh_reach_rests.proofs.WordsOfSettled.{goto_no_rest, one_goto, one_rest, rest_no_goto}

abbrev pub queue_of : RestData → List (Vec WaitingWord)
queue_of work = work.queue.buckets.items

-- What is in the rows is settled with a word.
pub record HaveRows (t : TableData) (c : TokenClasses) (words : Settled) (work : RestData) : Type 0 where
  pub each_rest : (n : ℕ) (r : SettledRest) → Contains (rests_in work n) r → (v : List ℕ) × IsSettledRest t c words r v
  pub each_goto : (n : ℕ) (g : SettledGoto) → Contains (gotos_in work n) g → (u : List ℕ) × IsSettledGoto t c words g u

-- The item waits with the word of a conclusion from w.
abbrev pub FollowsFrom : TableData → TokenClasses → Settled → List ℕ → (level cost : ℕ) → WaitingWord → Type 0
FollowsFrom t c words w level cost o = (d : Conclusion) × (u : List ℕ) × IsDerivedFrom t c words w level d u × IsConcluded t c d cost o

-- What follows from the word w for k, which is settled at the level.
pub record IsExpansion (t : TableData) (c : TokenClasses) (words later : Settled) (mid new : RestData) (waits : ℕ → WaitingWord → Type 0) (k : Sought) (w : List ℕ) (level : ℕ) : Type 0 where
  pub kept : (cost : ℕ) (o : WaitingWord) → Waits (queue_of mid) cost o → Waits (queue_of new) cost o
  pub only : (cost : ℕ) (o : WaitingWord) → Waits (queue_of new) cost o → Waits (queue_of mid) cost o ⊎ FollowsFrom t c later w level cost o
  pub rests_len : length new.rests.items ≡ length mid.rests.items
  pub gotos_len : length new.gotos.items ≡ length mid.gotos.items
  pub rest_kept : (n : ℕ) (r : SettledRest) → Contains (rests_in mid n) r → Contains (rests_in new n) r
  pub rest_only : (n : ℕ) (r : SettledRest) → Contains (rests_in new n) r → Contains (rests_in mid n) r ⊎ ((soughts.Rest r.key ≡ k) × (r.cost ≡ level) × IsSettledRest t c later r w)
  pub rest_here : (l : FactKey) (n : ℕ) → soughts.Rest l ≡ k → slice_get (rhs_of t.grammar l.production) (l.dot - 1) ≡ Some (N n) → (r : SettledRest) × Contains (rests_in new (place_of c l.from l.first)) r × (r.key ≡ l)
  pub goto_kept : (n : ℕ) (g : SettledGoto) → Contains (gotos_in mid n) g → Contains (gotos_in new n) g
  pub goto_only : (n : ℕ) (g : SettledGoto) → Contains (gotos_in new n) g → Contains (gotos_in mid n) g ⊎ ((soughts.Goto g.fact ≡ k) × (g.cost ≡ level) × IsSettledGoto t c later g w)
  pub goto_here : (g : GotoFact) (target : ℕ) → soughts.Goto g ≡ k → edge_of t g.from (N g.nonterminal) ≡ Some target → (o : SettledGoto) × Contains (gotos_in new (place_of c target g.next)) o × (o.fact ≡ g)
  -- The conclusions from k as a rest after a token, as a rest after a goto fact, and as a goto fact before a rest.
  pub shifts : (s p d x b z j : ℕ) → soughts.Rest (key j p (suc d) b z) ≡ k → s < length t.states → slice_get (rhs_of t.grammar p) d ≡ Some (T x) → run_move_of t s (x ∷ []) ≡ Shifts j
      → Concludes t (rep_of c) (IsPendingBefore (WordNoLater t) later (WaitsFor t later waits)) s p d (rep_of c s x) z (x ∷ w)
  pub rests : (s p d n a y z g : ℕ) (u : List ℕ) → soughts.Rest (key g p (suc d) y z) ≡ k → s < length t.states → slice_get (rhs_of t.grammar p) d ≡ Some (N n) → edge_of t s (N n) ≡ Some g → gotos_of words s n a y ≡ Some u
      → Concludes t (rep_of c) (IsPendingBefore (WordNoLater t) later (WaitsFor t later waits)) s p d a z (u ++ w)
  pub gotos : (s p d n a y z g : ℕ) (v : List ℕ) → soughts.Goto (goto s n a y) ≡ k → s < length t.states → slice_get (rhs_of t.grammar p) d ≡ Some (N n) → edge_of t s (N n) ≡ Some g → rests_of words (key g p (suc d) y z) ≡ Some v
      → Concludes t (rep_of c) (IsPendingBefore (WordNoLater t) later (WaitsFor t later waits)) s p d a z (w ++ v)

-- A conclusion on equal numbers.
concludes_same : (t : TableData) (rep : ℕ → ℕ → ℕ) (P : Sought → List ℕ → Type 0) (s p d a z : ℕ) (w : List ℕ) (s' p' d' a' z' : ℕ) (w' : List ℕ) → s ≡ s' → p ≡ p' → d ≡ d' → a ≡ a' → z ≡ z' → w ≡ w' → Concludes t rep P s' p' d' a' z' w' → Concludes t rep P s p d a z w
concludes_same t rep P s p d a z w s' p' d' a' z' w' e1 e2 e3 e4 e5 e6 h = rw (e1, e2, e3, e4, e5, e6) h

same_target : (o : Option ℕ) (g j : ℕ) → o ≡ Some g → o ≡ Some j → g ≡ j
same_target o g j e h = option_unique o g j e h

module _ (t : TableData) (f : Facts t) (c : TokenClasses) (cls : AreTokenClasses t c) (sources : List (Vec ℕ)) (from_all : AreSources t sources) (words later : Settled) (kept : (o : Sought) (u : List ℕ) → words o ≡ Some u → later o ≡ Some u) (mid new : RestData) (have : HaveRows t c later mid)
    (waits : ℕ → WaitingWord → Type 0) (queued : (cost : ℕ) (o : WaitingWord) → Waits (queue_of new) cost o → waits cost o) where
  abbrev Pending : Sought → List ℕ → Type 0
  Pending = IsPendingBefore (WordNoLater t) later (WaitsFor t later waits)

  -- A conclusion whose words wait is pending.
  pending : (k : Conclusion) (w : List ℕ) (level : ℕ) (u : List ℕ) → IsDerivedFrom t c later w level k u → ((cost : ℕ) (o : WaitingWord) → IsConcluded t c k cost o → Waits (queue_of new) cost o) → Concludes t (rep_of c) Pending k.key.from k.key.production k.key.dot k.key.first k.key.next u
  pending k w level u d all = concluded_pending t f c cls later k u d.derived waits k.key.dot refl (λ cost o h. queued cost o (all cost o h))

  -- The rest k is settled with the word w at the level.
  module _ (k : FactKey) (end level : ℕ) (w : List ℕ) (h : IsSettledRest t c later (as_rest k end level) w) (all_gotos : (g : GotoFact) (u : List ℕ) (target : ℕ) → words (soughts.Goto g) ≡ Some u → edge_of t g.from (N g.nonterminal) ≡ Some target → (o : SettledGoto) × Contains (gotos_in mid (place_of c target g.next)) o × (o.fact ≡ g))
      (more : ExpandsRest t c sources mid new (as_rest k end level)) where
    abbrev r : SettledRest
    r = as_rest k end level

    rest_follows : (cost : ℕ) (o : WaitingWord) → Waits (queue_of new) cost o → Waits (queue_of mid) cost o ⊎ FollowsFrom t c later w level cost o
    rest_follows cost o there = elim (more.only cost o there) [
      | inl was ↦ inl was
      | inr follows ↦ (elim follows [
        | inl shifted ↦ (
            let x : ℕ = shifted.0 in
            let among : (s : ℕ) × Contains (row_of sources k.from) s × FollowsToken t c r x s cost o = shifted.2 in
            let follow : (run_move_of t among.0 (x ∷ []) ≡ Shifts k.from) × IsConcluded t c (after_token t c r among.0 x) cost o = among.2 in
            inr (after_token t c r among.0 x, x ∷ w, token_from t f c cls later r w h among.0 x (from_all.known k.from among.0 among.1) shifted.1 follow.0, follow.1))
        | inr joined ↦ (
            let among : (g : SettledGoto) × Contains (gotos_in mid (place_of c k.from k.first)) g × FollowsBoth t c g r cost o = joined in
            let follow : FitsRest t among.0 r × IsConcluded t c (after_goto among.0 r) cost o = among.2 in
            let row = have.each_goto (place_of c k.from k.first) among.0 among.1 in
            inr (after_goto among.0 r, row.0 ++ w, rest_from t f c cls later among.0 r row.0 w row.1 h follow.0, follow.1))
      ])
    ]

    rest_shifts : (s p d x b z j : ℕ) → soughts.Rest (key j p (suc d) b z) ≡ soughts.Rest k → s < length t.states → slice_get (rhs_of t.grammar p) d ≡ Some (T x) → run_move_of t s (x ∷ []) ≡ Shifts j → Concludes t (rep_of c) Pending s p d (rep_of c s x) z (x ∷ w)
    rest_shifts s p d x b z j same known symbol move =
        let e : key j p (suc d) b z ≡ k = one_rest (key j p (suc d) b z) k same in
        let e1 : j ≡ k.from = ap (λ (l : FactKey). l.from) e in
        let e2 : p ≡ k.production = ap (λ (l : FactKey). l.production) e in
        let e3 : suc d ≡ k.dot = ap (λ (l : FactKey). l.dot) e in
        let e5 : z ≡ k.next = ap (λ (l : FactKey). l.next) e in
        let dot : d ≡ k.dot - 1 = omega (arith, e3) in
        let symbol' : slice_get (rhs_of t.grammar k.production) (k.dot - 1) ≡ Some (T x) = rw (e2, dot) at symbol in
        let move' : run_move_of t s (x ∷ []) ≡ Shifts k.from = rw e1 at move in
        let there : Contains (row_of sources k.from) s = from_all.all s k.from (T x) known (shift_target t f s x k.from move') in
        let held = pending (after_token t c r s x) w level (x ∷ w) (token_from t f c cls later r w h s x known symbol' move') (λ cost o con. more.shifts x cost o symbol' (s, there, (move', con))) in
        concludes_same t (rep_of c) Pending s p d (rep_of c s x) z (x ∷ w) s k.production (k.dot - 1) (rep_of c s x) k.next (x ∷ w) refl e2 dot refl e5 refl held

    rest_joins : (s p d n a y z g : ℕ) (u : List ℕ) → soughts.Rest (key g p (suc d) y z) ≡ soughts.Rest k → s < length t.states → slice_get (rhs_of t.grammar p) d ≡ Some (N n) → edge_of t s (N n) ≡ Some g → gotos_of words s n a y ≡ Some u → Concludes t (rep_of c) Pending s p d a z (u ++ w)
    rest_joins s p d n a y z g u same known symbol edge stored =
        let e : key g p (suc d) y z ≡ k = one_rest (key g p (suc d) y z) k same in
        let e1 : g ≡ k.from = ap (λ (l : FactKey). l.from) e in
        let e2 : p ≡ k.production = ap (λ (l : FactKey). l.production) e in
        let e3 : suc d ≡ k.dot = ap (λ (l : FactKey). l.dot) e in
        let e4 : y ≡ k.first = ap (λ (l : FactKey). l.first) e in
        let e5 : z ≡ k.next = ap (λ (l : FactKey). l.next) e in
        let dot : d ≡ k.dot - 1 = omega (arith, e3) in
        let symbol' : slice_get (rhs_of t.grammar k.production) (k.dot - 1) ≡ Some (N n) = rw (e2, dot) at symbol in
        let place : place_of c g y ≡ place_of c k.from k.first = rw (e1, e4) refl in
        let found = all_gotos (goto s n a y) u g stored edge in
        joined s n a y found.0 found.2 u g edge (kept (soughts.Goto (goto s n a y)) u stored) e1 e4 symbol' (subst (λ (m : ℕ). Contains (gotos_in mid m) found.0) place found.1) p d z e2 dot e5
      where
        joined : (s n a y : ℕ) (o : SettledGoto) → o.fact ≡ goto s n a y → (u : List ℕ) (g : ℕ) → edge_of t s (N n) ≡ Some g → later (soughts.Goto (goto s n a y)) ≡ Some u → g ≡ k.from → y ≡ k.first → slice_get (rhs_of t.grammar k.production) (k.dot - 1) ≡ Some (N n) → Contains (gotos_in mid (place_of c k.from k.first)) o
            → (p d z : ℕ) → p ≡ k.production → d ≡ k.dot - 1 → z ≡ k.next → Concludes t (rep_of c) Pending s p d a z (u ++ w)
        joined s n a y o is u g edge stored e1 e4 symbol there p d z e2 dot e5 =
            let row = have.each_goto (place_of c k.from k.first) o there in
            let from : o.fact.from ≡ s = ap (λ (l : GotoFact). l.from) is in
            let nonterminal : o.fact.nonterminal ≡ n = ap (λ (l : GotoFact). l.nonterminal) is in
            let first : o.fact.first ≡ a = ap (λ (l : GotoFact). l.first) is in
            let next : o.fact.next ≡ k.first = ap (λ (l : GotoFact). l.next) is ∙ e4 in
            let o_edge : edge_of t s (N n) ≡ Some o.target = rw (from, nonterminal) at (row.1).range.edge in
            let target : o.target ≡ k.from = same_target (edge_of t s (N n)) o.target g o_edge edge ∙ e1 in
            let fits : FitsRest t o r = record { target = target; next = next; symbol = rw nonterminal symbol } in
            let own : later (soughts.Goto o.fact) ≡ Some u = subst (λ (l : GotoFact). later (soughts.Goto l) ≡ Some u) (sym is) stored in
            let word : u ≡ row.0 = option_unique (later (soughts.Goto o.fact)) u row.0 own (row.1).stored in
            let front : u ++ w ≡ row.0 ++ w = ap (λ (l : List ℕ). l ++ w) word in
            let held = pending (after_goto o r) w level (row.0 ++ w) (rest_from t f c cls later o r row.0 w row.1 h fits) (λ cost i con. more.joins n cost i symbol (o, there, (fits, con))) in
            concludes_same t (rep_of c) Pending s p d a z (u ++ w) o.fact.from k.production (k.dot - 1) o.fact.first k.next (row.0 ++ w) (sym from) e2 dot (sym first) e5 front held

    pub rest_expands : IsExpansion t c words later mid new waits (soughts.Rest k) w level
    rest_expands = record {
      kept = more.kept;
      only = rest_follows;
      rests_len = more.rests_len;
      gotos_len = ap length more.gotos;
      rest_kept = more.rest_kept;
      rest_only = λ n q there. elim (more.rest_only n q there) [ inl was ↦ inl was | inr is ↦ rw is.1 (inr (refl, refl, h)) ];
      rest_here = λ l n same symbol. (let e : l ≡ k = one_rest l k same in (r, rw e (more.rest_here n (rw e at symbol)), sym e));
      goto_kept = λ n g there. rw more.gotos there;
      goto_only = λ n g there. inl (rw more.gotos at there);
      goto_here = λ g target same edge. absurd (goto_no_rest g k same);
      shifts = rest_shifts;
      rests = rest_joins;
      gotos = λ s p d n a y z g v same known symbol edge stored. absurd (goto_no_rest (goto s n a y) k same);
    }

  -- The goto fact g is settled with the word w at the level.
  module _ (g : GotoFact) (end level : ℕ) (w : List ℕ) (h : IsSettledGoto t c later (as_goto g end level) w) (all_rests : (k : FactKey) (u : List ℕ) (n : ℕ) → words (soughts.Rest k) ≡ Some u → slice_get (rhs_of t.grammar k.production) (k.dot - 1) ≡ Some (N n) → (r : SettledRest) × Contains (rests_in mid (place_of c k.from k.first)) r × (r.key ≡ k))
      (more : ExpandsGoto t c mid new (as_goto g end level)) where
    abbrev o : SettledGoto
    o = as_goto g end level

    goto_follows : (cost : ℕ) (i : WaitingWord) → Waits (queue_of new) cost i → Waits (queue_of mid) cost i ⊎ FollowsFrom t c later w level cost i
    goto_follows cost i there = elim (more.queue.only cost i there) [
      | inl was ↦ inl was
      | inr joined ↦ (
          let among : (r : SettledRest) × Contains (rests_in mid (place_of c end g.next)) r × FollowsBoth t c o r cost i = joined in
          let follow : FitsRest t o among.0 × IsConcluded t c (after_goto o among.0) cost i = among.2 in
          let row = have.each_rest (place_of c end g.next) among.0 among.1 in
          inr (after_goto o among.0, w ++ row.0, goto_from t f c cls later o among.0 w row.0 h row.1 follow.0, follow.1))
    ]

    goto_joins : (s p d n a y z j : ℕ) (v : List ℕ) → soughts.Goto (goto s n a y) ≡ soughts.Goto g → s < length t.states → slice_get (rhs_of t.grammar p) d ≡ Some (N n) → edge_of t s (N n) ≡ Some j → rests_of words (key j p (suc d) y z) ≡ Some v → Concludes t (rep_of c) Pending s p d a z (w ++ v)
    goto_joins s p d n a y z j v same known symbol edge stored =
        let e : goto s n a y ≡ g = one_goto (goto s n a y) g same in
        let e1 : s ≡ g.from = ap (λ (l : GotoFact). l.from) e in
        let e2 : n ≡ g.nonterminal = ap (λ (l : GotoFact). l.nonterminal) e in
        let e3 : a ≡ g.first = ap (λ (l : GotoFact). l.first) e in
        let e4 : y ≡ g.next = ap (λ (l : GotoFact). l.next) e in
        let edge' : edge_of t g.from (N g.nonterminal) ≡ Some j = rw (e1, e2) at edge in
        let ends : j ≡ end = same_target (edge_of t g.from (N g.nonterminal)) j end edge' h.range.edge in
        let one : suc d - 1 ≡ d = omega arith in
        let place : place_of c j y ≡ place_of c end g.next = rw (ends, e4) refl in
        let found = all_rests (key j p (suc d) y z) v n stored (rw one symbol) in
        let symbol' : slice_get (rhs_of t.grammar p) d ≡ Some (N g.nonterminal) = rw e2 at symbol in
        joined p d z found.0 j y found.2 v symbol' ends e4 (kept (soughts.Rest (key j p (suc d) y z)) v stored) (subst (λ (m : ℕ). Contains (rests_in mid m) found.0) place found.1) s a e1 e3
      where
        joined : (p d z : ℕ) (r : SettledRest) (j y : ℕ) → r.key ≡ key j p (suc d) y z → (v : List ℕ) → slice_get (rhs_of t.grammar p) d ≡ Some (N g.nonterminal) → j ≡ end → y ≡ g.next → later (soughts.Rest (key j p (suc d) y z)) ≡ Some v → Contains (rests_in mid (place_of c end g.next)) r
            → (s a : ℕ) → s ≡ g.from → a ≡ g.first → Concludes t (rep_of c) Pending s p d a z (w ++ v)
        joined p d z r j y is v symbol ends e4 stored there s a e1 e3 =
            let row = have.each_rest (place_of c end g.next) r there in
            let from : r.key.from ≡ j = ap (λ (l : FactKey). l.from) is in
            let production : r.key.production ≡ p = ap (λ (l : FactKey). l.production) is in
            let dot : r.key.dot ≡ suc d = ap (λ (l : FactKey). l.dot) is in
            let first : r.key.first ≡ y = ap (λ (l : FactKey). l.first) is in
            let next : r.key.next ≡ z = ap (λ (l : FactKey). l.next) is in
            let less : r.key.dot - 1 ≡ d = omega (arith, dot) in
            let fits : FitsRest t o r = record { target = sym (from ∙ ends); next = sym (first ∙ e4); symbol = rw (production, less) symbol } in
            let own : later (soughts.Rest r.key) ≡ Some v = subst (λ (l : FactKey). later (soughts.Rest l) ≡ Some v) (sym is) stored in
            let word : v ≡ row.0 = option_unique (later (soughts.Rest r.key)) v row.0 own (row.1).stored in
            let back : w ++ v ≡ w ++ row.0 = ap (λ (l : List ℕ). w ++ l) word in
            let held = pending (after_goto o r) w level (w ++ row.0) (goto_from t f c cls later o r w row.0 h row.1 fits) (λ cost i con. more.queue.all cost i (r, there, (fits, con))) in
            concludes_same t (rep_of c) Pending s p d a z (w ++ v) g.from r.key.production (r.key.dot - 1) g.first r.key.next (w ++ row.0) e1 (sym production) (sym less) e3 (sym next) back held

    pub goto_expands : IsExpansion t c words later mid new waits (soughts.Goto g) w level
    goto_expands = record {
      kept = more.queue.kept;
      only = goto_follows;
      rests_len = ap length more.rests;
      gotos_len = more.gotos.rows;
      rest_kept = λ n r there. rw more.rests there;
      rest_only = λ n r there. inl (rw more.rests at there);
      rest_here = λ l n same symbol. absurd (rest_no_goto l g same);
      goto_kept = more.gotos.kept;
      goto_only = λ n i there. elim (more.gotos.only n i there) [ inl was ↦ inl was | inr is ↦ rw is.1 (inr (refl, refl, h)) ];
      goto_here = λ l target same edge.
          let e : l ≡ g = one_goto l g same in
          let edge' : edge_of t g.from (N g.nonterminal) ≡ Some target = rw e at edge in
          let ends : target ≡ end = same_target (edge_of t g.from (N g.nonterminal)) target end edge' h.range.edge in
          (o, rw (ends, e) more.gotos.added, sym e);
      shifts = λ s p d x b z j same known symbol move. absurd (rest_no_goto (key j p (suc d) b z) g same);
      rests = λ s p d n a y z j u same known symbol edge stored. absurd (rest_no_goto (key j p (suc d) y z) g same);
      gotos = goto_joins;
    }
