-- Proves that each step of the second search keeps its invariant. The search reaches spots (states with a next token).
-- An arrival waits in the queue until it is settled, that is, stored as the least one of its spot.
use Rattle.std.proofs.Common.{◌≡◌, ◌∙◌, ◌<◌, ◌≤◌, ◌+◌, ◌⊎◌, inl, inr, ℕ, List, [], ◌∷◌, ◌++◌, length, Option, Some, None, refl, sym, ap, subst, arith}
use Rattle.std.specs.Prelude.{min}
use Rattle.std.specs.Global.{Vec}
use Rattle.std.proofs.lemmas.Bool.{cases_lt}
use Rattle.mh_grammar.specs.declared.types.Symbol.TheVariants.{T, N}
use Rattle.mh_grammar.proofs.Lists.{contains_none}
use Rattle.mh_tables_core.specs.Table.{TableData, cost_of_token, edge_of}
use Rattle.mh_tables_core.specs.Facts.{Facts}
use Rattle.mh_tables_core.specs.Run.{Shifts, run_move_of}
use Rattle.mh_tables_core.proofs.Reductions.{shifts_from_move}
use Rattle.mh_facts.specs.Costs.{cap}
use Rattle.mh_facts.specs.declared.goto_fact.GotoFact.{GotoFact}
use Rattle.mh_facts.specs.declared.classes.TokenClasses.{TokenClasses}
use Rattle.mh_facts.specs.code.BestFirst.{Label, HasNoLaterLabel, LabelOrderLaws, LabelsClosedByGotos, SoundGoto, SoundLabel, extended_label}
use Rattle.mh_facts.specs.code.Queues.{QueueGains, Waits}
use Rattle.mh_facts.specs.code.TokenClasses.{AreTokenClasses, rep_of}
use Rattle.mh_facts.specs.code.WordCosts.{WordNoLater}
use Rattle.mh_facts.proofs.AssociationLists.{at_cases}
use Rattle.mh_facts.proofs.LeastSentences.{reach_begins, reach_shifts, reached_by_goto}
use Rattle.mh_facts.proofs.QueueRows.{row_past}
use Rattle.mh_facts.proofs.Sound.{shift_known}
use Rattle.mh_facts.proofs.WordCosts.{capped_both, capped_one, min_cap, no_lower, option_unique}
use Rattle.mh_reach_words.specs.declared.word_parts.LastPart.TheVariants as lasts
use Rattle.mh_reach_words.specs.code.Words.{Words, IsBook, letters_of}
use Rattle.mh_reach_words.specs.declared.arrivals.StateAndNext.{StateAndNext}
use Rattle.mh_reach_words.specs.code.Arrivals.{LabelNoLater, labels_at, spot}
use Rattle.mh_reach_words.specs.code.SentenceComparison.{numbers_of}
use Rattle.mh_reach_words.proofs.LabelOrder.{label_laws, over_from, same_label}
use Rattle.mh_reach_words.proofs.StateAndNextKeys.{spot_keys}
use Rattle.mh_reach_rests.specs.code.ClosedRests.{GotoWords}
use Rattle.mh_reach_spots.specs.declared.goto_rows.NumberedGoto.{NumberedGoto}
use Rattle.mh_reach_spots.specs.declared.spots.SpotArrival.{SpotArrival}
use Rattle.mh_reach_spots.specs.declared.spots.Spots.{Spots}
use Rattle.mh_reach_spots.specs.declared.waiting.RankedSpot.{RankedSpot}
use Rattle.mh_reach_spots.specs.declared.waiting.SettledSpot.{SettledSpot}
use Rattle.mh_reach_spots.specs.declared.waiting.WaitingSpot.{WaitingSpot}
use Rattle.mh_reach_spots.specs.code.GotoRows.{AreGotoRows, AreLeastGotos, HasGotoWord, HasGotos, IsNumberedGoto}
use Rattle.mh_reach_spots.specs.code.SpotLevels.{IsLabelOf, IsPendingLabel, IsReachedAlready, IsSoundSpot, NoLaterAt, SpotInvariant, SpotQueue, SpotsInOrder, TakesUnreached, Waiting}
use Rattle.mh_reach_spots.specs.code.SpotNumbers.{unranked}
use Rattle.mh_reach_spots.specs.code.SpotSteps.{FollowsSpot, IsStartArrival, StepsAlong, StepsOverGoto, StepsShift, made_after}
use Rattle.mh_reach_spots.specs.code.Spots.{AreLeastArrivals, IsWordAt, SpotList}
use Rattle.mh_reach_spots.proofs.LeastLabels.{least_label}
use Rattle.mh_reach_spots.proofs.SpotLabels.{assignment_more, assignment_on, cheap_back, cheap_front, label_back, label_on, labels_alike, labels_here, labels_kept, labels_only, new_labels, one_label, parts_more, word_more}

-- No arrival waits with a cost for which the queue has no bucket.
pub none_over : (q : SpotQueue) (level cost : ℕ) (o : WaitingSpot) → length q ≤ level → level ≤ cost → Waiting q level [] cost o → ⊥
none_over q level cost o over low (inl there) = contains_none o (rw (row_past q cost (omega arith)) at there)
none_over q level cost o over low (inr beside) = contains_none o beside.1

-- Labels that are closed for H are closed for what follows from H.
pub closed_weaker : (t : TableData) (rep : ℕ → ℕ → ℕ) (gotos : GotoWords) (reached : ℕ → ℕ → Option Label) (H G : ℕ → ℕ → Label → Type 0) → ((s z : ℕ) (l : Label) → H s z l → G s z l) → LabelsClosedByGotos t rep (HasGotoWord gotos) reached H → LabelsClosedByGotos t rep (HasGotoWord gotos) reached G
closed_weaker t rep gotos reached H G on h = record {
  begins = λ i z lt zt. on i (rep i z) (record { start = i; word = [] }) (h.begins i z lt zt);
  shifts = λ s x z j l e move lt. on j (rep j z) (extended_label l (x ∷ [])) (h.shifts s x z j l e move lt);
  gotos = λ s n y x g l v e stored edge. on g x (extended_label l v) (h.gotos s n y x g l v e stored edge);
}

-- The rows stay rows in a longer book.
abbrev pub rows_on : (t : TableData) (c : TokenClasses) (book added new : Words) (rows : List (Vec NumberedGoto)) → new ≡ book ++ added → HasGotos t c book rows → HasGotos t c new rows
rows_on t c book added new rows grown h = record {
  gotos = h.gotos;
  least = h.least;
  filed = record {
    len = h.filed.len;
    each = λ n w there. (let k = h.filed.each n w there in record { few = k.few; edge = k.edge; next = k.next; word = k.word; stored = k.stored; cost_is = k.cost_is; numbered = λ lt. rw grown (word_more book added w.word k.word (k.numbered lt)); sound = k.sound });
    all = h.filed.all;
  };
}

module _ (t : TableData) (f : Facts t) (c : TokenClasses) (cls : AreTokenClasses t c) (gotos : GotoWords) (book : Words) where
  abbrev rep : ℕ → ℕ → ℕ
  rep = rep_of c

  abbrev laws : LabelOrderLaws (WordNoLater t) (LabelNoLater t)
  laws = label_laws t

  start_label : IsBook book → (start : ℕ) (o : WaitingSpot) → o.made ≡ record { front = 0; last = lasts.Token start } → IsLabelOf t book 0 o (record { start = start; word = [] })
  start_label is start o made =
      let front : letters_of book 0 ++ start ∷ [] ≡ start ∷ [] = ap (λ (w : List ℕ). w ++ start ∷ []) is.empty in
      record { cost_is = refl; is = λ lt. rw made front }

  start_ok : IsBook book → (cost : ℕ) (o : WaitingSpot) → IsStartArrival t c cost o → IsSoundSpot t c book cost o
  start_ok is cost o (start, start_lt, (z, there, one)) =
      let listed = cls.list_only start z there in
      let some = is.some in
      rw (one.0, one.1) (record {
        state = let e = f.enough_states in omega arith;
        token = listed.0;
        few = omega arith;
        known = λ lt. (some, tt);
        label = record { start = start; word = [] };
        label_is = start_label is start (record { spot = spot start z; made = record { front = 0; last = lasts.Token start } }) refl;
        sound = reach_begins t f rep start z start_lt;
      })

  pub spots_begin : IsBook book → (q : SpotQueue) → QueueGains (IsStartArrival t c) [] q → SpotInvariant t c gotos book [] q 0 []
  spots_begin is q g =
      record {
        label_assignment = record { labels = λ k. None; none = λ k e. refl; some = λ k r e. absurd (let y : None ≡ Some r = e in cc) };
        closed = record {
          begins = λ start z start_lt lt.
              let x = rep start z in
              let o : WaitingSpot = record { spot = spot start x; made = record { front = 0; last = lasts.Token start } } in
              let l : Label = record { start = start; word = [] } in
              inr (0, o, l, inl (g.all 0 o (start, start_lt, (x, cls.list_all start z (let e = f.enough_states in omega arith) lt, (refl, refl)))), refl, start_label is start o refl, laws.reflexive l);
          shifts = λ s x z j l e move lt. absurd (let y : None ≡ Some l = e in cc);
          gotos = λ s n y x j l v e way edge. absurd (let y : None ≡ Some l = e in cc);
        };
        sound = λ s z l e. absurd (let y : None ≡ Some l = e in cc);
        items = λ cost o h. start_ok is cost o (begun cost o h);
        at_least_level = λ cost o h. omega arith;
        at_most_level = λ k r e. absurd (let y : None ≡ Some r = e in cc);
        before = λ k l m cost o e h by. absurd (let y : None ≡ Some l = e in cc);
      }
    where
      begun : (cost : ℕ) (o : WaitingSpot) → Waiting q 0 [] cost o → IsStartArrival t c cost o
      begun cost o (inl h) = elim (g.only cost o h) [ inl none ↦ absurd (let l = none.1 in omega arith) | inr b ↦ b ]
      begun cost o (inr h) = absurd (let l = (h.1).1 in omega arith)

  module _ (spots : SpotList) (old : SpotQueue) (level : ℕ) (beside : List WaitingSpot) (good : SpotInvariant t c gotos book spots old level beside) where
    abbrev labels : StateAndNext → Option Label
    labels = good.label_assignment.labels

    -- If the spot of an arrival that waits is reached, its label comes no later than the labels of the arrival.
    stored_no_later : (s z cost : ℕ) (o : WaitingSpot) (k l : Label) → IsReachedAlready spots o → Waiting old level beside cost o → o.spot ≡ spot s z → IsLabelOf t book cost o k → LabelNoLater t k l → HasNoLaterLabel (LabelNoLater t) (labels_at labels) s z l
    stored_no_later s z cost o k l there waits is by le =
        let h = good.label_assignment.some o.spot there.0 there.1 in
        (h.label, rw (← is) h.is, laws.transitive h.label k l (good.before o.spot h.label k cost o h.is waits by) le)

    -- The book becomes longer.
    pub invariant_on : (added : Words) → SpotInvariant t c gotos (book ++ added) spots old level beside
    invariant_on added = record {
      label_assignment = assignment_on t book added spots good.label_assignment;
      closed = closed_weaker t rep gotos (labels_at labels) (IsPendingLabel t book labels (Waiting old level beside)) (IsPendingLabel t (book ++ added) labels (Waiting old level beside)) held good.closed;
      sound = good.sound;
      items = λ cost o h. (let k = good.items cost o h in record { state = k.state; token = k.token; few = k.few; known = λ lt. parts_more book added o.made (k.known lt); label = k.label; label_is = label_on t book added cost o k.known k.label k.label_is; sound = k.sound });
      at_least_level = good.at_least_level;
      at_most_level = good.at_most_level;
      before = λ k l m cost o e h by. good.before k l m cost o e h (label_back t book added cost o (good.items cost o h).known m by);
    }
      where
        held : (s z : ℕ) (l : Label) → IsPendingLabel t book labels (Waiting old level beside) s z l → IsPendingLabel t (book ++ added) labels (Waiting old level beside) s z l
        held s z l (inl was) = inl was
        held s z l (inr (cost, o, k, waits, is, by, le)) = inr (cost, o, k, waits, is, label_on t book added cost o (good.items cost o waits).known k by, le)

    -- Arrivals that wait are moved or dropped; the spot of each arrival that is dropped is reached.
    pub invariant_moves : (mid : SpotQueue) (level' : ℕ) (other : List WaitingSpot) → ((cost : ℕ) (o : WaitingSpot) → Waiting old level beside cost o → Waiting mid level' other cost o ⊎ IsReachedAlready spots o) →
        ((cost : ℕ) (o : WaitingSpot) → Waiting mid level' other cost o → Waiting old level beside cost o) → ((cost : ℕ) (o : WaitingSpot) → Waiting mid level' other cost o → level' ≤ cost) → level ≤ level' → SpotInvariant t c gotos book spots mid level' other
    invariant_moves mid level' other on back low le = record {
      label_assignment = good.label_assignment;
      closed = closed_weaker t rep gotos (labels_at labels) (IsPendingLabel t book labels (Waiting old level beside)) (IsPendingLabel t book labels (Waiting mid level' other)) held good.closed;
      sound = good.sound;
      items = λ cost o h. good.items cost o (back cost o h);
      at_least_level = low;
      at_most_level = λ k r e. (let h = good.at_most_level k r e in omega arith);
      before = λ k l m cost o e h by. good.before k l m cost o e (back cost o h) by;
    }
      where
        held : (s z : ℕ) (l : Label) → IsPendingLabel t book labels (Waiting old level beside) s z l → IsPendingLabel t book labels (Waiting mid level' other) s z l
        held s z l (inl was) = inl was
        held s z l (inr (cost, o, k, waits, is, by, ahead)) = elim (on cost o waits) [
          | inl still ↦ inr (cost, o, k, still, is, by, ahead)
          | inr stored ↦ inl (stored_no_later s z cost o k l stored waits is by ahead)
        ]

    -- Nothing waits any more.
    pub all_closed : ((cost : ℕ) (o : WaitingSpot) → Waiting old level beside cost o → ⊥) → LabelsClosedByGotos t rep (HasGotoWord gotos) (labels_at labels) (HasNoLaterLabel (LabelNoLater t) (labels_at labels))
    all_closed none = closed_weaker t rep gotos (labels_at labels) (IsPendingLabel t book labels (Waiting old level beside)) (HasNoLaterLabel (LabelNoLater t) (labels_at labels)) held good.closed
      where
        held : (s z : ℕ) (l : Label) → IsPendingLabel t book labels (Waiting old level beside) s z l → HasNoLaterLabel (LabelNoLater t) (labels_at labels) s z l
        held s z l (inl was) = was
        held s z l (inr (cost, o, k, waits, is, by, le)) = absurd (none cost o waits)

  -- An arrival is settled.
  module _ (rows : List (Vec NumberedGoto)) (in_rows : AreGotoRows t c book gotos rows) (spots : SpotList) (old : SpotQueue) (level n : ℕ) (rs : List RankedSpot) (h : SpotsInOrder t c gotos book spots old level n rs)
      (mid new : SpotQueue) (i : WaitingSpot) (next : TakesUnreached spots old mid level i) (le_cap : level ≤ cap) where
    abbrev pub from : SettledSpot
    from = record { spot = i.spot; cost = level; sentence = n }

    abbrev pub arrival : SpotArrival
    arrival = record { cost = level; sentence = n }

    abbrev beside : List WaitingSpot
    beside = unranked rs

    abbrev good : SpotInvariant t c gotos book spots old level beside
    good = h.invariant

    abbrev was : StateAndNext → Option Label
    was = good.label_assignment.labels

    abbrev ok : IsSoundSpot t c book level i
    ok = good.items level i (inl next.waited)

    numbered : level < cap → IsWordAt book n (numbers_of ok.label)
    numbered lt = h.one_word lt i ok.label next.waited ok.label_is

    module _ (more : QueueGains (FollowsSpot t c rows from) mid new) where
      abbrev later : StateAndNext → Option Label
      later = new_labels t book spots good.label_assignment i.spot arrival ok.label next.fresh ok.label_is.cost_is numbered

      kept : (o : StateAndNext) (u : Label) → was o ≡ Some u → later o ≡ Some u
      kept = labels_kept t book spots good.label_assignment i.spot arrival ok.label next.fresh ok.label_is.cost_is numbered

      here : later i.spot ≡ Some ok.label
      here = labels_here t book spots good.label_assignment i.spot arrival ok.label next.fresh ok.label_is.cost_is numbered

      only : (o : StateAndNext) (u : Label) → later o ≡ Some u → (was o ≡ Some u) ⊎ ((o ≡ i.spot) × (u ≡ ok.label))
      only = labels_only t book spots good.label_assignment i.spot arrival ok.label next.fresh ok.label_is.cost_is numbered

      -- Each arrival that waits waited before, or follows from the arrival that was settled.
      came : (cost : ℕ) (o : WaitingSpot) → Waiting new level beside cost o → Waiting old level beside cost o ⊎ FollowsSpot t c rows from cost o
      came cost o (inl there) = elim (more.only cost o there) [ inl before ↦ inl (inl (next.only cost o before)) | inr add ↦ inr add ]
      came cost o (inr aside) = inl (inr aside)

      held : (s z : ℕ) (l : Label) → IsPendingLabel t book was (Waiting old level beside) s z l → IsPendingLabel t book later (Waiting new level beside) s z l
      held s z l (inl x) = inl (x.0, kept (spot s z) x.0 x.1, x.2)
      held s z l (inr (cost, o, k, inr aside, is, by, le)) = inr (cost, o, k, inr aside, is, by, le)
      held s z l (inr (cost, o, k, inl there, is, by, le)) = elim (next.kept cost o there) [
        | inl on ↦ (elim on [
          | inl still ↦ inr (cost, o, k, inl (more.kept cost o still), is, by, le)
          | inr stored ↦ (let x = stored_no_later spots old level beside good s z cost o k l stored (inl there) is by le in inl (x.0, kept (spot s z) x.0 x.1, x.2))
        ])
        | inr one ↦ (
            let at : i.spot ≡ spot s z = sym (ap (λ (x : WaitingSpot). x.spot) one.1) ∙ is in
            let k_is : IsLabelOf t book level i k = rw (one.0, one.1) at by in
            inl (ok.label, subst (λ (x : StateAndNext). later x ≡ Some ok.label) at here, laws.transitive ok.label k l (labels_alike t book level i ok.label k ok.label_is k_is) le))
      ]

      -- The arrivals that follow, with the label of the settled arrival, extended.

      shift_label : (x cost : ℕ) (o : WaitingSpot) → x < t.grammar.tokens → cost ≡ min (level + cost_of_token t x) cap → o.made ≡ made_after from (lasts.Token x) → IsLabelOf t book cost o (extended_label ok.label (x ∷ []))
      shift_label x cost o known is made = record {
        cost_is = is ∙ capped_one t f ok.label.word x level known ok.label_is.cost_is;
        is = λ lt. (
            let less : level < cap = cheap_front level (cost_of_token t x) le_cap (rw is at lt) in
            let all : letters_of book n ++ x ∷ [] ≡ numbers_of ok.label ++ x ∷ [] = ap (λ (w : List ℕ). w ++ x ∷ []) (numbered less).is in
            rw made all);
      }

      goto_label : (w : NumberedGoto) (k : IsNumberedGoto t rep book gotos w) (cost : ℕ) (o : WaitingSpot) → cost ≡ min (level + w.cost) cap → o.made ≡ made_after from (lasts.Word w.word) → IsLabelOf t book cost o (extended_label ok.label k.word)
      goto_label w k cost o is made = record {
        cost_is = is ∙ capped_both t ok.label.word k.word level w.cost ok.label_is.cost_is k.cost_is;
        is = λ lt. (
            let less : level < cap = cheap_front level w.cost le_cap (rw is at lt) in
            let cheap : w.cost < cap = cheap_back level w.cost k.few (rw is at lt) in
            let a : letters_of book n ≡ numbers_of ok.label = (numbered less).is in
            let b : letters_of book w.word ≡ k.word = (k.numbered cheap).is in
            let all : letters_of book n ++ letters_of book w.word ≡ numbers_of ok.label ++ k.word = rw (a, b) refl in
            rw made all);
      }

      shift_on : (x z j : ℕ) → rep i.spot.state x ≡ i.spot.next → run_move_of t i.spot.state (x ∷ []) ≡ Shifts j → z < t.grammar.tokens → IsPendingLabel t book later (Waiting new level beside) j (rep j z) (extended_label ok.label (x ∷ []))
      shift_on x z j token move lt =
          let o : WaitingSpot = record { spot = spot j (rep j z); made = made_after from (lasts.Token x) } in
          let edge : edge_of t i.spot.state (T x) ≡ Some j = f.shifts i.spot.state x j (shifts_from_move t i.spot.state x [] j move) in
          let s : StepsAlong t c from x (min (level + cost_of_token t x) cap) o = record { end = j; following = rep j z; token = token; move = move; listed = cls.list_all j z (f.each_target i.spot.state (T x) j edge) lt; cost_is = refl; is = refl } in
          inr (min (level + cost_of_token t x) cap, o, extended_label ok.label (x ∷ []), inl (more.all (min (level + cost_of_token t x) cap) o (inl (x, s))), refl, shift_label x (min (level + cost_of_token t x) cap) o (shift_known t f i.spot.state x j ok.state move) refl refl, laws.reflexive (extended_label ok.label (x ∷ [])))

      goto_on : (m x g : ℕ) (v : List ℕ) → HasGotoWord gotos i.spot.state m i.spot.next x v → edge_of t i.spot.state (N m) ≡ Some g → IsPendingLabel t book later (Waiting new level beside) g x (extended_label ok.label v)
      goto_on m x g v way edge =
          let row = in_rows.all i.spot.state m i.spot.next x g v way edge in
          let w = row.0 in
          let k = in_rows.each _ w row.1 in
          let state : w.fact.from ≡ i.spot.state = ap (λ (p : GotoFact). p.from) row.2 in
          let first : w.fact.first ≡ i.spot.next = ap (λ (p : GotoFact). p.first) row.2 in
          let after : w.fact.next ≡ x = ap (λ (p : GotoFact). p.next) row.2 in
          let there : edge_of t i.spot.state (N m) ≡ Some w.target = subst (λ (p : GotoFact). edge_of t p.from (N p.nonterminal) ≡ Some w.target) row.2 k.edge in
          let target : w.target ≡ g = option_unique _ w.target g there edge in
          let stored : HasGotoWord gotos i.spot.state m i.spot.next x k.word = subst (λ (p : GotoFact). HasGotoWord gotos p.from p.nonterminal p.first p.next k.word) row.2 k.stored in
          let word : k.word ≡ v = option_unique _ k.word v stored way in
          let o : WaitingSpot = record { spot = spot w.target w.fact.next; made = made_after from (lasts.Word w.word) } in
          let s : StepsOverGoto from w (min (level + w.cost) cap) o = record { at_state = state; begins = first; cost_is = refl; is = refl } in
          let at : o.spot ≡ spot g x = rw (target, after) refl in
          let le : LabelNoLater t (extended_label ok.label k.word) (extended_label ok.label v) = rw word (laws.reflexive (extended_label ok.label v)) in
          inr (min (level + w.cost) cap, o, extended_label ok.label k.word, inl (more.all (min (level + w.cost) cap) o (inr (w, row.1, s))), at, goto_label w k (min (level + w.cost) cap) o refl refl, le)

      -- The label of an arrival that follows extends the label of the settled arrival.
      follow_label : (cost : ℕ) (o : WaitingSpot) → FollowsSpot t c rows from cost o → (v : List ℕ) × IsLabelOf t book cost o (extended_label ok.label v)
      follow_label cost o (inl (x, s)) = (x ∷ [], shift_label x cost o (shift_known t f i.spot.state x s.end ok.state s.move) s.cost_is (ap (λ (y : WaitingSpot). y.made) s.is))
      follow_label cost o (inr (w, there, s)) = let k = in_rows.each _ w there in (k.word, goto_label w k cost o s.cost_is (ap (λ (y : WaitingSpot). y.made) s.is))

      shift_ok : (cost : ℕ) (o : WaitingSpot) → StepsShift t c from cost o → IsSoundSpot t c book cost o
      shift_ok cost o (x, s) =
          let edge : edge_of t i.spot.state (T x) ≡ Some s.end = f.shifts i.spot.state x s.end (shifts_from_move t i.spot.state x [] s.end s.move) in
          let listed = cls.list_only s.end s.following s.listed in
          let before : SoundLabel t rep i.spot.state (rep i.spot.state x) ok.label = rw s.token ok.sound in
          let known = shift_known t f i.spot.state x s.end ok.state s.move in
          rw (s.cost_is, s.is) (record {
            state = f.each_target i.spot.state (T x) s.end edge;
            token = listed.0;
            few = min_cap (level + cost_of_token t x);
            known = λ lt. ((numbered (cheap_front level (cost_of_token t x) le_cap lt)).known, tt);
            label = extended_label ok.label (x ∷ []);
            label_is = shift_label x (min (level + cost_of_token t x) cap) (record { spot = spot s.end s.following; made = made_after from (lasts.Token x) }) known refl refl;
            sound = reach_shifts t f rep i.spot.state x s.following s.end ok.label ok.state before s.move;
          })

      goto_ok : (cost : ℕ) (o : WaitingSpot) (w : NumberedGoto) → IsNumberedGoto t rep book gotos w → StepsOverGoto from w cost o → IsSoundSpot t c book cost o
      goto_ok cost o w k s =
          let edge : edge_of t i.spot.state (N w.fact.nonterminal) ≡ Some w.target = rw s.at_state at k.edge in
          let half : SoundGoto t rep i.spot.state w.fact.nonterminal w.fact.first w.fact.next w.target k.word = subst (λ (m : ℕ). SoundGoto t rep m w.fact.nonterminal w.fact.first w.fact.next w.target k.word) s.at_state k.sound in
          let way : SoundGoto t rep i.spot.state w.fact.nonterminal i.spot.next w.fact.next w.target k.word = subst (λ (m : ℕ). SoundGoto t rep i.spot.state w.fact.nonterminal m w.fact.next w.target k.word) s.begins half in
          rw (s.cost_is, s.is) (record {
            state = f.each_target i.spot.state (N w.fact.nonterminal) w.target edge;
            token = k.next;
            few = min_cap (level + w.cost);
            known = λ lt. ((numbered (cheap_front level w.cost le_cap lt)).known, (k.numbered (cheap_back level w.cost k.few lt)).known);
            label = extended_label ok.label k.word;
            label_is = goto_label w k (min (level + w.cost) cap) (record { spot = spot w.target w.fact.next; made = made_after from (lasts.Word w.word) }) refl refl;
            sound = reached_by_goto t f rep i.spot.state w.fact.nonterminal i.spot.next w.fact.next w.target ok.label k.word ok.state ok.sound way edge;
          })

      follow_ok : (cost : ℕ) (o : WaitingSpot) → FollowsSpot t c rows from cost o → IsSoundSpot t c book cost o
      follow_ok cost o (inl s) = shift_ok cost o s
      follow_ok cost o (inr (w, there, s)) = goto_ok cost o w (in_rows.each _ w there) s

      each : (cost : ℕ) (o : WaitingSpot) → Waiting new level beside cost o → IsSoundSpot t c book cost o
      each cost o waits = elim (came cost o waits) [ inl before ↦ good.items cost o before | inr add ↦ follow_ok cost o add ]

      low_follow : (cost : ℕ) (o : WaitingSpot) → FollowsSpot t c rows from cost o → level ≤ cost
      low_follow cost o (inl s) = rw s.1.cost_is (no_lower level (cost_of_token t s.0) le_cap)
      low_follow cost o (inr s) = rw s.2.cost_is (no_lower level s.0.cost le_cap)

      low_all : (cost : ℕ) (o : WaitingSpot) → Waiting new level beside cost o → level ≤ cost
      low_all cost o waits = elim (came cost o waits) [ inl before ↦ good.at_least_level cost o before | inr add ↦ low_follow cost o add ]

      -- The settled arrival comes no later than all arrivals that wait.
      no_sooner : (cost : ℕ) (o : WaitingSpot) → Waiting new level beside cost o → (m : Label) → IsLabelOf t book cost o m → LabelNoLater t ok.label m
      no_sooner cost o waits m by = elim (came cost o waits) [
        | inl before ↦ h.none_earlier i o cost next.waited before ok.label m ok.label_is by
        | inr add ↦ (
            let k = follow_label cost o add in
            laws.transitive ok.label (extended_label ok.label k.0) m (laws.prefix ok.label k.0) (labels_alike t book cost o (extended_label ok.label k.0) m k.1 by))
      ]

      before_all : (k : StateAndNext) (l m : Label) (cost : ℕ) (o : WaitingSpot) → later k ≡ Some l → Waiting new level beside cost o → IsLabelOf t book cost o m → LabelNoLater t l m
      before_all k l m cost o e waits by = elim (only k l e) [
        | inl before ↦ laws.transitive l ok.label m (good.before k l ok.label level i before (inl next.waited) ok.label_is) (no_sooner cost o waits m by)
        | inr is ↦ rw is.1 (no_sooner cost o waits m by)
      ]

      -- An arrival that follows with the same cost comes no later than any label that the settled arrival comes no
      -- later than.
      level_label : (o : WaitingSpot) → FollowsSpot t c rows from level o → (k l : Label) → IsLabelOf t book level o k → LabelNoLater t ok.label l → LabelNoLater t k l
      level_label o add k l by le =
          let x = follow_label level o add in
          let le' : LabelNoLater t (extended_label ok.label x.0) l = elim (cases_lt level cap) [
            | inl lt ↦ rw (same_label t ok.label x.0 level lt ok.label_is.cost_is x.1.cost_is) le
            | inr ge ↦ over_from t ok.label (extended_label ok.label x.0) l level ge ok.label_is.cost_is x.1.cost_is le
          ] in
          laws.transitive k (extended_label ok.label x.0) l (labels_alike t book level o k (extended_label ok.label x.0) by x.1) le'

      none_earlier_all : (x y : WaitingSpot) (cost : ℕ) → Waits new level x → Waiting new level beside cost y → NoLaterAt t book level cost x y
      none_earlier_all x y cost there waits k l by by' = elim (more.only level x there) [
        | inl before ↦ laws.transitive k ok.label l (h.none_earlier x i level (next.only level x before) (inl next.waited) k ok.label by ok.label_is) (no_sooner cost y waits l by')
        | inr add ↦ level_label x add k l by (no_sooner cost y waits l by')
      ]

      one_word_all : level < cap → (x : WaitingSpot) (l : Label) → Waits new level x → IsLabelOf t book level x l → IsWordAt book n (numbers_of l)
      one_word_all lt x l there by = elim (more.only level x there) [
        | inl before ↦ h.one_word lt x l (next.only level x before) by
        | inr add ↦ (
            let k = follow_label level x add in
            let one : l ≡ extended_label ok.label k.0 = one_label t book level x l (extended_label ok.label k.0) lt by k.1 in
            let same : extended_label ok.label k.0 ≡ ok.label = same_label t ok.label k.0 level lt ok.label_is.cost_is k.1.cost_is in
            rw (one ∙ same) (numbered lt))
      ]

      settling_keeps_invariant : SpotInvariant t c gotos book (spots ++ (i.spot, arrival) ∷ []) new level beside
      settling_keeps_invariant = record {
        label_assignment = assignment_more t book spots good.label_assignment i.spot arrival ok.label next.fresh ok.label_is.cost_is numbered;
        closed = record {
          begins = λ j z lt zt. held j (rep j z) (record { start = j; word = [] }) (good.closed.begins j z lt zt);
          shifts = λ s x z j l e move lt. elim (only (spot s (rep s x)) l e) [
            | inl before ↦ held j (rep j z) (extended_label l (x ∷ [])) (good.closed.shifts s x z j l before move lt)
            | inr is ↦ (
                let state : s ≡ i.spot.state = ap (λ (k : StateAndNext). k.state) is.0 in
                let token : rep s x ≡ i.spot.next = ap (λ (k : StateAndNext). k.next) is.0 in
                rw is.1 (shift_on x z j (rw state at token) (rw state at move) lt))
          ];
          gotos = λ s m y x g l v e way edge. elim (only (spot s y) l e) [
            | inl before ↦ held g x (extended_label l v) (good.closed.gotos s m y x g l v before way edge)
            | inr is ↦ (
                let state : s ≡ i.spot.state = ap (λ (k : StateAndNext). k.state) is.0 in
                let token : y ≡ i.spot.next = ap (λ (k : StateAndNext). k.next) is.0 in
                rw is.1 (goto_on m x g v (rw (state, token) at way) (rw state at edge)))
          ];
        };
        sound = λ s z l e. elim (only (spot s z) l e) [
          | inl before ↦ good.sound s z l before
          | inr is ↦ (
              let state : s ≡ i.spot.state = ap (λ (k : StateAndNext). k.state) is.0 in
              let token : z ≡ i.spot.next = ap (λ (k : StateAndNext). k.next) is.0 in
              rw (state, token, is.1) ok.sound)
        ];
        items = each;
        at_least_level = low_all;
        at_most_level = λ k g e. elim (at_cases spot_keys spots i.spot k arrival g next.fresh e) [ inl before ↦ good.at_most_level k g before | inr is ↦ rw is.1 (omega arith) ];
        before = before_all;
      }

      pub spot_settles : SpotsInOrder t c gotos book (spots ++ (i.spot, arrival) ∷ []) new level n rs
      spot_settles = record { invariant = settling_keeps_invariant; none_earlier = none_earlier_all; one_word = one_word_all; rising = h.rising; ranked = h.ranked }

-- The search ends.
pub least_arrivals : (t : TableData) (f : Facts t) (c : TokenClasses) (cls : AreTokenClasses t c) (gotos : GotoWords) → AreLeastGotos t (rep_of c) gotos → (spots : Spots) (q : SpotQueue) (level : ℕ) (beside : List WaitingSpot) → SpotInvariant t c gotos spots.book spots.spots q level beside
    → ((cost : ℕ) (o : WaitingSpot) → Waiting q level beside cost o → ⊥) → AreLeastArrivals t c spots
least_arrivals t f c cls gotos least spots q level beside good none = record {
  label_assignment = good.label_assignment;
  sound = good.sound;
  complete = least_label t f (rep_of c) gotos least (labels_at good.label_assignment.labels) (all_closed t f c cls gotos spots.book spots.spots q level beside good none);
}
