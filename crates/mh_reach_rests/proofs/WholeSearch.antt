-- Proves that the invariant of the search over rests holds at the beginning, and gives the result at the end.
use Rattle.std.proofs.Common.{◌≡◌, ℕ, zero, suc, ◌+◌, ◌<◌, ◌≤◌, inl, inr, List, [], ◌∷◌, length, Some, None, refl, arith}
use Rattle.std.specs.Prelude.{max}
use Rattle.std.specs.Global.{Vec}
use Rattle.std.proofs.lemmas.Grind.{common_steps}
use Rattle.mh_grammar.proofs.Lists.{contains_none}
use Rattle.mh_grammar.specs.Plain.{rhs_of}
use Rattle.mh_tables_core.specs.Table.{TableData}
use Rattle.mh_tables_core.specs.Facts.{Facts}
use Rattle.mh_facts.specs.Costs.{cap}
use Rattle.mh_facts.specs.declared.classes.TokenClasses.{TokenClasses}
use Rattle.mh_facts.specs.code.Queues.{Waits}
use Rattle.mh_facts.specs.code.TokenClasses.{AreTokenClasses, rep_of}
use Rattle.mh_facts.specs.code.WordCosts.{WordNoLater}
use Rattle.mh_facts.proofs.WordCosts.{order_laws}
use Rattle.mh_reach_words.specs.code.Words.{empty_word}
use Rattle.mh_reach_words.specs.code.Numbering.{AreBelowGroup}
use Rattle.mh_reach_rests.specs.declared.conclusions.Conclusion.{Conclusion}
use Rattle.mh_reach_rests.specs.declared.settled.SettledWord.{SettledWord}
use Rattle.mh_reach_rests.specs.declared.settling.RestsFound.{RestsFound}
use Rattle.mh_reach_rests.specs.declared.sought.Sought.{Sought}
use Rattle.mh_reach_rests.specs.declared.sought.Sought.TheVariants as soughts
use Rattle.mh_reach_rests.specs.declared.waiting.Origin.TheVariants as origins
use Rattle.mh_reach_rests.specs.declared.waiting.WaitingWord.{WaitingWord}
use Rattle.mh_reach_rests.specs.code.RestLevels.{BeforeRestLevel, IsInRangeFor, IsRestsResult, IsSoundItem, IsWaiting, RestLevel, WaitsFor}
use Rattle.mh_reach_rests.specs.code.RestNumbers.{IsFreshBook}
use Rattle.mh_reach_rests.specs.code.RestRules.{AreBegun, IsEndWordOn}
use Rattle.mh_reach_rests.specs.code.RestSearch.{Settled}
use Rattle.mh_reach_rests.specs.code.SettledWords.{settled_at}
use Rattle.mh_reach_rests.proofs.ConcludedItems.{concluded_pending, concluded_sound}
use Rattle.mh_reach_rests.proofs.DerivedConclusions.{end_derived}
use Rattle.mh_reach_rests.proofs.Expansions.{queue_of}
use Rattle.mh_reach_rests.proofs.RestInvariant.{empty_closed}
use Rattle.mh_reach_rests.proofs.WordsOfSettled.{origin_one}

-- The conclusion for the empty rest at the end of the production p in the state s.
abbrev pub empty_rest : TableData → TokenClasses → (s p z : ℕ) → Conclusion
empty_rest t c s p z = record { key = record { from = s; production = p; dot = length (rhs_of t.grammar p); first = rep_of c s z; next = rep_of c s z }; end = s; cost = 0; origin = origins.Ended }

module _ (t : TableData) (f : Facts t) (c : TokenClasses) (cls : AreTokenClasses t c) (found : RestsFound) (b : AreBegun t c found.work) (rests : found.settled.rests ≡ []) (gotos : found.settled.gotos ≡ []) (fresh : IsFreshBook t found.words) where
  abbrev nothing : Settled
  nothing k = None

  none_settled : (k : Sought) (e : SettledWord) → settled_at found.settled k ≡ Some e → ⊥
  none_settled (soughts.Rest k) e there = let y : None ≡ Some e = rw rests at there in cc
  none_settled (soughts.Goto g) e there = let y : None ≡ Some e = rw gotos at there in cc

  none_beside : (cost : ℕ) (o : WaitingWord) → IsWaiting found.work 0 [] cost o → Waits (queue_of found.work) cost o
  none_beside cost o (inl h) = h
  none_beside cost o (inr h) = absurd (contains_none o h.1)

  begun_item : (cost : ℕ) (o : WaitingWord) → Waits (queue_of found.work) cost o → IsSoundItem t (rep_of c) nothing cost o
  begun_item cost o there = elim (b.queue.only cost o there) [
    | inl none ↦ absurd (contains_none o none)
    | inr below ↦ (
        let s : ℕ = below.0 in
        let on : (z : ℕ) × (z < t.grammar.tokens) × IsEndWordOn t c s z cost o = below.2 in
        let p = (on.2).production in
        concluded_sound t f c cls nothing (empty_rest t c s p on.0) [] (end_derived t f c cls nothing s p on.0 below.1 on.1 (on.2).move) (length (rhs_of t.grammar p)) refl cost o (on.2).is)
  ]

  begun_level : RestLevel t c found 0 []
  begun_level = record {
    assignment = record { words = nothing; none = λ k e. refl; some = λ k e there. absurd (none_settled k e there) };
    rows = record {
      rests = b.rests;
      gotos = b.gotos;
      each_rest = λ n r there. absurd (contains_none r (rw (b.no_rests n) at there));
      each_goto = λ n g there. absurd (contains_none g (rw (b.no_gotos n) at there));
    };
    search_invariant = record {
      closed = record {
        ends = λ s p z known lt move. concluded_pending t f c cls nothing (empty_rest t c s p z) [] (end_derived t f c cls nothing s p z known lt move) (IsWaiting found.work 0 []) (length (rhs_of t.grammar p)) refl (λ cost o con. inl (b.queue.all cost o (s, known, (z, lt, record { production = p; move = move; is = con }))));
        shifts = λ s p d x b z j v known symbol move e. absurd (let y : None ≡ Some v = e in cc);
        joins = λ s p d n a y z g u v known symbol edge e e'. absurd (let y : None ≡ Some u = e in cc);
      };
      stored = λ k u e. absurd (let y : None ≡ Some u = e in cc);
      queued = λ k u (cost, o, waits, is, by). (let ok = begun_item cost o (none_beside cost o waits) in let one = origin_one t nothing o.origin u ok.word by ok.word_by in rw (← is, one) ok.sound);
      before = λ k l u m e waits. absurd (let y : None ≡ Some u = e in cc);
    };
    items = λ cost o waits. begun_item cost o (none_beside cost o waits);
    at_least_level = λ cost o waits. omega arith;
    at_most_level = λ k e there. absurd (none_settled k e there);
    all_rests = λ k e n there symbol. absurd (none_settled (soughts.Rest k) e there);
    rests_only = λ n r there. absurd (contains_none r (rw (b.no_rests n) at there));
    all_gotos = λ g e target there edge. absurd (none_settled (soughts.Goto g) e there);
    gotos_only = λ n o there. absurd (contains_none o (rw (b.no_gotos n) at there));
  }

  pub search_begins : BeforeRestLevel t c found 0
  search_begins = record {
    invariant = begun_level;
    tokens = record { len = fresh.len; by_cost = fresh.by_cost; each = λ x m known num less. absurd (omega (arith, less)) };
    below = rw fresh.book empty_below;
  }
    where
      empty_below : AreBelowGroup (empty_word ∷ []) 1
      empty_below zero lt = omega arith
      empty_below (suc n) lt = absurd (omega (arith, lt))

-- The result, where nothing waits.
search_left : (t : TableData) (c : TokenClasses) (found : RestsFound) (level : ℕ) → BeforeRestLevel t c found level → level ≤ cap + 1 → ((cost : ℕ) (i : WaitingWord) → IsWaiting found.work level [] cost i → ⊥) → IsRestsResult t c found
search_left t c found level before le none =
    let good = before.invariant in
    record {
      assignment = good.assignment;
      sound = good.search_invariant.stored;
      closed = empty_closed t (rep_of c) (WordNoLater t) (order_laws t) good.assignment.words (WaitsFor t good.assignment.words (IsWaiting found.work level [])) good.search_invariant (λ k u (cost, i, waits, is, by). none cost i waits);
      rows = good.rows;
      all_gotos = good.all_gotos;
      gotos_only = good.gotos_only;
      below = λ n lt. (let less = before.below n lt in let high : max 1 level ≤ cap + 1 = grind (arith, common_steps, le) in omega (arith, less, high));
    }

pub search_ends : (t : TableData) (c : TokenClasses) (found : RestsFound) → BeforeRestLevel t c found (cap + 1) → IsRestsResult t c found
search_ends t c found before = search_left t c found (cap + 1) before (omega arith) none
  where
    high : (k : Sought) (end cost : ℕ) → IsInRangeFor t k end cost → cost ≤ cap
    high (soughts.Rest k) end cost h = h.range.most
    high (soughts.Goto g) end cost h = h.most

    none : (cost : ℕ) (i : WaitingWord) → IsWaiting found.work (cap + 1) [] cost i → ⊥
    none cost i waits = let low = before.invariant.at_least_level cost i waits in let most = high i.sought i.end cost (before.invariant.items cost i waits).range in omega (arith, low, most)

-- The cost of an item that waits is below the number of the queue's rows.
has_row : {X : Type 0} (rows : List (Vec X)) (n : ℕ) (x : X) → Waits rows n x → n < length rows
has_row [] n x h = absurd (contains_none x h)
has_row (r ∷ rows) zero x h = omega arith
has_row (r ∷ rows) (suc n) x h = let l = has_row rows n x h in omega (arith, l)

-- The search is finished if no item waits.
pub search_done : (t : TableData) (c : TokenClasses) (found : RestsFound) (level : ℕ) → BeforeRestLevel t c found level → level ≤ cap + 1 → length (queue_of found.work) ≤ level → IsRestsResult t c found
search_done t c found level before most le = search_left t c found level before most none
  where
    none : (cost : ℕ) (i : WaitingWord) → IsWaiting found.work level [] cost i → ⊥
    none cost i (inl there) = let lt = has_row (queue_of found.work) cost i there in let low = before.invariant.at_least_level cost i (inl there) in omega (arith, lt, low, le)
    none cost i (inr aside) = contains_none i aside.1
