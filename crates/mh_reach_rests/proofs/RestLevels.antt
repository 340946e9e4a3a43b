-- Lemmas on a level of the search over rests, from its beginning to its end: the items of one cost.
use Rattle.std.proofs.Common.{◌≡◌, ℕ, suc, ◌+◌, ◌<◌, ◌≤◌, inl, inr, List, [], ◌∷◌, ◌++◌, length, get_or, Some, None, refl, sym, arith, ◌∙◌}
use Rattle.std.specs.Prelude.{max, slice_get}
use Rattle.std.specs.List.{Contains}
use Rattle.std.specs.List.Sorted.{IsNonDecreasingBy, IsPermutation}
use Rattle.std.specs.Global.{Vec}
use Rattle.std.proofs.lemmas.Bool.{cases_lt}
use Rattle.std.proofs.lemmas.Grind.{common_steps}
use Rattle.std.proofs.lemmas.List.{length_push}
use Rattle.std.proofs.lemmas.List.Sorted.{Contains-permutation, IsPermutation-sym}
use Rattle.std.proofs.lemmas.Option.{slice_get_within}
use Rattle.mh_grammar.proofs.Lists.{at_contains, contains_at, contains_map, contains_none, contains_there, get_cases, get_unique, get_within, map_contains}
use Rattle.mh_tables_core.specs.Table.{TableData}
use Rattle.mh_tables_core.specs.Facts.{Facts}
use Rattle.mh_facts.specs.Costs.{cap}
use Rattle.mh_facts.specs.declared.classes.TokenClasses.{TokenClasses}
use Rattle.mh_facts.specs.code.Queues.{IsSameQueueEntry, QueueGains, Waits}
use Rattle.mh_facts.specs.code.TokenClasses.{AreTokenClasses, rep_of}
use Rattle.mh_facts.specs.code.WordCosts.{WordNoLater}
use Rattle.mh_facts.proofs.WordCosts.{no_later_at_cap, no_later_if_cheaper, order_laws}
use Rattle.mh_reach_words.specs.code.Words.{IsBook, Words}
use Rattle.mh_reach_words.specs.code.Numbering.{AreBelowGroup}
use Rattle.mh_reach_words.specs.code.QueueDraws.{DrawsNone, DrawsOne}
use Rattle.mh_reach_words.specs.code.WordNumbers.{IsNumberOfWord}
use Rattle.mh_reach_words.proofs.QueueDraws.{above, moves_drained, moves_higher, moves_pushed, moves_sorted, moves_taken}
use Rattle.mh_reach_rests.specs.declared.numbering.RestBook.{RestBook}
use Rattle.mh_reach_rests.specs.declared.settled.SettledWords.{SettledWords}
use Rattle.mh_reach_rests.specs.declared.settling.RankedWord.{RankedWord}
use Rattle.mh_reach_rests.specs.declared.settling.RestsFound.{RestsFound}
use Rattle.mh_reach_rests.specs.declared.waiting.WaitingWord.{WaitingWord}
use Rattle.mh_reach_rests.specs.declared.waiting.RestData.{RestData}
use Rattle.mh_reach_rests.specs.code.RestLevels.{ArePaired, AreSortedByWord, BeforeRestLevel, ExpandsItem, InRestLevel, IsDone, IsRanked, IsSoundItem, IsWaiting, RestLevel, TakesAllWaiting, WaitsFor, unranked}
use Rattle.mh_reach_rests.specs.code.RestNumbers.{AreRestsToNumber, AreTokensNumbered, RestsAreNumbered}
use Rattle.mh_reach_rests.specs.code.RestRules.{AreSources}
use Rattle.mh_reach_rests.specs.code.RestSearch.{IsPendingBefore, Settled}
use Rattle.mh_reach_rests.specs.code.SettledWords.{IsOriginWord, Settles, settled_at}
use Rattle.mh_reach_rests.proofs.Expansions.{queue_of}
use Rattle.mh_reach_rests.proofs.RestInvariant.{closed_weaker}
use Rattle.mh_reach_rests.proofs.RestNumbers.{no_later}
use Rattle.mh_reach_rests.proofs.RestSteps.{EqualButQueue, entry_of, invariant_moves, kept, later, settling_keeps_invariant, settling_no_later, settling_rising, settling_same, with_work}
use Rattle.mh_reach_rests.proofs.WordsOfSettled.{assignment_in, origin_kept, origin_one}

-- The invariant while one item of the level, and the items with the same word that follow from it, are settled: all
-- items of the level in the queue have the word of the number.
pub record SettlesOneWord (t : TableData) (c : TokenClasses) (found : RestsFound) (level number : ℕ) (rs : List RankedWord) : Type 0 where
  pub invariant : RestLevel t c found level (unranked rs)
  pub none_earlier : (o i : WaitingWord) (cost : ℕ) (u v : List ℕ) → Waits (queue_of found.work) level o → IsWaiting found.work level (unranked rs) cost i → IsOriginWord t invariant.assignment.words o.origin u → IsOriginWord t invariant.assignment.words i.origin v → WordNoLater t u v
  pub rising : AreSortedByWord t invariant.assignment.words (unranked rs)
  pub tokens : AreTokensNumbered t found.words (level + 1)
  pub below : AreBelowGroup found.words.book (level + 1)
  pub numbered : level < cap → (r : RankedWord) (u : List ℕ) → Contains rs r → IsOriginWord t invariant.assignment.words r.item.origin u → IsNumberOfWord found.words.book r.word level u
  pub same : level < cap → (o : WaitingWord) (u : List ℕ) → Waits (queue_of found.work) level o → IsOriginWord t invariant.assignment.words o.origin u → IsNumberOfWord found.words.book number level u

-- Items paired with the numbers of their words.

pub none_paired : (items : List WaitingWord) (numbers : List ℕ) → ArePaired items numbers 0 []
none_paired items numbers = record { len = refl; each = λ n r there. absurd (let y : None ≡ Some r = there in cc) }

pub paired_more : (items : List WaitingWord) (numbers : List ℕ) (count : ℕ) (pairs : List RankedWord) (i : WaitingWord) (word : ℕ) → ArePaired items numbers count pairs → slice_get items count ≡ Some i → slice_get numbers count ≡ Some word → ArePaired items numbers (count + 1) (pairs ++ record { item = i; word = word } ∷ [])
paired_more items numbers count pairs i word h at num = record {
  len = (let a = h.len in let b = length_push pairs (record { item = i; word = word }) in omega arith);
  each = λ n r there. elim (get_cases pairs (record { item = i; word = word }) n r there) [
    | inl was ↦ h.each n r was
    | inr new ↦ (let place : n ≡ count = new.0 ∙ h.len in rw (new.1, place) (record { item = at; word = num }))
  ];
}

pub pairs_ranked : (items : List WaitingWord) (numbers : List ℕ) (pairs rs : List RankedWord) → ArePaired items numbers (length items) pairs → IsPermutation pairs rs → IsNonDecreasingBy (λ r. r.word) rs → IsRanked items numbers rs
pairs_ranked items numbers pairs rs h same rises = record {
  kept = λ o there. (
      let at = at_contains items o there in
      let within = slice_get_within items at.0 o at.1 in
      let long = h.len in
      let r = get_within pairs at.0 (omega arith) in
      let pair = h.each at.0 r.0 r.1 in
      let is : r.0.item ≡ o = get_unique items at.0 r.0.item o pair.item at.1 in
      rw (← is) (contains_map (λ (r : RankedWord). r.item) rs r.0 (Contains-permutation pairs rs r.0 same (contains_at pairs at.0 r.0 r.1))));
  only = λ r there. (
      let was = Contains-permutation rs pairs r (IsPermutation-sym pairs rs same) there in
      let at = at_contains pairs r was in
      (at.0, h.each at.0 r at.1));
  is_sorted = rises;
}

-- Items of the highest cost are sorted in any order.
rises_over : (t : TableData) (c : TokenClasses) (words : Settled) (level : ℕ) → level ≡ cap → (ys : List WaitingWord) → ((o : WaitingWord) → Contains ys o → IsSoundItem t (rep_of c) words level o) → AreSortedByWord t words ys
rises_over t c words level top [] each = tt
rises_over t c words level top (y ∷ ys) each = (
  λ o u v there by by'.
      let a = each y (0, omega arith, refl) in
      let b = each o (contains_there y ys o there) in
      let e : u ≡ a.word = origin_one t words y.origin u a.word by a.word_by in
      let g : v ≡ b.word = origin_one t words o.origin v b.word by' b.word_by in
      rw (e, g) (no_later_at_cap t a.word b.word (sym top ∙ a.cost_is) (sym top ∙ b.cost_is)),
  rises_over t c words level top ys (λ o there. each o (contains_there y ys o there)),
)

-- Items with rising numbers have rising words.
module _ (t : TableData) (c : TokenClasses) (words : Settled) (book : Words) (level : ℕ) (is : IsBook book) (lt : level < cap) where
  rising_ranked : (rs : List RankedWord) → IsNonDecreasingBy (λ r. r.word) rs → ((o : WaitingWord) → Contains (unranked rs) o → IsSoundItem t (rep_of c) words level o)
      → ((r : RankedWord) (u : List ℕ) → Contains rs r → IsOriginWord t words r.item.origin u → IsNumberOfWord book r.word level u) → AreSortedByWord t words (unranked rs)
  rising_ranked [] up each numbered = tt
  rising_ranked (r ∷ rs) up each numbered = (
    λ o u v there by by'.
        let q = map_contains (λ (r : RankedWord). r.item) rs o there in
        let place = q.1 in
        let a = each r.item (0, omega arith, refl) in
        let b = each o (contains_there r.item (unranked rs) o there) in
        let e : u ≡ a.word = origin_one t words r.item.origin u a.word by a.word_by in
        let g : v ≡ b.word = origin_one t words o.origin v b.word by' b.word_by in
        let b_by : IsOriginWord t words q.0.item.origin b.word = rw q.2 b.word_by in
        let le : r.word ≤ q.0.word = (let at : get_or rs place.0 q.0 ≡ q.0 = place.2 in let w : r.word ≤ (get_or rs place.0 q.0).word = up 0 (suc place.0) q.0 (omega arith) (let l = place.1 in omega arith) in rw at at w) in
        rw (e, g) (no_later t book level r.word q.0.word a.word b.word is lt le (numbered r a.word (0, omega arith, refl) a.word_by) (numbered q.0 b.word (contains_there r rs q.0 q.1) b_by) a.cost_is b.cost_is),
    rising_ranked rs (λ i j d le l. up (suc i) (suc j) d (omega arith) (omega arith)) (λ o there. each o (contains_there r.item (unranked rs) o there)) (λ q u there by. numbered q u (contains_there r rs q there) by),
  )

-- The level begins: its items are taken out of the queue, numbered and sorted.
module _ (t : TableData) (f : Facts t) (c : TokenClasses) (cls : AreTokenClasses t c) (found : RestsFound) (level : ℕ) (le : level ≤ cap) (before : BeforeRestLevel t c found level) (mid : RestData) (all : List WaitingWord) (beside : EqualButQueue found.work mid) (taken : TakesAllWaiting found.settled (queue_of found.work) (queue_of mid) level all) where
  unfoldable level_taken : RestLevel t c (with_work found mid) level all
  level_taken = let m = moves_taken (IsDone found.settled) (queue_of found.work) (queue_of mid) level all taken in invariant_moves t f c cls found level [] before.invariant mid all beside m.kept_or_done m.back

  beside_ok : (o : WaitingWord) → Contains all o → IsSoundItem t (rep_of c) before.invariant.assignment.words level o
  unfolding level_taken invariant_moves
  beside_ok o there = level_taken.items level o (inr (refl, there))

  -- The items that are taken out of the queue can be numbered.
  pub level_numbers : AreRestsToNumber t found.settled found.words level all
  level_numbers = record {
    assignment = before.invariant.assignment;
    tokens = before.tokens;
    below = before.below;
    most = le;
    each = λ i there. (let ok = beside_ok i there in (ok.word, ok.word_by, ok.cost_is));
  }

  module _ (new : RestBook) (numbers : List ℕ) (rs : List RankedWord) (numbered : RestsAreNumbered t found.settled found.words new level all numbers) (book : IsBook new.book) (ranked : IsRanked all numbers rs) where
    abbrev words : Settled
    words = before.invariant.assignment.words

    only : (o : WaitingWord) → Contains (unranked rs) o → Contains all o
    only o there =
        let r = map_contains (λ (r : RankedWord). r.item) rs o there in
        let p = ranked.only r.0 r.1 in
        rw (← r.2) (contains_at all p.0 r.0.item (p.1).item)

    ok : (o : WaitingWord) → Contains (unranked rs) o → IsSoundItem t (rep_of c) words level o
    ok o there = beside_ok o (only o there)

    have_numbers : level < cap → (r : RankedWord) (u : List ℕ) → Contains rs r → IsOriginWord t words r.item.origin u → IsNumberOfWord new.book r.word level u
    have_numbers lt r u there by =
        let p = ranked.only r there in
        let o = beside_ok r.item (contains_at all p.0 r.item (p.1).item) in
        let e : u ≡ o.word = origin_one t words r.item.origin u o.word by o.word_by in
        rw e (numbered.each before.invariant.assignment p.0 r.word r.item o.word before.tokens (p.1).item (p.1).word o.word_by o.cost_is lt)

    rising : AreSortedByWord t words (unranked rs)
    rising = elim (cases_lt level cap) [
      | inl lt ↦ rising_ranked t c words new.book level book lt rs ranked.is_sorted ok (have_numbers lt)
      | inr ge ↦ rises_over t c words level (omega (arith, ge, le)) (unranked rs) ok
    ]

    unfoldable level_sorted : RestLevel t c (with_work found mid) level (unranked rs)
    level_sorted =
        let m = moves_sorted (IsDone found.settled) (queue_of mid) level all (unranked rs) (record { kept = ranked.kept; only = only }) in
        invariant_moves t f c cls (with_work found mid) level all level_taken mid (unranked rs) (record { rests = refl; gotos = refl }) m.kept_or_done m.back

    -- The words are the same in the longer book.
    unfoldable level_in_book : RestLevel t c (record { settled = found.settled; words = new; work = mid }) level (unranked rs)
    unfolding level_sorted level_taken invariant_moves
    level_in_book =
        let h = level_sorted in
        record {
          assignment = assignment_in t found.words.book numbered.added new.book numbered.grown found.settled before.invariant.assignment;
          rows = h.rows;
          search_invariant = h.search_invariant;
          items = h.items;
          at_least_level = h.at_least_level;
          at_most_level = h.at_most_level;
          all_rests = h.all_rests;
          rests_only = h.rests_only;
          all_gotos = h.all_gotos;
          gotos_only = h.gotos_only;
        }

    -- The items are sorted by their numbers.
    pub level_ranked : InRestLevel t c (record { settled = found.settled; words = new; work = mid }) level rs
    unfolding level_in_book
    level_ranked = record {
      invariant = level_in_book;
      none = taken.none;
      rising = rising;
      tokens = numbered.tokens before.tokens;
      below = numbered.below before.below;
      numbered = have_numbers;
    }

module _ (t : TableData) (f : Facts t) (c : TokenClasses) (cls : AreTokenClasses t c) (found : RestsFound) (level : ℕ) where
  -- The first item is moved to the queue.
  module _ (mid : RestData) (r : RankedWord) (rs : List RankedWord) (h : InRestLevel t c found level (r ∷ rs)) (beside : EqualButQueue found.work mid) (gains : QueueGains (IsSameQueueEntry level r.item) (queue_of found.work) (queue_of mid)) where
    abbrev words' : Settled
    words' = h.invariant.assignment.words

    x_ok : IsSoundItem t (rep_of c) words' level r.item
    x_ok = h.invariant.items level r.item (inr (refl, (0, omega arith, refl)))

    -- The item comes no later than all items that wait.
    first : (i : WaitingWord) (cost : ℕ) (u v : List ℕ) → IsWaiting mid level (unranked rs) cost i → IsOriginWord t words' r.item.origin u → IsOriginWord t words' i.origin v → WordNoLater t u v
    first i cost u v (inl there) by by' = elim (gains.only cost i there) [
      | inl was ↦ (
          let ok = h.invariant.items cost i (inl was) in
          let low = h.invariant.at_least_level cost i (inl was) in
          let e : u ≡ x_ok.word = origin_one t words' r.item.origin u x_ok.word by x_ok.word_by in
          let g : v ≡ ok.word = origin_one t words' i.origin v ok.word by' ok.word_by in
          elim (cases_lt level cost) [
            | inl lt ↦ rw (e, g) (no_later_if_cheaper t x_ok.word ok.word level cost x_ok.cost_is ok.cost_is lt)
            | inr ge ↦ absurd (h.none i (let same : cost ≡ level = omega (arith, ge, low) in rw same at was))
          ])
      | inr is ↦ (
          let by'' : IsOriginWord t words' r.item.origin v = rw is.1 at by' in
          let e : v ≡ u = origin_one t words' r.item.origin v u by'' by in
          rw e ((order_laws t).reflexive u))
    ]
    first i cost u v (inr aside) by by' = h.rising.0 i u v aside.1 by by'

    flat : (o i : WaitingWord) (cost : ℕ) (u v : List ℕ) → Waits (queue_of mid) level o → IsWaiting mid level (unranked rs) cost i → IsOriginWord t words' o.origin u → IsOriginWord t words' i.origin v → WordNoLater t u v
    flat o i cost u v there waits by by' = elim (gains.only level o there) [
      | inl was ↦ absurd (h.none o was)
      | inr is ↦ first i cost u v waits (rw is.1 at by) by'
    ]

    pub level_pushed : SettlesOneWord t c (with_work found mid) level r.word rs
    unfolding invariant_moves
    level_pushed = record {
      invariant = let m = moves_pushed (IsDone found.settled) (queue_of found.work) (queue_of mid) level r.item (unranked rs) gains in invariant_moves t f c cls found level (unranked (r ∷ rs)) h.invariant mid (unranked rs) beside m.kept_or_done m.back;
      none_earlier = flat;
      rising = h.rising.1;
      tokens = h.tokens;
      below = h.below;
      numbered = λ lt q u there by. h.numbered lt q u (contains_there r rs q there) by;
      same = λ lt o u there by. elim (gains.only level o there) [
        | inl was ↦ absurd (h.none o was)
        | inr is ↦ h.numbered lt r u (0, omega arith, refl) (rw is.1 at by)
      ];
    }

  -- The queue has no item of the level left.
  pub level_drained : (mid : RestData) (number : ℕ) (rs : List RankedWord) → SettlesOneWord t c found level number rs → EqualButQueue found.work mid → DrawsNone (IsDone found.settled) (queue_of found.work) (queue_of mid) level → InRestLevel t c (with_work found mid) level rs
  unfolding invariant_moves
  level_drained mid number rs h beside next = record {
    invariant = let m = moves_drained (IsDone found.settled) (queue_of found.work) (queue_of mid) level (unranked rs) next in invariant_moves t f c cls found level (unranked rs) h.invariant mid (unranked rs) beside m.kept_or_done m.back;
    none = next.none;
    rising = h.rising;
    tokens = h.tokens;
    below = h.below;
    numbered = h.numbered;
  }

  -- A word is settled.
  module _ (le : level ≤ cap) (sources : List (Vec ℕ)) (from_all : AreSources t sources) (number : ℕ) (rs : List RankedWord) (h : SettlesOneWord t c found level number rs) (mid new : RestData) (after : SettledWords) (i : WaitingWord) (beside : EqualButQueue found.work mid)
      (next : DrawsOne (IsDone found.settled) (λ o. settled_at found.settled o.sought ≡ None) (queue_of found.work) (queue_of mid) level i) (stored : Settles found.settled after i.sought (entry_of level number)) (more : ExpandsItem t c sources mid new i level) where
    abbrev good : RestLevel t c found level (unranked rs)
    good = h.invariant

    abbrev settled : IsSoundItem t (rep_of c) good.assignment.words level i
    settled = good.items level i (inl next.waited)

    number_here : level < cap → IsNumberOfWord found.words.book number level settled.word
    number_here lt = h.same lt i settled.word next.waited settled.word_by

    abbrev with_more : Settled
    with_more = later t f c cls found level (unranked rs) good le h.none_earlier h.rising sources from_all mid new after number i beside next stored number_here more

    numbered_still : level < cap → (r : RankedWord) (u : List ℕ) → Contains rs r → IsOriginWord t with_more r.item.origin u → IsNumberOfWord found.words.book r.word level u
    numbered_still lt r u there by =
        let k = good.items level r.item (inr (refl, contains_map (λ (r : RankedWord). r.item) rs r there)) in
        let more_words = kept t f c cls found level (unranked rs) good le h.none_earlier h.rising sources from_all mid new after number i beside next stored number_here more in
        let one : u ≡ k.word = origin_one t with_more r.item.origin u k.word by (origin_kept t good.assignment.words with_more r.item.origin k.word more_words k.word_by) in
        rw one (h.numbered lt r k.word there k.word_by)

    pub level_settles : SettlesOneWord t c (record { settled = after; words = found.words; work = new }) level number rs
    unfolding settling_keeps_invariant
    level_settles = record {
      invariant = settling_keeps_invariant t f c cls found level (unranked rs) good le h.none_earlier h.rising sources from_all mid new after number i beside next stored number_here more;
      none_earlier = settling_no_later t f c cls found level (unranked rs) good le h.none_earlier h.rising sources from_all mid new after number i beside next stored number_here more;
      rising = settling_rising t f c cls found level (unranked rs) good le h.none_earlier h.rising sources from_all mid new after number i beside next stored number_here more;
      tokens = h.tokens;
      below = h.below;
      numbered = numbered_still;
      same = λ lt. settling_same t f c cls found level (unranked rs) good le h.none_earlier h.rising sources from_all mid new after number i beside next stored number_here more lt (λ u. IsNumberOfWord found.words.book number level u) (number_here lt) (h.same lt);
    }

  -- The level is finished.
  was_waiting : (cost : ℕ) (i : WaitingWord) → IsWaiting found.work (level + 1) [] cost i → IsWaiting found.work level [] cost i
  was_waiting = (moves_higher (IsDone found.settled) (queue_of found.work) level).back

  waits_on : (cost : ℕ) (i : WaitingWord) → IsWaiting found.work level [] cost i → IsWaiting found.work (level + 1) [] cost i
  waits_on cost i (inl there) = inl there
  waits_on cost i (inr aside) = absurd (contains_none i aside.1)

  pub level_done : InRestLevel t c found level [] → BeforeRestLevel t c found (level + 1)
  level_done h =
      let good = h.invariant in
      let store = good.assignment.words in
      record {
        invariant = record {
          assignment = good.assignment;
          rows = good.rows;
          search_invariant = record {
            closed = closed_weaker t (rep_of c) store (IsPendingBefore (WordNoLater t) store (WaitsFor t store (IsWaiting found.work level []))) (IsPendingBefore (WordNoLater t) store (WaitsFor t store (IsWaiting found.work (level + 1) []))) (λ k u p. elim p [
              | inl held ↦ inl held
              | inr w ↦ inr (w.0, ((w.1).0, (w.1).1, waits_on (w.1).0 (w.1).1 (w.1).2, (w.1).3, (w.1).4), w.2)
            ]) good.search_invariant.closed;
            stored = good.search_invariant.stored;
            queued = λ k u (cost, i, waits, is, by). good.search_invariant.queued k u (cost, i, was_waiting cost i waits, is, by);
            before = λ k l u m e (cost, i, waits, is, by). good.search_invariant.before k l u m e (cost, i, was_waiting cost i waits, is, by);
          };
          items = λ cost i waits. good.items cost i (was_waiting cost i waits);
          at_least_level = above (queue_of found.work) level good.at_least_level h.none;
          at_most_level = λ k e there. (let l = good.at_most_level k e there in omega (arith, l));
          all_rests = good.all_rests;
          rests_only = good.rests_only;
          all_gotos = good.all_gotos;
          gotos_only = good.gotos_only;
        };
        tokens = h.tokens;
        below = λ n lt. (let less = h.below n lt in let most : level + 1 ≤ max 1 (level + 1) = grind (arith, common_steps) in omega (arith, less, most));
      }
