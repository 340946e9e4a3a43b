-- Lemmas on a level of the second search, from its beginning to its end.
use Rattle.std.proofs.Common.{◌≡◌, ◌∙◌, ◌<◌, ◌≤◌, ◌+◌, inl, inr, ℕ, suc, List, [], ◌∷◌, length, get_or, refl, sym, ap, arith}
use Rattle.std.specs.List.{Contains}
use Rattle.std.specs.List.Sorted.{IsNonDecreasingBy}
use Rattle.std.proofs.lemmas.Bool.{cases_lt}
use Rattle.mh_grammar.proofs.Lists.{contains_at, contains_there, map_contains}
use Rattle.mh_tables_core.specs.Table.{TableData}
use Rattle.mh_tables_core.specs.Facts.{Facts}
use Rattle.mh_facts.specs.Costs.{cap}
use Rattle.mh_facts.specs.declared.classes.TokenClasses.{TokenClasses}
use Rattle.mh_facts.specs.code.BestFirst.{Label}
use Rattle.mh_facts.specs.code.Queues.{IsSameQueueEntry, QueueGains}
use Rattle.mh_facts.specs.code.TokenClasses.{AreTokenClasses}
use Rattle.mh_facts.specs.code.WordCosts.{cost_up_to_cap}
use Rattle.mh_reach_words.specs.code.Numbering.{AreBelowGroup, IsNumberOf}
use Rattle.mh_reach_words.specs.code.Sorting.{HaveSameElements, IsSorted}
use Rattle.mh_reach_words.specs.code.Words.{Words, HasParts, LessAtDifference, letters_of, spelled}
use Rattle.mh_reach_words.proofs.ComparisonOrder.{before_no_later}
use Rattle.mh_reach_words.proofs.LongerBook.{spelled_kept}
use Rattle.mh_reach_words.proofs.MergeSort.{rises_all}
use Rattle.mh_reach_words.specs.code.Arrivals.{LabelNoLater}
use Rattle.mh_reach_words.specs.code.SentenceComparison.{numbers_of}
use Rattle.mh_reach_words.proofs.LabelOrder.{both_over, by_numbers, cheaper_at, label_laws}
use Rattle.mh_reach_words.proofs.QueueDraws.{above, moves_drained, moves_higher, moves_pushed, moves_sorted, moves_taken}
use Rattle.mh_reach_rests.specs.code.ClosedRests.{GotoWords}
use Rattle.mh_reach_spots.specs.declared.waiting.RankedSpot.{RankedSpot}
use Rattle.mh_reach_spots.specs.declared.waiting.WaitingSpot.{WaitingSpot}
use Rattle.mh_reach_spots.specs.code.SpotLevels.{AreRanked, IsLabelOf, IsReachedAlready, IsSoundSpot, NoLaterAt, NoUnreachedLeft, SpotInvariant, SpotQueue, SpotsInOrder, SpotsReady, TakesAllUnreached, Waiting}
use Rattle.mh_reach_spots.specs.code.SpotNumbers.{AreSentences, IsRanked, SentencesAreNumbered, sentence_group, unranked}
use Rattle.mh_reach_spots.specs.code.Spots.{IsWordAt, SpotList}
use Rattle.mh_reach_spots.proofs.SpotInvariant.{invariant_moves, invariant_on}
use Rattle.mh_reach_spots.proofs.SpotLabels.{label_from_numbers, labels_alike}
use Rattle.mh_reach_spots.proofs.SpotNumbers.{are_sentences}

-- Sentences of one cost, below the highest, are in the order of their numbers.
numbers_in_order : (t : TableData) (book : Words) (level first m n : ℕ) (k l : Label) → level < cap → ((m n : ℕ) → first ≤ m → m < n → n < length book → LessAtDifference (letters_of book m) (letters_of book n)) → first ≤ m → m ≤ n → IsWordAt book m (numbers_of k) → IsWordAt book n (numbers_of l) → level ≡ cost_up_to_cap t k.word → level ≡ cost_up_to_cap t l.word → LabelNoLater t k l
numbers_in_order t book level first m n k l lt rising ge le a b e g = elim (cases_lt m n) [
  | inl less ↦ (
      let before : LessAtDifference (letters_of book m) (letters_of book n) = rising m n ge less b.known in
      by_numbers t k l level lt e g (before_no_later (numbers_of k) (numbers_of l) (rw (a.is, b.is) at before)))
  | inr ge' ↦ (
      let same : m ≡ n = omega arith in
      let one : k ≡ l = label_from_numbers k l (sym a.is ∙ ap (λ (i : ℕ). letters_of book i) same ∙ b.is) in
      rw one ((label_laws t).reflexive l))
]

-- Arrivals with rising numbers have rising labels.
rising_ranked : (t : TableData) (book : Words) (level first : ℕ) → level < cap → ((m n : ℕ) → first ≤ m → m < n → n < length book → LessAtDifference (letters_of book m) (letters_of book n)) → (rs : List RankedSpot) → IsNonDecreasingBy (λ r. r.sentence) rs → ((r : RankedSpot) → Contains rs r → first ≤ r.sentence) → AreRanked t book level rs → IsSorted (NoLaterAt t book level level) (unranked rs)
rising_ranked t book level first lt rising [] up fresh ranked = tt
rising_ranked t book level first lt rising (r ∷ rs) up fresh ranked = (
  λ y there k l by by'.
      let q = map_contains (λ (r : RankedSpot). r.coming) rs y there in
      let place = q.1 in
      let by'' : IsLabelOf t book level q.0.coming l = rw q.2 by' in
      let le : r.sentence ≤ q.0.sentence = (let at : get_or rs place.0 q.0 ≡ q.0 = place.2 in let w : r.sentence ≤ (get_or rs place.0 q.0).sentence = up 0 (suc place.0) q.0 (omega arith) (let l = place.1 in omega arith) in rw at at w) in
      numbers_in_order t book level first r.sentence q.0.sentence k l lt rising (fresh r (0, omega arith, refl)) le (ranked lt r k (0, omega arith, refl) by) (ranked lt q.0 l (contains_there r rs q.0 q.1) by'') by.cost_is by''.cost_is,
  rising_ranked t book level first lt rising rs (λ i j d le l. up (suc i) (suc j) d (omega arith) (omega arith)) (λ q there. fresh q (contains_there r rs q there)) (λ l q k there by. ranked l q k (contains_there r rs q there) by),
)

module _ (t : TableData) (f : Facts t) (c : TokenClasses) (cls : AreTokenClasses t c) (gotos : GotoWords) (book : Words) (spots : SpotList) (old : SpotQueue) (level : ℕ) where
  -- The arrivals of the level's cost are moved from the queue to a separate list.
  level_taken : (mid : SpotQueue) (all : List WaitingSpot) → SpotInvariant t c gotos book spots old level [] → TakesAllUnreached spots old mid level all → SpotInvariant t c gotos book spots mid level all
  level_taken mid all good takes =
      let m = moves_taken (IsReachedAlready spots) old mid level all takes in
      invariant_moves t f c cls gotos book spots old level [] good mid level all m.kept_or_done m.back (λ cost o h. good.at_least_level cost o (m.back cost o h)) (omega arith)

  -- The next arrival of the separate list is moved to the queue.
  pub level_pushed : (mid : SpotQueue) (r : RankedSpot) (rs : List RankedSpot) → SpotsReady t c gotos book spots old level (r ∷ rs) → QueueGains (IsSameQueueEntry level r.coming) old mid → SpotsInOrder t c gotos book spots mid level r.sentence rs
  level_pushed mid r rs ready gains = record {
    invariant = let m = moves_pushed (IsReachedAlready spots) old mid level r.coming (unranked rs) gains in invariant_moves t f c cls gotos book spots old level (unranked (r ∷ rs)) ready.invariant mid level (unranked rs) m.kept_or_done m.back (λ cost o h. ready.invariant.at_least_level cost o (m.back cost o h)) (omega arith);
    none_earlier = λ o y cost there waits. elim (gains.only level o there) [
      | inl was ↦ absurd (ready.none o was)
      | inr is ↦ rw is.1 (first y cost waits)
    ];
    one_word = λ lt o l there by. elim (gains.only level o there) [
      | inl was ↦ absurd (ready.none o was)
      | inr is ↦ ready.ranked lt r l (0, omega arith, refl) (rw is.1 at by)
    ];
    rising = ready.rising.1;
    ranked = λ lt q l there by. ready.ranked lt q l (contains_there r rs q there) by;
  }
    where
      -- The first arrival comes no later than all arrivals that wait.
      first : (y : WaitingSpot) (cost : ℕ) → Waiting mid level (unranked rs) cost y → NoLaterAt t book level cost r.coming y
      first y cost (inr aside) k l by by' = ready.rising.0 y aside.1 k l by (rw aside.0 at by')
      first y cost (inl there) k l by by' = elim (gains.only cost y there) [
        | inl was ↦ (
            let low = ready.invariant.at_least_level cost y (inl was) in
            elim (cases_lt level cost) [
              | inl lt ↦ cheaper_at t k l level cost by.cost_is by'.cost_is lt
              | inr ge ↦ absurd (ready.none y (let same : cost ≡ level = omega arith in rw same at was))
            ])
        | inr is ↦ (let x : IsLabelOf t book level r.coming l = rw (is.0, is.1) at by' in labels_alike t book level r.coming k l by x)
      ]

  -- The queue has no arrival of the level left.
  pub level_drained : (mid : SpotQueue) (n : ℕ) (rs : List RankedSpot) → SpotsInOrder t c gotos book spots old level n rs → NoUnreachedLeft spots old mid level → SpotsReady t c gotos book spots mid level rs
  level_drained mid n rs order next = record {
    invariant = let m = moves_drained (IsReachedAlready spots) old mid level (unranked rs) next in invariant_moves t f c cls gotos book spots old level (unranked rs) order.invariant mid level (unranked rs) m.kept_or_done m.back (λ cost o h. order.invariant.at_least_level cost o (m.back cost o h)) (omega arith);
    none = next.none;
    rising = order.rising;
    ranked = order.ranked;
  }

  -- The level is finished.
  pub level_done : SpotsReady t c gotos book spots old level [] → SpotInvariant t c gotos book spots old (level + 1) []
  level_done ready =
      let m = moves_higher (IsReachedAlready spots) old level in
      invariant_moves t f c cls gotos book spots old level [] ready.invariant old (level + 1) [] m.kept_or_done m.back (above old level ready.invariant.at_least_level ready.none) (omega arith)

  -- The level begins: its arrivals are taken out of the queue, and their sentences are numbered.
  module _ (mid : SpotQueue) (all : List WaitingSpot) (good : SpotInvariant t c gotos book spots old level []) (takes : TakesAllUnreached spots old mid level all) where
    taken : SpotInvariant t c gotos book spots mid level all
    taken = level_taken mid all good takes

    ok : (o : WaitingSpot) → Contains all o → IsSoundSpot t c book level o
    ok o there = taken.items level o (inr (refl, there))

    pub taken_sentences : AreBelowGroup book (sentence_group level) → level < cap → AreSentences book level all
    taken_sentences below lt = are_sentences t book level lt all (λ o there. ((ok o there).label, (ok o there).label_is)) below (λ o there. (ok o there).known lt)

    module _ (new : Words) (numbers : List ℕ) (rs : List RankedSpot) (numbered : SentencesAreNumbered book new level all numbers) (ranked : IsRanked all numbers rs) where
      only : (o : WaitingSpot) → Contains (unranked rs) o → Contains all o
      only o there =
          let r = map_contains (λ (r : RankedSpot). r.coming) rs o there in
          let p = ranked.only r.0 r.1 in
          rw (← r.2) (contains_at all p.0 r.0.coming (p.1).coming)

      number : level < cap → (r : RankedSpot) → Contains rs r → IsNumberOf book new r.coming.made r.sentence
      number lt r there = let p = ranked.only r there in numbered.each lt p.0 r.sentence r.coming (p.1).coming (p.1).sentence

      are_ranked : AreRanked t new level rs
      are_ranked lt r l there by =
          let p = ranked.only r there in
          let k = number lt r there in
          let known : HasParts book r.coming.made = (ok r.coming (contains_at all p.0 r.coming (p.1).coming)).known lt in
          let same : spelled new r.coming.made ≡ spelled book r.coming.made = rw numbered.grown (spelled_kept book numbered.added r.coming.made known) in
          record { known = k.known; is = k.letters ∙ sym same ∙ by.is lt }

      rising : IsSorted (NoLaterAt t new level level) (unranked rs)
      rising = elim (cases_lt level cap) [
        | inl lt ↦ rising_ranked t new level (length book) lt (numbered.rising lt) rs ranked.is_sorted (λ r there. (number lt r there).fresh) are_ranked
        | inr ge ↦ rises_all (NoLaterAt t new level level) (unranked rs) (λ x y in_x in_y k l by by'. both_over t k l level ge by.cost_is by'.cost_is)
      ]

      on_new : SpotInvariant t c gotos new spots mid level all
      on_new = rw numbered.grown (invariant_on t f c cls gotos book spots mid level all taken numbered.added)

      pub level_ready : SpotsReady t c gotos new spots mid level rs
      level_ready = record {
        invariant = level_sorted' (record { kept = ranked.kept; only = only });
        none = takes.none;
        rising = rising;
        ranked = are_ranked;
      }
        where
          level_sorted' : HaveSameElements all (unranked rs) → SpotInvariant t c gotos new spots mid level (unranked rs)
          level_sorted' same =
              let m = moves_sorted (IsReachedAlready spots) mid level all (unranked rs) same in
              invariant_moves t f c cls gotos new spots mid level all on_new mid level (unranked rs) m.kept_or_done m.back (λ cost o h. on_new.at_least_level cost o (m.back cost o h)) (omega arith)
