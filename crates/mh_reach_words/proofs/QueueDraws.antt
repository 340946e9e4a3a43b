-- Lemmas on items that are taken from a queue, and on items of a level that wait in a separate list.
use Rattle.std.proofs.Common.{◌≡◌, ℕ, ◌+◌, ◌≤◌, ◌⊎◌, inl, inr, List, [], ◌∷◌, sym, arith}
use Rattle.std.specs.Global.{Vec}
use Rattle.std.proofs.lemmas.Bool.{cases_lt}
use Rattle.std.proofs.lemmas.List.Elements.{Contains-append_left, Contains-append_right}
use Rattle.mh_facts.specs.code.Queues.{Waits, WaitsOrIsListed, QueueGains, IsSameQueueEntry, TakesItem, TakesNothing}
use Rattle.mh_reach_words.specs.code.QueueDraws.{DrawsOne, DrawsNone, AppendsUnlessDone, DrawsSome, DrawsAll}
use Rattle.mh_reach_words.specs.code.Sorting.{HaveSameElements}
use Rattle.mh_grammar.proofs.Lists.{contains_here, contains_there, contains_cases, contains_none, contains_push}

module _ {X : Type 0} (Done : X → Type 0) where
  -- Each item of the queue still waits or is done, and no item is new.
  pub record Thinned (old new : List (Vec X)) : Type 0 where
    pub kept : (c : ℕ) (o : X) → Waits old c o → Waits new c o ⊎ Done o
    pub only : (c : ℕ) (o : X) → Waits new c o → Waits old c o

  pub drop_done : (old mid new : List (Vec X)) (cost : ℕ) (i : X) → Thinned old mid → TakesItem mid new cost i → Done i → Thinned old new
  drop_done old mid new cost i h t done = record {
    kept = λ c o w. elim (h.kept c o w) [
      | inl there ↦ (elim (t.kept c o there) [ inl still ↦ inl still | inr is ↦ inr (rw is.1 done) ])
      | inr was ↦ inr was
    ];
    only = λ c o w. h.only c o (t.only c o w);
  }

  pub draws_none : (old mid new : List (Vec X)) (cost : ℕ) → Thinned old mid → TakesNothing mid new cost → DrawsNone Done old new cost
  draws_none old mid new cost h t = record {
    none = λ o w. t.none o (t.only cost o w);
    kept = λ c o w. elim (h.kept c o w) [ inl there ↦ inl (t.kept c o there) | inr was ↦ inr was ];
    only = λ c o w. h.only c o (t.only c o w);
  }

  pub draws_one : (Fresh : X → Type 0) (old mid new : List (Vec X)) (cost : ℕ) (i : X) → Thinned old mid → TakesItem mid new cost i → Fresh i → DrawsOne Done Fresh old new cost i
  draws_one Fresh old mid new cost i h t fresh = record {
    waited = h.only cost i t.waited;
    fresh = fresh;
    kept = λ c o w. elim (h.kept c o w) [
      | inl there ↦ (elim (t.kept c o there) [ inl still ↦ inl (inl still) | inr is ↦ inr is ])
      | inr was ↦ inl (inr was)
    ];
    only = λ c o w. h.only c o (t.only c o w);
  }

  -- All items of one cost are taken.

  pub drawn_none : (q : List (Vec X)) (cost : ℕ) → DrawsSome Done q q cost []
  drawn_none q cost = record { kept = λ c o w. inl (inl w); only = λ c o w. w; each = λ o there. absurd (contains_none o there) }

  -- One more item is taken.
  pub drawn_more : (old mid new : List (Vec X)) (cost : ℕ) (i : X) (before after : List X) → DrawsSome Done old mid cost before → TakesItem mid new cost i → AppendsUnlessDone Done i before after → DrawsSome Done old new cost after
  drawn_more old mid new cost i before after h t (inl is) = record {
    kept = λ c o w. elim (h.kept c o w) [
      | inl left ↦ (elim left [
        | inl there ↦ (elim (t.kept c o there) [ inl still ↦ inl (inl still) | inr one ↦ inr (one.0, rw (is, one.1) (Contains-append_right before (i ∷ []) i (contains_here i []))) ])
        | inr done ↦ inl (inr done)
      ])
      | inr beside ↦ inr (beside.0, rw is (Contains-append_left before (i ∷ []) o beside.1))
    ];
    only = λ c o w. h.only c o (t.only c o w);
    each = λ o there. elim (contains_push before i o (rw is at there)) [ inl was ↦ h.each o was | inr one ↦ rw one (h.only cost i t.waited) ];
  }
  drawn_more old mid new cost i before after h t (inr is) = record {
    kept = λ c o w. elim (h.kept c o w) [
      | inl left ↦ (elim left [
        | inl there ↦ (elim (t.kept c o there) [ inl still ↦ inl (inl still) | inr one ↦ inl (inr (rw one.1 is.1)) ])
        | inr done ↦ inl (inr done)
      ])
      | inr beside ↦ inr (beside.0, rw is.0 beside.1)
    ];
    only = λ c o w. h.only c o (t.only c o w);
    each = λ o there. h.each o (rw is.0 at there);
  }

  pub drawn_all : (old mid new : List (Vec X)) (cost : ℕ) (all : List X) → DrawsSome Done old mid cost all → TakesNothing mid new cost → DrawsAll Done old new cost all
  drawn_all old mid new cost all h t = record {
    taken = record {
      kept = λ c o w. elim (h.kept c o w) [ inl left ↦ (elim left [ inl there ↦ inl (inl (t.kept c o there)) | inr done ↦ inl (inr done) ]) | inr beside ↦ inr beside ];
      only = λ c o w. h.only c o (t.only c o w);
      each = h.each;
    };
    none = λ o w. t.none o (t.only cost o w);
  }

  -- Items in the queue, and items of the level in a separate list.

  -- Each item that waited still waits or is done, and no other item waits.
  pub record Moves (old new : ℕ → X → Type 0) : Type 0 where
    pub kept_or_done : (cost : ℕ) (o : X) → old cost o → new cost o ⊎ Done o
    pub back : (cost : ℕ) (o : X) → new cost o → old cost o

  -- The items of the level's cost are moved from the queue to the separate list.
  pub moves_taken : (old mid : List (Vec X)) (level : ℕ) (all : List X) → DrawsAll Done old mid level all → Moves (WaitsOrIsListed old level []) (WaitsOrIsListed mid level all)
  moves_taken old mid level all takes = record { kept_or_done = on; back = back }
    where
      on : (cost : ℕ) (o : X) → WaitsOrIsListed old level [] cost o → WaitsOrIsListed mid level all cost o ⊎ Done o
      on cost o (inl there) = elim (takes.taken.kept cost o there) [ inl left ↦ (elim left [ inl still ↦ inl (inl still) | inr done ↦ inr done ]) | inr beside ↦ inl (inr beside) ]
      on cost o (inr beside) = absurd (contains_none o beside.1)

      back : (cost : ℕ) (o : X) → WaitsOrIsListed mid level all cost o → WaitsOrIsListed old level [] cost o
      back cost o (inl there) = inl (takes.taken.only cost o there)
      back cost o (inr (e, there)) = inl (rw e (takes.taken.each o there))

  -- The separate list is reordered.
  pub moves_sorted : (q : List (Vec X)) (level : ℕ) (xs ys : List X) → HaveSameElements xs ys → Moves (WaitsOrIsListed q level xs) (WaitsOrIsListed q level ys)
  moves_sorted q level xs ys same = record { kept_or_done = on; back = back }
    where
      on : (cost : ℕ) (o : X) → WaitsOrIsListed q level xs cost o → WaitsOrIsListed q level ys cost o ⊎ Done o
      on cost o (inl there) = inl (inl there)
      on cost o (inr beside) = inl (inr (beside.0, same.kept o beside.1))

      back : (cost : ℕ) (o : X) → WaitsOrIsListed q level ys cost o → WaitsOrIsListed q level xs cost o
      back cost o (inl there) = inl there
      back cost o (inr beside) = inr (beside.0, same.only o beside.1)

  -- The first item of the separate list is moved to the queue.
  pub moves_pushed : (old mid : List (Vec X)) (level : ℕ) (x : X) (xs : List X) → QueueGains (IsSameQueueEntry level x) old mid → Moves (WaitsOrIsListed old level (x ∷ xs)) (WaitsOrIsListed mid level xs)
  moves_pushed old mid level x xs gains = record { kept_or_done = on; back = back }
    where
      on : (cost : ℕ) (o : X) → WaitsOrIsListed old level (x ∷ xs) cost o → WaitsOrIsListed mid level xs cost o ⊎ Done o
      on cost o (inl there) = inl (inl (gains.kept cost o there))
      on cost o (inr beside) = elim (contains_cases x xs o beside.1) [ inl is ↦ inl (inl (gains.all cost o (beside.0, sym is))) | inr other ↦ inl (inr (beside.0, other)) ]

      back : (cost : ℕ) (o : X) → WaitsOrIsListed mid level xs cost o → WaitsOrIsListed old level (x ∷ xs) cost o
      back cost o (inl there) = elim (gains.only cost o there) [ inl was ↦ inl was | inr is ↦ inr (is.0, rw is.1 (contains_here x xs)) ]
      back cost o (inr beside) = inr (beside.0, contains_there x xs o beside.1)

  -- The queue has no item of the level left.
  pub moves_drained : (old mid : List (Vec X)) (level : ℕ) (xs : List X) → DrawsNone Done old mid level → Moves (WaitsOrIsListed old level xs) (WaitsOrIsListed mid level xs)
  moves_drained old mid level xs next = record { kept_or_done = on; back = back }
    where
      on : (cost : ℕ) (o : X) → WaitsOrIsListed old level xs cost o → WaitsOrIsListed mid level xs cost o ⊎ Done o
      on cost o (inl there) = elim (next.kept cost o there) [ inl still ↦ inl (inl still) | inr done ↦ inr done ]
      on cost o (inr beside) = inl (inr beside)

      back : (cost : ℕ) (o : X) → WaitsOrIsListed mid level xs cost o → WaitsOrIsListed old level xs cost o
      back cost o (inl there) = inl (next.only cost o there)
      back cost o (inr beside) = inr beside

  -- The level is finished, and the next one begins.
  pub moves_higher : (q : List (Vec X)) (level : ℕ) → Moves (WaitsOrIsListed q level []) (WaitsOrIsListed q (level + 1) [])
  moves_higher q level = record { kept_or_done = on; back = back }
    where
      on : (cost : ℕ) (o : X) → WaitsOrIsListed q level [] cost o → WaitsOrIsListed q (level + 1) [] cost o ⊎ Done o
      on cost o (inl there) = inl (inl there)
      on cost o (inr beside) = absurd (contains_none o beside.1)

      back : (cost : ℕ) (o : X) → WaitsOrIsListed q (level + 1) [] cost o → WaitsOrIsListed q level [] cost o
      back cost o (inl there) = inl there
      back cost o (inr beside) = absurd (contains_none o beside.1)

-- If no item of the level is left, all items that wait cost more.
pub above : {X : Type 0} (q : List (Vec X)) (level : ℕ) → ((cost : ℕ) (o : X) → WaitsOrIsListed q level [] cost o → level ≤ cost) → ((o : X) → Waits q level o → ⊥) → (cost : ℕ) (o : X) → WaitsOrIsListed q (level + 1) [] cost o → level + 1 ≤ cost
above q level low none cost o (inr beside) = absurd (contains_none o beside.1)
above q level low none cost o (inl there) =
    let le = low cost o (inl there) in
    elim (cases_lt level cost) [ inl lt ↦ omega arith | inr ge ↦ absurd (none o (let same : cost ≡ level = omega arith in rw same at there)) ]
