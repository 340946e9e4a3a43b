-- Proves that each step of the search over rests keeps its invariant. A step settles one word; other words wait in the
-- queue as items.
use Rattle.std.proofs.Common.{◌≡◌, ℕ, suc, ◌-◌, ◌<◌, ◌≤◌, ◌⊎◌, inl, inr, List, [], ◌∷◌, ◌++◌, length, Some, None, refl, ap, sym, subst, arith, ◌∙◌}
use Rattle.std.specs.Prelude.{slice_get}
use Rattle.std.specs.List.{Contains}
use Rattle.std.specs.Global.{Vec}
use Rattle.std.proofs.lemmas.Bool.{cases_lt}
use Rattle.std.proofs.lemmas.Grind.{common_steps}
use Rattle.std.proofs.lemmas.List.{append-nil}
use Rattle.mh_grammar.proofs.Lists.{contains_there}
use Rattle.mh_grammar.specs.declared.types.Symbol.TheVariants.{N}
use Rattle.mh_grammar.specs.Plain.{rhs_of}
use Rattle.mh_tables_core.specs.Failing.{cost_by}
use Rattle.mh_tables_core.specs.Table.{TableData, edge_of}
use Rattle.mh_tables_core.specs.Facts.{Facts}
use Rattle.mh_facts.specs.Costs.{cap}
use Rattle.mh_facts.specs.declared.store.FactKey.{FactKey}
use Rattle.mh_facts.specs.declared.goto_fact.GotoFact.{GotoFact}
use Rattle.mh_facts.specs.declared.classes.TokenClasses.{TokenClasses}
use Rattle.mh_facts.specs.code.BestFirst.{WordOrderLaws, key}
use Rattle.mh_facts.specs.code.Orders as orders
use Rattle.mh_facts.specs.code.Queues.{Waits}
use Rattle.mh_facts.specs.code.TokenClasses.{AreTokenClasses, rep_of, place_of}
use Rattle.mh_facts.specs.code.WordCosts.{WordNoLater, cost_up_to_cap, weigh}
use Rattle.mh_facts.proofs.OrderLaws.{cost_append}
use Rattle.mh_facts.proofs.WordCosts.{no_later_at_cap, order_laws, part_of_cost_zero, word_of_cost_zero}
use Rattle.mh_reach_words.specs.code.QueueDraws.{DrawsOne}
use Rattle.mh_reach_words.specs.code.WordNumbers.{IsNumberOfWord}
use Rattle.mh_reach_rests.specs.declared.settled.SettledWord.{SettledWord}
use Rattle.mh_reach_rests.specs.declared.settled.SettledWords.{SettledWords}
use Rattle.mh_reach_rests.specs.declared.settling.RestsFound.{RestsFound}
use Rattle.mh_reach_rests.specs.declared.sought.Sought.{Sought}
use Rattle.mh_reach_rests.specs.declared.sought.Sought.TheVariants as soughts
use Rattle.mh_reach_rests.specs.declared.waiting.Origin.{Origin}
use Rattle.mh_reach_rests.specs.declared.waiting.WaitingWord.{WaitingWord}
use Rattle.mh_reach_rests.specs.declared.waiting.SettledRest.{SettledRest}
use Rattle.mh_reach_rests.specs.declared.waiting.SettledGoto.{SettledGoto}
use Rattle.mh_reach_rests.specs.declared.waiting.RestData.{RestData}
use Rattle.mh_reach_rests.specs.code.RestLevels.{AreSortedByWord, ExpandsFor, ExpandsItem, IsDone, IsInRangeFor, IsSoundItem, IsWaiting, RestLevel, WaitsFor, as_goto, as_rest}
use Rattle.mh_reach_rests.specs.code.RestRules.{AreSources, gotos_in, rests_in}
use Rattle.mh_reach_rests.specs.code.RestSearch.{IsSoundFor, RestStep, Settled, goto}
use Rattle.mh_reach_rests.specs.code.SettledWords.{IsOriginWord, Settles, settled_at}
use Rattle.mh_reach_rests.proofs.ConcludedItems.{concluded_cost, concluded_origin, concluded_sound}
use Rattle.mh_reach_rests.proofs.DerivedConclusions.{IsPart, IsSettledGoto, IsSettledRest}
use Rattle.mh_reach_rests.proofs.Expansions.{FollowsFrom, HaveRows, IsExpansion, goto_expands, queue_of, rest_expands}
use Rattle.mh_reach_rests.proofs.RestInvariant.{drops, settles}
use Rattle.mh_reach_rests.proofs.WordsOfSettled.{assignment_with, new_words, origin_kept, origin_one, rest_no_goto, settled_cases, settled_here, settled_kept, settled_of_word, words_here, words_kept, words_only}

-- A word that is extended and keeps its cost, below the highest cost, stays the same.
same_front : (t : TableData) (w r : List ℕ) (level : ℕ) → level < cap → level ≡ cost_up_to_cap t w → level ≡ cost_up_to_cap t (w ++ r) → w ++ r ≡ w
same_front t w r level lt e g =
    let sum = cost_append (weigh t) w r in
    let none : cost_by (weigh t) r ≡ 0 = part_of_cost_zero (cost_by (weigh t) w) (cost_by (weigh t) r) (cost_by (weigh t) (w ++ r)) level lt e g sum in
    rw (word_of_cost_zero t r none) (append-nil w)

same_back : (t : TableData) (r w : List ℕ) (level : ℕ) → level < cap → level ≡ cost_up_to_cap t w → level ≡ cost_up_to_cap t (r ++ w) → r ++ w ≡ w
same_back t r w level lt e g =
    let sum = cost_append (weigh t) r w in
    let none : cost_by (weigh t) r ≡ 0 = part_of_cost_zero (cost_by (weigh t) w) (cost_by (weigh t) r) (cost_by (weigh t) (r ++ w)) level lt e g (omega (arith, sum)) in
    rw (word_of_cost_zero t r none) refl

-- A word that comes no earlier than a word of the highest cost has the highest cost.
over_up : (t : TableData) (w v : List ℕ) → cap ≡ cost_up_to_cap t w → WordNoLater t w v → cap ≡ cost_up_to_cap t v
over_up t w v e (orders.CostLexLe.Cheaper a) = grind (arith, common_steps, e, a)
over_up t w v e (orders.CostLexLe.Over a b) = grind (arith, common_steps, b)
over_up t w v e (orders.CostLexLe.Lower a b) = grind (arith, common_steps, e, a)

-- Items that are sorted by their words stay sorted when more words are assigned.
pub rising_more : (t : TableData) (c : TokenClasses) (words later : Settled) (level : ℕ) → ((o : Sought) (u : List ℕ) → words o ≡ Some u → later o ≡ Some u) → (xs : List WaitingWord) → ((o : WaitingWord) → Contains xs o → IsSoundItem t (rep_of c) words level o) → AreSortedByWord t words xs → AreSortedByWord t later xs
rising_more t c words later level kept [] each h = tt
rising_more t c words later level kept (x ∷ xs) each h = (
  λ o u v there by by'.
      let here = each x (0, omega arith, refl) in
      let other = each o (contains_there x xs o there) in
      let e : u ≡ here.word = origin_one t later x.origin u here.word by (origin_kept t words later x.origin here.word kept here.word_by) in
      let g : v ≡ other.word = origin_one t later o.origin v other.word by' (origin_kept t words later o.origin other.word kept other.word_by) in
      rw (e, g) (h.0 o here.word other.word there here.word_by other.word_by),
  rising_more t c words later level kept xs (λ o there. each o (contains_there x xs o there)) h.1,
)

-- Two working data are equal, apart from the queue.
pub record EqualButQueue (old mid : RestData) : Type 0 where
  pub rests : mid.rests.items ≡ old.rests.items
  pub gotos : mid.gotos.items ≡ old.gotos.items

-- The same result with other working data.
abbrev pub with_work : RestsFound → RestData → RestsFound
with_work found work = record { settled = found.settled; words = found.words; work = work }

abbrev pub entry_of : (level number : ℕ) → SettledWord
entry_of level number = record { cost = level; word = number }

module _ (t : TableData) (f : Facts t) (c : TokenClasses) (cls : AreTokenClasses t c) (old : RestsFound) (level : ℕ) (aside : List WaitingWord) (good : RestLevel t c old level aside) where
  abbrev rep : ℕ → ℕ → ℕ
  rep = rep_of c

  abbrev words : Settled
  words = good.assignment.words

  abbrev laws : WordOrderLaws (WordNoLater t)
  laws = order_laws t

  pub settled_word : (k : Sought) → (e : SettledWord) × (settled_at old.settled k ≡ Some e) → (u : List ℕ) × (words k ≡ Some u)
  settled_word k h = let is = good.assignment.some k h.0 h.1 in (is.word, is.is)

  -- Items that wait are moved or dropped; a word is settled for each item that is dropped.
  unfoldable pub invariant_moves : (mid : RestData) (other : List WaitingWord) → EqualButQueue old.work mid → ((cost : ℕ) (i : WaitingWord) → IsWaiting old.work level aside cost i → IsWaiting mid level other cost i ⊎ IsDone old.settled i)
      → ((cost : ℕ) (i : WaitingWord) → IsWaiting mid level other cost i → IsWaiting old.work level aside cost i) → RestLevel t c (with_work old mid) level other
  invariant_moves mid other beside on back = record {
    assignment = good.assignment;
    rows = record {
      rests = ap length beside.rests ∙ good.rows.rests;
      gotos = ap length beside.gotos ∙ good.rows.gotos;
      each_rest = λ n r there. good.rows.each_rest n r (rw (← beside.rests) there);
      each_goto = λ n g there. good.rows.each_goto n g (rw (← beside.gotos) there);
    };
    search_invariant = drops t rep (WordNoLater t) laws words (WaitsFor t words (IsWaiting old.work level aside)) good.search_invariant (WaitsFor t words (IsWaiting mid level other))
        (λ k u h. elim (on h.0 h.1 h.2) [
          | inl still ↦ inl (h.0, h.1, still, h.3, h.4)
          | inr done ↦ inr (let s = settled_word h.1.sought done in (s.0, rw (← h.3) s.1))
        ])
        (λ k u h. (h.0, h.1, back h.0 h.1 h.2, h.3, h.4));
    items = λ cost i h. good.items cost i (back cost i h);
    at_least_level = λ cost i h. good.at_least_level cost i (back cost i h);
    at_most_level = good.at_most_level;
    all_rests = λ k e n there symbol. (let found = good.all_rests k e n there symbol in (found.0, rw beside.rests found.1, found.2));
    rests_only = λ n r there. good.rests_only n r (rw (← beside.rests) there);
    all_gotos = λ g e target there edge. (let found = good.all_gotos g e target there edge in (found.0, rw beside.gotos found.1, found.2));
    gotos_only = λ n o there. good.gotos_only n o (rw (← beside.gotos) there);
  }

  -- A word is settled for the item i.
  module _ (le_cap : level ≤ cap) (flat : (o i : WaitingWord) (cost : ℕ) (u v : List ℕ) → Waits (queue_of old.work) level o → IsWaiting old.work level aside cost i → IsOriginWord t words o.origin u → IsOriginWord t words i.origin v → WordNoLater t u v) (rising : AreSortedByWord t words aside)
      (sources : List (Vec ℕ)) (from_all : AreSources t sources) (mid new : RestData) (after : SettledWords) (number : ℕ) (i : WaitingWord) (beside : EqualButQueue old.work mid) (next : DrawsOne (IsDone old.settled) (λ o. settled_at old.settled o.sought ≡ None) (queue_of old.work) (queue_of mid) level i)
      (stored : Settles old.settled after i.sought (entry_of level number)) (numbered : level < cap → IsNumberOfWord old.words.book number level (good.items level i (inl next.waited)).word) (more : ExpandsItem t c sources mid new i level) where
    abbrev pub item_sound : IsSoundItem t rep words level i
    item_sound = good.items level i (inl next.waited)

    abbrev w : List ℕ
    w = item_sound.word

    abbrev pub later : Settled
    later = new_words t old.words.book old.settled after good.assignment i.sought (entry_of level number) w next.fresh stored item_sound.cost_is item_sound.short numbered

    pub kept : (o : Sought) (u : List ℕ) → words o ≡ Some u → later o ≡ Some u
    kept = words_kept t old.words.book old.settled after good.assignment i.sought (entry_of level number) w next.fresh stored item_sound.cost_is item_sound.short numbered

    here : later i.sought ≡ Some w
    here = words_here t old.words.book old.settled after good.assignment i.sought (entry_of level number) w next.fresh stored item_sound.cost_is item_sound.short numbered

    only : (o : Sought) (u : List ℕ) → later o ≡ Some u → (words o ≡ Some u) ⊎ ((o ≡ i.sought) × (u ≡ w))
    only = words_only t old.words.book old.settled after good.assignment i.sought (entry_of level number) w next.fresh stored item_sound.cost_is item_sound.short numbered

    old_item : (cost : ℕ) (o : WaitingWord) → IsSoundItem t rep words cost o → IsSoundItem t rep later cost o
    old_item cost o h = record { range = h.range; word = h.word; word_by = origin_kept t words later o.origin h.word kept h.word_by; cost_is = h.cost_is; short = h.short; sound = h.sound }

    -- The rows, before the settled word is added.
    have_rows : HaveRows t c later mid
    have_rows = record {
      each_rest = λ n r there.
          let was : Contains (rests_in old.work n) r = rw (← beside.rests) there in
          let found = good.rests_only n r was in
          let is = good.assignment.some (soughts.Rest r.key) found.0 found.1 in
          (is.word, record { range = good.rows.each_rest n r was; stored = kept (soughts.Rest r.key) is.word is.is; cost_is = sym found.2 ∙ is.cost_is; short = λ free. is.short (found.2 ∙ free); sound = good.search_invariant.stored (soughts.Rest r.key) is.word is.is });
      each_goto = λ n g there.
          let was : Contains (gotos_in old.work n) g = rw (← beside.gotos) there in
          let found = good.gotos_only n g was in
          let is = good.assignment.some (soughts.Goto g.fact) found.0 found.1 in
          (is.word, record { range = good.rows.each_goto n g was; stored = kept (soughts.Goto g.fact) is.word is.is; cost_is = sym found.2 ∙ is.cost_is; short = λ free. is.short (found.2 ∙ free); sound = good.search_invariant.stored (soughts.Goto g.fact) is.word is.is });
    }

    row_gotos : (g : GotoFact) (u : List ℕ) (target : ℕ) → words (soughts.Goto g) ≡ Some u → edge_of t g.from (N g.nonterminal) ≡ Some target → (o : SettledGoto) × Contains (gotos_in mid (place_of c target g.next)) o × (o.fact ≡ g)
    row_gotos g u target is edge =
        let e = settled_of_word t old.words.book old.settled good.assignment (soughts.Goto g) u is in
        let found = good.all_gotos g e.0 target e.1 edge in
        (found.0, rw beside.gotos found.1, found.2)

    row_rests : (k : FactKey) (u : List ℕ) (n : ℕ) → words (soughts.Rest k) ≡ Some u → slice_get (rhs_of t.grammar k.production) (k.dot - 1) ≡ Some (N n) → (r : SettledRest) × Contains (rests_in mid (place_of c k.from k.first)) r × (r.key ≡ k)
    row_rests k u n is symbol =
        let e = settled_of_word t old.words.book old.settled good.assignment (soughts.Rest k) u is in
        let found = good.all_rests k e.0 n e.1 symbol in
        (found.0, rw beside.rests found.1, found.2)

    pub expansion : IsExpansion t c words later mid new (IsWaiting new level aside) i.sought w level
    expansion = by i.sought refl
      where
        by : (k : Sought) → i.sought ≡ k → IsExpansion t c words later mid new (IsWaiting new level aside) k w level
        by (soughts.Rest k) is =
            let range : IsInRangeFor t (soughts.Rest k) i.end level = subst (λ (x : Sought). IsInRangeFor t x i.end level) is item_sound.range in
            let sound : IsSoundFor t rep (soughts.Rest k) w = subst (λ (x : Sought). IsSoundFor t rep x w) is item_sound.sound in
            let there : later (soughts.Rest k) ≡ Some w = subst (λ (x : Sought). later x ≡ Some w) is here in
            let h : IsSettledRest t c later (as_rest k i.end level) w = record { range = range; stored = there; cost_is = item_sound.cost_is; short = item_sound.short; sound = sound } in
            let expands : ExpandsFor t c sources mid new (soughts.Rest k) i.end level = subst (λ (x : Sought). ExpandsFor t c sources mid new x i.end level) is more in
            rest_expands t f c cls sources from_all words later kept mid new have_rows (IsWaiting new level aside) (λ cost o waits. inl waits) k i.end level w h row_gotos expands
        by (soughts.Goto g) is =
            let range : IsInRangeFor t (soughts.Goto g) i.end level = subst (λ (x : Sought). IsInRangeFor t x i.end level) is item_sound.range in
            let sound : IsSoundFor t rep (soughts.Goto g) w = subst (λ (x : Sought). IsSoundFor t rep x w) is item_sound.sound in
            let there : later (soughts.Goto g) ≡ Some w = subst (λ (x : Sought). later x ≡ Some w) is here in
            let h : IsSettledGoto t c later (as_goto g i.end level) w = record { range = range; stored = there; cost_is = item_sound.cost_is; short = item_sound.short; sound = sound } in
            let expands : ExpandsFor t c sources mid new (soughts.Goto g) i.end level = subst (λ (x : Sought). ExpandsFor t c sources mid new x i.end level) is more in
            goto_expands t f c cls sources from_all words later kept mid new have_rows (IsWaiting new level aside) (λ cost o waits. inl waits) g i.end level w h row_rests expands

    abbrev Follows : (cost : ℕ) → WaitingWord → Type 0
    Follows cost o = FollowsFrom t c later w level cost o

    -- Each item that waits waited before, or follows from the word that was settled.
    came : (cost : ℕ) (o : WaitingWord) → IsWaiting new level aside cost o → IsWaiting old.work level aside cost o ⊎ Follows cost o
    came cost o (inl h) = elim (expansion.only cost o h) [ inl was ↦ inl (inl (next.only cost o was)) | inr add ↦ inr add ]
    came cost o (inr h) = inl (inr h)

    each_follow : (cost : ℕ) (o : WaitingWord) → Follows cost o → IsSoundItem t rep later cost o
    each_follow cost o (d, u, from, concluded) = concluded_sound t f c cls later d u from.derived d.key.dot refl cost o concluded

    pub each_item : (cost : ℕ) (o : WaitingWord) → IsWaiting new level aside cost o → IsSoundItem t rep later cost o
    each_item cost o h = elim (came cost o h) [ inl was ↦ old_item cost o (good.items cost o was) | inr add ↦ each_follow cost o add ]

    low_follow : (cost : ℕ) (o : WaitingWord) → Follows cost o → level ≤ cost
    low_follow cost o (d, u, from, concluded) = rw (concluded_cost t c d d.key.dot cost o concluded) from.at_least_level

    pub low_all : (cost : ℕ) (o : WaitingWord) → IsWaiting new level aside cost o → level ≤ cost
    low_all cost o h = elim (came cost o h) [ inl was ↦ good.at_least_level cost o was | inr add ↦ low_follow cost o add ]

    -- The settled word is a prefix or a suffix of each word that follows from it.
    follow_parts : (cost : ℕ) (o : WaitingWord) → Follows cost o → (u : List ℕ) → IsOriginWord t later o.origin u → IsPart w u
    follow_parts cost o (d, v, from, concluded) u by =
        let by' : IsOriginWord t later d.origin u = subst (λ (x : Origin). IsOriginWord t later x u) (concluded_origin t c d d.key.dot cost o concluded) by in
        let one : u ≡ v = origin_one t later d.origin u v by' from.derived.word_by in
        rw one from.part

    -- A word that follows comes no earlier than the settled word.
    follow_later : (cost : ℕ) (o : WaitingWord) → Follows cost o → (u : List ℕ) → IsOriginWord t later o.origin u → WordNoLater t w u
    follow_later cost o add u by = elim (follow_parts cost o add u by) [ inl p ↦ rw p.1 (laws.prefix w p.0) | inr p ↦ rw p.1 (laws.suffix p.0 w) ]

    -- The word of an item that waited comes no earlier than the settled word.
    waited_later : (cost : ℕ) (o : WaitingWord) (was : IsWaiting old.work level aside cost o) (u : List ℕ) → IsOriginWord t later o.origin u → WordNoLater t w u
    waited_later cost o was u by =
        let ok = good.items cost o was in
        let one : u ≡ ok.word = origin_one t later o.origin u ok.word by (origin_kept t words later o.origin ok.word kept ok.word_by) in
        rw one (flat i o cost w ok.word next.waited was item_sound.word_by ok.word_by)

    no_sooner : (cost : ℕ) (o : WaitingWord) → IsWaiting new level aside cost o → (u : List ℕ) → IsOriginWord t later o.origin u → WordNoLater t w u
    no_sooner cost o h u by = elim (came cost o h) [ inl was ↦ waited_later cost o was u by | inr add ↦ follow_later cost o add u by ]

    still_pending : (k : Sought) (u : List ℕ) → WaitsFor t words (IsWaiting old.work level aside) k u → WaitsFor t later (IsWaiting new level aside) k u ⊎ ((v : List ℕ) × (later k ≡ Some v) × WordNoLater t v u)
    still_pending k u (cost, o, waits, is, by) = elim waits [
      | inl there ↦ (elim (next.kept cost o there) [
        | inl on ↦ (elim on [
          | inl still ↦ inl (cost, o, inl (expansion.kept cost o still), is, origin_kept t words later o.origin u kept by)
          | inr done ↦ (
              let s = settled_word o.sought done in
              let e : words k ≡ Some s.0 = rw (← is) s.1 in
              inr (s.0, kept k s.0 e, good.search_invariant.before k k s.0 u e (cost, o, inl there, is, by)))
        ])
        | inr one ↦ (
            let same : o ≡ i = one.1 in
            let k_is : i.sought ≡ k = ap (λ (x : WaitingWord). x.sought) (sym same) ∙ is in
            let by' : IsOriginWord t words i.origin u = rw same at by in
            let word : u ≡ w = origin_one t words i.origin u w by' item_sound.word_by in
            let there : later k ≡ Some w = subst (λ (x : Sought). later x ≡ Some w) k_is here in
            inr (w, there, rw word (laws.reflexive w)))
      ])
      | inr beside ↦ inl (cost, o, inr beside, is, origin_kept t words later o.origin u kept by)
    ]

    pub settling_step : RestStep t rep (WordNoLater t) words later (WaitsFor t words (IsWaiting old.work level aside)) (WaitsFor t later (IsWaiting new level aside)) i.sought w
    settling_step = record {
      only = only;
      kept = kept;
      still_pending = still_pending;
      shifts = expansion.shifts;
      rests = λ s p d n a y z g u same known symbol edge there. elim (only (soughts.Goto (goto s n a y)) u there) [
        | inl was ↦ expansion.rests s p d n a y z g u same known symbol edge was
        | inr is ↦ absurd (rest_no_goto (key g p (suc d) y z) (goto s n a y) (same ∙ sym is.0))
      ];
      gotos = λ s p d n a y z g v same known symbol edge there. elim (only (soughts.Rest (key g p (suc d) y z)) v there) [
        | inl was ↦ expansion.gotos s p d n a y z g v same known symbol edge was
        | inr is ↦ absurd (rest_no_goto (key g p (suc d) y z) (goto s n a y) (is.0 ∙ sym same))
      ];
      sound = λ k u (cost, o, waits, is, by). (let ok = each_item cost o waits in let one = origin_one t later o.origin u ok.word by ok.word_by in rw (← is, one) ok.sound);
      after = λ k u (cost, o, waits, is, by). no_sooner cost o waits u by;
    }

    pub all_rests : (k : FactKey) (e : SettledWord) (n : ℕ) → settled_at after (soughts.Rest k) ≡ Some e → slice_get (rhs_of t.grammar k.production) (k.dot - 1) ≡ Some (N n) → (r : SettledRest) × Contains (rests_in new (place_of c k.from k.first)) r × (r.key ≡ k)
    all_rests k e n there symbol = elim (settled_cases old.settled after i.sought (entry_of level number) next.fresh stored (soughts.Rest k) e there) [
      | inl was ↦ (let found = good.all_rests k e n was symbol in (found.0, expansion.rest_kept (place_of c k.from k.first) found.0 (rw beside.rests found.1), found.2))
      | inr is ↦ expansion.rest_here k n is.0 symbol
    ]

    pub all_gotos : (g : GotoFact) (e : SettledWord) (target : ℕ) → settled_at after (soughts.Goto g) ≡ Some e → edge_of t g.from (N g.nonterminal) ≡ Some target → (o : SettledGoto) × Contains (gotos_in new (place_of c target g.next)) o × (o.fact ≡ g)
    all_gotos g e target there edge = elim (settled_cases old.settled after i.sought (entry_of level number) next.fresh stored (soughts.Goto g) e there) [
      | inl was ↦ (let found = good.all_gotos g e target was edge in (found.0, expansion.goto_kept (place_of c target g.next) found.0 (rw beside.gotos found.1), found.2))
      | inr is ↦ expansion.goto_here g target is.0 edge
    ]

    -- The entry of what is added to a row.
    entry_here : (k : Sought) (cost : ℕ) → k ≡ i.sought → cost ≡ level → (e : SettledWord) × (settled_at after k ≡ Some e) × (e.cost ≡ cost)
    entry_here k cost is cost_is = (entry_of level number, subst (λ (x : Sought). settled_at after x ≡ Some (entry_of level number)) (sym is) (settled_here old.settled after i.sought (entry_of level number) next.fresh stored), sym cost_is)

    pub rests_only : (n : ℕ) (r : SettledRest) → Contains (rests_in new n) r → (e : SettledWord) × (settled_at after (soughts.Rest r.key) ≡ Some e) × (e.cost ≡ r.cost)
    rests_only n r there = elim (expansion.rest_only n r there) [
      | inl was ↦ (let found = good.rests_only n r (rw (← beside.rests) was) in (found.0, settled_kept old.settled after i.sought (entry_of level number) next.fresh stored (soughts.Rest r.key) found.0 found.1, found.2))
      | inr is ↦ entry_here (soughts.Rest r.key) r.cost is.0 is.1
    ]

    pub gotos_only : (n : ℕ) (o : SettledGoto) → Contains (gotos_in new n) o → (e : SettledWord) × (settled_at after (soughts.Goto o.fact) ≡ Some e) × (e.cost ≡ o.cost)
    gotos_only n o there = elim (expansion.goto_only n o there) [
      | inl was ↦ (let found = good.gotos_only n o (rw (← beside.gotos) was) in (found.0, settled_kept old.settled after i.sought (entry_of level number) next.fresh stored (soughts.Goto o.fact) found.0 found.1, found.2))
      | inr is ↦ entry_here (soughts.Goto o.fact) o.cost is.0 is.1
    ]

    pub at_most_level : (k : Sought) (e : SettledWord) → settled_at after k ≡ Some e → e.cost ≤ level
    at_most_level k e there = elim (settled_cases old.settled after i.sought (entry_of level number) next.fresh stored k e there) [
      | inl was ↦ good.at_most_level k e was
      | inr is ↦ rw is.1 (omega arith)
    ]

    unfoldable pub settling_keeps_invariant : RestLevel t c (record { settled = after; words = old.words; work = new }) level aside
    settling_keeps_invariant = record {
      assignment = assignment_with t old.words.book old.settled after good.assignment i.sought (entry_of level number) w next.fresh stored item_sound.cost_is item_sound.short numbered;
      rows = record {
        rests = expansion.rests_len ∙ ap length beside.rests ∙ good.rows.rests;
        gotos = expansion.gotos_len ∙ ap length beside.gotos ∙ good.rows.gotos;
        each_rest = λ n r there. elim (expansion.rest_only n r there) [ inl was ↦ good.rows.each_rest n r (rw (← beside.rests) was) | inr is ↦ (is.2).range ];
        each_goto = λ n g there. elim (expansion.goto_only n g there) [ inl was ↦ good.rows.each_goto n g (rw (← beside.gotos) was) | inr is ↦ (is.2).range ];
      };
      search_invariant = settles t rep (WordNoLater t) laws words (WaitsFor t words (IsWaiting old.work level aside)) good.search_invariant later (WaitsFor t later (IsWaiting new level aside)) i.sought w (level, i, inl next.waited, refl, item_sound.word_by) settling_step;
      items = each_item;
      at_least_level = low_all;
      at_most_level = at_most_level;
      all_rests = all_rests;
      rests_only = rests_only;
      all_gotos = all_gotos;
      gotos_only = gotos_only;
    }

    -- A word that follows with the same cost, below the highest cost, is the settled word.
    pub follow_same : (o : WaitingWord) → Follows level o → (u : List ℕ) → IsOriginWord t later o.origin u → level < cap → u ≡ w
    follow_same o add u by lt =
        let ok = each_follow level o add in
        let one : u ≡ ok.word = origin_one t later o.origin u ok.word by ok.word_by in
        let cost_is : level ≡ cost_up_to_cap t u = rw one ok.cost_is in
        elim (follow_parts level o add u by) [
          | inl p ↦ p.1 ∙ same_front t w p.0 level lt item_sound.cost_is (rw p.1 at cost_is)
          | inr p ↦ p.1 ∙ same_back t p.0 w level lt item_sound.cost_is (rw p.1 at cost_is)
        ]

    -- A word that follows with the same cost comes no later than any word that the settled word comes no later than.
    level_word : (o : WaitingWord) → Follows level o → (u : List ℕ) → IsOriginWord t later o.origin u → (v : List ℕ) → WordNoLater t w v → WordNoLater t u v
    level_word o add u by v le = elim (cases_lt level cap) [
      | inl lt ↦ rw (follow_same o add u by lt) le
      | inr ge ↦ (
          let ok = each_follow level o add in
          let one : u ≡ ok.word = origin_one t later o.origin u ok.word by ok.word_by in
          let top : level ≡ cap = omega (arith, ge, le_cap) in
          no_later_at_cap t u v (sym top ∙ rw one ok.cost_is) (over_up t w v (sym top ∙ item_sound.cost_is) le))
    ]

    pub settling_no_later : (o q : WaitingWord) (cost : ℕ) (u v : List ℕ) → Waits (queue_of new) level o → IsWaiting new level aside cost q → IsOriginWord t later o.origin u → IsOriginWord t later q.origin v → WordNoLater t u v
    settling_no_later o q cost u v there waits by by' = elim (expansion.only level o there) [
      | inl was ↦ (
          let before = next.only level o was in
          let ok = good.items level o (inl before) in
          let one : u ≡ ok.word = origin_one t later o.origin u ok.word by (origin_kept t words later o.origin ok.word kept ok.word_by) in
          let first : WordNoLater t u w = rw one (flat o i level ok.word w before (inl next.waited) ok.word_by item_sound.word_by) in
          laws.transitive u w v first (no_sooner cost q waits v by'))
      | inr add ↦ level_word o add u by v (no_sooner cost q waits v by')
    ]

    pub settling_rising : AreSortedByWord t later aside
    settling_rising = rising_more t c words later level kept aside (λ o there. good.items level o (inr (refl, there))) rising

    -- An item of the level in the queue has the settled word, if those that waited have it.
    pub settling_same : level < cap → (P : List ℕ → Type 0) → P w → ((o : WaitingWord) (u : List ℕ) → Waits (queue_of old.work) level o → IsOriginWord t words o.origin u → P u) → (o : WaitingWord) (u : List ℕ) → Waits (queue_of new) level o → IsOriginWord t later o.origin u → P u
    settling_same lt P own each o u there by = elim (expansion.only level o there) [
      | inl was ↦ (
          let before = next.only level o was in
          let ok = good.items level o (inl before) in
          let one : u ≡ ok.word = origin_one t later o.origin u ok.word by (origin_kept t words later o.origin ok.word kept ok.word_by) in
          rw one (each o ok.word before ok.word_by))
      | inr add ↦ rw (follow_same o add u by lt) own
    ]
