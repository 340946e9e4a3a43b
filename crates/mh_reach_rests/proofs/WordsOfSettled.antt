-- Lemmas on the settled words, and on their words after one more is settled.
use Rattle.std.proofs.Common.{◌≡◌, ℕ, ◌<◌, ◌⊎◌, inl, inr, List, [], ◌++◌, Some, None, Option, Bool, true, false, cond, nat_eq, refl, ap, sym, arith, ◌∙◌}
use Rattle.std.specs.Prelude.{is_some}
use Rattle.std.proofs.lemmas.Bool.{and_parts}
use Rattle.std.proofs.lemmas.Grind.{common_steps}
use Rattle.mh_tables_core.specs.Table.{TableData}
use Rattle.mh_facts.specs.declared.store.FactKey.{FactKey}
use Rattle.mh_facts.specs.declared.goto_fact.GotoFact.{GotoFact}
use Rattle.mh_facts.specs.Stored.{same_fact}
use Rattle.mh_facts.specs.Costs.{cap}
use Rattle.mh_facts.specs.code.WordCosts.{before_dot, cost_up_to_cap}
use Rattle.std.proofs.lemmas.Option.{slice_get_within}
use Rattle.mh_grammar.proofs.Lists.{get_left, get_within}
use Rattle.mh_facts.proofs.AssociationLists.{AreKeys, at_kept, at_last, at_cases, put_here, put_cases, put_other}
use Rattle.mh_facts.proofs.FactKeys.{fact_keys}
use Rattle.mh_facts.proofs.WordCosts.{option_unique}
use Rattle.mh_reach_words.specs.code.Words.{GroupedWord, Words, letters_in, group_in}
use Rattle.mh_reach_words.specs.code.WordNumbers.{IsNumberOfWord}
use Rattle.mh_reach_rests.specs.declared.settled.SettledWord.{SettledWord}
use Rattle.mh_reach_rests.specs.declared.settled.SettledWords.{SettledWords}
use Rattle.mh_reach_rests.specs.declared.sought.Sought.{Sought}
use Rattle.mh_reach_rests.specs.declared.sought.Sought.TheVariants as soughts
use Rattle.mh_reach_rests.specs.declared.waiting.Origin.{Origin}
use Rattle.mh_reach_rests.specs.declared.waiting.Origin.TheVariants as origins
use Rattle.mh_reach_rests.specs.code.RestSearch.{Settled}
use Rattle.mh_reach_rests.specs.code.SettledWords.{IsOriginWord, SettledAssignment, Settles, same_goto, settled_at}

-- Keys.

number_same : (n : ℕ) → nat_eq n n ≡ true
number_same n = grind (arith, common_steps)

same_number : (a b : ℕ) → nat_eq a b ≡ true → a ≡ b
same_number a b e = grind (arith, common_steps)

same_goto_is : (x y : GotoFact) → same_goto x y ≡ true → x ≡ y
same_goto_is x y e =
    let a = and_parts (nat_eq x.from y.from) _ e in
    let b = and_parts (nat_eq x.nonterminal y.nonterminal) _ a.1 in
    let c = and_parts (nat_eq x.first y.first) (nat_eq x.next y.next) b.1 in
    let e1 = same_number x.from y.from a.0 in
    let e2 = same_number x.nonterminal y.nonterminal b.0 in
    let e3 = same_number x.first y.first c.0 in
    let e4 = same_number x.next y.next c.1 in
    let g : GotoFact = record { from = x.from; nonterminal = x.nonterminal; first = x.first; next = x.next } in
    let h : GotoFact = record { from = y.from; nonterminal = y.nonterminal; first = y.first; next = y.next } in
    let whole : g ≡ h = rw (e1, e2, e3, e4) refl in
    whole

goto_agrees : (g : GotoFact) → same_goto g g ≡ true
goto_agrees g = rw (number_same g.from, number_same g.nonterminal, number_same g.first, number_same g.next) refl

pub goto_keys : AreKeys same_goto
goto_keys = record { equal = same_goto_is; agree = goto_agrees }

-- Whether two things that are sought are equal.
abbrev pub same_sought : Sought → Sought → Bool
same_sought (soughts.Rest k) (soughts.Rest l) = same_fact k l
same_sought (soughts.Rest k) (soughts.Goto h) = false
same_sought (soughts.Goto g) (soughts.Rest l) = false
same_sought (soughts.Goto g) (soughts.Goto h) = same_goto g h

sought_is : (x y : Sought) → same_sought x y ≡ true → x ≡ y
sought_is (soughts.Rest k) (soughts.Rest l) e = ap (λ (o : FactKey). soughts.Rest o) (fact_keys.equal k l e)
sought_is (soughts.Rest k) (soughts.Goto h) e = absurd (let y : false ≡ true = e in cc)
sought_is (soughts.Goto g) (soughts.Rest l) e = absurd (let y : false ≡ true = e in cc)
sought_is (soughts.Goto g) (soughts.Goto h) e = ap (λ (o : GotoFact). soughts.Goto o) (same_goto_is g h e)

sought_agrees : (x : Sought) → same_sought x x ≡ true
sought_agrees (soughts.Rest k) = fact_keys.agree k
sought_agrees (soughts.Goto g) = goto_agrees g

pub sought_keys : AreKeys same_sought
sought_keys = record { equal = sought_is; agree = sought_agrees }

pub one_rest : (k l : FactKey) → soughts.Rest k ≡ soughts.Rest l → k ≡ l
one_rest k l e = cc

pub one_goto : (g h : GotoFact) → soughts.Goto g ≡ soughts.Goto h → g ≡ h
one_goto g h e = cc

pub goto_no_rest : (g : GotoFact) (k : FactKey) → soughts.Goto g ≡ soughts.Rest k → ⊥
goto_no_rest g k e = cc

pub rest_no_goto : (k : FactKey) (g : GotoFact) → soughts.Rest k ≡ soughts.Goto g → ⊥
rest_no_goto k g e = cc

-- The answer of a look-up for which the test `is_none` is known.

pub none_there : (o : Option SettledWord) {r : Option SettledWord} → r ≡ o → is_some r ≡ false → o ≡ None
none_there None e h = refl
none_there (Some f) e h = absurd (let y : is_some (Some f) ≡ false = rw e at h in let z : true ≡ false = y in cc)

pub some_there : (o : Option SettledWord) {r : Option SettledWord} → r ≡ o → is_some r ≡ true → (f : SettledWord) × (o ≡ Some f)
some_there None e h = absurd (let y : is_some {T = SettledWord} None ≡ true = rw e at h in let z : false ≡ true = y in cc)
some_there (Some f) e h = (f, refl)

-- The words that an origin names.

-- The word of an origin stays if the words that the origin names stay.
pub origin_kept : (t : TableData) (words new : Settled) (o : Origin) (w : List ℕ) → ((k : Sought) (u : List ℕ) → words k ≡ Some u → new k ≡ Some u) → IsOriginWord t words o w → IsOriginWord t new o w
origin_kept t words new origins.Ended w kept h = h
origin_kept t words new (origins.Shifted rest) w kept h = (h.0, kept (soughts.Rest rest) h.0 h.1, h.2)
origin_kept t words new (origins.Joined goto rest) w kept h = (h.0, h.1, kept (soughts.Goto goto) h.0 h.2, kept (soughts.Rest rest) h.1 h.3, h.4)

-- The word of an origin is unique.
pub origin_one : (t : TableData) (words : Settled) (o : Origin) (v w : List ℕ) → IsOriginWord t words o v → IsOriginWord t words o w → v ≡ w
origin_one t words origins.Ended v w a b = a ∙ sym b
origin_one t words (origins.Shifted rest) v w a b = let e = option_unique (words (soughts.Rest rest)) a.0 b.0 a.1 b.1 in a.2 ∙ ap (λ (u : List ℕ). before_dot t rest ++ u) e ∙ sym b.2
origin_one t words (origins.Joined goto rest) v w a b =
    let e = option_unique (words (soughts.Goto goto)) a.0 b.0 a.2 b.2 in
    let f = option_unique (words (soughts.Rest rest)) a.1 b.1 a.3 b.3 in
    let z : a.0 ++ a.1 ≡ b.0 ++ b.1 = rw (e, f) refl in
    a.4 ∙ z ∙ sym b.4

-- One more word is settled.
module _ (old new : SettledWords) (k : Sought) (e : SettledWord) (fresh : settled_at old k ≡ None) (settles : Settles old new k e) where
  pub settled_here : settled_at new k ≡ Some e
  settled_here = by k fresh settles
    where
      by : (k : Sought) → settled_at old k ≡ None → Settles old new k e → settled_at new k ≡ Some e
      by (soughts.Rest r) none s = rw s.0 (at_last fact_keys old.rests r e none)
      by (soughts.Goto g) none s = rw s.1 (at_last goto_keys old.gotos g e none)

  pub settled_kept : (o : Sought) (u : SettledWord) → settled_at old o ≡ Some u → settled_at new o ≡ Some u
  settled_kept o u h = by k o settles h
    where
      by : (k o : Sought) → Settles old new k e → settled_at old o ≡ Some u → settled_at new o ≡ Some u
      by (soughts.Rest r) (soughts.Rest q) s h = rw s.0 (at_kept fact_keys old.rests r q e u h)
      by (soughts.Rest r) (soughts.Goto g) s h = rw s.1 h
      by (soughts.Goto g) (soughts.Rest q) s h = rw s.0 h
      by (soughts.Goto g) (soughts.Goto q) s h = rw s.1 (at_kept goto_keys old.gotos g q e u h)

  pub settled_cases : (o : Sought) (u : SettledWord) → settled_at new o ≡ Some u → (settled_at old o ≡ Some u) ⊎ ((o ≡ k) × (u ≡ e))
  settled_cases o u h = by k o fresh settles h
    where
      by : (k o : Sought) → settled_at old k ≡ None → Settles old new k e → settled_at new o ≡ Some u → (settled_at old o ≡ Some u) ⊎ ((o ≡ k) × (u ≡ e))
      by (soughts.Rest r) (soughts.Rest q) none s h = elim (at_cases fact_keys old.rests r q e u none (rw s.0 at h)) [ inl was ↦ inl was | inr is ↦ inr (ap (λ (x : FactKey). soughts.Rest x) is.0, is.1) ]
      by (soughts.Rest r) (soughts.Goto g) none s h = inl (rw s.1 at h)
      by (soughts.Goto g) (soughts.Rest q) none s h = inl (rw s.0 at h)
      by (soughts.Goto g) (soughts.Goto q) none s h = elim (at_cases goto_keys old.gotos g q e u none (rw s.1 at h)) [ inl was ↦ inl was | inr is ↦ inr (ap (λ (x : GotoFact). soughts.Goto x) is.0, is.1) ]

  pub settled_none : (o : Sought) → settled_at new o ≡ None → (settled_at old o ≡ None) × (o ≡ k → ⊥)
  settled_none o h = (by (settled_at old o) refl, λ is. (let here : settled_at new o ≡ Some e = rw is settled_here in let y : None ≡ Some e = sym h ∙ here in cc))
    where
      by : (x : Option SettledWord) → settled_at old o ≡ x → settled_at old o ≡ None
      by None is = is
      by (Some u) is = absurd (let there = settled_kept o u is in let y : None ≡ Some u = sym h ∙ there in cc)

-- A number has the same word in a longer book.
pub number_of_word_more : (book added : Words) (m cost : ℕ) (w : List ℕ) → IsNumberOfWord book m cost w → IsNumberOfWord (book ++ added) m cost w
number_of_word_more book added m cost w h =
    let there = get_within book m h.known in
    let now = get_left book added m there.0 there.1 in
    record {
      known = slice_get_within (book ++ added) m there.0 now;
      group = ap (λ (o : Option GroupedWord). group_in o) now ∙ sym (ap (λ (o : Option GroupedWord). group_in o) there.1) ∙ h.group;
      letters = ap (λ (o : Option GroupedWord). letters_in o) now ∙ sym (ap (λ (o : Option GroupedWord). letters_in o) there.1) ∙ h.letters;
    }

-- The words are assigned in a longer book too.
abbrev pub assignment_in : (t : TableData) (book added new : Words) → new ≡ book ++ added → (settled : SettledWords) → SettledAssignment t book settled → SettledAssignment t new settled
assignment_in t book added new grown settled h = record {
  words = h.words;
  none = h.none;
  some = λ k e there. (let is = h.some k e there in record { word = is.word; is = is.is; cost_is = is.cost_is; short = is.short; numbered = λ lt. rw grown (number_of_word_more book added e.word e.cost is.word (is.numbered lt)) });
}

-- What has a word is settled.
pub settled_of_word : (t : TableData) (book : Words) (settled : SettledWords) (h : SettledAssignment t book settled) (k : Sought) (v : List ℕ) → h.words k ≡ Some v → (e : SettledWord) × (settled_at settled k ≡ Some e)
settled_of_word t book settled h k v is = by (settled_at settled k) refl
  where
    by : (o : Option SettledWord) → settled_at settled k ≡ o → (e : SettledWord) × (settled_at settled k ≡ Some e)
    by None none = absurd (let n = h.none k none in let y : None ≡ Some v = sym n ∙ is in cc)
    by (Some e) there = (e, there)

-- A word is assigned to what is settled.
module _ (t : TableData) (book : Words) (old new : SettledWords) (assignment : SettledAssignment t book old) (k : Sought) (e : SettledWord) (w : List ℕ) (fresh : settled_at old k ≡ None) (settles : Settles old new k e)
    (cost_is : e.cost ≡ cost_up_to_cap t w) (short : e.cost ≡ 0 → w ≡ []) (numbered : e.cost < cap → IsNumberOfWord book e.word e.cost w) where
  abbrev pub new_words : Settled
  new_words o = cond (same_sought o k) (Some w) (assignment.words o)

  pub no_word : assignment.words k ≡ None
  no_word = assignment.none k fresh

  other_than : (o : Sought) (u : List ℕ) → assignment.words o ≡ Some u → o ≡ k → ⊥
  other_than o u h is = let n : assignment.words o ≡ None = rw is no_word in let y : None ≡ Some u = sym n ∙ h in cc

  pub words_kept : (o : Sought) (u : List ℕ) → assignment.words o ≡ Some u → new_words o ≡ Some u
  words_kept o u h = put_other sought_keys assignment.words k (Some w) o (other_than o u h) ∙ h

  pub words_here : new_words k ≡ Some w
  words_here = put_here sought_keys assignment.words k (Some w)

  pub words_only : (o : Sought) (u : List ℕ) → new_words o ≡ Some u → (assignment.words o ≡ Some u) ⊎ ((o ≡ k) × (u ≡ w))
  words_only o u h = elim (put_cases sought_keys assignment.words k (Some w) o) [
    | inl here ↦ inr (here.0, option_unique (new_words o) u w h here.1)
    | inr was ↦ inl (sym was ∙ h)
  ]

  -- The assignment with one more word.
  abbrev pub assignment_with : SettledAssignment t book new
  assignment_with = record {
    words = new_words;
    none = λ o none. (let h = settled_none old new k e fresh settles o none in put_other sought_keys assignment.words k (Some w) o h.1 ∙ assignment.none o h.0);
    some = λ o u there. elim (settled_cases old new k e fresh settles o u there) [
      | inl was ↦ (let h = assignment.some o u was in record { word = h.word; is = words_kept o h.word h.is; cost_is = h.cost_is; short = h.short; numbered = h.numbered })
      | inr is ↦ rw (is.0, is.1) (record { word = w; is = words_here; cost_is = cost_is; short = short; numbered = numbered })
    ];
  }
