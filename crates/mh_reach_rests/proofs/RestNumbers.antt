-- Lemmas on the numbers of the words of one cost, and on the numbers of tokens.
use Rattle.std.proofs.Common.{◌≡◌, ℕ, zero, suc, ◌+◌, ◌-◌, ◌<◌, ◌≤◌, ◌⊎◌, inl, inr, List, [], ◌∷◌, ◌++◌, length, length-append, length-set, get_or, replicate, Some, None, Option, refl, ap, sym, subst, arith, ◌∙◌}
use Rattle.std.specs.Prelude.{drop, map, max, min, slice_get, slice_set, take}
use Rattle.std.specs.Option.{unwrap_or}
use Rattle.std.specs.Global.{Vec}
use Rattle.std.specs.List.{Contains}
use Rattle.std.proofs.lemmas.Bool.{cases_eq, cases_lt}
use Rattle.std.proofs.lemmas.Grind.{common_steps}
use Rattle.std.proofs.lemmas.List.{append_assoc, append-nil, get_or-replicate, length-replicate, length_push, map_more}
use Rattle.std.proofs.lemmas.List.Elements.{All-get_or, Contains-append_cases}
use Rattle.std.proofs.lemmas.Option.{get_or_from_slice_get, slice_get_within}
use Rattle.mh_grammar.specs.declared.types.Symbol.{Symbol}
use Rattle.mh_grammar.specs.declared.types.Symbol.TheVariants.{T, N}
use Rattle.mh_grammar.specs.Costs.{IsCost}
use Rattle.mh_grammar.specs.Plain.{rhs_of}
use Rattle.mh_grammar.proofs.Lists.{at_contains, contains_at, contains_none, get_cases, get_left, get_unique, get_within, map_contains, set_elsewhere, set_here}
use Rattle.mh_tables_core.specs.Table.{TableData, cost_of_token}
use Rattle.mh_tables_core.specs.Facts.{Facts}
use Rattle.mh_tables_core.specs.Failing.{cost_by}
use Rattle.mh_facts.specs.declared.store.FactKey.{FactKey}
use Rattle.mh_facts.specs.declared.goto_fact.GotoFact.{GotoFact}
use Rattle.mh_facts.specs.Costs.{cap}
use Rattle.mh_facts.specs.code.Orders as orders
use Rattle.mh_facts.specs.code.Queues.{IsSameQueueEntry, QueueGains, row_of}
use Rattle.mh_facts.specs.code.WordCosts.{WordNoLater, before_dot, cost_up_to_cap, listed, token_of, weigh}
use Rattle.mh_facts.proofs.Edges.{symbol_token}
use Rattle.mh_facts.proofs.OrderLaws.{cost_append}
use Rattle.mh_facts.proofs.WordCosts.{option_unique, order_laws, part_of_cost_zero, token_cost_positive, weigh_known, weigh_positive, word_of_cost_zero}
use Rattle.mh_reach_words.specs.declared.word_parts.LastPart.TheVariants as lasts
use Rattle.mh_reach_words.specs.declared.word_parts.WordParts.{WordParts}
use Rattle.mh_reach_words.specs.code.Words.{GroupedWord, IsBook, IsProperPrefix, LessAtDifference, Words, group_in, group_of, letters_of, spelled}
use Rattle.mh_reach_words.specs.code.Numbering.{AreBelowGroup, AreKnown, ArePrefixFree, IsNumberingOf}
use Rattle.mh_reach_words.proofs.ComparisonOrder.{before_no_later}
use Rattle.mh_reach_words.specs.code.WordNumbers.{IsNumberOfWord}
use Rattle.mh_reach_rests.specs.declared.numbering.RestBook.{RestBook}
use Rattle.mh_reach_rests.specs.declared.settled.SettledWord.{SettledWord}
use Rattle.mh_reach_rests.specs.declared.settled.SettledWords.{SettledWords}
use Rattle.mh_reach_rests.specs.declared.sought.Sought.{Sought}
use Rattle.mh_reach_rests.specs.declared.sought.Sought.TheVariants as soughts
use Rattle.mh_reach_rests.specs.declared.waiting.Origin.TheVariants as origins
use Rattle.mh_reach_rests.specs.declared.waiting.WaitingWord.{WaitingWord}
use Rattle.mh_reach_rests.specs.code.RestNumbers.{AreRestsToNumber, AreTokensByCost, AreTokensNumbered, IsFrontOf, IsNumberOfGoto, IsNumberOfRest, KeepsNumbers, RestsAreNumbered, SpellAll, SpellsWaiting, SpellsWord, token_alone}
use Rattle.mh_reach_rests.specs.code.SettledWords.{IsOriginWord, SettledAssignment, settled_at}
use Rattle.mh_reach_rests.proofs.WordsOfSettled.{number_of_word_more, settled_of_word}

-- Words of one group are in the order of their numbers.
pub no_later : (t : TableData) (book : Words) (level m n : ℕ) (u v : List ℕ) → IsBook book → level < cap → m ≤ n → IsNumberOfWord book m level u → IsNumberOfWord book n level v → level ≡ cost_up_to_cap t u → level ≡ cost_up_to_cap t v → WordNoLater t u v
no_later t book level m n u v is lt le a b e g = elim (cases_lt m n) [
  | inl less ↦ (
      let before : LessAtDifference (letters_of book m) (letters_of book n) = (is.groups m n less b.known).1 (a.group ∙ sym b.group) in
      orders.CostLexLe.Lower (grind (arith, common_steps, lt, e, g)) (before_no_later u v (rw (a.letters, b.letters) at before)))
  | inr ge ↦ (
      let same : m ≡ n = omega arith in
      let one : u ≡ v = sym a.letters ∙ ap (λ (i : ℕ). letters_of book i) same ∙ b.letters in
      rw one ((order_laws t).reflexive v))
]

-- Costs.

cheap_front : (a b s : ℕ) → s ≡ a + b → min s cap < cap → min a cap < cap
cheap_front a b s e lt = grind (arith, common_steps, e, lt)

cheap_back : (a b s : ℕ) → s ≡ a + b → min s cap < cap → min b cap < cap
cheap_back a b s e lt = grind (arith, common_steps, e, lt)

free_cost : (n : ℕ) → 0 ≡ min n cap → n ≡ 0
free_cost n e = grind (arith, common_steps, e)

front_less : (a b level : ℕ) → 1 ≤ b → min (a + b) cap < cap → min (a + b) cap ≤ level → a < level
front_less a b level some lt le = grind (arith, common_steps, some, lt, le)

-- A cost that is neither 0 nor the highest cost is between the two.
pub between : (cost : ℕ) → cost ≤ cap → ((cost ≡ 0) ⊎ (cost ≡ cap) → ⊥) → (0 < cost) × (cost < cap)
between cost le apart = (
  elim (cases_lt 0 cost) [ inl lt ↦ lt | inr ge ↦ absurd (apart (inl (omega (arith, ge)))) ],
  elim (cases_lt cost cap) [ inl lt ↦ lt | inr ge ↦ absurd (apart (inr (omega (arith, ge, le)))) ],
)

alone_sum : (a b cost : ℕ) → a ≡ b → b ≡ cost → cost < cap → cost ≡ min (a + 0) cap
alone_sum a b cost e g lt = grind (arith, common_steps, e, g, lt)

-- The cost of a token alone.
alone_cost : (t : TableData) (f : Facts t) (x cost : ℕ) → x < t.grammar.tokens → cost_of_token t x ≡ cost → cost < cap → cost ≡ cost_up_to_cap t (x ∷ [])
alone_cost t f x cost known is lt = alone_sum (weigh t x) (cost_of_token t x) cost (weigh_known t f x known) is lt

below_cap : (t : TableData) (f : Facts t) (x : ℕ) → x < t.grammar.tokens → cost_of_token t x < cap
unfolding cost_of_token
below_cap t f x known = let long = f.ranges.each_cost in let c = (All-get_or (λ (n : ℕ). IsCost n) t.costs x 0 (omega (arith, known, long)) f.ranges.costs).1 in omega (arith, c)

-- Lists.

get_after : {X : Type 0} (xs ys : List X) (j : ℕ) → slice_get (xs ++ ys) (length xs + j) ≡ slice_get ys j
get_after [] ys j = let e : 0 + j ≡ j = omega arith in rw e refl
get_after (x ∷ xs) ys j = let e : length (x ∷ xs) + j ≡ suc (length xs + j) = omega arith in rw e (get_after xs ys j)

get_drop : {X : Type 0} (n : ℕ) (xs : List X) (j : ℕ) → slice_get (drop n xs) j ≡ slice_get xs (n + j)
get_drop zero xs j = let e : 0 + j ≡ j = omega arith in rw e refl
get_drop (suc n) [] j = refl
get_drop (suc n) (x ∷ xs) j = let e : suc n + j ≡ suc (n + j) = omega arith in rw e (get_drop n xs j)

get_take : {X : Type 0} (n : ℕ) (xs : List X) (k : ℕ) (x : X) → slice_get (take n xs) k ≡ Some x → slice_get xs k ≡ Some x
get_take zero xs k x e = absurd (let y : None ≡ Some x = e in cc)
get_take (suc n) [] k x e = e
get_take (suc n) (y ∷ xs) zero x e = e
get_take (suc n) (y ∷ xs) (suc k) x e = get_take n xs k x e

pub length_take : {X : Type 0} (n : ℕ) (xs : List X) → n ≤ length xs → length (take n xs) ≡ n
length_take zero xs le = refl
length_take (suc n) [] le = absurd (omega (arith, le))
length_take (suc n) (x ∷ xs) le = ap suc (length_take n xs (omega (arith, le)))

pub length_drop : {X : Type 0} (n : ℕ) (xs : List X) → n ≤ length xs → length (drop n xs) + n ≡ length xs
length_drop zero xs le = omega arith
length_drop (suc n) [] le = absurd (omega (arith, le))
length_drop (suc n) (x ∷ xs) le = let h = length_drop n xs (omega (arith, le)) in omega (arith, h)

-- The loop that puts tokens into the rows of their costs.

pub no_tokens : (t : TableData) (rows : List (Vec ℕ)) → rows ≡ [] → AreTokensByCost t 0 rows
no_tokens t rows none = record {
  all = λ x lt. absurd (omega (arith, lt));
  known = λ cost x there. absurd (contains_none x (rw none at there));
}

pub token_put : (t : TableData) (n cost : ℕ) (old new : List (Vec ℕ)) → AreTokensByCost t n old → cost ≡ cost_of_token t n → QueueGains (IsSameQueueEntry cost n) old new → AreTokensByCost t (n + 1) new
token_put t n cost old new h is g = record {
  all = λ x lt. elim (cases_lt x n) [
    | inl less ↦ g.kept (cost_of_token t x) x (h.all x less)
    | inr ge ↦ (let e : x ≡ n = omega (arith, lt, ge) in g.all (cost_of_token t x) x (ap (λ (y : ℕ). cost_of_token t y) e ∙ sym is, e))
  ];
  known = λ c x there. elim (g.only c x there) [
    | inl was ↦ (let k = h.known c x was in ((let l = k.0 in omega (arith, l)), k.1))
    | inr new' ↦ ((let e = new'.1 in omega (arith, e)), ap (λ (y : ℕ). cost_of_token t y) new'.1 ∙ sym is ∙ sym new'.0)
  ];
}

-- The loop that appends the words of tokens.

pub none_added : (given : List ℕ) (old : List WordParts) → old ≡ old ++ map token_alone (take 0 given)
none_added given old = sym (append-nil old)

pub one_added : (given : List ℕ) (i d x : ℕ) (old mid new : List WordParts) → i < length given → x ≡ get_or given i d → mid ≡ old ++ map token_alone (take i given) → new ≡ mid ++ token_alone x ∷ [] → new ≡ old ++ map token_alone (take (i + 1) given)
one_added given i d x old mid new lt is before e =
    let step : map token_alone (take (i + 1) given) ≡ map token_alone (take i given) ++ token_alone x ∷ [] = map_more token_alone given i d lt ∙ ap (λ (y : ℕ). map token_alone (take i given) ++ token_alone y ∷ []) (sym is) in
    e ∙ ap (λ (l : List WordParts). l ++ token_alone x ∷ []) before ∙ append_assoc old (map token_alone (take i given)) (token_alone x ∷ []) ∙ ap (λ (l : List WordParts). old ++ l) (sym step)

-- The loop that stores the numbers of tokens.

pub none_kept : (given numbers old : List ℕ) → KeepsNumbers given numbers 0 old old
none_kept given numbers old = record { len = refl; same = λ x other. refl; each = λ n x lt there. absurd (omega (arith, lt)) }

pub one_kept : (given numbers : List ℕ) (count x number : ℕ) (old mid new : List ℕ) → KeepsNumbers given numbers count old mid → slice_get given count ≡ Some x → slice_get numbers count ≡ Some number → x < length mid → new ≡ slice_set mid x number → KeepsNumbers given numbers (count + 1) old new
one_kept given numbers count x number old mid new h at num lt is = record {
  len = ap length is ∙ length-set mid x number ∙ h.len;
  same = λ y other. elsewhere y (λ same. other count (omega arith) (rw same at)) ∙ h.same y (λ n less there. other n (omega (arith, less)) there);
  each = λ n y less there. elim (cases_eq y x) [
    | inl same ↦ (count, number, rw same at, num, rw same here)
    | inr ne ↦ (
        let before : n < count = elim (cases_lt n count) [
          | inl low ↦ low
          | inr ge ↦ (let last : n ≡ count = omega (arith, less, ge) in absurd (ne (get_unique given count y x (rw last at there) at)))
        ] in
        let k = h.each n y before there in
        (k.0, k.1, k.2, k.3, elsewhere y ne ∙ k.4))
  ];
}
  where
    here : slice_get new x ≡ Some number
    here = ap (λ (l : List ℕ). slice_get l x) is ∙ set_here mid x number lt

    elsewhere : (y : ℕ) → (y ≡ x → ⊥) → slice_get new y ≡ slice_get mid y
    elsewhere y ne = ap (λ (l : List ℕ). slice_get l y) is ∙ set_elsewhere mid x number y ne

pub tokens_alone_length : (xs : List ℕ) → length (map token_alone xs) ≡ length xs
tokens_alone_length [] = refl
tokens_alone_length (x ∷ xs) = ap suc (tokens_alone_length xs)

-- The parts of words.

module _ (t : TableData) (book : Words) (settled : SettledWords) (assignment : SettledAssignment t book settled) where
  number_of_settled : (k : Sought) (m : ℕ) (v : List ℕ) (e : SettledWord) → settled_at settled k ≡ Some e → m ≡ e.word → assignment.words k ≡ Some v → cost_up_to_cap t v < cap → IsNumberOfWord book m (cost_up_to_cap t v) v
  number_of_settled k m v e there m_is is lt =
      let h = assignment.some k e there in
      let one : h.word ≡ v = option_unique (assignment.words k) h.word v h.is is in
      let cost_is : e.cost ≡ cost_up_to_cap t v = h.cost_is ∙ ap (λ (u : List ℕ). cost_up_to_cap t u) one in
      let n = h.numbered (rw cost_is lt) in
      record { known = rw m_is n.known; group = ap (λ (i : ℕ). group_of book i) m_is ∙ n.group ∙ cost_is; letters = ap (λ (i : ℕ). letters_of book i) m_is ∙ n.letters ∙ one }

  number_of_rest : (k : FactKey) (m : ℕ) (v : List ℕ) → IsNumberOfRest settled k m → assignment.words (soughts.Rest k) ≡ Some v → cost_up_to_cap t v < cap → IsNumberOfWord book m (cost_up_to_cap t v) v
  number_of_rest k m v placed is lt = let e = settled_of_word t book settled assignment (soughts.Rest k) v is in number_of_settled (soughts.Rest k) m v e.0 e.1 (placed e.0 e.1) is lt

  number_of_goto : (g : GotoFact) (m : ℕ) (v : List ℕ) → IsNumberOfGoto settled g m → assignment.words (soughts.Goto g) ≡ Some v → cost_up_to_cap t v < cap → IsNumberOfWord book m (cost_up_to_cap t v) v
  number_of_goto g m v placed is lt = let e = settled_of_word t book settled assignment (soughts.Goto g) v is in number_of_settled (soughts.Goto g) m v e.0 e.1 (placed e.0 e.1) is lt

-- The empty word has no other number than 0.
empty_number : (book : Words) → IsBook book → (m : ℕ) → IsNumberOfWord book m 0 [] → m ≡ 0
empty_number book is m h = elim (cases_lt 0 m) [
  | inl lt ↦ absurd (
      let before : LessAtDifference (letters_of book 0) (letters_of book m) = (is.groups 0 m lt h.known).1 (is.free ∙ sym h.group) in
      let none : LessAtDifference [] (letters_of book m) = rw is.empty at before in
      none)
  | inr ge ↦ omega (arith, ge)
]

pub front_none : (words : RestBook) (token : Option ℕ) (rest : ℕ) → token ≡ None → IsFrontOf words token rest (record { front = 0; last = lasts.Word rest })
front_none words token rest none t level book tokens known side = record { known = (book.some, known); is = rw (none, book.empty) refl }

pub front_alone : (words : RestBook) (token : Option ℕ) (rest x : ℕ) → token ≡ Some x → rest ≡ 0 → IsFrontOf words token rest (record { front = 0; last = lasts.Token x })
front_alone words token rest x some free t level book tokens known side = record { known = (book.some, tt); is = rw (some, free, book.empty) refl }

pub front_pair : (words : RestBook) (token : Option ℕ) (rest x m : ℕ) → token ≡ Some x → (rest ≡ 0 → ⊥) → m ≡ unwrap_or (slice_get words.tokens.items x) 0 → IsFrontOf words token rest (record { front = m; last = lasts.Word rest })
front_pair words token rest x m some apart m_is t level book tokens known side =
    let x_known = (side x some).0 in
    let less : cost_of_token t x < level = elim (side x some).1 [ inl free ↦ absurd (apart free) | inr lt ↦ lt ] in
    let long = tokens.len in
    let there = get_within words.tokens.items x (omega (arith, x_known, long)) in
    let m_at : m ≡ there.0 = m_is ∙ ap (λ (o : Option ℕ). unwrap_or o 0) there.1 in
    let n = tokens.each x there.0 x_known there.1 less in
    let front : letters_of words.book m ≡ x ∷ [] = ap (λ (i : ℕ). letters_of words.book i) m_at ∙ n.letters in
    record { known = (rw m_at n.known, known); is = rw (some, front) refl }

module _ (t : TableData) (f : Facts t) (settled : SettledWords) (words : RestBook) where
  pub parts_of_ended : (i : WaitingWord) → i.origin ≡ origins.Ended → SpellsWaiting t settled words i (record { front = 0; last = lasts.Word 0 })
  parts_of_ended i origin assignment level w book tokens by lt le =
      let none : IsOriginWord t assignment.words origins.Ended w = rw origin at by in
      let empty : w ≡ [] = none in
      record { known = (book.some, book.some); is = rw (empty, book.empty) refl }

  token_of_one : (o : Option Symbol) (x : ℕ) → token_of o ≡ x ∷ [] → o ≡ Some (T x)
  token_of_one None x e = absurd (let y : [] ≡ x ∷ [] = e in cc)
  token_of_one (Some (T y)) x e = let z : y ∷ [] ≡ x ∷ [] = e in let one : y ≡ x = cc in ap (λ (n : ℕ). Some (T n)) one
  token_of_one (Some (N n)) x e = absurd (let y : [] ≡ x ∷ [] = e in cc)

  -- The token before a rest costs less than the whole, or the rest is empty.
  beside_cost : (book : Words) → IsBook book → (x m level : ℕ) (v : List ℕ) → x < t.grammar.tokens → IsNumberOfWord book m (cost_up_to_cap t v) v → cost_up_to_cap t (x ∷ v) < cap → cost_up_to_cap t (x ∷ v) ≤ level → (m ≡ 0) ⊎ (cost_of_token t x < level)
  beside_cost book is x m level [] known h lt le = inl (empty_number book is m h)
  beside_cost book is x m level (y ∷ v) known h lt le =
      let some : 1 ≤ cost_by (weigh t) (y ∷ v) = (let p = weigh_positive t y in omega (arith, p)) in
      let same : weigh t x ≡ cost_of_token t x = weigh_known t f x known in
      let less : weigh t x < level = front_less (weigh t x) (cost_by (weigh t) (y ∷ v)) level some lt le in
      inr (subst (λ (n : ℕ). n < level) same less)

  pub parts_of_shifted : (i : WaitingWord) (rest : FactKey) (token : Option ℕ) (m : ℕ) (made : WordParts) → i.origin ≡ origins.Shifted rest → IsNumberOfRest settled rest m → listed token ≡ before_dot t rest → IsFrontOf words token m made → SpellsWaiting t settled words i made
  parts_of_shifted i rest token m made origin placed last front assignment level w book tokens by lt le =
      let b : IsOriginWord t assignment.words (origins.Shifted rest) w = rw origin at by in
      let v = b.0 in
      let whole : w ≡ before_dot t rest ++ v = b.2 in
      let less : cost_up_to_cap t (before_dot t rest ++ v) < cap = rw whole at lt in
      let n = number_of_rest t words.book settled assignment rest m v placed b.1 (cheap_back _ _ _ (cost_append (weigh t) (before_dot t rest) v) less) in
      let side : (x : ℕ) → token ≡ Some x → (x < t.grammar.tokens) × ((m ≡ 0) ⊎ (cost_of_token t x < level)) = λ x some.
      (let one : before_dot t rest ≡ x ∷ [] = sym last ∙ ap (λ (o : Option ℕ). listed o) some in
      let known = symbol_token t f rest.production (rest.dot - 1) x (token_of_one (slice_get (rhs_of t.grammar rest.production) (rest.dot - 1)) x one) in
      let w_is : w ≡ x ∷ v = whole ∙ ap (λ (l : List ℕ). l ++ v) one in
      (known, beside_cost words.book book x m level v known n (rw w_is at lt) (rw w_is at le))) in
      let s = front t level book tokens n.known side in
      let is : listed token ++ letters_of words.book m ≡ w = rw (last, n.letters) (sym whole) in
      record { known = s.known; is = s.is ∙ is }

  pub parts_of_joined : (i : WaitingWord) (goto : GotoFact) (rest : FactKey) (front last : ℕ) → i.origin ≡ origins.Joined goto rest → IsNumberOfGoto settled goto front → IsNumberOfRest settled rest last → SpellsWaiting t settled words i (record { front = front; last = lasts.Word last })
  parts_of_joined i goto rest front last origin placed other assignment level w book tokens by lt le =
      let b : IsOriginWord t assignment.words (origins.Joined goto rest) w = rw origin at by in
      let less : cost_up_to_cap t (b.0 ++ b.1) < cap = rw b.4 at lt in
      let one = number_of_goto t words.book settled assignment goto front b.0 placed b.2 (cheap_front _ _ _ (cost_append (weigh t) b.0 b.1) less) in
      let two = number_of_rest t words.book settled assignment rest last b.1 other b.3 (cheap_back _ _ _ (cost_append (weigh t) b.0 b.1) less) in
      record { known = (one.known, two.known); is = rw (one.letters, two.letters) (sym b.4) }

pub none_made : (t : TableData) (settled : SettledWords) (words : RestBook) (items : List WaitingWord) → SpellAll t settled words items 0 []
none_made t settled words items = record { len = refl; each = λ n i m at num. absurd (let y : None ≡ Some m = num in cc) }

pub made_more : (t : TableData) (settled : SettledWords) (words : RestBook) (items : List WaitingWord) (count : ℕ) (made : List WordParts) (i : WaitingWord) (m : WordParts) → SpellAll t settled words items count made → slice_get items count ≡ Some i → SpellsWaiting t settled words i m → SpellAll t settled words items (count + 1) (made ++ m ∷ [])
made_more t settled words items count made i m h at is = record {
  len = (let a = h.len in let b = length_push made m in omega arith);
  each = λ n j o there other. elim (get_cases made m n o other) [
    | inl was ↦ h.each n j o there was
    | inr new ↦ (
        let place : n ≡ count = new.0 ∙ h.len in
        let same : j ≡ i = get_unique items count j i (rw place at there) at in
        rw (same, new.1) is)
  ];
}

-- No word is a proper prefix of another word of its cost.
same_cost_even : (t : TableData) (u v : List ℕ) (level : ℕ) → level < cap → level ≡ cost_up_to_cap t u → level ≡ cost_up_to_cap t v → IsProperPrefix u v → ⊥
same_cost_even t u v level lt e g (x, r, is) =
    let whole : level ≡ cost_up_to_cap t (u ++ x ∷ r) = rw is at g in
    let none : cost_by (weigh t) (x ∷ r) ≡ 0 = part_of_cost_zero (cost_by (weigh t) u) (cost_by (weigh t) (x ∷ r)) (cost_by (weigh t) (u ++ x ∷ r)) level lt e whole (cost_append (weigh t) u (x ∷ r)) in
    let y : x ∷ r ≡ [] = word_of_cost_zero t (x ∷ r) none in
    absurd cc

one_more : (level : ℕ) → max 1 level ≤ level + 1
one_more level = grind (arith, common_steps)

pub max_one_of_positive : (level : ℕ) → 0 < level → max 1 level ≤ level
max_one_of_positive level lt = grind (arith, common_steps, lt)

-- The words of the items and of the tokens of one cost.
module _ (t : TableData) (f : Facts t) (settled : SettledWords) (words : RestBook) (book : IsBook words.book) (cost : ℕ) (lt : cost < cap) (items : List WaitingWord) (made : List WordParts) (all : SpellAll t settled words items (length items) made) (h : AreRestsToNumber t settled words cost items) where
  -- The tokens of the cost.
  abbrev pub given : List ℕ
  given = row_of words.by_cost.buckets.items cost

  abbrev pub with_tokens : List WordParts
  with_tokens = made ++ map token_alone given

  -- Each of the parts spells a word of the cost.
  spelled_by : (m : WordParts) → Contains with_tokens m → (w : List ℕ) × SpellsWord words.book m w × (cost ≡ cost_up_to_cap t w)
  spelled_by m there = elim (Contains-append_cases made (map token_alone given) m there) [
    | inl first ↦ (
        let at = at_contains made m first in
        let within = slice_get_within made at.0 m at.1 in
        let long = all.len in
        let i = get_within items at.0 (omega (arith, within, long)) in
        let word = h.each i.0 (contains_at items at.0 i.0 i.1) in
        let le : cost_up_to_cap t word.0 ≤ cost = rw (← word.2) (omega arith) in
        (word.0, all.each at.0 i.0 m i.1 at.1 h.assignment cost word.0 book h.tokens word.1 (rw (← word.2) lt) le, word.2))
    | inr last ↦ (
        let x = map_contains token_alone given m last in
        let below = h.tokens.by_cost.known cost x.0 x.1 in
        let spells : SpellsWord words.book (token_alone x.0) (x.0 ∷ []) = record { known = (book.some, tt); is = rw book.empty refl } in
        (x.0 ∷ [], subst (λ (o : WordParts). SpellsWord words.book o (x.0 ∷ [])) x.2 spells, alone_cost t f x.0 cost below.0 below.1 lt))
  ]

  pub made_known : AreKnown words.book with_tokens
  made_known m there = let s = spelled_by m there in (s.1).known

  pub made_prefix_free : ArePrefixFree words.book with_tokens
  made_prefix_free m o here there front =
      let a = spelled_by m here in
      let b = spelled_by o there in
      same_cost_even t a.0 b.0 cost lt a.2 b.2 (rw ((a.1).is, (b.1).is) at front)

  module _ (new : RestBook) (numbers : List ℕ) (n : IsNumberingOf words.book new.book cost with_tokens numbers) (keeps : KeepsNumbers given (drop (length items) numbers) (length given) words.tokens.items new.tokens.items) (rows : new.by_cost.buckets.items ≡ words.by_cost.buckets.items) where
    below : AreBelowGroup words.book (max 1 cost) → AreBelowGroup new.book (cost + 1)
    below low k k_lt = elim (cases_lt k (length words.book)) [
      | inl was ↦ (
          let there = get_within words.book k was in
          let now : slice_get new.book k ≡ Some there.0 = rw n.grown (get_left words.book n.added k there.0 there.1) in
          let less = low k was in
          let most : max 1 cost ≤ cost + 1 = one_more cost in
          let e : group_of new.book k ≡ group_of words.book k = ap (λ (o : Option GroupedWord). group_in o) now ∙ sym (ap (λ (o : Option GroupedWord). group_in o) there.1) in
          omega (arith, e, less, most))
      | inr ge ↦ (let e = n.groups k ge k_lt in omega (arith, e))
    ]

    each_item : (assignment : SettledAssignment t words.book settled) (k m : ℕ) (i : WaitingWord) (w : List ℕ) → AreTokensNumbered t words cost → slice_get items k ≡ Some i → slice_get (take (length items) numbers) k ≡ Some m → IsOriginWord t assignment.words i.origin w → cost ≡ cost_up_to_cap t w → cost < cap → IsNumberOfWord new.book m cost w
    each_item assignment k m i w tokens at num by cost_is less =
        let within = slice_get_within items k i at in
        let long = all.len in
        let part = get_within made k (omega (arith, within, long)) in
        let le : cost_up_to_cap t w ≤ cost = rw (← cost_is) (omega arith) in
        let spells = all.each k i part.0 at part.1 assignment cost w book tokens by (rw (← cost_is) less) le in
        let one = n.each k part.0 m (get_left made (map token_alone given) k part.0 part.1) (get_take (length items) numbers k m num) in
        record { known = one.known; group = n.groups m one.fresh one.known; letters = one.letters ∙ spells.is }

    -- The number of a token of the cost.
    number_of_token : (x m : ℕ) → x < t.grammar.tokens → slice_get new.tokens.items x ≡ Some m → cost_of_token t x ≡ cost → IsNumberOfWord new.book m cost (x ∷ [])
    number_of_token x m known num is =
        let there : Contains given x = subst (λ (n : ℕ). Contains (row_of words.by_cost.buckets.items n) x) is (h.tokens.by_cost.all x known) in
        let at = at_contains given x there in
        let kept = keeps.each at.0 x (slice_get_within given at.0 x at.1) at.1 in
        let j : ℕ = kept.0 in
        let q : ℕ = kept.1 in
        let part : slice_get (map token_alone given) j ≡ Some (token_alone x) = mapped given j x kept.2 in
        let place : slice_get with_tokens (length made + j) ≡ Some (token_alone x) = get_after made (map token_alone given) j ∙ part in
        let number : slice_get numbers (length made + j) ≡ Some q = ap (λ (i : ℕ). slice_get numbers (i + j)) all.len ∙ sym (get_drop (length items) numbers j) ∙ kept.3 in
        let m_is : m ≡ q = option_unique (slice_get new.tokens.items x) m q num kept.4 in
        let one = n.each (length made + j) (token_alone x) q place number in
        let spells : spelled words.book (token_alone x) ≡ x ∷ [] = rw book.empty refl in
        rw m_is (record { known = one.known; group = n.groups q one.fresh one.known; letters = one.letters ∙ spells })
      where
        mapped : (xs : List ℕ) (j x : ℕ) → slice_get xs j ≡ Some x → slice_get (map token_alone xs) j ≡ Some (token_alone x)
        mapped [] j x e = absurd (let y : None ≡ Some x = e in cc)
        mapped (y ∷ xs) zero x e = let z : Some y ≡ Some x = e in let one : y ≡ x = cc in ap (λ (i : ℕ). Some (token_alone i)) one
        mapped (y ∷ xs) (suc j) x e = mapped xs j x e

    tokens_numbered : AreTokensNumbered t words cost → AreTokensNumbered t new (cost + 1)
    tokens_numbered old = record {
      len = keeps.len ∙ old.len;
      by_cost = rw rows old.by_cost;
      each = λ x m known num less. elim (cases_eq (cost_of_token t x) cost) [
        | inl is ↦ rw is (number_of_token x m known num is)
        | inr ne ↦ (
            let was : slice_get words.tokens.items x ≡ Some m = sym (keeps.same x (λ n lt at. ne (old.by_cost.known cost x (contains_at given n x at)).1)) ∙ num in
            rw n.grown (number_of_word_more words.book n.added m (cost_of_token t x) (x ∷ []) (old.each x m known was (omega (arith, less, ne)))))
      ];
    }

    pub made_numbered : RestsAreNumbered t settled words new cost items (take (length items) numbers)
    made_numbered = record {
      len = length_take (length items) numbers (let a = n.len in let b = all.len in let l = length-append made (map token_alone given) in omega (arith, a, b, l));
      added = n.added;
      grown = n.grown;
      below = below;
      tokens = tokens_numbered;
      each = each_item;
    }

-- Items of cost 0 have the number of the empty word, and for items of the highest cost numbers do not matter.
pub plain_numbered : (t : TableData) (f : Facts t) (settled : SettledWords) (words : RestBook) (cost : ℕ) (items : List WaitingWord) (numbers : List ℕ) → IsBook words.book → (cost ≡ 0) ⊎ (cost ≡ cap) → numbers ≡ replicate (length items) 0 → RestsAreNumbered t settled words words cost items numbers
plain_numbered t f settled words cost items numbers book plain zeros = record {
  len = ap length zeros ∙ length-replicate (length items) 0;
  added = [];
  grown = sym (append-nil words.book);
  below = λ low k k_lt. (let less = low k k_lt in let most : max 1 cost ≤ cost + 1 = one_more cost in omega (arith, less, most));
  tokens = λ old. record {
    len = old.len;
    by_cost = old.by_cost;
    each = λ x m known num less. elim plain [
      | inl free ↦ absurd (let some = token_cost_positive t f x known in omega (arith, free, some, less))
      | inr top ↦ old.each x m known num (let low = below_cap t f x known in omega (arith, top, low))
    ];
  };
  each = λ assignment k m i w tokens at num by cost_is lt. elim plain [
    | inl free ↦ (
        let none : w ≡ [] = word_of_cost_zero t w (free_cost (cost_by (weigh t) w) (sym free ∙ cost_is)) in
        rw (all_zero k m num, free, none) (record { known = book.some; group = book.free; letters = book.empty }))
    | inr top ↦ absurd (omega (arith, top, lt))
  ];
}
  where
    all_zero : (k m : ℕ) → slice_get numbers k ≡ Some m → m ≡ 0
    all_zero k m at =
        let lt : k < length items = (let within = slice_get_within numbers k m at in let l = ap length zeros ∙ length-replicate (length items) 0 in omega (arith, within, l)) in
        sym (get_or_from_slice_get numbers k m 0 at) ∙ ap (λ xs. get_or xs k 0) zeros ∙ get_or-replicate (length items) k 0 0 lt
