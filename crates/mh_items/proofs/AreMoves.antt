-- Proves that the rows with items, taken in their order, are the moves.
use Rattle.std.proofs.Common.{◌≡◌, ℕ, suc, ◌+◌, ◌-◌, ◌<◌, ◌≤◌, List, [], ◌∷◌, ◌++◌, Some, length, get_or, map, set, take, vec_len, lt-ltb, le-ltb, refl, sym, ap, subst, ◌∙◌, arith, inl, inr, get_or-set_same}
use Rattle.std.specs.List.{slice_get, AllByRecursion, Contains}
use Rattle.std.specs.List.Sorted.{IsStrictlyIncreasing}
use Rattle.std.proofs.lemmas.Bool.{cases_eq, cases_lt}
use Rattle.std.proofs.lemmas.List.{get_or-set_other, length-set, get_or-take, get_or_past, length-take, map-append, take_more, take_all}
use Rattle.std.proofs.lemmas.List.Elements.{All-map, Contains-append_left, Contains-get_or}
use Rattle.std.proofs.lemmas.List.Kept.{AllPairs-from_increasing}
use Rattle.std.proofs.lemmas.Option.{slice_get_within, get_or_from_slice_get}
use Rattle.std.proofs.lemmas.Simd.{map-map}
use Rattle.mh_grammar.specs.declared.types.Symbol.{Symbol}
use Rattle.mh_grammar.specs.declared.types.Symbol.TheVariants.{T, N}
use Rattle.mh_grammar.specs.declared.types.Look.{Look}
use Rattle.mh_grammar.specs.declared.types.Look.TheVariants.{End}
use Rattle.mh_grammar.specs.Edges.{IsRising, IsSymbolBefore}
use Rattle.mh_grammar.specs.Plain.{PlainGrammar, IsInRange, IsSymbolBelow, rhs_of}
use Rattle.mh_grammar.specs.ItemSets as sets
use Rattle.mh_grammar.specs.ItemSets.{Moved}
use Rattle.mh_grammar.proofs.Lists.{at_contains, contains_push, contains_last, contains_none, contains_map, map_contains, some_item, recursion-from, recursion_contains, get_from_drop, get_or_own_default}
use Rattle.mh_items_kernels.specs.KernelTypes.{Items, KernelItem, Kernel}
use Rattle.mh_items_kernels.specs.Kernels.{Holds, IsItemList, IsKernelItem}
use Rattle.mh_items_kernels.proofs.SymbolAtDot.{drop_from-slice_get}
use Rattle.mh_items.specs.declared.rows.SymbolRows.{SymbolRows}
use Rattle.mh_items_kernels.specs.code.KernelMoves.{IsAfterDot, IsMove}
use Rattle.mh_items.specs.code.AllMoves.{Move, AreMoves, symbols_of}
use Rattle.mh_items.specs.code.SymbolRows.{row_index, symbol_of_row, row_at, AreRowsEmpty, AreRowsSorted, move_from}
use Rattle.mh_items.proofs.AreRowsOfMoves.{symbol_below, place_within}

-- Lemmas on rising lists.

rising_from : {X : Type 0} (R : X → X → Type 0) (xs : List X) → ((i j : ℕ) (x y : X) → i < j → slice_get xs i ≡ Some x → slice_get xs j ≡ Some y → R x y) → IsRising R xs
rising_from R [] h = tt
rising_from R (x ∷ xs) h = (
  recursion-from (R x) xs (λ y c. let at = at_contains xs y c in h 0 (suc at.0) x y (omega arith) refl at.1),
  rising_from R xs (λ i j a b l e f. h (suc i) (suc j) a b (omega arith) e f),
)

-- The image of a rising list under a map that keeps the order is rising.
rising_map : {X Y : Type 0} (R : X → X → Type 0) (S : Y → Y → Type 0) (f : X → Y) → ((a b : X) → R a b → S (f a) (f b)) → (xs : List X) → IsRising R xs → IsRising S (map f xs)
rising_map R S f keeps [] r = tt
rising_map R S f keeps (x ∷ xs) r = (all xs r.0, rising_map R S f keeps xs r.1)
  where
    all : (ys : List _) → AllByRecursion (R x) ys → AllByRecursion (S (f x)) (map f ys)
    all [] a = tt
    all (y ∷ ys) a = (keeps x y a.0, all ys a.1)

numbers_rise : (xs : List ℕ) → IsStrictlyIncreasing xs → IsRising (λ a b. a < b) xs
numbers_rise xs h = rising_from (λ a b. a < b) xs (λ i j x y l e f.
    let lt = AllPairs-from_increasing xs h i j 0 l (slice_get_within xs j y f) in
    rw (get_or_from_slice_get xs i x 0 e, get_or_from_slice_get xs j y 0 f) at lt)

-- The next of strictly increasing numbers is not among those before it.
not_before : (xs : List ℕ) (i : ℕ) → IsStrictlyIncreasing xs → i < length xs → Contains (take i xs) (get_or xs i 0) → ⊥
not_before xs i h l c =
    let n : ℕ = get_or xs i 0 in
    let k : c.0 < i = omega (arith, c.1, length-take i xs) in
    let at : get_or xs c.0 n ≡ n = sym (get_or-take i xs c.0 n k) ∙ c.2 in
    let lt = AllPairs-from_increasing xs h c.0 i n k l in
    let same : get_or xs i n ≡ n = sym (get_or_own_default xs i 0 l) in
    omega arith

-- Lemmas on symbols and row indices.

symbol_low : (tokens n : ℕ) → n < tokens → symbol_of_row tokens n ≡ T n
symbol_low tokens n l = rw (lt-ltb n tokens l) refl

symbol_high : (tokens n : ℕ) → tokens ≤ n → symbol_of_row tokens n ≡ N (n - tokens)
symbol_high tokens n g = rw (le-ltb n tokens g) refl

pub symbol_place : (tokens n : ℕ) (X : Symbol) → IsSymbolBelow tokens n X → symbol_of_row tokens (row_index tokens X) ≡ X
symbol_place tokens n (T a) l = symbol_low tokens a l
symbol_place tokens n (N a) l = symbol_high tokens (tokens + a) (omega arith) ∙ ap N (omega arith)

place_symbol : (tokens n : ℕ) → row_index tokens (symbol_of_row tokens n) ≡ n
place_symbol tokens n = elim (cases_lt n tokens) [
  | inl l ↦ ap (row_index tokens) (symbol_low tokens n l)
  | inr g ↦ ap (row_index tokens) (symbol_high tokens n g) ∙ omega arith
]

symbol_known : (tokens count n : ℕ) → n < tokens + count → IsSymbolBelow tokens count (symbol_of_row tokens n)
symbol_known tokens count n l = elim (cases_lt n tokens) [
  | inl m ↦ rw (symbol_low tokens n m) m
  | inr g ↦ rw (symbol_high tokens n g) (omega arith)
]

symbol_before : (tokens a b : ℕ) → a < b → IsSymbolBefore (symbol_of_row tokens a) (symbol_of_row tokens b)
symbol_before tokens a b l = elim (cases_lt b tokens) [
  | inl m ↦ (let k : a < tokens = omega arith in rw (symbol_low tokens a k, symbol_low tokens b m) l)
  | inr g ↦ elim (cases_lt a tokens) [
    | inl k ↦ rw (symbol_low tokens a k, symbol_high tokens b g) tt
    | inr h ↦ rw (symbol_high tokens a h, symbol_high tokens b g) (omega arith)
  ]
]

-- The loop invariant: the rows of the first i filled indices were taken.

pub record TakenSoFar {W : ℕ} (tokens : ℕ) (old : SymbolRows W) (filled : List ℕ) (i : ℕ) (new : SymbolRows W) (moves : List Move) : Type 0 where
  pub size : length new.rows.items ≡ length old.rows.items
  pub unlisted : new.filled.items ≡ []
  pub before : (n : ℕ) → Contains (take i filled) n → row_at new n ≡ []
  pub after : (n : ℕ) → (Contains (take i filled) n → ⊥) → row_at new n ≡ row_at old n
  pub taken : moves ≡ map (move_from tokens old) (take i filled)

pub TakenSoFar-start : {W : ℕ} (tokens : ℕ) (old : SymbolRows W) (filled : List ℕ) (new : SymbolRows W) → new.rows.items ≡ old.rows.items → new.filled.items ≡ [] → TakenSoFar tokens old filled 0 new []
TakenSoFar-start tokens old filled new rows list = record {
  size = ap length rows;
  unlisted = list;
  before = λ n c. absurd (contains_none n c);
  after = λ n o. ap (λ rs. get_or rs n []) rows;
  taken = refl;
}

module _ {W : ℕ} (tokens : ℕ) (old : SymbolRows W) (filled : List ℕ) (i : ℕ) (mid new : SymbolRows W) (moves made : List Move) (move : Move) (rising : IsStrictlyIncreasing filled) (l : i < length filled) (within : get_or filled i 0 < length mid.rows.items) (h : TakenSoFar tokens old filled i mid moves) where
  abbrev pub place : ℕ
  place = get_or filled i 0

  pub taken_row : row_at mid place ≡ row_at old place
  taken_row = h.after place (not_before filled i rising l)

  pub TakenSoFar-step : new.rows.items ≡ set mid.rows.items place [] → new.filled.items ≡ mid.filled.items → made ≡ moves ++ move ∷ [] → move ≡ record { symbol = symbol_of_row tokens place; kernel = record { items = row_at mid place } } → TakenSoFar tokens old filled (i + 1) new made
  TakenSoFar-step rows list more is = record {
    size = ap length rows ∙ length-set mid.rows.items place [] ∙ h.size;
    unlisted = list ∙ h.unlisted;
    before = λ n c. elim (cases_eq n place) [
      | inl e ↦ rw e (ap (λ rs. get_or rs place []) rows ∙ get_or-set_same mid.rows.items place [] [] within)
      | inr o ↦ other n o ∙ h.before n (elim (contains_push (take i filled) place n (rw (take_more filled i 0 l) at c)) [ inl d ↦ d | inr e ↦ absurd (o e) ])
    ];
    after = λ n o.
        let differs : n ≡ place → ⊥ = λ e. o (rw (take_more filled i 0 l, e) (contains_last (take i filled) place)) in
        other n differs ∙ h.after n (λ c. o (rw (take_more filled i 0 l) (Contains-append_left (take i filled) (place ∷ []) n c)));
    taken = more ∙ ap (λ ms. ms ++ move ∷ []) h.taken ∙ ap (λ m. map (move_from tokens old) (take i filled) ++ m ∷ []) (is ∙ ap (λ (row : List KernelItem). record { symbol = symbol_of_row tokens place; kernel = record { items = row } }) taken_row)
        ∙ sym (map-append (move_from tokens old) (take i filled) (place ∷ [])) ∙ ap (map (move_from tokens old)) (sym (take_more filled i 0 l));
  }
    where
      other : (n : ℕ) → (n ≡ place → ⊥) → row_at new n ≡ row_at mid n
      other n o = ap (λ rs. get_or rs n []) rows ∙ get_or-set_other mid.rows.items place n [] [] o

-- A filled index is the row index of a symbol.
pub listed_place : {W : ℕ} (g : PlainGrammar) (old new : SymbolRows W) (filled : List ℕ) (i : ℕ) (moves : List Move) → filled ≡ old.filled.items → AreRowsSorted g old → TakenSoFar g.tokens old filled i new moves → i < length filled → (get_or filled i 0 < vec_len new.rows) × (get_or filled i 0 < g.tokens + g.nonterminals)
listed_place g old new filled i moves same ready h l =
    let P : List ℕ → Type 0 = λ xs. Contains xs (get_or filled i 0) in
    let known = ((ready.filled.listed (get_or filled i 0)).0 (subst P same (Contains-get_or filled i 0 l))).0 in
    (omega (arith, known, h.size, old.rows.ok.0, new.rows.ok.0), omega (arith, known, ready.size))

no_items : {X : Type 0} (xs : List X) → (0 < length xs → ⊥) → xs ≡ []
no_items [] o = refl
no_items (x ∷ xs) o = absurd (o (omega arith))

pub TakenSoFar-all : {W : ℕ} (g : PlainGrammar) (old : SymbolRows W) (filled : List ℕ) (i : ℕ) (new : SymbolRows W) (moves : List Move) → filled ≡ old.filled.items → AreRowsSorted g old → length filled ≤ i → TakenSoFar g.tokens old filled i new moves → AreRowsEmpty g new
TakenSoFar-all g old filled i new moves same ready past h = record {
  size = omega (arith, h.size, ready.size, old.rows.ok.0, new.rows.ok.0);
  none = λ n. elim (cases_lt 0 (length (row_at old n))) [
    | inl some ↦ h.before n (rw (take_all i filled past, same) ((ready.filled.listed n).1 (within n some, some)))
    | inr bare ↦ h.after n (λ c. (let listed = (ready.filled.listed n).0 (rw (take_all i filled past, same) at c) in omega (arith, listed.1))) ∙ no_items (row_at old n) (λ s. omega arith)
  ];
  unlisted = h.unlisted;
}
  where
    within : (n : ℕ) → 0 < length (row_at old n) → n < vec_len old.rows
    within n some = elim (cases_lt n (length old.rows.items)) [
      | inl l ↦ omega (arith, old.rows.ok.0)
      | inr beyond ↦ absurd (let e = ap length (get_or_past old.rows.items n [] beyond) in omega arith)
    ]

-- The taken rows are the moves.

module _ {W : ℕ} (g : PlainGrammar) (range : IsInRange g) (closed : Items) (kernel : IsItemList g closed) (r : SymbolRows W) (gathered : (X : Symbol) → IsSymbolBelow g.tokens g.nonterminals X → IsMove g closed X (record { items = row_at r (row_index g.tokens X) })) (ready : AreRowsSorted g r) where
  abbrev F : List ℕ
  F = r.filled.items

  abbrev S : ℕ → Symbol
  S = symbol_of_row g.tokens

  filled_known : (n : ℕ) → Contains F n → n < g.tokens + g.nonterminals
  filled_known n c = let l = ((ready.filled.listed n).0 c).0 in omega (arith, ready.size)

  of_row : (n : ℕ) → Contains F n → IsMove g closed (S n) (record { items = row_at r n })
  of_row n c =
      let P : ℕ → Type 0 = λ m. IsMove g closed (S n) (record { items = row_at r m }) in
      subst P (place_symbol g.tokens n) (gathered (S n) (symbol_known g.tokens g.nonterminals n (filled_known n c)))

  -- If a symbol moves an item, it is after a dot.
  moved_from : (X : Symbol) (p d : ℕ) (a : Look) → Moved g (Holds closed) X p d a → IsAfterDot g closed X
  moved_from X p d a (sets.Moved.moved {p = q} {d = e} {y = y} held before) = record { production = q; dot = e; place = (held.0, held.1, held.2, held.3); at_dot = get_from_drop (rhs_of g q) e X y before }

  first_held : (k : Kernel) → IsItemList g k → (item : KernelItem) → Contains k.items item → Holds k item.production item.dot (get_or item.looks 0 End)
  first_held k is item c = (item, c, refl, refl, Contains-get_or item.looks 0 End (recursion_contains (IsKernelItem g) k.items is.items item c).some)

  behind_of : (n : ℕ) → Contains F n → IsAfterDot g closed (S n)
  behind_of n c =
      let move = of_row n c in
      let item = some_item (row_at r n) ((ready.filled.listed n).0 c).1 in
      let held = first_held (record { items = row_at r n }) move.kernel item.0 item.1 in
      moved_from (S n) item.0.production item.0.dot (get_or item.0.looks 0 End) ((move.same item.0.production item.0.dot (get_or item.0.looks 0 End)).0 held)

  -- The row of a symbol after a dot has items.
  listed_of : (X : Symbol) → IsAfterDot g closed X → Contains F (row_index g.tokens X) × IsSymbolBelow g.tokens g.nonterminals X
  listed_of X b =
      let item = b.place.0 in
      let of_item = recursion_contains (IsKernelItem g) closed.items kernel.items item b.place.1 in
      let at : slice_get (rhs_of g item.production) item.dot ≡ Some X = rw (b.place.2, b.place.3) b.at_dot in
      let below = symbol_below g range item.production item.dot X of_item.production at in
      let held = first_held closed kernel item b.place.1 in
      let moved : Moved g (Holds closed) X item.production (suc item.dot) (get_or item.looks 0 End) = sets.Moved.moved held (drop_from-slice_get (rhs_of g item.production) item.dot X at) in
      let there = ((gathered X below).same item.production (suc item.dot) (get_or item.looks 0 End)).1 moved in
      let some = there.1.1 in
      ((ready.filled.listed (row_index g.tokens X)).1 (omega (arith, place_within g.tokens g.nonterminals X below, ready.size), omega arith), below)

  symbols : symbols_of (map (move_from g.tokens r) F) ≡ map S F
  symbols = map-map (λ (m : Move). m.symbol) (move_from g.tokens r) F

  pub are_moves : AreMoves g closed (map (move_from g.tokens r) F)
  are_moves = record {
    rising = rw symbols (rising_map (λ a b. a < b) IsSymbolBefore S (symbol_before g.tokens) F (numbers_rise F ready.rising));
    exact = λ X. (
      (λ c. let at = map_contains S F X (rw symbols at c) in rw (← at.2) (behind_of at.0 at.1)),
      (λ b. let at = listed_of X b in rw symbols (let P : Symbol → Type 0 = Contains (map S F) in subst P (symbol_place g.tokens g.nonterminals X at.1) (contains_map S F (row_index g.tokens X) at.0))),
    );
    each = All-map (λ (m : Move). IsMove g closed m.symbol m.kernel) (move_from g.tokens r) F (λ k d l. of_row (get_or F k d) (Contains-get_or F k d l));
  }
