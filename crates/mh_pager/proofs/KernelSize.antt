-- The size of a kernel: the number of its triples of production, dot and look. A join that adds a look has a greater
-- size.
use Rattle.std.proofs.Common.{◌≡◌, ◌⊎◌, ◌<◌, ◌≤◌, ℕ, suc, List, [], ◌∷◌, length, refl, arith, inl, inr, subst, if◌then◌else◌, nat_lt, lt-ltb, le-ltb}
use Rattle.std.specs.List.{Contains}
use Rattle.std.proofs.lemmas.Bool.{cases_eq}
use Rattle.mh_grammar.proofs.EdgeOrder.{equal_look_or_not}
use Rattle.mh_grammar.specs.declared.types.Look.{Look}
use Rattle.mh_grammar.specs.declared.types.Look.TheVariants.{Token, End}
use Rattle.mh_grammar.specs.Plain.{PlainGrammar, production_count, rhs_of, IsLookBelow}
use Rattle.mh_grammar.proofs.Lists.{contains_here, contains_there, contains_cases, contains_none, recursion_contains}
use Rattle.mh_items_kernels.specs.KernelTypes.{KernelItem, Kernel}
use Rattle.mh_items_kernels.specs.Kernels.{Holds, IsKernelItem, IsItemList}
use Rattle.mh_pager.specs.WeakCompatibility.{Covers}
use Rattle.mh_pager.proofs.SumBelow.{sum_below, sum_le, sum_same, bit, bit_le, bit_back, bit_one}

has_look : (looks : List Look) (a : Look) → Contains looks a ⊎ (Contains looks a → ⊥)
has_look [] a = inr (λ c. contains_none a c)
has_look (b ∷ looks) a = elim (equal_look_or_not b a) [
  | inl e ↦ inl (rw e (contains_here a looks))
  | inr n ↦ elim (has_look looks a) [
    | inl c ↦ inl (contains_there b looks a c)
    | inr m ↦ inr (λ c. elim (contains_cases b looks a c) [ inl e ↦ n e | inr d ↦ m d ])
  ]
]

abbrev Stands : KernelItem → ℕ → ℕ → Look → Type 0
Stands item p d a = (item.production ≡ p) × (item.dot ≡ d) × Contains item.looks a

stands : (item : KernelItem) (p d : ℕ) (a : Look) → Stands item p d a ⊎ (Stands item p d a → ⊥)
stands item p d a = elim (cases_eq item.production p) [
  | inl e ↦ elim (cases_eq item.dot d) [
    | inl f ↦ elim (has_look item.looks a) [ inl c ↦ inl (e, f, c) | inr n ↦ inr (λ s. n s.2) ]
    | inr n ↦ inr (λ s. n s.1)
  ]
  | inr n ↦ inr (λ s. n s.0)
]

abbrev Among : List KernelItem → ℕ → ℕ → Look → Type 0
Among items p d a = (item : KernelItem) × Contains items item × (item.production ≡ p) × (item.dot ≡ d) × Contains item.looks a

among : (items : List KernelItem) (p d : ℕ) (a : Look) → Among items p d a ⊎ (Among items p d a → ⊥)
among [] p d a = inr (λ h. contains_none h.0 h.1)
among (item ∷ items) p d a = elim (stands item p d a) [
  | inl s ↦ inl (item, contains_here item items, s.0, s.1, s.2)
  | inr n ↦ elim (among items p d a) [
    | inl h ↦ inl (h.0, contains_there item items h.0 h.1, h.2, h.3, h.4)
    | inr m ↦ inr (λ h. elim (contains_cases item items h.0 h.1) [ inl e ↦ n (rw e (h.2, h.3, h.4)) | inr c ↦ m (h.0, c, h.2, h.3, h.4) ])
  ]
]

-- Decides whether a kernel holds an item.
pub holds_or_not : (k : Kernel) (p d : ℕ) (a : Look) → Holds k p d a ⊎ (Holds k p d a → ⊥)
holds_or_not k p d a = among k.items p d a

-- The looks by number: tokens first, then the end of the stream.
look_at : ℕ → ℕ → Look
look_at tokens l = if nat_lt l tokens then Token l else End

number_of : (tokens : ℕ) (a : Look) → IsLookBelow tokens a → (l : ℕ) × (l < suc tokens) × (look_at tokens l ≡ a)
unfolding look_at
number_of tokens (Token z) b = (z, omega arith, rw (lt-ltb z tokens b) refl)
number_of tokens End b = (tokens, omega arith, rw (le-ltb tokens tokens (omega arith)) refl)

-- The sum of a 0-or-1 test over all triples of the grammar.
pub sum_over_items : PlainGrammar → (ℕ → ℕ → Look → ℕ) → ℕ
sum_over_items g test = sum_below (production_count g) (λ p. sum_below (suc (length (rhs_of g p))) (λ d. sum_below (suc g.tokens) (λ l. test p d (look_at g.tokens l))))

pub size : PlainGrammar → Kernel → ℕ
size g k = sum_over_items g (λ p d a. bit (holds_or_not k p d a))

-- The number of all triples, which is an upper bound of the size.
pub max_size : PlainGrammar → ℕ
max_size g = sum_over_items g (λ p d a. 1)

counted_le : (g : PlainGrammar) (f h : ℕ → ℕ → Look → ℕ) → ((p d : ℕ) (a : Look) → f p d a ≤ h p d a) → sum_over_items g f ≤ sum_over_items g h
unfolding sum_over_items
counted_le g f h le = sum_le (production_count g) (λ p. sum_below (suc (length (rhs_of g p))) (λ d. sum_below (suc g.tokens) (λ l. f p d (look_at g.tokens l)))) (λ p. sum_below (suc (length (rhs_of g p))) (λ d. sum_below (suc g.tokens) (λ l. h p d (look_at g.tokens l))))
    (λ p lp. sum_le (suc (length (rhs_of g p))) (λ d. sum_below (suc g.tokens) (λ l. f p d (look_at g.tokens l))) (λ d. sum_below (suc g.tokens) (λ l. h p d (look_at g.tokens l)))
    (λ d ld. sum_le (suc g.tokens) (λ l. f p d (look_at g.tokens l)) (λ l. h p d (look_at g.tokens l)) (λ l ll. le p d (look_at g.tokens l))))

counted_same : (g : PlainGrammar) (f h : ℕ → ℕ → Look → ℕ) → ((p d : ℕ) (a : Look) → f p d a ≤ h p d a) → sum_over_items g h ≤ sum_over_items g f → (p d : ℕ) (a : Look) → p < production_count g → d ≤ length (rhs_of g p) → IsLookBelow g.tokens a → h p d a ≤ f p d a
unfolding sum_over_items
counted_same g f h le s p d a lp ld la =
    let n = number_of g.tokens a la in
    let rows = sum_same (production_count g) (λ p. sum_below (suc (length (rhs_of g p))) (λ d. sum_below (suc g.tokens) (λ l. f p d (look_at g.tokens l)))) (λ p. sum_below (suc (length (rhs_of g p))) (λ d. sum_below (suc g.tokens) (λ l. h p d (look_at g.tokens l))))
    (λ p lp. sum_le (suc (length (rhs_of g p))) (λ d. sum_below (suc g.tokens) (λ l. f p d (look_at g.tokens l))) (λ d. sum_below (suc g.tokens) (λ l. h p d (look_at g.tokens l)))
    (λ d ld. sum_le (suc g.tokens) (λ l. f p d (look_at g.tokens l)) (λ l. h p d (look_at g.tokens l)) (λ l ll. le p d (look_at g.tokens l)))) s p lp in
    let cells = sum_same (suc (length (rhs_of g p))) (λ d. sum_below (suc g.tokens) (λ l. f p d (look_at g.tokens l))) (λ d. sum_below (suc g.tokens) (λ l. h p d (look_at g.tokens l)))
    (λ d ld. sum_le (suc g.tokens) (λ l. f p d (look_at g.tokens l)) (λ l. h p d (look_at g.tokens l)) (λ l ll. le p d (look_at g.tokens l))) rows d (omega arith) in
    let looks = sum_same (suc g.tokens) (λ l. f p d (look_at g.tokens l)) (λ l. h p d (look_at g.tokens l)) (λ l ll. le p d (look_at g.tokens l)) cells n.0 n.1 in
    subst (λ (b : Look). h p d b ≤ f p d b) n.2 looks

pub size_within_max : (g : PlainGrammar) (k : Kernel) → size g k ≤ max_size g
unfolding size max_size
size_within_max g k = counted_le g (λ p d a. bit (holds_or_not k p d a)) (λ p d a. 1) (λ p d a. bit_one (holds_or_not k p d a))

held_below : (g : PlainGrammar) (k : Kernel) → IsItemList g k → (p d : ℕ) (a : Look) → Holds k p d a → (p < production_count g) × (d ≤ length (rhs_of g p)) × IsLookBelow g.tokens a
held_below g k is p d a h =
    let item = recursion_contains (IsKernelItem g) k.items is.items h.0 h.1 in
    (rw h.2 at item.production, rw (h.2, h.3) at item.dot, recursion_contains (IsLookBelow g.tokens) h.0.looks item.looks a h.4)

-- If one kernel contains another and is no larger, the other contains it too.
pub size_covers : (g : PlainGrammar) (j k : Kernel) → IsItemList g j → Covers (Holds j) (Holds k) → size g j ≤ size g k → Covers (Holds k) (Holds j)
unfolding size
size_covers g j k is covers s p d a h =
    let in-range = held_below g j is p d a h in
    let le = counted_same g (λ p d a. bit (holds_or_not k p d a)) (λ p d a. bit (holds_or_not j p d a)) (λ p d a. bit_le (holds_or_not k p d a) (holds_or_not j p d a) (covers p d a)) s p d a in-range.0 in-range.1 in-range.2 in
    bit_back (holds_or_not k p d a) (holds_or_not j p d a) le h
