-- Lemmas on the computation of FIRST by flags: each flag that a pass sets is correct, and flags that no pass changes
-- are all of FIRST. The end turns rows of flags into lists of tokens.
use Rattle.std.proofs.Common.{◌≡◌, ℕ, ◌+◌, ◌*◌, ◌<◌, ◌≤◌, ◌||◌, ◌↔◌, Bool, true, false, List, [], ◌∷◌, ◌++◌, Some, length, get_or, set, drop, refl, sym, ap, ◌∙◌, arith, inl, inr, take, ◌-◌}
use Rattle.std.specs.List.{slice_get}
use Rattle.std.proofs.lemmas.Bool.{cases_eq, cases_lt, false≢true}
use Rattle.std.proofs.lemmas.List.Elements.{All-head, All-tail, All-push, All-weaker, All-contains, Contains-push, Contains-push_cases, Contains-append_left}
use Rattle.std.proofs.lemmas.List.{get_or_append_left, get_or_push, get_or_past, get_or-take, get_or-drop, length_push, length-take}
use Rattle.std.proofs.lemmas.Option.{slice_get-get_or, get_or_from_slice_get, slice_get_read, slice_get_within}
use Rattle.std.proofs.lemmas.Nat.{same_from_place}
use Rattle.mh_grammar.specs.declared.types.Symbol.{Symbol}
use Rattle.mh_grammar.specs.declared.types.Symbol.TheVariants.{T, N}
use Rattle.mh_grammar.specs.declared.types.Production.{Production}
use Rattle.std.specs.List.{All, Contains}
use Rattle.std.specs.List.Sorted.{IsStrictlyIncreasing}
use Rattle.std.proofs.lemmas.Grind.{common_steps}
use Rattle.std.proofs.Math.Nat.{mul-le-mul_left}
use Rattle.mh_grammar.specs.Plain.{PlainGrammar, Produces, Derives, IsNullable, IsSymbolBelow, IsProductionBelow}
use Rattle.mh_grammar.specs.Marked.{Marked, mark_of, AreMarks}
use Rattle.mh_grammar.specs.Marked as marked
use Rattle.mh_grammar.specs.FlagTable.{flag, Grows}
use Rattle.mh_grammar.specs.First as first
use Rattle.mh_grammar.specs.First.{First, FirstOf}
use Rattle.mh_grammar.specs.FirstFlags.{AreSoundFlags, HasSymbolFirst, HasStringFirst, NoProductionAdds, AreFirstFlags, NullableSound, SymbolFits}
use Rattle.std.proofs.lemmas.Bool.{or_parts}
use Rattle.mh_grammar.proofs.FlagTable.{set-cases, Grows-trans, Grows-refl}
use Rattle.mh_grammar.proofs.LeastMarks.{nil_from-marked, marked-from_nil}
use Rattle.mh_grammar.proofs.Lists.{contains_at}
use Rattle.mh_grammar.proofs.ProductionNumbers.{Produces-ordinary, listed_from_for}

-- Setting one correct flag keeps all flags correct.
pub AreSoundFlags-set : (g : PlainGrammar) (width : ℕ) (flags : List Bool) (n a : ℕ) → a < width → First g (N n) a → AreSoundFlags g width flags → AreSoundFlags g width (set flags (n * width + a) true)
AreSoundFlags-set g width flags n a l f h = record {
  sound = λ m b k e. elim (set-cases flags (n * width + a) (m * width + b) e) [
    | inl before ↦ h.sound m b k before
    | inr here ↦ (let at = same_from_place m b n a width k l here in rw (at.0, at.1) f)
  ];
}

-- The invariant of the loop over the symbols of a right side: `rest` are the symbols that were not added yet.
pub record SideSoFar (nullable : List Bool) (width : ℕ) (old new : List Bool) (lhs : ℕ) (symbols : List Symbol) (grown : Bool) (rest : List Symbol) : Type 0 where
  pub grows : Grows old new grown
  pub sound : (g : PlainGrammar) → NullableSound g nullable → ((a : ℕ) → FirstOf g symbols a → First g (N lhs) a) → AreSoundFlags g width old → AreSoundFlags g width new
  pub rest_first : (g : PlainGrammar) → NullableSound g nullable → (a : ℕ) → FirstOf g rest a → FirstOf g symbols a
  pub added : grown ≡ false → HasStringFirst nullable width new lhs rest → HasStringFirst nullable width new lhs symbols

pub SideSoFar-start : (nullable : List Bool) (width : ℕ) (old : List Bool) (lhs : ℕ) (symbols : List Symbol) → SideSoFar nullable width old old lhs symbols false symbols
SideSoFar-start nullable width old lhs symbols = record { grows = Grows-refl old; sound = λ ps n f s. s; rest_first = λ ps n a f. f; added = λ e h. h }

module _ (nullable : List Bool) (width : ℕ) (old new newer : List Bool) (lhs : ℕ) (symbols : List Symbol) (grown more : Bool) (X : Symbol) (rest : List Symbol)
    (h : SideSoFar nullable width old new lhs symbols grown (X ∷ rest)) (g : Grows new newer more)
    (s : (k : PlainGrammar) → ((a : ℕ) → First k X a → First k (N lhs) a) → AreSoundFlags k width new → AreSoundFlags k width newer)
    (i : more ≡ false → HasSymbolFirst width newer lhs X) where
  pub step_sound : (g : PlainGrammar) → NullableSound g nullable → ((a : ℕ) → FirstOf g symbols a → First g (N lhs) a) → AreSoundFlags g width old → AreSoundFlags g width newer
  step_sound ps n f k = s ps (λ a x. f a (h.rest_first ps n a (first.FirstOf.here x))) (h.sound ps n f k)

  step_added : (grown || more) ≡ false → (mark_of false nullable X ≡ true → HasStringFirst nullable width newer lhs rest) → HasStringFirst nullable width newer lhs symbols
  step_added e k = let both = or_parts grown more e in let same = g.same both.1 in
      rw same (h.added both.0 (rw same at (i both.1), λ m. rw same at (k m)))

  pub SideSoFar-step : mark_of false nullable X ≡ true → SideSoFar nullable width old newer lhs symbols (grown || more) rest
  SideSoFar-step m = record {
    grows = Grows-trans old new newer grown more h.grows g;
    sound = step_sound;
    rest_first = λ ps n a f. h.rest_first ps n a (first.FirstOf.past (n.sound X m) f);
    added = λ e k. step_added e (λ _. k);
  }

  pub SideSoFar-stop : mark_of false nullable X ≡ false → (grown || more) ≡ false → HasStringFirst nullable width newer lhs symbols
  SideSoFar-stop m e = step_added e (λ t. cc)

  pub grows_more : Grows old newer (grown || more)
  grows_more = Grows-trans old new newer grown more h.grows g

pub symbol_fits : (width n len : ℕ) (X : Symbol) → IsSymbolBelow width n X → len ≡ n * width → SymbolFits width len X
symbol_fits width n len (T a) h e = h
symbol_fits width n len (N m) h e = let k : m + 1 ≤ n = omega arith in omega (arith, mul-le-mul_left width k)

-- The production adds no flag to its left side.
abbrev pub AddsNothing : List Bool → ℕ → List Bool → Production → Type 0
AddsNothing nullable width flags p = HasStringFirst nullable width flags p.lhs p.rhs

-- Flags that are correct before are correct after, in every grammar with these productions.
abbrev pub KeepsSoundFlags : List Production → List Bool → ℕ → List Bool → List Bool → Type 0
KeepsSoundFlags ps nullable width old new = (g : PlainGrammar) → g.productions ≡ ps → NullableSound g nullable → AreSoundFlags g width old → AreSoundFlags g width new

pub production_sound : (ps : List Production) (nullable : List Bool) (width : ℕ) (flags new : List Bool) (i : ℕ) (p : Production) → i < length ps → p ≡ get_or ps i p
    → ((g : PlainGrammar) → NullableSound g nullable → ((a : ℕ) → FirstOf g p.rhs a → First g (N p.lhs) a) → AreSoundFlags g width flags → AreSoundFlags g width new) → KeepsSoundFlags ps nullable width flags new
production_sound ps nullable width flags new i p l is s g same n =
    let at : slice_get ps i ≡ Some p = slice_get_read ps (length ps) i p refl l is in
    s g n (λ a f. first.First.nonterminal (Produces-ordinary g i p (rw same at)) f)

-- A symbol that `nullable` marks derives the empty word.
mark_sound : (g : PlainGrammar) (nullable : List Bool) → AreMarks false g.productions nullable → (X : Symbol) → mark_of false nullable X ≡ true → Derives g X []
mark_sound g nullable m (T a) e = cc
mark_sound g nullable m (N n) e = nil_from-marked g (N n) ((m n).0 e)

pub NullableSound-marks : (g : PlainGrammar) (nullable : List Bool) → AreMarks false g.productions nullable → NullableSound g nullable
NullableSound-marks g nullable m = record { sound = mark_sound g nullable m }

mark-marked : (g : PlainGrammar) (nullable : List Bool) → AreMarks false g.productions nullable → (X : Symbol) → Marked false g.productions X → mark_of false nullable X ≡ true
mark-marked g nullable m (T a) (marked.Marked.token e) = e
mark-marked g nullable m (N n) h = (m n).1 h

-- If no production adds a flag, the flags contain all of FIRST.
module _ (g : PlainGrammar) (nullable : List Bool) (width : ℕ) (flags : List Bool) (m : AreMarks false g.productions nullable) (d : NoProductionAdds g.productions nullable width flags) (a : ℕ) (l : a < width) where
  abbrev Has : Symbol → Type 0
  Has (T b) = b ≡ a
  Has (N n) = flag width flags n a ≡ true

  added_to : (n : ℕ) (X : Symbol) → Has X → HasSymbolFirst width flags n X → flag width flags n a ≡ true
  added_to n (T b) h k = rw h at k
  added_to n (N q) h k = k a l h

  side_of : (n : ℕ) (rhs : List Symbol) → Produces g (N n) rhs → HasStringFirst nullable width flags n rhs
  side_of n rhs p =
      let at = listed_from_for g n p.0 p.1 in
      let same : at.production.rhs ≡ rhs = sym at.rhs ∙ p.2 in
      rw (at.lhs, same) at (d.added at.place at.production at.at)

  mutual
    pub all-first : (X : Symbol) → First g X a → Has X
    all-first X first.First.token = refl
    all-first X (first.First.nonterminal {n = n} p f) = all-first_of n _ f (side_of n _ p)

    pub all-first_of : (n : ℕ) (Xs : List Symbol) → FirstOf g Xs a → HasStringFirst nullable width flags n Xs → flag width flags n a ≡ true
    all-first_of n Xs (first.FirstOf.here {X = X} x) s = added_to n X (all-first X x) s.0
    all-first_of n Xs (first.FirstOf.past {X = X} t f) s = all-first_of n _ f (s.1 (mark-marked g nullable m X (marked-from_nil g X [] t refl)))

pub flags_are_first : (g : PlainGrammar) (nullable : List Bool) (width : ℕ) (flags : List Bool) → AreMarks false g.productions nullable → AreSoundFlags g width flags → NoProductionAdds g.productions nullable width flags → AreFirstFlags g width flags
flags_are_first g nullable width flags m s d = record { exact = λ n a l. (s.sound n a l, all-first g nullable width flags m d a l (N n)) }

-- FIRST contains only tokens of the grammar.
module _ (g : PlainGrammar) (width n : ℕ) (r : All (IsProductionBelow width n) g.productions) (a : ℕ) where
  below_of : (m : ℕ) (rhs : List Symbol) → Produces g (N m) rhs → All (IsSymbolBelow width n) rhs
  below_of m rhs p =
      let at = listed_from_for g m p.0 p.1 in
      let same : at.production.rhs ≡ rhs = sym at.rhs ∙ p.2 in
      rw same at (All-contains (IsProductionBelow width n) g.productions at.production r (contains_at g.productions at.place at.production at.at)).rhs

  mutual
    pub first-below : (X : Symbol) → First g X a → IsSymbolBelow width n X → a < width
    first-below X first.First.token h = h
    first-below X (first.First.nonterminal {n = m} p f) h = first_of-below _ f (below_of m _ p)

    pub first_of-below : (Xs : List Symbol) → FirstOf g Xs a → All (IsSymbolBelow width n) Xs → a < width
    first_of-below Xs (first.FirstOf.here {X = X} {Xs = Ys} x) h = first-below X x (All-head (IsSymbolBelow width n) X Ys h)
    first_of-below Xs (first.FirstOf.past {X = X} {Xs = Ys} t f) h = first_of-below _ f (All-tail (IsSymbolBelow width n) X Ys h)

-- A strictly increasing list stays so if a greater number is appended.
pub rising-push : (xs : List ℕ) (y : ℕ) → IsStrictlyIncreasing xs → All (λ x. x < y) xs → IsStrictlyIncreasing (xs ++ y ∷ [])
rising-push xs y r b = λ k l.
    let short : k < length xs = omega (arith, length_push xs y) in
    rw (get_or_append_left xs (y ∷ []) 0 k short)
    (elim (cases_eq (length xs) (k + 1)) [
      | inl last ↦ rw (get_or_push xs y 0 (k + 1) last) (b k 0 short)
      | inr other ↦ (let more : k + 1 < length xs = omega (arith, length_push xs y) in rw (get_or_append_left xs (y ∷ []) 0 (k + 1) more) (r k more))
    ])

-- The invariant of the loop that collects the indices of the set flags: `upto` flags were read.
pub record TokensSoFar (flags : List Bool) (tokens : List ℕ) (upto : ℕ) : Type 0 where
  pub rising : IsStrictlyIncreasing tokens
  pub below : All (λ a. a < upto) tokens
  pub sound : (a : ℕ) → Contains tokens a → get_or flags a false ≡ true
  pub complete : (a : ℕ) → a < upto → get_or flags a false ≡ true → Contains tokens a

pub TokensSoFar-push : (flags : List Bool) (tokens : List ℕ) (i : ℕ) → TokensSoFar flags tokens i → get_or flags i false ≡ true → TokensSoFar flags (tokens ++ i ∷ []) (i + 1)
TokensSoFar-push flags tokens i h e = record {
  rising = rising-push tokens i h.rising h.below;
  below = All-push (λ a. a < i + 1) tokens i (All-weaker (λ a. a < i) (λ a. a < i + 1) (λ a l. omega arith) tokens h.below) (omega arith);
  sound = λ a c. elim (Contains-push_cases tokens i a c) [ inl before ↦ h.sound a before | inr same ↦ rw (← same) e ];
  complete = λ a l f. elim (cases_eq a i) [ inl same ↦ rw same (Contains-push tokens i) | inr other ↦ Contains-append_left tokens (i ∷ []) a (h.complete a (omega arith) f) ];
}

pub TokensSoFar-skip : (flags : List Bool) (tokens : List ℕ) (i : ℕ) → TokensSoFar flags tokens i → get_or flags i false ≡ false → TokensSoFar flags tokens (i + 1)
TokensSoFar-skip flags tokens i h e = record {
  rising = h.rising;
  below = All-weaker (λ a. a < i) (λ a. a < i + 1) (λ a l. omega arith) tokens h.below;
  sound = h.sound;
  complete = λ a l f. elim (cases_eq a i) [ inl same ↦ (let g : get_or flags i false ≡ true = rw (← same) f in cc) | inr other ↦ h.complete a (omega arith) f ];
}

pub marks_from-nullable : (g : PlainGrammar) (nullable : List Bool) → ((n : ℕ) → (get_or nullable n false ≡ true) ↔ IsNullable g n) → AreMarks false g.productions nullable
marks_from-nullable g nullable m = λ n. (λ e. marked-from_nil g (N n) [] ((m n).0 e) refl, λ k. (m n).1 (nil_from-marked g (N n) k))

-- Writing a whole list over a list of the same length leaves the new list.
pub take_of_replaced : {X : Type 0} (len : ℕ) (new old : List X) → length new ≡ length old → len ≡ length old → take len (new ++ drop (length new) old) ≡ new
take_of_replaced len new old e f = grind (arith, common_steps)

-- The invariant of the loop over the nonterminals: the rows so far are FIRST of the first nonterminals.
pub record RowsSoFar (g : PlainGrammar) (rows : List (List ℕ)) : Type 0 where
  pub rising : All IsStrictlyIncreasing rows
  pub exact : (n : ℕ) (row : List ℕ) → slice_get rows n ≡ Some row → (a : ℕ) → Contains row a ↔ First g (N n) a

pub RowsSoFar-push : (g : PlainGrammar) (rows : List (List ℕ)) (row : List ℕ) → RowsSoFar g rows → IsStrictlyIncreasing row → ((a : ℕ) → Contains row a ↔ First g (N (length rows)) a) → RowsSoFar g (rows ++ row ∷ [])
RowsSoFar-push g rows row h r x = record {
  rising = All-push IsStrictlyIncreasing rows row h.rising r;
  exact = λ n read at. elim (cases_eq n (length rows)) [
    | inl same ↦ (let one : read ≡ row = sym (get_or_from_slice_get (rows ++ row ∷ []) n read read at) ∙ get_or_push rows row read n (sym same) in rw (same, one) x)
    | inr other ↦ (let short : n < length rows = omega (arith, slice_get_within (rows ++ row ∷ []) n read at, length_push rows row) in
        let one = sym (get_or_append_left rows (row ∷ []) read n short) ∙ get_or_from_slice_get (rows ++ row ∷ []) n read read at in
        h.exact n read (slice_get-get_or rows n read short ∙ ap Some one))
  ];
}

-- The tokens of a row of flags are FIRST of its nonterminal.
pub row_exact : (g : PlainGrammar) (width count : ℕ) (flags : List Bool) (n : ℕ) (row : List ℕ) → All (IsProductionBelow width count) g.productions → n < count → AreFirstFlags g width flags
    → ((a : ℕ) → Contains row a ↔ (get_or (take (n * width + width - n * width) (drop (n * width) flags)) a false ≡ true)) → (a : ℕ) → Contains row a ↔ First g (N n) a
row_exact g width count flags n row r l f e a =
    let size : n * width + width - n * width ≡ width = omega arith in
    elim (cases_lt a width) [
      | inl within ↦ (let at : get_or (take (n * width + width - n * width) (drop (n * width) flags)) a false ≡ flag width flags n a = rw (size, get_or-take width (drop (n * width) flags) a false within) (get_or-drop (n * width) flags a false) in
          ((λ c. (f.exact n a within).0 (sym at ∙ (e a).0 c)), (λ k. (e a).1 (at ∙ (f.exact n a within).1 k))))
      | inr past ↦ (let at : get_or (take (n * width + width - n * width) (drop (n * width) flags)) a false ≡ false = rw size (get_or_past (take width (drop (n * width) flags)) a false (omega (arith, length-take width (drop (n * width) flags)))) in
          ((λ c. absurd (false≢true (sym at ∙ (e a).0 c))), (λ k. absurd (let below : a < width = first-below g width count r a (N n) k l in omega arith))))
    ]

pub flag_within : (flags : List Bool) (a : ℕ) → get_or flags a false ≡ true → a < length flags
flag_within flags a e = elim (cases_lt a (length flags)) [ inl l ↦ l | inr past ↦ absurd (false≢true (sym (get_or_past flags a false past) ∙ e)) ]
