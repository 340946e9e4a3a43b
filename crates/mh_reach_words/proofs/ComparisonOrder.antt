-- Lemmas that turn the result of a comparison into the lexicographic order of the two words.
use Rattle.std.proofs.Common.{◌≡◌, ◌∙◌, ℕ, ◌⊎◌, inl, inr, List, [], ◌∷◌, refl, sym, arith}
use Rattle.std.specs.declared.cmp.Ordering.{Ordering}
use Rattle.std.specs.declared.cmp.Ordering.TheVariants.{Less, Equal, Greater}
use Rattle.mh_grammar.specs.WordOrder.{LexLe}
use Rattle.mh_grammar.proofs.WordOrder.{lex_refl, lex_trans, lex_prefix, lower_or_same}
use Rattle.mh_reach_words.specs.declared.word_parts.WordParts.{WordParts}
use Rattle.mh_reach_words.specs.code.Words.{Words, LessAtDifference, IsProperPrefix, spelled}
use Rattle.mh_reach_words.specs.code.Comparison.{IsComparison}
use Rattle.mh_reach_words.specs.code.Numbering.{AreDifferent}
use Rattle.mh_reach_words.specs.code.Sorting.{LexNoLater}

pub before_no_later : (u v : List ℕ) → LessAtDifference u v → LexLe u v
before_no_later [] v h = absurd h
before_no_later (x ∷ u) [] h = absurd h
before_no_later (x ∷ u) (y ∷ v) (inl lt) = inl lt
before_no_later (x ∷ u) (y ∷ v) (inr h) = inr (h.0, before_no_later u v h.1)

pub before_trans : (u v w : List ℕ) → LessAtDifference u v → LessAtDifference v w → LessAtDifference u w
before_trans [] v w a b = absurd a
before_trans (x ∷ u) [] w a b = absurd a
before_trans (x ∷ u) (y ∷ v) [] a b = absurd b
before_trans (x ∷ u) (y ∷ v) (z ∷ w) a b = lower_or_same x y z (λ p q. before_trans u v w p q) a b

-- The lexicographic order and the order at the first difference do not contradict each other.
before_once : (u v : List ℕ) → LessAtDifference v u → LexLe u v → ⊥
before_once u [] h le = absurd h
before_once [] (y ∷ v) h le = absurd h
before_once (x ∷ u) (y ∷ v) (inl a) (inl b) = omega arith
before_once (x ∷ u) (y ∷ v) (inl a) (inr b) = let e = b.0 in omega arith
before_once (x ∷ u) (y ∷ v) (inr a) (inl b) = let e = a.0 in omega arith
before_once (x ∷ u) (y ∷ v) (inr a) (inr b) = before_once u v a.1 b.1

front_no_later : (u v : List ℕ) → IsProperPrefix u v → LexLe u v
front_no_later u v h = rw h.2 (lex_prefix u (h.0 ∷ h.1))

-- If u comes no later than v, the two differ, and neither is a prefix of the other, u is less at the first difference.
pub apart_before : (u v : List ℕ) → AreDifferent u v → LexLe u v → (IsProperPrefix u v → ⊥) → (IsProperPrefix v u → ⊥) → LessAtDifference u v
apart_before u v (inl (inl h)) le alone none = h
apart_before u v (inl (inr h)) le alone none = absurd (alone h)
apart_before u v (inr (inl h)) le alone none = absurd (before_once u v h le)
apart_before u v (inr (inr h)) le alone none = absurd (none h)

-- The result of comparing two words gives their order.
pub compared_left : (words : Words) (left right : WordParts) (o : Ordering) → IsComparison (spelled words left) (spelled words right) o → (o ≡ Greater → ⊥) → LexNoLater words left right
compared_left words left right Less (inl h) other = before_no_later (spelled words left) (spelled words right) h
compared_left words left right Less (inr h) other = front_no_later (spelled words left) (spelled words right) h
compared_left words left right Equal h other = let e : spelled words left ≡ spelled words right = h in rw e (lex_refl (spelled words right))
compared_left words left right Greater h other = absurd (other refl)

pub compared_no_later : (words : Words) (left right : WordParts) (o : Ordering) → IsComparison (spelled words left) (spelled words right) o → (o ≡ Less) ⊎ (o ≡ Equal) → LexNoLater words left right
compared_no_later words left right o h (inl e) = compared_left words left right o h (λ f. (let y : Less ≡ Greater = sym e ∙ f in cc))
compared_no_later words left right o h (inr e) = compared_left words left right o h (λ f. (let y : Equal ≡ Greater = sym e ∙ f in cc))

pub compared_right : (words : Words) (left right : WordParts) → IsComparison (spelled words left) (spelled words right) Greater → LexNoLater words right left
compared_right words left right (inl h) = before_no_later (spelled words right) (spelled words left) h
compared_right words left right (inr h) = front_no_later (spelled words right) (spelled words left) h

pub no_later_trans : (words : Words) (x y z : WordParts) → LexNoLater words x y → LexNoLater words y z → LexNoLater words x z
no_later_trans words x y z = lex_trans (spelled words x) (spelled words y) (spelled words z)

pub compared_apart : (u v : List ℕ) (o : Ordering) → IsComparison u v o → (o ≡ Equal → ⊥) → AreDifferent u v
compared_apart u v Less h other = inl h
compared_apart u v Equal h other = absurd (other refl)
compared_apart u v Greater h other = inr h

pub compared_differs : (u v : List ℕ) (o : Ordering) → IsComparison u v o → (o ≡ Less) ⊎ (o ≡ Greater) → AreDifferent u v
compared_differs u v o h (inl e) = compared_apart u v o h (λ f. (let y : Less ≡ Equal = sym e ∙ f in cc))
compared_differs u v o h (inr e) = compared_apart u v o h (λ f. (let y : Greater ≡ Equal = sym e ∙ f in cc))
