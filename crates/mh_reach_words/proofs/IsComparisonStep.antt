-- Lemmas on one step of a comparison: the order that the top parts of two words decide.
use Rattle.std.proofs.Common.{◌≡◌, ◌∙◌, ℕ, ◌+◌, ◌<◌, inl, inr, List, [], ◌∷◌, ◌++◌, length, None, Some, Option, refl, ap, sym, arith, append_assoc}
use Rattle.std.specs.declared.cmp.Ordering.{Ordering}
use Rattle.std.specs.declared.cmp.Ordering.TheVariants.{Less, Equal, Greater}
use Rattle.mh_reach_words.specs.declared.word_parts.LastPart.{LastPart}
use Rattle.mh_reach_words.specs.declared.word_parts.LastPart.TheVariants as lasts
use Rattle.mh_reach_words.specs.declared.comparing.Rests.{Rests}
use Rattle.mh_reach_words.specs.declared.word_parts.WordParts.{WordParts}
use Rattle.mh_reach_words.specs.code.Words.{Words, letters_of, word_of_last, spelled, group_of, HasParts, LessAtDifference, IsProperPrefix, InGroups}
use Rattle.mh_reach_words.specs.code.Comparison.{IsComparison, word_of_stack, AreBelow, weight, ReplacesByParts, top_of, AreTops, IsComparisonStep, IsTokenComparison, TakesTop, AreRemainders}
use Rattle.mh_reach_words.proofs.PartStacks.{rest_top, weight_append, weight_top, below_front, below_back, some_part}

-- Lemmas on the order of two words by their first parts.

before_goes : (u v r s : List ℕ) → LessAtDifference u v → LessAtDifference (u ++ r) (v ++ s)
before_goes [] v r s h = absurd h
before_goes (x ∷ u) [] r s h = absurd h
before_goes (x ∷ u) (y ∷ v) r s (inl lt) = inl lt
before_goes (x ∷ u) (y ∷ v) r s (inr h) = inr (h.0, before_goes u v r s h.1)

before_behind : (p u v : List ℕ) → LessAtDifference u v → LessAtDifference (p ++ u) (p ++ v)
before_behind [] u v h = h
before_behind (x ∷ p) u v h = inr (refl, before_behind p u v h)

front_behind : (p u v : List ℕ) → IsProperPrefix u v → IsProperPrefix (p ++ u) (p ++ v)
front_behind p u v h = (h.0, h.1, ap (λ (w : List ℕ). p ++ w) h.2 ∙ sym (append_assoc p u (h.0 ∷ h.1)))

-- A common prefix before two words does not change the result of their comparison.
pub compared_after_prefix : (p u v : List ℕ) (o : Ordering) → IsComparison u v o → IsComparison (p ++ u) (p ++ v) o
compared_after_prefix p u v Less (inl h) = inl (before_behind p u v h)
compared_after_prefix p u v Less (inr h) = inr (front_behind p u v h)
compared_after_prefix p u v Equal h = ap (λ (w : List ℕ). p ++ w) h
compared_after_prefix p u v Greater (inl h) = inl (before_behind p v u h)
compared_after_prefix p u v Greater (inr h) = inr (front_behind p v u h)

pub compared_is : (u v a b : List ℕ) (o : Ordering) → u ≡ a → v ≡ b → IsComparison a b o → IsComparison u v o
compared_is u v a b o e f h = rw (e, f) h

module _ (words : Words) (old : Rests) where
  -- The case where one word has ended.

  none_left : (ps : List LastPart) → ps ≡ [] → word_of_stack words (ps ++ []) ≡ []
  none_left ps e = rw e refl

  pub left_ends : (x : ℕ) → AreTops words old None (Some (lasts.Token x)) → IsComparisonStep words old old None (Some (lasts.Token x)) (Some Less)
  left_ends x tops = inr (x, word_of_stack words old.right.items, rw (none_left old.left.items (tops.left_ends refl)) (rest_top words old.right.items (lasts.Token x)))

  pub right_ends : (x : ℕ) → AreTops words old (Some (lasts.Token x)) None → IsComparisonStep words old old (Some (lasts.Token x)) None (Some Greater)
  right_ends x tops = inr (x, word_of_stack words old.left.items, rw (none_left old.right.items (tops.right_ends refl)) (rest_top words old.left.items (lasts.Token x)))

  -- The case of equal top parts.

  pub same_parts : (p q : LastPart) → p ≡ q → AreTops words old (Some p) (Some q) → IsComparisonStep words old old (Some p) (Some q) None
  same_parts p q e tops = record {
    prefix = word_of_last words p;
    left_is = rest_top words old.left.items p;
    right_is = rest_top words old.right.items q ∙ ap (λ (r : LastPart). word_of_last words r ++ word_of_stack words old.right.items) (sym e);
    left_below = below_front (length words) old.left.items (p ∷ []) tops.left_below;
    right_below = below_front (length words) old.right.items (q ∷ []) tops.right_below;
    smaller = (let a = weight_append old.left.items (p ∷ []) in let b = weight_append old.right.items (q ∷ []) in let some = some_part p in omega arith);
  }

  -- Two top tokens, or two top words of one group, are compared by their numbers.

  pub tokens_compared : (x y : ℕ) (o : Option Ordering) → IsTokenComparison x y o → AreTops words old (Some (lasts.Token x)) (Some (lasts.Token y)) → IsComparisonStep words old old (Some (lasts.Token x)) (Some (lasts.Token y)) o
  tokens_compared x y None e tops = same_parts (lasts.Token x) (lasts.Token y) (ap lasts.Token e) tops
  tokens_compared x y (Some Less) lt tops = inl (rw (rest_top words old.left.items (lasts.Token x), rest_top words old.right.items (lasts.Token y)) (inl lt))
  tokens_compared x y (Some Equal) none tops = absurd none
  tokens_compared x y (Some Greater) lt tops = inl (rw (rest_top words old.left.items (lasts.Token x), rest_top words old.right.items (lasts.Token y)) (inl lt))

  module _ (n m : ℕ) (groups : InGroups words) (tops : AreTops words old (Some (lasts.Word n)) (Some (lasts.Word m))) (same : group_of words n ≡ group_of words m) where
    pub left_known : n < length words
    left_known = (below_back (length words) old.left.items (lasts.Word n ∷ []) tops.left_below).0

    pub right_known : m < length words
    right_known = (below_back (length words) old.right.items (lasts.Word m ∷ []) tops.right_below).0

    pub left_first : n < m → IsComparisonStep words old old (Some (lasts.Word n)) (Some (lasts.Word m)) (Some Less)
    left_first lt =
        let h = (groups n m lt right_known).1 same in
        inl (rw (rest_top words old.left.items (lasts.Word n), rest_top words old.right.items (lasts.Word m)) (before_goes (letters_of words n) (letters_of words m) (word_of_stack words old.left.items) (word_of_stack words old.right.items) h))

    pub right_first : m < n → IsComparisonStep words old old (Some (lasts.Word n)) (Some (lasts.Word m)) (Some Greater)
    right_first lt =
        let h = (groups m n lt left_known).1 (sym same) in
        inl (rw (rest_top words old.left.items (lasts.Word n), rest_top words old.right.items (lasts.Word m)) (before_goes (letters_of words m) (letters_of words n) (word_of_stack words old.right.items) (word_of_stack words old.left.items) h))

  -- The case where a word is replaced by its parts.

  pub left_word_known : (n : ℕ) (right : Option LastPart) → AreTops words old (Some (lasts.Word n)) right → n < length words
  left_word_known n right tops = (below_back (length words) old.left.items (lasts.Word n ∷ []) tops.left_below).0

  pub right_word_known : (n : ℕ) (left : Option LastPart) → AreTops words old left (Some (lasts.Word n)) → n < length words
  right_word_known n left tops = (below_back (length words) old.right.items (lasts.Word n ∷ []) tops.right_below).0

  pub right_opened : (new : Rests) (left : Option LastPart) (n : ℕ) → AreTops words old left (Some (lasts.Word n)) → new.left.items ≡ old.left.items ++ top_of left → ReplacesByParts words n old.right.items new.right.items → IsComparisonStep words old new left (Some (lasts.Word n)) None
  right_opened new left n tops back opens = record {
    prefix = [];
    left_is = ap (λ (ps : List LastPart). word_of_stack words ps) (sym back);
    right_is = rest_top words old.right.items (lasts.Word n) ∙ sym opens.spelled;
    left_below = rw back tops.left_below;
    right_below = opens.below (below_front (length words) old.right.items (lasts.Word n ∷ []) tops.right_below);
    smaller = (let a = ap (λ (ps : List LastPart). weight ps) back in let b = weight_top old.right.items (lasts.Word n) in let c = opens.smaller in omega arith);
  }

  pub left_opened : (new : Rests) (n : ℕ) (right : Option LastPart) → AreTops words old (Some (lasts.Word n)) right → new.right.items ≡ old.right.items ++ top_of right → ReplacesByParts words n old.left.items new.left.items → IsComparisonStep words old new (Some (lasts.Word n)) right None
  left_opened new n right tops back opens = record {
    prefix = [];
    left_is = rest_top words old.left.items (lasts.Word n) ∙ sym opens.spelled;
    right_is = ap (λ (ps : List LastPart). word_of_stack words ps) (sym back);
    left_below = opens.below (below_front (length words) old.left.items (lasts.Word n ∷ []) tops.left_below);
    right_below = rw back tops.right_below;
    smaller = (let a = ap (λ (ps : List LastPart). weight ps) back in let b = weight_top old.left.items (lasts.Word n) in let c = opens.smaller in omega arith);
  }

-- Lemmas on the whole comparison of two words.

-- The parts of a word spell the word.
pub parts_spell : (words : Words) (m : WordParts) (none parts : List LastPart) → none ≡ [] → parts ≡ (none ++ m.last ∷ []) ++ lasts.Word m.front ∷ [] → word_of_stack words parts ≡ spelled words m
parts_spell words m none parts e is = rw (is, e) refl

parts_below : (words : Words) (m : WordParts) (none parts : List LastPart) → none ≡ [] → parts ≡ (none ++ m.last ∷ []) ++ lasts.Word m.front ∷ [] → HasParts words m → AreBelow (length words) parts
parts_below words m none parts e is known = rw (is, e) (known.1, (known.0, tt))

pub remainders_begin : (words : Words) (left right : WordParts) (none none' : List LastPart) (rests : Rests) → none ≡ [] → none' ≡ [] → rests.left.items ≡ (none ++ left.last ∷ []) ++ lasts.Word left.front ∷ [] →
    rests.right.items ≡ (none' ++ right.last ∷ []) ++ lasts.Word right.front ∷ [] → HasParts words left → HasParts words right → AreRemainders words rests (spelled words left) (spelled words right)
remainders_begin words left right none none' rests e f l r known known' = record {
  prefix = [];
  left_is = sym (parts_spell words left none rests.left.items e l);
  right_is = sym (parts_spell words right none' rests.right.items f r);
  left_below = parts_below words left none rests.left.items e l known;
  right_below = parts_below words right none' rests.right.items f r known';
}

-- A stack is its top part on the rest.
top_is : (old new : List LastPart) (p : Option LastPart) → TakesTop old new p → old ≡ new ++ top_of p
top_is old new None h = h.0 ∙ sym (ap (λ (ps : List LastPart). ps ++ []) h.1)
top_is old new (Some p) h = h

top_ends : (old new : List LastPart) (p : Option LastPart) → TakesTop old new p → p ≡ None → new ≡ []
top_ends old new None h e = h.1
top_ends old new (Some p) h e = absurd (let y : Some p ≡ None = e in cc)

pub are_tops : (words : Words) (rests mid : Rests) (left right : Option LastPart) (u v : List ℕ) → AreRemainders words rests u v → TakesTop rests.left.items mid.left.items left → TakesTop rests.right.items mid.right.items right → AreTops words mid left right
are_tops words rests mid left right u v shares l r =
    let e = top_is rests.left.items mid.left.items left l in
    let f = top_is rests.right.items mid.right.items right r in
    record {
      left_ends = top_ends rests.left.items mid.left.items left l;
      right_ends = top_ends rests.right.items mid.right.items right r;
      left_below = rw e at shares.left_below;
      right_below = rw f at shares.right_below;
    }

module _ (words : Words) (u v : List ℕ) (rests mid : Rests) (left right : Option LastPart) (shares : AreRemainders words rests u v) (left_taken : TakesTop rests.left.items mid.left.items left) (right_taken : TakesTop rests.right.items mid.right.items right) where
  left_top : rests.left.items ≡ mid.left.items ++ top_of left
  left_top = top_is rests.left.items mid.left.items left left_taken

  right_top : rests.right.items ≡ mid.right.items ++ top_of right
  right_top = top_is rests.right.items mid.right.items right right_taken

  pub comparison_decides : (new : Rests) (o : Ordering) → IsComparisonStep words mid new left right (Some o) → IsComparison u v o
  comparison_decides new o turns =
      compared_is u v (shares.prefix ++ word_of_stack words rests.left.items) (shares.prefix ++ word_of_stack words rests.right.items) o shares.left_is shares.right_is
      (compared_after_prefix shares.prefix (word_of_stack words rests.left.items) (word_of_stack words rests.right.items) o (rw (left_top, right_top) turns))

  pub remainders_kept : (new : Rests) → IsComparisonStep words mid new left right None → AreRemainders words new u v
  remainders_kept new goes = record {
    prefix = shares.prefix ++ goes.prefix;
    left_is = shares.left_is ∙ ap (λ (ps : List LastPart). shares.prefix ++ word_of_stack words ps) left_top ∙ ap (λ (w : List ℕ). shares.prefix ++ w) goes.left_is ∙ sym (append_assoc shares.prefix goes.prefix (word_of_stack words new.left.items));
    right_is = shares.right_is ∙ ap (λ (ps : List LastPart). shares.prefix ++ word_of_stack words ps) right_top ∙ ap (λ (w : List ℕ). shares.prefix ++ w) goes.right_is ∙ sym (append_assoc shares.prefix goes.prefix (word_of_stack words new.right.items));
    left_below = goes.left_below;
    right_below = goes.right_below;
  }

  pub weight_less : (new : Rests) → IsComparisonStep words mid new left right None → weight new.left.items + weight new.right.items < weight rests.left.items + weight rests.right.items
  weight_less new goes = let a = ap (λ (ps : List LastPart). weight ps) left_top in let b = ap (λ (ps : List LastPart). weight ps) right_top in let c = goes.smaller in omega arith
