-- Lemmas on books to which entries are appended: the words that a book has stay.
use Rattle.std.proofs.Common.{◌≡◌, ◌∙◌, ℕ, zero, suc, ◌+◌, ◌-◌, ◌<◌, ◌≤◌, ◌⊎◌, inl, inr, List, [], ◌∷◌, ◌++◌, length, None, Some, Option, refl, ap, sym, arith, append_assoc}
use Rattle.std.specs.Prelude.{slice_get}
use Rattle.std.proofs.lemmas.List.{append-nil, length_push, length-append}
use Rattle.mh_grammar.proofs.Lists.{get_within}
use Rattle.mh_reach_words.specs.declared.word_parts.LastPart.{LastPart}
use Rattle.mh_reach_words.specs.declared.word_parts.LastPart.TheVariants as lasts
use Rattle.mh_reach_words.specs.declared.word_parts.WordParts.{WordParts}
use Rattle.mh_reach_words.specs.declared.word_parts.WordEntry.{WordEntry}
use Rattle.mh_reach_words.specs.code.Words.{GroupedWord, Words, letters_in, group_in, letters_of, group_of, word_of_last, spelled, IsLastBelow, IsMadeBelow, HasParts, LessAtDifference, InGroups, IsBook, word_of, grown, empty_word, words_of, AreSoundEntries}
use Rattle.mh_reach_words.specs.code.Comparison.{IsEntryOf}
use Rattle.mh_reach_words.specs.code.Numbering.{AreBelowGroup}

-- Indices in two lists that are appended.

at_left : (xs ys : Words) (n : ℕ) → n < length xs → slice_get (xs ++ ys) n ≡ slice_get xs n
at_left [] ys n lt = absurd (omega arith)
at_left (x ∷ xs) ys zero lt = refl
at_left (x ∷ xs) ys (suc n) lt = at_left xs ys n (omega arith)

at_end : (xs : Words) (y : GroupedWord) (ys : Words) → slice_get ((xs ++ y ∷ []) ++ ys) (length xs) ≡ Some y
at_end [] y ys = refl
at_end (x ∷ xs) y ys = at_end xs y ys

-- Words of a book stay when words are appended.

pub letters_kept : (words more : Words) (n : ℕ) → n < length words → letters_of (words ++ more) n ≡ letters_of words n
letters_kept words more n lt = ap letters_in (at_left words more n lt)

pub group_kept : (words more : Words) (n : ℕ) → n < length words → group_of (words ++ more) n ≡ group_of words n
group_kept words more n lt = ap group_in (at_left words more n lt)

last_kept : (words more : Words) (p : LastPart) → IsLastBelow (length words) p → word_of_last (words ++ more) p ≡ word_of_last words p
last_kept words more (lasts.Token x) h = refl
last_kept words more (lasts.Word n) h = letters_kept words more n h

-- Parts spell the same word in a longer book.
pub spelled_kept : (words more : Words) (m : WordParts) → HasParts words m → spelled (words ++ more) m ≡ spelled words m
spelled_kept words more m h = let e = letters_kept words more m.front h.0 in let f = last_kept words more m.last h.1 in rw (e, f) refl

last_below : (n k : ℕ) (p : LastPart) → n ≤ k → IsLastBelow n p → IsLastBelow k p
last_below n k (lasts.Token x) le h = tt
last_below n k (lasts.Word m) le h = omega arith

pub made_below : (n k : ℕ) (m : WordParts) → n ≤ k → IsMadeBelow n m → IsMadeBelow k m
made_below n k m le h = ((let lt = h.0 in omega arith), last_below n k m.last le h.1)

-- Entries and their words.

-- Appended entries append one word each.
pub grown_is : (words : Words) (es : List WordEntry) → (more : Words) × (grown words es ≡ words ++ more) × (length more ≡ length es)
grown_is words [] = ([], sym (append-nil words), refl)
grown_is words (e ∷ es) =
    let h = grown_is (words ++ word_of words e ∷ []) es in
    (word_of words e ∷ h.0, h.1 ∙ append_assoc words (word_of words e ∷ []) h.0, (let l = h.2 in omega arith))

pub grown_long : (words : Words) (es : List WordEntry) → length (grown words es) ≡ length words + length es
grown_long words es = let h = grown_is words es in ap (λ (ws : Words). length ws) h.1 ∙ (let l = h.2 in let s = length-append words h.0 in omega arith)

pub grown_append : (words : Words) (xs ys : List WordEntry) → grown words (xs ++ ys) ≡ grown (grown words xs) ys
grown_append words [] ys = refl
grown_append words (x ∷ xs) ys = grown_append (words ++ word_of words x ∷ []) xs ys

-- The word of the entry at an index is spelled by the parts of the entry.
entry_word : (words : Words) (es : List WordEntry) (i : ℕ) (e : WordEntry) → slice_get es i ≡ Some e → IsMadeBelow (length words + i) e.made →
    slice_get (grown words es) (length words + i) ≡ Some (record { letters = spelled (grown words es) e.made; group = e.group })
entry_word words [] i e at below = absurd (let y : None ≡ Some e = at in cc)
entry_word words (d ∷ es) zero e at below =
    let same : d ≡ e = (let y : Some d ≡ Some e = at in cc) in
    let n : length words + 0 ≡ length words = omega arith in
    let h = grown_is (words ++ word_of words e ∷ []) es in
    let known : HasParts words e.made = rw n at below in
    let wider : HasParts (words ++ word_of words e ∷ []) e.made = made_below (length words) (length (words ++ word_of words e ∷ [])) e.made (let l = length_push words (word_of words e) in omega arith) known in
    let stays : spelled (grown (words ++ word_of words e ∷ []) es) e.made ≡ spelled words e.made =
    ap (λ (ws : Words). spelled ws e.made) h.1 ∙ spelled_kept (words ++ word_of words e ∷ []) h.0 e.made wider ∙ spelled_kept words (word_of words e ∷ []) e.made known in
    rw (same, n, stays) (rw h.1 (at_end words (word_of words e) h.0))
entry_word words (d ∷ es) (suc i) e at below =
    let n : length words + suc i ≡ length (words ++ word_of words d ∷ []) + i = (let l = length_push words (word_of words d) in omega arith) in
    rw n (entry_word (words ++ word_of words d ∷ []) es i e at (rw n at below))

-- The word of the number n is spelled by the parts of the entry e and is in its group.
pub record IsWordOf (words : Words) (n : ℕ) (e : WordEntry) : Type 0 where
  pub letters : letters_of words n ≡ spelled words e.made
  pub group : group_of words n ≡ e.group
  pub below : IsMadeBelow n e.made

pub word_at : (entries : List WordEntry) (n i : ℕ) (e : WordEntry) → AreSoundEntries entries → n ≡ suc i → slice_get entries i ≡ Some e → IsWordOf (words_of entries) n e
word_at entries n i e sound is at =
    let one : n ≡ 1 + i = omega arith in
    let below : IsMadeBelow n e.made = rw is (sound.parts i e at) in
    let h = entry_word (empty_word ∷ []) entries i e at (rw one at below) in
    let g : slice_get (words_of entries) n ≡ Some (record { letters = spelled (words_of entries) e.made; group = e.group }) = rw one h in
    record { letters = ap letters_in g; group = ap group_in g; below = below }

first_word : (entries : List WordEntry) → slice_get (words_of entries) 0 ≡ Some empty_word
first_word entries = let h = grown_is (empty_word ∷ []) entries in rw h.1 refl

pub empty_letters : (entries : List WordEntry) → letters_of (words_of entries) 0 ≡ []
empty_letters entries = ap letters_in (first_word entries)

pub empty_group : (entries : List WordEntry) → group_of (words_of entries) 0 ≡ 0
empty_group entries = ap group_in (first_word entries)

pub words_long : (entries : List WordEntry) → length (words_of entries) ≡ suc (length entries)
words_long entries = let h = grown_long (empty_word ∷ []) entries in omega arith

-- The group of the word of an entry is the group of the entry, whether or not the parts are in the book.
group_word : (words : Words) (es : List WordEntry) (i : ℕ) (e : WordEntry) → slice_get es i ≡ Some e → group_of (grown words es) (length words + i) ≡ e.group
group_word words [] i e at = absurd (let y : None ≡ Some e = at in cc)
group_word words (d ∷ es) zero e at =
    let same : d ≡ e = (let y : Some d ≡ Some e = at in cc) in
    let n : length words + 0 ≡ length words = omega arith in
    let h = grown_is (words ++ word_of words e ∷ []) es in
    rw (same, n) (rw h.1 (ap group_in (at_end words (word_of words e) h.0)))
group_word words (d ∷ es) (suc i) e at =
    let n : length words + suc i ≡ length (words ++ word_of words d ∷ []) + i = (let l = length_push words (word_of words d) in omega arith) in
    rw n (group_word (words ++ word_of words d ∷ []) es i e at)

pub entry_group : (entries : List WordEntry) (n i : ℕ) (e : WordEntry) → n ≡ suc i → slice_get entries i ≡ Some e → group_of (words_of entries) n ≡ e.group
entry_group entries n i e is at = let one : n ≡ 1 + i = omega arith in rw one (group_word (empty_word ∷ []) entries i e at)

-- Each word but the empty one has an entry.
pub entry_found : (entries : List WordEntry) (n : ℕ) (o : Option WordEntry) → (n ≡ 0 → ⊥) → n < length (words_of entries) → o ≡ slice_get entries (n - 1) → IsEntryOf entries n o
entry_found entries zero o apart lt is = absurd (apart refl)
entry_found entries (suc i) None apart lt is =
    let long = words_long entries in
    let n : suc i - 1 ≡ i = omega arith in
    let at = get_within entries i (omega arith) in
    absurd (let y : None ≡ Some at.0 = is ∙ ap (λ (k : ℕ). slice_get entries k) n ∙ at.1 in cc)
entry_found entries (suc i) (Some e) apart lt is = let n : suc i - 1 ≡ i = omega arith in (i, refl, ap (λ (k : ℕ). slice_get entries k) (sym n) ∙ sym is)

pub is_book : (entries : List WordEntry) → AreSoundEntries entries → IsBook (words_of entries)
is_book entries sound = record { some = (let h = words_long entries in omega arith); empty = empty_letters entries; free = empty_group entries; groups = sound.groups }

-- The words that are new in a longer book.

below_or : (n k : ℕ) → (n < k) ⊎ ((j : ℕ) × (n ≡ k + j))
below_or n zero = inr (n, omega arith)
below_or zero (suc k) = inl (omega arith)
below_or (suc n) (suc k) = elim (below_or n k) [ inl lt ↦ inl (omega arith) | inr h ↦ inr (h.0, (let e = h.1 in omega arith)) ]

get_either : (xs ys : List WordEntry) (i : ℕ) (e : WordEntry) → slice_get (xs ++ ys) i ≡ Some e → (slice_get xs i ≡ Some e) ⊎ ((j : ℕ) × (i ≡ length xs + j) × (slice_get ys j ≡ Some e))
get_either [] ys i e at = inr (i, omega arith, at)
get_either (x ∷ xs) ys zero e at = inl at
get_either (x ∷ xs) ys (suc i) e at = elim (get_either xs ys i e at) [ inl was ↦ inl was | inr h ↦ inr (h.0, (let f = h.1 in omega arith), h.2) ]

module _ (entries es : List WordEntry) (group : ℕ) (sound : AreSoundEntries entries) (below : AreBelowGroup (words_of entries) group) (known : (j : ℕ) (e : WordEntry) → slice_get es j ≡ Some e → HasParts (words_of entries) e.made) (one : (j : ℕ) (e : WordEntry) → slice_get es j ≡ Some e → e.group ≡ group) where
  abbrev old : Words
  old = words_of entries

  abbrev new : Words
  new = words_of (entries ++ es)

  pub new_is : (more : Words) × (new ≡ old ++ more) × (length more ≡ length es)
  new_is = let h = grown_is old es in (h.0, grown_append (empty_word ∷ []) entries es ∙ h.1, h.2)

  pub new_long : length new ≡ length old + length es
  new_long = ap (λ (ws : Words). length ws) (grown_append (empty_word ∷ []) entries es) ∙ grown_long old es

  -- Each new number has the word of its entry, and the given group.
  pub new_word : (n j : ℕ) (e : WordEntry) → n ≡ length old + j → slice_get es j ≡ Some e → (letters_of new n ≡ spelled old e.made) × (group_of new n ≡ group)
  new_word n j e is at =
      let has = known j e at in
      let h = entry_word old es j e at (made_below (length old) (length old + j) e.made (omega arith) has) in
      let k = grown_is old es in
      let stays : spelled (grown old es) e.made ≡ spelled old e.made = ap (λ (ws : Words). spelled ws e.made) k.1 ∙ spelled_kept old k.0 e.made has in
      let same = grown_append (empty_word ∷ []) entries es in
      let where' : slice_get new n ≡ slice_get (grown old es) (length old + j) = rw (same, is) refl in
      (ap letters_in (where' ∙ h) ∙ stays, ap group_in (where' ∙ h) ∙ one j e at)

  pub new_place : (n : ℕ) → length old ≤ n → n < length new → (j : ℕ) × (e : WordEntry) × (n ≡ length old + j) × (slice_get es j ≡ Some e)
  new_place n le lt = elim (below_or n (length old)) [
    | inl less ↦ absurd (omega arith)
    | inr h ↦ (let long = new_long in let is = h.1 in let at = get_within es h.0 (omega arith) in (h.0, at.0, h.1, at.1))
  ]

  old_letters : (n : ℕ) → n < length old → letters_of new n ≡ letters_of old n
  old_letters n lt = let h = new_is in ap (λ (ws : Words). letters_of ws n) h.1 ∙ letters_kept old h.0 n lt

  old_group : (n : ℕ) → n < length old → group_of new n ≡ group_of old n
  old_group n lt = let h = new_is in ap (λ (ws : Words). group_of ws n) h.1 ∙ group_kept old h.0 n lt

  module _ (rising : (j k : ℕ) (d e : WordEntry) → j < k → slice_get es j ≡ Some d → slice_get es k ≡ Some e → LessAtDifference (spelled old d.made) (spelled old e.made)) where
    new_groups : InGroups new
    new_groups n m lt less = by (below_or n (length old)) (below_or m (length old))
      where
        by : (n < length old) ⊎ ((j : ℕ) × (n ≡ length old + j)) → (m < length old) ⊎ ((k : ℕ) × (m ≡ length old + k)) → (group_of new n ≤ group_of new m) × (group_of new n ≡ group_of new m → LessAtDifference (letters_of new n) (letters_of new m))
        by (inl a) (inl b) = rw (old_letters n a, old_letters m b, old_group n a, old_group m b) (sound.groups n m lt b)
        by (inl a) (inr k) =
            let p = new_place m (let e = k.1 in omega arith) less in
            let g = (new_word m p.0 p.1 p.2 p.3).1 in
            let f = old_group n a in
            let l = below n a in
            (omega arith, λ e. absurd (omega arith))
        by (inr j) (inl b) = absurd (let e = j.1 in omega arith)
        by (inr j) (inr k) =
            let p = new_place n (let e = j.1 in omega arith) (omega arith) in
            let q = new_place m (let e = k.1 in omega arith) less in
            let a = new_word n p.0 p.1 p.2 p.3 in
            let b = new_word m q.0 q.1 q.2 q.3 in
            let c = a.1 in
            let d = b.1 in
            let before = rising p.0 q.0 p.1 q.1 (let e = p.2 in let f = q.2 in omega arith) p.3 q.3 in
            (omega arith, λ e. rw (a.0, b.0) before)

    pub new_sound : AreSoundEntries (entries ++ es)
    new_sound = record {
      parts = λ i e at. elim (get_either entries es i e at) [
        | inl was ↦ sound.parts i e was
        | inr h ↦ (let long = words_long entries in let is = h.1 in made_below (length old) (suc i) e.made (omega arith) (known h.0 e h.2))
      ];
      groups = new_groups;
    }
