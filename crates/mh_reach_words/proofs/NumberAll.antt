-- Proves that new words are numbered correctly, and that their entries may be appended to the book.
use Rattle.std.proofs.Common.{◌≡◌, ◌∙◌, ℕ, ◌+◌, List, ◌++◌, length, Some, refl, sym, arith}
use Rattle.std.specs.Prelude.{slice_get, IsSome}
use Rattle.std.specs.List.{Contains}
use Rattle.std.proofs.lemmas.Option.{slice_get_within}
use Rattle.mh_grammar.proofs.Lists.{at_contains, contains_at}
use Rattle.mh_reach_words.specs.declared.word_parts.WordParts.{WordParts}
use Rattle.mh_reach_words.specs.declared.word_parts.WordEntry.{WordEntry}
use Rattle.mh_reach_words.specs.declared.numbering.PartialNumbering.{PartialNumbering}
use Rattle.mh_reach_words.specs.code.Words.{HasParts, AreSoundEntries, words_of}
use Rattle.mh_reach_words.specs.code.Numbering.{AreBelowGroup, ArePrefixFree, AreKnown, AreNumbers, IsNumberedUpTo, IsNumberedGroup, IsNumberOf, number_in}
use Rattle.mh_reach_words.specs.code.Sorting.{LexNoLater, HaveSameElements, IsSortOf}
use Rattle.mh_reach_words.proofs.LongerBook.{new_is, new_long, new_word, new_place, new_sound}

module _ (entries : List WordEntry) (group : ℕ) (made distinct ordered : List WordParts) (same : HaveSameElements made distinct) (sorted : IsSortOf (LexNoLater (words_of entries)) distinct ordered) where
  to_ordered : (m : WordParts) → Contains made m → Contains ordered m
  to_ordered m h = sorted.same.kept m (same.kept m h)

  to_made : (m : WordParts) → Contains ordered m → Contains made m
  to_made m h = same.only m (sorted.same.only m h)

  pub ordered_known : AreKnown (words_of entries) made → AreKnown (words_of entries) ordered
  ordered_known known m h = known m (to_made m h)

  pub ordered_prefix_free : ArePrefixFree (words_of entries) made → ArePrefixFree (words_of entries) ordered
  ordered_prefix_free even m o h k = even m o (to_made m h) (to_made o k)

  module _ (given : PartialNumbering) (gives : IsNumberedUpTo entries group ordered (length ordered) given) where
    pub number_of : (m : WordParts) → Contains made m → IsSome (number_in given m)
    number_of m h =
        let at = at_contains ordered m (to_ordered m h) in
        let n = gives.numbers at.0 m (slice_get_within ordered at.0 m at.1) at.1 in
        rw n.1 refl

    abbrev es : List WordEntry
    es = given.entries.items

    module _ (known : AreKnown (words_of entries) made) where
      has : (j : ℕ) (e : WordEntry) → slice_get es j ≡ Some e → Contains made e.made
      has j e at = to_made e.made (gives.made j e at).0

      knows : (j : ℕ) (e : WordEntry) → slice_get es j ≡ Some e → HasParts (words_of entries) e.made
      knows j e at = known e.made (has j e at)

      one : (j : ℕ) (e : WordEntry) → slice_get es j ≡ Some e → e.group ≡ group
      one j e at = (gives.made j e at).1

      module _ (numbers : Rattle.std.specs.Global.Vec ℕ) (sound : AreSoundEntries entries) (below : AreBelowGroup (words_of entries) group) (told : AreNumbers given made numbers.items) where
        number_is : (i : ℕ) (m : WordParts) (n : ℕ) → slice_get made i ≡ Some m → slice_get numbers.items i ≡ Some n → IsNumberOf (words_of entries) (words_of (entries ++ es)) m n
        number_is i m n at there =
            let place = at_contains ordered m (to_ordered m (contains_at made i m at)) in
            let number = gives.numbers place.0 m (slice_get_within ordered place.0 m place.1) place.1 in
            let is : n ≡ length (words_of entries) + number.0 = (let x = told.each i m n at there in let y : Some n ≡ Some (length (words_of entries) + number.0) = sym x ∙ number.1 in cc) in
            let word = new_word entries es group sound below knows one n number.0 number.2.entry is number.2.at in
            record {
              fresh = omega arith;
              known = (let l = slice_get_within es number.0 number.2.entry number.2.at in let long = new_long entries es group sound below knows one in omega arith);
              letters = word.0 ∙ number.2.same;
            }

        pub is_numbered : IsNumberedGroup entries group made (record { entries = given.entries; numbers = numbers })
        is_numbered =
            let new = new_is entries es group sound below knows one in
            record {
              sound = new_sound entries es group sound below knows one gives.rising;
              numbers = record {
                added = new.0;
                grown = new.1;
                groups = λ n le lt. (let p = new_place entries es group sound below knows one n le lt in (new_word entries es group sound below knows one n p.0 p.1 p.2 p.3).1);
                only = λ n le lt. (let p = new_place entries es group sound below knows one n le lt in (p.1.made, has p.0 p.1 p.3, (new_word entries es group sound below knows one n p.0 p.1 p.2 p.3).0));
                len = told.len;
                each = number_is;
              };
            }
