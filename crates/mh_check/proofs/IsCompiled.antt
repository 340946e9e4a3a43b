-- Lemmas on the sentences of a file with their entries, and on the messages of the states.
use Rattle.std.proofs.Common.{◌≡◌, ℕ, zero, suc, ◌+◌, ◌<◌, ◌≤◌, List, [], ◌∷◌, ◌++◌, map, flat_map, length, take, drop, Option, None, Some, option_map, option_and_then, get_or, refl, sym, ◌∙◌, ap, subst, arith, inl, inr, append_assoc, append-nil, add-one, take_all}
use Rattle.std.specs.List.{slice_get, Contains}
use Rattle.std.specs.Prelude.{MatchOption}
use Rattle.std.specs.Borrow.{Bor}
use Rattle.std.proofs.lemmas.List.{map-append, length-map, length-take-le}
use Rattle.std.proofs.Math.Seq.{take-suc}
use Rattle.std.proofs.lemmas.Option.{slice_get-map}
use Rattle.std.proofs.lemmas.List.Elements.{Contains-append_left, Contains-append_right, Contains-append_cases}
use Rattle.mh_grammar.proofs.Lists.{contains_none, contains_at, at_contains, contains_there, contains_here, contains_cases, split_at}
use Rattle.mh_tables_core.specs.Table.{TableData}
use Rattle.mh_msgfile.specs.declared.messages.MsgSentence.{MsgSentence}
use Rattle.mh_msgfile.specs.declared.messages.Entry.{Entry}
use Rattle.mh_msgfile.specs.declared.messages.MsgFile.{MsgFile}
use Rattle.mh_check.specs.declared.places.SentencePlace.{SentencePlace}
use Rattle.mh_check.specs.Checks.{Sound, IsMessage, sentences_of}
use Rattle.mh_check.specs.Compiling.{message_at, itself, IsCompiled}
use Rattle.mh_check.specs.code.Places.{EntrySentence, entry_sentence, sentences_of_entry, sentences_of_entries, without_entries, place_of, ArePlaces, message_of_place, place_in, same_place}

-- ---- One more entry.

pub items_push : (entry : ℕ) (xs : List MsgSentence) (i : ℕ) (x : MsgSentence) → i < length xs → x ≡ get_or xs i x → sentences_of_entry entry (take (i + 1) xs) ≡ sentences_of_entry entry (take i xs) ++ entry_sentence entry x ∷ []
items_push entry xs i x lt is =
    ap (λ (k : ℕ). sentences_of_entry entry (take k xs)) (add-one i) ∙ ap (sentences_of_entry entry) (take-suc xs i x lt ∙ ap (λ (y : MsgSentence). take i xs ++ y ∷ []) (sym is)) ∙ map-append (entry_sentence entry) (take i xs) (x ∷ [])

items_last : (k : ℕ) (es : List Entry) (e : Entry) → sentences_of_entries k (es ++ e ∷ []) ≡ sentences_of_entries k es ++ sentences_of_entry (k + length es) e.sentences
items_last k [] e = append-nil (sentences_of_entry k e.sentences) ∙ ap (λ (n : ℕ). sentences_of_entry n e.sentences) (omega arith)
items_last k (f ∷ es) e =
    ap (λ (l : List EntrySentence). sentences_of_entry k f.sentences ++ l) (items_last (k + 1) es e ∙ ap (λ (n : ℕ). sentences_of_entries (k + 1) es ++ sentences_of_entry n e.sentences) (same k (length es)))
    ∙ sym (append_assoc (sentences_of_entry k f.sentences) (sentences_of_entries (k + 1) es) (sentences_of_entry (k + length (f ∷ es)) e.sentences))
  where
    same : (a b : ℕ) → a + 1 + b ≡ a + suc b
    same a b = omega arith

pub entries_push : (es : List Entry) (i : ℕ) (e : Entry) → i < length es → e ≡ get_or es i e → sentences_of_entries 0 (take (i + 1) es) ≡ sentences_of_entries 0 (take i es) ++ sentences_of_entry i e.sentences
entries_push es i e lt is =
    ap (λ (k : ℕ). sentences_of_entries 0 (take k es)) (add-one i) ∙ ap (sentences_of_entries 0) (take-suc es i e lt ∙ ap (λ (y : Entry). take i es ++ y ∷ []) (sym is))
    ∙ items_last 0 (take i es) e ∙ ap (λ (n : ℕ). sentences_of_entries 0 (take i es) ++ sentences_of_entry n e.sentences) (count es i lt)
  where
    count : (es : List Entry) (i : ℕ) → i < length es → 0 + length (take i es) ≡ i
    count es i lt = let l : length (take i es) ≡ i = length-take-le i es (omega arith) in omega (arith, l)

items_both : (k : ℕ) (xs ys : List Entry) → sentences_of_entries k (xs ++ ys) ≡ sentences_of_entries k xs ++ sentences_of_entries (k + length xs) ys
items_both k [] ys = ap (λ (n : ℕ). sentences_of_entries n ys) (omega arith)
items_both k (e ∷ xs) ys =
    ap (λ (l : List EntrySentence). sentences_of_entry k e.sentences ++ l) (items_both (k + 1) xs ys ∙ ap (λ (n : ℕ). sentences_of_entries (k + 1) xs ++ sentences_of_entries n ys) (same k (length xs)))
    ∙ sym (append_assoc (sentences_of_entry k e.sentences) (sentences_of_entries (k + 1) xs) (sentences_of_entries (k + length (e ∷ xs)) ys))
  where
    same : (a b : ℕ) → a + 1 + b ≡ a + suc b
    same a b = omega arith

-- The sentences of an entry are those up to index i and those after it.
pub sentence_split : (done : List EntrySentence) (entry : ℕ) (xs : List MsgSentence) (i : ℕ) (x : MsgSentence) → i < length xs → x ≡ get_or xs i x
    → ((done ++ sentences_of_entry entry (take i xs)) ++ entry_sentence entry x ∷ []) ++ sentences_of_entry entry (drop (i + 1) xs) ≡ done ++ sentences_of_entry entry xs
sentence_split done entry xs i x lt is =
    regroup done (sentences_of_entry entry (take i xs)) (entry_sentence entry x) (sentences_of_entry entry (drop (i + 1) xs))
    ∙ ap (λ (l : List EntrySentence). done ++ l) (sym (map-append (entry_sentence entry) (take i xs) (x ∷ drop (i + 1) xs)) ∙ ap (sentences_of_entry entry) (ap (λ (k : ℕ). take i xs ++ x ∷ drop k xs) (add-one i) ∙ sym (split_at xs i x lt is)))
  where
    regroup : (a b : List EntrySentence) (y : EntrySentence) (c : List EntrySentence) → ((a ++ b) ++ y ∷ []) ++ c ≡ a ++ (b ++ y ∷ c)
    regroup a b y c = simp append_assoc

-- The places of the first i sentences of an entry: at the beginning, after one more, and at the end.
module _ (t : TableData) (done : List EntrySentence) (entry : ℕ) (xs : List MsgSentence) where
  pub none_placed : (places : List (Option SentencePlace)) → ArePlaces t done places → ArePlaces t (done ++ sentences_of_entry entry (take 0 xs)) places
  none_placed places h = subst (λ (l : List EntrySentence). ArePlaces t l places) (sym (append-nil done)) h

  pub one_placed : (i : ℕ) (x : MsgSentence) (places : List (Option SentencePlace)) → i < length xs → x ≡ get_or xs i x → ArePlaces t ((done ++ sentences_of_entry entry (take i xs)) ++ entry_sentence entry x ∷ []) places → ArePlaces t (done ++ sentences_of_entry entry (take (i + 1) xs)) places
  one_placed i x places lt is h =
      subst (λ (l : List EntrySentence). ArePlaces t l places) (append_assoc done (sentences_of_entry entry (take i xs)) (entry_sentence entry x ∷ []) ∙ ap (λ (l : List EntrySentence). done ++ l) (sym (items_push entry xs i x lt is))) h

  pub all_placed : (i : ℕ) (places : List (Option SentencePlace)) → length xs ≤ i → ArePlaces t (done ++ sentences_of_entry entry (take i xs)) places → ArePlaces t (done ++ sentences_of_entry entry xs) places
  all_placed i places past h = subst (λ (l : List MsgSentence). ArePlaces t (done ++ sentences_of_entry entry l) places) (take_all i xs past) h

-- The sentences of all entries are those up to entry i and those after it.
pub entry_split : (es : List Entry) (i : ℕ) (e : Entry) → i < length es → e ≡ get_or es i e
    → (sentences_of_entries 0 (take i es) ++ sentences_of_entry i e.sentences) ++ sentences_of_entries (i + 1) (drop (i + 1) es) ≡ sentences_of_entries 0 es
entry_split es i e lt is =
    append_assoc (sentences_of_entries 0 (take i es)) (sentences_of_entry i e.sentences) (sentences_of_entries (i + 1) (drop (i + 1) es))
    ∙ ap (λ (n : ℕ). sentences_of_entries 0 (take i es) ++ sentences_of_entries n (e ∷ drop (i + 1) es)) (sym count)
    ∙ sym (items_both 0 (take i es) (e ∷ drop (i + 1) es)) ∙ ap (sentences_of_entries 0) (ap (λ (k : ℕ). take i es ++ e ∷ drop k es) (add-one i) ∙ sym (split_at es i e lt is))
  where
    count : 0 + length (take i es) ≡ i
    count = let l : length (take i es) ≡ i = length-take-le i es (omega arith) in omega (arith, l)

-- ---- The sentences with their entries, taken without the entries, are the sentences of the file.

sentences_of_items : (entry : ℕ) (xs : List MsgSentence) → without_entries (sentences_of_entry entry xs) ≡ xs
sentences_of_items entry [] = refl
sentences_of_items entry (x ∷ xs) = ap (λ (l : List MsgSentence). x ∷ l) (sentences_of_items entry xs)

sentences_from : (k : ℕ) (es : List Entry) → without_entries (sentences_of_entries k es) ≡ flat_map (λ (e : Entry). e.sentences) es
sentences_from k [] = refl
sentences_from k (e ∷ es) =
    map-append (λ (x : EntrySentence). x.sentence) (sentences_of_entry k e.sentences) (sentences_of_entries (k + 1) es)
    ∙ ap (λ (l : List MsgSentence). l ++ without_entries (sentences_of_entries (k + 1) es)) (sentences_of_items k e.sentences) ∙ ap (λ (l : List MsgSentence). e.sentences ++ l) (sentences_from (k + 1) es)

pub sentences_are : (file : MsgFile) → without_entries (sentences_of_entries 0 file.entries) ≡ sentences_of file
sentences_are file = sentences_from 0 file.entries

-- The entry to which a sentence belongs.
pub record EntryOf (k : ℕ) (es : List Entry) (x : EntrySentence) : Type 0 where
  pub place : ℕ
  pub entry : Entry
  pub number : x.entry ≡ k + place
  pub at : slice_get es place ≡ Some entry
  pub sentence_listed : Contains entry.sentences x.sentence

item_among : (k : ℕ) (xs : List MsgSentence) (x : EntrySentence) → Contains (sentences_of_entry k xs) x → (x.entry ≡ k) × Contains xs x.sentence
item_among k [] x c = absurd (contains_none x c)
item_among k (y ∷ xs) x c = elim (contains_cases (entry_sentence k y) (sentences_of_entry k xs) x c) [
  | inl e ↦ (sym (ap (λ (z : EntrySentence). z.entry) e), subst (λ (z : MsgSentence). Contains (y ∷ xs) z) (ap (λ (z : EntrySentence). z.sentence) e) (contains_here y xs))
  | inr d ↦ (let on = item_among k xs x d in (on.0, contains_there y xs x.sentence on.1))
]

entry_of : (k : ℕ) (es : List Entry) (x : EntrySentence) → Contains (sentences_of_entries k es) x → EntryOf k es x
entry_of k [] x c = absurd (contains_none x c)
entry_of k (e ∷ es) x c = elim (Contains-append_cases (sentences_of_entry k e.sentences) (sentences_of_entries (k + 1) es) x c) [
  | inl d ↦ (let in_e = item_among k e.sentences x d in record { place = 0; entry = e; number = in_e.0 ∙ omega arith; at = refl; sentence_listed = in_e.1 })
  | inr d ↦ (let on = entry_of (k + 1) es x d in record { place = suc on.place; entry = on.entry; number = on.number ∙ omega arith; at = on.at; sentence_listed = on.sentence_listed })
]

item_there : (k : ℕ) (xs : List MsgSentence) (x : MsgSentence) → Contains xs x → Contains (sentences_of_entry k xs) (entry_sentence k x)
item_there k [] x c = absurd (contains_none x c)
item_there k (y ∷ xs) x c = elim (contains_cases y xs x c) [
  | inl e ↦ subst (λ (z : MsgSentence). Contains (sentences_of_entry k (y ∷ xs)) (entry_sentence k z)) e (contains_here (entry_sentence k y) (sentences_of_entry k xs))
  | inr d ↦ contains_there (entry_sentence k y) (sentences_of_entry k xs) (entry_sentence k x) (item_there k xs x d)
]

item_in : (k : ℕ) (es : List Entry) (i : ℕ) (e : Entry) (x : MsgSentence) → slice_get es i ≡ Some e → Contains e.sentences x → Contains (sentences_of_entries k es) (entry_sentence (k + i) x)
item_in k [] i e x at c = cc
item_in k (f ∷ es) zero e x at c =
    let same : f ≡ e = cc in
    let here : Contains (sentences_of_entry k f.sentences) (entry_sentence k x) = item_there k f.sentences x (subst (λ (z : Entry). Contains z.sentences x) (sym same) c) in
    Contains-append_left (sentences_of_entry k f.sentences) (sentences_of_entries (k + 1) es) (entry_sentence (k + 0) x) (subst (λ (n : ℕ). Contains (sentences_of_entry k f.sentences) (entry_sentence n x)) (omega arith) here)
item_in k (f ∷ es) (suc i) e x at c =
    Contains-append_right (sentences_of_entry k f.sentences) (sentences_of_entries (k + 1) es) (entry_sentence (k + suc i) x)
    (subst (λ (n : ℕ). Contains (sentences_of_entries (k + 1) es) (entry_sentence n x)) (same k i) (item_in (k + 1) es i e x at c))
  where
    same : (a b : ℕ) → a + 1 + b ≡ a + suc b
    same a b = omega arith

-- ---- The compiled messages.

module _ (t : TableData) (file : MsgFile) (places : List (Option SentencePlace)) (messages : List (List ℕ)) where
  abbrev compiled : List (Option (List ℕ))
  compiled = map (message_of_place messages) places

  looked_up : (s : ℕ) → message_at compiled s ≡ option_and_then itself (option_map (message_of_place messages) (slice_get places s))
  looked_up s = ap (λ (o : Option (Option (List ℕ))). option_and_then itself o) (slice_get-map (message_of_place messages) places s)

  module _ (are : messages ≡ map (λ (e : Entry). e.message) file.entries) (placed : ArePlaces t (sentences_of_entries 0 file.entries) places) where
    message_is : (i : ℕ) (e : Entry) → slice_get file.entries i ≡ Some e → slice_get messages i ≡ Some e.message
    message_is i e at = rw are (slice_get-map (λ (f : Entry). f.message) file.entries i ∙ (rw at refl))

    from_place : (s : ℕ) (message : List ℕ) (p : SentencePlace) → slice_get places s ≡ Some (Some p) → slice_get messages p.entry ≡ Some message → IsMessage t file s message
    from_place s message p at is =
        let found = placed.found s p at in
        let of_entry = entry_of 0 file.entries found.0 found.1 in
        let number : p.entry ≡ of_entry.place = ap (λ (q : SentencePlace). q.entry) found.3 ∙ of_entry.number ∙ omega arith in
        let here : slice_get messages p.entry ≡ Some of_entry.entry.message = ap (slice_get messages) number ∙ message_is of_entry.place of_entry.entry of_entry.at in
        record {
          entry = of_entry.entry;
          sentence = found.0.sentence;
          of_file = contains_at file.entries of_entry.place of_entry.entry of_entry.at;
          of_entry = of_entry.sentence_listed;
          fails = found.2;
          is = (let both : Some message ≡ Some of_entry.entry.message = sym is ∙ here in cc);
        }

    to : (s : ℕ) (message : List ℕ) (o : Option (Option SentencePlace)) → slice_get places s ≡ o → option_and_then itself (option_map (message_of_place messages) o) ≡ Some message → IsMessage t file s message
    to s message None at is = cc
    to s message (Some None) at is = cc
    to s message (Some (Some p)) at is = from_place s message p at is

    back : (s : ℕ) (message : List ℕ) → IsMessage t file s message → option_and_then itself (option_map (message_of_place messages) (slice_get places s)) ≡ Some message
    back s message m =
        let at = at_contains file.entries m.entry m.of_file in
        let x = entry_sentence (0 + at.0) m.sentence in
        let kept : slice_get places s ≡ Some (Some (place_of x)) = placed.kept x s (item_in 0 file.entries at.0 m.entry m.sentence at.1 m.of_entry) m.fails in
        let number : 0 + at.0 ≡ at.0 = omega arith in
        rw kept (ap (slice_get messages) number ∙ message_is at.0 m.entry at.1 ∙ ap Some (sym m.is))

    pub is_compiled : length places ≡ length t.states → IsCompiled t file compiled
    is_compiled size = record {
      sound = subst (Sound t) (sentences_are file) placed.sound;
      states = length-map places (message_of_place messages) ∙ size;
      messages = λ s message. ((λ h. to s message (slice_get places s) refl (sym (looked_up s) ∙ h)), (λ h. looked_up s ∙ back s message h));
    }

-- The message of a state is found by the place of its sentence.
placed_at : (places : List (Option SentencePlace)) (s : ℕ) (p : SentencePlace) (o : Option (Option SentencePlace)) → slice_get places s ≡ o → option_and_then same_place o ≡ Some p → slice_get places s ≡ Some (Some p)
placed_at places s p None at is = cc
placed_at places s p (Some None) at is = cc
placed_at places s p (Some (Some q)) at is = let same : q ≡ p = cc in at ∙ ap (λ (r : SentencePlace). Some (Some r)) same

module _ (places : List (Option SentencePlace)) (messages : List (List ℕ)) (seen : List (Option (List ℕ))) (view : map (message_of_place messages) places ≡ seen) where
  seen_at : (s : ℕ) → message_at seen s ≡ option_and_then itself (option_map (message_of_place messages) (slice_get places s))
  seen_at s = ap (λ (l : List (Option (List ℕ))). message_at l s) (sym view) ∙ ap (λ (o : Option (Option (List ℕ))). option_and_then itself o) (slice_get-map (message_of_place messages) places s)

  by_place : (s : ℕ) (p : SentencePlace) → place_in places s ≡ Some p → message_at seen s ≡ slice_get messages p.entry
  by_place s p is = seen_at s ∙ (rw (placed_at places s p (slice_get places s) refl is) refl)

  pub message_some : (s : ℕ) (p : SentencePlace) (r : Option (Bor (List ℕ))) → place_in places s ≡ Some p → MatchOption r (slice_get messages p.entry ≡ None) (λ m. slice_get messages p.entry ≡ Some m.now)
      → MatchOption r (message_at seen s ≡ None) (λ m. message_at seen s ≡ Some m.now)
  message_some s p None is found = by_place s p is ∙ found
  message_some s p (Some m) is found = by_place s p is ∙ found

  none_by : (o : Option (Option SentencePlace)) → option_and_then same_place o ≡ None → option_and_then itself (option_map (message_of_place messages) o) ≡ None
  none_by None is = refl
  none_by (Some None) is = refl
  none_by (Some (Some p)) is = absurd (cc)

  pub message_none : (s : ℕ) → place_in places s ≡ None → message_at seen s ≡ None
  message_none s is = seen_at s ∙ none_by (slice_get places s) is
