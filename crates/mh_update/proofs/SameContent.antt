-- Proves that two files with the same lines, apart from ignored ones, have the same content, and that one has no fault
-- if the other has none.
use Rattle.std.proofs.Common.{◌≡◌, ℕ, Bool, true, false, List, [], ◌∷◌, ◌++◌, map, filter, not, refl, sym, ◌∙◌, ap, subst, if◌then◌else◌}
use Rattle.std.specs.List.{list_all, AllZip}
use Rattle.mh_grammar.proofs.Lists.{nil_parts}
use Rattle.mh_grammar.specs.Text.{Text}
use Rattle.mh_msgfile.specs.Lines.{is_blank, line_at, is_ignored_line, is_blank_line}
use Rattle.mh_msgfile.specs.Sentences.{Vocabulary, put_first, fields, has_items, runs, LineResult, IsSentence, IsUnreadable, NamesNoStart, LacksStart, NamesUnknown, sentence_in}
use Rattle.mh_msgfile.specs.Messages.{kept_lines, blocks, message_of, MessagesFault, BadShape, fault_at, sentence_at, faults_of, sentences_of, first_number, faults_in, entries_in}
use Rattle.mh_msgfile.specs.FileTexts.{content_of, entry_content}
use Rattle.std.proofs.lemmas.List.{map-append}
use Rattle.mh_update.proofs.SentencesByLine.{kept_texts}

zip_of : {A B C : Type 0} (f : A → C) (h : B → C) (xs : List A) (ys : List B) → map f xs ≡ map h ys → AllZip (λ (x : A) (y : B). f x ≡ h y) xs ys
zip_of f h [] [] is = tt
zip_of f h [] (y ∷ ys) is = absurd (cc)
zip_of f h (x ∷ xs) [] is = absurd (cc)
zip_of f h (x ∷ xs) (y ∷ ys) is = (cc, zip_of f h xs ys (cc))

module _ (R : ℕ → ℕ → Type 0) where
  abbrev Zips : List (List ℕ) → List (List ℕ) → Type 0
  Zips fs hs = AllZip (λ (xs : List ℕ) (ys : List ℕ). AllZip R xs ys) fs hs

  put_zip : (x y : ℕ) (fs hs : List (List ℕ)) → R x y → Zips fs hs → Zips (put_first x fs) (put_first y hs)
  put_zip x y [] [] r zip = ((r, tt), tt)
  put_zip x y [] (h ∷ hs) r zip = absurd zip
  put_zip x y (f ∷ fs) [] r zip = absurd zip
  put_zip x y (f ∷ fs) (h ∷ hs) r zip = ((r, zip.0), zip.1)

  has_zip : (xs ys : List ℕ) → AllZip R xs ys → has_items xs ≡ has_items ys
  has_zip [] [] zip = refl
  has_zip [] (y ∷ ys) zip = absurd zip
  has_zip (x ∷ xs) [] zip = absurd zip
  has_zip (x ∷ xs) (y ∷ ys) zip = refl

  filter_on : (xs : List ℕ) (fs : List (List ℕ)) (c : Bool) → has_items xs ≡ c → filter has_items (xs ∷ fs) ≡ (if c then xs ∷ filter has_items fs else filter has_items fs)
  filter_on xs fs true is = rw is refl
  filter_on xs fs false is = rw is refl

  filter_by : (c : Bool) (xs ys : List ℕ) (fs hs : List (List ℕ)) → AllZip R xs ys → Zips fs hs → Zips (if c then xs ∷ fs else fs) (if c then ys ∷ hs else hs)
  filter_by true xs ys fs hs zip more = (zip, more)
  filter_by false xs ys fs hs zip more = more

  filter_zip : (fs hs : List (List ℕ)) → Zips fs hs → Zips (filter has_items fs) (filter has_items hs)
  filter_zip [] [] zip = tt
  filter_zip [] (h ∷ hs) zip = absurd zip
  filter_zip (f ∷ fs) [] zip = absurd zip
  filter_zip (f ∷ fs) (h ∷ hs) zip =
      let here : Zips (if has_items f then f ∷ filter has_items fs else filter has_items fs) (if has_items f then h ∷ filter has_items hs else filter has_items hs) =
      filter_by (has_items f) f h (filter has_items fs) (filter has_items hs) zip.0 (filter_zip fs hs zip.1) in
      subst (λ (l : List (List ℕ)). Zips l (filter has_items (h ∷ hs))) (sym (filter_on f fs (has_items f) refl))
      (subst (Zips (if has_items f then f ∷ filter has_items fs else filter has_items fs)) (sym (filter_on h hs (has_items f) (sym (has_zip f h zip.0)))) here)

  module _ (p q : ℕ → Bool) (same : (x y : ℕ) → R x y → p x ≡ q y) where
    fields_on : (p : ℕ → Bool) (x : ℕ) (xs : List ℕ) (c : Bool) → p x ≡ c → fields p (x ∷ xs) ≡ (if c then [] ∷ fields p xs else put_first x (fields p xs))
    fields_on p x xs true is = rw is refl
    fields_on p x xs false is = rw is refl

    fields_by : (c : Bool) (x y : ℕ) (fs hs : List (List ℕ)) → R x y → Zips fs hs → Zips (if c then [] ∷ fs else put_first x fs) (if c then [] ∷ hs else put_first y hs)
    fields_by true x y fs hs r zip = (tt, zip)
    fields_by false x y fs hs r zip = put_zip x y fs hs r zip

    fields_zip : (xs ys : List ℕ) → AllZip R xs ys → Zips (fields p xs) (fields q ys)
    fields_zip [] [] zip = (tt, tt)
    fields_zip [] (y ∷ ys) zip = absurd zip
    fields_zip (x ∷ xs) [] zip = absurd zip
    fields_zip (x ∷ xs) (y ∷ ys) zip =
        let here = fields_by (p x) x y (fields p xs) (fields q ys) zip.0 (fields_zip xs ys zip.1) in
        subst (λ (l : List (List ℕ)). Zips l (fields q (y ∷ ys))) (sym (fields_on p x xs (p x) refl))
        (subst (Zips (if p x then [] ∷ fields p xs else put_first x (fields p xs))) (sym (fields_on q y ys (p x) (sym (same x y zip.0)))) here)

    runs_zip : (xs ys : List ℕ) → AllZip R xs ys → Zips (runs p xs) (runs q ys)
    runs_zip xs ys zip = filter_zip (fields p xs) (fields q ys) (fields_zip xs ys zip)

module _ (v : Vocabulary) (old new : List Text) where
  abbrev AreAlike : ℕ → ℕ → Type 0
  AreAlike n m = line_at old n ≡ line_at new m

  abbrev AreBlocks : List (List ℕ) → List (List ℕ) → Type 0
  AreBlocks bs cs = Zips AreAlike bs cs

  blocks_alike : filter (λ line. not (is_ignored_line line)) old ≡ filter (λ line. not (is_ignored_line line)) new → AreBlocks (blocks old) (blocks new)
  blocks_alike same =
      runs_zip AreAlike (is_blank_line old) (is_blank_line new) (λ x y r. ap (list_all is_blank) r) (kept_lines old) (kept_lines new)
      (zip_of (line_at old) (line_at new) (kept_lines old) (kept_lines new) (kept_texts old 0 old refl ∙ same ∙ sym (kept_texts new 0 new refl)))

  -- ---- Faults.

  abbrev found : List Text → ℕ → LineResult
  found lines n = sentence_in v (line_at lines n)

  no_fault : (n m : ℕ) (f : LineResult) → fault_at n f ≡ [] → fault_at m f ≡ []
  no_fault n m (IsSentence s) is = refl
  no_fault n m IsUnreadable is = absurd (cc)
  no_fault n m (NamesNoStart name) is = absurd (cc)
  no_fault n m LacksStart is = absurd (cc)
  no_fault n m (NamesUnknown name) is = absurd (cc)

  block_right : (ns ms : List ℕ) → AllZip AreAlike ns ms → faults_of v old ns ≡ [] → faults_of v new ms ≡ []
  block_right [] [] zip is = refl
  block_right [] (m ∷ ms) zip is = absurd zip
  block_right (n ∷ ns) [] zip is = absurd zip
  block_right (n ∷ ns) (m ∷ ms) zip is =
      let both = nil_parts (fault_at n (found old n)) (faults_of v old ns) is in
      let here : fault_at m (found new m) ≡ [] = ap (λ (l : Text). fault_at m (sentence_in v l)) (sym zip.0) ∙ no_fault n m (found old n) both.0 in
      ap (λ (l : List MessagesFault). l ++ faults_of v new ms) here ∙ block_right ns ms zip.1 both.1

  right_alike : (bs cs : List (List ℕ)) → AreBlocks bs cs → faults_in v old bs ≡ [] → faults_in v new cs ≡ []
  right_alike [] [] zip is = refl
  right_alike [] (c ∷ cs) zip is = absurd zip
  right_alike (b ∷ bs) [] zip is = absurd zip
  right_alike (b ∷ []) (c ∷ cs) zip is = absurd (let both = nil_parts (faults_of v old b) (BadShape (first_number b) ∷ []) is in let no = both.1 in cc)
  right_alike (b ∷ m ∷ bs) (c ∷ []) zip is = absurd zip.1
  right_alike (b ∷ m ∷ bs) (c ∷ d ∷ cs) zip is =
      let both = nil_parts (faults_of v old b) (faults_in v old bs) is in
      ap (λ (l : List MessagesFault). l ++ faults_in v new cs) (block_right b c zip.0 both.0) ∙ right_alike bs cs zip.1.1 both.1

  -- ---- Content.

  content_one : (n m : ℕ) (f : LineResult) → map content_of (sentence_at n f) ≡ map content_of (sentence_at m f)
  content_one n m (IsSentence s) = refl
  content_one n m IsUnreadable = refl
  content_one n m (NamesNoStart name) = refl
  content_one n m LacksStart = refl
  content_one n m (NamesUnknown name) = refl

  content_block : (ns ms : List ℕ) → AllZip AreAlike ns ms → map content_of (sentences_of v old ns) ≡ map content_of (sentences_of v new ms)
  content_block [] [] zip = refl
  content_block [] (m ∷ ms) zip = absurd zip
  content_block (n ∷ ns) [] zip = absurd zip
  content_block (n ∷ ns) (m ∷ ms) zip =
      map-append content_of (sentence_at n (found old n)) (sentences_of v old ns)
      ∙ ap (λ (l : List (ℕ × List ℕ)). l ++ map content_of (sentences_of v old ns)) (content_one n m (found old n) ∙ ap (λ (l : Text). map content_of (sentence_at m (sentence_in v l))) zip.0)
      ∙ ap (λ (l : List (ℕ × List ℕ)). map content_of (sentence_at m (found new m)) ++ l) (content_block ns ms zip.1)
      ∙ sym (map-append content_of (sentence_at m (found new m)) (sentences_of v new ms))

  message_alike : (ns ms : List ℕ) → AllZip AreAlike ns ms → message_of old ns ≡ message_of new ms
  message_alike [] [] zip = refl
  message_alike [] (m ∷ ms) zip = absurd zip
  message_alike (n ∷ ns) [] zip = absurd zip
  message_alike (n ∷ ns) (m ∷ ms) zip =
      ap (λ (l : Text). (l ++ 10 ∷ []) ++ message_of old ns) zip.0 ∙ ap (λ (l : Text). (line_at new m ++ 10 ∷ []) ++ l) (message_alike ns ms zip.1)

  content_alike : (bs cs : List (List ℕ)) → AreBlocks bs cs → map entry_content (entries_in v old bs) ≡ map entry_content (entries_in v new cs)
  content_alike [] [] zip = refl
  content_alike [] (c ∷ cs) zip = absurd zip
  content_alike (b ∷ bs) [] zip = absurd zip
  content_alike (b ∷ []) (c ∷ []) zip = refl
  content_alike (b ∷ []) (c ∷ d ∷ cs) zip = absurd zip.1
  content_alike (b ∷ m ∷ bs) (c ∷ []) zip = absurd zip.1
  content_alike (b ∷ m ∷ bs) (c ∷ d ∷ cs) zip =
      let a = content_block b c zip.0 in let t = message_alike m d zip.1.0 in let more = content_alike bs cs zip.1.1 in λ i. (a i, t i) ∷ more i

  -- The new file has no fault if the old one has none, and their entries have the same content.
  pub record HasSameContent : Type 0 where
    pub no_faults : faults_in v old (blocks old) ≡ [] → faults_in v new (blocks new) ≡ []
    pub content : map entry_content (entries_in v old (blocks old)) ≡ map entry_content (entries_in v new (blocks new))

  pub alike : filter (λ line. not (is_ignored_line line)) old ≡ filter (λ line. not (is_ignored_line line)) new → HasSameContent
  alike same = let zip = blocks_alike same in record { no_faults = right_alike (blocks old) (blocks new) zip; content = content_alike (blocks old) (blocks new) zip }
