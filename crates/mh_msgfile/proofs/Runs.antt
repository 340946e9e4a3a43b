-- Lemmas on the fields of a list, which are the parts between its separators, and on its runs, which are its nonempty
-- fields: the first run, and the runs after the first run.
use Rattle.std.proofs.Common.{◌≡◌, ◌+◌, ◌<◌, ◌≤◌, ℕ, Bool, true, false, List, [], ◌∷◌, length, take, drop, filter, refl, sym, ◌∙◌, ap, subst, if◌then◌else◌, arith, suc, length-drop}
use Rattle.std.specs.List.{position_or_len, prefix_len}
use Rattle.mh_msgfile.specs.Sentences.{put_first, fields, has_items, runs}

module _ {A : Type 0} (separates : A → Bool) where
  -- For a list that is empty or begins with a separator: its fields without the first field, which is empty.
  abbrev tail_fields : List A → List (List A)
  tail_fields [] = []
  tail_fields (x ∷ rest) = fields separates rest

  one_more : (n : ℕ) → 1 + n ≡ suc n
  one_more n = omega arith

  take_one : (n : ℕ) (x : A) (xs : List A) → take (1 + n) (x ∷ xs) ≡ x ∷ take n xs
  take_one n x xs = rw (one_more n) refl

  drop_one : (n : ℕ) (x : A) (xs : List A) → drop (1 + n) (x ∷ xs) ≡ drop n xs
  drop_one n x xs = rw (one_more n) refl

  abbrev size : List A → ℕ
  size xs = position_or_len separates xs

  abbrev Splits : List A → Type 0
  Splits xs = fields separates xs ≡ take (size xs) xs ∷ tail_fields (drop (size xs) xs)

  splits_on : (x : A) (xs : List A) (c : Bool) → separates x ≡ c → Splits xs → Splits (x ∷ xs)
  splits_on x xs true is on = rw is refl
  splits_on x xs false is on = rw (is, take_one (size xs) x xs, drop_one (size xs) x xs) (ap (put_first x) on)

  fields_split : (xs : List A) → Splits xs
  fields_split [] = refl
  fields_split (x ∷ xs) = splits_on x xs (separates x) refl (fields_split xs)

  abbrev TailIs : List A → Type 0
  TailIs xs = filter has_items (tail_fields (drop (size xs) xs)) ≡ runs separates (drop (size xs) xs)

  tail_on : (x : A) (xs : List A) (c : Bool) → separates x ≡ c → TailIs xs → TailIs (x ∷ xs)
  tail_on x xs true is on = rw is (rw is refl)
  tail_on x xs false is on = rw (is, drop_one (size xs) x xs) on

  filter_tail : (xs : List A) → TailIs xs
  filter_tail [] = refl
  filter_tail (x ∷ xs) = tail_on x xs (separates x) refl (filter_tail xs)

  -- The first run of a list that does not begin with a separator.
  pub run_first : (x : A) (xs : List A) → separates x ≡ false → runs separates (x ∷ xs) ≡ (x ∷ take (size xs) xs) ∷ runs separates (drop (size xs) xs)
  run_first x xs is =
      rw is (ap (λ (l : List (List A)). filter has_items (put_first x l)) (fields_split xs) ∙ ap (λ (l : List (List A)). (x ∷ take (size xs) xs) ∷ l) (filter_tail xs))

  -- The list `rest` follows the separators at the front of `xs`, and gives the first run of `xs`.
  pub record IsAfterSeparators (xs rest : List A) : Type 0 where
    pub none : size rest ≡ 0 → runs separates xs ≡ []
    pub some : 0 < size rest → runs separates xs ≡ take (size rest) rest ∷ runs separates (drop (size rest) rest)

  size_one : (x : A) (xs : List A) → separates x ≡ false → size (x ∷ xs) ≡ 1 + size xs
  size_one x xs is = rw is refl

  cut_one : (x : A) (xs : List A) (n : ℕ) → take (1 + n) (x ∷ xs) ∷ runs separates (drop (1 + n) (x ∷ xs)) ≡ (x ∷ take n xs) ∷ runs separates (drop n xs)
  cut_one x xs n = rw (take_one n x xs, drop_one n x xs) refl

  behind_here : (x : A) (xs : List A) → separates x ≡ false → IsAfterSeparators (x ∷ xs) (x ∷ xs)
  behind_here x xs is = record {
    none = λ h. absurd (omega (arith, h, size_one x xs is));
    some = λ h. run_first x xs is ∙ sym (cut_one x xs (size xs)) ∙ ap (λ (k : ℕ). take k (x ∷ xs) ∷ runs separates (drop k (x ∷ xs))) (sym (size_one x xs is));
  }

  pub run_none : (x : A) (xs : List A) → separates x ≡ true → runs separates (x ∷ xs) ≡ runs separates xs
  run_none x xs is = rw is refl

  abbrev blanks : List A → ℕ
  blanks xs = prefix_len separates xs

  drop_blanks : (x : A) (xs : List A) (c : Bool) → separates x ≡ c → drop (blanks (x ∷ xs)) (x ∷ xs) ≡ (if c then drop (blanks xs) xs else x ∷ xs)
  drop_blanks x xs true is = rw (is, drop_one (blanks xs) x xs) refl
  drop_blanks x xs false is = rw is refl

  behind_on : (x : A) (xs : List A) (c : Bool) → separates x ≡ c → IsAfterSeparators xs (drop (blanks xs) xs) → IsAfterSeparators (x ∷ xs) (drop (blanks (x ∷ xs)) (x ∷ xs))
  behind_on x xs true is on =
      let rest = drop (blanks xs) xs in
      let here : IsAfterSeparators (x ∷ xs) rest = record { none = λ h. run_none x xs is ∙ on.none h; some = λ h. run_none x xs is ∙ on.some h } in
      subst (λ (t : List A). IsAfterSeparators (x ∷ xs) t) (sym (drop_blanks x xs true is)) here
  behind_on x xs false is on = subst (λ (t : List A). IsAfterSeparators (x ∷ xs) t) (sym (drop_blanks x xs false is)) (behind_here x xs is)

  pub after_separators : (xs : List A) → IsAfterSeparators xs (drop (blanks xs) xs)
  after_separators [] = record { none = λ h. refl; some = λ h. absurd (omega arith) }
  after_separators (x ∷ xs) = behind_on x xs (separates x) refl (after_separators xs)

  left_behind : (xs rest : List A) (n size : ℕ) → rest ≡ drop n xs → 0 < size → size ≤ length rest → length (drop size rest) < length xs
  left_behind xs rest n size is some within =
      let shorter : length rest ≤ length xs = rw is (omega (arith, length-drop n xs)) in omega (arith, length-drop size rest)

  pub first_none : (xs rest : List A) (n count : ℕ) → n ≡ blanks xs → rest ≡ drop n xs → count ≡ size rest → count ≡ 0 → runs separates xs ≡ []
  first_none xs rest n count is_count is sized zero_size =
      let same : rest ≡ drop (blanks xs) xs = is ∙ ap (λ (k : ℕ). drop k xs) is_count in
      (subst (λ (t : List A). IsAfterSeparators xs t) (sym same) (after_separators xs)).none (sym sized ∙ zero_size)

  pub first_some : (xs rest piece behind : List A) (n count : ℕ) → n ≡ blanks xs → rest ≡ drop n xs → count ≡ size rest → 0 < count → count ≤ length rest → piece ≡ take count rest → behind ≡ drop count rest → (runs separates xs ≡ piece ∷ runs separates behind) × (length behind < length xs)
  first_some xs rest piece behind n count is_count is sized some within front back =
      let same : rest ≡ drop (blanks xs) xs = is ∙ ap (λ (k : ℕ). drop k xs) is_count in
      let big : 0 < size rest = omega (arith, sized, some) in
      let cut : runs separates xs ≡ take (size rest) rest ∷ runs separates (drop (size rest) rest) = (subst (λ (t : List A). IsAfterSeparators xs t) (sym same) (after_separators xs)).some big in (
        rw (front, back) (subst (λ (k : ℕ). runs separates xs ≡ take k rest ∷ runs separates (drop k rest)) (sym sized) cut),
        rw back (left_behind xs rest n count is some within),
      )
