-- The lines for files that are named a second time, one file after another.
use Rattle.std.proofs.Common.{◌≡◌, ◌↔◌, ◌||◌, ℕ, ◌+◌, ◌<◌, ◌≤◌, true, false, List, [], ◌++◌, Some, length, map, get_or, take, arith, refl, sym, ap, subst, ◌∙◌, inl, inr}
use Rattle.std.specs.List.{enumerate_from, slice_get}
use Rattle.std.specs.Option.{option_map}
use Rattle.std.specs.HashSet.{HashSet, contains}
use Rattle.std.proofs.Math.Bool.{or-true}
use Rattle.std.proofs.lemmas.Bool.{cases_Bool}
use Rattle.std.proofs.lemmas.List.{length-map, take_all}
use Rattle.std.proofs.lemmas.List.FromFn.{get_or-enumerate_from, length-enumerate_from}
use Rattle.std.proofs.lemmas.Option.{get_or_from_slice_get, same_Some, slice_get-map, slice_get_read, slice_get_within}
use Rattle.mh_grammar.specs.Text.{Text}
use Rattle.mh_grammar.proofs.Lists.{below_next}
use Rattle.mh_grammar.proofs.TextEquality.{equal_from_same, same_refl}
use Rattle.mh_join_names.specs.Names.{same}
use Rattle.mh_lint_findings.specs.Lines.{lines_of}
use Rattle.mh_lint_findings.specs.LinesInOrder.{AreInOrder}
use Rattle.mh_lint_findings.specs.code.AppendedLines.{AppendsLines}
use Rattle.mh_lint_findings.specs.declared.findings.Finding.{Finding}
use Rattle.mh_lint_findings.specs.declared.findings.GrammarFile.{GrammarFile}
use Rattle.mh_lint_findings.proofs.AppendsLines.{appends_lines, appends_more}
use Rattle.mh_lint.specs.Warnings.{AreNameLines, IsNamedBefore}
use Rattle.mh_lint.specs.Warnings as lines
use Rattle.mh_lint.specs.code.MentionUses.{repeated_lines}

-- The pair of an index and the item with the index.
pub enumerated : {X : Type 0} (xs : List X) (i : ℕ) (x : X) → slice_get xs i ≡ Some x → (i < length (enumerate_from 0 xs)) × ((i, x) ≡ get_or (enumerate_from 0 xs) i (i, x))
enumerated xs i x at =
    let l = slice_get_within xs i x at in
    ((let n = length-enumerate_from 0 xs in omega (arith, l, n)), (let index : 0 + i ≡ i = omega arith in sym (get_or-enumerate_from 0 xs i (i, x) l ∙ (λ j. (index j, get_or_from_slice_get xs i x x at j)))))

-- The name of a file that is at hand.
abbrev pub names_of : List GrammarFile → List Text
names_of files = map (λ (f : GrammarFile). f.name) files

pub name_at : (files : List GrammarFile) (n : ℕ) (f : GrammarFile) → n < length files → f ≡ get_or files n f → slice_get (names_of files) n ≡ Some f.name
name_at files n f l at = slice_get-map (λ (g : GrammarFile). g.name) files n ∙ ap (option_map (λ (g : GrammarFile). g.name)) (slice_get_read files (length files) n f refl l at)

-- The lines of all files.
pub all_names : (files : List GrammarFile) (n : ℕ) (a b : List Finding) → length files ≤ n → AppendsLines (AreInOrder (AreNameLines (names_of files)) (take n (enumerate_from 0 (names_of files)))) a b → AppendsLines (AreInOrder (AreNameLines (names_of files)) (enumerate_from 0 (names_of files))) a b
all_names files n a b past h =
    let few : length (enumerate_from 0 (names_of files)) ≤ n = (let e = length-enumerate_from 0 (names_of files) in let m = length-map files (λ (f : GrammarFile). f.name) in omega (arith, past, e, m)) in
    subst (λ xs. AppendsLines (AreInOrder (AreNameLines (names_of files)) xs) a b) (take_all n (enumerate_from 0 (names_of files)) few) h

-- The lines of one more file.
pub more_names : (names : List Text) (n : ℕ) (name : Text) (a b c : List Finding) → slice_get names n ≡ Some name → AppendsLines (AreInOrder (AreNameLines names) (take n (enumerate_from 0 names))) a b → AppendsLines (AreNameLines names (n, name)) b c → AppendsLines (AreInOrder (AreNameLines names) (take (n + 1) (enumerate_from 0 names))) a c
more_names names n name a b c at p q = let one = enumerated names n name at in appends_more (AreNameLines names) (enumerate_from 0 names) n (n, name) a b c one.0 one.1 p q

module _ {S : Type 0} (names : List Text) where
  -- The set has the names of the first n files.
  abbrev pub HasFirst : ℕ → HashSet Text S → Type 0
  HasFirst n seen = (x : Text) → (contains same seen x ≡ true) ↔ ((k : ℕ) × (k < n) × (slice_get names k ≡ Some x))

  pub none_first : (seen : HashSet Text S) → ((x : Text) → contains same seen x ≡ false) → HasFirst 0 seen
  none_first seen empty x = (λ e. (let bad : false ≡ true = sym (empty x) ∙ e in cc), λ h. (let l = h.1 in absurd (omega (arith, l))))

  pub more_first : (n : ℕ) (name : Text) (old new : HashSet Text S) → slice_get names n ≡ Some name → HasFirst n old → ((x : Text) → contains same new x ≡ (contains same old x || same x name)) → HasFirst (n + 1) new
  more_first n name old new at h put x = (to, from)
    where
      to : contains same new x ≡ true → (k : ℕ) × (k < n + 1) × (slice_get names k ≡ Some x)
      to e = elim (cases_Bool (contains same old x)) [
        | inl had ↦ (let one = (h x).0 had in (one.0, (let l = one.1 in omega (arith, l)), one.2))
        | inr lacked ↦ (n, omega arith, at ∙ ap Some (sym (equal_from_same x name (sym (put x ∙ ap (λ b. b || same x name) lacked) ∙ e))))
      ]

      from : (k : ℕ) × (k < n + 1) × (slice_get names k ≡ Some x) → contains same new x ≡ true
      from one = elim (below_next one.0 n one.1) [
        | inl l ↦ put x ∙ ap (λ b. b || same x name) ((h x).1 (one.0, l, one.2))
        | inr here ↦ (let equal : x ≡ name = same_Some x name (sym one.2 ∙ subst (λ k. slice_get names k ≡ Some name) (sym here) at) in put x ∙ ap (λ b. contains same old x || b) (subst (λ y. same y name ≡ true) (sym equal) (same_refl name)) ∙ or-true (contains same old x))
      ]

  -- An earlier file has the name exactly if the set has the name.
  named_before : (n : ℕ) (name : Text) (seen : HashSet Text S) → slice_get names n ≡ Some name → HasFirst n seen → contains same seen name ≡ true → IsNamedBefore names n
  named_before n name seen at h e = let one = (h name).0 e in record { earlier = one.0; name = name; before = one.1; first = one.2; again = at }

  before_named : (n : ℕ) (name : Text) (seen : HashSet Text S) → slice_get names n ≡ Some name → HasFirst n seen → IsNamedBefore names n → contains same seen name ≡ true
  before_named n name seen at h b = (h name).1 (b.earlier, b.before, b.first ∙ sym b.again ∙ at)

  -- The line of one more file.
  pub name_put : (n : ℕ) (name : Text) (seen : HashSet Text S) (old new : List Finding) → slice_get names n ≡ Some name → HasFirst n seen → lines_of new ≡ lines_of old ++ repeated_lines (contains same seen name) n → AppendsLines (AreNameLines names (n, name)) old new
  name_put n name seen old new at h put = elim (cases_Bool (contains same seen name)) [
    | inl had ↦ appends_lines (AreNameLines names (n, name)) (repeated_lines true n) old new (lines.AreNameLines.again (named_before n name seen at h had)) (put ∙ ap (λ b. lines_of old ++ repeated_lines b n) had)
    | inr lacked ↦ appends_lines (AreNameLines names (n, name)) [] old new (lines.AreNameLines.new (λ b. (let bad : false ≡ true = sym lacked ∙ before_named n name seen at h b in cc))) (put ∙ ap (λ b. lines_of old ++ repeated_lines b n) lacked)
  ]
