-- The loop invariant of reading several files in order.
use Rattle.std.proofs.Common.{◌≡◌, ◌<◌, ◌+◌, ℕ, List, length, drop, get_or, [], ◌∷◌, ◌++◌, Option, refl, sym, ap, subst, append_assoc, Err}
use Rattle.std.proofs.lemmas.List.{append-nil, drop_more}
use Rattle.std.proofs.lemmas.List.Elements.{All-nil, All-cons}
use Rattle.mh_outside.specs.Shelf.{Files}
use Rattle.mh_grammar.specs.Text.{Text}
use Rattle.mh_top_drive.specs.StageResults.{StageResult, Go, Halt}
use Rattle.mh_top_drive.specs.FileContents.{AreFileContents, IsFileContent}
use Rattle.mh_top_drive.specs.NextFile.{HasContent, IsNextFile}
use Rattle.mh_top_drive.specs.code.StageCalls.{FileStageGives}
use Rattle.mh_top_drive.specs.declared.stop.Stop.{Stop}
use Rattle.mh_top_drive.specs.declared.stop.Stop.TheVariants.{Halted, ShelfFailed, InputFailed, WriteFailed, OutOfMemory}

module _ {A : Type 0} where
  -- The result of a stage with these items put before its list.
  abbrev pub put : List A → StageResult (List A) → StageResult (List A)
  put items (Go xs) = Go (items ++ xs)
  put items (Halt cause) = Halt cause

  put_nil : (s : StageResult (List A)) → put [] s ≡ s
  put_nil (Go xs) = refl
  put_nil (Halt cause) = refl

  put_more : (items : List A) (x : A) (s : StageResult (List A)) → put items (put (x ∷ []) s) ≡ put (items ++ x ∷ []) s
  put_more items x (Go xs) = ap Go (sym (append_assoc items (x ∷ []) xs))
  put_more items x (Halt cause) = refl

module _ {A : Type 0} (files : Option Files) (Spelled : Text → Text → StageResult A → Type 0) where
  pub turn_first : (name : Text) (names : List Text) → IsNextFile files Spelled (name ∷ names) name
  turn_first name names = record { before = []; after = names; names_are = refl; spelled = All-nil (HasContent files Spelled) }

  pub turn_later : (first : Text) (names : List Text) (name : Text) → HasContent files Spelled first → IsNextFile files Spelled names name → IsNextFile files Spelled (first ∷ names) name
  turn_later first names name spelled turn = record {
    before = first ∷ turn.before;
    after = turn.after;
    names_are = ap (λ (l : List Text). first ∷ l) turn.names_are;
    spelled = All-cons (HasContent files Spelled) first turn.before spelled turn.spelled;
  }

  one_put : (first : Text) (names : List Text) (x : A) (s : StageResult (List A)) → IsFileContent files Spelled first (Go x) → AreFileContents files Spelled names s → AreFileContents files Spelled (first ∷ names) (put (x ∷ []) s)
  one_put first names x (Go xs) is are = (Go x, is, (Go xs, are, refl))
  one_put first names x (Halt cause) is are = (Go x, is, (Halt cause, are, refl))

  module _ (whole : List Text) where
    -- The invariant: the items are the contents of the files read so far. Followed by the contents of the other files,
    -- they are the contents of all; and the next of the other files is the next of all.
    pub record IsSoFar (items : List A) (names : List Text) : Type 0 where
      pub all : (s : StageResult (List A)) → AreFileContents files Spelled names s → AreFileContents files Spelled whole (put items s)
      pub turn : (name : Text) → IsNextFile files Spelled names name → IsNextFile files Spelled whole name

    pub so_far_start : IsSoFar [] whole
    so_far_start = record {
      all = λ s are. subst (AreFileContents files Spelled whole) (sym (put_nil s)) are;
      turn = λ name turn. turn;
    }

    so_far_more : (items : List A) (first : Text) (names : List Text) (x : A) → IsSoFar items (first ∷ names) → IsFileContent files Spelled first (Go x) → IsSoFar (items ++ x ∷ []) names
    so_far_more items first names x so_far is = record {
      all = λ s are. subst (AreFileContents files Spelled whole) (put_more items x s) (so_far.all (put (x ∷ []) s) (one_put first names x s is are));
      turn = λ name turn. so_far.turn name (turn_later first names name (x, is) turn);
    }

    so_far_stops : (items : List A) (name : Text) (names : List Text) (stop : Stop) → IsSoFar items (name ∷ names) → FileStageGives {A = A} (IsFileContent files Spelled name) (λ other. other ≡ name) (Err stop) → FileStageGives {A = List A} (AreFileContents files Spelled whole) (IsNextFile files Spelled whole) (Err stop)
    so_far_stops items name names (Halted cause) so_far has = so_far.all (Halt cause) (Halt cause, has, refl)
    so_far_stops items name names (ShelfFailed other) so_far has = subst (IsNextFile files Spelled whole) (sym has) (so_far.turn name (turn_first name names))
    so_far_stops items name names OutOfMemory so_far has = tt
    so_far_stops items name names InputFailed so_far has = absurd has
    so_far_stops items name names WriteFailed so_far has = absurd has

    pub so_far_ends : (items : List A) (names : List Text) → names ≡ [] → IsSoFar items names → AreFileContents files Spelled whole (Go items)
    so_far_ends items names none so_far =
        let start : IsSoFar items [] = subst (IsSoFar items) none so_far in
        subst (λ (l : List A). AreFileContents files Spelled whole (Go l)) (append-nil items) (start.all (Go []) refl)

    -- ---- At an index of the list of names, one more file is read, or stops the loop.

    module _ (told : Option Files) (i : ℕ) (d name : Text) (kept : told ≡ files) (item : name ≡ get_or whole i d) (lt : i < length whole) where
      at_place : (items : List A) → IsSoFar items (drop i whole) → IsSoFar items (name ∷ drop (i + 1) whole)
      at_place items so_far = subst (λ (n : Text). IsSoFar items (n ∷ drop (i + 1) whole)) (sym item) (subst (IsSoFar items) (drop_more whole i d lt) so_far)

      pub so_far_next : (items : List A) (x : A) → IsSoFar items (drop i whole) → IsFileContent told Spelled name (Go x) → IsSoFar (items ++ x ∷ []) (drop (i + 1) whole)
      so_far_next items x so_far is = so_far_more items name (drop (i + 1) whole) x (at_place items so_far) (subst (λ (t : Option Files). IsFileContent t Spelled name (Go x)) kept is)

      pub so_far_halts : (items : List A) (stop : Stop) → IsSoFar items (drop i whole) → FileStageGives {A = A} (IsFileContent told Spelled name) (λ other. other ≡ name) (Err stop) → FileStageGives {A = List A} (AreFileContents files Spelled whole) (IsNextFile files Spelled whole) (Err stop)
      so_far_halts items stop so_far has = so_far_stops items name (drop (i + 1) whole) stop (at_place items so_far) (subst (λ (t : Option Files). FileStageGives {A = A} (IsFileContent t Spelled name) (λ other. other ≡ name) (Err stop)) kept has)
