-- Proves that all bytes are a table file or have a first bad line.
use Rattle.std.proofs.Common.{◌≡◌, ℕ, ◌+◌, max, ◌⊎◌, inl, inr, List, [], ◌∷◌, ◌++◌, length, refl, sym, ap, subst, ◌∙◌, arith, ◌==◌}
use Rattle.std.specs.List.{slice_split}
use Rattle.std.proofs.lemmas.List.{append-nil}
use Rattle.mh_tabfile_form.specs.declared.types.RawTable.{RawTable}
use Rattle.mh_tabfile_form.specs.Form.{Line, Spells, Begins, IsFileOf}
use Rattle.mh_tabfile_read.specs.Reading.{IsBadLine}
use Rattle.mh_tabfile_read.specs.code.Lines.{lines_in}
use Rattle.mh_tabfile_read.specs.code.Machine.{run, initial_reader, Outcome, Reads, Stops}
use Rattle.mh_tabfile_read.proofs.RunExact.{exact_reads, exact_stops, Stuck}
use Rattle.mh_tabfile_read.proofs.SplitLines.{split_some, IsCut, is_cut, cut_whole, cut_early, cut_unended, cut_misplaced}

-- A list with at least one item has a last item.
last_of : {X : Type 0} (x : X) (xs : List X) → (front : List X) × (last : X) × (front ++ last ∷ [] ≡ x ∷ xs)
last_of x [] = ([], x, refl)
last_of x (y ∷ ys) = let r = last_of y ys in (x ∷ r.0, r.1, ap (λ zs. x ∷ zs) r.2)

module _ (bytes : List ℕ) where
  abbrev FileOrBad : Type 0
  FileOrBad = ((raw : RawTable) × IsFileOf bytes raw) ⊎ ((line : ℕ) × IsBadLine bytes line)

  module _ (parts : List (List ℕ)) (last : List ℕ) (cut : IsCut bytes parts last) where
    open_end : (b : ℕ) (bs : List ℕ) → last ≡ b ∷ bs → Begins (lines_in parts) → FileOrBad
    open_end b bs some begins = inr (length parts + 1, cut_unended bytes parts last cut (omega (arith, ap length some)) begins (length parts + 1) refl)

    whole : (raw : RawTable) → Spells (lines_in parts) raw → (t : List ℕ) → last ≡ t → FileOrBad
    whole raw spelled [] none = inl (raw, cut_whole bytes parts last raw cut (ap length none) spelled)
    whole raw spelled (b ∷ bs) some = open_end b bs some ([], raw, subst (λ (ls : List Line). Spells ls raw) (sym (append-nil (lines_in parts))) spelled)

    early : Begins (lines_in parts) → ((raw : RawTable) → Spells (lines_in parts) raw → ⊥) → (t : List ℕ) → last ≡ t → FileOrBad
    early begins nothing [] none = inr (max 1 (length parts), cut_early bytes parts last cut (ap length none) begins nothing (max 1 (length parts)) refl)
    early begins nothing (b ∷ bs) some = open_end b bs some begins

    stuck : (rest : List Line) → Stuck (lines_in parts) rest → FileOrBad
    stuck [] s = early (subst Begins (sym (s.split ∙ append-nil s.before)) s.begins) s.nothing last refl
    stuck (x ∷ xs) s = inr (length s.before + 1, cut_misplaced bytes parts last cut (length s.before + 1) (record { before = s.before; line = x; rest = xs; split = s.split; begins = s.begins; first = s.first x xs refl; number = refl }))

    by_outcome : (o : Outcome) → run initial_reader (lines_in parts) ≡ o → FileOrBad
    by_outcome (Reads raw) e = whole raw (exact_reads (lines_in parts) raw e) last refl
    by_outcome (Stops rest) e = stuck rest (exact_stops (lines_in parts) rest e)

  split : (ps : List (List ℕ)) → ps ≡ slice_split (λ b. b == 10) bytes → FileOrBad
  split [] e = absurd (split_some (λ b. b == 10) bytes (sym e))
  split (p ∷ ps) e = let r = last_of p ps in by_outcome r.0 r.1 (is_cut bytes r.0 r.1 (r.2 ∙ e)) (run initial_reader (lines_in r.0)) refl

  pub read_or_bad : FileOrBad
  read_or_bad = split (slice_split (λ b. b == 10) bytes) refl
