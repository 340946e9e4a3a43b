-- Proves that the reader stops exactly at the first line that no table file has at this position.
use Rattle.std.proofs.Common.{◌≡◌, ◌+◌, ◌<◌, ◌≤◌, ℕ, suc, List, [], ◌∷◌, ◌++◌, length, map, drop, get_or, Bor, Option, Some, None, refl, sym, ap, ◌∙◌, subst, arith, append_assoc, drop-cons, drop_of_length-le, length-append, length-drop, append-nil}
use Rattle.mh_tabfile_form.specs.declared.types.RawTable.{RawTable}
use Rattle.mh_tabfile_read.specs.declared.places.Reader.{Reader}
use Rattle.mh_tabfile_read.specs.declared.places.ExpectedLine.{ExpectedLine}
use Rattle.mh_tabfile_read.specs.declared.places.ExpectedLine.TheVariants as places
use Rattle.std.proofs.lemmas.List.{length-map}
use Rattle.mh_tabfile_read.specs.code.Lines.{words_of, lines_in, IsMisplaced}
use Rattle.mh_tabfile_form.specs.Form.{Line, Spells, Begins, lines_of}
use Rattle.mh_tabfile_read.specs.code.Machine.{next, finish, run, go_on, ended, Outcome, initial_reader, table_of}
use Rattle.mh_tabfile_read.specs.code.Machine.Outcome.{Reads, Stops}
use Rattle.mh_tabfile_read.proofs.RunComplete.{expecting, CanEnd, file_is_read, can_end_head, can_end_tokens, can_end_costs, can_end_starts, can_end_productions, can_end_listing, can_end_between, can_end_items, can_end_edges, can_end_cells, can_end_ended}
use Rattle.mh_tabfile_read.proofs.RunSound.{IsSoundReader, InvariantAt, sound_start, next_sound, run_sound}

live_at : (place : ExpectedLine) (r : Reader) → InvariantAt place r → CanEnd (expecting r place)
live_at places.Head r h = can_end_head r h.1
live_at places.Tokens r h = can_end_tokens r h.1
live_at places.Costs r h = can_end_costs r h.1
live_at places.Starts r h = can_end_starts r h.1
live_at places.Productions r h = can_end_productions r h.1
live_at (places.Listing left) r h = can_end_listing left r h.1
live_at (places.Between left) r h = can_end_between left r h.1
live_at (places.Items left) r h = can_end_items r left h.1
live_at (places.Edges left) r h = can_end_edges r left h.1
live_at (places.Cells left) r h = can_end_cells r left h.1
live_at places.Ended r h = can_end_ended r

live : (r : Reader) → IsSoundReader r → CanEnd r
live r g = live_at r.place r g.holds

pub exact_reads : (ls : List Line) (raw : RawTable) → run initial_reader ls ≡ Reads raw → Spells ls raw
exact_reads ls raw e = run_sound ls initial_reader raw sound_start e

pub exact_spelled : (ls : List Line) (raw : RawTable) → Spells ls raw → run initial_reader ls ≡ Reads raw
exact_spelled ls raw (h, e) = ap (run initial_reader) e ∙ file_is_read raw h

pub spelled_once : (ls : List Line) (one two : RawTable) → Spells ls one → Spells ls two → one ≡ two
spelled_once ls one two h k = let e = exact_spelled ls one h in let f = exact_spelled ls two k in cc

-- The reader is stopped here: no line is left, or the next line is refused.
abbrev pub Blocked : Reader → List Line → Type 0
Blocked t [] = Unit {0}
Blocked t (x ∷ xs) = next t x ≡ None

-- The reader r reads the lines before `rest` and is then the reader `at`, which is stopped there: no line is left, or
-- the first line of `rest` is refused.
pub record SplitsAtStop (r : Reader) (ls rest : List Line) : Type 0 where
  pub before : List Line
  pub at : Reader
  pub sound : IsSoundReader at
  pub split : ls ≡ before ++ rest
  pub runs : (ys : List Line) → run r (before ++ ys) ≡ run at ys
  pub blocked : Blocked at rest

stopped_later : (s t : Reader) (x : Line) (xs rest : List Line) → next s x ≡ Some t → SplitsAtStop t xs rest → SplitsAtStop s (x ∷ xs) rest
stopped_later s t x xs rest e h = record {
  before = x ∷ h.before;
  at = h.at;
  sound = h.sound;
  split = ap (λ l. x ∷ l) h.split;
  runs = λ ys. ap (λ o. go_on o x (h.before ++ ys) (λ u. run u (h.before ++ ys))) e ∙ h.runs ys;
  blocked = h.blocked;
}

same_rest : (xs ys : List Line) → Stops xs ≡ Stops ys → xs ≡ ys
same_rest xs ys e = cc

ended_stops : (o : Option RawTable) (rest : List Line) → ended o ≡ Stops rest → [] ≡ rest
ended_stops None rest e = cc
ended_stops (Some raw) rest e = cc

stops_at : (x : Line) (xs : List Line) (s : Reader) (rest : List Line) (o : Option Reader) → IsSoundReader s → ((t : Reader) → IsSoundReader t → run t xs ≡ Stops rest → SplitsAtStop t xs rest) →
    next s x ≡ o → go_on o x xs (λ t. run t xs) ≡ Stops rest → SplitsAtStop s (x ∷ xs) rest
stops_at x xs s rest None g h f e = subst (λ k. SplitsAtStop s (x ∷ xs) k) (same_rest (x ∷ xs) rest e) (record { before = []; at = s; sound = g; split = refl; runs = λ ys. refl; blocked = f })
stops_at x xs s rest (Some t) g h f e = let k = next_sound s t x g f in stopped_later s t x xs rest f (h t (record { parts = k.parts; holds = k.holds }) e)

pub stops : (ls : List Line) (s : Reader) (rest : List Line) → IsSoundReader s → run s ls ≡ Stops rest → SplitsAtStop s ls rest
stops [] s rest g e = subst (λ k. SplitsAtStop s [] k) (ended_stops (finish s) rest e) (record { before = []; at = s; sound = g; split = refl; runs = λ ys. refl; blocked = tt })
stops (x ∷ xs) s rest g e = stops_at x xs s rest (next s x) g (λ t k f. stops xs t rest k f) refl e

-- The lines before `rest` begin some file, but with the first line of `rest` they do not. If `rest` is empty, the lines
-- are not a whole file.
pub record Stuck (ls rest : List Line) : Type 0 where
  pub before : List Line
  pub split : ls ≡ before ++ rest
  pub begins : Begins before
  pub first : (x : Line) (xs : List Line) → rest ≡ x ∷ xs → Begins (before ++ x ∷ []) → ⊥
  pub nothing : (raw : RawTable) → Spells ls raw → ⊥

blocked_run : (t : Reader) (x : Line) (xs ys : List Line) → next t x ≡ None → run t (x ∷ ys) ≡ Stops (x ∷ ys)
blocked_run t x xs ys e = ap (λ o. go_on o x ys (λ u. run u ys)) e

not_both : (o : Outcome) (raw : RawTable) (rest : List Line) → o ≡ Reads raw → o ≡ Stops rest → ⊥
not_both o raw rest e f = cc

stopped_first : (ls rest : List Line) (h : SplitsAtStop initial_reader ls rest) (x : Line) (xs : List Line) → rest ≡ x ∷ xs → Begins (h.before ++ x ∷ []) → ⊥
stopped_first ls rest h x xs e (ys, raw, b) =
    let blocked = subst (λ k. Blocked h.at k) e h.blocked in
    let spelled = subst (λ k. run initial_reader k ≡ Reads raw) (append_assoc h.before (x ∷ []) ys) (exact_spelled ((h.before ++ x ∷ []) ++ ys) raw b) in
    not_both (run initial_reader (h.before ++ x ∷ ys)) raw (x ∷ ys) spelled (h.runs (x ∷ ys) ∙ blocked_run h.at x xs ys blocked)

pub exact_stops : (ls rest : List Line) → run initial_reader ls ≡ Stops rest → Stuck ls rest
exact_stops ls rest e = let h = stops ls initial_reader rest sound_start e in let l = live h.at h.sound in record {
  before = h.before;
  split = h.split;
  begins = (l.0, l.1, exact_reads (h.before ++ l.0) l.1 (h.runs l.0 ∙ l.2));
  first = stopped_first ls rest h;
  nothing = λ raw b. not_both (run initial_reader ls) raw rest (exact_spelled ls raw b) e;
}

-- ---- The first refused line, given by its position in the list of lines.

lines_length : (parts : List (Bor (List ℕ))) → length (lines_in (map (λ x. x.now) parts)) ≡ length parts
lines_length parts = length-map (map (λ x. x.now) parts) words_of ∙ length-map parts (λ x. x.now)

-- If the reader r, which has read the first `at` lines, refuses the next line x, then this line (number at + 1) is
-- misplaced.
pub refused_line_at : (parts : List (Bor (List ℕ))) (r : Reader) (at : ℕ) (d : Bor (List ℕ)) (x : Line) → run initial_reader (lines_in (map (λ x. x.now) parts)) ≡ run r (lines_in (map (λ x. x.now) (drop at parts))) →
    at < length parts → x ≡ words_of (get_or parts at d).now → next r x ≡ None → IsMisplaced (lines_in (map (λ x. x.now) parts)) (at + 1)
refused_line_at parts r at d x e h i n =
    let ls = lines_in (map (λ x. x.now) parts) in
    let more = lines_in (map (λ x. x.now) (drop (suc at) parts)) in
    let split : lines_in (map (λ x. x.now) (drop at parts)) ≡ x ∷ more = ap (λ l. lines_in (map (λ x. x.now) l)) (drop-cons parts at d h) ∙ ap (λ y. y ∷ more) (sym i) in
    let s = exact_stops ls (x ∷ more) (e ∙ ap (λ l. run r l) split ∙ blocked_run r x more more n) in
    let whole : length ls ≡ length s.before + length (x ∷ more) = ap length s.split ∙ length-append s.before (x ∷ more) in
    record {
      before = s.before;
      line = x;
      rest = more;
      split = s.split;
      begins = s.begins;
      first = s.first x more refl;
      number = omega (arith, whole, lines_length parts, lines_length (drop (suc at) parts), length-drop (suc at) parts, h);
    }

-- If all lines are accepted, some file begins with them.
begin_at : (o : Option RawTable) (ls : List Line) → run initial_reader ls ≡ ended o → Begins ls
begin_at (Some raw) ls f = ([], raw, subst (λ l. Spells l raw) (sym (append-nil ls)) (exact_reads ls raw f))
begin_at None ls f = let s = exact_stops ls [] f in subst Begins (sym (s.split ∙ append-nil s.before)) s.begins

pub read_lines_begin : (ls : List Line) (r : Reader) → run initial_reader ls ≡ run r [] → Begins ls
read_lines_begin ls r e = begin_at (finish r) ls e

pub read_lines_spell : (ls : List Line) (r : Reader) (raw : RawTable) → run initial_reader ls ≡ run r [] → finish r ≡ Some raw → Spells ls raw
read_lines_spell ls r raw e f = exact_reads ls raw (e ∙ ap ended f)

pub read_lines_incomplete : (ls : List Line) (r : Reader) (raw : RawTable) → run initial_reader ls ≡ run r [] → finish r ≡ None → Spells ls raw → ⊥
read_lines_incomplete ls r raw e f s = not_both (run initial_reader ls) raw [] (exact_spelled ls raw s) (e ∙ ap ended f)
