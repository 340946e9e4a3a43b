-- Lemmas for the loops that decide on the lines and the entries of a file in order.
use Rattle.std.proofs.Common.{◌≡◌, ◌<◌, ◌+◌, ℕ, Bool, true, false, ◌||◌, List, [], ◌∷◌, ◌++◌, length, map, take, get_or, Option, refl, sym, ◌∙◌, ap, subst, append_assoc, append-nil}
use Rattle.std.proofs.lemmas.List.{map-append}
use Rattle.std.proofs.lemmas.Grind.{flat_map-append}
use Rattle.mh_grammar.proofs.Lists.{take_step}
use Rattle.mh_grammar.specs.declared.types.Grammar.{Grammar}
use Rattle.mh_grammar.specs.Text.{Text}
use Rattle.mh_items_kernels.specs.KernelTypes.{Automaton}
use Rattle.mh_tables_core.specs.Table.{TableData}
use Rattle.mh_msgfile.specs.Sentences.{vocabulary_of, sentence_in}
use Rattle.mh_msgfile.specs.declared.loose.LooseLine.{LooseLine}
use Rattle.mh_msgfile.specs.declared.loose.LooseEntry.{LooseEntry}
use Rattle.mh_rebase.specs.Decisions.{DecidedLine, is_keep, AreDecided}
use Rattle.mh_rebase.specs.RebasedText.{DecidedEntry, without_decisions, lines_in, has_kept, kept_sentence_text, kept_sentence_texts, message_if_kept, kept_entry_text, kept_entries_text, dropped_line_text, dropped_lines_text, message_if_lost, dropped_entry_text, dropped_entries_text}
use Rattle.mh_rebase.specs.code.Parts.{AreKeptLines, DecidesLine, DecidesLines, DecidesEntries}
use Rattle.mh_rebase.specs.declared.entries.Parts.{Parts}

abbrev pub line_of : DecidedLine → LooseLine
line_of j = j.line

or_more : (b c : Bool) (d : Bool) → ((b || c) || d) ≡ (b || (c || d))
or_more true c d = refl
or_more false c d = refl

some_push : (js : List DecidedLine) (j : DecidedLine) → has_kept (js ++ j ∷ []) ≡ (has_kept js || is_keep j.decision)
some_push [] j = or_false (is_keep j.decision)
  where
    or_false : (b : Bool) → (b || false) ≡ b
    or_false true = refl
    or_false false = refl
some_push (k ∷ ks) j = ap (λ (b : Bool). is_keep k.decision || b) (some_push ks j) ∙ sym (or_more (is_keep k.decision) (has_kept ks) (is_keep j.decision))

-- Appending two texts one after the other appends both.
text_more : (old middle new first second : Text) → middle ≡ old ++ first → new ≡ middle ++ second → new ≡ old ++ (first ++ second)
text_more old middle new first second p q = q ∙ ap (λ (l : Text). l ++ second) p ∙ append_assoc old first second

module _ (expected : Bool) (g : Grammar) (a : Automaton) (t : TableData) where
  pub decided_append : (before js ks : List DecidedLine) → AreDecided expected g a t before js → AreDecided expected g a t (before ++ js) ks → AreDecided expected g a t before (js ++ ks)
  decided_append before [] ks p q = subst (λ (l : List DecidedLine). AreDecided expected g a t l ks) (append-nil before) q
  decided_append before (j ∷ js) ks p q = (p.0, decided_append (before ++ j ∷ []) js ks p.1 (subst (λ (l : List DecidedLine). AreDecided expected g a t l ks) (sym (append_assoc before (j ∷ []) js)) q))

  -- ---- Deciding on one line after the other decides on all lines.

  pub lines_none : (p : Parts) → DecidesLines expected g a t [] false p p
  lines_none p = record {
    done = [];
    of_lines = refl;
    kept_is = refl;
    decided = λ before are. (tt, subst (λ (l : List DecidedLine). AreKeptLines l p.kept_lines.items) (sym (append-nil before)) are);
    keeps = sym (append-nil p.kept.items);
    drops = sym (append-nil p.dropped.items);
  }

  pub lines_more : (lines : List LooseLine) (i : ℕ) (line : LooseLine) (kept more : Bool) (old middle new : Parts) → i < length lines → line ≡ get_or lines i line → DecidesLines expected g a t (take i lines) kept old middle
      → DecidesLine expected g a t line.line (sentence_in (vocabulary_of g) line.text) more middle new → DecidesLines expected g a t (take (i + 1) lines) (kept || more) old new
  lines_more lines i line kept more old middle new lt here first next =
      let one : DecidedLine = record { line = line; decision = next.decision } in record {
        done = first.done ++ one ∷ [];
        of_lines = map-append line_of first.done (one ∷ []) ∙ ap (λ (l : List LooseLine). l ++ line ∷ []) first.of_lines ∙ sym (take_step lines i line lt here);
        kept_is = ap (λ (b : Bool). b || more) first.kept_is ∙ ap (λ (b : Bool). has_kept first.done || b) next.kept_is ∙ sym (some_push first.done one);
        decided = λ before are.
            let one_decided = next.decided (before ++ first.done) (first.decided before are).1 line.text refl in (
              decided_append before first.done (one ∷ []) (first.decided before are).0 (one_decided.0, tt),
              subst (λ (l : List DecidedLine). AreKeptLines l new.kept_lines.items) (append_assoc before first.done (one ∷ [])) one_decided.1,
            );
        keeps = text_more old.kept.items middle.kept.items new.kept.items (kept_sentence_texts g first.done) (kept_sentence_text g next.decision) first.keeps next.keeps
            ∙ ap (λ (l : Text). old.kept.items ++ l) (ap (λ (l : Text). kept_sentence_texts g first.done ++ l) (sym (append-nil (kept_sentence_text g next.decision))) ∙ sym (flat_map-append (λ (j : DecidedLine). kept_sentence_text g j.decision) first.done (one ∷ [])));
        drops = text_more old.dropped.items middle.dropped.items new.dropped.items (dropped_lines_text first.done) (dropped_line_text line.line next.decision) first.drops next.drops
            ∙ ap (λ (l : Text). old.dropped.items ++ l)
            (ap (λ (l : Text). dropped_lines_text first.done ++ l) (sym (append-nil (dropped_line_text line.line next.decision))) ∙ sym (flat_map-append (λ (j : DecidedLine). dropped_line_text j.line.line j.decision) first.done (one ∷ [])));
      }

  -- ---- Deciding on one entry after the other decides on all entries.

  -- If the lines of an entry are decided on, and then its message is written, the entry is decided on.
  pub entry_added : (entry : LooseEntry) (kept : Bool) (old middle new : Parts) → DecidesLines expected g a t entry.sentences kept old middle → new.kept_lines.items ≡ middle.kept_lines.items → new.kept.items ≡ middle.kept.items ++ message_if_kept kept entry.message
      → new.dropped.items ≡ middle.dropped.items ++ message_if_lost kept entry.message → DecidesEntries expected g a t (entry ∷ []) old new
  entry_added entry kept old middle new added kept_lines keeps drops =
      let one : DecidedEntry = record { sentences = added.done; message = entry.message } in record {
        done = one ∷ [];
        of_entries = (let same = added.of_lines in λ i. record { sentences = same i; message = entry.message } ∷ []);
        decided = λ before are. (
          subst (λ (l : List DecidedLine). AreDecided expected g a t before l) (sym (append-nil added.done)) (added.decided before are).0,
          subst (λ (l : List DecidedLine). AreKeptLines (before ++ l) new.kept_lines.items) (sym (append-nil added.done)) (subst (λ (ps : List (Option ℕ)). AreKeptLines (before ++ added.done) ps) (sym kept_lines) (added.decided before are).1),
        );
        keeps = text_more old.kept.items middle.kept.items new.kept.items (kept_sentence_texts g added.done) (message_if_kept (has_kept added.done) entry.message) added.keeps
            (keeps ∙ ap (λ (b : Bool). middle.kept.items ++ message_if_kept b entry.message) added.kept_is) ∙ ap (λ (l : Text). old.kept.items ++ l) (sym (append-nil (kept_entry_text g one)));
        drops = text_more old.dropped.items middle.dropped.items new.dropped.items (dropped_lines_text added.done) (message_if_lost (has_kept added.done) entry.message) added.drops
            (drops ∙ ap (λ (b : Bool). middle.dropped.items ++ message_if_lost b entry.message) added.kept_is) ∙ ap (λ (l : Text). old.dropped.items ++ l) (sym (append-nil (dropped_entry_text one)));
      }

  -- If the message of an entry is kept exactly if a sentence of the entry is, and is dropped otherwise, the entry is
  -- decided on.
  module _ (entry : LooseEntry) (lines : List LooseLine) (message : Text) (same : lines ≡ entry.sentences) (text : message ≡ entry.message) (kept : Bool) (old middle new : Parts) (added : DecidesLines expected g a t lines kept old middle) (kept_lines : new.kept_lines.items ≡ middle.kept_lines.items) where
    pub entry_with : kept ≡ true → new.dropped.items ≡ middle.dropped.items → new.kept.items ≡ middle.kept.items ++ message_if_kept true message → DecidesEntries expected g a t (entry ∷ []) old new
    entry_with is drops keeps =
        entry_added entry true old middle new (subst (λ (b : Bool). DecidesLines expected g a t entry.sentences b old middle) is (subst (λ (l : List LooseLine). DecidesLines expected g a t l kept old middle) same added)) kept_lines
        (keeps ∙ ap (λ (m : Text). middle.kept.items ++ message_if_kept true m) text) (drops ∙ sym (append-nil middle.dropped.items))

    pub entry_without : kept ≡ false → new.kept.items ≡ middle.kept.items → new.dropped.items ≡ middle.dropped.items ++ message_if_lost false message → DecidesEntries expected g a t (entry ∷ []) old new
    entry_without is keeps drops =
        entry_added entry false old middle new (subst (λ (b : Bool). DecidesLines expected g a t entry.sentences b old middle) is (subst (λ (l : List LooseLine). DecidesLines expected g a t l kept old middle) same added)) kept_lines
        (keeps ∙ sym (append-nil middle.kept.items)) (drops ∙ ap (λ (m : Text). middle.dropped.items ++ message_if_lost false m) text)

  pub entries_none : (p : Parts) → DecidesEntries expected g a t [] p p
  entries_none p = record {
    done = [];
    of_entries = refl;
    decided = λ before are. (tt, subst (λ (l : List DecidedLine). AreKeptLines l p.kept_lines.items) (sym (append-nil before)) are);
    keeps = sym (append-nil p.kept.items);
    drops = sym (append-nil p.dropped.items);
  }

  pub entries_more : (entries : List LooseEntry) (i : ℕ) (entry : LooseEntry) (old middle new : Parts) → i < length entries → entry ≡ get_or entries i entry → DecidesEntries expected g a t (take i entries) old middle
      → DecidesEntries expected g a t (entry ∷ []) middle new → DecidesEntries expected g a t (take (i + 1) entries) old new
  entries_more entries i entry old middle new lt here first next = record {
    done = first.done ++ next.done;
    of_entries = map-append without_decisions first.done next.done ∙ ap (λ (l : List LooseEntry). l ++ map without_decisions next.done) first.of_entries ∙ ap (λ (l : List LooseEntry). take i entries ++ l) next.of_entries
        ∙ sym (take_step entries i entry lt here);
    decided = λ before are.
        let both : lines_in first.done ++ lines_in next.done ≡ lines_in (first.done ++ next.done) = sym (flat_map-append (λ (e : DecidedEntry). e.sentences) first.done next.done) in
        let more = next.decided (before ++ lines_in first.done) (first.decided before are).1 in (
          subst (λ (l : List DecidedLine). AreDecided expected g a t before l) both (decided_append before (lines_in first.done) (lines_in next.done) (first.decided before are).0 more.0),
          subst (λ (l : List DecidedLine). AreKeptLines l new.kept_lines.items) (append_assoc before (lines_in first.done) (lines_in next.done) ∙ ap (λ (l : List DecidedLine). before ++ l) both) more.1,
        );
    keeps = text_more old.kept.items middle.kept.items new.kept.items (kept_entries_text g first.done) (kept_entries_text g next.done) first.keeps next.keeps
        ∙ ap (λ (l : Text). old.kept.items ++ l) (sym (flat_map-append (kept_entry_text g) first.done next.done));
    drops = text_more old.dropped.items middle.dropped.items new.dropped.items (dropped_entries_text first.done) (dropped_entries_text next.done) first.drops next.drops
        ∙ ap (λ (l : Text). old.dropped.items ++ l) (sym (flat_map-append dropped_entry_text first.done next.done));
  }
