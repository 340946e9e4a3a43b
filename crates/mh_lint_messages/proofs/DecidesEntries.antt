-- Lemmas for the loops over the lines and the entries of a file, which decide in order whether each sentence line is
-- kept or dropped.
use Rattle.std.proofs.Common.{◌≡◌, ◌<◌, ◌+◌, ℕ, List, [], ◌∷◌, ◌++◌, length, map, take, get_or, Option, refl, sym, ◌∙◌, ap, subst, append_assoc, append-nil}
use Rattle.std.proofs.lemmas.List.{map-append}
use Rattle.std.proofs.lemmas.Grind.{flat_map-append}
use Rattle.mh_grammar.proofs.Lists.{take_step}
use Rattle.mh_grammar.specs.declared.types.Grammar.{Grammar}
use Rattle.mh_grammar.specs.Text.{Text}
use Rattle.mh_tables_core.specs.Table.{TableData}
use Rattle.mh_msgfile.specs.Sentences.{vocabulary_of, sentence_in}
use Rattle.mh_msgfile.specs.declared.loose.LooseLine.{LooseLine}
use Rattle.mh_msgfile.specs.declared.loose.LooseEntry.{LooseEntry}
use Rattle.mh_rebase.specs.Decisions.{DecidedLine}
use Rattle.mh_rebase.specs.RebasedText.{DecidedEntry, without_decisions, lines_in}
use Rattle.mh_rebase.specs.code.Parts.{AreKeptLines}
use Rattle.mh_rebase.specs.ErrorLines.{AreLineDecisions, decision_text, decision_texts, entry_text, entries_text, is_unwritten, last_line, unwritten_text}
use Rattle.mh_lint_messages.specs.code.Findings.{DecidesLine, DecidesLines, DecidesEntries}
use Rattle.mh_lint_messages.specs.declared.lines.Findings.{Findings}

abbrev pub line_of : DecidedLine → LooseLine
line_of j = j.line

pub last_line-push : (js : List DecidedLine) (j : DecidedLine) → last_line (js ++ j ∷ []) ≡ j.line.line
last_line-push [] j = refl
last_line-push (i ∷ []) j = refl
last_line-push (i ∷ k ∷ js) j = last_line-push (k ∷ js) j

-- Appending two texts one after the other appends both.
text_more : (old middle new first second : Text) → middle ≡ old ++ first → new ≡ middle ++ second → new ≡ old ++ (first ++ second)
text_more old middle new first second p q = q ∙ ap (λ (l : Text). l ++ second) p ∙ append_assoc old first second

module _ (g : Grammar) (t : TableData) where
  pub decided_append : (before js ks : List DecidedLine) → AreLineDecisions g t before js → AreLineDecisions g t (before ++ js) ks → AreLineDecisions g t before (js ++ ks)
  decided_append before [] ks p q = subst (λ (l : List DecidedLine). AreLineDecisions g t l ks) (append-nil before) q
  decided_append before (j ∷ js) ks p q = (p.0, decided_append (before ++ j ∷ []) js ks p.1 (subst (λ (l : List DecidedLine). AreLineDecisions g t l ks) (sym (append_assoc before (j ∷ []) js)) q))

  module _ (name : Text) where
    -- ---- Deciding on one line after the other decides on all lines.

    pub lines_none : (p : Findings) → DecidesLines g t name [] 0 p p
    lines_none p = record {
      done = [];
      of_lines = refl;
      last_is = refl;
      decided = λ before are. (tt, subst (λ (l : List DecidedLine). AreKeptLines l p.kept_lines.items) (sym (append-nil before)) are);
      written = sym (append-nil p.text.items);
    }

    pub lines_more : (lines : List LooseLine) (i : ℕ) (line : LooseLine) (last : ℕ) (old middle new : Findings) → i < length lines → line ≡ get_or lines i line → DecidesLines g t name (take i lines) last old middle
        → DecidesLine g t name line.line (sentence_in (vocabulary_of g) line.text) middle new → DecidesLines g t name (take (i + 1) lines) line.line old new
    lines_more lines i line last old middle new lt here first next =
        let one : DecidedLine = record { line = line; decision = next.decision } in record {
          done = first.done ++ one ∷ [];
          of_lines = map-append line_of first.done (one ∷ []) ∙ ap (λ (l : List LooseLine). l ++ line ∷ []) first.of_lines ∙ sym (take_step lines i line lt here);
          last_is = sym (last_line-push first.done one);
          decided = λ before are.
              let one_decided = next.decided (before ++ first.done) (first.decided before are).1 line.text refl in (
                decided_append before first.done (one ∷ []) (first.decided before are).0 (one_decided.0, tt),
                subst (λ (l : List DecidedLine). AreKeptLines l new.kept_lines.items) (append_assoc before first.done (one ∷ [])) one_decided.1,
              );
          written = text_more old.text.items middle.text.items new.text.items (decision_texts name first.done) (decision_text name line.line next.decision) first.written next.written
              ∙ ap (λ (l : Text). old.text.items ++ l)
              (ap (λ (l : Text). decision_texts name first.done ++ l) (sym (append-nil (decision_text name line.line next.decision))) ∙ sym (flat_map-append (λ (j : DecidedLine). decision_text name j.line.line j.decision) first.done (one ∷ [])));
        }

    -- ---- Deciding on one entry after the other decides on all entries.

    -- If the lines of an entry are decided on, and then its message is examined, the entry is decided on.
    pub entry_added : (entry : LooseEntry) (lines : List LooseLine) (message : Text) → lines ≡ entry.sentences → message ≡ entry.message → (last : ℕ) (old middle new : Findings) → DecidesLines g t name lines last old middle → new.kept_lines.items ≡ middle.kept_lines.items
        → new.text.items ≡ middle.text.items ++ unwritten_text name last (is_unwritten message) → DecidesEntries g t name (entry ∷ []) old new
    entry_added entry lines message same text last old middle new added kept_lines written =
        let one : DecidedEntry = record { sentences = added.done; message = entry.message } in record {
          done = one ∷ [];
          of_entries = (let is = added.of_lines ∙ same in λ i. record { sentences = is i; message = entry.message } ∷ []);
          decided = λ before are. (
            subst (λ (l : List DecidedLine). AreLineDecisions g t before l) (sym (append-nil added.done)) (added.decided before are).0,
            subst (λ (l : List DecidedLine). AreKeptLines (before ++ l) new.kept_lines.items) (sym (append-nil added.done)) (subst (λ (ps : List (Option ℕ)). AreKeptLines (before ++ added.done) ps) (sym kept_lines) (added.decided before are).1),
          );
          written = text_more old.text.items middle.text.items new.text.items (decision_texts name added.done) (unwritten_text name (last_line added.done) (is_unwritten entry.message)) added.written
              (written ∙ ap (λ (n : ℕ). middle.text.items ++ unwritten_text name n (is_unwritten message)) added.last_is ∙ ap (λ (m : Text). middle.text.items ++ unwritten_text name (last_line added.done) (is_unwritten m)) text)
              ∙ ap (λ (l : Text). old.text.items ++ l) (sym (append-nil (entry_text name one)));
        }

    pub entries_none : (p : Findings) → DecidesEntries g t name [] p p
    entries_none p = record {
      done = [];
      of_entries = refl;
      decided = λ before are. (tt, subst (λ (l : List DecidedLine). AreKeptLines l p.kept_lines.items) (sym (append-nil before)) are);
      written = sym (append-nil p.text.items);
    }

    pub entries_more : (entries : List LooseEntry) (i : ℕ) (entry : LooseEntry) (old middle new : Findings) → i < length entries → entry ≡ get_or entries i entry → DecidesEntries g t name (take i entries) old middle
        → DecidesEntries g t name (entry ∷ []) middle new → DecidesEntries g t name (take (i + 1) entries) old new
    entries_more entries i entry old middle new lt here first next = record {
      done = first.done ++ next.done;
      of_entries = map-append without_decisions first.done next.done ∙ ap (λ (l : List LooseEntry). l ++ map without_decisions next.done) first.of_entries ∙ ap (λ (l : List LooseEntry). take i entries ++ l) next.of_entries
          ∙ sym (take_step entries i entry lt here);
      decided = λ before are.
          let both : lines_in first.done ++ lines_in next.done ≡ lines_in (first.done ++ next.done) = sym (flat_map-append (λ (e : DecidedEntry). e.sentences) first.done next.done) in
          let more = next.decided (before ++ lines_in first.done) (first.decided before are).1 in (
            subst (λ (l : List DecidedLine). AreLineDecisions g t before l) both (decided_append before (lines_in first.done) (lines_in next.done) (first.decided before are).0 more.0),
            subst (λ (l : List DecidedLine). AreKeptLines l new.kept_lines.items) (append_assoc before (lines_in first.done) (lines_in next.done) ∙ ap (λ (l : List DecidedLine). before ++ l) both) more.1,
          );
      written = text_more old.text.items middle.text.items new.text.items (entries_text name first.done) (entries_text name next.done) first.written next.written
          ∙ ap (λ (l : Text). old.text.items ++ l) (sym (flat_map-append (entry_text name) first.done next.done));
    }
