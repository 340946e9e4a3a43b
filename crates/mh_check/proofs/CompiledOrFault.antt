-- Proves that on a table that halts a messages file is compiled or has a first fault.
use Rattle.std.proofs.Common.{◌≡◌, ℕ, ◌+◌, ◌<◌, ◌⊎◌, List, [], ◌∷◌, ◌++◌, length, Option, None, Some, replicate, set, map, ◌-◌, refl, sym, ◌∙◌, ap, subst, arith, inl, inr, append_assoc, append-nil}
use Rattle.std.specs.List.{slice_get, AllByRecursion}
use Rattle.std.proofs.lemmas.Bool.{cases_eq}
use Rattle.std.proofs.Math.Numerals.{lt_of_le_of_ne}
use Rattle.std.proofs.lemmas.List.{map-append, length-set, length-replicate}
use Rattle.std.proofs.lemmas.Option.{slice_get-get_or}
use Rattle.std.proofs.lemmas.List.Elements.{recursion_from_All}
use Rattle.mh_grammar.proofs.Lists.{recursion-append}
use Rattle.mh_tables_core.specs.Table.{TableData}
use Rattle.mh_tables_core.specs.Halting.{HaltingFacts}
use Rattle.mh_tables_core.specs.Run.{Ending, VerdictOf, Accepted, Overshot, Rejected}
use Rattle.mh_tables_core.proofs.RunEnds.{has_verdict}
use Rattle.mh_tables_core.proofs.RefusalIsCut.{verdict_cut}
use Rattle.mh_msgfile.specs.declared.messages.MsgSentence.{MsgSentence}
use Rattle.mh_msgfile.specs.declared.messages.Entry.{Entry}
use Rattle.mh_msgfile.specs.declared.messages.MsgFile.{MsgFile}
use Rattle.mh_msgfile.specs.Messages.{IsSentenceOf, AreSentencesOf}
use Rattle.mh_check.specs.declared.places.SentencePlace.{SentencePlace}
use Rattle.mh_check.specs.Checks.{FailsIn, SoundnessFault, NotRefusedAt, RefusedEarlyAt, SharedBy, Accepts, Overshoots, NotRefused, RefusedEarly, FirstFault, sentences_of}
use Rattle.mh_check.specs.Compiling.{IsCompiled}
use Rattle.mh_check.specs.code.Places.{EntrySentence, sentences_of_entry, sentences_of_entries, without_entries, place_of, ArePlaces}
use Rattle.mh_tables_core.proofs.RefusingState.{refusing_state_known}
use Rattle.mh_check.proofs.ArePlaces.{placed_more, placed_replicate, shares, breaks, first_more}
use Rattle.mh_check.proofs.IsCompiled.{is_compiled, sentences_are}

module _ (t : TableData) (h : HaltingFacts t) where
  abbrev Fits : EntrySentence → Type 0
  Fits x = IsSentenceOf (length t.grammar.starts) t.grammar.tokens x.sentence

  -- These sentences are sound, and some list has, for each state, the line and the entry of the sentence that fails
  -- there, if one does; or there is a first fault among the sentences.
  abbrev Settled : List EntrySentence → Type 0
  Settled all = ((places : List (Option SentencePlace)) × (length places ≡ length t.states) × ArePlaces t all places) ⊎ ((f : SoundnessFault) × FirstFault t (without_entries all) f)

  one_first : (done : List EntrySentence) (x : EntrySentence) (rest : List EntrySentence) → (done ++ x ∷ []) ++ rest ≡ done ++ x ∷ rest
  one_first done x rest = append_assoc done (x ∷ []) rest

  -- A first fault of a prefix is the first fault of the whole list.
  fault_all : (done : List EntrySentence) (x : EntrySentence) (rest : List EntrySentence) (f : SoundnessFault) → FirstFault t (without_entries (done ++ x ∷ [])) f → Settled (done ++ x ∷ rest)
  fault_all done x rest f first =
      inr (
        f,
        subst (λ (l : List MsgSentence). FirstFault t l f) (sym (map-append (λ (y : EntrySentence). y.sentence) (done ++ x ∷ []) rest) ∙ ap without_entries (one_first done x rest))
            (first_more t (without_entries (done ++ x ∷ [])) (without_entries rest) f first),
      )

  -- The next sentence x, given the claim for the sentences after it.
  module _ (done : List EntrySentence) (x : EntrySentence) (rest : List EntrySentence) (places : List (Option SentencePlace)) (fits : Fits x) (size : length places ≡ length t.states) (placed : ArePlaces t done places) (on : (new : List (Option SentencePlace)) → length new ≡ length t.states → ArePlaces t (done ++ x ∷ []) new → Settled ((done ++ x ∷ []) ++ rest)) where
    at_place : (s : ℕ) (o : Option (Option SentencePlace)) → FailsIn t x.sentence s → s < length places → slice_get places s ≡ o → Settled (done ++ x ∷ rest)
    at_place s None fails within is = let there = slice_get-get_or places s None within in absurd (cc)
    at_place s (Some None) fails within is =
        subst Settled (one_first done x rest)
        (on (set places s (Some (place_of x))) (length-set places s (Some (place_of x)) ∙ size) (placed_more t done x s places placed fails within is))
    at_place s (Some (Some p)) fails within is = fault_all done x rest (SharedBy p.line x.sentence.line s) (shares t done x s places placed fails within p is)

    refused : (at s : ℕ) → VerdictOf t x.sentence.start x.sentence.tokens (Rejected at s) → Settled (done ++ x ∷ rest)
    refused at s verdict =
        elim (cases_eq (at + 1) (length x.sentence.tokens)) [
          | inl last ↦ (
              let known : s < length t.states = refusing_state_known t h.facts x.sentence.start x.sentence.tokens at s fits.start verdict in
              let place : at ≡ length x.sentence.tokens - 1 = omega arith in
              at_place s (slice_get places s) (record {
                sentence = record { known = fits.start; tokens = recursion_from_All (λ z. z < t.grammar.tokens) x.sentence.tokens fits.known };
                some_token = omega arith;
                verdict = subst (λ (k : ℕ). VerdictOf t x.sentence.start x.sentence.tokens (Rejected k s)) place verdict;
              }) (omega arith) refl)
          | inr other ↦ (
              let within : at < length x.sentence.tokens = (verdict_cut t x.sentence.start x.sentence.tokens at s verdict).0 in
              fault_all done x rest (RefusedEarlyAt x.sentence.line at) (breaks t done x places (RefusedEarlyAt x.sentence.line at) placed (RefusedEarly at s (lt_of_le_of_ne (omega arith) other) verdict)))
        ]

    by_verdict : (how : Ending) → VerdictOf t x.sentence.start x.sentence.tokens how → Settled (done ++ x ∷ rest)
    by_verdict (Accepted read) verdict = fault_all done x rest (NotRefusedAt x.sentence.line (Accepted read)) (breaks t done x places (NotRefusedAt x.sentence.line (Accepted read)) placed (NotRefused (Accepted read) (Accepts read) verdict))
    by_verdict (Overshot state) verdict = fault_all done x rest (NotRefusedAt x.sentence.line (Overshot state)) (breaks t done x places (NotRefusedAt x.sentence.line (Overshot state)) placed (NotRefused (Overshot state) (Overshoots state) verdict))
    by_verdict (Rejected at s) verdict = refused at s verdict

  settle : (rest done : List EntrySentence) (places : List (Option SentencePlace)) → AllByRecursion Fits rest → length places ≡ length t.states → ArePlaces t done places → Settled (done ++ rest)
  settle [] done places fits size placed = inl (places, size, subst (λ (l : List EntrySentence). ArePlaces t l places) (sym (append-nil done)) placed)
  settle (x ∷ rest) done places fits size placed =
      let has = has_verdict t h x.sentence.start x.sentence.tokens fits.0.start (recursion_from_All (λ z. z < t.grammar.tokens) x.sentence.tokens fits.0.known) in
      by_verdict done x rest places fits.0 size placed (λ new length_is more. settle rest (done ++ x ∷ []) new fits.1 length_is more) has.0 has.1

  fits_entry : (entry : ℕ) (xs : List MsgSentence) → AllByRecursion (IsSentenceOf (length t.grammar.starts) t.grammar.tokens) xs → AllByRecursion Fits (sentences_of_entry entry xs)
  fits_entry entry [] of = tt
  fits_entry entry (x ∷ xs) of = (of.0, fits_entry entry xs of.1)

  fits_from : (entry : ℕ) (es : List Entry) → AllByRecursion (λ e. AllByRecursion (IsSentenceOf (length t.grammar.starts) t.grammar.tokens) e.sentences) es → AllByRecursion Fits (sentences_of_entries entry es)
  fits_from entry [] of = tt
  fits_from entry (e ∷ es) of = recursion-append Fits (sentences_of_entry entry e.sentences) (sentences_of_entries (entry + 1) es) (fits_entry entry e.sentences of.0) (fits_from (entry + 1) es of.1)

  pub compiled_or_fault : (file : MsgFile) → AreSentencesOf (length t.grammar.starts) t.grammar.tokens file → ((compiled : List (Option (List ℕ))) × IsCompiled t file compiled) ⊎ ((f : SoundnessFault) × FirstFault t (sentences_of file) f)
  compiled_or_fault file of =
      let none : List (Option SentencePlace) = replicate (length t.states) None in
      by (settle (sentences_of_entries 0 file.entries) [] none (fits_from 0 file.entries of) (length-replicate {A = Option SentencePlace} (length t.states) None) (placed_replicate t (length t.states) none refl))
    where
      by : Settled (sentences_of_entries 0 file.entries) → ((compiled : List (Option (List ℕ))) × IsCompiled t file compiled) ⊎ ((f : SoundnessFault) × FirstFault t (sentences_of file) f)
      by (inl (places, size, placed)) = inl (_, is_compiled t file places (map (λ (e : Entry). e.message) file.entries) refl placed size)
      by (inr (f, first)) = inr (f, subst (λ (xs : List MsgSentence). FirstFault t xs f) (sentences_are file) first)
