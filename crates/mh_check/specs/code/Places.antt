-- The contracts of the loop over the sentences: for each state the code keeps the place (line and entry) of the
-- sentence that fails there.
use Rattle.std.specs.Prelude.{◌≡◌, ℕ, ◌+◌, List, [], ◌∷◌, ◌++◌, map, length, slice_get, Option, Some, None, option_and_then, Result, Ok, Err, Vec}
use Rattle.std.specs.declared.alloc.Global.{Global}
use Rattle.std.specs.List.{Contains}
use Rattle.mh_tables_core.specs.Table.{TableData}
use Rattle.mh_msgfile.specs.declared.messages.MsgSentence.{MsgSentence}
use Rattle.mh_msgfile.specs.declared.messages.Entry.{Entry}
use Rattle.mh_check.specs.declared.places.SentencePlace.{SentencePlace}
use Rattle.mh_check.specs.declared.compiling.CheckFault.{CheckFault}
use Rattle.mh_check.specs.Checks.{FailsIn, Sound, FirstFault}
use Rattle.mh_check.specs.Compiling.{ReportsCheckFault}

-- A sentence, with the index of its entry.
pub record EntrySentence : Type 0 where
  pub sentence : MsgSentence
  pub entry : ℕ

abbrev pub entry_sentence : ℕ → MsgSentence → EntrySentence
entry_sentence entry sentence = record { sentence = sentence; entry = entry }

abbrev pub sentences_of_entry : ℕ → List MsgSentence → List EntrySentence
sentences_of_entry entry xs = map (entry_sentence entry) xs

-- The sentences of these entries, of which the first has the index `entry`.
abbrev pub sentences_of_entries : ℕ → List Entry → List EntrySentence
sentences_of_entries entry [] = []
sentences_of_entries entry (e ∷ es) = sentences_of_entry entry e.sentences ++ sentences_of_entries (entry + 1) es

abbrev pub without_entries : List EntrySentence → List MsgSentence
without_entries xs = map (λ x. x.sentence) xs

abbrev pub place_of : EntrySentence → SentencePlace
place_of x = record { line = x.sentence.line; entry = x.entry }

-- The sentences `done` are sound, and `places` has, for each state, the place of the sentence that fails there, if a
-- sentence does.
pub record ArePlaces (t : TableData) (done : List EntrySentence) (places : List (Option SentencePlace)) : Type 0 where
  pub sound : Sound t (without_entries done)
  pub found : (s : ℕ) (p : SentencePlace) → slice_get places s ≡ Some (Some p) → (x : EntrySentence) × Contains done x × FailsIn t x.sentence s × (p ≡ place_of x)
  pub kept : (x : EntrySentence) (s : ℕ) → Contains done x → FailsIn t x.sentence s → slice_get places s ≡ Some (Some (place_of x))

-- The result of a call that checks the sentences `more` after the sentences `done`.
abbrev pub PlacesMoreSentences : TableData → List EntrySentence → List EntrySentence → List (Option SentencePlace) → {T : Type 0} → Result T CheckFault → Type 0
PlacesMoreSentences t done more new (Ok _) = ArePlaces t (done ++ more) new
PlacesMoreSentences t done more new (Err fault) = ReportsCheckFault fault (FirstFault t (without_entries (done ++ more)))

-- The result is the places of all sentences of these entries, or their first fault.
abbrev pub PlacesAllSentences : TableData → List Entry → Result (List (Option SentencePlace)) CheckFault → Type 0
PlacesAllSentences t es (Ok places) = (length places ≡ length t.states) × ArePlaces t (sentences_of_entries 0 es) places
PlacesAllSentences t es (Err fault) = ReportsCheckFault fault (FirstFault t (without_entries (sentences_of_entries 0 es)))

-- The result with the list of a vector's items.
abbrev pub listed_places : Result (Vec (Option SentencePlace) Global) CheckFault → Result (List (Option SentencePlace)) CheckFault
listed_places (Ok places) = Ok places.items
listed_places (Err fault) = Err fault

-- The identity, written as a function because `option_and_then` takes one: it joins the two options of a place that may
-- be absent.
abbrev pub same_place : Option SentencePlace → Option SentencePlace
same_place o = o

-- The place of the sentence that fails in state s, if there is one.
abbrev pub place_in : List (Option SentencePlace) → ℕ → Option SentencePlace
place_in places s = option_and_then same_place (slice_get places s)

-- The message of the entry in which the sentence at this place is, if a place is given.
abbrev pub message_of_place : List (List ℕ) → Option SentencePlace → Option (List ℕ)
message_of_place messages None = None
message_of_place messages (Some p) = slice_get messages p.entry
