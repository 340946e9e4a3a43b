-- Lemmas on the loop that writes the compiled messages, state by state.
use Rattle.std.proofs.Common.{◌≡◌, ℕ, ◌+◌, ◌<◌, ◌≤◌, List, ◌∷◌, ◌++◌, length, drop, Option, None, get_or, sym, ◌∙◌, ap, add-one, append_assoc, append-nil, option_and_then}
use Rattle.std.proofs.lemmas.List.{drop_all}
use Rattle.std.proofs.lemmas.Option.{slice_get-get_or}
use Rattle.std.proofs.Math.Seq.{drop-cons}
use Rattle.mh_check.specs.Compiling.{message_at, itself}
use Rattle.mh_grammar.specs.Text.{Text}
use Rattle.mh_check.specs.Texts.{message_text, compiled_from, compiled_text}

module _ (compiled : List (Option Text)) where
  here : (s : ℕ) → s < length compiled → message_at compiled s ≡ get_or compiled s None
  here s lt = ap (λ (o : Option (Option Text)). option_and_then itself o) (slice_get-get_or compiled s None lt)

  abbrev pub WrittenTo : Text → ℕ → Type 0
  WrittenTo text s = text ++ compiled_from s (drop s compiled) ≡ compiled_text compiled

  pub written_more : (text new : Text) (s : ℕ) → s < length compiled → new ≡ text ++ message_text s (message_at compiled s) → WrittenTo text s → WrittenTo new (s + 1)
  written_more text new s lt added so_far =
      let rest = drop (s + 1) compiled in
      let first : drop s compiled ≡ get_or compiled s None ∷ rest = drop-cons compiled s None lt ∙ ap (λ (k : ℕ). get_or compiled s None ∷ drop k compiled) (sym (add-one s)) in
      let step : compiled_from s (drop s compiled) ≡ message_text s (message_at compiled s) ++ compiled_from (s + 1) rest =
      ap (compiled_from s) first ∙ ap (λ (o : Option Text). message_text s o ++ compiled_from (s + 1) rest) (sym (here s lt)) in
      ap (λ (l : Text). l ++ compiled_from (s + 1) rest) added ∙ append_assoc text (message_text s (message_at compiled s)) (compiled_from (s + 1) rest) ∙ ap (λ (l : Text). text ++ l) (sym step) ∙ so_far

  pub written_all : (text : Text) (s : ℕ) → length compiled ≤ s → WrittenTo text s → text ≡ compiled_text compiled
  written_all text s le so_far = sym (ap (λ (l : List (Option Text)). text ++ compiled_from s l) (drop_all s compiled le) ∙ append-nil text) ∙ so_far
