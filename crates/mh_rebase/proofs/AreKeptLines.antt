-- Lemmas on the numbers of the kept lines, state by state, as one more line is decided on.
use Rattle.std.proofs.Common.{◌≡◌, ◌<◌, ℕ, Bool, true, false, List, [], ◌∷◌, ◌++◌, length, set, Option, None, Some, refl, sym, ◌∙◌, ap, inl, inr, if◌then◌else◌, ◌==◌}
use Rattle.std.specs.Prelude.{option_and_then}
use Rattle.std.proofs.lemmas.Bool.{cases_eq, eq-eqb, ne_eqb}
use Rattle.mh_grammar.proofs.Lists.{set_here, set_elsewhere}
use Rattle.mh_grammar.specs.declared.types.Sentence.{Sentence}
use Rattle.mh_grammar.specs.Text.{Text}
use Rattle.mh_rebase.specs.code.Reasons.{kept_line_in}
use Rattle.mh_rebase.specs.declared.reason.DropReason.{DropReason}
use Rattle.mh_rebase.specs.Decisions.{Keep, Drop, DecidedLine, keeps_in, kept_line}
use Rattle.mh_rebase.specs.code.Parts.{AreKeptLines}

-- The first of two numbers that is present.
abbrev pub or_else : Option ℕ → Option ℕ → Option ℕ
or_else None later = later
or_else (Some first) later = Some first

abbrev pub line_kept : ℕ → DecidedLine → Option ℕ
line_kept s j = if keeps_in s j.decision then Some j.line.line else None

kept_on : (s : ℕ) (k : DecidedLine) (ks : List DecidedLine) (j : DecidedLine) (c : Bool) → keeps_in s k.decision ≡ c → kept_line (ks ++ j ∷ []) s ≡ or_else (kept_line ks s) (line_kept s j)
    → kept_line (k ∷ (ks ++ j ∷ [])) s ≡ or_else (kept_line (k ∷ ks) s) (line_kept s j)
kept_on s k ks j true is later = rw is refl
kept_on s k ks j false is later = rw is later

-- After one more line, the kept line of a state is the earlier one, or the new line if the new line is kept in this
-- state.
pub kept_push : (s : ℕ) (js : List DecidedLine) (j : DecidedLine) → kept_line (js ++ j ∷ []) s ≡ or_else (kept_line js s) (line_kept s j)
kept_push s [] j = refl
kept_push s (k ∷ ks) j = kept_on s k ks j (keeps_in s k.decision) refl (kept_push s ks j)

or_none : (o : Option ℕ) → or_else o None ≡ o
or_none None = refl
or_none (Some n) = refl

abbrev pub inner : Option (Option ℕ) → Option ℕ
inner o = option_and_then (λ (p : Option ℕ). p) o

module _ (before : List DecidedLine) (kept_lines : List (Option ℕ)) (are : AreKeptLines before kept_lines) (line : ℕ) (text : Text) where
  -- A dropped line changes nothing.
  pub places_drop : (reason : DropReason) → AreKeptLines (before ++ record { line = record { line = line; text = text }; decision = Drop reason } ∷ []) kept_lines
  places_drop reason = λ s. are s ∙ sym (kept_push s before (record { line = record { line = line; text = text }; decision = Drop reason }) ∙ or_none (kept_line before s))

  -- A kept line is the kept line of its state.
  module _ (x : Sentence) (state : ℕ) (comments : Text) (within : state < length kept_lines) (free : kept_line_in kept_lines state ≡ None) where
    abbrev one : DecidedLine
    one = record { line = record { line = line; text = text }; decision = Keep x state comments }

    here : (s : ℕ) → s ≡ state → kept_line_in (set kept_lines state (Some line)) s ≡ kept_line (before ++ one ∷ []) s
    here s is =
        let at : kept_line_in (set kept_lines state (Some line)) s ≡ Some line = ap (kept_line_in (set kept_lines state (Some line))) is ∙ ap inner (set_here kept_lines state (Some line) within) in
        let none : kept_line before s ≡ None = ap (kept_line before) is ∙ sym (are state) ∙ free in
        let keeps : (state == s) ≡ true = eq-eqb state s (sym is) in
        at ∙ sym (kept_push s before one ∙ ap (λ (o : Option ℕ). or_else o (line_kept s one)) none ∙ (rw keeps refl))

    there : (s : ℕ) → (s ≡ state → ⊥) → kept_line_in (set kept_lines state (Some line)) s ≡ kept_line (before ++ one ∷ []) s
    there s other =
        let at : kept_line_in (set kept_lines state (Some line)) s ≡ kept_line_in kept_lines s = ap inner (set_elsewhere kept_lines state (Some line) s other) in
        let keeps : (state == s) ≡ false = ne_eqb state s (λ e. other (sym e)) in
        at ∙ are s ∙ sym (kept_push s before one ∙ (rw keeps (or_none (kept_line before s))))

    pub places_keep : AreKeptLines (before ++ one ∷ []) (set kept_lines state (Some line))
    places_keep = λ s. elim (cases_eq s state) [ inl is ↦ here s is | inr other ↦ there s other ]
