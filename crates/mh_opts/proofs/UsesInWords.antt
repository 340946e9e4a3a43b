-- Proves that the words give exactly the options that the reading by POSIX conventions finds before `--`.
use Rattle.std.proofs.Common.{◌≡◌, ◌∙◌, ◌||◌, Bool, true, false, List, [], ◌∷◌, Option, Some, None, fold, refl, sym, ap, subst, bytes_eq}
use Rattle.std.specs.List.{list_all}
use Rattle.clap.specs.Lexer.{long_of}
use Rattle.clap.specs.Takes.{is_given}
use Rattle.clap.specs.Walk.{Row, Rule, Text, Waiting, Walk, finished, positional, settled_rows, walked, with_default}
use Rattle.clap.specs.Faults.{walk_fault}
use Rattle.mh_opts.specs.declared.jobs.Opt.{Opt}
use Rattle.mh_opts.specs.declared.jobs.TheConstants.{GRAMMARS}
use Rattle.mh_opts.specs.PosixReading.{is_use_of, is_used_in}
use Rattle.mh_opts.specs.RepeatedOption.{is_end}
use Rattle.mh_opts.proofs.OptionLookup.{is_fit, rules_with_help_and_files}
use Rattle.mh_opts.proofs.RowsAfterUse.{defaults_give_nothing}
use Rattle.mh_opts.proofs.FilesInWords.{faults, walk_on}
use Rattle.mh_opts.proofs.ClapWalk.{IsAwaited, IsWalkState, command_of, file_used, is_used, walk_after_end, walk_at, walk_end, walk_option, walk_other_word}

-- Whether the words give the option, at the end of a walk over them.
abbrev used_at : List (Opt Text) → Text → Walk → Bool
used_at os name w = is_used os w.held.rows w.held.pending name

or_none : (b : Bool) → b ≡ (b || false)
or_none true = refl
or_none false = refl

one_of_three : (a b c : Bool) → ((a || b) || c) ≡ (b || (a || c))
one_of_three true true c = refl
one_of_three true false c = refl
one_of_three false b c = refl

-- How one word is counted.
pub is_used_in-end : (name word : Text) (words : List Text) → is_end word ≡ true → is_used_in name (word ∷ words) ≡ false
is_used_in-end name word words e = rw e refl

pub is_used_in-step : (name word : Text) (words : List Text) → is_end word ≡ false → is_used_in name (word ∷ words) ≡ (is_use_of name word || is_used_in name words)
is_used_in-step name word words e = rw e refl

module _ (os : List (Opt Text)) (name : Text) (apart : bytes_eq GRAMMARS.now name ≡ false) where
  -- The words after `--` use no option.
  used_after_end : (words : List Text) (rows : List Row) (p : Option (Text × List Text)) (x : Waiting) → used_at os name (walk_on os (walk_at rows p x true) words) ≡ is_used os rows p name
  used_after_end [] rows p x = refl
  used_after_end (word ∷ words) rows p x =
      let so_far = settled_rows (rules_with_help_and_files os) p rows in
      ap (λ (w : Walk). used_at os name (walk_on os w words)) (walk_after_end os rows p x word)
      ∙ used_after_end words so_far (Some (GRAMMARS.now, word ∷ [])) positional
      ∙ file_used os so_far word name apart

  -- A walk over these words from any state adds the uses in the words.
  abbrev AddsUses : List Text → Type 0
  AddsUses words = (rows : List Row) (p : Option (Text × List Text)) (x : Waiting) (awaited : Bool) → IsAwaited os p x awaited
      → walk_fault (command_of os) [] (walk_at rows p x false) words ≡ [] → used_at os name (walk_on os (walk_at rows p x false) words) ≡ (is_used os rows p name || is_used_in name words)

  after_word : (words : List Text) → AddsUses words → (w : Walk) (awaited : Bool) (files : List Text) (uses : Text → Bool) → IsWalkState os w awaited files uses
      → walk_fault (command_of os) [] w words ≡ [] → used_at os name (walk_on os w words) ≡ (uses name || is_used_in name words)
  after_word words go w awaited files uses g none =
      let there = go g.rows g.pending g.waiting awaited g.awaits (subst (λ (v : Walk). walk_fault (command_of os) [] v words ≡ []) g.is none) in
      ap (λ (v : Walk). used_at os name (walk_on os v words)) g.is ∙ there ∙ ap (λ (b : Bool). b || is_used_in name words) (g.used name apart)

  module _ (fit : list_all is_fit os ≡ true) (words : List Text) (go : AddsUses words) (rows : List Row) (p : Option (Text × List Text)) (x : Waiting) (word : Text) where
    abbrev Adds : Type 0
    Adds = used_at os name (walk_on os (walk_at rows p x false) (word ∷ words)) ≡ (is_used os rows p name || is_used_in name (word ∷ words))

    by_end : is_end word ≡ true → Adds
    by_end e =
        ap (λ (v : Walk). used_at os name (walk_on os v words)) (walk_end os rows p x word e) ∙ used_after_end words rows p x
        ∙ or_none (is_used os rows p name) ∙ sym (ap (λ (b : Bool). is_used os rows p name || b) (is_used_in-end name word words e))

    by_option : (o : Text × Option Text) → is_end word ≡ false → long_of word ≡ Some o → walk_fault (command_of os) [] (walk_at rows p x false) (word ∷ words) ≡ [] → Adds
    by_option o more is none =
        let parts = faults os (walk_at rows p x false) word words none in
        let g = walk_option os fit rows p x word o more is parts.0 in
        let there = after_word words go (walked (rules_with_help_and_files os) [] (walk_at rows p x false) word) _ _ _ g parts.1 in
        let here : is_use_of name word ≡ bytes_eq o.0 name = rw is refl in
        there ∙ one_of_three (bytes_eq o.0 name) (is_used os rows p name) (is_used_in name words)
        ∙ sym (ap (λ (b : Bool). is_used os rows p name || b) (is_used_in-step name word words more ∙ ap (λ (b : Bool). b || is_used_in name words) here))

    by_other : (awaited : Bool) → IsAwaited os p x awaited → is_end word ≡ false → long_of word ≡ None → walk_fault (command_of os) [] (walk_at rows p x false) (word ∷ words) ≡ [] → Adds
    by_other awaited a more is none =
        let parts = faults os (walk_at rows p x false) word words none in
        let g = walk_other_word os rows p x word awaited a more is parts.0 in
        let there = after_word words go (walked (rules_with_help_and_files os) [] (walk_at rows p x false) word) _ _ _ g parts.1 in
        let here : is_use_of name word ≡ false = rw is refl in
        there ∙ sym (ap (λ (b : Bool). is_used os rows p name || b) (is_used_in-step name word words more ∙ ap (λ (b : Bool). b || is_used_in name words) here))

    by_word : (awaited : Bool) → IsAwaited os p x awaited → walk_fault (command_of os) [] (walk_at rows p x false) (word ∷ words) ≡ []
        → (b : Bool) → is_end word ≡ b → (o : Option (Text × Option Text)) → long_of word ≡ o → Adds
    by_word awaited a none true e o is = by_end e
    by_word awaited a none false e (Some o) is = by_option o e is none
    by_word awaited a none false e None is = by_other awaited a e is none

pub walk_uses : (os : List (Opt Text)) → list_all is_fit os ≡ true → (name : Text) (apart : bytes_eq GRAMMARS.now name ≡ false) (words : List Text) → AddsUses os name apart words
walk_uses os fit name apart [] rows p x awaited a none = or_none (is_used os rows p name)
walk_uses os fit name apart (word ∷ words) rows p x awaited a none =
    by_word os name apart fit words (walk_uses os fit name apart words) rows p x word awaited a none (is_end word) refl (long_of word) refl

defaults_kept : (name : Text) (rules : List Rule) (rows : List Row) → is_given name (fold with_default rows rules) ≡ is_given name rows
defaults_kept name [] rows = refl
defaults_kept name (rule ∷ rules) rows = defaults_kept name rules (with_default rows rule) ∙ defaults_give_nothing name rows rule

-- At the end of parsing, clap holds an option exactly if the words use the option.
pub end_given : (os : List (Opt Text)) (name : Text) (w : Walk) → is_given name (finished (rules_with_help_and_files os) w.held) ≡ used_at os name w
end_given os name w = defaults_kept name (rules_with_help_and_files os) (settled_rows (rules_with_help_and_files os) w.held.pending w.held.rows)
