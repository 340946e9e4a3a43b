-- Proves that the grammar files that clap finds are those that the reading by POSIX conventions finds.
use Rattle.std.proofs.Common.{◌≡◌, ◌∙◌, ◌++◌, ◌&&◌, Bool, true, false, not, List, [], ◌∷◌, Option, Some, None, fold, refl, sym, ap, subst, bytes_eq, if◌then◌else◌}
use Rattle.std.specs.Prelude.{is_some, unwrap_or}
use Rattle.std.specs.List.{list_all}
use Rattle.std.proofs.lemmas.List.{append-nil, append_assoc}
use Rattle.clap.specs.Lexer.{long_of}
use Rattle.clap.specs.Kinds.{Kinds}
use Rattle.clap.specs.Walk.{Row, Rule, Text, Waiting, Walk, all_of, default_rows, finished, has_row, positional, reading_by, settled_rows, walked, with_default}
use Rattle.clap.specs.Faults.{turn_fault, walk_fault}
use Rattle.clap.proofs.SimpleLemmas.{is_false}
use Rattle.clap.proofs.WalkLemmas.{both}
use Rattle.mh_opts.specs.declared.jobs.Opt.{Opt}
use Rattle.mh_opts.specs.declared.jobs.TheConstants.{GRAMMARS}
use Rattle.mh_opts.specs.Orders.{grammars_of}
use Rattle.mh_opts.specs.PosixReading.{files_from, has_value}
use Rattle.mh_opts.specs.RepeatedOption.{is_end}
use Rattle.mh_opts.proofs.OptionLookup.{rules_with_help, help, is_fit, rules_with_help_and_files, of_files, of_option}
use Rattle.mh_opts.proofs.RowsAfterUse.{default_other, is_plain}
use Rattle.mh_opts.proofs.ClapWalk.{IsWalkState, IsAwaited, or_else_empty_second, walk_after_end, walk_end, files_held-file, files_held, or_else_empty_first, is_used, one_more, walk_option, walk_other_word, command_of, walk_at}

-- The files at the end of a walk over the words.
abbrev pub files_of : List (Opt Text) → Walk → List Text
files_of os w = files_held os w.held.rows w.held.pending

abbrev pub walk_on : List (Opt Text) → Walk → List Text → Walk
walk_on os w words = fold (walked (rules_with_help_and_files os) []) w words

files_after_end : (os : List (Opt Text)) (words : List Text) (rows : List Row) (p : Option (Text × List Text)) (x : Waiting)
    → files_of os (walk_on os (walk_at rows p x true) words) ≡ files_held os rows p ++ words
files_after_end os [] rows p x = sym (append-nil (files_held os rows p))
files_after_end os (word ∷ words) rows p x =
    let so_far = settled_rows (rules_with_help_and_files os) p rows in
    ap (λ (w : Walk). files_of os (walk_on os w words)) (walk_after_end os rows p x word)
    ∙ files_after_end os words so_far (Some (GRAMMARS.now, word ∷ [])) positional
    ∙ ap (λ (files : List Text). files ++ words) (files_held-file os so_far word)
    ∙ append_assoc (grammars_of so_far) (word ∷ []) words

-- A walk over these words from any state adds the files of the words.
abbrev Onward : List (Opt Text) → List Text → Type 0
Onward os words = (rows : List Row) (p : Option (Text × List Text)) (x : Waiting) (awaited : Bool) → IsAwaited os p x awaited
    → walk_fault (command_of os) [] (walk_at rows p x false) words ≡ [] → files_of os (walk_on os (walk_at rows p x false) words) ≡ files_held os rows p ++ files_from os awaited words

after_word : (os : List (Opt Text)) (words : List Text) → Onward os words → (w : Walk) (awaited : Bool) (files : List Text) (uses : Text → Bool) → IsWalkState os w awaited files uses
    → walk_fault (command_of os) [] w words ≡ [] → files_of os (walk_on os w words) ≡ files ++ files_from os awaited words
after_word os words go w awaited files uses g none =
    let there = go g.rows g.pending g.waiting awaited g.awaits (subst (λ (v : Walk). walk_fault (command_of os) [] v words ≡ []) g.is none) in
    ap (λ (v : Walk). files_of os (walk_on os v words)) g.is ∙ there ∙ ap (λ (f : List Text). f ++ files_from os awaited words) g.held

pub faults : (os : List (Opt Text)) (w : Walk) (word : Text) (words : List Text) → walk_fault (command_of os) [] w (word ∷ words) ≡ []
    → (turn_fault (command_of os) [] w word ≡ []) × (walk_fault (command_of os) [] (walked (rules_with_help_and_files os) [] w word) words ≡ [])
unfolding walk_fault
faults os w word words none =
    let now = turn_fault (command_of os) [] w word in
    let later = walk_fault (command_of os) [] (walked (rules_with_help_and_files os) [] w word) words in
    (or_else_empty_first now later none, or_else_empty_second now later none)

by_end : (os : List (Opt Text)) (words : List Text) (rows : List Row) (p : Option (Text × List Text)) (x : Waiting) (word : Text) (awaited : Bool) → is_end word ≡ true
    → files_of os (walk_on os (walk_at rows p x false) (word ∷ words)) ≡ files_held os rows p ++ files_from os awaited (word ∷ words)
by_end os words rows p x word awaited e =
    let there = ap (λ (v : Walk). files_of os (walk_on os v words)) (walk_end os rows p x word e) ∙ files_after_end os words rows p x in
    rw e there

by_option : (os : List (Opt Text)) → list_all is_fit os ≡ true → (words : List Text) → Onward os words → (rows : List Row) (p : Option (Text × List Text)) (x : Waiting) (word : Text) (awaited : Bool) (o : Text × Option Text)
    → is_end word ≡ false → long_of word ≡ Some o → walk_fault (command_of os) [] (walk_at rows p x false) (word ∷ words) ≡ []
    → files_of os (walk_on os (walk_at rows p x false) (word ∷ words)) ≡ files_held os rows p ++ files_from os awaited (word ∷ words)
by_option os fit words go rows p x word awaited o more is none =
    let both_none = faults os (walk_at rows p x false) word words none in
    let goes = walk_option os fit rows p x word o more is both_none.0 in
    let there = after_word os words go (walked (rules_with_help_and_files os) [] (walk_at rows p x false) word) (not (is_some o.1) && has_value os o.0) (files_held os rows p) (one_more os rows p o.0) goes both_none.1 in
    rw (more, is) there

by_other : (os : List (Opt Text)) (words : List Text) → Onward os words → (rows : List Row) (p : Option (Text × List Text)) (x : Waiting) (word : Text) (awaited : Bool) → IsAwaited os p x awaited
    → is_end word ≡ false → long_of word ≡ None → walk_fault (command_of os) [] (walk_at rows p x false) (word ∷ words) ≡ []
    → files_of os (walk_on os (walk_at rows p x false) (word ∷ words)) ≡ files_held os rows p ++ files_from os awaited (word ∷ words)
by_other os words go rows p x word true a more is none =
    let both_none = faults os (walk_at rows p x false) word words none in
    let goes = walk_other_word os rows p x word true a more is both_none.0 in
    let there = after_word os words go (walked (rules_with_help_and_files os) [] (walk_at rows p x false) word) false (files_held os rows p) (is_used os rows p) goes both_none.1 in
    rw (more, is) there
by_other os words go rows p x word false a more is none =
    let both_none = faults os (walk_at rows p x false) word words none in
    let goes = walk_other_word os rows p x word false a more is both_none.0 in
    let there = after_word os words go (walked (rules_with_help_and_files os) [] (walk_at rows p x false) word) false (files_held os rows p ++ word ∷ []) (is_used os rows p) goes both_none.1 ∙ append_assoc (files_held os rows p) (word ∷ []) (files_from os false words) in
    rw (more, is) there

by_word : (os : List (Opt Text)) → list_all is_fit os ≡ true → (words : List Text) → Onward os words → (rows : List Row) (p : Option (Text × List Text)) (x : Waiting) (word : Text) (awaited : Bool) → IsAwaited os p x awaited
    → walk_fault (command_of os) [] (walk_at rows p x false) (word ∷ words) ≡ [] → (b : Bool) → is_end word ≡ b → (o : Option (Text × Option Text)) → long_of word ≡ o
    → files_of os (walk_on os (walk_at rows p x false) (word ∷ words)) ≡ files_held os rows p ++ files_from os awaited (word ∷ words)
by_word os fit words go rows p x word awaited a none true e o is = by_end os words rows p x word awaited e
by_word os fit words go rows p x word awaited a none false e (Some o) is = by_option os fit words go rows p x word awaited o e is none
by_word os fit words go rows p x word awaited a none false e None is = by_other os words go rows p x word awaited a e is none

pub walk_files : (os : List (Opt Text)) → list_all is_fit os ≡ true → (words : List Text) → Onward os words
walk_files os fit [] rows p x awaited a none = sym (append-nil (files_held os rows p))
walk_files os fit (word ∷ words) rows p x awaited a none = by_word os fit words (walk_files os fit words) rows p x word awaited a none (is_end word) refl (long_of word) refl

-- The default values of arguments that were not used.

one_default : (g name : Text) (rule : Rule) (rows : List Row) → rule.id ≡ name → bytes_eq name g ≡ false → all_of g (with_default rows rule) ≡ all_of g rows
one_default g name rule rows same other = go (has_row rule.id rows)
  where
    go : (b : Bool) → all_of g (if b then rows else default_rows rule.id (reading_by rule) rule.defaults rows) ≡ all_of g rows
    go true = refl
    go false = default_other rule.id g (reading_by rule) rule.defaults rows (subst (λ (n : Text). bytes_eq n g ≡ false) (sym same) other)

defaults_change_no_files : (os : List (Opt Text)) → list_all is_fit os ≡ true → (rows : List Row) → all_of GRAMMARS.now (fold with_default rows (rules_with_help os)) ≡ all_of GRAMMARS.now rows
defaults_change_no_files [] fit rows = one_default GRAMMARS.now help.id help rows refl refl
defaults_change_no_files (o ∷ os) fit rows =
    let parts = both (is_fit o) (list_all is_fit os) fit in
    let one = both (is_plain o.action) (not (bytes_eq o.name GRAMMARS.now)) parts.0 in
    defaults_change_no_files os parts.1 (with_default rows (of_option o.name o.action))
    ∙ one_default GRAMMARS.now o.name (of_option o.name o.action) rows refl (is_false (bytes_eq o.name GRAMMARS.now) one.1)

no_default : (rows : List Row) (b : Bool) → (if b then rows else rows) ≡ rows
no_default rows true = refl
no_default rows false = refl

-- The files that clap holds at the end of parsing are those that the walk found.
pub end_files : (os : List (Opt Text)) → list_all is_fit os ≡ true → (w : Walk) → grammars_of (finished (rules_with_help_and_files os) w.held) ≡ files_of os w
end_files os fit w =
    let rows = settled_rows (rules_with_help_and_files os) w.held.pending w.held.rows in
    let first = no_default rows (has_row GRAMMARS.now rows) in
    ap (λ (r : List Row). grammars_of (fold with_default r (rules_with_help os))) first ∙ ap (λ (v : Option (List Text)). unwrap_or v []) (defaults_change_no_files os fit rows)
