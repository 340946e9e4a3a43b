-- Lemmas on one more word of clap's walk over the words, if clap accepts the words. A state of the walk has the rows of
-- the arguments used so far and the option that waits for its value (pending).
use Rattle.std.proofs.Common.{◌≡◌, ◌∙◌, ◌&&◌, ◌||◌, ◌++◌, ℕ, Bool, true, false, not, List, [], ◌∷◌, Option, Some, None, refl, sym, ap, subst, bytes_eq, if◌then◌else◌, true≢false, chars, drop, encode_utf8, length, slice_get, inl, inr}
use Rattle.std.specs.Prelude.{codes, is_some, unwrap_or}
use Rattle.std.specs.List.{list_all}
use Rattle.std.specs.Option.{option_map_or}
use Rattle.clap.specs.Lexer.{long_of, short_of}
use Rattle.clap.specs.Kinds.{Kinds, or_else}
use Rattle.clap.specs.Walk.{Held, Outcome, Row, Rule, Step, Text, Waiting, Walk, after_flag, after_step, arg_by_id, arg_by_index, arg_by_long, arg_by_short, bundle, bundle_met, bundle_step, idle, is_pending, long_met, long_or_other, long_word, option, plain, plain_word, positional, pushed, reacted, reading_by, settled, settled_rows, short_or_plain, to_positional, trailing, used, value, used_by_id, values_or_missing, walked}
use Rattle.clap.specs.Takes.{is_given}
use Rattle.clap.specs.Simple.{Shape, new_shape}
use Rattle.clap.specs.Faults.{bundle_fault, bundle_step_fault, flag_word_fault, flags_fault, long_fault, positional_fault, react_fault, settle_fault, short_fault, step_fault, turn_fault}
use Rattle.clap.specs.declared.builder.action.ArgAction.{ArgAction}
use Rattle.clap.specs.declared.builder.action.ArgAction.TheVariants.{Set, SetTrue}
use Rattle.clap.specs.declared.error.kind.ErrorKind.TheVariants.{DisplayHelp}
use Rattle.clap.specs.declared.parser.matches.ValueSource.TheVariants.{CommandLine}
use Rattle.mh_opts.specs.declared.jobs.Opt.{Opt}
use Rattle.mh_opts.specs.declared.jobs.TheConstants.{GRAMMARS}
use Rattle.mh_opts.specs.Orders.{grammars_of}
use Rattle.mh_opts.specs.PosixReading.{has_value, is_set}
use Rattle.mh_opts.specs.RepeatedOption.{is_end}
use Rattle.mh_opts.proofs.OptionLookup.{by_id, Found-long, found_short, help, is_fit, rules_with_help_and_files, of_files, of_option}
use Rattle.mh_opts.proofs.RowsAfterUse.{is_plain, bytes_eq_refl, used_given, used_other, with_given, with_own}

-- The command as clap sees it, with these options.
abbrev pub command_of : List (Opt Text) → Shape
command_of os = record (new_shape (codes "menhir")) { rules = rules_with_help_and_files os; no_binary_name = true; disable_help_subcommand = true; is_built = true }

-- If the first nonempty one of two lists of kinds of errors (`or_else`) is empty, both lists are empty.

pub or_else_empty_first : (a b : Kinds) → or_else a b ≡ [] → a ≡ []
or_else_empty_first [] b e = refl
or_else_empty_first (k ∷ ks) b e = e

pub or_else_empty_second : (a b : Kinds) → or_else a b ≡ [] → b ≡ []
or_else_empty_second [] b e = e
or_else_empty_second (k ∷ ks) b e = cc

-- The state of the walk.

-- What the walk has collected: the rows of arguments and the option that waits for its value.
abbrev pub matches_so_far : List Row → Option (Text × List Text) → Held
matches_so_far rows pending = record { rows = rows; pending = pending; skip = 0 }

-- The state of the walk over the words.
abbrev pub walk_at : List Row → Option (Text × List Text) → Waiting → Bool → Walk
walk_at rows pending waiting is_trailing = record { held = matches_so_far rows pending; waiting = waiting; position = 1; is_trailing = is_trailing; stopped = None }

abbrev walk_after_word : Held → Bool → Walk
walk_after_word held is_trailing = record { held = held; waiting = positional; position = 1; is_trailing = is_trailing || false; stopped = None }

-- The files found so far.
abbrev pub files_held : List (Opt Text) → List Row → Option (Text × List Text) → List Text
files_held os rows pending = grammars_of (settled_rows (rules_with_help_and_files os) pending rows)

pub record AwaitsValue (os : List (Opt Text)) (pending : Option (Text × List Text)) (id : Text) (awaited : Bool) : Type 0 where
  pub is_awaited : awaited ≡ true
  pub no_value : pending ≡ Some (id, [])
  pub rule_is : arg_by_id (rules_with_help_and_files os) id ≡ Some (of_option id Set)
  pub not_grammars : bytes_eq id GRAMMARS.now ≡ false

-- Whether the walk awaits a value.
abbrev pub IsAwaited : List (Opt Text) → Option (Text × List Text) → Waiting → Bool → Type 0
IsAwaited os pending idle awaited = awaited ≡ false
IsAwaited os pending positional awaited = awaited ≡ false
IsAwaited os pending (option id) awaited = AwaitsValue os pending id awaited

-- Whether the words give an argument so far.
abbrev pub is_used : List (Opt Text) → List Row → Option (Text × List Text) → Text → Bool
is_used os rows pending name = is_given name (settled_rows (rules_with_help_and_files os) pending rows)

-- The arguments used so far, and one more.
abbrev pub one_more : List (Opt Text) → List Row → Option (Text × List Text) → Text → Text → Bool
one_more os rows pending name = λ other. bytes_eq name other || is_used os rows pending other

-- The walk is before the end of the options, and has found these files and these used options.
pub record IsWalkState (os : List (Opt Text)) (w : Walk) (awaited : Bool) (files : List Text) (uses : Text → Bool) : Type 0 where
  pub rows : List Row
  pub pending : Option (Text × List Text)
  pub waiting : Waiting
  pub is : w ≡ walk_at rows pending waiting false
  pub awaits : IsAwaited os pending waiting awaited
  pub held : files_held os rows pending ≡ files
  pub used : (name : Text) → bytes_eq GRAMMARS.now name ≡ false → is_used os rows pending name ≡ uses name

-- The kind of a word.

abbrev met : List Rule → Waiting → Text → Held → Held × Step
met c x word h = if is_end word then (h, trailing 1) else long_or_other c x word (long_of word) h

abbrev onward : List Rule → List Row → Option (Text × List Text) → Waiting → Text → Held × Step → Walk
onward c rows p x word m = after_step c word (walk_at rows p x false) m.0 m.1

walked_is : (c : List Rule) (rows : List Row) (p : Option (Text × List Text)) (x : Waiting) (word : Text)
    → walked c [] (walk_at rows p x false) word ≡ onward c rows p x word (met c x word (matches_so_far rows p))
unfolding walked
walked_is c rows p idle word = refl
walked_is c rows p positional word = refl
walked_is c rows p (option id) word = refl

-- The kinds of error of a word, and then those of the state to which the word leads.
abbrev word_part : Shape → List Row → Option (Text × List Text) → Text → Kinds
word_part s rows p word = if is_end word then [] else flag_word_fault s.rules s.args_override_self (long_of word) word (matches_so_far rows p)

abbrev step_part : Shape → List Row → Option (Text × List Text) → Waiting → Text → Kinds
step_part s rows p x word = let m = met s.rules x word (matches_so_far rows p) in step_fault s 1 m.0 m.1

turn_is : (s : Shape) (rows : List Row) (p : Option (Text × List Text)) (x : Waiting) (word : Text)
    → turn_fault s [] (walk_at rows p x false) word
    ≡ or_else (word_part s rows p word) (step_part s rows p x word)
turn_is s rows p idle word = refl
turn_is s rows p positional word = refl
turn_is s rows p (option id) word = refl

pub word_fault : (os : List (Opt Text)) (rows : List Row) (p : Option (Text × List Text)) (x : Waiting) (word : Text) → is_end word ≡ false
    → turn_fault (command_of os) [] (walk_at rows p x false) word ≡ [] → flag_word_fault (rules_with_help_and_files os) false (long_of word) word (matches_so_far rows p) ≡ []
word_fault os rows p x word more none =
    let here = or_else_empty_first (word_part (command_of os) rows p word) (step_part (command_of os) rows p x word) (sym (turn_is (command_of os) rows p x word) ∙ none) in
    rw more at here

-- Lemmas on a word that is an option.

pub no_help : (os : List (Opt Text)) (h : Held) (v : Option Text) → long_fault (rules_with_help_and_files os) false (Some help) v h ≡ [] → ⊥
no_help os h (Some v) e = cc
no_help os h None e = let none = or_else_empty_second (settle_fault (rules_with_help_and_files os) false h) (DisplayHelp ∷ []) e in cc

-- Storing the value of the option that waits for one does not change the grammar files.
kept : (action : ArgAction) → is_plain action ≡ true → (name : Text) (vs : List Text) (rows : List Row) → bytes_eq name GRAMMARS.now ≡ false
    → grammars_of (used (of_option name action) vs rows) ≡ grammars_of rows
kept Set simple name vs rows other = ap (λ (o : Option (List Text)). unwrap_or o []) (used_other Set refl name GRAMMARS.now (reading_by (of_option name Set)) (values_or_missing (of_option name Set) vs) rows other)
kept SetTrue simple name vs rows other = ap (λ (o : Option (List Text)). unwrap_or o []) (used_other SetTrue refl name GRAMMARS.now (reading_by (of_option name SetTrue)) (values_or_missing (of_option name SetTrue) vs) rows other)
kept action simple name vs rows other = absurd (true≢false (sym simple))

used_there : (action : ArgAction) → is_plain action ≡ true → (name other : Text) (vs : List Text) (rows : List Row) → is_given other (used (of_option name action) vs rows) ≡ (bytes_eq name other || is_given other rows)
used_there Set simple name other vs rows = used_given Set refl name other (reading_by (of_option name Set)) (values_or_missing (of_option name Set) vs) rows
used_there SetTrue simple name other vs rows = used_given SetTrue refl name other (reading_by (of_option name SetTrue)) (values_or_missing (of_option name SetTrue) vs) rows
used_there action simple name other vs rows = absurd (true≢false (sym simple))

by_action : (os : List (Opt Text)) (rows : List Row) (p : Option (Text × List Text)) (x : Waiting) (word name : Text) (action : ArgAction) (v : Option Text)
    → is_plain action ≡ true → has_value os name ≡ is_set action → arg_by_id (rules_with_help_and_files os) name ≡ Some (of_option name action) → bytes_eq name GRAMMARS.now ≡ false
    → long_fault (rules_with_help_and_files os) false (Some (of_option name action)) v (matches_so_far rows p) ≡ []
    → IsWalkState os (let m = long_met (rules_with_help_and_files os) (Some (of_option name action)) v (matches_so_far rows p) in onward (rules_with_help_and_files os) rows p x word (after_flag (rules_with_help_and_files os) x word m.0 m.1)) (not (is_some v) && has_value os name) (files_held os rows p) (one_more os rows p name)
by_action os rows p x word name Set (Some v) simple valued by other none = record {
  rows = used (of_option name Set) (v ∷ []) (settled_rows (rules_with_help_and_files os) p rows);
  pending = None;
  waiting = idle;
  is = refl;
  awaits = refl;
  held = kept Set refl name (v ∷ []) (settled_rows (rules_with_help_and_files os) p rows) other;
  used = λ n apart. used_there Set refl name n (v ∷ []) (settled_rows (rules_with_help_and_files os) p rows);
}
by_action os rows p x word name Set None simple valued by other none = record {
  rows = settled_rows (rules_with_help_and_files os) p rows;
  pending = Some (name, []);
  waiting = option name;
  is = refl;
  awaits = record { is_awaited = valued; no_value = refl; rule_is = by; not_grammars = other };
  held = ap (λ (r : Option Rule). grammars_of (used_by_id r [] (settled_rows (rules_with_help_and_files os) p rows))) by ∙ kept Set refl name [] (settled_rows (rules_with_help_and_files os) p rows) other;
  used = λ n apart. ap (λ (r : Option Rule). is_given n (used_by_id r [] (settled_rows (rules_with_help_and_files os) p rows))) by ∙ used_there Set refl name n [] (settled_rows (rules_with_help_and_files os) p rows);
}
by_action os rows p x word name SetTrue None simple valued by other none = record {
  rows = used (of_option name SetTrue) [] (settled_rows (rules_with_help_and_files os) p rows);
  pending = None;
  waiting = idle;
  is = refl;
  awaits = valued;
  held = kept SetTrue refl name [] (settled_rows (rules_with_help_and_files os) p rows) other;
  used = λ n apart. used_there SetTrue refl name n [] (settled_rows (rules_with_help_and_files os) p rows);
}
by_action os rows p x word name SetTrue (Some v) simple valued by other none = cc
by_action os rows p x word name action v simple valued by other none = absurd (true≢false (sym simple))

by_rule : (os : List (Opt Text)) → list_all is_fit os ≡ true → (rows : List Row) (p : Option (Text × List Text)) (x : Waiting) (word name : Text) (v : Option Text) (o : Option Rule)
    → arg_by_long (rules_with_help_and_files os) name ≡ o → long_fault (rules_with_help_and_files os) false o v (matches_so_far rows p) ≡ []
    → IsWalkState os (let m = long_met (rules_with_help_and_files os) o v (matches_so_far rows p) in onward (rules_with_help_and_files os) rows p x word (after_flag (rules_with_help_and_files os) x word m.0 m.1)) (not (is_some v) && has_value os name) (files_held os rows p) (one_more os rows p name)
by_rule os fit rows p x word name v None at none = cc
by_rule os fit rows p x word name v (Some rule) at none = elim (Found-long os fit name rule at) [
  | inl f ↦ (
      let go = by_action os rows p x word name f.action v f.plain f.valued (by_id os name rule f ∙ ap Some f.is) f.not_grammars in
      subst (λ (r : Rule). long_fault (rules_with_help_and_files os) false (Some r) v (matches_so_far rows p) ≡ [] → IsWalkState os (let m = long_met (rules_with_help_and_files os) (Some r) v (matches_so_far rows p) in onward (rules_with_help_and_files os) rows p x word (after_flag (rules_with_help_and_files os) x word m.0 m.1)) (not (is_some v) && has_value os name) (files_held os rows p) (one_more os rows p name)) (sym f.is) go none
      )
  | inr is_help ↦ absurd (no_help os (matches_so_far rows p) v (subst (λ (r : Rule). long_fault (rules_with_help_and_files os) false (Some r) v (matches_so_far rows p) ≡ []) is_help none))
]

pub walk_option : (os : List (Opt Text)) → list_all is_fit os ≡ true → (rows : List Row) (p : Option (Text × List Text)) (x : Waiting) (word : Text) (o : Text × Option Text)
    → is_end word ≡ false → long_of word ≡ Some o → turn_fault (command_of os) [] (walk_at rows p x false) word ≡ []
    → IsWalkState os (walked (rules_with_help_and_files os) [] (walk_at rows p x false) word) (not (is_some o.1) && has_value os o.0) (files_held os rows p) (one_more os rows p o.0)
walk_option os fit rows p x word o more is none =
    let fault = word_fault os rows p x word more none in
    let here : walked (rules_with_help_and_files os) [] (walk_at rows p x false) word ≡ onward (rules_with_help_and_files os) rows p x word (long_word (rules_with_help_and_files os) x word o.0 o.1 (matches_so_far rows p)) = walked_is (rules_with_help_and_files os) rows p x word ∙ rw (more, is) refl in
    subst (λ (w : Walk). IsWalkState os w (not (is_some o.1) && has_value os o.0) (files_held os rows p) (one_more os rows p o.0)) (sym here) (by_rule os fit rows p x word o.0 o.1 (arg_by_long (rules_with_help_and_files os) o.0) refl (rw is at fault))

-- A word that is not an option.

no_letter : (os : List (Opt Text)) (h : Held) (letter : ℕ) (rest : Text) (next : Held → Kinds) (o : Option Rule) → arg_by_short (rules_with_help_and_files os) letter ≡ o
    → short_fault (rules_with_help_and_files os) false o rest h next ≡ [] → ⊥
no_letter os h letter rest next None at none = cc
no_letter os h letter rest next (Some rule) at none =
    let one : short_fault (rules_with_help_and_files os) false (Some help) rest h next ≡ [] = subst (λ (r : Rule). short_fault (rules_with_help_and_files os) false (Some r) rest h next ≡ []) (found_short os letter rule at) none in
    no_help os h None (or_else_empty_first (react_fault (rules_with_help_and_files os) false help [] h) (next (reacted (rules_with_help_and_files os) help [] h)) one)

by_letter : (os : List (Opt Text)) (h : Held) (flags : Text) (k : ℕ) (o : Option ℕ) → bundle_step_fault (rules_with_help_and_files os) false o flags 0 h (flags_fault (rules_with_help_and_files os) false k) ≡ []
    → bundle_step (rules_with_help_and_files os) o flags 0 plain h (bundle_met (rules_with_help_and_files os) k) ≡ (h, plain)
by_letter os h flags k None none = refl
by_letter os h flags k (Some letter) none =
    absurd (no_letter os h letter (drop (length (encode_utf8 letter)) flags) (flags_fault (rules_with_help_and_files os) false k (drop (length (encode_utf8 letter)) flags) 0) (arg_by_short (rules_with_help_and_files os) letter) refl none)

-- No one-letter options exist: a word of one hyphen and more is refused, except if no character follows the hyphen.
letters : (os : List (Opt Text)) (rows : List Row) (p : Option (Text × List Text)) (flags : Text) → bundle_fault (rules_with_help_and_files os) false flags (matches_so_far rows p) ≡ []
    → bundle (rules_with_help_and_files os) flags (matches_so_far rows p) ≡ (matches_so_far rows p, plain)
unfolding flags_fault bundle_met
letters os rows p [] none = refl
letters os rows p (b ∷ bs) none = by_letter os (matches_so_far rows p) (b ∷ bs) (length bs) (slice_get (chars (b ∷ bs)) 0) none

by_flags : (os : List (Opt Text)) (rows : List Row) (p : Option (Text × List Text)) (x : Waiting) (word : Text) (o : Option Text)
    → option_map_or (λ flags. bundle_fault (rules_with_help_and_files os) false flags (matches_so_far rows p)) o [] ≡ [] → short_or_plain (rules_with_help_and_files os) x word o (matches_so_far rows p) ≡ plain_word (rules_with_help_and_files os) x word (matches_so_far rows p)
by_flags os rows p x word None none = refl
by_flags os rows p x word (Some flags) none = ap (λ (m : Held × Outcome). after_flag (rules_with_help_and_files os) x word m.0 m.1) (letters os rows p flags none)

-- A branch whose condition is false is not taken.
pub never_first : {X : Type 0} (b : Bool) (x y : X) → (if b && false then x else y) ≡ y
never_first true x y = refl
never_first false x y = refl

pub positional_is_file : (os : List (Opt Text)) (rows : List Row) (p : Option (Text × List Text)) (word : Text) (x : Waiting) (is_trailing : Bool)
    → to_positional (rules_with_help_and_files os) (arg_by_index (rules_with_help_and_files os) 1) word (walk_at rows p x is_trailing) (matches_so_far rows p)
    ≡ walk_at (settled_rows (rules_with_help_and_files os) p rows) (Some (GRAMMARS.now, word ∷ [])) positional (is_trailing || false)
positional_is_file os rows p word x is_trailing =
    ap (λ (h : Held). walk_after_word (pushed GRAMMARS.now word h) is_trailing) (never_first (is_pending of_files p) (matches_so_far rows p) (settled (rules_with_help_and_files os) (matches_so_far rows p)))

pub files_held-file : (os : List (Opt Text)) (rows : List Row) (word : Text) → files_held os rows (Some (GRAMMARS.now, word ∷ [])) ≡ grammars_of rows ++ word ∷ []
files_held-file os rows word = with_own GRAMMARS.now (reading_by of_files) CommandLine (word ∷ []) rows

-- A file uses no option.
pub file_used : (os : List (Opt Text)) (rows : List Row) (word n : Text) → bytes_eq GRAMMARS.now n ≡ false → is_used os rows (Some (GRAMMARS.now, word ∷ [])) n ≡ is_given n rows
file_used os rows word n apart = with_given GRAMMARS.now n (reading_by of_files) (word ∷ []) rows ∙ rw apart refl

walk_file : (os : List (Opt Text)) (rows : List Row) (p : Option (Text × List Text)) (x : Waiting) (word : Text)
    → IsWalkState os (to_positional (rules_with_help_and_files os) (arg_by_index (rules_with_help_and_files os) 1) word (walk_at rows p x false) (matches_so_far rows p)) false (files_held os rows p ++ word ∷ []) (is_used os rows p)
walk_file os rows p x word = record {
  rows = settled_rows (rules_with_help_and_files os) p rows;
  pending = Some (GRAMMARS.now, word ∷ []);
  waiting = positional;
  is = positional_is_file os rows p word x false;
  awaits = refl;
  held = files_held-file os (settled_rows (rules_with_help_and_files os) p rows) word;
  used = λ n apart. file_used os (settled_rows (rules_with_help_and_files os) p rows) word n apart;
}

-- The value of an option is one word.
value_is : (os : List (Opt Text)) (rows : List Row) (p : Option (Text × List Text)) (id word : Text) (awaited : Bool) → AwaitsValue os p id awaited
    → onward (rules_with_help_and_files os) rows p (option id) word (plain_word (rules_with_help_and_files os) (option id) word (matches_so_far rows p)) ≡ walk_at rows (Some (id, word ∷ [])) idle false
value_is os rows p id word awaited a =
    subst (λ (q : Option (Text × List Text)). onward (rules_with_help_and_files os) rows q (option id) word (plain_word (rules_with_help_and_files os) (option id) word (matches_so_far rows q)) ≡ walk_at rows (Some (id, word ∷ [])) idle false) (sym a.no_value) (rw (a.rule_is, bytes_eq_refl id) refl)

value_held : (os : List (Opt Text)) (rows : List Row) (p : Option (Text × List Text)) (id word : Text) (awaited : Bool) → AwaitsValue os p id awaited → files_held os rows (Some (id, word ∷ [])) ≡ files_held os rows p
value_held os rows p id word awaited a =
    let same : files_held os rows (Some (id, [])) ≡ files_held os rows p = ap (files_held os rows) (sym a.no_value) in
    ap (λ (r : Option Rule). grammars_of (used_by_id r (word ∷ []) rows)) a.rule_is ∙ kept Set refl id (word ∷ []) rows a.not_grammars
    ∙ sym (ap (λ (r : Option Rule). grammars_of (used_by_id r [] rows)) a.rule_is ∙ kept Set refl id [] rows a.not_grammars) ∙ same

value_used : (os : List (Opt Text)) (rows : List Row) (p : Option (Text × List Text)) (id word : Text) (awaited : Bool) → AwaitsValue os p id awaited → (n : Text) → is_used os rows (Some (id, word ∷ [])) n ≡ is_used os rows p n
value_used os rows p id word awaited a n =
    let same : is_used os rows (Some (id, [])) n ≡ is_used os rows p n = ap (λ (q : Option (Text × List Text)). is_used os rows q n) (sym a.no_value) in
    ap (λ (r : Option Rule). is_given n (used_by_id r (word ∷ []) rows)) a.rule_is ∙ used_there Set refl id n (word ∷ []) rows
    ∙ sym (ap (λ (r : Option Rule). is_given n (used_by_id r [] rows)) a.rule_is ∙ used_there Set refl id n [] rows) ∙ same

walk_value : (os : List (Opt Text)) (rows : List Row) (p : Option (Text × List Text)) (id word : Text) (awaited : Bool) → AwaitsValue os p id awaited
    → IsWalkState os (onward (rules_with_help_and_files os) rows p (option id) word (plain_word (rules_with_help_and_files os) (option id) word (matches_so_far rows p))) false (files_held os rows p) (is_used os rows p)
walk_value os rows p id word awaited a = record {
  rows = rows;
  pending = Some (id, word ∷ []);
  waiting = idle;
  is = value_is os rows p id word awaited a;
  awaits = refl;
  held = value_held os rows p id word awaited a;
  used = λ n apart. value_used os rows p id word awaited a n;
}

walk_plain_word : (os : List (Opt Text)) (rows : List Row) (p : Option (Text × List Text)) (x : Waiting) (word : Text) (awaited : Bool) → IsAwaited os p x awaited
    → IsWalkState os (onward (rules_with_help_and_files os) rows p x word (plain_word (rules_with_help_and_files os) x word (matches_so_far rows p))) false (if awaited then files_held os rows p else files_held os rows p ++ word ∷ []) (is_used os rows p)
walk_plain_word os rows p idle word awaited a = rw a (walk_file os rows p idle word)
walk_plain_word os rows p positional word awaited a = rw a (walk_file os rows p positional word)
walk_plain_word os rows p (option id) word awaited a = let yes : awaited ≡ true = a.is_awaited in rw yes (walk_value os rows p id word awaited a)

-- The walk treats a word that is not an option as a plain word.
other_is : (os : List (Opt Text)) (rows : List Row) (p : Option (Text × List Text)) (x : Waiting) (word : Text) → is_end word ≡ false → long_of word ≡ None
    → turn_fault (command_of os) [] (walk_at rows p x false) word ≡ [] → walked (rules_with_help_and_files os) [] (walk_at rows p x false) word ≡ onward (rules_with_help_and_files os) rows p x word (plain_word (rules_with_help_and_files os) x word (matches_so_far rows p))
other_is os rows p x word more is none =
    let fault = word_fault os rows p x word more none in
    let same = by_flags os rows p x word (short_of word) (rw is at fault) in
    let here : walked (rules_with_help_and_files os) [] (walk_at rows p x false) word ≡ onward (rules_with_help_and_files os) rows p x word (short_or_plain (rules_with_help_and_files os) x word (short_of word) (matches_so_far rows p)) = walked_is (rules_with_help_and_files os) rows p x word ∙ rw (more, is) refl in
    here ∙ ap (onward (rules_with_help_and_files os) rows p x word) same

pub walk_other_word : (os : List (Opt Text)) (rows : List Row) (p : Option (Text × List Text)) (x : Waiting) (word : Text) (awaited : Bool) → IsAwaited os p x awaited
    → is_end word ≡ false → long_of word ≡ None → turn_fault (command_of os) [] (walk_at rows p x false) word ≡ []
    → IsWalkState os (walked (rules_with_help_and_files os) [] (walk_at rows p x false) word) false (if awaited then files_held os rows p else files_held os rows p ++ word ∷ []) (is_used os rows p)
walk_other_word os rows p x word awaited a more is none =
    subst (λ (w : Walk). IsWalkState os w false (if awaited then files_held os rows p else files_held os rows p ++ word ∷ []) (is_used os rows p)) (sym (other_is os rows p x word more is none)) (walk_plain_word os rows p x word awaited a)

-- After the value of an option the walk waits for nothing. After an option whose value is the next word, the walk waits
-- for this value.
pub value_walked : (os : List (Opt Text)) (rows : List Row) (p : Option (Text × List Text)) (id word : Text) (awaited : Bool) → AwaitsValue os p id awaited → is_end word ≡ false → long_of word ≡ None
    → turn_fault (command_of os) [] (walk_at rows p (option id) false) word ≡ [] → walked (rules_with_help_and_files os) [] (walk_at rows p (option id) false) word ≡ walk_at rows (Some (id, word ∷ [])) idle false
value_walked os rows p id word awaited a more is none = other_is os rows p (option id) word more is none ∙ value_is os rows p id word awaited a

pub bare_walked : (os : List (Opt Text)) (rows : List Row) (p : Option (Text × List Text)) (x : Waiting) (word name : Text) → arg_by_long (rules_with_help_and_files os) name ≡ Some (of_option name Set)
    → is_end word ≡ false → long_of word ≡ Some (name, None) → walked (rules_with_help_and_files os) [] (walk_at rows p x false) word ≡ walk_at (settled_rows (rules_with_help_and_files os) p rows) (Some (name, [])) (option name) false
bare_walked os rows p x word name by more is = walked_is (rules_with_help_and_files os) rows p x word ∙ rw (more, is) (ap (λ (r : Option Rule). onward (rules_with_help_and_files os) rows p x word (let m = long_met (rules_with_help_and_files os) r None (matches_so_far rows p) in after_flag (rules_with_help_and_files os) x word m.0 m.1)) by)

-- If clap finds no fault in the step over a word that is a file's name, then the argument for files has no fault.
pub plain_fault : (os : List (Opt Text)) (rows : List Row) (p : Option (Text × List Text)) (x : Waiting) (word : Text) → plain_word (rules_with_help_and_files os) x word (matches_so_far rows p) ≡ (matches_so_far rows p, value) → is_end word ≡ false → long_of word ≡ None
    → turn_fault (command_of os) [] (walk_at rows p x false) word ≡ [] → positional_fault (rules_with_help_and_files os) false of_files (matches_so_far rows p) ≡ []
plain_fault os rows p x word file more is none =
    let fault = word_fault os rows p x word more none in
    let same = by_flags os rows p x word (short_of word) (rw is at fault) ∙ file in
    let step = or_else_empty_second (word_part (command_of os) rows p word) (step_part (command_of os) rows p x word) (sym (turn_is (command_of os) rows p x word) ∙ none) in
    let here = rw (more, is) at step in
    subst (λ (m : Held × Step). step_fault (command_of os) 1 m.0 m.1 ≡ []) same here

-- The end of the options.

pub walk_end : (os : List (Opt Text)) (rows : List Row) (p : Option (Text × List Text)) (x : Waiting) (word : Text) → is_end word ≡ true
    → walked (rules_with_help_and_files os) [] (walk_at rows p x false) word ≡ walk_at rows p x true
walk_end os rows p x word e = walked_is (rules_with_help_and_files os) rows p x word ∙ rw e refl

pub walk_after_end : (os : List (Opt Text)) (rows : List Row) (p : Option (Text × List Text)) (x : Waiting) (word : Text)
    → walked (rules_with_help_and_files os) [] (walk_at rows p x true) word ≡ walk_at (settled_rows (rules_with_help_and_files os) p rows) (Some (GRAMMARS.now, word ∷ [])) positional true
unfolding walked
walk_after_end os rows p x word = positional_is_file os rows p word x true
