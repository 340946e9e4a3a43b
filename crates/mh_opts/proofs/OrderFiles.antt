-- Proves that the grammar files of a parsed command line are the words that are operands by the POSIX conventions, and
-- that a command line with an option used too often is refused.
use Rattle.std.proofs.Common.{◌≡◌, ◌∙◌, ◌+◌, ◌<◌, ◌≤◌, ◌++◌, ◌&&◌, ◌||◌, ℕ, Bool, true, false, not, List, [], ◌∷◌, Option, Some, None, Result, Ok, Err, codes, drop, length, nat_eq, refl, sym, ap, subst, bytes_eq, fold, is_some, if◌then◌else◌, true≢false, arith}
use Rattle.std.specs.Prelude.{IfOk, nat_le, unwrap_or}
use Rattle.std.specs.List.{list_all, starts_with}
use Rattle.std.proofs.lemmas.Bool.{leb-true}
use Rattle.std.proofs.lemmas.Bool.Decides.{Decides-eqb}
use Rattle.std.proofs.lemmas.Slice.Eq.{bytes_eq-Decides, starts_is}
use Rattle.clap.specs.Walk.{Names, Row, Text, Walk, finished, idle, is_empty, nothing_held, settled, walk, walked}
use Rattle.clap.specs.Simple.{Shape, argument_words, built, entered, matches_of, names_of}
use Rattle.clap.specs.Kinds.{Kinds, or_else}
use Rattle.clap.specs.Faults.{check_fault, defaults_fault, entered_fault, fault_of, level_fault, settle_fault, walk_fault}
use Rattle.clap.proofs.SimpleLemmas.{is_nil}
use Rattle.mh_opts.specs.declared.jobs.JobKind.{JobKind}
use Rattle.mh_opts.specs.declared.jobs.Opt.{Opt}
use Rattle.mh_opts.specs.declared.order.Order.{Order}
use Rattle.mh_opts.specs.declared.jobs.JobKind.TheVariants as modes
use Rattle.mh_opts.specs.declared.order.UsageFault.{UsageFault}
use Rattle.mh_opts.specs.declared.order.UsageFault.TheVariants.{Misplaced, NoGrammar, Number, Parse}
use Rattle.mh_opts.specs.declared.repeated_option.SeenUses.{SeenUses}
use Rattle.mh_opts.specs.declared.repeated_option.SeenUses.TheVariants.{Nothing, One, All}
use Rattle.mh_opts.specs.App.{menhir_app}
use Rattle.mh_opts.specs.Options.{late_needs, needs, options}
use Rattle.mh_opts.specs.Orders.{clashes, misplaces_comment_expected, file_of, grammars_of, is_sample, job_for, lacks_number, misplaces_show_expected, misplaced_in, mode_in, order_if_one_mode, order_for, order_in, order_late, order_of, order_renamed, order_unless_misplaced, with_hyphens, EqualsUnlessMemory, IsWithinLimits}
use Rattle.mh_opts.specs.Numbers.{at_most as up_to, max_length, number_in}
use Rattle.mh_opts.specs.PosixReading.{at_most, awaits, files_from, files_in, is_listed, is_option, is_use_of, occurrences}
use Rattle.mh_opts.specs.RepeatedOption.{again, is_end, is_reserved, is_use, renamed, renamed_from, seen_after, word_with}
use Rattle.mh_opts.proofs.FilesInWords.{end_files, walk_files, walk_on}
use Rattle.mh_opts.proofs.OptionLookup.{is_fit, rules_with_help_and_files}
use Rattle.mh_opts.proofs.ClapWalk.{or_else_empty_second, or_else_empty_first, command_of, walk_at}
use Rattle.mh_opts.proofs.SecondUseRefused.{at_most_once, IsOptionNamed-listed, one_if, occurrences-end, occurrences-step}
use Rattle.mh_opts.proofs.SimpleCommand.{is_not_empty}

-- Lemmas on the command for clap.

pub shape_is : (built menhir_app).top ≡ command_of options
unfolding options
shape_is = refl

pub no_names : names_of (built menhir_app) ≡ []
unfolding options
no_names = refl

pub all_fit : list_all is_fit options ≡ true
unfolding options
all_fit = refl

pub words_of : (words : List Text) → argument_words menhir_app words ≡ words
unfolding options
words_of words = refl

-- Clap finds no fault in the words, one after another, nor in the last option, which is checked after the last word.
abbrev Taken : Shape → Names → Walk → List Text → Type 0
Taken s names w words = (walk_fault s names w words ≡ []) × (settle_fault s.rules s.args_override_self (fold (walked s.rules names) w words).held ≡ [])

level_taken : (s : Shape) (names : Names) (words : List Text) (has : Bool) (below : Kinds) → level_fault s names nothing_held words has below ≡ [] → Taken s names (walk_at [] None idle false) words
level_taken s names words has below none =
    let w = walk s.rules names nothing_held words in
    let last : Kinds = or_else (defaults_fault (settled s.rules w.held).rows s.rules) (check_fault s (finished s.rules w.held) has) in
    let settle = settle_fault s.rules s.args_override_self w.held in
    let walking = walk_fault s names (walk_at [] None idle false) words in
    let later = or_else_empty_second walking (or_else below (or_else settle last)) none in
    (or_else_empty_first walking (or_else below (or_else settle last)) none, or_else_empty_first settle last (or_else_empty_second below (or_else settle last) later))

pub words_taken : (words : List Text) → fault_of menhir_app words ≡ [] → Taken (command_of options) [] (walk_at [] None idle false) words
words_taken words none =
    let app = built menhir_app in
    let there = argument_words menhir_app words in
    let stop = (walk app.top.rules (names_of app) nothing_held there).stopped in
    let here = level_taken app.top (names_of app) there (is_some (entered app stop)) (entered_fault app stop) none in
    rw (shape_is, no_names, words_of words) at here

found_files : (words : List Text) → fault_of menhir_app words ≡ [] → grammars_of (matches_of menhir_app words) ≡ files_in words
found_files words none =
    let w = walk (rules_with_help_and_files options) [] nothing_held words in
    let rows : matches_of menhir_app words ≡ finished (rules_with_help_and_files options) w.held = rw (shape_is, no_names, words_of words) refl in
    ap grammars_of rows ∙ end_files options all_fit w ∙ walk_files options all_fit words [] None idle false refl (words_taken words none).0

-- Lemmas on the order that the words spell.

three : (a b c : Bool) (x y z : UsageFault) (r : Result Order UsageFault) (order : Order) → (if a then Err x else (if b then Err y else (if c then Err z else r))) ≡ Ok order → r ≡ Ok order
three true b c x y z r order e = cc
three false true c x y z r order e = cc
three false false true x y z r order e = cc
three false false false x y z r order e = e

-- If a choice between a fault and a result gives an order, the result is this order.
pub chosen_order : (b : Bool) (fault : UsageFault) (r : Result Order UsageFault) (order : Order) → (if b then Err fault else r) ≡ Ok order → r ≡ Ok order
chosen_order true fault r order e = cc
chosen_order false fault r order e = e

late_is : (rows : List Row) (mode : JobKind) (option : Option Text) (order : Order) → order_late rows mode option ≡ Ok order → order_for rows mode ≡ order
late_is rows mode (Some option) order e = cc
late_is rows mode None order e =
    let with_grammar = (if not (is_sample mode) && is_empty (grammars_of rows) then Err NoGrammar else Ok (order_for rows mode)) in
    let placed = chosen_order (misplaces_comment_expected rows mode) (Misplaced (with_hyphens (codes "comment-expected"))) with_grammar order e in
    let same = chosen_order (not (is_sample mode) && is_empty (grammars_of rows)) NoGrammar (Ok (order_for rows mode)) order placed in cc

by_mode : (rows : List Row) (mode : JobKind) (option : Option Text) (order : Order) → order_unless_misplaced rows mode option ≡ Ok order → order_for rows mode ≡ order
by_mode rows mode (Some option) order e = cc
by_mode rows mode None order e =
    let late = three (clashes rows mode) (is_sample mode && not (is_empty (grammars_of rows))) (misplaces_show_expected rows) (Misplaced (with_hyphens (codes "tables"))) (Misplaced (with_hyphens (codes "sample"))) (Misplaced (with_hyphens (codes "show-expected"))) (order_late rows mode (misplaced_in rows late_needs)) order e in
    late_is rows mode (misplaced_in rows late_needs) order late

by_modes : (rows : List Row) (mode : Result JobKind UsageFault) (order : Order) → order_if_one_mode rows mode ≡ Ok order → (one : JobKind) × (mode ≡ Ok one) × (order_for rows one ≡ order)
by_modes rows (Err fault) order e = cc
by_modes rows (Ok mode) order e = (mode, refl, by_mode rows mode (misplaced_in rows needs) order e)

pub by_rows : (rows : List Row) (order : Order) → order_in rows ≡ Ok order → (one : JobKind) × (mode_in rows options ≡ Ok one) × (order_for rows one ≡ order)
by_rows rows order e = by_modes rows (mode_in rows options) order (chosen_order (lacks_number rows) Number (order_if_one_mode rows (mode_in rows options)) order e)

pub taken : (b : Bool) (r : Result Order UsageFault) (order : Order) → (if b then r else Err Parse) ≡ Ok order → (b ≡ true) × (r ≡ Ok order)
taken true r order e = (refl, e)
taken false r order e = cc

by_renamed : (words : List Text) (order : Order) → order_renamed words ≡ Ok order → order.grammars ≡ files_in words
by_renamed words order e =
    let parts = taken (is_empty (fault_of menhir_app words)) (order_in (matches_of menhir_app words)) order e in
    let one = by_rows (matches_of menhir_app words) order parts.1 in
    sym (ap (λ (o : Order). o.grammars) one.2) ∙ found_files words (is_nil (fault_of menhir_app words) parts.0)

-- ---- The limits of the job of an order.

at_most_is : (most : ℕ) (n : Option ℕ) → unwrap_or (up_to most n) 0 ≤ most
at_most_is most None = omega arith
at_most_is most (Some n) = go (nat_le n most) refl
  where
    go : (b : Bool) → nat_le n most ≡ b → unwrap_or (if b then Some n else None) 0 ≤ most
    go true e = leb-true n most e
    go false e = omega arith

job_limits : (rows : List Row) (mode : JobKind) → IsWithinLimits (job_for rows mode)
job_limits rows modes.RandomSentence = at_most_is max_length (number_in 4 (file_of rows (codes "length")))
job_limits rows modes.Interpret = tt
job_limits rows modes.InterpretError = tt
job_limits rows modes.Session = tt
job_limits rows modes.ShowAutomaton = tt
job_limits rows modes.WriteTables = tt
job_limits rows modes.ListErrors = tt
job_limits rows modes.CompileErrors = tt
job_limits rows modes.CompareErrors = tt
job_limits rows modes.EchoErrors = tt
job_limits rows modes.UpdateErrors = tt
job_limits rows modes.RebaseErrors = tt
job_limits rows modes.CheckErrors = tt
job_limits rows modes.Check = tt
job_limits rows modes.Sample = tt
job_limits rows modes.ShortestSentences = tt
job_limits rows modes.Explain = tt

pub order_limits : (words : List Text) (order : Order) → order_of words ≡ Ok order → IsWithinLimits order.job
order_limits words order e =
    let there = chosen_order (is_reserved words) Parse (order_renamed (renamed words)) order e in
    let rows = matches_of menhir_app (renamed words) in
    let one = by_rows rows order (taken (is_empty (fault_of menhir_app (renamed words))) (order_in rows) order there).1 in
    subst (λ (o : Order). IsWithinLimits o.job) one.2 (job_limits rows one.0)

pub answer_limits : (words : List Text) (r : Result Order UsageFault) → EqualsUnlessMemory (order_of words) r → IfOk r (λ (order : Order). IsWithinLimits order.job)
answer_limits words (Err fault) h = tt
answer_limits words (Ok order) h = order_limits words order h

-- The option that may occur twice.

-- A use of the option: the name alone, or the name with `=` and a value.
pub data Use (word : Text) : Type 0 where
  bare : word ≡ (codes "--compare-errors") → Use word
  valued : (value : Text) → word ≡ (codes "--compare-errors=") ++ value → Use word

pub use_is : (word : Text) (b : Bool) → bytes_eq word (codes "--compare-errors") ≡ b → (b || starts_with nat_eq word (codes "--compare-errors=")) ≡ true → Use word
use_is word true e u = bare ((bytes_eq-Decides word (codes "--compare-errors")).0 e)
use_is word false e u = valued (drop (length (codes "--compare-errors=")) word) ((starts_is Decides-eqb word (codes "--compare-errors=") (starts_with nat_eq word (codes "--compare-errors=")) refl).0 u)

-- The renamed word is an option too, and it awaits a value exactly if the original word does.
pub record Alike (word other : Text) : Type 0 where
  pub ends : is_end word ≡ false
  pub other_end : is_end other ≡ false
  pub is_one : is_option word ≡ true
  pub other_is_one : is_option other ≡ true
  pub awaited : awaits options other ≡ awaits options word

pub use_alike : (word : Text) → Use word → Alike word (again word)
unfolding options
use_alike word (bare e) = rw e (record { ends = refl; other_end = refl; is_one = refl; other_is_one = refl; awaited = refl })
use_alike word (valued value e) = rw e (record { ends = refl; other_end = refl; is_one = refl; other_is_one = refl; awaited = refl })

pub all_same : (words : List Text) → renamed_from All words ≡ words
all_same [] = refl
all_same (word ∷ words) = ap (λ (ws : List Text). word ∷ ws) (all_same words)

pub not_renamed : (word : Text) → is_use word ≡ false → word_with One word ≡ word
not_renamed word e = ap (λ (b : Bool). if b then again word else word) e

-- A second use of the option gets the other name.
pub use_renamed : (word : Text) (words : List Text) → is_use word ≡ true → is_end word ≡ false → renamed_from One (word ∷ words) ≡ again word ∷ words
use_renamed word words e more =
    let seen : seen_after One word ≡ All = rw (more, e) refl in
    ap (λ (b : Bool). (if b then again word else word) ∷ renamed_from (seen_after One word) words) e
    ∙ ap (λ (s : SeenUses). again word ∷ renamed_from s words) seen ∙ ap (λ (ws : List Text). again word ∷ ws) (all_same words)

-- A word that is not renamed keeps the files equal, if the files of the words after it are equal.
kept_word : (awaited : Bool) (word : Text) (words others : List Text) → (is_end word ≡ true → others ≡ words) → ((a : Bool) → files_from options a others ≡ files_from options a words)
    → files_from options awaited (word ∷ others) ≡ files_from options awaited (word ∷ words)
kept_word awaited word words others ends later = by_end (is_end word) refl
  where
    by_value : (b : Bool) → (if b then files_from options false others else word ∷ files_from options false others) ≡ (if b then files_from options false words else word ∷ files_from options false words)
    by_value true = later false
    by_value false = ap (λ (ws : List Text). word ∷ ws) (later false)

    by_option : (b : Bool) → (if b then files_from options (awaits options word) others else (if awaited then files_from options false others else word ∷ files_from options false others)) ≡ (if b then files_from options (awaits options word) words else (if awaited then files_from options false words else word ∷ files_from options false words))
    by_option true = later (awaits options word)
    by_option false = by_value awaited

    by_end : (b : Bool) → is_end word ≡ b → files_from options awaited (word ∷ others) ≡ files_from options awaited (word ∷ words)
    by_end true e = rw e (ends e)
    by_end false e = rw e (by_option (is_option word))

alike_files : (awaited : Bool) (word other : Text) (words : List Text) → Alike word other → files_from options awaited (other ∷ words) ≡ files_from options awaited (word ∷ words)
alike_files awaited word other words a = rw (a.ends, a.other_end, a.is_one, a.other_is_one, a.awaited) refl

second_files : (awaited : Bool) (word : Text) (words : List Text) → ((a : Bool) → files_from options a (renamed_from (seen_after One word) words) ≡ files_from options a words) → (b : Bool) → is_use word ≡ b
    → files_from options awaited (renamed_from One (word ∷ words)) ≡ files_from options awaited (word ∷ words)
second_files awaited word words later true e =
    let alike = use_alike word (use_is word (bytes_eq word (codes "--compare-errors")) refl e) in
    ap (files_from options awaited) (use_renamed word words e alike.ends) ∙ alike_files awaited word (again word) words alike
second_files awaited word words later false e =
    ap (λ (v : Text). files_from options awaited (v ∷ renamed_from (seen_after One word) words)) (not_renamed word e)
    ∙ kept_word awaited word words (renamed_from (seen_after One word) words) (λ ends. rw ends (all_same words)) later

renamed_files : (seen : SeenUses) (words : List Text) (awaited : Bool) → files_from options awaited (renamed_from seen words) ≡ files_from options awaited words
renamed_files seen [] awaited = refl
renamed_files All (word ∷ words) awaited = ap (files_from options awaited) (all_same (word ∷ words))
renamed_files Nothing (word ∷ words) awaited =
    kept_word awaited word words (renamed_from (seen_after Nothing word) words) (λ e. rw e (all_same words)) (λ a. renamed_files (seen_after Nothing word) words a)
renamed_files One (word ∷ words) awaited = second_files awaited word words (λ a. renamed_files (seen_after One word) words a) (is_use word) refl

pub order_files : (words : List Text) (order : Order) → order_of words ≡ Ok order → order.grammars ≡ files_in words
order_files words order e =
    by_renamed (renamed words) order (chosen_order (is_reserved words) Parse (order_renamed (renamed words)) order e) ∙ renamed_files Nothing words false

-- Lemmas on a second use of the option.

once_taken : (name : Text) → is_listed name options ≡ true → (words : List Text) → fault_of menhir_app words ≡ [] → occurrences name words ≤ 1
once_taken name listed words none =
    let least : 0 + occurrences name words ≤ 1 = at_most_once options all_fit name (IsOptionNamed-listed options all_fit name listed) words [] None idle false refl (words_taken words none).0 (words_taken words none).1 in
    omega arith

twice_refused : (words : List Text) → (fault_of menhir_app words ≡ [] → ⊥) → order_renamed words ≡ Err Parse
twice_refused words some = go (fault_of menhir_app words) refl
  where
    go : (kinds : Kinds) → fault_of menhir_app words ≡ kinds → (if is_empty kinds then order_in (matches_of menhir_app words) else Err Parse) ≡ Err Parse
    go [] e = absurd (some e)
    go (k ∷ ks) e = let more = is_not_empty k ks in rw more refl

-- Renaming changes the name of one use of the option that may occur twice.
pub use_names : (word : Text) → Use word → (name : Text) → is_use_of name word ≡ bytes_eq (codes "compare-errors") name
use_names word (bare e) name = rw e refl
use_names word (valued value e) name = rw e refl

abbrev Hides : Text → List Text → List Text → ℕ → Type 0
Hides name words others k = occurrences name words ≤ occurrences name others + k

same_hidden : (t k : ℕ) → t ≤ t + k
same_hidden t k = omega arith

none_hidden : (t s : ℕ) → t ≡ 0 → t ≤ s
none_hidden t s e = omega arith

more_hidden : (t s u m n k : ℕ) → t ≡ u + m → s ≡ u + n → m ≤ n + k → t ≤ s + k
more_hidden t s u m n k e f le = omega arith

one_hidden : (t s u v n : ℕ) → t ≡ u + n → s ≡ v + n → t ≤ s + u
one_hidden t s u v n e f = omega arith

kept_times : (name word : Text) (words others : List Text) (k : ℕ) → (is_end word ≡ false → Hides name words others k) → Hides name (word ∷ words) (word ∷ others) k
kept_times name word words others k later = go (is_end word) refl
  where
    go : (b : Bool) → is_end word ≡ b → Hides name (word ∷ words) (word ∷ others) k
    go true e = none_hidden (occurrences name (word ∷ words)) (occurrences name (word ∷ others) + k) (occurrences-end name word words e)
    go false e = more_hidden (occurrences name (word ∷ words)) (occurrences name (word ∷ others)) (one_if (is_use_of name word)) (occurrences name words) (occurrences name others) k (occurrences-step name word words e) (occurrences-step name word others e) (later e)

abbrev lost : Text → ℕ
lost name = one_if (bytes_eq (codes "compare-errors") name)

second_times : (name word : Text) (words : List Text) → Hides name words (renamed_from (seen_after One word) words) (lost name) → (b : Bool) → is_use word ≡ b → Hides name (word ∷ words) (renamed_from One (word ∷ words)) (lost name)
second_times name word words later true e =
    let spelled = use_is word (bytes_eq word (codes "--compare-errors")) refl e in
    let alike = use_alike word spelled in
    let here : occurrences name (word ∷ words) ≡ lost name + occurrences name words = occurrences-step name word words alike.ends ∙ ap (λ (b : Bool). one_if b + occurrences name words) (use_names word spelled name) in
    let there = one_hidden (occurrences name (word ∷ words)) (occurrences name (again word ∷ words)) (lost name) (one_if (is_use_of name (again word))) (occurrences name words) here (occurrences-step name (again word) words alike.other_end) in
    subst (λ (ws : List Text). Hides name (word ∷ words) ws (lost name)) (sym (use_renamed word words e alike.ends)) there
second_times name word words later false e =
    subst (λ (v : Text). Hides name (word ∷ words) (v ∷ renamed_from (seen_after One word) words) (lost name)) (sym (not_renamed word e)) (kept_times name word words (renamed_from (seen_after One word) words) (lost name) (λ more. later))

renamed_times : (name : Text) (seen : SeenUses) (words : List Text) → Hides name words (renamed_from seen words) (lost name)
renamed_times name seen [] = none_hidden (occurrences name []) (occurrences name [] + lost name) refl
renamed_times name All (word ∷ words) = subst (λ (ws : List Text). Hides name (word ∷ words) ws (lost name)) (sym (all_same (word ∷ words))) (same_hidden (occurrences name (word ∷ words)) (lost name))
renamed_times name Nothing (word ∷ words) = kept_times name word words (renamed_from (seen_after Nothing word) words) (lost name) (λ more. renamed_times name (seen_after Nothing word) words)
renamed_times name One (word ∷ words) = second_times name word words (renamed_times name (seen_after One word) words) (is_use word) refl

too_often : (t s k : ℕ) → t ≤ s + k → s ≤ 1 → 1 + k < t → ⊥
too_often t s k hides once often = omega arith

pub order_twice : (name : Text) (words : List Text) → is_listed name options ≡ true → at_most name < occurrences name words → order_of words ≡ Err Parse
order_twice name words listed often = go (is_reserved words)
  where
    some : fault_of menhir_app (renamed words) ≡ [] → ⊥
    some none = too_often (occurrences name words) (occurrences name (renamed words)) (lost name) (renamed_times name Nothing words) (once_taken name listed (renamed words) none) often

    go : (b : Bool) → (if b then Err Parse else order_renamed (renamed words)) ≡ Err Parse
    go true = refl
    go false = twice_refused (renamed words) some
