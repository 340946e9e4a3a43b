-- Proves that an order follows the options among the words.
use Rattle.std.proofs.Common.{◌≡◌, ◌∙◌, ◌&&◌, ◌||◌, Bool, true, false, not, List, [], ◌∷◌, Option, Some, None, Result, Ok, Err, codes, map, refl, sym, ap, ap₂, bytes_eq, if◌then◌else◌}
use Rattle.std.specs.Prelude.{is_none}
use Rattle.std.specs.List.{list_all}
use Rattle.clap.specs.Takes.{is_given}
use Rattle.clap.specs.Walk.{Row, Text, finished, idle, is_empty, nothing_held, walk}
use Rattle.clap.specs.Simple.{matches_of}
use Rattle.clap.specs.Faults.{fault_of}
use Rattle.clap.proofs.SimpleLemmas.{is_false, is_nil}
use Rattle.clap.proofs.WalkLemmas.{both}
use Rattle.mh_opts.specs.declared.jobs.JobKind.{JobKind}
use Rattle.mh_opts.specs.declared.jobs.JobKind.TheVariants as modes
use Rattle.mh_opts.specs.declared.jobs.Opt.{Opt}
use Rattle.mh_opts.specs.declared.jobs.TheConstants.{GRAMMARS}
use Rattle.mh_opts.specs.declared.order.Order.{Order}
use Rattle.mh_opts.specs.declared.order.UsageFault.{UsageFault}
use Rattle.mh_opts.specs.declared.order.UsageFault.TheVariants.{Parse}
use Rattle.mh_opts.specs.declared.repeated_option.SeenUses.{SeenUses}
use Rattle.mh_opts.specs.declared.repeated_option.SeenUses.TheVariants.{Nothing, One, All}
use Rattle.mh_opts.specs.App.{menhir_app}
use Rattle.mh_opts.specs.Options.{options}
use Rattle.mh_opts.specs.GivenOptions.{FollowsOptions, mode_among, mode_of}
use Rattle.mh_opts.specs.Orders.{job_for, mode_at, only, order_for, order_in, order_of, order_renamed, present}
use Rattle.mh_opts.specs.PosixReading.{is_use_of, is_used_in}
use Rattle.mh_opts.specs.RepeatedOption.{again, is_end, is_reserved, is_use, renamed, renamed_from, seen_after}
use Rattle.mh_opts.proofs.OptionLookup.{is_fit, rules_with_help_and_files}
use Rattle.mh_opts.proofs.RowsAfterUse.{bytes_eq_false_sym, is_plain}
use Rattle.mh_opts.proofs.UsesInWords.{end_given, is_used_in-end, is_used_in-step, walk_uses}
use Rattle.mh_opts.proofs.OrderFiles.{Use, all_fit, all_same, bare, by_rows, chosen_order, no_names, not_renamed, shape_is, taken, use_alike, use_is, use_names, use_renamed, valued, words_of, words_taken}

-- ---- The words as clap reads them.

found_uses : (words : List Text) → fault_of menhir_app words ≡ [] → (name : Text) → bytes_eq GRAMMARS.now name ≡ false → is_given name (matches_of menhir_app words) ≡ is_used_in name words
found_uses words none name apart =
    let w = walk (rules_with_help_and_files options) [] nothing_held words in
    let rows : matches_of menhir_app words ≡ finished (rules_with_help_and_files options) w.held = rw (shape_is, no_names, words_of words) refl in
    ap (is_given name) rows ∙ end_given options name w ∙ walk_uses options all_fit name apart words [] None idle false refl (words_taken words none).0

-- ---- Renaming the second use of one option changes no use of another option.

again_names : (word : Text) → Use word → (name : Text) → is_use_of name (again word) ≡ bytes_eq (codes "compare-errors-2") name
again_names word (bare e) name = rw e refl
again_names word (valued value e) name = rw e refl

kept_uses : (name word : Text) (words others : List Text) → (is_end word ≡ false → is_used_in name others ≡ is_used_in name words) → is_used_in name (word ∷ others) ≡ is_used_in name (word ∷ words)
kept_uses name word words others later = go (is_end word) refl
  where
    go : (b : Bool) → is_end word ≡ b → is_used_in name (word ∷ others) ≡ is_used_in name (word ∷ words)
    go true e = is_used_in-end name word others e ∙ sym (is_used_in-end name word words e)
    go false e = is_used_in-step name word others e ∙ ap (λ (b : Bool). is_use_of name word || b) (later e) ∙ sym (is_used_in-step name word words e)

module _ (name : Text) (first : bytes_eq (codes "compare-errors") name ≡ false) (second : bytes_eq (codes "compare-errors-2") name ≡ false) where
  second_uses : (word : Text) (words : List Text) → is_used_in name (renamed_from (seen_after One word) words) ≡ is_used_in name words → (b : Bool) → is_use word ≡ b
      → is_used_in name (renamed_from One (word ∷ words)) ≡ is_used_in name (word ∷ words)
  second_uses word words later true e =
      let spelled = use_is word (bytes_eq word (codes "--compare-errors")) refl e in
      let alike = use_alike word spelled in
      ap (is_used_in name) (use_renamed word words e alike.ends)
      ∙ is_used_in-step name (again word) words alike.other_end
      ∙ ap (λ (b : Bool). b || is_used_in name words) (again_names word spelled name ∙ second)
      ∙ sym (is_used_in-step name word words alike.ends ∙ ap (λ (b : Bool). b || is_used_in name words) (use_names word spelled name ∙ first))
  second_uses word words later false e =
      ap (λ (v : Text). is_used_in name (v ∷ renamed_from (seen_after One word) words)) (not_renamed word e)
      ∙ kept_uses name word words (renamed_from (seen_after One word) words) (λ more. later)

  other_uses : (seen : SeenUses) (words : List Text) → is_used_in name (renamed_from seen words) ≡ is_used_in name words
  other_uses seen [] = refl
  other_uses All (word ∷ words) = ap (is_used_in name) (all_same (word ∷ words))
  other_uses Nothing (word ∷ words) = kept_uses name word words (renamed_from (seen_after Nothing word) words) (λ more. other_uses (seen_after Nothing word) words)
  other_uses One (word ∷ words) = second_uses word words (other_uses (seen_after One word) words) (is_use word) refl

-- The first use of the option that may occur twice keeps its name.
module _ (name : Text) (first : bytes_eq (codes "compare-errors") name ≡ true) where
  abbrev Keeps : List Text → Type 0
  Keeps words = is_used_in name (renamed_from Nothing words) ≡ is_used_in name words

  by_use : (word : Text) (words : List Text) → Keeps words → is_end word ≡ false → (b : Bool) → is_use word ≡ b → Keeps (word ∷ words)
  by_use word words later more true e =
      let here = use_names word (use_is word (bytes_eq word (codes "--compare-errors")) refl e) name ∙ first in
      let others = renamed_from (seen_after Nothing word) words in
      is_used_in-step name word others more ∙ ap (λ (b : Bool). b || is_used_in name others) here
      ∙ sym (is_used_in-step name word words more ∙ ap (λ (b : Bool). b || is_used_in name words) here)
  by_use word words later more false e =
      let seen : seen_after Nothing word ≡ Nothing = rw (more, e) refl in
      kept_uses name word words (renamed_from (seen_after Nothing word) words) (λ _. ap (λ (s : SeenUses). is_used_in name (renamed_from s words)) seen ∙ later)

  first_use : (words : List Text) → Keeps words
  first_use [] = refl
  first_use (word ∷ words) = by_end (first_use words) (is_end word) refl
    where
      by_end : Keeps words → (b : Bool) → is_end word ≡ b → Keeps (word ∷ words)
      by_end later true e = is_used_in-end name word (renamed_from (seen_after Nothing word) words) e ∙ sym (is_used_in-end name word words e)
      by_end later false e = by_use word words later e (is_use word) refl

same_uses : (name : Text) → bytes_eq (codes "compare-errors-2") name ≡ false → (words : List Text) → is_used_in name (renamed words) ≡ is_used_in name words
same_uses name second words = go (bytes_eq (codes "compare-errors") name) refl
  where
    go : (b : Bool) → bytes_eq (codes "compare-errors") name ≡ b → is_used_in name (renamed words) ≡ is_used_in name words
    go true e = first_use name e words
    go false e = other_uses name e second Nothing words

-- ---- The modes of the options.

-- The other name of the option that may occur twice selects no mode.
abbrev is_fine : Opt Text → Bool
is_fine option = is_none option.mode || not (bytes_eq (codes "compare-errors-2") option.name)

all_fine : list_all is_fine options ≡ true
unfolding options
all_fine = refl

abbrev no_mode : Option JobKind
no_mode = None

no_choice : (b : Bool) → (if b then no_mode else no_mode) ≡ no_mode
no_choice true = refl
no_choice false = refl

module _ (words : List Text) (rows : List Row) (given : (name : Text) → bytes_eq GRAMMARS.now name ≡ false → bytes_eq (codes "compare-errors-2") name ≡ false → is_given name rows ≡ is_used_in name words) where
  same_mode : (name : Text) (mode : Option JobKind) → bytes_eq name GRAMMARS.now ≡ false → (is_none mode || not (bytes_eq (codes "compare-errors-2") name)) ≡ true
      → (if is_given name rows then mode else None) ≡ (if is_used_in name words then mode else None)
  same_mode name None other fine = no_choice (is_given name rows) ∙ sym (no_choice (is_used_in name words))
  same_mode name (Some mode) other fine =
      ap (λ (b : Bool). if b then Some mode else None) (given name (bytes_eq_false_sym name GRAMMARS.now other) (is_false (bytes_eq (codes "compare-errors-2") name) fine))

  same_modes : (os : List (Opt Text)) → list_all is_fit os ≡ true → list_all is_fine os ≡ true → map (mode_at rows) os ≡ map (mode_among words) os
  same_modes [] fit fine = refl
  same_modes (o ∷ os) fit fine =
      let fits = both (is_fit o) (list_all is_fit os) fit in
      let one = both (is_plain o.action) (not (bytes_eq o.name GRAMMARS.now)) fits.0 in
      let fines = both (is_fine o) (list_all is_fine os) fine in
      ap₂ (λ (m : Option JobKind) (ms : List (Option JobKind)). m ∷ ms) (same_mode o.name o.mode (is_false (bytes_eq o.name GRAMMARS.now) one.1) fines.0) (same_modes os fits.1 fines.1)

only_one : (ms : List JobKind) (mode : JobKind) → only ms ≡ Ok mode → ms ≡ mode ∷ []
only_one [] mode e = cc
only_one (m ∷ []) mode e = cc
only_one (m ∷ n ∷ ms) mode e = cc

mode_kept : (rows : List Row) (mode : JobKind) → mode_of (job_for rows mode) ≡ mode
mode_kept rows modes.Interpret = refl
mode_kept rows modes.InterpretError = refl
mode_kept rows modes.Session = refl
mode_kept rows modes.ShowAutomaton = refl
mode_kept rows modes.WriteTables = refl
mode_kept rows modes.ListErrors = refl
mode_kept rows modes.CompileErrors = refl
mode_kept rows modes.CompareErrors = refl
mode_kept rows modes.EchoErrors = refl
mode_kept rows modes.UpdateErrors = refl
mode_kept rows modes.RebaseErrors = refl
mode_kept rows modes.CheckErrors = refl
mode_kept rows modes.Check = refl
mode_kept rows modes.Sample = refl
mode_kept rows modes.ShortestSentences = refl
mode_kept rows modes.RandomSentence = refl
mode_kept rows modes.Explain = refl

pub follows_options : (words : List Text) (order : Order) → order_of words ≡ Ok order → FollowsOptions words order
follows_options words order e =
    let there = chosen_order (is_reserved words) Parse (order_renamed (renamed words)) order e in
    let rows = matches_of menhir_app (renamed words) in
    let parts = taken (is_empty (fault_of menhir_app (renamed words))) (order_in rows) order there in
    let none = is_nil (fault_of menhir_app (renamed words)) parts.0 in
    let one = by_rows rows order parts.1 in
    let given : (name : Text) → bytes_eq GRAMMARS.now name ≡ false → bytes_eq (codes "compare-errors-2") name ≡ false → is_given name rows ≡ is_used_in name words = λ name apart second. found_uses (renamed words) none name apart ∙ same_uses name second words in
    let same : mode_of order.job ≡ one.0 = sym (ap (λ (o : Order). mode_of o.job) one.2) ∙ mode_kept rows one.0 in
    record {
      job = ap present (sym (same_modes words rows given options all_fit all_fine)) ∙ only_one (present (map (mode_at rows) options)) one.0 one.1 ∙ ap (λ (m : JobKind). m ∷ []) (sym same);
      canonical = sym (ap (λ (o : Order). o.canonical) one.2) ∙ given (codes "canonical") refl refl;
      strict = sym (ap (λ (o : Order). o.strict) one.2) ∙ given (codes "strict") refl refl;
      stdlib = sym (ap (λ (o : Order). o.stdlib) one.2) ∙ ap not (given (codes "no-stdlib") refl refl);
      show_cst = sym (ap (λ (o : Order). o.show_cst) one.2) ∙ given (codes "interpret-show-cst") refl refl;
      show_expected = sym (ap (λ (o : Order). o.show_expected) one.2) ∙ given (codes "show-expected") refl refl;
      comment_expected = sym (ap (λ (o : Order). o.comment_expected) one.2) ∙ given (codes "comment-expected") refl refl;
    }
