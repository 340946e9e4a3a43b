-- Proves that clap refuses a second use of an option, at once or when its value is read.
use Rattle.std.proofs.Common.{◌≡◌, ◌∙◌, ◌+◌, ◌≤◌, ◌&&◌, ◌||◌, ℕ, Bool, true, false, not, List, [], ◌∷◌, Option, Some, None, refl, sym, ap, subst, bytes_eq, cond, count_by, if◌then◌else◌, true≢false, length, inl, inr, arith}
use Rattle.std.specs.Prelude.{unwrap_or}
use Rattle.std.specs.List.{list_all, list_any}
use Rattle.std.proofs.lemmas.List.Sums.{sum_by-cons}
use Rattle.std.proofs.lemmas.Slice.Eq.{bytes_eq-Decides}
use Rattle.clap.specs.Lexer.{long_of, short_of}
use Rattle.clap.specs.Kinds.{Kinds, or_else, range_kinds}
use Rattle.clap.specs.Walk.{Held, Row, Rule, Text, Waiting, Walk, arg_by_id, arg_by_long, has_row, idle, is_pending, option, positional, settled, settled_rows, takes_several, values_or_missing, walked}
use Rattle.clap.specs.Faults.{long_fault, positional_fault, react_fault, repeat_fault, set_fault, settle_fault, turn_fault, use_fault, values_fault, walk_fault}
use Rattle.clap.specs.declared.builder.action.ArgAction.{ArgAction}
use Rattle.clap.specs.declared.builder.action.ArgAction.TheVariants.{Set, SetTrue}
use Rattle.clap.proofs.SimpleLemmas.{is_false}
use Rattle.clap.proofs.WalkLemmas.{both}
use Rattle.mh_opts.specs.declared.jobs.Opt.{Opt}
use Rattle.mh_opts.specs.declared.jobs.TheConstants.{GRAMMARS}
use Rattle.mh_opts.specs.PosixReading.{before_end, is_listed, is_use_of, occurrences}
use Rattle.mh_opts.specs.RepeatedOption.{is_end}
use Rattle.mh_opts.proofs.OptionLookup.{rules_with_help, Found-long, is_fit, rules_with_help_and_files, of_files, of_option}
use Rattle.mh_opts.proofs.RowsAfterUse.{is_plain, bytes_eq_false_sym, given_has_row}
use Rattle.mh_opts.proofs.FilesInWords.{faults, walk_on}
use Rattle.mh_opts.proofs.ClapWalk.{AwaitsValue, IsWalkState, IsAwaited, or_else_empty_second, never_first, walk_end, or_else_empty_first, matches_so_far, is_used, no_help, one_more, walk_option, walk_other_word, plain_fault, command_of, walk_at, value_walked, word_fault, bare_walked}

-- An option of the table.

pub record IsOptionNamed (os : List (Opt Text)) (name : Text) : Type 0 where
  pub action : ArgAction
  pub plain : is_plain action ≡ true
  pub long_name : arg_by_long (rules_with_help_and_files os) name ≡ Some (of_option name action)
  pub by_id : arg_by_id (rules_with_help os) name ≡ Some (of_option name action)
  pub not_grammars : bytes_eq name GRAMMARS.now ≡ false

named_step : (o : Opt Text) (os : List (Opt Text)) (name : Text) → is_plain o.action ≡ true → bytes_eq o.name GRAMMARS.now ≡ false → (is_listed name os ≡ true → IsOptionNamed os name)
    → (b : Bool) → bytes_eq o.name name ≡ b → (b || is_listed name os) ≡ true → IsOptionNamed (o ∷ os) name
named_step o os name plain other later true e listed =
    let same : o.name ≡ name = (bytes_eq-Decides o.name name).0 e in
    let one : Some (of_option o.name o.action) ≡ Some (of_option name o.action) = ap (λ (n : Text). Some (of_option n o.action)) same in
    record {
      action = o.action;
      plain = plain;
      long_name = rw e one;
      by_id = rw e one;
      not_grammars = subst (λ (n : Text). bytes_eq n GRAMMARS.now ≡ false) same other;
    }
named_step o os name plain other later false e listed =
    let n = later listed in
    record {
      action = n.action;
      plain = n.plain;
      long_name = rw e n.long_name;
      by_id = rw e n.by_id;
      not_grammars = n.not_grammars;
    }

pub IsOptionNamed-listed : (os : List (Opt Text)) → list_all is_fit os ≡ true → (name : Text) → is_listed name os ≡ true → IsOptionNamed os name
IsOptionNamed-listed [] fit name listed = absurd (true≢false (sym listed))
IsOptionNamed-listed (o ∷ os) fit name listed =
    let parts = both (is_fit o) (list_all is_fit os) fit in
    let one = both (is_plain o.action) (not (bytes_eq o.name GRAMMARS.now)) parts.0 in
    named_step o os name one.0 (is_false (bytes_eq o.name GRAMMARS.now) one.1) (IsOptionNamed-listed os parts.1 name) (bytes_eq o.name name) refl listed

by_name : (os : List (Opt Text)) (name : Text) (n : IsOptionNamed os name) → arg_by_id (rules_with_help_and_files os) name ≡ Some (of_option name n.action)
by_name os name n = let other : bytes_eq GRAMMARS.now name ≡ false = bytes_eq_false_sym name GRAMMARS.now n.not_grammars in rw other n.by_id

-- Lemmas on a second use of an option.

not_none : {X : Type 0} (x : X) (xs : List X) → x ∷ xs ≡ [] → ⊥
not_none x xs e = cc

-- A flag has no value.
no_value : (os : List (Opt Text)) (h : Held) (name v : Text) → long_fault (rules_with_help_and_files os) false (Some (of_option name SetTrue)) (Some v) h ≡ [] → ⊥
no_value os h name v none = cc

conflict : (name : Text) (action : ArgAction) → is_plain action ≡ true → (vs : List Text) (rows : List Row) → has_row name rows ≡ true → use_fault false (of_option name action) vs rows ≡ [] → ⊥
conflict name Set plain vs rows has none =
    let later : set_fault false (of_option name Set) (values_or_missing (of_option name Set) vs) rows ≡ [] = or_else_empty_second (range_kinds 1 1 (length vs)) (set_fault false (of_option name Set) (values_or_missing (of_option name Set) vs) rows) none in
    let here = or_else_empty_first (repeat_fault false name rows) (values_fault (of_option name Set) (values_or_missing (of_option name Set) vs)) later in
    not_none _ _ (rw has at here)
conflict name SetTrue plain vs rows has none =
    let later : set_fault false (of_option name SetTrue) (values_or_missing (of_option name SetTrue) vs) rows ≡ [] = or_else_empty_second (range_kinds 0 0 (length vs)) (set_fault false (of_option name SetTrue) (values_or_missing (of_option name SetTrue) vs) rows) none in
    let here = or_else_empty_first (repeat_fault false name rows) (values_fault (of_option name SetTrue) (values_or_missing (of_option name SetTrue) vs)) later in
    not_none _ _ (rw has at here)
conflict name action plain vs rows has none = absurd (true≢false (sym plain))

-- If the second use has its value still pending, then settling it is a fault.
stuck : (os : List (Opt Text)) (name : Text) (n : IsOptionNamed os name) (rows : List Row) (vs : List Text) → has_row name rows ≡ true → settle_fault (rules_with_help_and_files os) false (matches_so_far rows (Some (name, vs))) ≡ [] → ⊥
stuck os name n rows vs has none =
    let by = by_name os name n in
    conflict name n.action n.plain vs rows has (rw by at none)

-- A use of another option first settles the pending value.
by_plain : (os : List (Opt Text)) (h : Held) (name : Text) (action : ArgAction) (v : Option Text) → is_plain action ≡ true → long_fault (rules_with_help_and_files os) false (Some (of_option name action)) v h ≡ [] → settle_fault (rules_with_help_and_files os) false h ≡ []
by_plain os h name Set (Some v) plain none = or_else_empty_first (settle_fault (rules_with_help_and_files os) false h) (use_fault false (of_option name Set) (v ∷ []) (settled (rules_with_help_and_files os) h).rows) none
by_plain os h name Set None plain none = none
by_plain os h name SetTrue (Some v) plain none = absurd (no_value os h name v none)
by_plain os h name SetTrue None plain none = or_else_empty_first (settle_fault (rules_with_help_and_files os) false h) (use_fault false (of_option name SetTrue) [] (settled (rules_with_help_and_files os) h).rows) none
by_plain os h name action v plain none = absurd (true≢false (sym plain))

settles : (os : List (Opt Text)) → list_all is_fit os ≡ true → (h : Held) (name : Text) (v : Option Text) (o : Option Rule) → arg_by_long (rules_with_help_and_files os) name ≡ o → long_fault (rules_with_help_and_files os) false o v h ≡ [] → settle_fault (rules_with_help_and_files os) false h ≡ []
settles os fit h name v None at none = cc
settles os fit h name v (Some rule) at none = elim (Found-long os fit name rule at) [
  | inl f ↦ by_plain os h name f.action v f.plain (subst (λ (r : Rule). long_fault (rules_with_help_and_files os) false (Some r) v h ≡ []) f.is none)
  | inr is ↦ absurd (no_help os h v (subst (λ (r : Rule). long_fault (rules_with_help_and_files os) false (Some r) v h ≡ []) is none))
]

-- A file also first settles the pending value.
file_settles : (os : List (Opt Text)) (rows : List Row) (p : Option (Text × List Text)) → positional_fault (rules_with_help_and_files os) false of_files (matches_so_far rows p) ≡ [] → settle_fault (rules_with_help_and_files os) false (matches_so_far rows p) ≡ []
file_settles os rows p none = sym (never_first (is_pending of_files p) [] (settle_fault (rules_with_help_and_files os) false (matches_so_far rows p))) ∙ none

-- After `--`, words are refused if a second use is pending.
stuck_behind : (os : List (Opt Text)) (name : Text) (n : IsOptionNamed os name) (words : List Text) (rows : List Row) (vs : List Text) (x : Waiting) → has_row name rows ≡ true
    → walk_fault (command_of os) [] (walk_at rows (Some (name, vs)) x true) words ≡ [] → settle_fault (rules_with_help_and_files os) false (walk_on os (walk_at rows (Some (name, vs)) x true) words).held ≡ [] → ⊥
stuck_behind os name n [] rows vs x has none ends = stuck os name n rows vs has ends
stuck_behind os name n (word ∷ words) rows vs x has none ends =
    let now = (faults os (walk_at rows (Some (name, vs)) x true) word words none).0 in
    stuck os name n rows vs has (file_settles os rows (Some (name, vs)) now)

-- The words are refused whenever a second use of this option is pending before them.
abbrev IsStuck : List (Opt Text) → Text → List Text → Type 0
IsStuck os name words = (rows : List Row) (vs : List Text) (x : Waiting) (awaited : Bool) → IsAwaited os (Some (name, vs)) x awaited → has_row name rows ≡ true
    → walk_fault (command_of os) [] (walk_at rows (Some (name, vs)) x false) words ≡ [] → settle_fault (rules_with_help_and_files os) false (walk_on os (walk_at rows (Some (name, vs)) x false) words).held ≡ [] → ⊥

same_name : (o : Option (Text × List Text)) (x y : Text) (vs ws : List Text) → o ≡ Some (x, vs) → o ≡ Some (y, ws) → x ≡ y
same_name o x y vs ws e f = ap (λ (q : Option (Text × List Text)). (unwrap_or q (x, vs)).0) (sym e ∙ f)

stuck_other : (os : List (Opt Text)) (name : Text) (n : IsOptionNamed os name) (word : Text) (words : List Text) → IsStuck os name words
    → (rows : List Row) (vs : List Text) (x : Waiting) (awaited : Bool) → IsAwaited os (Some (name, vs)) x awaited → has_row name rows ≡ true → is_end word ≡ false → long_of word ≡ None
    → walk_fault (command_of os) [] (walk_at rows (Some (name, vs)) x false) (word ∷ words) ≡ [] → settle_fault (rules_with_help_and_files os) false (walk_on os (walk_at rows (Some (name, vs)) x false) (word ∷ words)).held ≡ [] → ⊥
stuck_other os name n word words go rows vs idle awaited a has more is none ends =
    stuck os name n rows vs has (file_settles os rows (Some (name, vs)) (plain_fault os rows (Some (name, vs)) idle word refl more is (faults os (walk_at rows (Some (name, vs)) idle false) word words none).0))
stuck_other os name n word words go rows vs positional awaited a has more is none ends =
    stuck os name n rows vs has (file_settles os rows (Some (name, vs)) (plain_fault os rows (Some (name, vs)) positional word refl more is (faults os (walk_at rows (Some (name, vs)) positional false) word words none).0))
stuck_other os name n word words go rows vs (option id) awaited a has more is none ends =
    let parts = faults os (walk_at rows (Some (name, vs)) (option id) false) word words none in
    let same = same_name (Some (name, vs)) name id vs [] refl a.no_value in
    let next = value_walked os rows (Some (name, vs)) id word awaited a more is parts.0 in
    let again : walk_at rows (Some (id, word ∷ [])) idle false ≡ walk_at rows (Some (name, word ∷ [])) idle false = ap (λ (i : Text). walk_at rows (Some (i, word ∷ [])) idle false) (sym same) in
    let there : walked (rules_with_help_and_files os) [] (walk_at rows (Some (name, vs)) (option id) false) word ≡ walk_at rows (Some (name, word ∷ [])) idle false = next ∙ again in
    go rows (word ∷ []) idle false refl has (subst (λ (w : Walk). walk_fault (command_of os) [] w words ≡ []) there parts.1) (subst (λ (w : Walk). settle_fault (rules_with_help_and_files os) false (walk_on os w words).held ≡ []) there ends)

stuck_by : (os : List (Opt Text)) → list_all is_fit os ≡ true → (name : Text) (n : IsOptionNamed os name) (word : Text) (words : List Text) → IsStuck os name words
    → (rows : List Row) (vs : List Text) (x : Waiting) (awaited : Bool) → IsAwaited os (Some (name, vs)) x awaited → has_row name rows ≡ true
    → walk_fault (command_of os) [] (walk_at rows (Some (name, vs)) x false) (word ∷ words) ≡ [] → settle_fault (rules_with_help_and_files os) false (walk_on os (walk_at rows (Some (name, vs)) x false) (word ∷ words)).held ≡ []
    → (b : Bool) → is_end word ≡ b → (o : Option (Text × Option Text)) → long_of word ≡ o → ⊥
stuck_by os fit name n word words go rows vs x awaited a has none ends true e o is =
    let there = walk_end os rows (Some (name, vs)) x word e in
    let parts = faults os (walk_at rows (Some (name, vs)) x false) word words none in
    stuck_behind os name n words rows vs x has (subst (λ (w : Walk). walk_fault (command_of os) [] w words ≡ []) there parts.1) (subst (λ (w : Walk). settle_fault (rules_with_help_and_files os) false (walk_on os w words).held ≡ []) there ends)
stuck_by os fit name n word words go rows vs x awaited a has none ends false e (Some o) is =
    let now = word_fault os rows (Some (name, vs)) x word e (faults os (walk_at rows (Some (name, vs)) x false) word words none).0 in
    stuck os name n rows vs has (settles os fit (matches_so_far rows (Some (name, vs))) o.0 o.1 (arg_by_long (rules_with_help_and_files os) o.0) refl (rw is at now))
stuck_by os fit name n word words go rows vs x awaited a has none ends false e None is = stuck_other os name n word words go rows vs x awaited a has e is none ends

is_stuck : (os : List (Opt Text)) → list_all is_fit os ≡ true → (name : Text) (n : IsOptionNamed os name) (words : List Text) → IsStuck os name words
is_stuck os fit name n [] rows vs x awaited a has none ends = stuck os name n rows vs has ends
is_stuck os fit name n (word ∷ words) rows vs x awaited a has none ends =
    stuck_by os fit name n word words (is_stuck os fit name n words) rows vs x awaited a has none ends (is_end word) refl (long_of word) refl

-- A second use of an option is refused at once, or leaves a pending value that is refused later.
used_again : (os : List (Opt Text)) → list_all is_fit os ≡ true → (name : Text) (action : ArgAction) → is_plain action ≡ true → (n : IsOptionNamed os name) → n.action ≡ action → (word : Text) (v : Option Text) (words : List Text)
    → (rows : List Row) (p : Option (Text × List Text)) (x : Waiting) → is_used os rows p name ≡ true → is_end word ≡ false → long_of word ≡ Some (name, v)
    → walk_fault (command_of os) [] (walk_at rows p x false) (word ∷ words) ≡ [] → settle_fault (rules_with_help_and_files os) false (walk_on os (walk_at rows p x false) (word ∷ words)).held ≡ []
    → long_fault (rules_with_help_and_files os) false (Some (of_option name action)) v (matches_so_far rows p) ≡ [] → ⊥
used_again os fit name Set plain n same word (Some v) words rows p x used more is none ends fault =
    conflict name Set refl (v ∷ []) (settled_rows (rules_with_help_and_files os) p rows) (given_has_row name (settled_rows (rules_with_help_and_files os) p rows) used) (or_else_empty_second (settle_fault (rules_with_help_and_files os) false (matches_so_far rows p)) (use_fault false (of_option name Set) (v ∷ []) (settled_rows (rules_with_help_and_files os) p rows)) fault)
used_again os fit name Set plain n same word None words rows p x used more is none ends fault =
    let there = bare_walked os rows p x word name (n.long_name ∙ ap (λ (a : ArgAction). Some (of_option name a)) same) more is in
    let parts = faults os (walk_at rows p x false) word words none in
    let by : arg_by_id (rules_with_help_and_files os) name ≡ Some (of_option name Set) = by_name os name n ∙ ap (λ (a : ArgAction). Some (of_option name a)) same in
    is_stuck os fit name n words (settled_rows (rules_with_help_and_files os) p rows) [] (option name) true (record { is_awaited = refl; no_value = refl; rule_is = by; not_grammars = n.not_grammars })
    (given_has_row name (settled_rows (rules_with_help_and_files os) p rows) used)
    (subst (λ (w : Walk). walk_fault (command_of os) [] w words ≡ []) there parts.1) (subst (λ (w : Walk). settle_fault (rules_with_help_and_files os) false (walk_on os w words).held ≡ []) there ends)
used_again os fit name SetTrue plain n same word (Some v) words rows p x used more is none ends fault = no_value os (matches_so_far rows p) name v fault
used_again os fit name SetTrue plain n same word None words rows p x used more is none ends fault =
    conflict name SetTrue refl [] (settled_rows (rules_with_help_and_files os) p rows) (given_has_row name (settled_rows (rules_with_help_and_files os) p rows) used) (or_else_empty_second (settle_fault (rules_with_help_and_files os) false (matches_so_far rows p)) (use_fault false (of_option name SetTrue) [] (settled_rows (rules_with_help_and_files os) p rows)) fault)
used_again os fit name action plain n same word v words rows p x used more is none ends fault = absurd (true≢false (sym plain))

-- Lemmas on at most one use of an option.

abbrev pub one_if : Bool → ℕ
one_if b = if b then 1 else 0

abbrev AtMostOnce : List (Opt Text) → Text → List Text → Type 0
AtMostOnce os name words = (rows : List Row) (p : Option (Text × List Text)) (x : Waiting) (awaited : Bool) → IsAwaited os p x awaited
    → walk_fault (command_of os) [] (walk_at rows p x false) words ≡ [] → settle_fault (rules_with_help_and_files os) false (walk_on os (walk_at rows p x false) words).held ≡ [] → one_if (is_used os rows p name) + occurrences name words ≤ 1

no_more : (b : Bool) → one_if b + 0 ≤ 1
no_more true = omega arith
no_more false = omega arith

-- Lemmas on the words after one word.
onward : (os : List (Opt Text)) (name : Text) (words : List Text) → bytes_eq GRAMMARS.now name ≡ false → AtMostOnce os name words → (w : Walk) (awaited : Bool) (files : List Text) (uses : Text → Bool) → IsWalkState os w awaited files uses
    → walk_fault (command_of os) [] w words ≡ [] → settle_fault (rules_with_help_and_files os) false (walk_on os w words).held ≡ [] → one_if (uses name) + occurrences name words ≤ 1
onward os name words other go w awaited files uses g none ends =
    let there = go g.rows g.pending g.waiting awaited g.awaits (subst (λ (v : Walk). walk_fault (command_of os) [] v words ≡ []) g.is none) (subst (λ (v : Walk). settle_fault (rules_with_help_and_files os) false (walk_on os v words).held ≡ []) g.is ends) in
    subst (λ (b : Bool). one_if b + occurrences name words ≤ 1) (g.used name other) there

-- How one word is counted.
pub occurrences-end : (name word : Text) (words : List Text) → is_end word ≡ true → occurrences name (word ∷ words) ≡ 0
occurrences-end name word words e = rw e refl

pub occurrences-step : (name word : Text) (words : List Text) → is_end word ≡ false → occurrences name (word ∷ words) ≡ one_if (is_use_of name word) + occurrences name words
occurrences-step name word words e = rw e (sum_by-cons (λ (w : Text). cond (is_use_of name w) 1 0) word (before_end words))

one_here : (m t u n : ℕ) → t ≡ u + n → u ≡ 1 → m + (1 + n) ≤ 1 → m + t ≤ 1
one_here m t u n count one le = omega arith

none_here : (m t u n : ℕ) → t ≡ u + n → u ≡ 0 → m + n ≤ 1 → m + t ≤ 1
none_here m t u n count none le = omega arith

end_here : (m t : ℕ) → t ≡ 0 → m + 0 ≤ 1 → m + t ≤ 1
end_here m t none least = omega arith

by_use : (n : ℕ) (b : Bool) → (b ≡ true → ⊥) → 1 + n ≤ 1 → one_if b + (1 + n) ≤ 1
by_use n true apart le = absurd (apart refl)
by_use n false apart le = omega arith

module _ (os : List (Opt Text)) (fit : list_all is_fit os ≡ true) (name : Text) (n : IsOptionNamed os name) (word : Text) (words : List Text) (go : AtMostOnce os name words) where
  no_file : bytes_eq GRAMMARS.now name ≡ false
  no_file = bytes_eq_false_sym name GRAMMARS.now n.not_grammars

  by_option : (rows : List Row) (p : Option (Text × List Text)) (x : Waiting) (o : Text × Option Text) → is_end word ≡ false → long_of word ≡ Some o
      → walk_fault (command_of os) [] (walk_at rows p x false) (word ∷ words) ≡ [] → settle_fault (rules_with_help_and_files os) false (walk_on os (walk_at rows p x false) (word ∷ words)).held ≡ []
      → (b : Bool) → bytes_eq o.0 name ≡ b → one_if (is_used os rows p name) + occurrences name (word ∷ words) ≤ 1
  by_option rows p x o more is none ends true e =
      let parts = faults os (walk_at rows p x false) word words none in
      let g = walk_option os fit rows p x word o more is parts.0 in
      let later = onward os name words no_file go (walked (rules_with_help_and_files os) [] (walk_at rows p x false) word) _ _ (one_more os rows p o.0) g parts.1 ends in
      let after : 1 + occurrences name words ≤ 1 = rw e at later in
      let same : o.0 ≡ name = (bytes_eq-Decides o.0 name).0 e in
      let is_name : long_of word ≡ Some (name, o.1) = is ∙ ap (λ (t : Text). Some (t, o.1)) same in
      let now = word_fault os rows p x word more parts.0 in
      let long : long_fault (rules_with_help_and_files os) false (arg_by_long (rules_with_help_and_files os) name) o.1 (matches_so_far rows p) ≡ [] = rw is_name at now in
      let fault : long_fault (rules_with_help_and_files os) false (Some (of_option name n.action)) o.1 (matches_so_far rows p) ≡ [] = subst (λ (r : Option Rule). long_fault (rules_with_help_and_files os) false r o.1 (matches_so_far rows p) ≡ []) n.long_name long in
      let once = by_use (occurrences name words) (is_used os rows p name) (λ used. used_again os fit name n.action n.plain n refl word o.1 words rows p x used more is_name none ends fault) after in
      let used_here : is_use_of name word ≡ true = rw is e in
      one_here (one_if (is_used os rows p name)) (occurrences name (word ∷ words)) (one_if (is_use_of name word)) (occurrences name words) (occurrences-step name word words more) (ap one_if used_here) once
  by_option rows p x o more is none ends false e =
      let parts = faults os (walk_at rows p x false) word words none in
      let g = walk_option os fit rows p x word o more is parts.0 in
      let later = onward os name words no_file go (walked (rules_with_help_and_files os) [] (walk_at rows p x false) word) _ _ (one_more os rows p o.0) g parts.1 ends in
      let after : one_if (is_used os rows p name) + occurrences name words ≤ 1 = rw e at later in
      let not_here : is_use_of name word ≡ false = rw is e in
      none_here (one_if (is_used os rows p name)) (occurrences name (word ∷ words)) (one_if (is_use_of name word)) (occurrences name words) (occurrences-step name word words more) (ap one_if not_here) after

  by_word : (rows : List Row) (p : Option (Text × List Text)) (x : Waiting) (awaited : Bool) → IsAwaited os p x awaited
      → walk_fault (command_of os) [] (walk_at rows p x false) (word ∷ words) ≡ [] → settle_fault (rules_with_help_and_files os) false (walk_on os (walk_at rows p x false) (word ∷ words)).held ≡ []
      → (b : Bool) → is_end word ≡ b → (o : Option (Text × Option Text)) → long_of word ≡ o → one_if (is_used os rows p name) + occurrences name (word ∷ words) ≤ 1
  by_word rows p x awaited a none ends true e o is = end_here (one_if (is_used os rows p name)) (occurrences name (word ∷ words)) (occurrences-end name word words e) (no_more (is_used os rows p name))
  by_word rows p x awaited a none ends false e (Some o) is = by_option rows p x o e is none ends (bytes_eq o.0 name) refl
  by_word rows p x awaited a none ends false e None is =
      let parts = faults os (walk_at rows p x false) word words none in
      let g = walk_other_word os rows p x word awaited a e is parts.0 in
      let later = onward os name words no_file go (walked (rules_with_help_and_files os) [] (walk_at rows p x false) word) _ _ (is_used os rows p) g parts.1 ends in
      let not_here : is_use_of name word ≡ false = rw is refl in
      none_here (one_if (is_used os rows p name)) (occurrences name (word ∷ words)) (one_if (is_use_of name word)) (occurrences name words) (occurrences-step name word words e) (ap one_if not_here) later

pub at_most_once : (os : List (Opt Text)) → list_all is_fit os ≡ true → (name : Text) → IsOptionNamed os name → (words : List Text) → AtMostOnce os name words
at_most_once os fit name n [] rows p x awaited a none ends = no_more (is_used os rows p name)
at_most_once os fit name n (word ∷ words) rows p x awaited a none ends =
    by_word os fit name n word words (at_most_once os fit name n words) rows p x awaited a none ends (is_end word) refl (long_of word) refl
