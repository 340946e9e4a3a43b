-- Lemmas on the single mode among the options that the words contain.
use Rattle.std.proofs.Common.{◌≡◌, ◌∙◌, ◌<◌, ◌+◌, ℕ, List, [], ◌∷◌, length, drop, get_or, map, Option, Some, None, Result, Ok, Err, ap, refl, sym}
use Rattle.std.proofs.lemmas.List.{at_drop_more}
use Rattle.clap.specs.Words.{Row, Text}
use Rattle.mh_opts.specs.declared.modes.FoundModes.{FoundModes}
use Rattle.mh_opts.specs.declared.modes.FoundModes.TheVariants.{Nothing, One, Several}
use Rattle.mh_opts.specs.code.FoundModes.{with_one, with_next, with_all}
use Rattle.mh_opts.specs.declared.jobs.JobKind.{JobKind}
use Rattle.mh_opts.specs.declared.jobs.Opt.{Opt}
use Rattle.mh_opts.specs.declared.order.UsageFault.{UsageFault}
use Rattle.mh_opts.specs.declared.order.UsageFault.TheVariants.{Parse, Number, NoMode, TwoModes, Misplaced, NoGrammar, Memory}
use Rattle.mh_opts.specs.App.{plain, plain_rows}
use Rattle.mh_opts.specs.code.AllModes.{asked_in, only_of}
use Rattle.mh_opts.specs.Orders.{EqualsUnlessMemory, present, mode_at, mode_in, only}

-- The modes found so far, after more modes are counted.
abbrev counted : FoundModes JobKind → List JobKind → FoundModes JobKind
counted found [] = found
counted found (mode ∷ modes) = counted (with_one found mode) modes

with_given : (found : FoundModes JobKind) (modes : List (Option JobKind)) → with_all found modes ≡ counted found (present modes)
with_given found [] = refl
with_given found (None ∷ modes) = with_given found modes
with_given found (Some mode ∷ modes) = with_given (with_one found mode) modes

stay_several : (modes : List JobKind) → counted Several modes ≡ Several
stay_several [] = refl
stay_several (mode ∷ modes) = stay_several modes

only_counted : (modes : List JobKind) → only_of (counted Nothing modes) ≡ only modes
only_counted [] = refl
only_counted (mode ∷ []) = refl
only_counted (mode ∷ other ∷ modes) = ap only_of (stay_several modes)

-- The mode is the only one among the words.
pub mode_is_only : (rows : List Row) (options : List (Opt Text)) → only_of (asked_in rows options) ≡ mode_in rows options
mode_is_only rows options = ap only_of (with_given Nothing (map (mode_at rows) options)) ∙ only_counted (present (map (mode_at rows) options))

pub EqualsUnlessMemory-equal : (wanted found : Result JobKind UsageFault) → wanted ≡ found → EqualsUnlessMemory wanted found
EqualsUnlessMemory-equal wanted (Err Memory) is = tt
EqualsUnlessMemory-equal wanted (Err Parse) is = is
EqualsUnlessMemory-equal wanted (Err Number) is = is
EqualsUnlessMemory-equal wanted (Err NoMode) is = is
EqualsUnlessMemory-equal wanted (Err TwoModes) is = is
EqualsUnlessMemory-equal wanted (Err (Misplaced option)) is = is
EqualsUnlessMemory-equal wanted (Err NoGrammar) is = is
EqualsUnlessMemory-equal wanted (Ok mode) is = is

-- If the modes of the options from index i on are still to be added, then those from index i + 1 on are still to be
-- added after the mode of option i was added.
pub one_more : {N : Type 0} (rows : List Row) (options : List (Opt N)) (text : N → Text) (i : ℕ) (d : Opt N) (found next whole : FoundModes JobKind) (mode : Option JobKind) → i < length options
    → mode ≡ mode_at rows (plain (get_or options i d) text) → next ≡ with_next found mode → with_all found (map (mode_at rows) (plain_rows (drop i options) text)) ≡ whole
    → with_all next (map (mode_at rows) (plain_rows (drop (i + 1) options) text)) ≡ whole
one_more {N} rows options text i d found next whole mode lt at is so_far =
    ap (λ (new : FoundModes JobKind). with_all new (map (mode_at rows) (plain_rows (drop (i + 1) options) text))) (is ∙ ap (with_next found) at)
    ∙ sym (at_drop_more (λ (left : List (Opt N)). with_all found (map (mode_at rows) (plain_rows left text))) options i d lt)
    ∙ so_far
