-- Lemmas on how the use of one argument changes the rows of this and of other arguments.
use Rattle.std.proofs.Common.{◌≡◌, ◌∙◌, ◌++◌, ◌||◌, Bool, true, false, not, List, [], ◌∷◌, Option, Some, None, refl, sym, ap, subst, bytes_eq, if◌then◌else◌, true≢false}
use Rattle.std.specs.Prelude.{unwrap_or}
use Rattle.std.proofs.lemmas.Slice.Eq.{bytes_eq-Decides}
use Rattle.std.proofs.lemmas.Bool.{false_from_ne_true, or_parts}
use Rattle.clap.specs.Facts.{explicit_source}
use Rattle.clap.specs.Takes.{is_given}
use Rattle.clap.specs.Walk.{Row, Rule, Text, all_of, default_rows, has_row, more_values, reading_by, stronger, used_as, with_default, with_values, without}
use Rattle.clap.specs.declared.builder.value_parser.Reading.{Reading}
use Rattle.clap.specs.declared.builder.action.ArgAction.{ArgAction}
use Rattle.clap.specs.declared.builder.action.ArgAction.TheVariants.{Set, SetTrue}
use Rattle.clap.specs.declared.parser.matches.ValueSource.{ValueSource}
use Rattle.clap.specs.declared.parser.matches.ValueSource.TheVariants.{DefaultValue, CommandLine}

-- Texts.

pub bytes_eq_refl : (a : Text) → bytes_eq a a ≡ true
bytes_eq_refl a = (bytes_eq-Decides a a).1 refl

pub bytes_eq_false_trans : (a b c : Text) → bytes_eq a b ≡ true → bytes_eq b c ≡ false → bytes_eq a c ≡ false
bytes_eq_false_trans a b c e apart = subst (λ (t : Text). bytes_eq t c ≡ false) (sym ((bytes_eq-Decides a b).0 e)) apart

pub bytes_eq_false_sym : (a b : Text) → bytes_eq a b ≡ false → bytes_eq b a ≡ false
bytes_eq_false_sym a b apart = false_from_ne_true (bytes_eq b a) (λ e. true≢false (sym ((bytes_eq-Decides a b).1 (sym ((bytes_eq-Decides b a).0 e))) ∙ apart))

-- The rows of another argument: its values are the same after the use.

later_row : (g : Text) (r : Row) (xs ys : List Row) → all_of g xs ≡ all_of g ys → all_of g (r ∷ xs) ≡ all_of g (r ∷ ys)
later_row g r xs ys same = go (bytes_eq r.id g) refl
  where
    go : (b : Bool) → bytes_eq r.id g ≡ b → all_of g (r ∷ xs) ≡ all_of g (r ∷ ys)
    go true e = rw e refl
    go false e = rw e same

without_step : (id g : Text) (r : Row) (rs : List Row) → bytes_eq id g ≡ false → all_of g (without id rs) ≡ all_of g rs
    → (b : Bool) → bytes_eq r.id id ≡ b → all_of g (if b then rs else (r ∷ without id rs)) ≡ all_of g (r ∷ rs)
without_step id g r rs apart so_far true e = let other : bytes_eq r.id g ≡ false = bytes_eq_false_trans r.id id g e apart in rw other refl
without_step id g r rs apart so_far false e = later_row g r (without id rs) rs so_far

pub without_other : (id g : Text) (rows : List Row) → bytes_eq id g ≡ false → all_of g (without id rows) ≡ all_of g rows
without_other id g [] apart = refl
without_other id g (r ∷ rs) apart = without_step id g r rs apart (without_other id g rs apart) (bytes_eq r.id id) refl

with_step : (id g : Text) (how : Reading) (s : ValueSource) (vs : List Text) (r : Row) (rs : List Row) → bytes_eq id g ≡ false
    → all_of g (with_values id how s vs rs) ≡ all_of g rs → (b : Bool) → bytes_eq r.id id ≡ b
    → all_of g (if b then more_values s vs r ++ rs else (r ∷ with_values id how s vs rs)) ≡ all_of g (r ∷ rs)
with_step id g how s vs r rs apart so_far true e = let other : bytes_eq r.id g ≡ false = bytes_eq_false_trans r.id id g e apart in rw other refl
with_step id g how s vs r rs apart so_far false e = later_row g r (with_values id how s vs rs) rs so_far

pub with_other : (id g : Text) (how : Reading) (s : ValueSource) (vs : List Text) (rows : List Row) → bytes_eq id g ≡ false
    → all_of g (with_values id how s vs rows) ≡ all_of g rows
with_other id g how s vs [] apart = rw apart refl
with_other id g how s vs (r ∷ rs) apart = with_step id g how s vs r rs apart (with_other id g how s vs rs apart) (bytes_eq r.id id) refl

pub default_other : (id g : Text) (how : Reading) (ds : List Text) (rows : List Row) → bytes_eq id g ≡ false → all_of g (default_rows id how ds rows) ≡ all_of g rows
default_other id g how [] rows apart = refl
default_other id g how (d ∷ ds) rows apart = with_other id g how DefaultValue (d ∷ ds) rows apart

-- The action of a flag, or of an option with one value.
abbrev pub is_plain : ArgAction → Bool
is_plain Set = true
is_plain SetTrue = true
is_plain action = false

pub used_other : (action : ArgAction) → is_plain action ≡ true → (id g : Text) (how : Reading) (vs : List Text) (rows : List Row) → bytes_eq id g ≡ false
    → all_of g (used_as action id how vs rows) ≡ all_of g rows
used_other Set plain id g how vs rows apart = with_other id g how CommandLine vs (without id rows) apart ∙ without_other id g rows apart
used_other SetTrue plain id g how vs rows apart = with_other id g how CommandLine vs (without id rows) apart ∙ without_other id g rows apart
used_other action plain id g how vs rows apart = absurd (true≢false (sym plain))

-- The row of the argument itself: `with_values` adds the new values after its old ones.

own_step : (g : Text) (how : Reading) (s : ValueSource) (vs : List Text) (r : Row) (rs : List Row)
    → unwrap_or (all_of g (with_values g how s vs rs)) [] ≡ unwrap_or (all_of g rs) [] ++ vs → (b : Bool) → bytes_eq r.id g ≡ b
    → unwrap_or (all_of g (if b then more_values s vs r ++ rs else (r ∷ with_values g how s vs rs))) [] ≡ unwrap_or (all_of g (r ∷ rs)) [] ++ vs
own_step g how s vs r rs so_far true e = rw e refl
own_step g how s vs r rs so_far false e = rw e so_far

pub with_own : (g : Text) (how : Reading) (s : ValueSource) (vs : List Text) (rows : List Row)
    → unwrap_or (all_of g (with_values g how s vs rows)) [] ≡ unwrap_or (all_of g rows) [] ++ vs
with_own g how s vs [] = rw (bytes_eq_refl g) refl
with_own g how s vs (r ∷ rs) = own_step g how s vs r rs (with_own g how s vs rs) (bytes_eq r.id g) refl

-- Which arguments the words give: those with a row whose source is not a default.

given_step : (n : Text) (r : Row) (rs : List Row) → is_given n (r ∷ rs) ≡ (if bytes_eq r.id n then explicit_source r.source else is_given n rs)
given_step n r rs = go (bytes_eq r.id n) refl
  where
    go : (b : Bool) → bytes_eq r.id n ≡ b → is_given n (r ∷ rs) ≡ (if bytes_eq r.id n then explicit_source r.source else is_given n rs)
    go true e = rw e refl
    go false e = rw e refl

-- The row that a use of an argument on the command line makes, if the argument has no row.
abbrev used_row : Text → Reading → List Text → Row
used_row id how vs = record {
  id = id;
  values = vs;
  count = None;
  source = Some CommandLine;
  reading = how;
}

words_outweigh : (source : Option ValueSource) → explicit_source (Some (stronger source CommandLine)) ≡ true
words_outweigh None = refl
words_outweigh (Some DefaultValue) = refl
words_outweigh (Some CommandLine) = refl

more_given : (n : Text) (vs : List Text) (r : Row) (rs : List Row) → is_given n (more_values CommandLine vs r ++ rs) ≡ (bytes_eq r.id n || is_given n (r ∷ rs))
more_given n vs r rs = go (bytes_eq r.id n) refl
  where
    go : (b : Bool) → bytes_eq r.id n ≡ b → is_given n (more_values CommandLine vs r ++ rs) ≡ (bytes_eq r.id n || is_given n (r ∷ rs))
    go true e = rw e (words_outweigh r.source)
    go false e = rw e refl

apart_from : (id n : Text) (r : Row) → bytes_eq r.id id ≡ false → bytes_eq r.id n ≡ true → bytes_eq id n ≡ false
apart_from id n r apart same = subst (λ (t : Text). bytes_eq id t ≡ false) ((bytes_eq-Decides r.id n).0 same) (bytes_eq_false_sym r.id id apart)

later_given : (id n : Text) (r : Row) (old new : List Row) → bytes_eq r.id id ≡ false → is_given n new ≡ (bytes_eq id n || is_given n old) → is_given n (r ∷ new) ≡ (bytes_eq id n || is_given n (r ∷ old))
later_given id n r old new apart so_far = go (bytes_eq r.id n) refl
  where
    go : (b : Bool) → bytes_eq r.id n ≡ b → is_given n (r ∷ new) ≡ (bytes_eq id n || is_given n (r ∷ old))
    go true e = let other : bytes_eq id n ≡ false = apart_from id n r apart e in rw (e, other) refl
    go false e = rw e so_far

with_step_given : (id n : Text) (how : Reading) (vs : List Text) (r : Row) (rs : List Row) → is_given n (with_values id how CommandLine vs rs) ≡ (bytes_eq id n || is_given n rs)
    → (b : Bool) → bytes_eq r.id id ≡ b → is_given n (if b then more_values CommandLine vs r ++ rs else (r ∷ with_values id how CommandLine vs rs)) ≡ (bytes_eq id n || is_given n (r ∷ rs))
with_step_given id n how vs r rs so_far true e =
    subst (λ (i : Text). is_given n (more_values CommandLine vs r ++ rs) ≡ (bytes_eq i n || is_given n (r ∷ rs))) ((bytes_eq-Decides r.id id).0 e) (more_given n vs r rs)
with_step_given id n how vs r rs so_far false e = later_given id n r rs (with_values id how CommandLine vs rs) e so_far

one_given : (id n : Text) (how : Reading) (vs : List Text) (b : Bool) → bytes_eq id n ≡ b → is_given n (used_row id how vs ∷ []) ≡ (bytes_eq id n || false)
one_given id n how vs true e = rw e refl
one_given id n how vs false e = rw e refl

pub with_given : (id n : Text) (how : Reading) (vs : List Text) (rows : List Row) → is_given n (with_values id how CommandLine vs rows) ≡ (bytes_eq id n || is_given n rows)
with_given id n how vs [] = one_given id n how vs (bytes_eq id n) refl
with_given id n how vs (r ∷ rs) = with_step_given id n how vs r rs (with_given id n how vs rs) (bytes_eq r.id id) refl

abbrev GivesBesides : Text → Text → List Row → List Row → Type 0
GivesBesides id n old new = (bytes_eq id n || is_given n new) ≡ (bytes_eq id n || is_given n old)

without_here : (n : Text) (r : Row) (rs : List Row) → GivesBesides r.id n (r ∷ rs) rs
without_here n r rs = go (bytes_eq r.id n) refl
  where
    go : (b : Bool) → bytes_eq r.id n ≡ b → GivesBesides r.id n (r ∷ rs) rs
    go true e = rw e refl
    go false e = rw e refl

without_later : (id n : Text) (r : Row) (rs : List Row) → GivesBesides id n rs (without id rs) → GivesBesides id n (r ∷ rs) (r ∷ without id rs)
without_later id n r rs so_far = go (bytes_eq r.id n) refl
  where
    go : (b : Bool) → bytes_eq r.id n ≡ b → GivesBesides id n (r ∷ rs) (r ∷ without id rs)
    go true e = rw e refl
    go false e = rw e so_far

without_step_given : (id n : Text) (r : Row) (rs : List Row) → GivesBesides id n rs (without id rs) → (b : Bool) → bytes_eq r.id id ≡ b → GivesBesides id n (r ∷ rs) (if b then rs else (r ∷ without id rs))
without_step_given id n r rs so_far true e = subst (λ (i : Text). GivesBesides i n (r ∷ rs) rs) ((bytes_eq-Decides r.id id).0 e) (without_here n r rs)
without_step_given id n r rs so_far false e = without_later id n r rs so_far

without_given : (id n : Text) (rows : List Row) → GivesBesides id n rows (without id rows)
without_given id n [] = refl
without_given id n (r ∷ rs) = without_step_given id n r rs (without_given id n rs) (bytes_eq r.id id) refl

pub used_given : (action : ArgAction) → is_plain action ≡ true → (id n : Text) (how : Reading) (vs : List Text) (rows : List Row) → is_given n (used_as action id how vs rows) ≡ (bytes_eq id n || is_given n rows)
used_given Set plain id n how vs rows = with_given id n how vs (without id rows) ∙ without_given id n rows
used_given SetTrue plain id n how vs rows = with_given id n how vs (without id rows) ∙ without_given id n rows
used_given action plain id n how vs rows = absurd (true≢false (sym plain))

-- An argument that the words give has a row.
pub given_has_row : (n : Text) (rows : List Row) → is_given n rows ≡ true → has_row n rows ≡ true
given_has_row n [] given = absurd (true≢false (sym given))
given_has_row n (r ∷ rs) given = go (bytes_eq r.id n) (given_has_row n rs) (sym (given_step n r rs) ∙ given)
  where
    go : (b : Bool) → (is_given n rs ≡ true → has_row n rs ≡ true) → (if b then explicit_source r.source else is_given n rs) ≡ true → (b || has_row n rs) ≡ true
    go true later here = refl
    go false later there = later there

-- A default gives no argument.

default_later : (id n : Text) (r : Row) (old new : List Row) → is_given n new ≡ is_given n old → is_given n (r ∷ new) ≡ is_given n (r ∷ old)
default_later id n r old new so_far = go (bytes_eq r.id n) refl
  where
    go : (b : Bool) → bytes_eq r.id n ≡ b → is_given n (r ∷ new) ≡ is_given n (r ∷ old)
    go true e = rw e refl
    go false e = rw e so_far

default_row : (id n : Text) (how : Reading) (vs : List Text) (b : Bool) → bytes_eq id n ≡ b → is_given n (with_values id how DefaultValue vs []) ≡ false
default_row id n how vs true e = rw e refl
default_row id n how vs false e = rw e refl

default_given : (id n : Text) (how : Reading) (vs : List Text) (rows : List Row) → has_row id rows ≡ false → is_given n (with_values id how DefaultValue vs rows) ≡ is_given n rows
default_given id n how vs [] none = default_row id n how vs (bytes_eq id n) refl
default_given id n how vs (r ∷ rs) none =
    let parts = or_parts (bytes_eq r.id id) (has_row id rs) none in
    let apart : bytes_eq r.id id ≡ false = parts.0 in
    rw apart (default_later id n r rs (with_values id how DefaultValue vs rs) (default_given id n how vs rs parts.1))

pub defaults_give_nothing : (n : Text) (rows : List Row) (rule : Rule) → is_given n (with_default rows rule) ≡ is_given n rows
defaults_give_nothing n rows rule = go (has_row rule.id rows) refl
  where
    by_defaults : (ds : List Text) → has_row rule.id rows ≡ false → is_given n (default_rows rule.id (reading_by rule) ds rows) ≡ is_given n rows
    by_defaults [] none = refl
    by_defaults (d ∷ ds) none = default_given rule.id n (reading_by rule) (d ∷ ds) rows none

    go : (b : Bool) → has_row rule.id rows ≡ b → is_given n (if b then rows else default_rows rule.id (reading_by rule) rule.defaults rows) ≡ is_given n rows
    go true e = refl
    go false e = by_defaults rule.defaults e
