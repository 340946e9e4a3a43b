-- Proves that the command `menhir` is simple, as clap's contracts define this: for simple commands they say which words
-- are accepted.
use Rattle.std.proofs.Common.{◌≡◌, true, false, refl, List, [], ◌∷◌, inl, inr, rules, arith}
use Rattle.std.proofs.lemmas.Grind.{common_steps}
use Rattle.clap.specs.Words.{HasKind, Kinds, is_simple, is_simple_and_free, kind_of}
use Rattle.clap.specs.Walk.{is_empty}
use Rattle.clap.specs.declared.error.Error.{Error}
use Rattle.clap.specs.declared.error.kind.ErrorKind.TheVariants.{OutOfMemory}
use Rattle.mh_opts.specs.App.{menhir_app}
use Rattle.mh_opts.specs.Options.{options}

pub menhir_is_simple : is_simple menhir_app ≡ true
unfolding options
menhir_is_simple = refl

-- The command is simple, and no argument of it has a rule on another argument.
pub menhir_is_simple_and_free : is_simple_and_free menhir_app ≡ true
unfolding options
menhir_is_simple_and_free = refl

pub is_not_empty : {X : Type 0} (x : X) (xs : List X) → is_empty (x ∷ xs) ≡ false
is_not_empty x xs = first_of (search rules, grind (arith, common_steps))

-- If an error has one of these kinds, the list of kinds is not empty.
pub not_empty_if_refused : (kinds : Kinds) (error : Error) → HasKind kinds error → (kind_of error ≡ OutOfMemory → ⊥) → is_empty kinds ≡ false
not_empty_if_refused [] error (inl memory) other = absurd (other memory)
not_empty_if_refused [] error (inr none) other = absurd none
not_empty_if_refused (k ∷ ks) error has other = is_not_empty k ks
