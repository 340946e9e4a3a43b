-- Lemmas on the result of clap, which the definitions read as a list of rows: an option is given if the source of its
-- value is the command line.
use Rattle.std.proofs.Common.{◌≡◌, ◌∙◌, Option, Some, None, false, refl, sym, ap, true≢false}
use Rattle.std.specs.Prelude.{is_some, option_and_then}
use Rattle.std.specs.Option.{option_map_or}
use Rattle.clap.specs.Facts.{explicit_source}
use Rattle.clap.specs.Takes.{is_given}
use Rattle.clap.specs.Words.{Text, matched_of, rows_of}
use Rattle.clap.specs.declared.parser.matches.Found.{Found}
use Rattle.clap.specs.declared.parser.matches.MatchedArg.{MatchedArg}
use Rattle.clap.specs.declared.parser.matches.ValueSource.{ValueSource}
use Rattle.clap.proofs.TakesLemmas.{present_row}

-- The source of the value is known.
pub given_from : (f : Found) (name : Text) (source : ValueSource) → option_and_then (λ (a : MatchedArg). a.source) (matched_of f name) ≡ Some source
    → explicit_source (Some source) ≡ is_given name (rows_of f)
given_from f name source same = go (matched_of f name) same ∙ present_row f name
  where
    go : (m : Option MatchedArg) → option_and_then (λ (a : MatchedArg). a.source) m ≡ Some source
        → explicit_source (Some source) ≡ option_map_or (λ (a : MatchedArg). explicit_source a.source) m false
    go None e = absurd (true≢false (sym (ap is_some e)))
    go (Some a) e = ap explicit_source (sym e)

-- The source of the value is not known.
pub given_else : (f : Found) (name : Text) → option_and_then (λ (a : MatchedArg). a.source) (matched_of f name) ≡ None
    → is_some (matched_of f name) ≡ is_given name (rows_of f)
given_else f name same = go (matched_of f name) same ∙ present_row f name
  where
    go : (m : Option MatchedArg) → option_and_then (λ (a : MatchedArg). a.source) m ≡ None
        → is_some m ≡ option_map_or (λ (a : MatchedArg). explicit_source a.source) m false
    go None e = refl
    go (Some a) e = ap explicit_source (sym e)
