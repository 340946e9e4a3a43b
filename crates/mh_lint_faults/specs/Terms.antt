-- The heads of actuals, and formals among them.
use Rattle.std.specs.Prelude.{◌∷◌, Bool, true, false, List}
use Rattle.std.specs.List.{flat_map, list_any}
use Rattle.mh_rules.specs.declared.joined.Head.{Head}
use Rattle.mh_rules.specs.declared.joined.Head.TheVariants as variants
use Rattle.mh_rules.specs.declared.joined.Applied.{Applied}
use Rattle.mh_rules.specs.declared.joined.Applied.TheOpen.{Applied-F}
use Rattle.mh_rules.specs.declared.joined.Applied.TheFolds.{fold-Applied}

abbrev pub heads_step : Applied-F (List Head) → List Head
heads_step a = a.head ∷ flat_map (λ hs. hs) a.args

-- The head of an actual, and the heads of its arguments.
abbrev pub heads : Applied → List Head
heads = fold-Applied (List Head) heads_step

abbrev pub is_formal : Head → Bool
is_formal (variants.Formal k) = true
is_formal _ = false

-- Some head in the actual is a formal.
abbrev pub has_formals : Applied → Bool
has_formals a = list_any is_formal (heads a)
