-- The prelude, which is the rules of Menhir's standard library, as the value of its text (Menhir manual, standard
-- library, of which this project supports a part).
use Rattle.std.specs.Prelude.{ℕ, codes, List, [], ◌∷◌, ◌++◌, map, None, Bool, true, false}
use Prim.Native.String.{String}
use Rattle.mh_rules.specs.declared.modules.Ref.TheVariants.{Plain}
use Rattle.mh_rules.specs.declared.modules.Actual.{Actual}
use Rattle.mh_rules.specs.declared.modules.Alternative.{Alternative}
use Rattle.mh_rules.specs.declared.modules.Rule.{Rule}
use Rattle.mh_rules.specs.Modules.{applied, alternative}

-- A name applied to actuals.
abbrev pub call : List ℕ → List Actual → Actual
call name args = applied (Plain name) args

-- Names without arguments, as actuals.
abbrev pub words : List (List ℕ) → List Actual
words names = map (λ x. call x []) names

abbrev pub texts : List String → List (List ℕ)
texts names = map codes names

-- A public rule with these formals and alternatives.
abbrev pub rule_of : Bool → List ℕ → List (List ℕ) → List Alternative → Rule
rule_of inlined name formals alternatives = record { public = true; inlined = inlined; name = name; formals = formals; alternatives = alternatives }

abbrev pub plain : List Actual → Alternative
plain producers = alternative producers None

-- A rule that derives the empty word or its formal X.
abbrev pub optional : Bool → List ℕ → Rule
optional inlined name = rule_of inlined name (texts ("X" ∷ [])) (plain [] ∷ plain (words (texts ("X" ∷ []))) ∷ [])

-- A rule whose one alternative is its formals in order.
abbrev pub in_order : Bool → List ℕ → List (List ℕ) → Rule
in_order inlined name formals = rule_of inlined name formals (plain (words formals) ∷ [])

-- The rules for options.
abbrev pub option_rules : List Rule
option_rules = optional false (codes "option") ∷ optional true (codes "ioption") ∷ optional false (codes "boption") ∷ optional false (codes "loption") ∷ []

-- The rules for pairs and brackets.
abbrev pub pair_rules : List Rule
pair_rules =
    in_order true (codes "pair") (texts ("X" ∷ "Y" ∷ []))
    ∷ in_order true (codes "separated_pair") (texts ("X" ∷ "sep" ∷ "Y" ∷ []))
    ∷ in_order true (codes "preceded") (texts ("opening" ∷ "X" ∷ []))
    ∷ in_order true (codes "terminated") (texts ("X" ∷ "closing" ∷ []))
    ∷ in_order true (codes "delimited") (texts ("opening" ∷ "X" ∷ "closing" ∷ []))
    ∷ []

abbrev pub list_rule : Rule
list_rule =
    rule_of false (codes "list") (texts ("X" ∷ []))
    (plain [] ∷ plain (words (texts ("X" ∷ [])) ++ call (codes "list") (words (texts ("X" ∷ []))) ∷ []) ∷ [])

abbrev pub nonempty_list_rule : Rule
nonempty_list_rule =
    rule_of false (codes "nonempty_list") (texts ("X" ∷ []))
    (plain (words (texts ("X" ∷ []))) ∷ plain (words (texts ("X" ∷ [])) ++ call (codes "nonempty_list") (words (texts ("X" ∷ []))) ∷ []) ∷ [])

-- The actual `separated_nonempty_list(separator, X)`.
abbrev pub separated_items : Actual
separated_items = call (codes "separated_nonempty_list") (words (texts ("separator" ∷ "X" ∷ [])))

abbrev pub separated_list_rule : Rule
separated_list_rule =
    rule_of true (codes "separated_list") (texts ("separator" ∷ "X" ∷ [])) (plain (call (codes "loption") (separated_items ∷ []) ∷ []) ∷ [])

abbrev pub separated_nonempty_list_rule : Rule
separated_nonempty_list_rule =
    rule_of false (codes "separated_nonempty_list") (texts ("separator" ∷ "X" ∷ []))
    (plain (words (texts ("X" ∷ []))) ∷ plain (words (texts ("X" ∷ "separator" ∷ [])) ++ separated_items ∷ []) ∷ [])

-- The rules for lists.
abbrev pub list_rules : List Rule
list_rules = list_rule ∷ nonempty_list_rule ∷ separated_list_rule ∷ separated_nonempty_list_rule ∷ []

-- The other rules: four that only rename their formals, and `endrule` and `midrule`.
abbrev pub other_rules : List Rule
other_rules =
    in_order true (codes "rev") (texts ("XS" ∷ []))
    ∷ in_order true (codes "flatten") (texts ("XSS" ∷ []))
    ∷ in_order true (codes "append") (texts ("XS" ∷ "YS" ∷ []))
    ∷ in_order true (codes "endrule") (texts ("X" ∷ []))
    ∷ in_order false (codes "midrule") (texts ("X" ∷ []))
    ∷ []

-- The rules of the prelude, or none if the prelude is left out.
unfoldable pub prelude_rules : Bool → List Rule
prelude_rules true = option_rules ++ (pair_rules ++ (list_rules ++ other_rules))
prelude_rules false = []
