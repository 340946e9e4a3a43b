use Rattle.std.proofs.Common.{◌≡◌, true, List, ℕ, ap, arith, rules, sym, ◌∙◌}
use Rattle.std.specs.Prelude.{Some}
use Rattle.std.specs.Char.{is_ascii_digit}
use Rattle.std.specs.List.{list_all}
use Rattle.std.proofs.lemmas.Str.Parse.{IsNumeralModel, numerals_by_fold, parse_gives, digits_value_short}
use Rattle.mh_opts.specs.Numbers.{value_after}
use Rattle.mh_opts.proofs.numbers.long_value.Goals as goal

own : IsNumeralModel (λ ds. list_all is_ascii_digit ds ≡ true) (value_after 0)
own = numerals_by_fold _ (search rules) value_after (search rules)

pub returns-in-Ok : goal.returns-in-Ok
returns-in-Ok c =
    let text = c.args.digits.now in
    let gives = parse_gives own 64 text c.parse.result c.parse.ensures.value.0 c.requires.digits (omega (arith, c.requires.some)) (omega (arith, digits_value_short own text 19 c.requires.digits (omega (arith, c.requires.few)))) in
    cc

pub returns-in-Err : goal.returns-in-Err
returns-in-Err c =
    let text = c.args.digits.now in
    let gives = parse_gives own 64 text c.parse.result c.parse.ensures.value.0 c.requires.digits (omega (arith, c.requires.some)) (omega (arith, digits_value_short own text 19 c.requires.digits (omega (arith, c.requires.few)))) in
    absurd (cc)
