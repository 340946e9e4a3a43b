use Rattle.std.proofs.Common.{◌≡◌, ◌++◌, ◌∙◌, ℕ, List, Option, ap, ap₂, sym, subst}
use Rattle.std.specs.Prelude.{OnOk, codes}
use Rattle.mh_grammar.specs.declared.types.Symbol.{Symbol}
use Rattle.mh_grammar.specs.Text.{Text}
use Rattle.mh_grammar_texts.specs.Productions.{spaced_symbols, symbols_text}
use Rattle.mh_grammar_texts.proofs.productions.write_symbols.Goals as goal

pub returns-in-Some : goal.returns-in-Some
returns-in-Some c =
    let g = c.args.grammar.now in
    let symbols = c.args.symbols.now in
    let same : spaced_symbols g c.split_at.result.0.now ++ (codes " ." ++ spaced_symbols g c.split_at.result.1.now) ≡ symbols_text g c.args.dot symbols =
    ap₂ (λ (before behind : List Symbol). spaced_symbols g before ++ (codes " ." ++ spaced_symbols g behind)) c.split_at.ensures.front c.split_at.ensures.back
    ∙ sym (ap (λ (dot : Option ℕ). symbols_text g dot symbols) c.in-Some.is) in
    subst (λ (last : Text). OnOk c.write_dotted.result (c.write_dotted.new.text.items ≡ c.args.text.now.items ++ last)) same c.write_dotted.ensures
