use Rattle.std.proofs.Common.{ℕ, List, ◌∷◌, ◌++◌, get_or, map, ap, refl, ◌∙◌}
use Rattle.mh_grammar.specs.Names.{symbol_name}
use Rattle.mh_grammar.specs.declared.types.Symbol.{Symbol}
use Rattle.mh_grammar.specs.declared.types.Symbol.TheVariants.{T}
use Rattle.mh_tabfile.specs.code.Texts.{words_after}
use Rattle.mh_tabfile.proofs.LinesWritten.{item_more}
use Rattle.mh_tabfile.proofs.writing.write_symbol_names.Goals as goal

pub loop-symbol-preserved : goal.loop-symbol-preserved
loop-symbol-preserved c =
    let i = c.loop-symbol.symbol-index in
    let now = c.loop-symbol.text.items in
    record {
      rest = item_more (λ (xs : List Symbol). words_after (map (symbol_name c.args.grammar.now) xs)) c.args.symbols.now i (T 0) (get_or c.args.symbols.now i (T 0)) (32 ∷ symbol_name c.args.grammar.now (get_or c.args.symbols.now i (T 0)))
          c.args.text.now.items now c.write_word.new.text.items c.loop-symbol-test.true refl refl (c.in_ok-write_word.ensures ∙ ap (λ (w : List ℕ). now ++ 32 ∷ w) c.symbol_name.ensures) c.loop-symbol.invariant.rest;
    }
