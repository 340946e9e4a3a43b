use Rattle.std.proofs.Common.{ℕ, List, ◌∷◌, ◌++◌, get_or, map, ap, refl, ◌∙◌}
use Rattle.mh_grammar.specs.Names.{nonterminal_name}
use Rattle.mh_tabfile.specs.code.Texts.{words_after}
use Rattle.mh_tabfile.proofs.LinesWritten.{item_more}
use Rattle.mh_tabfile.proofs.writing.write_start_names.Goals as goal

pub loop-start-preserved : goal.loop-start-preserved
loop-start-preserved c =
    let i = c.loop-start.start-index in
    let now = c.loop-start.text.items in
    record {
      rest = item_more (λ (xs : List ℕ). words_after (map (nonterminal_name c.args.grammar.now) xs)) c.args.starts.now i 0 (get_or c.args.starts.now i 0) (32 ∷ nonterminal_name c.args.grammar.now (get_or c.args.starts.now i 0))
          c.args.text.now.items now c.write_word.new.text.items c.loop-start-test.true refl refl (c.in_ok-write_word.ensures ∙ ap (λ (w : List ℕ). now ++ 32 ∷ w) c.nonterminal_name.ensures) c.loop-start.invariant.rest;
    }
