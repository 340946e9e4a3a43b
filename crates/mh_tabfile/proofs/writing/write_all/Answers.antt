use Rattle.std.proofs.Common.{ap, sym, ◌∙◌, ◌++◌, map, length, List, [], ◌∷◌, codes, decimal, refl}
use Rattle.std.proofs.lemmas.List.{length-map}
use Rattle.mh_grammar.specs.Costs.{costs_of}
use Rattle.mh_grammar.specs.declared.types.Production.{Production}
use Rattle.mh_grammar.specs.declared.types.TokenInfo.{TokenInfo}
use Rattle.mh_tabfile_form.specs.Form.{count_line, production_line}
use Rattle.mh_tabfile_form.specs.TableContent.{raw_of, raw_production}
use Rattle.mh_tabfile.specs.code.Texts.{line_written, lines_written}
use Rattle.mh_tabfile.proofs.LinesWritten.{count_states, table_written}
use Rattle.mh_tabfile.proofs.writing.write_all.Goals as goal

pub returns : goal.returns
returns g c =
    let grammar = c.args.grammar.now in
    let automaton = c.args.automaton.now in
    let raw = raw_of grammar automaton c.args.mode c.args.table.now.states in
    let counted = c.requires.table.table.states.count in
    table_written raw c.args.text.now.items c.write_version.new.text.items c.write_tokens.new.text.items c.write_costs.new.text.items c.write_starts.new.text.items c.write_count.new.text.items
    c.write_productions.new.text.items c.write_count-2.new.text.items c.write_states.new.text.items c.extend_from_slice.new.self.items (costs_of grammar.tokens) c.requires.empty refl
    (c.in_ok-write_version.ensures ∙ ap (λ w. c.args.text.now.items ++ line_written (codes "menhir-tables" ∷ decimal 2 ∷ w ∷ [])) c.mode_name.ensures)
    (c.in_ok-write_tokens.ensures ∙ ap (λ (ts : List TokenInfo). c.write_version.new.text.items ++ line_written (codes "tokens" ∷ map (λ (t : TokenInfo). t.name) ts)) c.as_slice-tokens.ensures)
    (c.in_ok-write_costs.ensures ∙ ap (λ (ts : List TokenInfo). c.write_tokens.new.text.items ++ line_written (codes "costs" ∷ map decimal (costs_of ts))) c.as_slice-tokens.ensures)
    c.in_ok-write_starts.ensures
    (c.in_ok-write_count.ensures ∙ ap (λ n. c.write_starts.new.text.items ++ line_written (count_line (codes "productions") n)) (ap length c.as_slice-productions.ensures ∙ sym (length-map grammar.productions (raw_production grammar))))
    (c.in_ok-write_productions.ensures ∙ ap (λ (ps : List Production). c.write_count.new.text.items ++ lines_written (map production_line (map (raw_production grammar) ps))) c.as_slice-productions.ensures)
    (c.in_ok-write_count-2.ensures ∙ ap (λ n. c.write_productions.new.text.items ++ line_written (count_line (codes "states") n)) (c.states.ensures ∙ counted ∙ sym (count_states grammar automaton.kernels automaton.edges c.args.table.now.states c.requires.table.automaton.rows counted)))
    c.in_ok-write_states.ensures
    c.in_ok-extend_from_slice.ensures.items
