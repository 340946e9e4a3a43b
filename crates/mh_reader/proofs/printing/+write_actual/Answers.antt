use Rattle.std.proofs.Common.{◌≡◌, [], ◌∷◌, ◌++◌, map, refl, sym, ap, subst, ◌∙◌}
use Rattle.std.proofs.lemmas.List.{at_drop_all}
use Rattle.mh_lex.specs.LexemeTexts.{laid_out}
use Rattle.mh_rules.specs.declared.modules.Actual.{out-Actual}
use Rattle.mh_reader_parser.specs.code.Pieces.{mark, ref_piece, bracketed, bracket_end, actual_pieces}
use Rattle.mh_reader.specs.code.Printed.{Writes}
use Rattle.mh_reader.proofs.PrintedText.{Writes-append, Writes-one_more, actual_split}
use Rattle.mh_reader.proofs.printing.+write_actual.Goals as goal

pub loop-other-preserved : goal.loop-other-preserved
loop-other-preserved t c =
    Writes-one_more (λ xs. bracket_end (map actual_pieces xs)) (λ x. mark 44 ∷ actual_pieces x) (λ x xs. refl) c.in-Some.others.now _ _ _ _ _ c.loop-other-test.true c.other-item.is c.loop-other.invariant
    (Writes-append (mark 44 ∷ []) (actual_pieces c.other-item.result) _ _ _ c.in_ok-write_lexeme-2.ensures c.in_ok-write_actual-2.ensures)

pub returns : goal.returns
returns t c =
    let head = ref_piece (out-Actual c.args.actual.now).head in
    let first = actual_pieces c.in-Some.first.now in
    let others = bracket_end (map actual_pieces c.in-Some.others.now) in
    let args : (out-Actual c.args.actual.now).args ≡ c.in-Some.first.now ∷ c.in-Some.others.now = sym c.as_slice.ensures ∙ c.in-Some.ensures.cases.0 in
    let whole : actual_pieces c.args.actual.now ≡ head ∷ mark 40 ∷ first ++ others = actual_split c.args.actual.now ∙ ap (λ k. head ∷ bracketed (map actual_pieces k)) args in
    let rest = at_drop_all (λ xs. c.loop-other.text.items ++ laid_out (bracket_end (map actual_pieces xs))) c.in-Some.others.now _ c.loop-other-test.false in
    let closed : Writes c.write_actual.new.text.items c.write_lexeme-2.new.text.items others = c.in_ok-write_lexeme-3.ensures ∙ sym rest ∙ c.loop-other.invariant in
    subst (λ k. Writes c.args.text.now.items c.write_lexeme-2.new.text.items k) (sym whole)
    (Writes-append (head ∷ []) (mark 40 ∷ first ++ others) _ _ _ c.in_ok-write_ref.ensures
    (Writes-append (mark 40 ∷ []) (first ++ others) _ _ _ c.in_ok-write_lexeme.ensures
    (Writes-append first others _ _ _ c.in_ok-write_actual.ensures closed)))
