use Rattle.std.proofs.Common.{◌≡◌, ◌<◌, ◌≤◌, List, Some, ap, arith, false, length, refl, subst, sym, true, ◌∙◌}
use Rattle.std.specs.List.{slice_get}
use Rattle.std.proofs.lemmas.Bool.{false≢true}
use Rattle.std.proofs.lemmas.Option.{same_Some, slice_get-get_or, slice_get_read}
use Rattle.mh_grammar.specs.declared.types.NontermInfo.{NontermInfo}
use Rattle.mh_lint.proofs.UsedDeclarations.{AreUsedBelow, all_used, more_used, none_used, skipped}
use Rattle.mh_lint.proofs.on_error.used_declarations.Goals as goal
use Rattle.mh_lint.proofs.on_error.used_declarations.Goals.{then-reduced-number+in_ok-put_declaration, else-reduced-number}

pub loop-number-init : goal.loop-number-init
loop-number-init c = subst (λ keys. AreUsedBelow c.args.grammar.now c.args.reduced.now 0 keys) (sym c.new-used.ensures.empty) (none_used c.args.grammar.now c.args.reduced.now)

pub loop-number-preserved : goal.loop-number-preserved
loop-number-preserved c =
    let g = c.args.grammar.now in
    let reduced = c.args.reduced.now in
    let i = c.loop-number.number in
    let info = c.nonterminal-item.result in
    let infos = c.as_slice-nonterminal-items.result.now in
    let at : slice_get g.nonterminals i ≡ Some info = subst (λ (xs : List NontermInfo). slice_get xs i ≡ Some info) c.as_slice-nonterminal-items.ensures (slice_get_read infos (length infos) i info refl c.loop-number-test.true c.nonterminal-item.is) in
    let within : i < length reduced = (let l = c.loop-number-test.true in let e = ap length c.as_slice-nonterminal-items.ensures in let r = c.requires in omega (arith, l, e, r)) in
    let flag = slice_get-get_or reduced i false within in
    elim c.if-reduced-number.branch [
      | then-reduced-number+in_ok-put_declaration w ↦ rw w.used-is (more_used g reduced i info c.loop-number.used.keys w.put_declaration.new.used.keys at (flag ∙ ap Some w.if-reduced-number.true) c.loop-number.invariant w.in_ok-put_declaration.ensures)
      | else-reduced-number w ↦ rw w.used-is (skipped g reduced i c.loop-number.used.keys (λ e. false≢true (sym w.if-reduced-number.false ∙ same_Some _ true (sym flag ∙ e))) c.loop-number.invariant)
    ]

pub returns : goal.returns
returns c =
    let past : length c.args.grammar.now.nonterminals ≤ c.loop-number.number = (let l = c.loop-number-test.false in let e = ap length c.as_slice-nonterminal-items.ensures in omega (arith, l, e)) in
    all_used c.args.grammar.now c.args.reduced.now c.loop-number.number c.loop-number.used.keys past c.loop-number.invariant
