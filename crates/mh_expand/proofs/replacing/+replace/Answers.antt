use Rattle.std.proofs.Common.{◌≡◌, ◌∷◌, [], ◌+◌, Some, drop, sym, ap, ◌∙◌, add-one, suc}
use Rattle.std.specs.List.{slice_get}
use Rattle.std.proofs.Math.Seq.{drop-cons}
use Rattle.std.proofs.lemmas.List.{drop_all}
use Rattle.mh_expand.specs.code.SharedTerms.{terms_of, terms_at}
use Rattle.mh_expand.proofs.ReplacedActuals.{replaced_term_of, IsReplacing, IsReplacing-start, IsReplacing-step, IsReplacing-done}
use Rattle.mh_expand.proofs.SharedTerms.{terms_at-kept}
use Rattle.mh_expand.proofs.replacing.+replace.Goals as goal

pub loop-arg-init : goal.loop-arg-init
loop-arg-init t c =
    let old = terms_of c.args.terms.now.nodes.keys in
    let fs = terms_at old c.args.formals.now in
    rw c.as_slice-arg-items.ensures (IsReplacing-start old fs c.in_ok-node.node c.args.applied.now c.in_ok-node.ensures)

pub loop-arg-preserved : goal.loop-arg-preserved
loop-arg-preserved t c =
    let old = terms_of c.args.terms.now.nodes.keys in
    let mid = terms_of c.loop-arg.terms.nodes.keys in
    let new = terms_of c.replace.new.terms.nodes.keys in
    let fs = terms_at old c.args.formals.now in
    let items = c.as_slice-arg-items.result.now in
    let i = c.loop-arg.arg-index in
    let inv : IsReplacing old mid fs c.loop-arg.node (drop i items) (replaced_term_of fs c.args.applied.now) = c.loop-arg.invariant in
    let front : drop i items ≡ c.arg-item.result ∷ drop (i + 1) items =
    rw add-one (drop-cons items i c.arg-item.result c.loop-arg-test.true ∙ ap (λ x. x ∷ drop (suc i) items) (sym c.arg-item.is)) in
    let same = terms_at-kept old mid c.args.formals.now inv.grows c.requires in
    let term : slice_get new c.in_ok-number.number ≡ Some (replaced_term_of fs c.arg-item.result) =
    c.in_ok-number.ensures.term ∙ ap (λ ts. Some (replaced_term_of ts c.arg-item.result)) same in
    rw c.in_ok-add_argument.ensures (IsReplacing-step old mid new fs c.loop-arg.node c.arg-item.result (drop (i + 1) items) (replaced_term_of fs c.args.applied.now) c.in_ok-number.number (rw front at inv) c.in_ok-number.ensures.grows term)

pub insert-requires : goal.insert-requires
insert-requires t c = c.loop-arg.invariant.below

pub returns-clause-grows : goal.returns-clause-grows
returns-clause-grows t c =
    let old = terms_of c.args.terms.now.nodes.keys in
    let mid = terms_of c.loop-arg.terms.nodes.keys in
    let new = terms_of c.insert.new.self.nodes.keys in
    let fs = terms_at old c.args.formals.now in
    let items = c.as_slice-arg-items.result.now in
    let inv : IsReplacing old mid fs c.loop-arg.node (drop c.loop-arg.arg-index items) (replaced_term_of fs c.args.applied.now) = c.loop-arg.invariant in
    let none : drop c.loop-arg.arg-index items ≡ [] = drop_all c.loop-arg.arg-index items c.loop-arg-test.false in
    (IsReplacing-done old mid new fs c.loop-arg.node (replaced_term_of fs c.args.applied.now) c.in_ok-insert.field-0 (rw none at inv) c.in_ok-insert.ensures).0

pub returns-clause-term : goal.returns-clause-term
returns-clause-term t c =
    let old = terms_of c.args.terms.now.nodes.keys in
    let mid = terms_of c.loop-arg.terms.nodes.keys in
    let new = terms_of c.insert.new.self.nodes.keys in
    let fs = terms_at old c.args.formals.now in
    let items = c.as_slice-arg-items.result.now in
    let inv : IsReplacing old mid fs c.loop-arg.node (drop c.loop-arg.arg-index items) (replaced_term_of fs c.args.applied.now) = c.loop-arg.invariant in
    let none : drop c.loop-arg.arg-index items ≡ [] = drop_all c.loop-arg.arg-index items c.loop-arg-test.false in
    (IsReplacing-done old mid new fs c.loop-arg.node (replaced_term_of fs c.args.applied.now) c.in_ok-insert.field-0 (rw none at inv) c.in_ok-insert.ensures).1
