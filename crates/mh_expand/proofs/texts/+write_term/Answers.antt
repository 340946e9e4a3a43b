use Rattle.std.proofs.Common.{◌≡◌, ◌<◌, ◌⊎◌, ◌∷◌, ◌++◌, [], take, length, get_or, arith, ap, inl, inr, refl, sym}
use Rattle.std.proofs.lemmas.List.{take_at}
use Rattle.mh_grammar.proofs.Lists.{take_few}
use Rattle.mh_expand.specs.Terms.{text}
use Rattle.mh_expand.specs.code.SharedTerms.{terms_of, term_at}
use Rattle.mh_expand.proofs.BoundedTexts.{IsWriting-start, IsWriting-arg, IsWriting-without_args, IsWriting-end}
use Rattle.mh_expand.proofs.texts.+write_term.Goals as goal
use Rattle.mh_expand.proofs.texts.+write_term.Goals.{then-place-eq0, else-place-eq0}

pub loop-place-preserved : goal.loop-place-preserved
loop-place-preserved t c =
    let node = c.at-node.result.now in
    let i = c.loop-place.place in
    let items = c.as_slice-arg-items.result.now in
    let sign : ((i ≡ 0) × (c.if-place-eq0.separator.now ≡ 40 ∷ [])) ⊎ ((0 < i) × (c.if-place-eq0.separator.now ≡ 44 ∷ [])) = elim c.if-place-eq0.branch [
      | then-place-eq0 w ↦ inl (w.if-place-eq0.true, ap (λ s. s.now) w.separator-is)
      | else-place-eq0 w ↦ inr (omega (arith, w.if-place-eq0.false), ap (λ s. s.now) w.separator-is)
    ] in
    let l : i < length node.args = omega (arith, ap length c.as_slice-arg-items.ensures) in
    let e : c.write_term.new.text.items ≡ take c.args.room (c.write_bytes.new.text.items ++ text c.args.joined.now (term_at (terms_of c.args.terms.now.nodes.keys) (get_or items i 0))) = c.in_ok-write_term.ensures in
    IsWriting-arg c.args.joined.now c.args.room c.args.text.now.items c.loop-place.text.items c.write_bytes.new.text.items c.write_term.new.text.items node.head (terms_of c.args.terms.now.nodes.keys) node.args i c.if-place-eq0.separator.now l sign c.loop-place.invariant c.in_ok-write_bytes.ensures (rw c.as_slice-arg-items.ensures at e)

pub returns-in_ok-write_bytes-2 : goal.returns-in_ok-write_bytes-2
returns-in_ok-write_bytes-2 t c =
    let node = c.at-node.result.now in
    IsWriting-end c.args.joined.now c.args.room c.args.text.now.items c.loop-place.text.items c.write_bytes-then-not-is_empty.new.text.items node.head (terms_of c.args.terms.now.nodes.keys) node.args c.loop-place.place c.args.number (λ e. let f = c.if-not-is_empty.ensures.1 e in cc) (omega (arith, ap length c.as_slice-arg-items.ensures)) c.at-node.ensures.means c.loop-place.invariant c.in_ok-write_bytes-2.ensures

pub returns-then-len-room : goal.returns-then-len-room
returns-then-len-room t c = sym (take_at c.args.text.now.items (text c.args.joined.now (term_at (terms_of c.args.terms.now.nodes.keys) c.args.number)) c.args.room (omega arith))

pub loop-place-init : goal.loop-place-init
loop-place-init t c = IsWriting-start c.args.joined.now c.args.room c.args.text.now.items c.write_head.new.text.items c.at-node.result.now.head c.in_ok-write_head.ensures

pub write_bytes-requires : goal.write_bytes-requires
write_bytes-requires t c = rw c.loop-place.invariant.text (take_few _ c.args.room)

pub write_term-requires : goal.write_term-requires
write_term-requires t c =
    let i = c.loop-place.place in
    let items = c.as_slice-arg-items.result.now in
    let inside : i < length c.at-node.result.now.args = omega (arith, ap length c.as_slice-arg-items.ensures) in
    let below : get_or items i 0 < c.args.number = rw c.as_slice-arg-items.ensures (c.at-node.ensures.below i 0 inside) in
    (omega (arith, below, c.decreases), (omega (arith, below, c.requires.number), rw c.in_ok-write_bytes.ensures (take_few _ c.args.room)))

pub returns-else-not-is_empty : goal.returns-else-not-is_empty
returns-else-not-is_empty t c =
    let node = c.at-node.result.now in
    IsWriting-without_args c.args.joined.now c.args.room c.args.text.now.items c.loop-place.text.items node.head (terms_of c.args.terms.now.nodes.keys) node.args c.loop-place.place c.args.number (c.if-not-is_empty.ensures.0 refl) c.at-node.ensures.means c.loop-place.invariant
