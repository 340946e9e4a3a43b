use Rattle.std.proofs.Common.{◌<◌, length, refl, sym, ◌∙◌, arith}
use Rattle.std.proofs.lemmas.Bool.{false≢true}
use Rattle.std.proofs.lemmas.Option.{slice_get_read}
use Rattle.mh_inline.proofs.IsCyclic.{acyclic_kept, acyclic_sized}
use Rattle.mh_inline.proofs.cycles.reaches_itself.Goals as goal
use Rattle.mh_inline.proofs.cycles.reaches_itself.Goals.{then-not-is_inline-via-then-not-is_inline, then-not-is_inline-via-else-not-is_inline+then-is_some}

pub returns-then-not-is_inline : goal.returns-then-not-is_inline
returns-then-not-is_inline c =
    let is = c.args.expanded.now.instances in
    elim c.then-not-is_inline.branch [
      | then-not-is_inline-via-then-not-is_inline w ↦ ((λ e. absurd (false≢true e)), (λ r. absurd (acyclic_kept is c.args.number (sym c.is_inline.ensures ∙ w.if-not-is_inline.true) r)))
      | then-not-is_inline-via-else-not-is_inline+then-is_some w ↦ (
        (λ e. absurd (false≢true e)),
        (λ r. let sizes = c.args.sizing.now.sizes.items in
            let l : c.args.number < length sizes = omega (arith, c.requires.sizing.are_sizes.len, c.requires.number) in
            absurd (acyclic_sized is sizes c.args.number w.index.result.now c.requires.sizing.are_sizes (slice_get_read sizes (length sizes) c.args.number w.index.result.now refl l w.index.ensures) (sym w.is_some.ensures ∙ w.if-is_some.true) r)),
      )
    ]
