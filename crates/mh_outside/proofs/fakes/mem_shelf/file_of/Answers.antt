use Rattle.std.proofs.Common.{◌≡◌, arith, ◌∙◌, ap, sym, false}
use Rattle.std.specs.Str.{bytes_eq}
use Rattle.mh_outside.proofs.Consumes.{file_skip}
use Rattle.mh_outside.proofs.fakes.mem_shelf.file_of.Goals as goal

pub loop-rest-preserved : goal.loop-rest-preserved
loop-rest-preserved c =
    let no : bytes_eq c.args.name.now c.file-item.result.0.items ≡ false = ap (bytes_eq c.args.name.now) (sym c.as_slice.ensures.value) ∙ sym c.eq.ensures ∙ c.if-eq.false in
    file_skip c.loop-rest.rest.now c.args.name.now _ c.file-item.result (omega arith) (omega arith) c.file-item.is no ∙ c.loop-rest.invariant
