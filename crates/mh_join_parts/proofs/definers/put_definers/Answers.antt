use Rattle.std.proofs.Common.{ℕ, ◌+◌, ap, ◌∙◌, arith}
use Rattle.std.specs.Prelude.{◌&&◌, ◌||◌, ◌==◌, not}
use Rattle.mh_rules.specs.declared.modules.Module.{Module}
use Rattle.mh_join_names.specs.Names.{defines}
use Rattle.mh_join_names.proofs.Lists.{any_enum_more}
use Rattle.mh_join_parts.proofs.definers.put_definers.Goals as goal

pub loop-at-preserved : goal.loop-at-preserved
loop-at-preserved c =
    let e = rw c.as_slice.ensures at c.in_ok-add_definers.ensures in
    let i = c.loop-at.at in let file = c.index-files-at.result in
    λ k x. e.elsewhere k x ∙ ap (λ b. b || (not (i + 1 == k) && defines file x)) (c.loop-at.invariant k x)
    ∙ any_enum_more (λ (f : ℕ × Module). not (f.0 == k) && defines f.1 x) 1 c.args.files.now i (i + 1) file c.loop-at-test.true c.index-files-at.is (omega arith)
