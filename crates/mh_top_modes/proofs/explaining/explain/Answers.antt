use Rattle.std.proofs.Common.{◌≡◌, ◌<◌, ◌^◌, [], ℕ, List, length, ap, arith, refl, rules, subst, sym}
use Rattle.mh_top_plans.specs.Plan.{Explains}
use Rattle.mh_top_modes.proofs.explaining.explain.Goals as goal

short : (line : List ℕ) → line ≡ [] → length line < 2 ^ 32
short line is = subst (λ (l : List ℕ). length l < 2 ^ 32) (sym is) (omega arith)

pub returns-clause-ran : goal.returns-clause-ran
returns-clause-ran g c =
    let p = c.args.prepared.now in
    c.drive.ensures.ran (Explains p []) (c.requires.few, c.requires.consistent, short c.new.result c.new.ensures, ap (Explains p) (sym c.new.ensures))
