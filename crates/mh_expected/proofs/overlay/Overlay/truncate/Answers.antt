use Rattle.std.proofs.Common.{◌≡◌, ◌≤◌, ℕ, List, ◌++◌, take, ap, ◌∙◌, arith}
use Rattle.mh_expected.specs.code.Overlaid.{Overlaid}
use Rattle.mh_expected.proofs.OverlayStates.{fewer_own}
use Rattle.mh_expected.proofs.overlay.Overlay.truncate.Goals as goal

pub returns : goal.returns
returns c =
    let s = c.self.inside in
    let le : s.kept ≤ c.args.len = omega (arith, c.if-len-self.false) in
    ap (λ (l : List ℕ). record { base = s.base.now; stack = l }) (ap (λ (l : List ℕ). take s.kept s.base.now ++ l) c.truncate.ensures.items ∙ fewer_own s.base.now s.above.items s.kept c.self.invariant c.args.len le)
    ∙ ap (λ (o : Overlaid). record { base = o.base; stack = take c.args.len o.stack }) c.self.view_is
