use Rattle.std.proofs.Common.{◌≡◌, List, Bool, ap, arith, length, subst, sym, ◌∙◌}
use Rattle.std.specs.HashMap.{get}
use Rattle.mh_join_names.specs.Names.{same}
use Rattle.mh_lint_states.specs.code.Marks.{AreMarked, Marks}
use Rattle.mh_lint.specs.code.Uses.{IsTokenInUse}
use Rattle.mh_lint.proofs.NamedTokens.{IsNamed, in_use}
use Rattle.mh_lint.proofs.UsedTokens.{slice_written}
use Rattle.mh_lint.proofs.warning_walk.tokens_in_use.Goals as goal

pub mark_names-requires : goal.mark_names-requires
mark_names-requires c = ap length c.deref_mut.ensures.value ∙ c.in_ok-used.ensures.len ∙ sym c.requires.tokens ∙ sym (ap length c.as_slice.ensures)

pub returns-clause-len : goal.returns-clause-len
returns-clause-len c =
    let old = c.in_ok-used.used.items in
    let new = c.mark_names.new.used in
    let marks : Marks (IsNamed c.args.files.now.names.tokens.keys c.in_ok-named.named) old new = rw (c.as_slice.ensures, c.deref_mut.ensures.value) at c.mark_names.ensures in
    let len : length old ≡ c.in_ok-used.used.len = (let o = c.in_ok-used.used.ok in omega (arith, o.0)) in
    ap length (slice_written c.in_ok-used.used.len old new marks.len len) ∙ marks.len ∙ c.in_ok-used.ensures.len ∙ sym c.requires.tokens

pub returns-clause-used : goal.returns-clause-used
returns-clause-used c = λ found split.
    let old = c.in_ok-used.used.items in
    let new = c.mark_names.new.used in
    let marks : Marks (IsNamed c.args.files.now.names.tokens.keys c.in_ok-named.named) old new = rw (c.as_slice.ensures, c.deref_mut.ensures.value) at c.mark_names.ensures in
    let len : length old ≡ c.in_ok-used.used.len = (let o = c.in_ok-used.used.ok in omega (arith, o.0)) in
    let Is = IsTokenInUse c.args.files.now.joined c.args.files.now.names.tokens.keys (λ a. get same c.args.files.now.names.aliases a) found in
    subst (λ (ys : List Bool). AreMarked Is ys) (sym (slice_written c.in_ok-used.used.len old new marks.len len))
    (in_use c.args.files.now.names.tokens.keys c.in_ok-named.named c.args.files.now.joined (λ a. get same c.args.files.now.names.aliases a) found old new c.in_ok-used.ensures.used (c.in_ok-named.ensures found split) marks)
