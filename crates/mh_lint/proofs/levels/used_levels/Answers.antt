use Rattle.std.proofs.Common.{subst, sym, ◌∙◌}
use Rattle.std.specs.HashMap.{get}
use Rattle.std.proofs.lemmas.Bool.{false≢true}
use Rattle.mh_grammar.proofs.Lists.{contains_none}
use Rattle.mh_join_names.specs.Names.{same}
use Rattle.mh_lint.specs.code.Uses.{HasPlace}
use Rattle.mh_lint.proofs.AreUsedLevels.{are_used}
use Rattle.mh_lint.proofs.levels.used_levels.Goals as goal

pub returns : goal.returns
returns c =
    are_used (λ a. get same c.args.names.now.aliases a) c.args.read.now c.args.names.now.tokens.keys c.args.sources.now c.args.compared.now.tokens.items _ c.new-used.result c.put_tokens.new.self c.put_sources.new.self c.put_files.new.self
    (λ x e. false≢true (sym (c.new-used.ensures.names x) ∙ e))
    (λ file n there. contains_none (record { file = file; index = n }) (subst (λ keys. HasPlace keys file n) c.new-used.ensures.alternatives there))
    (rw (c.as_slice-tokens.ensures, c.as_slice.ensures.value) at c.in_ok-put_tokens.ensures)
    (rw (c.as_slice-tokens.ensures, c.flags_from-productions.ensures, c.as_slice-2.ensures.value) at c.in_ok-put_sources.ensures)
    c.in_ok-put_files.ensures
