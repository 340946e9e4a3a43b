use Rattle.std.proofs.Common.{◌≡◌, ◌<◌, ◌+◌, ℕ, List, length, drop, get_or, refl, ap, sym, ◌∙◌}
use Rattle.std.proofs.lemmas.List.{at_drop_more}
use Rattle.clap.specs.Words.{App, Rule, Text, app_of, rule_of, with_rule}
use Rattle.mh_opts.specs.declared.jobs.Opt.{Opt}
use Rattle.mh_opts.specs.App.{option_rule, plain, plain_rows, with_options}
use Rattle.mh_opts.proofs.command.with_all.Goals as goal

-- If the options from index i on are still to be added to the command, then those from index i + 1 on are still to be
-- added after option i was added.
one_more : {N : Type 0} (options : List (Opt N)) (text : N → Text) (i : ℕ) (d : Opt N) (old new whole : App) (rule : Rule) → i < length options → new ≡ with_rule old rule → rule ≡ option_rule (plain (get_or options i d) text)
    → with_options (plain_rows (drop i options) text) old ≡ whole → with_options (plain_rows (drop (i + 1) options) text) new ≡ whole
one_more {N} options text i d old new whole rule lt is by so_far =
    ap (with_options (plain_rows (drop (i + 1) options) text)) (is ∙ ap (with_rule old) by)
    ∙ sym (at_drop_more (λ (rows : List (Opt N)). with_options (plain_rows rows text) old) options i d lt)
    ∙ so_far

pub loop-option-init : goal.loop-option-init
loop-option-init c = refl

pub loop-option-preserved : goal.loop-option-preserved
loop-option-preserved c =
    one_more c.args.options.now (λ name. name.now) c.loop-option.option-index _ (app_of c.loop-option.command) (app_of c.in_ok-command.command) _ (rule_of c.argument.result) c.loop-option-test.true
    (c.in_ok-command.ensures.shape c.argument.ensures.local) c.argument.ensures.rule c.loop-option.invariant
